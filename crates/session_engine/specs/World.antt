-- Where a list of events leads a host that was opened on a worksheet. (docs/dev/HOST.md, "The world".)
use Rattle.std.specs.Prelude.{ℕ, ◌+◌, ◌==◌, ◌&&◌, nat_le, List, [], ◌∷◌, ◌++◌, length, map, Bool, true, false, Option, Some, None, option_and_then, if◌then◌else◌}
use Rattle.std.specs.List.{list_any}
use Rattle.std.specs.Option.{option_map_or}
use Rattle.block_tree.specs.declared.reason.Reason.{Reason}
use Rattle.meta_format.specs.Stream.{Outer}
use Rattle.worksheet.specs.declared.op.Op.{Op}
use Rattle.worksheet.specs.declared.op.Op.TheVariants as op
use Rattle.worksheet.specs.Contents.{Contents}
use Rattle.worksheet.specs.Ops.{sheet_of}
use Rattle.worksheet.specs.Checks.{field_in}
use Rattle.worksheet.specs.Rewrite.{rewrite_of}
use Rattle.journal.specs.Area.{end_of}
use Rattle.journal.specs.Limits.{longest_payload}
use Rattle.recovery.specs.Code.{code_of}
use Rattle.plugin_core.specs.declared.item.Item.{Item}
use Rattle.plugin_core.specs.Past.{Event as LifeEvent}
use Rattle.plugin_core.specs.Items.{waiting_of, first_line_of, is_line_of}
use Rattle.session_engine.specs.Named.{first_named}

-- A life that goes on: the name of its session, its number, all that has happened to it, and the outer blocks of its stream.
pub record Going : Type 0 where
  pub name : List ℕ
  pub number : ℕ
  pub past : List LifeEvent
  pub blocks : List Outer

-- Where events have led: the ops, those found on the disk at opening first; how many lives have begun; the lives that go on;
-- the greatest length of the journal, and the offset where its payloads end.
pub record World : Type 0 where
  pub ops : List Op
  pub begun : ℕ
  pub lives : List Going
  pub room : ℕ
  pub end : ℕ

-- the world at opening: no life goes on, and none has a number
abbrev pub world_at_opening : List Op → ℕ → ℕ → World
world_at_opening ops room end = record { ops = ops; begun = 0; lives = []; room = room; end = end }

-- the worksheet of its ops
abbrev pub sheet_in : World → Contents
sheet_in w = sheet_of w.ops

-- the life of a session that goes on
abbrev pub life_of : World → List ℕ → Option Going
life_of w name = first_named (λ l. l.name) name w.lives

-- this life, if there is one and it has this number
abbrev pub with_number : ℕ → Option Going → Option Going
with_number number None = None
with_number number (Some l) = if l.number == number then Some l else None

-- the items of a life without an answer, in order
abbrev pub waiting_in : Going → List Item
waiting_in l = waiting_of l.past l.blocks

-- a field is in flight where its line waits in a life that goes on
abbrev pub in_flight : World → ℕ → Bool
in_flight w id = list_any (λ l. list_any (λ i. is_line_of id i) (waiting_in l)) w.lives

-- the session of the field with this number, and no bytes where there is no such field
abbrev pub session_of_field : World → ℕ → List ℕ
session_of_field w id = option_map_or (λ f. f.session) (field_in (sheet_in w).fields id) []

-- the input of the field with this number, and no bytes where there is no such field
abbrev pub input_of : World → ℕ → List ℕ
input_of w id = option_map_or (λ f. f.input) (field_in (sheet_in w).fields id) []

-- the payload of an op fits after an end of the journal, with its record's 5 bytes and the next gate
abbrev pub fits_in : ℕ → ℕ → Op → Bool
fits_in room end o = nat_le (length (code_of o)) longest_payload && nat_le (end + 5 + length (code_of o) + 1) room

-- where the payloads of the ops that make a worksheet again end
abbrev pub end_again : Contents → ℕ
end_again sheet = end_of (map code_of (rewrite_of sheet))

-- The op of the end of a life which leaves these items without an answer: where the first of them is a line, its field keeps the
-- reason, if there is room for that. The others keep none.
abbrev pub kept_in : ℕ → ℕ → Reason → List Item → Option Op
kept_in room end why items = option_and_then (λ id. if fits_in room end (op.Lost id why) then Some (op.Lost id why) else None) (first_line_of items)

-- the op of the end of a life that goes on, where one does and it ends now
abbrev pub kept_at_end : World → Reason → Option Going → Option Op
kept_at_end w why life = option_and_then (λ l. kept_in w.room w.end why (waiting_in l)) life

-- the world with an op more, if there is one: it is in the worksheet, and its payload after the journal's end
abbrev pub with_op_if : Option Op → World → World
with_op_if None w = w
with_op_if (Some o) w = record w { ops = w.ops ++ o ∷ []; end = w.end + 5 + length (code_of o) }

-- the world with its journal rewritten, if it is: the worksheet and its ops are what they were, and the payloads end elsewhere
abbrev pub renewed_if : Bool → World → World
renewed_if false w = w
renewed_if true w = record w { end = end_again (sheet_in w) }
