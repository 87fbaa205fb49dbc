-- Names for parts of definitions, which proofs and private clauses use.
use Rattle.std.specs.Prelude.{ℕ, ◌+◌, ◌&&◌, nat_le, not, List, [], ◌∷◌, ◌++◌, length, map, Bool, true, false, Option, Some, None, is_none, option_and_then, if◌then◌else◌}
use Rattle.std.specs.List.{list_any}
use Rattle.std.specs.Option.{option_map_or}
use Rattle.meta_format.specs.Stream.{Outer}
use Rattle.worksheet.specs.declared.op.Op.{Op}
use Rattle.worksheet.specs.declared.field.Field.{Field}
use Rattle.worksheet.specs.declared.field.Session.{Session}
use Rattle.worksheet.specs.declared.refusal.Refusal.{Refusal}
use Rattle.worksheet.specs.declared.refusal.Refusal.TheVariants as refusal
use Rattle.worksheet.specs.Contents.{Contents}
use Rattle.worksheet.specs.Rewrite.{rewrite_of}
use Rattle.recovery.specs.Code.{code_of}
use Rattle.plugin_core.specs.declared.item.Item.{Item}
use Rattle.plugin_core.specs.declared.item.Item.TheVariants as item
use Rattle.plugin_core.specs.declared.step.Step.{Step}
use Rattle.plugin_core.specs.declared.step.Ended.{Ended}
use Rattle.plugin_core.specs.Past.{accepted, received}
use Rattle.plugin_core.specs.Items.{is_line_of}
use Rattle.session_engine.specs.Limits.{most_lives}
use Rattle.session_engine.specs.Named.{without_named, replace_named}
use Rattle.host_events.specs.declared.outcome.Outcome.{Outcome}
use Rattle.host_events.specs.declared.reply.Reply.TheVariants as reply
use Rattle.session_engine.specs.World.{World, Going, waiting_in, sheet_in, input_of, fits_in, end_again, kept_in}
use Rattle.session_engine.specs.Does.{Does, replies, closed_reported, reported_with}

-- the line of this field waits in one of these lives
abbrev pub waits_in : List Going → ℕ → Bool
waits_in lives id = list_any (λ l. list_any (λ i. is_line_of id i) (waiting_in l)) lives

-- by cases on a field that there may be
abbrev pub by_field : {T : Type 0} → Option Field → T → (Field → T) → T
by_field field none some = option_map_or some field none

-- the item of an evaluation: the field's line, with its input at this moment
abbrev pub line_of_field : World → ℕ → Item
line_of_field w id = item.Line id (input_of w id)

-- the item of a request of completions at a cursor: the field's input at this moment
abbrev pub request_of_field : World → ℕ → ℕ → Item
request_of_field w id cursor = item.Complete id (input_of w id) cursor

-- the payload of an op fits after the world's end
abbrev pub fits : World → Op → Bool
fits w o = fits_in w.room w.end o

-- the op, where it fits there
abbrev pub if_fits : ℕ → ℕ → Op → Option Op
if_fits room end o = if fits_in room end o then Some o else None

-- the payloads of the ops that make a worksheet again
abbrev pub codes_again : Contents → List (List ℕ)
codes_again sheet = map code_of (rewrite_of sheet)

-- an area of so many bytes has room for a journal that makes the worksheet again
abbrev pub fits_again_in : ℕ → Contents → Bool
fits_again_in room sheet = nat_le (end_again sheet + 1) room

abbrev pub fits_again : World → Bool
fits_again w = fits_again_in w.room (sheet_in w)

-- an op more: it is in the worksheet, and its payload after the journal's end
abbrev pub with_op : Op → World → World
with_op o w = record w { ops = w.ops ++ o ∷ []; end = w.end + 5 + length (code_of o) }

-- the journal is rewritten
abbrev pub renewed : World → World
renewed w = record w { end = end_again (sheet_in w) }

-- the op of the end that a piece brings
abbrev pub op_of_end : ℕ → ℕ → Option Ended → Option Op
op_of_end room end end_brought = option_and_then (λ e. kept_in room end e.reason e.lost) end_brought

abbrev pub reported_of : Going → Step → Outcome
reported_of l s = reported_with l.name l.number (closed_reported s.answered) s.default_input s.send s.ended

-- a life in place of what it was
abbrev pub put_back : Going → List Going → List Going
put_back l lives = replace_named (λ g. g.name) l.name l lives

abbrev pub taken_out : List ℕ → List Going → List Going
taken_out name lives = without_named (λ g. g.name) name lives

-- a life that begins with an item
abbrev pub begun_with : World → List ℕ → Item → Going
begun_with w name i = record { name = name; number = w.begun + 1; past = accepted i ∷ []; blocks = [] }

-- a life with an item more
abbrev pub joined_by : Going → Item → Going
joined_by l i = record l { past = l.past ++ accepted i ∷ [] }

-- a life with a piece more, where these are the blocks of its stream then
abbrev pub with_piece : Going → List ℕ → List Outer → Going
with_piece l piece blocks = record l { past = l.past ++ received piece ∷ []; blocks = blocks }

-- only the journal changes: it is rewritten
abbrev pub renews : World → Does
renews w = record { reported = replies reply.Done; op = None; again = true; begun = w.begun; lives = w.lives }

-- the words that a session's interpreter is started with
abbrev pub starting_words : Option Session → List (List ℕ)
starting_words session = option_map_or (λ s. s.words) session []

-- the payload of the op doesn't fit
abbrev pub full : World → Op → Refusal × Bool
full w o = (refusal.JournalFull, not (fits w o))

-- no life goes on, and so many have begun that none can begin
abbrev pub lives_are_spent : ℕ → Option Going → Bool
lives_are_spent begun life = is_none life && nat_le most_lives begun

-- the interpreter of a session answers requests of completions
abbrev pub takes_tab : Option Session → Bool
takes_tab session = option_map_or (λ s. s.tab) session false
