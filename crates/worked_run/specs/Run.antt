-- A run of six events with a crash in the fourth. (docs/trust/WORKED_RUN.md.)
use Rattle.std.specs.Prelude.{◌≡◌, ◌≢◌, ◌⊎◌, ℕ, false, List, [], ◌∷◌, ◌++◌, take, get_or, codes, Option, Some, None}
use Rattle.block_tree.specs.Tree.{Tree, end, text}
use Rattle.disk_model.specs.Disk.{greatest_room, Written, DiskState, Image, IsImage, Leaves, overwritten}
use Rattle.worksheet.specs.declared.op.Op.{Op}
use Rattle.worksheet.specs.declared.op.Op.TheVariants as op
use Rattle.worksheet.specs.declared.field.Answer.{Answer}
use Rattle.worksheet.specs.declared.field.Field.{Field}
use Rattle.worksheet.specs.Ops.{sheet_of}
use Rattle.worksheet.specs.Checks.{Allowed}
use Rattle.journal.specs.Area.{header, names_first, records, closed_gate, open_gate}
use Rattle.recovery.specs.Sheets.{codes_of, IsSheetImage}
use Rattle.host_events.specs.declared.command.Command.TheVariants as command
use Rattle.host_events.specs.declared.event.ChildEvent.TheVariants as child
use Rattle.host_events.specs.declared.event.Event.{Event}
use Rattle.host_events.specs.declared.event.Event.TheVariants as event
use Rattle.host_events.specs.declared.outcome.Effect.TheVariants as effect
use Rattle.host_events.specs.declared.outcome.Outcome.{Outcome}
use Rattle.host_events.specs.declared.reply.Closed.{Closed}
use Rattle.host_events.specs.declared.reply.Closed.TheVariants as closed
use Rattle.host_events.specs.declared.reply.Reply.{Reply}
use Rattle.host_events.specs.declared.reply.Reply.TheVariants as reply
use Rattle.session_engine.specs.World.{World, world_at_opening}
use Rattle.session_engine.specs.Does.{Runs}
use Rattle.session_engine.specs.Host.{EndsAt}

-- The events.

-- the name of the one session
abbrev pub name_a : List ℕ
name_a = codes "a"

-- the input of its field
abbrev pub line_x : List ℕ
line_x = codes "x"

-- what the interpreter writes first, with its prompt
abbrev pub banner_bytes : List ℕ
banner_bytes = 2 ∷ (codes "verbatim:" ++ 2 ∷ (codes "prompt#> " ++ 5 ∷ 5 ∷ []))

-- what it answers to the line
abbrev pub answer_bytes : List ℕ
answer_bytes = 2 ∷ (codes "verbatim:A" ++ 5 ∷ [])

-- the six events that the host is given
abbrev pub six_events : List Event
six_events = event.Command (command.New 0 name_a line_x)
    ∷ event.Command (command.Eval 1)
    ∷ event.Child name_a 1 (child.Piece banner_bytes)
    ∷ event.Child name_a 1 (child.Piece answer_bytes)
    ∷ event.Command (command.Set 1 (codes "y"))
    ∷ event.Command (command.Stop name_a)
    ∷ []

-- a block `verbatim` with this text
abbrev pub verbatim_of : List ℕ → Tree
verbatim_of t = record { channel = false; name = codes "verbatim"; items = text t end }

-- a block `verbatim` without a text
abbrev pub no_text : Tree
no_text = record { channel = false; name = codes "verbatim"; items = end }

-- a reply about what the interpreter closed
abbrev pub reply_closed : Closed → Reply
reply_closed c = reply.Child (record { name = name_a; life = 1; closed = Some c; default_input = None; ended = None })

-- the outcomes of the first three events, which are acknowledged when the fourth is given
abbrev pub reported_outcomes : List Outcome
reported_outcomes = record { reply = reply.Field 1; effect = None }
    ∷ record { reply = reply.Asked 1; effect = Some (effect.Start name_a 1 (codes "sh" ∷ [])) }
    ∷ record { reply = reply_closed (closed.Banner no_text); effect = Some (effect.Send name_a 1 (line_x ++ 10 ∷ [])) }
    ∷ []

-- the outcome of the fourth, which nobody sees where the machine stops within it
abbrev pub lost_outcome : Outcome
lost_outcome = record { reply = reply_closed (closed.Line 1); effect = None }

-- The ops.

-- the ops found at the opening: the session `a` with the word `sh`
abbrev pub opened_ops : List Op
opened_ops = op.Session name_a false (codes "sh" ∷ []) ∷ []

-- the ops after three events
abbrev pub without_answer : List Op
without_answer = op.Session name_a false (codes "sh" ∷ []) ∷ op.New 0 name_a line_x ∷ op.Clear 1 ∷ []

-- the ops after four events
abbrev pub with_answer : List Op
with_answer = op.Session name_a false (codes "sh" ∷ []) ∷ op.New 0 name_a line_x ∷ op.Clear 1 ∷ op.Answer 1 (codes "> ") (verbatim_of (codes "A")) ∷ []

-- The bytes of area First. Area Second is empty, and stays so.

-- an image with these bytes in area First
abbrev pub only_first : List ℕ → Image
only_first first = record { first = first; second = [] }

-- area First at the opening: 25 bytes, whose last is the closed gate
abbrev pub bytes_found : List ℕ
bytes_found = 84 ∷ 77 ∷ 87 ∷ 83 ∷ 72 ∷ 69 ∷ 69 ∷ 84 ∷ 1 ∷ 65 ∷ 82 ∷ 0 ∷ 0 ∷ 0 ∷ 9 ∷ 1 ∷ 1 ∷ 97 ∷ 0 ∷ 1 ∷ 0 ∷ 2 ∷ 115 ∷ 104 ∷ 0 ∷ []

-- area First after three events: 50 bytes
abbrev pub bytes_before : List ℕ
bytes_before = take 24 bytes_found ++ 82 ∷ 0 ∷ 0 ∷ 0 ∷ 10 ∷ 2 ∷ 0 ∷ 0 ∷ 0 ∷ 0 ∷ 1 ∷ 97 ∷ 0 ∷ 1 ∷ 120 ∷ 82 ∷ 0 ∷ 0 ∷ 0 ∷ 5 ∷ 6 ∷ 0 ∷ 0 ∷ 0 ∷ 1 ∷ 0 ∷ []

-- The first write of the fourth event: the length of the payload, the payload, and the next gate, which is closed.
abbrev pub record_write : Written
record_write = record { at = 50; bytes = 0 ∷ 0 ∷ 0 ∷ 21 ∷ 7 ∷ 0 ∷ 0 ∷ 0 ∷ 1 ∷ 0 ∷ 2 ∷ 62 ∷ 32 ∷ 2 ∷ 118 ∷ 101 ∷ 114 ∷ 98 ∷ 97 ∷ 116 ∷ 105 ∷ 109 ∷ 58 ∷ 65 ∷ 5 ∷ 0 ∷ [] }

-- The second write of the fourth event: the gate before that record is opened.
abbrev pub gate_write : Written
gate_write = record { at = 49; bytes = 82 ∷ [] }

-- area First after the first write: 76 bytes
abbrev pub bytes_written : List ℕ
bytes_written = overwritten bytes_before record_write.at record_write.bytes

-- area First after the second write
abbrev pub bytes_after : List ℕ
bytes_after = overwritten bytes_written gate_write.at gate_write.bytes

-- The disk after each of the four calls of the fourth event.

-- a disk, by what a read gives of area First, what its last sync left, and what was written since
abbrev pub disk_with : List ℕ → List ℕ → List Written → DiskState
disk_with content synced writes = record {
  first = record { content = content; synced = synced; writes = writes };
  second = record { content = []; synced = []; writes = [] };
}

-- the disk before the first call
abbrev pub before_all : DiskState
before_all = disk_with bytes_before bytes_before []

-- the disk after the first call, which writes the record
abbrev pub record_written : DiskState
record_written = disk_with bytes_written bytes_before (record_write ∷ [])

-- the disk after the second call, which syncs area First
abbrev pub record_synced : DiskState
record_synced = disk_with bytes_written bytes_written []

-- the disk after the third call, which opens the gate
abbrev pub gate_written : DiskState
gate_written = disk_with bytes_after bytes_written (gate_write ∷ [])

-- the disk after the fourth call, which syncs once more
abbrev pub gate_synced : DiskState
gate_synced = disk_with bytes_after bytes_after []

-- an image of the worksheet without the answer
abbrev pub IsWithout : Image → Type 0
IsWithout i = IsSheetImage (sheet_of without_answer) i

-- an image of the worksheet with the answer
abbrev pub IsWith : Image → Type 0
IsWith i = IsSheetImage (sheet_of with_answer) i

-- the gate at 49 is closed
abbrev pub HasGateShut : Image → Type 0
HasGateShut i = get_or i.first 49 0 ≢ open_gate

-- the gate at 49 is open
abbrev pub HasGateOpen : Image → Type 0
HasGateOpen i = get_or i.first 49 0 ≡ open_gate

-- field 1, which shows this answer or none
abbrev pub field_one : Option Answer → Field
field_one shown = record { id = 1; session = name_a; input = line_x; answer = shown; lost = None }

-- events lead from the opening to these ops, with these outcomes
abbrev pub LeadsTo : List Event → List Outcome → List Op → Type 0
LeadsTo taken outcomes ops = (w : World) × Runs (world_at_opening opened_ops greatest_room 24) taken outcomes w × (w.ops ≡ ops)

-- the bytes of a journal of these ops
abbrev pub journal_of : List Op → List ℕ
journal_of ops = header names_first ++ (records (codes_of ops) ++ closed_gate ∷ [])

-- What the run does, and what is left of it.
pub record WorkedRun : Type 0 where
  -- the bytes are those of the ops
  pub found_is : bytes_found ≡ journal_of opened_ops
  pub before_is : bytes_before ≡ journal_of without_answer
  pub after_is : bytes_after ≡ journal_of with_answer
  -- what the host was opened on
  pub allowed : Allowed opened_ops
  pub opens : IsSheetImage (sheet_of opened_ops) (only_first bytes_found)
  pub ends : EndsAt (only_first bytes_found) 24
  -- what three events do, and four
  pub three : LeadsTo (take 3 six_events) reported_outcomes without_answer
  pub four : LeadsTo (take 4 six_events) (reported_outcomes ++ lost_outcome ∷ []) with_answer
  -- to which worksheet each image opens that a crash may leave after each call on the disk, or within the next
  pub before_calls : Leaves IsWithout before_all
  pub after_write : Leaves IsWithout record_written
  pub after_sync : Leaves IsWithout record_synced
  pub after_gate : Leaves (λ i. (HasGateShut i × IsWithout i) ⊎ (HasGateOpen i × IsWith i)) gate_written
  pub after_all : Leaves IsWith gate_synced
  -- after the write of the gate both may be left
  pub closed_left : IsImage gate_written (only_first bytes_written)
  pub open_left : IsImage gate_written (only_first bytes_after)
  -- all that each of the two has
  pub shows_none : (sheet_of without_answer).fields ≡ field_one None ∷ []
  pub shows_answer : (sheet_of with_answer).fields ≡ field_one (Some (record { prompt = codes "> "; output = verbatim_of (codes "A") })) ∷ []
