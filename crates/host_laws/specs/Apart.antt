-- What is reported to one session, whatever others' interpreters do.
use Rattle.std.specs.Prelude.{◌≡◌, ◌+◌, ℕ, List, [], ◌∷◌, ◌++◌, length, drop, map, Bool, true, false, None, Option, Some, if◌then◌else◌}
use Rattle.std.specs.Str.{bytes_eq}
use Rattle.std.specs.List.{AllByRecursion}
use Rattle.worksheet.specs.declared.op.Op.{Op}
use Rattle.worksheet.specs.declared.op.Op.TheVariants as op
use Rattle.worksheet.specs.declared.field.Field.{Field}
use Rattle.worksheet.specs.Contents.{Contents}
use Rattle.worksheet.specs.Checks.{Allowed}
use Rattle.host_events.specs.declared.command.Command.TheVariants as command
use Rattle.host_events.specs.declared.event.Event.{Event}
use Rattle.host_events.specs.declared.event.Event.TheVariants as event
use Rattle.host_events.specs.declared.outcome.Outcome.{Outcome}
use Rattle.host_events.specs.declared.outcome.Effect.{Effect}
use Rattle.host_events.specs.declared.outcome.Effect.TheVariants as effect
use Rattle.host_events.specs.declared.reply.Reply.{Reply}
use Rattle.host_events.specs.declared.reply.Reply.TheVariants as reply
use Rattle.session_engine.specs.World.{World, Going, life_of, session_of_field, sheet_in}
use Rattle.session_engine.specs.Does.{Gives, Runs}

-- a command, or an event of this session's child
abbrev pub is_kept : List ℕ → Event → Bool
is_kept name (event.Command c) = true
is_kept name (event.Child other number e) = bytes_eq other name

-- the merged list of all commands and of this session's child events
abbrev pub kept : List ℕ → List Event → List Event
kept name [] = []
kept name (e ∷ es) = if is_kept name e then e ∷ kept name es else kept name es

-- whether an event is of this session: its child's, a command about it, or one about no life
abbrev pub concerns : List ℕ → World → Event → Bool
concerns name w (event.Child other number e) = bytes_eq other name
concerns name w (event.Command (command.Session other tab words)) = true
concerns name w (event.Command (command.New place session input)) = true
concerns name w (event.Command (command.Set id input)) = true
concerns name w (event.Command (command.Remove id)) = true
concerns name w (event.Command (command.Move id place)) = true
concerns name w (event.Command (command.Clear id)) = true
concerns name w (event.Command (command.Eval id)) = bytes_eq (session_of_field w id) name
concerns name w (event.Command (command.Complete id cursor)) = bytes_eq (session_of_field w id) name
concerns name w (event.Command (command.CompleteText id cursor text)) = bytes_eq (session_of_field w id) name
concerns name w (event.Command (command.Stop other)) = bytes_eq other name
concerns name w (event.Command command.Checkpoint) = true

-- the number that a life of this session begins with, where none goes on
abbrev pub number_if : Bool → Option Going → ℕ → List ℕ
number_if true None number = number ∷ []
number_if true (Some l) number = []
number_if false l number = []

-- the number of the life of this session that an event begins
abbrev pub begins : List ℕ → World → Event → List ℕ
begins name w (event.Child other number e) = []
begins name w (event.Command (command.Session other tab words)) = []
begins name w (event.Command (command.New place session input)) = []
begins name w (event.Command (command.Set id input)) = []
begins name w (event.Command (command.Remove id)) = []
begins name w (event.Command (command.Move id place)) = []
begins name w (event.Command (command.Clear id)) = []
begins name w (event.Command (command.Eval id)) = number_if (bytes_eq (session_of_field w id) name) (life_of w name) (w.begun + 1)
begins name w (event.Command (command.Complete id cursor)) = number_if (bytes_eq (session_of_field w id) name) (life_of w name) (w.begun + 1)
begins name w (event.Command (command.CompleteText id cursor text)) = number_if (bytes_eq (session_of_field w id) name) (life_of w name) (w.begun + 1)
begins name w (event.Command (command.Stop other)) = []
begins name w (event.Command command.Checkpoint) = []

-- the numbers of this session's lives that begin in a history
abbrev pub life_numbers : List ℕ → (w : World) (es : List Event) (os : List Outcome) (v : World) → Runs w es os v → List ℕ
life_numbers name w [] [] v run = []
life_numbers name w (e ∷ es) (o ∷ os) v run = begins name w e ++ life_numbers name run.0 es os v run.2
life_numbers name w [] (o ∷ os) v run = []
life_numbers name w (e ∷ es) [] v run = []

abbrev pub is_refusal_reply : Reply → Bool
is_refusal_reply reply.Done = false
is_refusal_reply (reply.Field id) = false
is_refusal_reply (reply.Asked number) = false
is_refusal_reply (reply.Refused r) = true
is_refusal_reply (reply.Child c) = false
is_refusal_reply reply.Nothing = false

-- no event was answered by a refusal
abbrev pub NoneRefused : List Outcome → Type 0
NoneRefused os = AllByRecursion (λ o. is_refusal_reply o.reply ≡ false) os

-- What is reported of an event: what it gave, where it is of the session, and the ops that it added.
pub record Reported : Type 0 where
  pub event : Event
  pub outcome : Option Outcome
  pub ops : List Op

-- an op that isn't the reason of a lost line
abbrev pub is_no_reason : Op → Bool
is_no_reason (op.Session name tab words) = true
is_no_reason (op.New after session input) = true
is_no_reason (op.Set id input) = true
is_no_reason (op.Remove id) = true
is_no_reason (op.Move id after) = true
is_no_reason (op.Clear id) = true
is_no_reason (op.Answer id prompt output) = true
is_no_reason (op.Lost id reason) = false
is_no_reason (op.Ids number) = true

abbrev pub but_reasons : List Op → List Op
but_reasons [] = []
but_reasons (o ∷ os) = if is_no_reason o then o ∷ but_reasons os else but_reasons os

-- the ops between two worlds of a history, but reasons
abbrev pub added : World → World → List Op
added w v = but_reasons (drop (length w.ops) v.ops)

abbrev pub reported_to : List ℕ → World → Event → Outcome → World → Reported
reported_to name w e o v = record { event = e; outcome = if concerns name w e then Some o else None; ops = added w v }

-- What a history tells of its commands and of this session's child events, one by one. The ops of the child events are the
-- session's answers. Nothing is said of reasons: whether a field keeps one hangs on the room of the journal.
abbrev pub session_tells : List ℕ → (w : World) (es : List Event) (os : List Outcome) (v : World) → Runs w es os v → List Reported
session_tells name w [] [] v run = []
session_tells name w (e ∷ es) (o ∷ os) v run = if is_kept name e then reported_to name w e o run.0 ∷ session_tells name run.0 es os v run.2 else session_tells name run.0 es os v run.2
session_tells name w [] (o ∷ os) v run = []
session_tells name w (e ∷ es) [] v run = []

-- an op that is neither an answer nor a reason
abbrev pub is_commanded : Op → Bool
is_commanded (op.Session name tab words) = true
is_commanded (op.New after session input) = true
is_commanded (op.Set id input) = true
is_commanded (op.Remove id) = true
is_commanded (op.Move id after) = true
is_commanded (op.Clear id) = true
is_commanded (op.Answer id prompt output) = false
is_commanded (op.Lost id reason) = false
is_commanded (op.Ids number) = true

abbrev pub commanded : List Op → List Op
commanded [] = []
commanded (o ∷ os) = if is_commanded o then o ∷ commanded os else commanded os

-- the lives of this session that go on: one or none
abbrev pub named : List ℕ → List Going → List Going
named name [] = []
named name (l ∷ ls) = if bytes_eq l.name name then l ∷ named name ls else named name ls

-- Two worlds are alike for a session: they have the same ops but answers and reasons, and the same life of the session. The lives of others,
-- the numbers given out, and the room of the journal and its end are left out.
pub record AreAlike (name : List ℕ) (w x : World) : Type 0 where
  pub ops : commanded w.ops ≡ commanded x.ops
  pub lives : named name w.lives ≡ named name x.lives

-- Two histories from worlds alike for a session, without refusals, that agree in the merged list of all commands and this session's
-- child events, and in the numbers of its lives, tell it the same, and lead to worlds alike for it.
abbrev pub SessionsAreIndependent : Type 0
SessionsAreIndependent = (name : List ℕ) (w x : World) (es fs : List Event) (os ps : List Outcome) (v u : World) → AreAlike name w x
    → (run : Runs w es os v) (other : Runs x fs ps u) → NoneRefused os → NoneRefused ps
    → kept name es ≡ kept name fs → life_numbers name w es os v run ≡ life_numbers name x fs ps u other
    → (session_tells name w es os v run ≡ session_tells name x fs ps u other) × AreAlike name v u

-- a field as a session sees it: without a reason, and without an answer where it is another session's
abbrev pub seen_by : List ℕ → Field → Field
seen_by name f = if bytes_eq f.session name then record f { lost = None } else record f { answer = None; lost = None }

-- Two worksheets look alike to a session: they are the same but for reasons, and for answers of other sessions' fields.
pub record LookAlike (name : List ℕ) (a b : Contents) : Type 0 where
  pub fields : map (seen_by name) a.fields ≡ map (seen_by name) b.fields
  pub sessions : a.sessions ≡ b.sessions
  pub next : a.next ≡ b.next

-- no life goes on yet, and the ops are those of a worksheet
abbrev pub IsOpened : World → Type 0
IsOpened w = (w.lives ≡ []) × Allowed w.ops

-- Two such histories from one list of ops, before any life goes on, lead to worksheets that look alike to the session.
abbrev pub SessionsSeeTheirOwn : Type 0
SessionsSeeTheirOwn = (name : List ℕ) (w x : World) (es fs : List Event) (os ps : List Outcome) (v u : World) → IsOpened w → IsOpened x → w.ops ≡ x.ops
    → (run : Runs w es os v) (other : Runs x fs ps u) → NoneRefused os → NoneRefused ps
    → kept name es ≡ kept name fs → life_numbers name w es os v run ≡ life_numbers name x fs ps u other
    → (session_tells name w es os v run ≡ session_tells name x fs ps u other) × LookAlike name (sheet_in v) (sheet_in u)

-- a reply tells of a life of this session
abbrev pub is_reported : List ℕ → Reply → Bool
is_reported name reply.Done = false
is_reported name (reply.Field id) = false
is_reported name (reply.Asked number) = false
is_reported name (reply.Refused r) = false
is_reported name (reply.Child c) = bytes_eq c.name name
is_reported name reply.Nothing = false

-- an effect is on a child of this session
abbrev pub is_on : List ℕ → Option Effect → Bool
is_on name None = false
is_on name (Some (effect.Start other number words)) = bytes_eq other name
is_on name (Some (effect.Send other number bytes)) = bytes_eq other name
is_on name (Some (effect.Kill other number)) = bytes_eq other name

-- An event that isn't of the session tells nothing of its lives, and has no effect on its child.
abbrev pub OthersAreSilent : Type 0
OthersAreSilent = (name : List ℕ) (w : World) (e : Event) (o : Outcome) (v : World) → Gives w e o v → concerns name w e ≡ false
    → (is_reported name o.reply ≡ false) × (is_on name o.effect ≡ false)
