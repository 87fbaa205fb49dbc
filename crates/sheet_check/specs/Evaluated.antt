-- How fields of a worksheet are evaluated again, and what they show then. (docs/use/CHECK.md.)
use Rattle.std.specs.Prelude.{ℕ, Bool, true, false, Option, None, not, ◌-◌, is_some}
use Rattle.std.specs.Option.{option_map_or}
use Rattle.block_tree.specs.declared.reason.Reason.{Reason}
use Rattle.worksheet.specs.Checks.{field_in}
use Rattle.worksheet.specs.declared.field.Answer.{Answer}
use Rattle.worksheet.specs.declared.field.Field.{Field}
use Rattle.session_engine.specs.World.{World, life_of, sheet_in}
use Rattle.host_events.specs.declared.outcome.HostFault.TheVariants as hosts
use Rattle.child_edge.specs.Faithful.{Relation}
use Rattle.live.specs.Records.{Clock, Watch}
use Rattle.offline_programs.specs.declared.fault.RunFault.{RunFault}
use Rattle.offline_programs.specs.declared.fault.RunFault.TheVariants as fault
use Rattle.sheet_json.specs.declared.checks.Took.{Took}
use Rattle.check_report.specs.declared.chosen.Chosen.{Chosen}
use Rattle.check_report.specs.declared.report.ReportFormat.{ReportFormat}
use Rattle.check_report.specs.declared.request.Request.{Request}

-- How fields are evaluated again: what may come of the calls on the children, of their clock and of a watch of them, and how many seconds
-- a field may take from when it is asked, where there is a limit.
pub record Way (C : Type 0) : Type 1 where
  pub after : Relation C
  pub clock : Clock C
  pub wakes : Watch C
  pub limit : Option ℕ

abbrev pub way : {C : Type 0} → Relation C → Clock C → Watch C → Option ℕ → Way C
way R K W limit = record { after = R; clock = K; wakes = W; limit = limit }

-- How fields are checked one after another: how they are evaluated, which they are, and how they are reported.
pub record OneByOne (C : Type 0) : Type 1 where
  pub way : Way C
  pub chosen : Chosen
  pub format : ReportFormat

abbrev pub one_by_one : {C : Type 0} → Way C → Chosen → ReportFormat → OneByOne C
one_by_one o chosen F = record { way = o; chosen = chosen; format = F }

-- as a request asks for it
abbrev pub checking_by : {C : Type 0} → Relation C → Clock C → Watch C → Request → OneByOne C
checking_by R K W request = one_by_one (way R K W request.limit) request.chosen request.format

-- the answer that a field shows in a world
abbrev pub shown_in : World → ℕ → Option Answer
shown_in w id = option_map_or (λ field. field.answer) (field_in (sheet_in w).fields id) None

-- the reason that a field shows in a world for no answer
abbrev pub reason_shown_in : World → ℕ → Option Reason
reason_shown_in w id = option_map_or (λ field. field.lost) (field_in (sheet_in w).fields id) None

-- An answer came where the line was asked, and its time wasn't over: the one that the field shows then. Else none came: what it shows is
-- the worksheet's, or came too late.
abbrev pub came_if : Bool → Option Answer → Option Answer
came_if false shown = None
came_if true shown = shown

-- What an evaluation took by what the clock read before it and after it, and whether no interpreter of the field's session was there before.
abbrev pub took_between : World → Field → ℕ → ℕ → Took
took_between w field begun ended = record { millis = ended - begun; started = not (is_some (life_of w field.session)) }

-- The fault of a check by that of a run on its copy, whose disk lies in memory, so that it fails for lack of that alone. Nothing is
-- printed, and what is kept in its place fails where memory is refused.
abbrev pub fault_on_copy : RunFault → RunFault
fault_on_copy (fault.Host hosts.Disk) = fault.OutOfMemory
fault_on_copy (fault.Host hosts.OutOfMemory) = fault.Host hosts.OutOfMemory
fault_on_copy (fault.Host hosts.JournalFull) = fault.Host hosts.JournalFull
fault_on_copy (fault.Host hosts.Closed) = fault.Host hosts.Closed
fault_on_copy fault.OutOfMemory = fault.OutOfMemory
fault_on_copy fault.Input = fault.Input
fault_on_copy fault.InputTooLong = fault.InputTooLong
fault_on_copy fault.Output = fault.OutOfMemory
fault_on_copy (fault.Open why) = fault.Open why
fault_on_copy fault.InUse = fault.InUse
fault_on_copy fault.SecondFile = fault.SecondFile
