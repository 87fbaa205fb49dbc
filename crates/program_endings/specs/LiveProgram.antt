-- How the programs `live`, `run --json` and `run --timeout` end: what becomes of the disk, what is written on which stream, and the exit status.
use Rattle.std.specs.Prelude.{◌≡◌, ◌⊎◌, ℕ, Bool, true, false, List, Option, Result, Ok, Err, IfErr}
use Rattle.std.specs.Io.KnownBytes.{Appends}
use Rattle.disk_model.specs.Disk.{DiskView, SameDisk}
use Rattle.live.specs.declared.manner.Manner.{Manner}
use Rattle.driver.specs.Place.{Rules, SourceRules, rules}
use Rattle.driver.specs.Noted.{PrintedSoFar, noting_rules, printed_so_far}
use Rattle.driver.specs.Over.{Over, program_parts}
use Rattle.driver.specs.TrueFaults.{IsTrueOf}
use Rattle.line_agenda.specs.LinesAt.{LinesAt, first_lines, stopped_at}
use Rattle.line_agenda.specs.LinesRules.{lines_rules}
use Rattle.offline_programs.specs.Saying.{Saying}
use Rattle.offline_programs.specs.declared.fault.RunFault.{RunFault}
use Rattle.offline_programs.specs.declared.fault.RunFault.TheVariants as fault
use Rattle.sheet_files.specs.declared.files_fault.FilesFault.{FilesFault}
use Rattle.tellings.specs.Voice.{IsWithheld, Voice, WroteFront}
use Rattle.tellings.specs.declared.note.Boundary.{Boundary}
use Rattle.tellings.specs.declared.note.Boundary.TheVariants as boundary
use Rattle.program_endings.specs.Ending.{EndsAs}
use Rattle.program_endings.specs.Faults.{no_files}
use Rattle.program_endings.specs.Records.{ProgramPassage, ProgramRun, Writing, run_on, run_since, run_until, text_after, text_before, view_given, writing}
use Rattle.program_endings.specs.StrictProgram.{StrictAnswer, TellsStop, strict_status}
use Rattle.program_endings.specs.declared.ending.Ending.{Ending}

-- How lines are taken, the voice of what is printed, and what the output held while a disk was in which state.
pub record LiveSetting : Type 1 where
  pub manner : Manner
  pub voice : Voice
  pub held : Option (List ℕ) → DiskView → Type 0

abbrev pub live_setting : Manner → Voice → (Option (List ℕ) → DiskView → Type 0) → LiveSetting
live_setting manner voice held = record { manner = manner; voice = voice; held = held }

-- a driver of lines: of its sink is known what was printed, in which state of the disk, and whether all of the last text went out
abbrev pub live_rules : {C : Type 0} → LiveSetting → SourceRules C → Rules LinesAt C PrintedSoFar
live_rules o sources = rules lines_rules sources (noting_rules o.voice o.held)

-- what the program answers after a run: where a strict input stopped, or the fault
abbrev pub answer_after : Result (Unit {0}) RunFault → LinesAt → StrictAnswer
answer_after (Ok done) lines = Ok (stopped_at lines)
answer_after (Err why) lines = Err why

-- What `live` does on a disk, which is closed then, between what stands first and last: the driver ran over it, with the lines of the stream of its
-- reader, where that is known, from before the first of them on. A fault is true of the disk: that it failed is reported only where it did.
pub record LivesOn {D C O : Type 0} (o : LiveSetting) (stream : Option (List ℕ)) (r : ProgramRun D C O) (whole : Bool) (answer : StrictAnswer) : Type 0 where
  pub later : D
  pub closed : r.given.how.closed later
  pub same : SameDisk (view_given r.given) (r.given.how.view later)
  -- where the lines stand at the end, and how the run was answered
  pub lines : LinesAt
  pub run : Result (Unit {0}) RunFault
  pub over : Over (live_rules o r.rules) (program_parts (view_given r.given) r.called.old (printed_so_far (text_before r.wrote) true) (first_lines o.manner stream))
      (program_parts (r.given.how.view later) r.called.new (printed_so_far (text_after r.wrote) whole) lines) run
  pub true_of : IfErr run (λ why. IsTrueOf why (view_given r.given) (r.given.how.view later))
  pub is : answer ≡ answer_after run lines

-- a run prints its own fault last, but where its output failed; that the disk isn't opened is none of a run
abbrev pub is_printed : RunFault → Bool
is_printed fault.Input = true
is_printed fault.InputTooLong = true
is_printed fault.Output = false
is_printed fault.OutOfMemory = true
is_printed (fault.Host why) = true
is_printed (fault.Open why) = false
is_printed fault.InUse = true
is_printed fault.SecondFile = true

-- this frame was written, where the voice has one
abbrev pub Framed : {O : Type 0} → Voice → (O → Option (List ℕ)) → Boundary → O → O → Type 0
Framed V contents f old new = Appends (contents old) (contents new) (V.frame f) × (V.takes_memory ≡ false → new ≡ old)

-- of a text that was tried a beginning was written, and nothing else, where the voice writes in lines
abbrev pub Began : Voice → Option (List ℕ) → Option (List ℕ) → List ℕ → Type 0
Began V old new text = V.in_lines ≡ true → WroteFront false old new text

-- A fault is printed last of all, where the voice has a text for it and the output takes it.
abbrev pub FaultReported : {O : Type 0} → Voice → (O → Option (List ℕ)) → O → O → Bool → RunFault → Type 0
FaultReported V contents old new reported why = (V.takes_memory ≡ false → new ≡ old) × (reported ≡ true → Appends (contents old) (contents new) (V.fault why)) × Began V (contents old) (contents new) (V.fault why)

abbrev pub LastReported : {O T : Type 0} → Voice → (O → Option (List ℕ)) → O → O → Bool → Result T RunFault → Type 0
LastReported V contents old new reported (Ok done) = new ≡ old
LastReported V contents old new reported (Err why) = FaultReported V contents old new reported why

-- Why this frame couldn't be printed, by a voice that takes memory, and what the output is then: where there was no memory, the same as before.
abbrev pub FrameWithheld : {O : Type 0} → Voice → (O → Option (List ℕ)) → Boundary → O → O → RunFault → Type 0
FrameWithheld V contents f old new why = (V.takes_memory ≡ true) × IsWithheld V why × (why ≡ fault.OutOfMemory → new ≡ old) × Began V (contents old) (contents new) (V.frame f)

-- This frame couldn't be printed, and that is the fault, which is printed last.
abbrev pub Unframed : {O : Type 0} → Voice → Boundary → Writing O → Bool → StrictAnswer → Type 0
Unframed {O = O} V f w reported answer =
    (why : RunFault) × (mid : O) × (answer ≡ Err why) × FrameWithheld V w.contents f w.old mid why × FaultReported V w.contents mid w.new reported why

-- after the end of its lines the voice's last message is printed
abbrev pub EndsFramed : {O : Type 0} → Voice → Writing O → Bool → Option ℕ → StrictAnswer → Type 0
EndsFramed V w reported stopped answer = (Framed V w.contents boundary.End w.old w.new × (answer ≡ Ok stopped)) ⊎ Unframed V boundary.End w reported answer

-- a fault was printed last by the run, or it is printed now
abbrev pub FaultedBy : {O : Type 0} → Bool → Voice → Writing O → Bool → Bool → RunFault → Type 0
FaultedBy true V w whole reported why = (w.new ≡ w.old) × (reported ≡ whole)
FaultedBy false V w whole reported why = FaultReported V w.contents w.old w.new reported why

abbrev pub EndsFaulted : {O : Type 0} → Voice → Writing O → Bool → Bool → RunFault → Type 0
EndsFaulted V w whole reported why = FaultedBy (is_printed why) V w whole reported why

-- What stands last after a run that was answered so, of whose last text this is known, and what the program answers then.
abbrev pub LivedEnds : {O : Type 0} → Voice → Writing O → StrictAnswer → Bool → Bool → StrictAnswer → Type 0
LivedEnds V w (Ok stopped) whole reported answer = EndsFramed V w reported stopped answer
LivedEnds V w (Err why) whole reported answer = (answer ≡ Err why) × EndsFaulted V w whole reported why

-- What `live` answers on a disk, what it has written and done then, and whether its last text went out, once it has greeted.
pub data LiveBegun {D C O : Type 0} (o : LiveSetting) (stream : Option (List ℕ)) (r : ProgramRun D C O) (reported : Bool) (answer : StrictAnswer) : Type 0 where
  -- it lived, and printed what stands last
  lived : (last : O) (lived_so : StrictAnswer) (whole : Bool) → LivesOn o stream (run_until r last) whole lived_so
      → LivedEnds o.voice (writing r.wrote.contents last r.wrote.new) lived_so whole reported answer → LiveBegun o stream r reported answer
  -- there was no memory for the lines of its input, and nothing was done but to close the disk
  not_begun : FaultReported o.voice r.wrote.contents r.wrote.old r.wrote.new reported fault.OutOfMemory → answer ≡ Err fault.OutOfMemory → r.called.new ≡ r.called.old
      → r.given.how.closed r.given.disk → LiveBegun o stream r reported answer

-- The same from its greeting on.
pub data LiveAnswer {D C O : Type 0} (o : LiveSetting) (stream : Option (List ℕ)) (r : ProgramRun D C O) (reported : Bool) (answer : StrictAnswer) : Type 0 where
  greeted : (first : O) → Framed o.voice r.wrote.contents boundary.Hello r.wrote.old first → LiveBegun o stream (run_since r first) reported answer → LiveAnswer o stream r reported answer
  -- it couldn't greet, and nothing was done but to close the disk
  ungreeted : Unframed o.voice boundary.Hello r.wrote reported answer → r.called.new ≡ r.called.old → r.given.how.closed r.given.disk → LiveAnswer o stream r reported answer

-- How `live` and `eval` end where their files weren't opened: no child is called, and why is printed last and is a line on the stream of errors.
abbrev pub LiveUnopened : {D C O E : Type 0} → Voice → ProgramPassage D C O → Saying E → Ending → FilesFault → Type 0
LiveUnopened V p e ending why = (p.called.new ≡ p.called.old) × LastReported {T = Bool} V p.wrote.contents p.wrote.old p.wrote.new ending.reported (Err (no_files why))
    × EndsAs e ending (Err (no_files why))

-- How `live` ends on a disk: what it answers, whether its last text went out, and the status. Where a strict input stopped is a line on the
-- stream of errors, as of `run --strict`, and so is a fault.
pub record LiveEnded {D C O E : Type 0} (o : LiveSetting) (stream : Option (List ℕ)) (r : ProgramRun D C O) (e : Saying E) (ending : Ending) : Type 0 where
  pub answer : StrictAnswer
  pub said : Bool
  pub answered : LiveAnswer o stream r said answer
  pub last_said : ending.reported ≡ true → said ≡ true
  pub status : ending.status ≡ strict_status answer
  pub reported : TellsStop e ending.reported answer

-- the same of the disk that was opened
abbrev pub LiveOpened : {D C O E : Type 0} → LiveSetting → Option (List ℕ) → ProgramPassage D C O → Saying E → Ending → D → Type 0
LiveOpened o stream p e ending disk = LiveEnded o stream (run_on p disk) e ending
