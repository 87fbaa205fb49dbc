-- What the driver's run over a disk is as the programs' contracts have it.
use Rattle.std.proofs.Common.{◌≡◌, ◌∙◌, ℕ, Bool, true, List, [], ap, sym, subst}
use Rattle.std.specs.Prelude.{Option, None, Result}
use Rattle.disk_model.specs.Disk.{DiskView, SameDisk}
use Rattle.child_calls.specs.declared.seat.Seat.{Seat}
use Rattle.arrivals.specs.Held.{Held, nothing_held}
use Rattle.arrivals.specs.declared.lines.InputLines.{InputLines}
use Rattle.arrivals.specs.declared.sources.Woken.{Woken}
use Rattle.live.specs.declared.holding.Hold.{Hold}
use Rattle.live.specs.declared.holding.Hold.TheVariants as hold
use Rattle.live.specs.declared.manner.Manner.{Manner}
use Rattle.driver.specs.Place.{AgendaRules, Rules, SourceRules, agenda_rules, rules, action_rules}
use Rattle.driver.specs.Noted.{PrintedSoFar, noting_rules, printed_so_far}
use Rattle.driver.specs.Over.{Over, ProgramParts, program_parts}
use Rattle.driver.proofs.Seen.{over_seen}
use Rattle.driver.proofs.TrueFaults.{over_true}
use Rattle.line_agenda.specs.declared.by_lines.ByLines.{ByLines}
use Rattle.line_agenda.specs.declared.doing.Transaction.{Transaction}
use Rattle.line_agenda.specs.declared.doing.Doing.{Doing}
use Rattle.line_agenda.specs.declared.doing.Doing.TheVariants as doing
use Rattle.line_agenda.specs.Heeds.{LinesHeed}
use Rattle.line_agenda.specs.LinesAt.{LinesAt, first_lines, lines_stand}
use Rattle.line_agenda.specs.LinesRules.{LinesJoin, lines_rules}
use Rattle.line_agenda.specs.Says.{LinesSay, LinesWoken}
use Rattle.line_agenda.proofs.OwnFaults.{own_faults}
use Rattle.offline_programs.specs.declared.fault.RunFault.{RunFault}
use Rattle.sheet_files.specs.Closing.{Closable}
use Rattle.tellings.specs.Voice.{Voice}
use Rattle.program_endings.specs.LiveProgram.{FaultedBy, LiveBegun, LiveSetting, LivedEnds, LivesOn, answer_after, is_printed, live_setting, lived}
use Rattle.program_endings.specs.Records.{GivenDisk, Writing, calling, given_disk, run_of, writing}
use Rattle.program_endings.specs.StrictProgram.{StrictAnswer}

-- An agenda of lines before the first of them.

abbrev made : Held → Option (List ℕ) → Manner → ℕ → Hold → Doing → Option Woken → Option Transaction → List Seat → LinesAt
made buffer remaining manner number held what due transaction late =
    record { buffer = buffer; remaining = remaining; manner = manner; number = number; held = held; doing = what; due = due; transaction = transaction; late = late }

pub before_lines : {I : Type 0} (remaining : I → Option (List ℕ)) (a : ByLines I) (m : Manner) (lines : InputLines I) → a.lines ≡ lines → a.manner ≡ m → a.number ≡ 0 → a.held ≡ hold.Free
    → a.doing ≡ doing.Nothing → a.due ≡ None → a.transaction ≡ None → a.late.items ≡ [] → lines.held ≡ nothing_held → lines_stand remaining a ≡ first_lines m (remaining lines.reader)
before_lines {I = I} remaining a m lines input manner number held what due closed late none =
    ap (λ (x : InputLines I). made x.held (remaining x.reader) a.manner a.number a.held a.doing a.due a.transaction a.late.items) input
    ∙ ap (λ (x : Held). made x (remaining lines.reader) a.manner a.number a.held a.doing a.due a.transaction a.late.items) none
    ∙ ap (λ (x : Manner). made nothing_held (remaining lines.reader) x a.number a.held a.doing a.due a.transaction a.late.items) manner
    ∙ ap (λ (x : ℕ). made nothing_held (remaining lines.reader) m x a.held a.doing a.due a.transaction a.late.items) number
    ∙ ap (λ (x : Hold). made nothing_held (remaining lines.reader) m 0 x a.doing a.due a.transaction a.late.items) held
    ∙ ap (λ (x : Doing). made nothing_held (remaining lines.reader) m 0 hold.Free x a.due a.transaction a.late.items) what
    ∙ ap (λ (x : Option Woken). made nothing_held (remaining lines.reader) m 0 hold.Free doing.Nothing x a.transaction a.late.items) due
    ∙ ap (λ (x : Option Transaction). made nothing_held (remaining lines.reader) m 0 hold.Free doing.Nothing None x a.late.items) closed
    ∙ ap (λ (x : List Seat). made nothing_held (remaining lines.reader) m 0 hold.Free doing.Nothing None None x) late

-- A driver of lines that prints with a voice on a stream.

abbrev given_agenda : {I : Type 0} → (I → Option (List ℕ)) → AgendaRules (ByLines I)
given_agenda remaining = agenda_rules (action_rules (λ a w now answer b. LinesSay (lines_stand remaining a) w now answer (lines_stand remaining b))
    (λ a woken b. LinesWoken (lines_stand remaining a) woken (lines_stand remaining b))
    (λ a w now came note b. LinesHeed (lines_stand remaining a) w now came note (lines_stand remaining b)))
    (λ a w first more b. LinesJoin (lines_stand remaining a) w first more (lines_stand remaining b))

abbrev lines_driven : {C : Type 0} → Voice → SourceRules C → (Option (List ℕ) → DiskView → Type 0) → Rules LinesAt C PrintedSoFar
lines_driven V s held = rules lines_rules s (noting_rules V held)

module _ {I C W : Type 0} (remaining : I → Option (List ℕ)) (V : Voice) (contents : W → Option (List ℕ)) (held : Option (List ℕ) → DiskView → Type 0) (s : SourceRules C) (m : Manner) where
  abbrev given_rules : Rules (ByLines I) C PrintedSoFar
  given_rules = rules (given_agenda remaining) s (noting_rules V held)

  -- what is seen of a program's parts
  abbrev seen_of : ProgramParts (ByLines I) C PrintedSoFar → ProgramParts LinesAt C PrintedSoFar
  seen_of x = program_parts x.disk x.sources x.sink (lines_stand remaining x.agenda)

  over_lines : (first last : ProgramParts (ByLines I) C PrintedSoFar) (run : Result (Unit {0}) RunFault) → Over given_rules first last run → Over (lines_driven V s held) (seen_of first) (seen_of last) run
  over_lines first last run o =
      over_seen given_rules lines_rules (λ (k : PrintedSoFar). k.text) (λ (k : PrintedSoFar) (disk : DiskView) (text : List ℕ) (whole : Bool) (l : PrintedSoFar). held k.text disk × (l.whole ≡ whole)) (lines_stand remaining) (λ (k : PrintedSoFar). k)
      (λ a w n answer b said. said) (λ a w b reported. reported) (λ a w n c note b heeds. heeds) (λ a w first more b joins. joins) (λ k d text whole l t. record { tried = t.tried; appends = t.appends })
      (λ k d text whole l t. record { tries = record { tried = t.tries.tried; appends = t.tries.appends }; front = t.front })
      (λ k d text why l t. record { tried = t.tried; cut = t.cut }) first last run o

  pub lives : {D : Type 0} (k : Closable D) (disk later : D) (c d : C) (old new : W) (whole : Bool) (begun done : ByLines I) (stream : Option (List ℕ)) (run : Result (Unit {0}) RunFault) (answer : StrictAnswer)
      → lines_stand remaining begun ≡ first_lines m stream
      → Over given_rules (program_parts (k.view disk) c (printed_so_far (contents old) true) begun) (program_parts (k.view later) d (printed_so_far (contents new) whole) done) run
      → k.closed later → SameDisk (k.view disk) (k.view later) → answer ≡ answer_after run (lines_stand remaining done)
      → LivesOn (live_setting m V held) stream (run_of (given_disk k disk) s (calling c d) (writing contents old new)) whole answer
  lives k disk later c d old new whole begun done stream run answer at over closed same is = record {
    later = later;
    closed = closed;
    same = same;
    lines = lines_stand remaining done;
    run = run;
    over = over_all;
    true_of = over_true (lines_driven V s held) own_faults (program_parts (k.view disk) c (printed_so_far (contents old) true) (first_lines m stream)) (program_parts (k.view later) d (printed_so_far (contents new) whole) (lines_stand remaining done)) run over_all;
    is = is;
  }
    where
      over_all : Over (lines_driven V s held) (program_parts (k.view disk) c (printed_so_far (contents old) true) (first_lines m stream)) (program_parts (k.view later) d (printed_so_far (contents new) whole) (lines_stand remaining done)) run
      over_all =
          subst (λ (a : LinesAt). Over (lines_driven V s held) (program_parts (k.view disk) c (printed_so_far (contents old) true) a) (program_parts (k.view later) d (printed_so_far (contents new) whole) (lines_stand remaining done)) run) at
          (over_lines (program_parts (k.view disk) c (printed_so_far (contents old) true) begun) (program_parts (k.view later) d (printed_so_far (contents new) whole) done) run over)

-- What stands last.

module _ {D C O : Type 0} (o : LiveSetting) (stream : Option (List ℕ)) (g : GivenDisk D) (s : SourceRules C) (contents : O → Option (List ℕ)) where
  pub lived_so : (c d e : C) (first last new : O) (run_answer : StrictAnswer) (whole reported : Bool) (answer : StrictAnswer) → e ≡ d → LivesOn o stream (run_of g s (calling c d) (writing contents first last)) whole run_answer
      → LivedEnds o.voice (writing contents last new) run_answer whole reported answer → LiveBegun o stream (run_of g s (calling c e) (writing contents first new)) reported answer
  lived_so c d e first last new run_answer whole reported answer is on ends =
      lived last run_answer whole (subst (λ (x : C). LivesOn o stream (run_of g s (calling c x) (writing contents first last)) whole run_answer) (sym is) on) ends

  pub begun_of : (given : Option (List ℕ)) (c d : C) (first new : O) (reported : Bool) (answer : StrictAnswer) → given ≡ stream → LiveBegun o given (run_of g s (calling c d) (writing contents first new)) reported answer
      → LiveBegun o stream (run_of g s (calling c d) (writing contents first new)) reported answer
  begun_of given c d first new reported answer is begun = subst (λ (x : Option (List ℕ)). LiveBegun o x (run_of g s (calling c d) (writing contents first new)) reported answer) is begun

-- a fault that the run printed, or that is printed now
pub faulted_by : {O : Type 0} (V : Voice) (w : Writing O) (whole reported : Bool) (why : RunFault) (asked by : Bool) → asked ≡ is_printed why → asked ≡ by → FaultedBy by V w whole reported why → FaultedBy (is_printed why) V w whole reported why
faulted_by V w whole reported why asked by is so f = subst (λ (b : Bool). FaultedBy b V w whole reported why) (sym so ∙ is) f
