-- What the driver's run over a disk is as the contract of a script has it.
use Rattle.std.proofs.Common.{◌≡◌, ◌≤◌, ℕ, Bool, true, false, List, length, subst}
use Rattle.std.specs.Prelude.{IfSome, Option, Result}
use Rattle.disk_model.specs.Disk.{DiskView}
use Rattle.driver.specs.Place.{AgendaRules, Rules, SourceRules, agenda_rules, rules, action_rules}
use Rattle.driver.specs.Noted.{PrintedSoFar, noting_rules, printed_so_far}
use Rattle.driver.specs.Over.{Over, ProgramParts, program_parts}
use Rattle.driver.proofs.Seen.{over_seen}
use Rattle.driver.proofs.TrueFaults.{over_true}
use Rattle.offline_programs.specs.Input.{longest_standard_input}
use Rattle.offline_programs.specs.Memory.{script_lines}
use Rattle.offline_programs.specs.declared.fault.RunFault.{RunFault}
use Rattle.tellings.specs.Words.{in_words}
use Rattle.script_agenda.specs.declared.by_script.ByScript.{ByScript}
use Rattle.script_agenda.specs.Run.{Outside, RanRead, RanScript, script_answer, outside, ran_whole, running_parts, running_rules}
use Rattle.script_agenda.specs.Says.{ScriptSays}
use Rattle.script_agenda.specs.ScriptAt.{ScriptAt, script_begun, script_stand}
use Rattle.script_agenda.specs.ScriptRules.{ScriptHeeds, ScriptJoins, ScriptWoken, script_rules}
use Rattle.script_agenda.proofs.OwnFaults.{own_faults}

abbrev given_agenda : AgendaRules ByScript
given_agenda = agenda_rules (action_rules (λ a w now answer b. ScriptSays (script_stand a) w now answer (script_stand b))
    (λ a woken b. ScriptWoken (script_stand a) woken (script_stand b))
    (λ a w now came note b. ScriptHeeds (script_stand a) w now came note (script_stand b)))
    (λ a w first more b. ScriptJoins (script_stand a) w first more (script_stand b))

module _ {C : Type 0} (held : Option (List ℕ) → DiskView → Type 0) (s : SourceRules C) where
  abbrev given_rules : Rules ByScript C PrintedSoFar
  given_rules = rules given_agenda s (noting_rules in_words held)

  -- what is seen of a program's parts
  abbrev seen_of : ProgramParts ByScript C PrintedSoFar → ProgramParts ScriptAt C PrintedSoFar
  seen_of x = program_parts x.disk x.sources x.sink (script_stand x.agenda)

  over_script : (first last : ProgramParts ByScript C PrintedSoFar) (run : Result (Unit {0}) RunFault) → Over given_rules first last run → Over (running_rules s held) (seen_of first) (seen_of last) run
  over_script first last run o =
      over_seen given_rules script_rules (λ (k : PrintedSoFar). k.text)
      (λ (k : PrintedSoFar) (disk : DiskView) (text : List ℕ) (whole : Bool) (l : PrintedSoFar). held k.text disk × (l.whole ≡ whole)) script_stand
      (λ (k : PrintedSoFar). k)
      (λ a w n r b said. said) (λ a w b reported. reported) (λ a w n c note b heeds. heeds) (λ a w first more b joins. joins) (λ k d text whole l t. record { tried = t.tried; appends = t.appends })
      (λ k d text whole l t. record { tries = record { tried = t.tries.tried; appends = t.tries.appends }; front = t.front })
      (λ k d text why l t. record { tried = t.tried; cut = t.cut }) first last run o

  pub ran_script : (strict : Bool) (script : List ℕ) (disk later : DiskView) (c d : C) (before after : Option (List ℕ)) (whole : Bool) (begun done : ByScript) (run : Result (Unit {0}) RunFault) (answer : Result (Option ℕ) RunFault)
      → script_stand begun ≡ script_begun (script_lines script) strict
      → Over given_rules (program_parts disk c (printed_so_far before true) begun) (program_parts later d (printed_so_far after whole) done) run
      → answer ≡ script_answer run whole (script_stand done)
      → RanScript (running_rules s held) strict script (outside disk c before) (outside later d after) answer
  ran_script strict script disk later c d before after whole begun done run answer at over is = record {
    at_end = script_stand done;
    run = run;
    whole = whole;
    over = over_all;
    true_of = over_true (running_rules s held) own_faults (running_parts (outside disk c before) true (script_begun (script_lines script) strict))
        (running_parts (outside later d after) whole (script_stand done)) run over_all;
    is = is;
  }
    where
      over_all : Over (running_rules s held) (running_parts (outside disk c before) true (script_begun (script_lines script) strict)) (running_parts (outside later d after) whole (script_stand done)) run
      over_all =
          subst (λ (a : ScriptAt). Over (running_rules s held) (running_parts (outside disk c before) true a) (running_parts (outside later d after) whole (script_stand done)) run) at
          (over_script (program_parts disk c (printed_so_far before true) begun) (program_parts later d (printed_so_far after whole) done) run over)

-- the script is what was read
pub from_whole : {C : Type 0} (R : Rules ScriptAt C PrintedSoFar) (stream : Option (List ℕ)) (bytes script : List ℕ) (first last : Outside C) (answer : Result (Option ℕ) RunFault) → bytes ≡ script → IfSome stream (λ all. bytes ≡ all)
    → length bytes ≤ longest_standard_input → RanScript R false script first last answer → RanRead R stream first last answer
from_whole R stream bytes script first last answer is all short ran =
    ran_whole script answer (subst (λ (it : List ℕ). IfSome stream (λ all. it ≡ all)) is all) (subst (λ (it : List ℕ). length it ≤ longest_standard_input) is short) ran
