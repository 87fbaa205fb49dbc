-- The line that tells why an earlier worksheet can't be had.
use Rattle.std.specs.Prelude.{ℕ, List, [], ◌∷◌, ◌++◌, codes}
use Rattle.std.specs.Fmt.{decimal}
use Rattle.offline_programs.specs.Faults.{fault_text}
use Rattle.past.specs.declared.fault.PastFault.{PastFault}
use Rattle.past.specs.declared.fault.PastFault.TheVariants as past

abbrev pub past_fault_text : PastFault → List ℕ
past_fault_text (past.NoChange number) = codes "fault 39 NoChange " ++ decimal number ++ 10 ∷ []
past_fault_text (past.Run why) = fault_text why
