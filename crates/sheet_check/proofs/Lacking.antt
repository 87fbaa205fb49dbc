-- What a check answers by the fields that are named; a worksheet that was opened isn't reported as one that wasn't.
use Rattle.std.proofs.Common.{◌≡◌, ◌∙◌, ℕ, Bool, true, false, List, Option, ap, refl, sym, subst}
use Rattle.std.specs.Prelude.{Result, Ok, Err}
use Rattle.std.specs.Bool.{MatchBool}
use Rattle.worksheet.specs.Contents.{Contents}
use Rattle.journal.specs.declared.opening.OpenCause.{OpenCause}
use Rattle.child_edge.specs.Faithful.{at}
use Rattle.offline_programs.specs.declared.fault.RunFault.{RunFault}
use Rattle.offline_programs.specs.declared.fault.RunFault.TheVariants as fault
use Rattle.check_report.specs.declared.chosen.Chosen.{Chosen}
use Rattle.check_report.specs.declared.verdict.VerdictCounts.{VerdictCounts}
use Rattle.sheet_check.specs.Accept.{Filing, SheetAccepts, to_accept}
use Rattle.sheet_check.specs.Check.{Passage, SheetAnswer, TellsCheck, passage}
use Rattle.sheet_check.specs.Check as ends
use Rattle.sheet_check.specs.Evaluated.{OneByOne, Way, one_by_one}
use Rattle.sheet_check.specs.Named.{ByNames, all_named, answer_as, no_field}
use Rattle.sheet_check.specs.Together.{SideBySide, TellsBySessions, TellsTogether, TogetherTells, checking, have_several}
use Rattle.sheet_check.specs.Together as together
use Rattle.sheet_check.specs.declared.named.CheckFault.{CheckFault}
use Rattle.sheet_check.specs.declared.named.CheckFault.TheVariants as checks
use Rattle.sheet_check.proofs.Kept.{was_opened}
use Rattle.sheet_check.proofs.Own.{never_open, of_evaluation}

-- A field that isn't there is no fault of a run.

abbrev is_missing_field : Result VerdictCounts CheckFault → Bool
is_missing_field (Ok counts) = false
is_missing_field (Err (checks.NoField id)) = true
is_missing_field (Err (checks.Run why)) = false

no_run : (answer : Result VerdictCounts CheckFault) (id : ℕ) (why : RunFault) → answer ≡ Err (checks.NoField id) → answer ≡ Err (checks.Run why) → ⊥
no_run answer id why e f = let no : true ≡ false = sym (ap is_missing_field e) ∙ ap is_missing_field f in cc

abbrev run_in : RunFault → Result VerdictCounts CheckFault → RunFault
run_in other (Ok counts) = other
run_in other (Err (checks.NoField id)) = other
run_in other (Err (checks.Run why)) = why

abbrev is_count : Result VerdictCounts CheckFault → Bool
is_count (Ok counts) = true
is_count (Err why) = false

-- what came of a check that answers a fault of a run
pub run_of : (counted : Result VerdictCounts RunFault) (why : RunFault) → answer_as counted ≡ Err (checks.Run why) → counted ≡ Err why
run_of (Ok counts) why e = absurd (let no : true ≡ false = ap is_count e in cc)
run_of (Err x) why e = ap (λ (y : RunFault). Err y) (ap (run_in x) e)

came_of : (missing : Option ℕ) (nothing : Type 0) (Came : Result VerdictCounts RunFault → Type 0) (answer : Result VerdictCounts CheckFault) (why : RunFault)
    → ((counted : Result VerdictCounts RunFault) → counted ≡ Err why → Came counted → ⊥) → ByNames missing nothing Came answer → answer ≡ Err (checks.Run why) → ⊥
came_of missing nothing Came answer why never (no_field id is e done) f = no_run answer id why e f
came_of missing nothing Came answer why never (all_named counted is e came) f = never counted (run_of counted why (sym e ∙ f)) came

pub done_so : (missing : Option ℕ) (nothing done : Type 0) (Came Else : Result VerdictCounts RunFault → Type 0) (answer : Result VerdictCounts CheckFault)
    → (nothing → done) → ((counted : Result VerdictCounts RunFault) → Came counted → Else counted) → ByNames missing nothing Came answer → ByNames missing done Else answer
done_so missing nothing done Came Else answer none came (no_field id is e p) = no_field id is e (none p)
done_so missing nothing done Came Else answer none came (all_named counted is e p) = all_named counted is e (came counted p)

-- One after another.

reported_unopened : {C : Type 0} (o : OneByOne C) (sheet : Contents) (q : Passage C) (nothing : Type 0) (x : OpenCause) (why : RunFault) → why ≡ fault.Open x → TellsCheck o sheet q nothing why → ⊥
reported_unopened o sheet q nothing x why e (ends.not_begun is done) = let no : fault.OutOfMemory ≡ fault.Open x = sym is ∙ e in cc
reported_unopened o sheet q nothing x why e (ends.halted cases led wrote) = never_open why x led.broke.of e
reported_unopened o sheet q nothing x why e (ends.unremembered cases is led wrote) = let no : fault.OutOfMemory ≡ fault.Open x = sym is ∙ e in cc
reported_unopened o sheet q nothing x why e (ends.unwritten cases is led) = let no : fault.Output ≡ fault.Open x = sym is ∙ e in cc

sheet_unopened : {C : Type 0} (o : OneByOne C) (sheet : Contents) (q : Passage C) (nothing : Type 0) (x : OpenCause) → SheetAnswer o sheet q nothing (Err (fault.Open x)) → ⊥
sheet_unopened o sheet q nothing x reported = reported_unopened o sheet q nothing x (fault.Open x) refl reported

pub check_unopened : {C : Type 0} (o : OneByOne C) (sheet : Contents) (q : Passage C) (missing : Option ℕ) (nothing : Type 0) (answer : Result VerdictCounts CheckFault) (x : OpenCause)
    → ByNames missing nothing (SheetAnswer o sheet q nothing) answer → answer ≡ Err (checks.Run (fault.Open x)) → ⊥
check_unopened o sheet q missing nothing answer x reported e =
    came_of missing nothing (SheetAnswer o sheet q nothing) answer (fault.Open x) (λ counted is came. sheet_unopened o sheet q nothing x (subst (SheetAnswer o sheet q nothing) is came)) reported e

-- Side by side.

together_unopened : {C : Type 0} (o : SideBySide C) (sheet : Contents) (q : Passage C) (nothing : Type 0) (x : OpenCause) (why : RunFault) → why ≡ fault.Open x → TellsTogether o sheet q nothing why → ⊥
together_unopened o sheet q nothing x why e (together.not_begun is done) = let no : fault.OutOfMemory ≡ fault.Open x = sym is ∙ e in cc
together_unopened o sheet q nothing x why e (together.broke p wrote) =
    never_open why x (of_evaluation o.way (checking o sheet.fields) (at p.start q.sources p.copy) p.host p.sources p.cause why p.is p.broke) e
together_unopened o sheet q nothing x why e (together.no_memory cases is led wrote) = let no : fault.OutOfMemory ≡ fault.Open x = sym is ∙ e in cc
together_unopened o sheet q nothing x why e (together.unwritten cases is led) = let no : fault.Output ≡ fault.Open x = sym is ∙ e in cc

sessions_unopened : {C : Type 0} (o : SideBySide C) (sheet : Contents) (q : Passage C) (nothing : Type 0) (x : OpenCause) (several : Bool)
    → MatchBool several (TogetherTells o sheet q nothing (Err (fault.Open x))) (SheetAnswer (one_by_one o.way o.chosen o.format) sheet q nothing (Err (fault.Open x))) → ⊥
sessions_unopened o sheet q nothing x true reported = together_unopened o sheet q nothing x (fault.Open x) refl reported
sessions_unopened o sheet q nothing x false reported = sheet_unopened (one_by_one o.way o.chosen o.format) sheet q nothing x reported

pub together_check_unopened : {C : Type 0} (o : SideBySide C) (sheet : Contents) (q : Passage C) (missing : Option ℕ) (nothing : Type 0) (answer : Result VerdictCounts CheckFault) (x : OpenCause)
    → ByNames missing nothing (TellsBySessions o sheet q nothing) answer → answer ≡ Err (checks.Run (fault.Open x)) → ⊥
together_check_unopened o sheet q missing nothing answer x reported e =
    came_of missing nothing (TellsBySessions o sheet q nothing) answer (fault.Open x)
    (λ counted is came. sessions_unopened o sheet q nothing x (have_several o.chosen sheet.fields) (subst (TellsBySessions o sheet q nothing) is came)) reported e

-- Where answers are accepted.

pub accept_unopened : {C : Type 0} (o : Way C) (chosen : Chosen) (sheet : Contents) (c d : C) (a b : Option (List ℕ)) (f : Filing) (missing : Option ℕ) (nothing done : Type 0) (answer : Result VerdictCounts CheckFault) (x : OpenCause)
    → ByNames missing done (SheetAccepts (to_accept o chosen) sheet (passage c d a b) nothing f) answer → answer ≡ Err (checks.Run (fault.Open x)) → ⊥
accept_unopened o chosen sheet c d a b f missing nothing done answer x reported e =
    came_of missing done (SheetAccepts (to_accept o chosen) sheet (passage c d a b) nothing f) answer (fault.Open x)
    (λ counted is came. was_opened o chosen sheet c d a b f x nothing (subst (SheetAccepts (to_accept o chosen) sheet (passage c d a b) nothing f) is came)) reported e
