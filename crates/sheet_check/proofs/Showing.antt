-- What is shown after fields, one after another.
use Rattle.std.proofs.Common.{◌≡◌, inl, inr, ℕ, Bool, true, false, List, [], Option, Some, None, refl, sym, subst}
use Rattle.std.specs.Prelude.{Result, Ok, Err, IfErr, IfNone, IfOk, IfSome}
use Rattle.offline_programs.specs.declared.fault.RunFault.{RunFault}
use Rattle.check_report.specs.declared.report.ReportFormat.{ReportFormat}
use Rattle.check_report.specs.declared.verdict.VerdictCounts.{VerdictCounts}
use Rattle.sheet_check.specs.declared.progress.Sight.{Sight}
use Rattle.sheet_check.specs.declared.progress.Sight.TheVariants as sight
use Rattle.check_report.specs.Verdicts.{counts_of}
use Rattle.sheet_check.specs.Progress.{Display, FieldsLeft, FieldsShow, LeavesLine, SheetShows, TakesLine, display, more, none}
use Rattle.sheet_check.specs.inside.Checking.{CountsWritten, FieldShown}

module _ {P : Type 0} (F : ReportFormat) (S : P → Sight → P → Type 0) (all : ℕ) (p : P) where
  pub none_shown : (counts : VerdictCounts) → counts ≡ counts_of [] → FieldsShow (display F S) all p counts p
  none_shown counts is = subst (λ c. FieldsShow (display F S) all p c p) (sym is) none

  pub one_shown : (counts after : VerdictCounts) (mid q : P) → FieldsShow (display F S) all p counts mid → FieldShown (display F S) all counts after mid q → FieldsShow (display F S) all p after q
  one_shown counts after mid q shown (inl (same, still)) = subst (λ c. FieldsShow (display F S) all p c q) (sym same) (subst (FieldsShow (display F S) all p counts) (sym still) shown)
  one_shown counts after mid q shown (inr (one, free, is, room, line)) =
      subst (λ c. FieldsShow (display F S) all p c q) (sym is) (more one counts mid free q shown room (subst (λ c. S free (sight.Line c all) q) is line))

  pub sheet_shows : (answer : Result VerdictCounts RunFault) (mid q : P) → IfOk answer (λ counts. FieldsShow (display F S) all p counts mid) → IfErr answer (λ _. FieldsLeft (display F S) all p mid) → S mid sight.Nothing q
      → SheetShows (display F S) all p q answer
  sheet_shows (Ok counts) mid q shown left gone = (mid, shown, gone)
  sheet_shows (Err why) mid q shown left gone = (mid, left, gone)

-- where the line was taken away or left, it is so
pub room_left : {P : Type 0} (S : P → Sight → P → Type 0) (taken : Bool) (p q : P) → TakesLine taken S p q → LeavesLine S p q
room_left S true p q gone = inr gone
room_left S false p q same = inl same

-- The line is taken away at each end, also where there was no memory for a copy.
pub counts_shown : {P : Type 0} (m : Display P) (all : ℕ) (p mid q : P) (F : ReportFormat) (a b : Option (List ℕ)) (answer : Option (Result VerdictCounts RunFault)) (result : Result VerdictCounts RunFault)
    → IfSome answer (λ counted. SheetShows m all p mid counted) → IfSome answer (λ _. q ≡ mid) → IfNone answer ((mid ≡ p) × m.shows mid sight.Nothing q)
    → CountsWritten F a b answer result → SheetShows m all p q result
counts_shown m all p mid q F a b None result some same gone is =
    subst (SheetShows m all p q) (sym is) (p, (counts_of [], p, none, inl refl), subst (λ x. m.shows x sight.Nothing q) gone.0 gone.1)
counts_shown m all p mid q F a b (Some (Ok counts)) result some same gone (inl (is, closing)) =
    subst (SheetShows m all p q) (sym is) (subst (λ x. SheetShows m all p x (Ok counts)) (sym same) some)
counts_shown m all p mid q F a b (Some (Ok counts)) result some same gone (inr is) =
    subst (SheetShows m all p q) (sym is) (some.0, (counts, some.0, some.1, inl refl), subst (m.shows some.0 sight.Nothing) (sym same) some.2)
counts_shown m all p mid q F a b (Some (Err why)) result some same gone (is, written) =
    subst (SheetShows m all p q) (sym is) (subst (λ x. SheetShows m all p x (Err why)) (sym same) some)

-- what holds where nothing is there, of two
pub none_of_both : {A X Y Z : Type 0} (o : Option A) → IfNone o X → IfNone o Y → (X → Y → Z) → IfNone o Z
none_of_both None x y both = both x y
none_of_both (Some a) x y both = tt
