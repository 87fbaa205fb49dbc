-- The fields of a worksheet evaluated, one after another: each by a driver that is given it alone. (docs/use/CHECK.md.)
use Rattle.std.specs.Prelude.{◌≡◌, ◌&&◌, not, ℕ, Bool, true, false, List, [], ◌∷◌, ◌++◌, Option, Some}
use Rattle.worksheet.specs.declared.field.Answer.{Answer}
use Rattle.worksheet.specs.declared.field.Field.{Field}
use Rattle.child_edge.specs.Faithful.{At}
use Rattle.sheet_json.specs.declared.checks.Took.{Took}
use Rattle.check_report.specs.declared.chosen.Chosen.{Chosen}
use Rattle.check_report.specs.declared.verdict.Verdict.{Verdict}
use Rattle.check_report.specs.Chosen.{Judged, is_chosen}
use Rattle.check_report.specs.Reports.{Case, case}
use Rattle.sheet_check.specs.Driven.{DrivenToEnd, one_plan}
use Rattle.sheet_check.specs.Evaluated.{Way, came_if, reason_shown_in, shown_in, took_between}
use Rattle.sheet_check.specs.Marks.{is_late, lacked_memory, was_asked}
use Rattle.sheet_check.specs.declared.marks.Mark.{Mark}

-- whether an answer came to the field with this number: its line was asked, and its time wasn't over
abbrev pub comes_by : List Mark → ℕ → Bool
comes_by marks id = was_asked marks && not (is_late marks id)

-- A field was evaluated: its line was given to the copy's host, and there was memory for it; what came was taken until no item waited any more. This answer
-- came, or none, and this is what that took.
pub record Evaluated {C : Type 0} (o : Way C) (field : Field) (s : At C) (came : Option Answer) (took : Took) (t : At C) : Type 0 where
  pub marks : List Mark
  pub driven : DrivenToEnd o (one_plan o field.id) s marks t
  pub remembered : lacked_memory marks ≡ false
  pub came_is : came ≡ came_if (comes_by marks field.id) (shown_in t.world field.id)
  pub begun : ℕ
  pub reads_begun : o.clock s.children begun
  pub ended : ℕ
  pub reads_ended : o.clock t.children ended
  pub took_is : took ≡ took_between s.world field begun ended

-- A field was checked: where it is one of those that are, it was evaluated, and what came was judged by the answer that it shows. The case
-- that this is, where it is one, and where that led.
pub data FieldChecked {C : Type 0} (o : Way C) (chosen : Chosen) (field : Field) (s : At C) : List Case → At C → Type 0 where
  passed : is_chosen chosen field ≡ false → FieldChecked o chosen field s [] s
  checked : (came : Option Answer) (took : Took) (verdict : Verdict) (t : At C) → is_chosen chosen field ≡ true
      → Evaluated o field s came took t → Judged chosen field came verdict
      → FieldChecked o chosen field s (case field came (reason_shown_in t.world field.id) verdict (Some took) ∷ []) t

-- fields were checked, one after another
abbrev pub FieldsChecked : {C : Type 0} → Way C → Chosen → List Field → At C → List Case → At C → Type 0
FieldsChecked o chosen [] s cases t = (cases ≡ []) × (t ≡ s)
FieldsChecked {C = C} o chosen (field ∷ fields) s cases t =
    (mid : At C) × (one : List Case) × (others : List Case) × FieldChecked o chosen field s one mid
    × FieldsChecked o chosen fields mid others t × (cases ≡ one ++ others)
