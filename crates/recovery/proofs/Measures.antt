-- The room that the records of ops take, one after another.
use Rattle.std.proofs.Common.{◌≡◌, ℕ, List, [], ◌∷◌, ◌++◌, Option, Some, None, ◌+◌, ◌-◌, ◌<◌, ◌≤◌, ◌↔◌, true, false, length, refl, sym, ap, ◌∙◌, subst, arith, append_assoc, length-append, IsTrue}
use Rattle.std.specs.Prelude.{is_some}
use Rattle.std.specs.List.{AllByRecursion}
use Rattle.worksheet.specs.declared.op.Op.{Op}
use Rattle.worksheet.specs.Contents.{Contents}
use Rattle.worksheet.specs.declared.op.Op.TheVariants as op
use Rattle.worksheet.specs.declared.field.Field.{Field}
use Rattle.worksheet.specs.Checks.{numbers}
use Rattle.worksheet.specs.Rewrite.{field_ops, ids_to, outcome_ops, rewrite_of, smaller_before}
use Rattle.journal.specs.Area.{record_of, records}
use Rattle.recovery.specs.Sheets.{codes_of}
use Rattle.recovery.specs.Checkpointed.{HasRoomAgain}
use Rattle.recovery.specs.inside.Measured.{Measures}
use Rattle.recovery.proofs.Gathering.{all_after, codes_append}

-- how long the records of ops are
abbrev size_of : List Op → ℕ
size_of ops = length (records (codes_of ops))

records_size : (a b : List (List ℕ)) → length (records (a ++ b)) ≡ length (records a) + length (records b)
records_size [] b = omega arith
records_size (p ∷ a) b = omega (arith, records_size a b, length-append (record_of p) (records (a ++ b)), length-append (record_of p) (records a))

size_append : (a b : List Op) → size_of (a ++ b) ≡ size_of a + size_of b
size_append a b = ap (λ (l : List (List ℕ)). length (records l)) (codes_append a b) ∙ records_size (codes_of a) (codes_of b)

-- One op.

-- One after another.

pub measures_none : (x : ℕ) → Measures [] x (Some x)
measures_none x = omega arith

pub measures_on : (a b : List Op) (r : Option ℕ) (x y : ℕ) → Measures a x (Some y) → Measures b y r → Measures (a ++ b) x r
measures_on a b (Some z) x y one two = omega (arith, one, two, size_append a b)
measures_on a b None x y one two = λ room. two (omega (arith, one, size_append a b, room))

pub measures_stop : (a b : List Op) (x : ℕ) → Measures a x None → Measures (a ++ b) x None
measures_stop a b x one = λ room. one (omega (arith, size_append a b, room))

-- Some of these ops were measured, and the rest is left.
pub record MeasuredSoFar (all rest : List Op) (x y : ℕ) : Type 0 where
  pub done : List Op
  pub split : done ++ rest ≡ all
  pub measures : Measures done x (Some y)

pub measured_on : (all rest more left : List Op) (x y z : ℕ) → MeasuredSoFar all rest x y → rest ≡ more ++ left → Measures more y (Some z) → MeasuredSoFar all left x z
measured_on all rest more left x y z so_far is one = record {
  done = so_far.done ++ more;
  split = append_assoc so_far.done more left ∙ ap (λ (l : List Op). so_far.done ++ l) (sym is) ∙ so_far.split;
  measures = measures_on so_far.done more (Some z) x y so_far.measures one;
}

pub measured_ends : (all rest : List Op) (r : Option ℕ) (x y : ℕ) → MeasuredSoFar all rest x y → Measures rest y r → Measures all x r
measured_ends all rest r x y so_far last = subst (λ (l : List Op). Measures l x r) so_far.split (measures_on so_far.done rest r x y so_far.measures last)

pub measured_stops : (all rest more left : List Op) (x y : ℕ) → MeasuredSoFar all rest x y → rest ≡ more ++ left → Measures more y None → Measures all x None
measured_stops all rest more left x y so_far is one =
    measured_ends all rest None x y so_far (subst (λ (l : List Op). Measures l y None) (sym is) (measures_stop more left y one))

pub rest_measured : (P : Op → Type 0) (all rest : List Op) (x y : ℕ) → MeasuredSoFar all rest x y → AllByRecursion P all → AllByRecursion P rest
rest_measured P all rest x y so_far holds = all_after P so_far.done rest (subst (AllByRecursion P) (sym so_far.split) holds)

-- whether there is room for them all
pub no_room_again : (room : ℕ) (sheet : Contents) → room < 11 → IsTrue false ↔ HasRoomAgain room sheet
no_room_again room sheet small = ((λ no. absurd (let wrong : false ≡ true = no in cc)), λ has. absurd (omega (arith, small, has)))

pub has_room : (room : ℕ) (sheet : Contents) (r : Option ℕ) → 11 ≤ room → Measures (rewrite_of sheet) (room - 11) r → IsTrue (is_some r) ↔ HasRoomAgain room sheet
has_room room sheet (Some rest) wide one = ((λ _. omega (arith, wide, one)), λ _. refl)
has_room room sheet None wide one = ((λ no. absurd (let wrong : false ≡ true = no in cc)), λ has. absurd (one (omega (arith, wide, has))))

-- A field.

-- the op that makes a field after others
abbrev new_op : List Field → Field → Op
new_op fields f = op.New (smaller_before 0 f.id (numbers fields)) f.session f.input

pub field_stops : (fields : List Field) (next : ℕ) (f : Field) (x y : ℕ) → Measures (ids_to next f.id) x (Some y) → Measures (new_op fields f ∷ []) y None → Measures (field_ops fields next f) x None
field_stops fields next f x y ids made =
    measures_on (ids_to next f.id) (new_op fields f ∷ outcome_ops f.id f.answer f.lost) None x y ids (measures_stop (new_op fields f ∷ []) (outcome_ops f.id f.answer f.lost) y made)

pub field_measures : (fields : List Field) (next : ℕ) (f : Field) (r : Option ℕ) (x y z : ℕ) → Measures (ids_to next f.id) x (Some y) → Measures (new_op fields f ∷ []) y (Some z)
    → Measures (outcome_ops f.id f.answer f.lost) z r → Measures (field_ops fields next f) x r
field_measures fields next f r x y z ids made outcome =
    measures_on (ids_to next f.id) (new_op fields f ∷ outcome_ops f.id f.answer f.lost) r x y ids (measures_on (new_op fields f ∷ []) (outcome_ops f.id f.answer f.lost) r y z made outcome)
