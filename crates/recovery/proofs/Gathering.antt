-- Records that are gathered, one after another.
use Rattle.std.proofs.Common.{◌≡◌, ℕ, List, [], ◌∷◌, ◌++◌, Result, Ok, Err, ◌+◌, ◌-◌, ◌<◌, suc, refl, sym, ap, ◌∙◌, arith, append_assoc, append-nil, map}
use Rattle.std.specs.List.{AllByRecursion}
use Rattle.worksheet.specs.declared.op.Op.{Op}
use Rattle.worksheet.specs.declared.field.Field.{Field}
use Rattle.worksheet.specs.Checks.{field_in}
use Rattle.worksheet.specs.Rewrite.{fields_ops, found_ops}
use Rattle.recovery.specs.Code.{code_of, IsTyped}
use Rattle.recovery.specs.Sheets.{codes_of}
use Rattle.recovery.specs.declared.records.Record.{Record}
use Rattle.recovery.specs.inside.Gathered.{Gathered, Gathers}
use Rattle.recovery.specs.inside.Records.{op_in}

pub codes_append : (a b : List Op) → codes_of (a ++ b) ≡ codes_of a ++ codes_of b
codes_append [] b = refl
codes_append (o ∷ a) b = ap (λ (l : List (List ℕ)). code_of o ∷ l) (codes_append a b)

pub all_append : (P : Op → Type 0) (a b : List Op) → AllByRecursion P a → AllByRecursion P b → AllByRecursion P (a ++ b)
all_append P [] b all more = more
all_append P (o ∷ a) b all more = (all.0, all_append P a b all.1 more)

pub all_front : (P : Op → Type 0) (a b : List Op) → AllByRecursion P (a ++ b) → AllByRecursion P a
all_front P [] b all = tt
all_front P (o ∷ a) b all = (all.0, all_front P a b all.1)

pub all_after : (P : Op → Type 0) (a b : List Op) → AllByRecursion P (a ++ b) → AllByRecursion P b
all_after P [] b all = all
all_after P (o ∷ a) b all = all_after P a b all.1

ops_append : (a b : List Record) → map op_in (a ++ b) ≡ map op_in a ++ map op_in b
ops_append [] b = refl
ops_append (r ∷ a) b = ap (λ (l : List Op). op_in r ∷ l) (ops_append a b)

-- more after those that were gathered
pub gathered_on : (a b : List Op) (x y z : List Record) → Gathered a x y → Gathered b y z → Gathered (a ++ b) x z
gathered_on a b x y z one two = (
  two.0 ∙ ap (λ (l : List Op). l ++ b) one.0 ∙ append_assoc (map op_in x) a b,
  all_append IsTyped a b one.1 two.1,
)

pub gathers_on : {E : Type 0} (a b : List Op) (r : Result Unit E) (x y z : List Record) → Gathered a x y → Gathers b r y z → Gathers (a ++ b) r x z
gathers_on a b (Ok u) x y z one two = gathered_on a b x y z one two
gathers_on a b (Err e) x y z one two = tt

pub gathered_none : (x : List Record) → Gathered [] x x
gathered_none x = (sym (append-nil (map op_in x)), tt)

-- Some of these ops were gathered, and the rest is left.
pub record GatheredSoFar (all rest : List Op) (x y : List Record) : Type 0 where
  pub done : List Op
  pub split : done ++ rest ≡ all
  pub gathered : Gathered done x y

pub so_far_on : (all rest more left : List Op) (x y z : List Record) → GatheredSoFar all rest x y → rest ≡ more ++ left → Gathered more y z → GatheredSoFar all left x z
so_far_on all rest more left x y z so_far is one = record {
  done = so_far.done ++ more;
  split = append_assoc so_far.done more left ∙ ap (λ (l : List Op). so_far.done ++ l) (sym is) ∙ so_far.split;
  gathered = gathered_on so_far.done more x y z so_far.gathered one;
}

-- the next of the fields that are left, if there is one
pub fields_step : (fields : List Field) (last id next : ℕ) → id < last
    → fields_ops fields (last - id) id next ≡ found_ops fields next (field_in fields id) (fields_ops fields (last - (id + 1)) (id + 1) (id + 1)) (fields_ops fields (last - (id + 1)) (id + 1) next)
fields_step fields last id next less =
    let one : last - id ≡ suc (last - (id + 1)) = omega (arith, less) in
    ap (λ (n : ℕ). fields_ops fields n id next) one
