-- The fields that are to be evaluated.
use Rattle.std.proofs.Common.{◌≡◌, ◌⊎◌, inl, inr, ◌+◌, ◌≤◌, ◌<◌, ◌==◌, ◌&&◌, ℕ, subst, Bool, true, false, List, [], ◌∷◌, ◌++◌, refl, ap, sym, ◌∙◌, append_assoc, append-nil, arith, map}
use Rattle.std.specs.Prelude.{cond}
use Rattle.std.specs.List.{filter}
use Rattle.std.proofs.lemmas.Bool.{cases_lt}
use Rattle.worksheet.specs.declared.field.Field.{Field}
use Rattle.worksheet.specs.Contents.{Contents}
use Rattle.evaluation.specs.declared.lasts.Last.{Last}
use Rattle.evaluation.specs.declared.plan.Plan.{Plan}
use Rattle.evaluation.specs.declared.plan.Which.{Which}
use Rattle.evaluation.specs.declared.plan.Which.TheVariants as which
use Rattle.evaluation.specs.Meant.{IsNext, asked_for, fields_from, is_meant, is_one_of, is_passed, meant_in}
use Rattle.evaluation.specs.inside.Choosing.{id_if, is_asked_for}

-- Those that are asked for of the fields that are to come, where the one before them is asked for or isn't.
abbrev pub asked_left : Which → Bool → List Field → List Field
asked_left which.All before left = left
asked_left (which.Named ids) before left = filter (is_one_of ids) left
asked_left (which.From id) true left = left
asked_left (which.From id) false left = fields_from id left

abbrev pub ids_of : (Field → Bool) → List Field → List ℕ
ids_of test fields = map (λ field. field.id) (filter test fields)

abbrev pub meant_left : Plan → Contents → Bool → List Field → List ℕ
meant_left plan sheet before left = ids_of (is_meant plan sheet) (asked_left plan.which before left)

all_left : (which : Which) (fields : List Field) → asked_left which false fields ≡ asked_for which fields
all_left which.All fields = refl
all_left (which.Named ids) fields = refl
all_left (which.From id) fields = refl

none_left : (which : Which) (before : Bool) → asked_left which before [] ≡ []
none_left which.All before = refl
none_left (which.Named ids) before = refl
none_left (which.From id) true = refl
none_left (which.From id) false = refl

kept : (b : Bool) (id : ℕ) (ids : List ℕ) (field : Field) (fields : List Field) → field.id ≡ id → map (λ (f : Field). f.id) fields ≡ ids → map (λ (f : Field). f.id) (cond b (field ∷ fields) fields) ≡ id_if b id ++ ids
kept true id ids field fields e f = cc
kept false id ids field fields e f = f

passed : (b : Bool) (test : Field → Bool) (field : Field) (others : List Field) → ids_of test (cond b (field ∷ others) others) ≡ id_if (b && test field) field.id ++ ids_of test others
passed true test field others = kept (test field) field.id (ids_of test others) field (filter test others) refl refl
passed false test field others = refl

begun : (b : Bool) (id : ℕ) (test : Field → Bool) (field : Field) (others : List Field)
    → ids_of test (cond b (field ∷ others) (fields_from id others)) ≡ id_if (b && test field) field.id ++ ids_of test (asked_left (which.From id) b others)
begun true id test field others = passed true test field others
begun false id test field others = refl

one_left : (which : Which) (before : Bool) (test : Field → Bool) (field : Field) (others : List Field)
    → ids_of test (asked_left which before (field ∷ others)) ≡ id_if (is_asked_for which before field && test field) field.id ++ ids_of test (asked_left which (is_asked_for which before field) others)
one_left which.All before test field others = passed true test field others
one_left (which.Named ids) before test field others = passed (is_one_of ids field) test field (filter (is_one_of ids) others)
one_left (which.From id) true test field others = passed true test field others
one_left (which.From id) false test field others = begun (field.id == id) id test field others

-- the numbers of a front of the fields, of which the last one is asked for or isn't, and these fields are to come
pub record MeantSoFar (plan : Plan) (sheet : Contents) (left : List Field) (before : Bool) (ids : List ℕ) : Type 0 where
  pub whole : ids ++ meant_left plan sheet before left ≡ meant_in plan sheet

pub none_meant : (plan : Plan) (sheet : Contents) (left : List Field) (before : Bool) (ids : List ℕ) → ids ≡ [] → left ≡ sheet.fields → before ≡ false → MeantSoFar plan sheet left before ids
none_meant plan sheet left before ids none e not_yet = record {
  whole = ap (λ (x : List ℕ). x ++ meant_left plan sheet before left) none ∙ ap (λ (b : Bool). meant_left plan sheet b left) not_yet
      ∙ ap (λ (fields : List Field). meant_left plan sheet false fields) e ∙ ap (ids_of (is_meant plan sheet)) (all_left plan.which sheet.fields);
}

pub more_meant : (plan : Plan) (sheet : Contents) (left : List Field) (before after : Bool) (field : Field) (others : List Field) (ids more : List ℕ) → left ≡ field ∷ others → MeantSoFar plan sheet left before ids
    → after ≡ is_asked_for plan.which before field → more ≡ ids ++ id_if (after && is_meant plan sheet field) field.id → MeantSoFar plan sheet others after more
more_meant plan sheet left before after field others ids more e so goes is =
    let test : Field → Bool = is_meant plan sheet in
    let put : Bool → List ℕ = λ b. id_if (b && test field) field.id in
    let one = one_left plan.which before test field others in
    record {
      whole = ap (λ (x : List ℕ). x ++ meant_left plan sheet after others) is ∙ append_assoc ids (put after) (meant_left plan sheet after others)
          ∙ ap (λ (b : Bool). ids ++ (put b ++ meant_left plan sheet b others)) goes
          ∙ ap (λ (x : List ℕ). ids ++ x) (sym one) ∙ ap (λ (fields : List Field). ids ++ meant_left plan sheet before fields) (sym e) ∙ so.whole;
    }

pub all_meant : (plan : Plan) (sheet : Contents) (left : List Field) (before : Bool) (ids : List ℕ) → left ≡ [] → MeantSoFar plan sheet left before ids → ids ≡ meant_in plan sheet
all_meant plan sheet left before ids e so =
    sym (append-nil ids) ∙ ap (λ (fields : List Field). ids ++ ids_of (is_meant plan sheet) fields) (sym (none_left plan.which before))
    ∙ ap (λ (fields : List Field). ids ++ meant_left plan sheet before fields) (sym e) ∙ so.whole

pub ruleset meant_steps = (none_meant, more_meant, all_meant)

-- one more is passed over
pub next_one : (plan : Plan) (fields : List Field) (lasts : List Last) (meant : List ℕ) (from at : ℕ) → IsNext plan fields lasts meant from at → is_passed plan fields lasts meant at ≡ true → IsNext plan fields lasts meant from (at + 1)
next_one plan fields lasts meant from at q is = (omega (arith, q.0), λ k low high. up_to k low (cases_lt k at) high)
  where
    up_to : (k : ℕ) → from ≤ k → (k < at) ⊎ (at ≤ k) → k < at + 1 → is_passed plan fields lasts meant k ≡ true
    up_to k low (inl below) high = q.1 k low below
    up_to k low (inr last) high =
        let here : at ≡ k = omega (arith, last, high) in
        subst (λ n. is_passed plan fields lasts meant n ≡ true) here is

pub next_here : (plan : Plan) (fields : List Field) (lasts : List Last) (meant : List ℕ) (from : ℕ) → IsNext plan fields lasts meant from from
next_here plan fields lasts meant from = (omega arith, λ k low high. absurd (omega (arith, low, high)))

pub ruleset next_steps = (next_one, next_here)
