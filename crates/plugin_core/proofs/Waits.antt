-- Which lines wait.
use Rattle.std.proofs.Common.{◌≡◌, ◌↔◌, ℕ, ◌<◌, ◌≤◌, List, [], ◌∷◌, length, drop, refl, ap, sym, subst, arith, Bool, true, false, ◌||◌, Some, suc, zero, IsTrue}
use Rattle.std.specs.Prelude.{slice_get, nat_eq, nat_le}
use Rattle.std.specs.List.{list_any}
use Rattle.std.proofs.lemmas.Bool.Decides.{nat_tests}
use Rattle.meta_format.specs.Stream.{Outer}
use Rattle.plugin_core.specs.declared.item.Item.{Item}
use Rattle.plugin_core.specs.declared.item.Item.TheVariants as item
use Rattle.plugin_core.specs.Past.{items_of}
use Rattle.plugin_core.specs.Answers.{answers_of}
use Rattle.plugin_core.specs.AskPoints.{IsAnswer}
use Rattle.plugin_core.specs.Items.{waiting_of, unanswered, is_line_of}
use Rattle.plugin_core.specs.Waits.{HasUnanswered, WaitsWhatIsUnanswered}
use Rattle.plugin_core.proofs.ByAskPoints.{answers_by_ask_points}

-- Lines in a list, after so many items.

pub record IsAfter (n id : ℕ) (is : List Item) : Type 0 where
  pub number : ℕ
  pub text : List ℕ
  pub line : slice_get is number ≡ Some (item.Line id text)
  pub late : n ≤ number

shift : (n id : ℕ) (i : Item) (is : List Item) → IsAfter n id is → IsAfter (suc n) id (i ∷ is)
shift n id i is h = let l = h.late in record { number = suc h.number; text = h.text; line = h.line; late = omega arith }

any_after : (n id : ℕ) (is : List Item) → list_any (λ i. is_line_of id i) (drop n is) ≡ true → IsAfter n id is
any_after zero id [] e = cc
any_after zero id (item.Line other text ∷ is) e = go (nat_eq other id) refl e (any_after zero id is)
  where
    go : (t : Bool) → nat_eq other id ≡ t → (t || list_any (λ i. is_line_of id i) is) ≡ true → (list_any (λ i. is_line_of id i) is ≡ true → IsAfter zero id is) → IsAfter zero id (item.Line other text ∷ is)
    go true same e ih =
        let k : other ≡ id = grind (arith, nat_tests) in
        record { number = 0; text = text; line = ap (λ (n : ℕ). Some (item.Line n text)) k; late = omega arith }
    go false same e ih = let h = ih e in record { number = suc h.number; text = h.text; line = h.line; late = omega arith }
any_after zero id (item.Complete other text cursor ∷ is) e =
    let h = any_after zero id is e in record { number = suc h.number; text = h.text; line = h.line; late = omega arith }
any_after (suc n) id [] e = cc
any_after (suc n) id (i ∷ is) e = shift n id i is (any_after n id is e)

after_any : (n id : ℕ) (is : List Item) (k : ℕ) (text : List ℕ) → slice_get is k ≡ Some (item.Line id text) → n ≤ k → list_any (λ i. is_line_of id i) (drop n is) ≡ true
after_any n id [] k text e h = cc
after_any zero id (item.Line other words ∷ is) zero text e h =
    let same : other ≡ id = cc in
    let t : nat_eq other id ≡ true = grind (arith, nat_tests) in
    ap (λ (t : Bool). t || list_any (λ i. is_line_of id i) is) t
after_any zero id (item.Line other words ∷ is) (suc k) text e h = go (nat_eq other id) (after_any zero id is k text e (omega arith))
  where
    go : (t : Bool) → list_any (λ i. is_line_of id i) is ≡ true → (t || list_any (λ i. is_line_of id i) is) ≡ true
    go true ih = refl
    go false ih = ih
after_any zero id (item.Complete other words cursor ∷ is) zero text e h = cc
after_any zero id (item.Complete other words cursor ∷ is) (suc k) text e h = after_any zero id is k text e (omega arith)
after_any (suc n) id (i ∷ is) zero text e h = absurd (omega arith)
after_any (suc n) id (i ∷ is) (suc k) text e h = after_any n id is k text e (omega arith)

none_there : (xs : List Outer) (k : ℕ) (b : Outer) → slice_get xs k ≡ Some b → k < length xs
none_there [] k b e = cc
none_there (x ∷ xs) zero b e = omega arith
none_there (x ∷ xs) (suc k) b e = let h = none_there xs k b e in omega arith

some_there : (xs : List Outer) (k : ℕ) → k < length xs → (b : Outer) × (slice_get xs k ≡ Some b)
some_there [] k h = absurd (omega arith)
some_there (x ∷ xs) zero h = (x, refl)
some_there (x ∷ xs) (suc k) h = some_there xs k (omega arith)

pub waits_what_is_unanswered : WaitsWhatIsUnanswered
waits_what_is_unanswered past blocks fault reads id = (λ t. forth (answers_of past blocks) refl t, λ h. back h (answers_of past blocks) refl)
  where
    law : (k : ℕ) (b : Outer) → IsAnswer past blocks k b ↔ (slice_get (answers_of past blocks) k ≡ Some b)
    law = answers_by_ask_points past blocks fault reads

    forth : (rs : List Outer) → answers_of past blocks ≡ rs → list_any (λ i. is_line_of id i) (unanswered rs (items_of past)) ≡ true → HasUnanswered past blocks id
    forth [] f e =
        let h = any_after 0 id (items_of past) e in
        record { number = h.number; text = h.text; line = h.line; unanswered = λ b a. let g : slice_get [] (suc h.number) ≡ Some b = subst (λ (rs : List Outer). slice_get rs (suc h.number) ≡ Some b) f ((law (suc h.number) b).0 a) in cc }
    forth (r ∷ rs) f e =
        let h = any_after (length rs) id (items_of past) e in
        record {
          number = h.number;
          text = h.text;
          line = h.line;
          unanswered = λ b a.
              let g = none_there rs h.number b (subst (λ (rs : List Outer). slice_get rs (suc h.number) ≡ Some b) f ((law (suc h.number) b).0 a)) in
              let l = h.late in
              omega arith;
        }

    back : HasUnanswered past blocks id → (rs : List Outer) → answers_of past blocks ≡ rs → IsTrue (list_any (λ i. is_line_of id i) (waiting_of past blocks))
    back h [] f = subst (λ (rs : List Outer). list_any (λ i. is_line_of id i) (unanswered rs (items_of past)) ≡ true) (sym f) (after_any 0 id (items_of past) h.number h.text h.line (omega arith))
    back h (r ∷ rs) f =
        subst (λ (rs : List Outer). list_any (λ i. is_line_of id i) (unanswered rs (items_of past)) ≡ true) (sym f) (after_any (length rs) id (items_of past) h.number h.text h.line late)
      where
        answered : h.number < length rs → ⊥
        answered k = let s = some_there rs h.number k in h.unanswered s.0 ((law (suc h.number) s.0).1 (subst (λ (rs : List Outer). slice_get rs (suc h.number) ≡ Some s.0) (sym f) s.1))

        late : length rs ≤ h.number
        late = pick (nat_le (length rs) h.number) refl
          where
            pick : (t : Bool) → nat_le (length rs) h.number ≡ t → length rs ≤ h.number
            pick true e = grind (arith, nat_tests)
            pick false e = let k : h.number < length rs = grind (arith, nat_tests) in absurd (answered k)
