-- Lists of values, one for each thing.
use Rattle.std.proofs.Common.{◌≡◌, ℕ, List, [], ◌∷◌, ◌++◌, map, take, length, get_or, ◌<◌, ◌≤◌, ◌+◌, Some, None, inl, inr, arith, subst, refl, ap, sym, ◌∙◌, append_assoc, append-nil}
use Rattle.std.specs.List.{slice_get}
use Rattle.std.proofs.lemmas.List.{take_more, take_all}
use Rattle.std.specs.Prelude.{◌⊎◌}
use Rattle.std.proofs.lemmas.Option.{get_or_from_slice_get, slice_get_cases}
use Rattle.serde_json.specs.Data.{Data}
use Rattle.serde_json.specs.View.{items_of, items_view, view}
use Rattle.serde_json.specs.declared.value.Value.{Value}

-- these values are those of these things
abbrev pub AreOf : {A : Type 0} → (A → Data) → List Value → List A → Type 0
AreOf f values xs = map view values ≡ map f xs

map_append : {A B : Type 0} (f : A → B) (xs ys : List A) → map f (xs ++ ys) ≡ map f xs ++ map f ys
map_append f [] ys = refl
map_append f (x ∷ xs) ys = ap (λ t. f x ∷ t) (map_append f xs ys)

pub one_more : {A : Type 0} (f : A → Data) (values more : List Value) (value : Value) (xs : List A) (i : ℕ) (x : A) → i < length xs → x ≡ get_or xs i x → AreOf f values (take i xs) → view value ≡ f x → more ≡ values ++ value ∷ [] → AreOf f more (take (i + 1) xs)
one_more f values more value xs i x h e w is grown =
    ap (map view) grown ∙ map_append view values (value ∷ []) ∙ ap (λ t. t ++ view value ∷ []) w ∙ ap (λ d. map f (take i xs) ++ d ∷ []) is
    ∙ sym (map_append f (take i xs) (x ∷ []))
    ∙ ap (map f) (sym (take_more xs i x h ∙ ap (λ y. take i xs ++ y ∷ []) (sym e)))

pub all_of : {A : Type 0} (f : A → Data) (values : List Value) (xs : List A) (i : ℕ) → length xs ≤ i → AreOf f values (take i xs) → items_view values ≡ items_of (map f xs)
all_of f values xs i h w = ap items_of (w ∙ ap (map f) (take_all i xs h))

pub ruleset list_steps = (one_more, all_of)

-- the same of a queue, which is looked through by place

pub one_found : {A : Type 0} (f : A → Data) (values more : List Value) (value : Value) (xs : List A) (i : ℕ) (x : A) → i < length xs → Some x ≡ slice_get xs i → AreOf f values (take i xs) → view value ≡ f x → more ≡ values ++ value ∷ [] → AreOf f more (take (i + 1) xs)
one_found f values more value xs i x h e = one_more f values more value xs i x h (sym (get_or_from_slice_get xs i x x (sym e)))

pub none_found : {A : Type 0} (f : A → Data) (values : List Value) (xs : List A) (i : ℕ) → i < length xs → None ≡ slice_get xs i → AreOf f values (take (i + 1) xs)
none_found {A} f values xs i h e = go (slice_get_cases xs i).1
  where
    no : (x : A) → None ≡ Some x → ⊥
    no x k = cc k

    go : ((x : A) × (i < length xs) × (slice_get xs i ≡ Some x) × (get_or xs i x ≡ x)) ⊎ ((length xs ≤ i) × (slice_get xs i ≡ None)) → AreOf f values (take (i + 1) xs)
    go (inl found) = absurd (no found.0 (e ∙ found.2))
    go (inr past) = absurd (omega (arith, h, past.0))

pub all_passed : {A : Type 0} (f : A → Data) (values : List Value) (xs : List A) (n i : ℕ) → n ≡ length xs → n ≤ i → AreOf f values (take i xs) → items_view values ≡ items_of (map f xs)
all_passed f values xs n i is h = all_of f values xs i (subst (λ m. m ≤ i) is h)

pub ruleset queue_steps = (one_found, all_passed)

-- these values are those of a front of these things, and these are to come
abbrev pub AreBefore : {A : Type 0} → (A → Data) → List Value → List A → List A → Type 0
AreBefore f values ahead all = map view values ++ map f ahead ≡ map f all

pub one_passed : {A : Type 0} (f : A → Data) (values more : List Value) (value : Value) (x : A) (xs others all : List A) → xs ≡ x ∷ others → AreBefore f values xs all → view value ≡ f x → more ≡ values ++ value ∷ [] → AreBefore f more others all
one_passed f values more value x xs others all e w is grown =
    ap (λ t. map view t ++ map f others) grown
    ∙ ap (λ t. t ++ map f others) (map_append view values (value ∷ []))
    ∙ append_assoc (map view values) (view value ∷ []) (map f others)
    ∙ ap (λ d. map view values ++ d ∷ map f others) is
    ∙ ap (λ t. map view values ++ map f t) (sym e)
    ∙ w

pub none_ahead : {A : Type 0} (f : A → Data) (values : List Value) (xs all : List A) → xs ≡ [] → AreBefore f values xs all → items_view values ≡ items_of (map f all)
none_ahead f values xs all e w = ap items_of (sym (append-nil (map view values)) ∙ ap (λ t. map view values ++ map f t) (sym e) ∙ w)

pub ruleset row_steps = (one_passed, none_ahead)
