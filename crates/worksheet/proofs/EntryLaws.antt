-- A map some of whose keys have no value, and edits of it at a place, seen as edits of the list of its values.
use Rattle.std.proofs.Common.{◌≡◌, ℕ, ◌<◌, ◌≤◌, ◌+◌, List, [], ◌∷◌, ◌++◌, length, set, get_or, slice_get, refl, ap, ◌∙◌, arith, true, Option, Some, None, zero, suc, insert, remove}
use Rattle.std.specs.Prelude.{is_some}
use Rattle.indexmap.specs.IndexMap.{set_value_at, move_index}
use Rattle.worksheet.specs.inside.Entries.{shown, reserved, with_reserved, Fits}

module _ {K V : Type 0} (key : V → K) where
  -- a map without a reserved key is as long as its values
  pub length-full : (es : List (K × Option V)) → reserved es ≡ None → length es ≡ length (shown es)
  length-full [] h = refl
  length-full ((k, None) ∷ es) h = cc
  length-full ((k, Some v) ∷ es) h = ap suc (length-full es h)

  -- and one with one is one longer
  pub length-ready : (es : List (K × Option V)) → Fits key es → is_some (reserved es) ≡ true → length es ≡ suc (length (shown es))
  length-ready [] f h = cc
  length-ready ((k, None) ∷ es) f h = rw f refl
  length-ready ((k, Some v) ∷ es) f h = ap suc (length-ready es f.1 h)

  -- the entry of a value
  pub entry_at : (es : List (K × Option V)) (i : ℕ) (d : V) → Fits key es → i < length (shown es)
      → slice_get es i ≡ Some (key (get_or (shown es) i d), Some (get_or (shown es) i d))
  entry_at [] i d f h = absurd (omega arith)
  entry_at ((k, None) ∷ es) i d f h = absurd (let e : length (shown es) ≡ 0 = rw f refl in omega (arith, e, h))
  entry_at ((k, Some v) ∷ es) zero d f h = rw f.0 refl
  entry_at ((k, Some v) ∷ es) (suc i) d f h = entry_at es i d f.1 (omega arith)

  -- another value at a place
  pub shown-set : (es : List (K × Option V)) (i : ℕ) (v : V) → Fits key es → i < length (shown es) → shown (set_value_at es i (Some v)) ≡ set (shown es) i v
  shown-set [] i v f h = absurd (omega arith)
  shown-set ((k, None) ∷ es) i v f h = absurd (let e : length (shown es) ≡ 0 = rw f refl in omega (arith, e, h))
  shown-set ((k, Some w) ∷ es) zero v f h = refl
  shown-set ((k, Some w) ∷ es) (suc i) v f h = ap (λ (vs : List V). w ∷ vs) (shown-set es i v f.1 (omega arith))

  pub Fits-set : (es : List (K × Option V)) (i : ℕ) (v d : V) → Fits key es → i < length (shown es) → key v ≡ key (get_or (shown es) i d) → Fits key (set_value_at es i (Some v))
  Fits-set [] i v d f h e = absurd (omega arith)
  Fits-set ((k, None) ∷ es) i v d f h e = absurd (let n : length (shown es) ≡ 0 = rw f refl in omega (arith, n, h))
  Fits-set ((k, Some w) ∷ es) zero v d f h e = (e ∙ f.0, f.1)
  Fits-set ((k, Some w) ∷ es) (suc i) v d f h e = (f.0, Fits-set es i v d f.1 (omega arith) e)

  -- a value goes
  pub shown-remove : (es : List (K × Option V)) (i : ℕ) → Fits key es → i < length (shown es) → shown (remove es i) ≡ remove (shown es) i
  shown-remove [] i f h = absurd (omega arith)
  shown-remove ((k, None) ∷ es) i f h = absurd (let e : length (shown es) ≡ 0 = rw f refl in omega (arith, e, h))
  shown-remove ((k, Some w) ∷ es) zero f h = refl
  shown-remove ((k, Some w) ∷ es) (suc i) f h = ap (λ (vs : List V). w ∷ vs) (shown-remove es i f.1 (omega arith))

  pub Fits-remove : (es : List (K × Option V)) (i : ℕ) → Fits key es → i < length (shown es) → Fits key (remove es i)
  Fits-remove [] i f h = absurd (omega arith)
  Fits-remove ((k, None) ∷ es) i f h = absurd (let e : length (shown es) ≡ 0 = rw f refl in omega (arith, e, h))
  Fits-remove ((k, Some w) ∷ es) zero f h = f.1
  Fits-remove ((k, Some w) ∷ es) (suc i) f h = (f.0, Fits-remove es i f.1 (omega arith))

  -- a value comes, in front of the reserved key
  pub shown-insert : (es : List (K × Option V)) (i : ℕ) (k : K) (v : V) → Fits key es → i ≤ length (shown es) → shown (insert es i (k, Some v)) ≡ insert (shown es) i v
  shown-insert es zero k v f h = refl
  shown-insert [] (suc i) k v f h = absurd (omega arith)
  shown-insert ((l, None) ∷ es) (suc i) k v f h = absurd (let e : length (shown es) ≡ 0 = rw f refl in omega (arith, e, h))
  shown-insert ((l, Some w) ∷ es) (suc i) k v f h = ap (λ (vs : List V). w ∷ vs) (shown-insert es i k v f.1 (omega arith))

  pub Fits-insert : (es : List (K × Option V)) (i : ℕ) (k : K) (v : V) → Fits key es → i ≤ length (shown es) → key v ≡ k → Fits key (insert es i (k, Some v))
  Fits-insert es zero k v f h e = (e, f)
  Fits-insert [] (suc i) k v f h e = absurd (omega arith)
  Fits-insert ((l, None) ∷ es) (suc i) k v f h e = absurd (let n : length (shown es) ≡ 0 = rw f refl in omega (arith, n, h))
  Fits-insert ((l, Some w) ∷ es) (suc i) k v f h e = (f.0, Fits-insert es i k v f.1 (omega arith) e)

  -- a key is reserved, last
  pub shown-push : (es : List (K × Option V)) (k : K) → shown (es ++ (k, None) ∷ []) ≡ shown es
  shown-push [] k = refl
  shown-push ((l, None) ∷ es) k = shown-push es k
  shown-push ((l, Some w) ∷ es) k = ap (λ (vs : List V). w ∷ vs) (shown-push es k)

  pub reserved-push : (es : List (K × Option V)) (k : K) → reserved es ≡ None → reserved (es ++ (k, None) ∷ []) ≡ Some k
  reserved-push [] k h = refl
  reserved-push ((l, None) ∷ es) k h = cc
  reserved-push ((l, Some w) ∷ es) k h = reserved-push es k h

  pub Fits-push : (es : List (K × Option V)) (k : K) → reserved es ≡ None → Fits key es → Fits key (es ++ (k, None) ∷ [])
  Fits-push [] k h f = refl
  Fits-push ((l, None) ∷ es) k h f = cc
  Fits-push ((l, Some w) ∷ es) k h f = (f.0, Fits-push es k h f.1)

  -- a value is written under the reserved key
  pub shown-fill : (es : List (K × Option V)) (v : V) → Fits key es → is_some (reserved es) ≡ true → shown (set_value_at es (length (shown es)) (Some v)) ≡ shown es ++ v ∷ []
  shown-fill [] v f h = cc
  shown-fill ((k, None) ∷ es) v f h = rw f refl
  shown-fill ((k, Some w) ∷ es) v f h = ap (λ (vs : List V). w ∷ vs) (shown-fill es v f.1 h)

  pub Fits-fill : (es : List (K × Option V)) (v : V) → Fits key es → reserved es ≡ Some (key v) → Fits key (set_value_at es (length (shown es)) (Some v))
  Fits-fill [] v f h = cc
  Fits-fill ((k, None) ∷ es) v f h = let same : key v ≡ k = cc in rw f (same, tt)
  Fits-fill ((k, Some w) ∷ es) v f h = (f.0, Fits-fill es v f.1 h)

  -- another key is reserved in place of an earlier one
  pub shown-renew : (es : List (K × Option V)) (k : K) → Fits key es → is_some (reserved es) ≡ true → shown (remove (es ++ (k, None) ∷ []) (length (shown es))) ≡ shown es
  shown-renew [] k f h = cc
  shown-renew ((l, None) ∷ es) k f h = rw f refl
  shown-renew ((l, Some w) ∷ es) k f h = ap (λ (vs : List V). w ∷ vs) (shown-renew es k f.1 h)

  pub reserved-renew : (es : List (K × Option V)) (k : K) → Fits key es → is_some (reserved es) ≡ true → reserved (remove (es ++ (k, None) ∷ []) (length (shown es))) ≡ Some k
  reserved-renew [] k f h = cc
  reserved-renew ((l, None) ∷ es) k f h = rw f refl
  reserved-renew ((l, Some w) ∷ es) k f h = reserved-renew es k f.1 h

  pub Fits-renew : (es : List (K × Option V)) (k : K) → Fits key es → is_some (reserved es) ≡ true → Fits key (remove (es ++ (k, None) ∷ []) (length (shown es)))
  Fits-renew [] k f h = cc
  Fits-renew ((l, None) ∷ es) k f h = rw f refl
  Fits-renew ((l, Some w) ∷ es) k f h = (f.0, Fits-renew es k f.1 h)

  -- a map is as long as its values, and one longer where a key is reserved
  pub shown_within : (es : List (K × Option V)) → Fits key es → length (shown es) ≤ length es
  shown_within [] f = omega arith
  shown_within ((k, None) ∷ es) f = rw f (omega arith)
  shown_within ((k, Some v) ∷ es) f = let rest = shown_within es f.1 in omega (arith, rest)

  -- the last entry tells whether a key is reserved
  pub reserved-last : (es : List (K × Option V)) → Fits key es → (n : ℕ) → length es ≡ suc n → (k : K) (o : Option V) → slice_get es n ≡ Some (k, o) → reserved es ≡ with_reserved k o None
  reserved-last [] f n e k o h = absurd (omega (arith, e))
  reserved-last ((l, None) ∷ es) f zero e k o h = let p : ◌≡◌ {A = K × Option V} (l, None) (k, o) = cc in ap (λ (q : K × Option V). with_reserved q.0 q.1 None) p
  reserved-last ((l, None) ∷ es) f (suc n) e k o h = absurd (let z : length es ≡ 0 = rw f refl in omega (arith, e, z))
  reserved-last ((l, Some w) ∷ []) f zero e k o h = let p : ◌≡◌ {A = K × Option V} (l, Some w) (k, o) = cc in ap (λ (q : K × Option V). with_reserved q.0 q.1 None) p
  reserved-last ((l, Some w) ∷ (x ∷ es)) f zero e k o h = absurd (omega (arith, e))
  reserved-last ((l, Some w) ∷ es) f (suc n) e k o h = reserved-last es f.1 n (omega (arith, e)) k o h

-- A value moves.
module _ {K V : Type 0} (key : V → K) (es : List (K × Option V)) (from to : ℕ) (d : V)
    (f : Fits key es) (h : from < length (shown es)) (g : to < length (shown es)) where
  entry : move_index es from to ≡ insert (remove es from) to (key (get_or (shown es) from d), Some (get_or (shown es) from d))
  entry = rw (entry_at key es from d f h) refl

  shorter : to ≤ length (shown (remove es from))
  shorter =
      let e = ap length (shown-remove key es from f h) in
      let n : length (remove (shown es) from) + 1 ≡ length (shown es) = length-removed (shown es) from h in
      omega (arith, e, n, g)
    where
      length-removed : {X : Type 0} (xs : List X) (i : ℕ) → i < length xs → length (remove xs i) + 1 ≡ length xs
      length-removed [] i h = absurd (omega arith)
      length-removed (x ∷ xs) zero h = omega arith
      length-removed (x ∷ xs) (suc i) h = let rest = length-removed xs i (omega arith) in omega (arith, rest)

  pub shown-move : shown (move_index es from to) ≡ insert (remove (shown es) from) to (get_or (shown es) from d)
  shown-move =
      ap shown entry
      ∙ shown-insert key (remove es from) to _ _ (Fits-remove key es from f h) shorter
      ∙ ap (λ (vs : List V). insert vs to (get_or (shown es) from d)) (shown-remove key es from f h)

  pub Fits-move : Fits key (move_index es from to)
  Fits-move = rw entry (Fits-insert key (remove es from) to _ _ (Fits-remove key es from f h) shorter refl)
