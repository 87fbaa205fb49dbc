-- Lives in the host's hands, against those of a history.
use Rattle.std.proofs.Common.{◌≡◌, ◌<◌, ◌+◌, ℕ, zero, suc, List, [], ◌∷◌, ◌++◌, length, refl, ap, sym, ◌∙◌, subst, arith, Bool, true, false, Option, Some, None, get_or, set, remove, drop}
use Rattle.std.specs.Prelude.{if◌then◌else◌, option_map}
use Rattle.std.specs.Str.{bytes_eq}
use Rattle.std.proofs.lemmas.Slice.Eq.{bytes_eq-Decides}
use Rattle.session_engine.specs.declared.table.Running.{Running}
use Rattle.session_engine.specs.Named.{first_named, without_named, replace_named, place_from}
use Rattle.session_engine.specs.Host.{name_of, life_in, number_in}
use Rattle.session_engine.specs.inside.Tables.{with_life, TakesOut}
use Rattle.session_engine.specs.World.{Going}
use Rattle.plugin_core.specs.Kept.{InterpreterView}
use Rattle.session_engine.specs.Host.{RunsAs, Lives}

-- the first with a name, at its place
pub record At {A : Type 0} (name_of : A → List ℕ) (name : List ℕ) (xs : List A) (j : ℕ) : Type 0 where
  pub within : j < length xs
  pub found : (d : A) → first_named name_of name xs ≡ Some (get_or xs j d)
  pub rest : remove xs j ≡ without_named name_of name xs
  pub put : (y : A) → set xs j y ≡ replace_named name_of name y xs

module _ {A : Type 0} (name_of : A → List ℕ) (name : List ℕ) where
  pub none : (at : ℕ) (xs : List A) → place_from name_of name at xs ≡ None → first_named name_of name xs ≡ None
  none at [] h = refl
  none at (x ∷ xs) h = go (bytes_eq (name_of x) name) h (none (at + 1) xs)
    where
      go : (b : Bool) → (if b then Some at else place_from name_of name (at + 1) xs) ≡ None → (place_from name_of name (at + 1) xs ≡ None → first_named name_of name xs ≡ None)
          → (if b then Some x else first_named name_of name xs) ≡ None
      go true h rest = cc
      go false h rest = rest h

  pub place : (at : ℕ) (xs : List A) (i : ℕ) → place_from name_of name at xs ≡ Some i → (j : ℕ) × (i ≡ at + j) × At name_of name xs j
  place at [] i h = cc
  place at (x ∷ xs) i h = go (bytes_eq (name_of x) name) refl h (place (at + 1) xs i)
    where
      go : (b : Bool) → bytes_eq (name_of x) name ≡ b → (if b then Some at else place_from name_of name (at + 1) xs) ≡ Some i
          → (place_from name_of name (at + 1) xs ≡ Some i → (j : ℕ) × (i ≡ at + 1 + j) × At name_of name xs j)
          → (j : ℕ) × (i ≡ at + j) × At name_of name (x ∷ xs) j
      go true e h rest = (
        0,
        let same : at ≡ i = cc in omega arith,
        record {
          within = omega arith;
          found = λ d. rw e refl;
          rest = rw e refl;
          put = λ y. rw e refl;
        },
      )
      go false e h rest =
          let r = rest h in (
            suc r.0,
            omega (arith, r.1),
            record {
              within = omega (arith, r.2.within);
              found = λ d. rw e (r.2.found d);
              rest = rw e (ap (λ (l : List A). x ∷ l) r.2.rest);
              put = λ y. rw e (ap (λ (l : List A). x ∷ l) (r.2.put y));
            },
          )

  pub some_there : (at : ℕ) (xs : List A) (i : ℕ) → place_from name_of name at xs ≡ Some i → (x : A) × (first_named name_of name xs ≡ Some x)
  some_there at [] i h = cc
  some_there at (x ∷ xs) i h = go (bytes_eq (name_of x) name) h (some_there (at + 1) xs i)
    where
      go : (b : Bool) → (if b then Some at else place_from name_of name (at + 1) xs) ≡ Some i → (place_from name_of name (at + 1) xs ≡ Some i → (x : A) × (first_named name_of name xs ≡ Some x))
          → (y : A) × ((if b then Some x else first_named name_of name xs) ≡ Some y)
      go true h rest = (x, refl)
      go false h rest = rest h

  pub placed : (xs : List A) (i : ℕ) → place_from name_of name 0 xs ≡ Some i → At name_of name xs i
  placed xs i h =
      let p = place 0 xs i h in
      let e : p.0 ≡ i = omega (arith, p.1) in
      subst (λ (k : ℕ). At name_of name xs k) e p.2

  pub without_none : (xs : List A) → first_named name_of name xs ≡ None → without_named name_of name xs ≡ xs
  without_none [] h = refl
  without_none (x ∷ xs) h = go (bytes_eq (name_of x) name) h (without_none xs)
    where
      go : (b : Bool) → (if b then Some x else first_named name_of name xs) ≡ None → (first_named name_of name xs ≡ None → without_named name_of name xs ≡ xs)
          → (if b then xs else x ∷ without_named name_of name xs) ≡ x ∷ xs
      go true h rest = cc
      go false h rest = ap (λ (l : List A). x ∷ l) (rest h)

  pub without_replaced : (y : A) (xs : List A) → bytes_eq (name_of y) name ≡ true → without_named name_of name (replace_named name_of name y xs) ≡ without_named name_of name xs
  without_replaced y [] e = refl
  without_replaced y (x ∷ xs) e = go (bytes_eq (name_of x) name) refl (without_replaced y xs e)
    where
      go : (b : Bool) → bytes_eq (name_of x) name ≡ b → without_named name_of name (replace_named name_of name y xs) ≡ without_named name_of name xs
          → without_named name_of name (if b then y ∷ xs else x ∷ replace_named name_of name y xs) ≡ (if b then xs else x ∷ without_named name_of name xs)
      go true f rest = rw e refl
      go false f rest = rw f (ap (λ (l : List A). x ∷ l) rest)

-- a life of a session is in the host's hands
pub record Found (rs : List Running) (ls : List Going) (name : List ℕ) (r : Running) : Type 0 where
  pub life : Going
  pub is : first_named (λ (l : Going). l.name) name ls ≡ Some life
  pub runs : RunsAs r life
  pub named : life.name ≡ name
  pub rest : Lives (without_named name_of name rs) (without_named (λ (l : Going). l.name) name ls)
  pub put : (q : Running) (m : Going) → RunsAs q m → Lives (replace_named name_of name q rs) (replace_named (λ (l : Going). l.name) name m ls)

pub found : (name : List ℕ) (rs : List Running) (ls : List Going) (r : Running) → Lives rs ls → life_in rs name ≡ Some r → Found rs ls name r
found name [] [] r s h = cc
found name (x ∷ rs) [] r s h = absurd s
found name [] (y ∷ ls) r s h = absurd s
found name (x ∷ rs) (y ∷ ls) r s h = go (bytes_eq x.name name) refl h (found name rs ls r s.1)
  where
    same : bytes_eq y.name name ≡ bytes_eq x.name name
    same = ap (λ (n : List ℕ). bytes_eq n name) (sym s.0.name)

    go : (b : Bool) → bytes_eq x.name name ≡ b → (if b then Some x else life_in rs name) ≡ Some r → (life_in rs name ≡ Some r → Found rs ls name r) → Found (x ∷ rs) (y ∷ ls) name r
    go true e h rest =
        let is : x ≡ r = cc in
        let f : bytes_eq y.name name ≡ true = same ∙ e in record {
          life = y;
          is = rw f refl;
          runs = subst (λ (q : Running). RunsAs q y) is s.0;
          named = (bytes_eq-Decides y.name name).0 f;
          rest = rw (e, f) s.1;
          put = λ q m runs. rw (e, f) (runs, s.1);
        }
    go false e h rest =
        let f : bytes_eq y.name name ≡ false = same ∙ e in
        let p = rest h in record {
          life = p.life;
          is = rw f p.is;
          runs = p.runs;
          named = p.named;
          rest = rw (e, f) (s.0, p.rest);
          put = λ q m runs. rw (e, f) (s.0, p.put q m runs);
        }

pub not_found : (name : List ℕ) (rs : List Running) (ls : List Going) → Lives rs ls → life_in rs name ≡ None → first_named (λ (l : Going). l.name) name ls ≡ None
not_found name [] [] s h = refl
not_found name (x ∷ rs) [] s h = absurd s
not_found name [] (y ∷ ls) s h = absurd s
not_found name (x ∷ rs) (y ∷ ls) s h = go (bytes_eq x.name name) refl h (not_found name rs ls s.1)
  where
    go : (b : Bool) → bytes_eq x.name name ≡ b → (if b then Some x else life_in rs name) ≡ None → (life_in rs name ≡ None → first_named (λ (l : Going). l.name) name ls ≡ None)
        → first_named (λ (l : Going). l.name) name (y ∷ ls) ≡ None
    go true e h rest = cc
    go false e h rest = let f : bytes_eq y.name name ≡ false = ap (λ (n : List ℕ). bytes_eq n name) (sym s.0.name) ∙ e in rw f (rest h)

pub pushed : (rs : List Running) (ls : List Going) (r : Running) (l : Going) → Lives rs ls → RunsAs r l → Lives (rs ++ r ∷ []) (ls ++ l ∷ [])
pushed [] [] r l s runs = (runs, tt)
pushed (x ∷ rs) [] r l s runs = absurd s
pushed [] (y ∷ ls) r l s runs = absurd s
pushed (x ∷ rs) (y ∷ ls) r l s runs = (s.0, pushed rs ls r l s.1 runs)

-- what is taken out is no longer there
pub taken_out : (name : List ℕ) (old new : List Running) (o : Option Running) → TakesOut name old new o → new ≡ without_named name_of name old
taken_out name old new None t = t.1 ∙ sym (without_none name_of name old t.0)
taken_out name old new (Some r) t = t.1

-- a life with the number of the one before it leaves all numbers
pub numbers_stay : (name other : List ℕ) (rs : List Running) (r : Running) (life : InterpreterView) → life_in rs name ≡ Some r → life.number ≡ r.life.number
    → number_in (replace_named name_of name (with_life r life) rs) other ≡ number_in rs other
numbers_stay name other [] r life h e = cc
numbers_stay name other (x ∷ rs) r life h e = go (bytes_eq x.name name) refl h (λ h. numbers_stay name other rs r life h e)
  where
    go : (b : Bool) → bytes_eq x.name name ≡ b → (if b then Some x else life_in rs name) ≡ Some r → (life_in rs name ≡ Some r → number_in (replace_named name_of name (with_life r life) rs) other ≡ number_in rs other)
        → number_in (if b then with_life r life ∷ rs else x ∷ replace_named name_of name (with_life r life) rs) other ≡ number_in (x ∷ rs) other
    go true f h rest = let is : r ≡ x = cc in here (bytes_eq r.name other) refl is
      where
        here : (b : Bool) → bytes_eq r.name other ≡ b → r ≡ x → number_in (with_life r life ∷ rs) other ≡ number_in (x ∷ rs) other
        here true g is = rw (← is, g) (ap (λ (n : ℕ). Some n) e)
        here false g is = rw (← is, g) refl
    go false f h rest = there (bytes_eq x.name other) refl (rest h)
      where
        there : (b : Bool) → bytes_eq x.name other ≡ b → number_in (replace_named name_of name (with_life r life) rs) other ≡ number_in rs other
            → number_in (x ∷ replace_named name_of name (with_life r life) rs) other ≡ number_in (x ∷ rs) other
        there true g rest = rw g refl
        there false g rest = rw g rest

-- the life at a place, and those after it
pub record AtPlace (rs : List Running) (ls : List Going) (i : ℕ) : Type 0 where
  pub life : Going
  pub runs : (d : Running) → RunsAs (get_or rs i d) life
  pub following : drop i ls ≡ life ∷ drop (i + 1) ls

pub at_place : (rs : List Running) (ls : List Going) (i : ℕ) → Lives rs ls → i < length rs → AtPlace rs ls i
at_place [] ls i s h = absurd (omega arith)
at_place (r ∷ rs) [] i s h = absurd s
at_place (r ∷ rs) (l ∷ ls) zero s h = record { life = l; runs = λ d. s.0; following = refl }
at_place (r ∷ rs) (l ∷ ls) (suc i) s h =
    let p = at_place rs ls i s.1 (omega arith) in
    record { life = p.life; runs = p.runs; following = p.following ∙ ap (λ (k : ℕ). p.life ∷ drop k (l ∷ ls)) (let e : suc (i + 1) ≡ suc i + 1 = omega arith in e) }

pub no_more : (rs : List Running) (ls : List Going) → Lives rs ls → drop (length rs) ls ≡ []
no_more [] [] s = refl
no_more (r ∷ rs) [] s = absurd s
no_more [] (l ∷ ls) s = absurd s
no_more (r ∷ rs) (l ∷ ls) s = no_more rs ls s.1

-- the numbers of the lives that a host runs are those of the world's
pub numbers_are : (rs : List Running) (ls : List Going) → Lives rs ls → (name : List ℕ) → number_in rs name ≡ option_map (λ (l : Going). l.number) (first_named (λ (l : Going). l.name) name ls)
numbers_are [] [] s name = refl
numbers_are (r ∷ rs) [] s name = absurd s
numbers_are [] (l ∷ ls) s name = absurd s
numbers_are (r ∷ rs) (l ∷ ls) s name = go (bytes_eq r.name name) refl (numbers_are rs ls s.1 name)
  where
    go : (b : Bool) → bytes_eq r.name name ≡ b → number_in rs name ≡ option_map (λ (l : Going). l.number) (first_named (λ (l : Going). l.name) name ls)
        → number_in (r ∷ rs) name ≡ option_map (λ (l : Going). l.number) (first_named (λ (l : Going). l.name) name (l ∷ ls))
    go true e rest = let f : bytes_eq l.name name ≡ true = ap (λ (n : List ℕ). bytes_eq n name) (sym s.0.name) ∙ e in rw (e, f) (ap (λ (n : ℕ). Some n) s.0.number)
    go false e rest = let f : bytes_eq l.name name ≡ false = ap (λ (n : List ℕ). bytes_eq n name) (sym s.0.name) ∙ e in rw (e, f) rest

-- the first with a name has it
pub first_has_name : {A : Type 0} (name_of : A → List ℕ) (name : List ℕ) (xs : List A) (x : A) → first_named name_of name xs ≡ Some x → name_of x ≡ name
first_has_name name_of name [] x h = cc
first_has_name name_of name (y ∷ xs) x h = go (bytes_eq (name_of y) name) refl h (first_has_name name_of name xs x)
  where
    go : (b : Bool) → bytes_eq (name_of y) name ≡ b → (if b then Some y else first_named name_of name xs) ≡ Some x → (first_named name_of name xs ≡ Some x → name_of x ≡ name) → name_of x ≡ name
    go true e h rest = let is : y ≡ x = cc in ap name_of (sym is) ∙ (bytes_eq-Decides (name_of y) name).0 e
    go false e h rest = rest h
