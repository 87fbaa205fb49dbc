-- Answers and ask points where one more piece comes, or one more item is accepted.
use Rattle.std.proofs.Common.{◌≡◌, ℕ, ◌<◌, ◌≤◌, List, [], ◌∷◌, ◌++◌, length, refl, ap, ◌∙◌, subst, arith, Bool, true, false, Option, Some, None, suc, drop}
use Rattle.std.specs.Prelude.{max, nat_le, if◌then◌else◌, option_to_list, option_map}
use Rattle.std.specs.List.{find}
use Rattle.std.proofs.lemmas.Bool.Decides.{nat_tests}
use Rattle.meta_format.specs.Stream.{Outer}
use Rattle.meta_format.specs.Found.{outer_of, outers}
use Rattle.meta_format.specs.declared.scan.Found.{Found}
use Rattle.plugin_core.specs.Answers.{first_from, end_after, answers_from, ask_from, if_found}
use Rattle.plugin_core.proofs.Spans.{LieWithin, LieWithin-append}

pub first_from-append : (p : ℕ) (bs fs : List Outer) → first_from p (bs ++ fs) ≡ if_found (first_from p bs) (first_from p fs) (λ b. Some b)
first_from-append p [] fs = refl
first_from-append p (b ∷ bs) fs = go (nat_le p b.start) (first_from-append p bs fs)
  where
    go : (t : Bool) → first_from p (bs ++ fs) ≡ if_found (first_from p bs) (first_from p fs) (λ b. Some b) → (if t then Some b else first_from p (bs ++ fs)) ≡ if_found (if t then Some b else first_from p bs) (first_from p fs) (λ b. Some b)
    go true ih = refl
    go false ih = ih

pub first_from-some : (p : ℕ) (bs fs : List Outer) (b : Outer) → first_from p bs ≡ Some b → first_from p (bs ++ fs) ≡ Some b
first_from-some p bs fs b e = rw (first_from-append p bs fs, e) refl

pub first_from-none : (p : ℕ) (bs fs : List Outer) → first_from p bs ≡ None → first_from p (bs ++ fs) ≡ first_from p fs
first_from-none p bs fs e = rw (first_from-append p bs fs, e) refl

-- no block begins at or after the end of them all
pub none_past : (from to p : ℕ) (bs : List Outer) → LieWithin from to bs → to ≤ p → first_from p bs ≡ None
none_past from to p [] l h = refl
none_past from to p (b ∷ bs) l h = grind (arith, nat_tests, none_past from to p bs l.3 h)

pub found-stop : (from to p : ℕ) (bs : List Outer) (b : Outer) → LieWithin from to bs → first_from p bs ≡ Some b → (from < b.stop) × (b.stop ≤ to)
found-stop from to p [] b l e = cc
found-stop from to p (c ∷ bs) b l e = go (nat_le p c.start) e (found-stop from to p bs b l.3)
  where
    go : (t : Bool) → (if t then Some c else first_from p bs) ≡ Some b → (first_from p bs ≡ Some b → (from < b.stop) × (b.stop ≤ to)) → (from < b.stop) × (b.stop ≤ to)
    go true e ih = let s : c ≡ b = cc in subst (λ (f : Outer). (from < f.stop) × (f.stop ≤ to)) s (l.0, l.1)
    go false e ih = ih e

-- what a piece does: the blocks so far lie up to n, the new ones up to m
pub record Grows (ends more : List ℕ) (n m : ℕ) (bs fs : List Outer) : Type 0 where
  pub old : LieWithin 0 n bs
  pub fresh : LieWithin n m fs
  pub known : (stop : ℕ) → 0 < stop → stop ≤ n → end_after more stop ≡ end_after ends stop
  pub low : (stop : ℕ) → 0 < stop → stop ≤ n → end_after ends stop ≤ n
  pub last : (stop : ℕ) → n < stop → stop ≤ m → end_after more stop ≡ m

-- nothing is answered from the end of all blocks on
pub answers-past : (ends : List ℕ) (from to q : ℕ) (bs : List Outer) (offs : List ℕ) → LieWithin from to bs → to ≤ q → answers_from ends bs q offs ≡ []
answers-past ends from to q bs [] l h = refl
answers-past ends from to q bs (a ∷ later) l h = rw (none_past from to (max q a) bs l (omega arith)) refl

pub ask-past : (ends : List ℕ) (from to q a : ℕ) (bs : List Outer) (later : List ℕ) → LieWithin from to bs → to ≤ q → a ≤ q → ask_from ends bs q (a ∷ later) ≡ Some q
ask-past ends from to q a bs later l h k = rw (none_past from to (max q a) bs l (omega arith)) (let e : max q a ≡ q = omega arith in ap (λ n. Some n) e)

-- at most one more answer: the first new block from the open ask point on
pub answers-grow : (ends more : List ℕ) (n m q : ℕ) (bs fs : List Outer) (offs : List ℕ) → n ≤ m → Grows ends more n m bs fs
    → answers_from more (bs ++ fs) q offs ≡ answers_from ends bs q offs ++ elim (ask_from ends bs q offs) [ None ↦ [] | Some p ↦ option_to_list (first_from p fs) ]
answers-grow ends more n m q bs fs [] h g = refl
answers-grow ends more n m q bs fs (a ∷ later) h g = go (first_from (max q a) bs) refl (λ r. answers-grow ends more n m r bs fs later h g)
  where
    late : (o : Option Outer) → first_from (max q a) fs ≡ o → if_found o [] (λ b. b ∷ answers_from more (bs ++ fs) (end_after more b.stop) later) ≡ option_to_list o
    late None e = refl
    late (Some b) e =
        let s = found-stop n m (max q a) fs b g.fresh e in
        let l = LieWithin-append 0 n m bs fs (omega arith) h g.old g.fresh in
        rw (g.last b.stop s.0 s.1) (ap (λ bs. b ∷ bs) (answers-past more 0 m m (bs ++ fs) later l (omega arith)))

    go : (o : Option Outer) → first_from (max q a) bs ≡ o
        → ((r : ℕ) → answers_from more (bs ++ fs) r later ≡ answers_from ends bs r later ++ elim (ask_from ends bs r later) [ None ↦ [] | Some p ↦ option_to_list (first_from p fs) ])
        → answers_from more (bs ++ fs) q (a ∷ later) ≡ answers_from ends bs q (a ∷ later) ++ elim (ask_from ends bs q (a ∷ later)) [ None ↦ [] | Some p ↦ option_to_list (first_from p fs) ]
    go None e ih = rw (first_from-none (max q a) bs fs e, e) (late (first_from (max q a) fs) refl)
    go (Some b) e ih =
        let s = found-stop 0 n (max q a) bs b g.old e in
        rw (first_from-some (max q a) bs fs b e, e, g.known b.stop s.0 s.1) (ap (λ bs. b ∷ bs) (ih (end_after ends b.stop)))

abbrev pub some_if_any : List ℕ → ℕ → Option ℕ
some_if_any [] m = None
some_if_any (a ∷ later) m = Some m

abbrev pub AllLe : ℕ → List ℕ → Type 0
AllLe m [] = Unit {0}
AllLe m (a ∷ later) = (a ≤ m) × AllLe m later

-- the next item is asked at the end of the piece that closed the answer before it
pub ask-grow : (ends more : List ℕ) (n m q : ℕ) (bs fs : List Outer) (offs rest : List ℕ) → n ≤ m → AllLe m offs → Grows ends more n m bs fs
    → drop (suc (length (answers_from ends bs q offs))) offs ≡ rest
    → ask_from more (bs ++ fs) q offs ≡ elim (ask_from ends bs q offs) [ None ↦ None | Some p ↦ if_found (first_from p fs) (Some p) (λ b. some_if_any rest m) ]
ask-grow ends more n m q bs fs [] rest h k g d = refl
ask-grow ends more n m q bs fs (a ∷ later) rest h k g d = go (first_from (max q a) bs) refl (λ r. ask-grow ends more n m r bs fs later rest h k.1 g)
  where
    then_next : (later : List ℕ) → AllLe m later → ask_from more (bs ++ fs) m later ≡ some_if_any later m
    then_next [] k = refl
    then_next (c ∷ later) k = ask-past more 0 m m c (bs ++ fs) later (LieWithin-append 0 n m bs fs (omega arith) h g.old g.fresh) (omega arith) k.0

    late : (o : Option Outer) → first_from (max q a) fs ≡ o → later ≡ rest → if_found o (Some (max q a)) (λ b. ask_from more (bs ++ fs) (end_after more b.stop) later) ≡ if_found o (Some (max q a)) (λ b. some_if_any rest m)
    late None e f = refl
    late (Some b) e f =
        let s = found-stop n m (max q a) fs b g.fresh e in
        rw (g.last b.stop s.0 s.1) (then_next later k.1 ∙ ap (λ l. some_if_any l m) f)

    go : (o : Option Outer) → first_from (max q a) bs ≡ o
        → ((r : ℕ) → drop (suc (length (answers_from ends bs r later))) later ≡ rest → ask_from more (bs ++ fs) r later ≡ elim (ask_from ends bs r later) [ None ↦ None | Some p ↦ if_found (first_from p fs) (Some p) (λ b. some_if_any rest m) ])
        → ask_from more (bs ++ fs) q (a ∷ later) ≡ elim (ask_from ends bs q (a ∷ later)) [ None ↦ None | Some p ↦ if_found (first_from p fs) (Some p) (λ b. some_if_any rest m) ]
    go None e ih = rw (first_from-none (max q a) bs fs e, e) (late (first_from (max q a) fs) refl (rw e at d))
    go (Some b) e ih =
        let s = found-stop 0 n (max q a) bs b g.old e in
        rw (first_from-some (max q a) bs fs b e, e, g.known b.stop s.0 s.1) (ih (end_after ends b.stop) (rw e at d))

-- an item that is accepted at the stream's end has no answer yet
pub answers-accept : (ends : List ℕ) (n q : ℕ) (bs : List Outer) (offs : List ℕ) → LieWithin 0 n bs → answers_from ends bs q (offs ++ n ∷ []) ≡ answers_from ends bs q offs
answers-accept ends n q bs [] l = rw (none_past 0 n (max q n) bs l (omega arith)) refl
answers-accept ends n q bs (a ∷ later) l = go (first_from (max q a) bs) (λ r. answers-accept ends n r bs later l)
  where
    go : (o : Option Outer) → ((r : ℕ) → answers_from ends bs r (later ++ n ∷ []) ≡ answers_from ends bs r later)
        → if_found o [] (λ b. b ∷ answers_from ends bs (end_after ends b.stop) (later ++ n ∷ [])) ≡ if_found o [] (λ b. b ∷ answers_from ends bs (end_after ends b.stop) later)
    go None ih = refl
    go (Some b) ih = ap (λ fs. b ∷ fs) (ih (end_after ends b.stop))

-- it is asked now where nothing else waits
pub ask-accept : (ends : List ℕ) (n q : ℕ) (bs : List Outer) (offs : List ℕ) → LieWithin 0 n bs → q ≤ n → ((stop : ℕ) → 0 < stop → stop ≤ n → end_after ends stop ≤ n)
    → ask_from ends bs q (offs ++ n ∷ []) ≡ elim (ask_from ends bs q offs) [ None ↦ Some n | Some p ↦ Some p ]
ask-accept ends n q bs [] l h low = let e : max q n ≡ n = omega arith in rw (none_past 0 n (max q n) bs l (omega arith)) (ap (λ k. Some k) e)
ask-accept ends n q bs (a ∷ later) l h low = go (first_from (max q a) bs) refl (λ r k. ask-accept ends n r bs later l k low)
  where
    go : (o : Option Outer) → first_from (max q a) bs ≡ o → ((r : ℕ) → r ≤ n → ask_from ends bs r (later ++ n ∷ []) ≡ elim (ask_from ends bs r later) [ None ↦ Some n | Some p ↦ Some p ])
        → ask_from ends bs q (a ∷ later ++ n ∷ []) ≡ elim (ask_from ends bs q (a ∷ later)) [ None ↦ Some n | Some p ↦ Some p ]
    go None e ih = rw e refl
    go (Some b) e ih = let s = found-stop 0 n (max q a) bs b l e in rw e (ih (end_after ends b.stop) (low b.stop s.0 s.1))

-- all are answered where no ask point is open
pub ask-none : (ends : List ℕ) (q : ℕ) (bs : List Outer) (offs : List ℕ) → ask_from ends bs q offs ≡ None → length (answers_from ends bs q offs) ≡ length offs
ask-none ends q bs [] e = refl
ask-none ends q bs (a ∷ later) e = go (first_from (max q a) bs) (λ r. ask-none ends r bs later) e
  where
    go : (o : Option Outer) → ((r : ℕ) → ask_from ends bs r later ≡ None → length (answers_from ends bs r later) ≡ length later)
        → if_found o (Some (max q a)) (λ b. ask_from ends bs (end_after ends b.stop) later) ≡ None
        → length (if_found o [] (λ b. b ∷ answers_from ends bs (end_after ends b.stop) later)) ≡ suc (length later)
    go None ih e = cc
    go (Some b) ih e = ap suc (ih (end_after ends b.stop) e)

pub ask-some : (ends : List ℕ) (q p : ℕ) (bs : List Outer) (offs : List ℕ) → ask_from ends bs q offs ≡ Some p → length (answers_from ends bs q offs) < length offs
ask-some ends q p bs [] e = cc
ask-some ends q p bs (a ∷ later) e = go (first_from (max q a) bs) (λ r. ask-some ends r p bs later) e
  where
    go : (o : Option Outer) → ((r : ℕ) → ask_from ends bs r later ≡ Some p → length (answers_from ends bs r later) < length later)
        → if_found o (Some (max q a)) (λ b. ask_from ends bs (end_after ends b.stop) later) ≡ Some p
        → length (if_found o [] (λ b. b ∷ answers_from ends bs (end_after ends b.stop) later)) < suc (length later)
    go None ih e = omega arith
    go (Some b) ih e = let h = ih (end_after ends b.stop) e in omega arith

-- the first of the blocks that a reader found
pub first_found : (ask : ℕ) (xs : List Found) → option_map outer_of (find (λ f. nat_le ask f.start) xs) ≡ first_from ask (outers xs)
first_found ask [] = refl
first_found ask (f ∷ xs) = go (nat_le ask f.start) (first_found ask xs)
  where
    go : (t : Bool) → option_map outer_of (find (λ f. nat_le ask f.start) xs) ≡ first_from ask (outers xs) → option_map outer_of (if t then Some f else find (λ f. nat_le ask f.start) xs) ≡ (if t then Some (outer_of f) else first_from ask (outers xs))
    go true ih = refl
    go false ih = ih
