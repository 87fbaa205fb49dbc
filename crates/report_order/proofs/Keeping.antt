-- What stays of the first ops from one moment to a later one.
use Rattle.std.proofs.Common.{◌≡◌, ◌⊎◌, ◌<◌, ◌≤◌, ◌+◌, inl, inr, ⊎_elim, ℕ, suc, zero, List, [], ◌∷◌, ◌++◌, refl, ap, sym, ◌∙◌, subst, arith, append-nil, append_assoc, Bool, true, false, length, take, drop, get_or, take-append-drop, Result, Ok, Err, OnOk}
use Rattle.std.proofs.lemmas.List.{take_all}
use Rattle.std.proofs.lemmas.Grind.{take_at_read}
use Rattle.std.specs.Result.{is_err}
use Rattle.std.specs.List.{AllByRecursion}
use Rattle.report_order.specs.Log.{LogState, LogHistory, MayRemain, LeavesAll, LeavesAlways, all_durable, with_op}
use Rattle.report_order.specs.Order.{BeginsWith, ServedInOrder, ReportedInOrder, added_to, none, more}

each_weakens : (P Q : List ℕ → Type 0) → ((c : List ℕ) → P c → Q c) → (ss : List LogState) → AllByRecursion (LeavesAll P) ss → AllByRecursion (LeavesAll Q) ss
each_weakens P Q f [] h = h
each_weakens P Q f (s ∷ ss) h = (λ c image. f c (h.0 c image), each_weakens P Q f ss h.1)

each_both : (P : List ℕ → Type 0) (ss ts : List LogState) → AllByRecursion (LeavesAll P) ss → AllByRecursion (LeavesAll P) ts → AllByRecursion (LeavesAll P) (ss ++ ts)
each_both P [] ts h k = k
each_both P (s ∷ ss) ts h k = (h.0, each_both P ss ts h.1 k)

pub weakens : (P Q : List ℕ → Type 0) (old new : LogHistory) → ((c : List ℕ) → P c → Q c) → LeavesAlways P old new → LeavesAlways Q old new
weakens P Q old new f m = record { start = λ c image. f c (m.start c image); more = m.more; states = m.states; each = each_weakens P Q f m.more m.each }

pub started : (P : List ℕ → Type 0) (h : LogHistory) → LeavesAll P h.now → LeavesAlways P h h
started P h start = record { start = start; more = []; states = refl; each = tt }

-- one after another
pub joined : (P : List ℕ → Type 0) (old mid new : LogHistory) → LeavesAlways P old mid → LeavesAlways P mid new → LeavesAlways P old new
joined P old mid new a b = record {
  start = a.start;
  more = b.more ++ a.more;
  states = b.states ∙ ap (λ (l : List LogState). b.more ++ l) a.states ∙ sym (append_assoc b.more a.more (old.now ∷ old.past));
  each = each_both P b.more a.more b.each a.each;
}

-- an image of a all_durable state is of its ops
settled_image : (ops c : List ℕ) → MayRemain (all_durable ops) c → BeginsWith ops c
settled_image ops c i = record { rest = i.some; is = i.is }

-- one of a state to which an op was put has them first
with_op_image : (ops : List ℕ) (op : ℕ) (c : List ℕ) → MayRemain (with_op op (all_durable ops)) c → BeginsWith ops c
with_op_image ops op c i = record { rest = i.some; is = i.is }

-- the same of a state that is so
pub of_settled : (ops : List ℕ) (s : LogState) → s ≡ all_durable ops → (c : List ℕ) → MayRemain s c → BeginsWith ops c
of_settled ops s is c i = settled_image ops c (subst (λ (t : LogState). MayRemain t c) is i)

pub of_put : (ops : List ℕ) (op : ℕ) (s : LogState) → s ≡ all_durable ops → (c : List ℕ) → MayRemain s c ⊎ MayRemain (with_op op s) c → BeginsWith ops c
of_put ops op s is c i = ⊎_elim (of_settled ops s is c)
    (λ w. with_op_image ops op c (subst (λ (t : LogState). MayRemain (with_op op t) c) is w)) i

pub of_synced : (ops : List ℕ) (op : ℕ) (s : LogState) → s ≡ with_op op (all_durable ops) → (c : List ℕ) → MayRemain s c → BeginsWith ops c
of_synced ops op s is c i = with_op_image ops op c (subst (λ (t : LogState). MayRemain t c) is i)

-- fewer of the first ops stand first, too
pub has_fewer : (before done : List ℕ) (op : ℕ) (c : List ℕ) → BeginsWith (before ++ (done ++ op ∷ [])) c → BeginsWith (before ++ done) c
has_fewer before done op c h = record {
  rest = op ∷ h.rest;
  is = h.is ∙ ap (λ (l : List ℕ). l ++ h.rest) (sym (append_assoc before done (op ∷ []))) ∙ append_assoc (before ++ done) (op ∷ []) h.rest;
}

-- What was reported stays so, and durable, while the log goes on.
pub later : {W : Type 0} (tried : W → ℕ → LogHistory → Bool → W → Type 0) (before : List ℕ) (old new : LogHistory) (from : W) (done : List ℕ) (to : W)
    → ReportedInOrder tried before old done from to → LeavesAlways (BeginsWith (before ++ done)) old new → ReportedInOrder tried before new done from to
later tried before old new from done to none goes = none
later tried before old new from done to (more {done = d} {op = op} {mid = mid} {at = at} reported went kept) goes =
    more (later tried before old new from d mid reported (weakens (BeginsWith (before ++ (d ++ op ∷ []))) (BeginsWith (before ++ d)) old new (has_fewer before d op) goes)) went
    (joined (BeginsWith (before ++ (d ++ op ∷ []))) at old new kept goes)

pub on_ok : {T E : Type 0} (r : Result T E) (P : Type 0) → is_err r ≡ false → OnOk r P → P
on_ok (Ok x) P fine h = h
on_ok (Err e) P fine h = absurd (let never : true ≡ false = fine in cc)

pub dropped : (xs : List ℕ) (i : ℕ) → i < length xs → drop i xs ≡ get_or xs i 0 ∷ drop (suc i) xs
dropped [] i less = absurd (omega (arith, less))
dropped (x ∷ xs) zero less = refl
dropped (x ∷ xs) (suc i) less = dropped xs i (omega (arith, less))

module _ {W : Type 0} (tried : W → ℕ → LogHistory → Bool → W → Type 0) (before xs : List ℕ) (i : ℕ) (from mid : W) (old new : LogHistory)
    (reported : ReportedInOrder tried before old (take i xs) from mid) (goes : LeavesAlways (BeginsWith (before ++ take i xs)) old new) where
  -- what was reported stays so
  abbrev Stays : Type 0
  Stays = ReportedInOrder tried before new (take i xs) from mid

  stays : Stays
  stays = later tried before old new from (take i xs) mid reported goes

  -- the log failed at the next op
  pub broke : {E : Type 0} (e : E) → ServedInOrder tried (added_to before xs) new from mid (Err e)
  broke e = record { done = take i xs; rest = drop i xs; split = sym (take-append-drop i xs); mid = mid; reported = stays; end = inl refl }

  module _ (less : i < length xs) (now : new.now ≡ all_durable ((before ++ take i xs) ++ get_or xs i 0 ∷ [])) (to : W) where
    is : new.now ≡ all_durable (before ++ (take i xs ++ get_or xs i 0 ∷ []))
    is = now ∙ ap all_durable (append_assoc before (take i xs) (get_or xs i 0 ∷ []))

    kept : LeavesAlways (BeginsWith (before ++ (take i xs ++ get_or xs i 0 ∷ []))) new new
    kept = started (BeginsWith (before ++ (take i xs ++ get_or xs i 0 ∷ []))) new (of_settled (before ++ (take i xs ++ get_or xs i 0 ∷ [])) new.now is)

    -- the next op couldn't be reported
    pub unsaid : {E : Type 0} (e : E) → tried mid (get_or xs i 0) new false to → ServedInOrder tried (added_to before xs) new from to (Err e)
    unsaid e went = record {
      done = take i xs;
      rest = drop i xs;
      split = sym (take-append-drop i xs);
      mid = mid;
      reported = stays;
      end = inr (record { op = get_or xs i 0; tail = drop (suc i) xs; split = dropped xs i less; at = new; went = went; kept = kept });
    }

    -- it was reported
    pub grown : tried mid (get_or xs i 0) new true to → ReportedInOrder tried before new (take (i + 1) xs) from to × (new.now ≡ all_durable (before ++ take (i + 1) xs))
    grown went =
        let e = (take_at_read xs i 0 less).1 in (
          subst (λ (l : List ℕ). ReportedInOrder tried before new l from to) (sym e) (more stays went kept),
          is ∙ ap (λ (l : List ℕ). all_durable (before ++ l)) (sym e),
        )

-- all were reported
pub whole : {W E : Type 0} (tried : W → ℕ → LogHistory → Bool → W → Type 0) (before xs : List ℕ) (i : ℕ) (from to : W) (last : LogHistory) → length xs ≤ i
    → ReportedInOrder tried before last (take i xs) from to → last.now ≡ all_durable (before ++ take i xs) → ServedInOrder {E = E} tried (added_to before xs) last from to (Ok tt)
whole tried before xs i from to last all reported now = record {
  done = xs;
  rest = [];
  split = sym (append-nil xs);
  mid = to;
  reported = subst (λ (l : List ℕ). ReportedInOrder tried before last l from to) (take_all i xs all) reported;
  end = (refl, refl, now ∙ ap (λ (l : List ℕ). all_durable (before ++ l)) (take_all i xs all));
}
