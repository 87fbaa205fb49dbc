-- The answers, the ask point and the items of a past with one more event.
use Rattle.std.proofs.Common.{◌≡◌, ℕ, ◌+◌, ◌<◌, ◌≤◌, List, [], ◌∷◌, ◌++◌, length, take, drop, refl, ap, sym, ◌∙◌, arith, true, Option, Some, None, suc, zero, length-append}
use Rattle.std.specs.Prelude.{option_to_list, slice_get, option_map}
use Rattle.std.proofs.lemmas.List.{append-nil, drop_all, drop-append-le, length-drop}
use Rattle.meta_format.specs.Stream.{Outer}
use Rattle.plugin_core.specs.declared.item.Item.{Item}
use Rattle.plugin_core.specs.Past.{Event, accepted, received, stream_of, items_of, places_from, ends_from}
use Rattle.plugin_core.specs.Answers.{first_from, end_after, if_found, answers_from, ask_from, asked_places, answers_of, ask_of}
use Rattle.plugin_core.specs.Items.{unanswered, waiting_of, bytes_of}
use Rattle.plugin_core.specs.inside.Words.{next_beyond}
use Rattle.plugin_core.specs.Steps.{sent_by, closed_by}
use Rattle.plugin_core.specs.Kept.{has_banner}
use Rattle.plugin_core.specs.inside.Changes.{ask_now, ask_then, sent_for, closed_among}
use Rattle.plugin_core.proofs.Pasts.{items_of-received, items_of-accepted, places_from-received, places_from-accepted, ends_from-received, ends_from-accepted, end_after-known, end_after-le, end_after-new}
use Rattle.plugin_core.proofs.Spans.{LieWithin}
use Rattle.plugin_core.proofs.Asks.{Grows, answers-grow, ask-grow, answers-accept, ask-accept, ask-none, ask-some, AllLe, some_if_any}

pub length-places_from : (at : ℕ) (ts : List Event) → length (places_from at ts) ≡ length (items_of ts)
length-places_from at [] = refl
length-places_from at (accepted i ∷ ts) = ap suc (length-places_from at ts)
length-places_from at (received p ∷ ts) = length-places_from (at + length p) ts

AllLe-weaker : (n m : ℕ) (ns : List ℕ) → n ≤ m → AllLe n ns → AllLe m ns
AllLe-weaker n m [] h a = tt
AllLe-weaker n m (k ∷ ns) h a = (omega arith, AllLe-weaker n m ns h a.1)

AllLe-places_from : (at : ℕ) (ts : List Event) → AllLe (at + length (stream_of ts)) (places_from at ts)
AllLe-places_from at [] = tt
AllLe-places_from at (accepted i ∷ ts) = (omega arith, AllLe-places_from at ts)
AllLe-places_from at (received p ∷ ts) = AllLe-weaker (at + length p + length (stream_of ts)) (at + length (p ++ stream_of ts)) (places_from (at + length p) ts) (omega (arith, length-append p (stream_of ts))) (AllLe-places_from (at + length p) ts)

low_ends : (ts : List Event) (stop : ℕ) → 0 < stop → stop ≤ length (stream_of ts) → end_after (ends_from 0 ts) stop ≤ length (stream_of ts)
low_ends ts stop lo hi = let h = end_after-le 0 ts stop lo (omega arith) in omega arith

-- an event changes the ends and the places of acceptance
same_answers : (bs : List Outer) (ends ends' offs offs' : List ℕ) → ends ≡ ends' → offs ≡ offs' → answers_from ends bs 0 offs ≡ answers_from ends' bs 0 offs'
same_answers bs ends ends' offs offs' e f = rw (e, f) refl

same_ask : (bs : List Outer) (ends ends' offs offs' : List ℕ) → ends ≡ ends' → offs ≡ offs' → ask_from ends bs 0 offs ≡ ask_from ends' bs 0 offs'
same_ask bs ends ends' offs offs' e f = rw (e, f) refl

-- how many are answered

pub answered_all : (ts : List Event) (bs : List Outer) → ask_of ts bs ≡ None → length (answers_of ts bs) ≡ suc (length (items_of ts))
answered_all ts bs e = ask-none (ends_from 0 ts) 0 bs (asked_places ts) e ∙ ap suc (length-places_from 0 ts)

pub answered_some : (ts : List Event) (bs : List Outer) (p : ℕ) → ask_of ts bs ≡ Some p → length (answers_of ts bs) < suc (length (items_of ts))
answered_some ts bs p e =
    let h : length (answers_of ts bs) < suc (length (places_from 0 ts)) = ask-some (ends_from 0 ts) 0 p bs (asked_places ts) e in
    omega (arith, length-places_from 0 ts)

pub answered_most : (ts : List Event) (bs : List Outer) → length (answers_of ts bs) ≤ suc (length (items_of ts))
answered_most ts bs = go (ask_of ts bs) refl
  where
    go : (o : Option ℕ) → ask_of ts bs ≡ o → length (answers_of ts bs) ≤ suc (length (items_of ts))
    go None e = let h = answered_all ts bs e in omega arith
    go (Some p) e = let h = answered_some ts bs p e in omega arith

-- One more item.

accepted_now : (ts : List Event) (i : Item) → asked_places (ts ++ accepted i ∷ []) ≡ asked_places ts ++ length (stream_of ts) ∷ []
accepted_now ts i = ap (λ ns. 0 ∷ ns) (places_from-accepted 0 ts i ∙ ap (λ n. places_from 0 ts ++ n ∷ []) (omega arith))

pub answers_of-accepted : (ts : List Event) (bs : List Outer) (i : Item) → LieWithin 0 (length (stream_of ts)) bs → answers_of (ts ++ accepted i ∷ []) bs ≡ answers_of ts bs
answers_of-accepted ts bs i l =
    same_answers bs _ _ _ _ (ends_from-accepted 0 ts i) (accepted_now ts i)
    ∙ answers-accept (ends_from 0 ts) (length (stream_of ts)) 0 bs (asked_places ts) l

ask_of-accepted : (ts : List Event) (bs : List Outer) (i : Item) → LieWithin 0 (length (stream_of ts)) bs
    → ask_of (ts ++ accepted i ∷ []) bs ≡ elim (ask_of ts bs) [ None ↦ Some (length (stream_of ts)) | Some p ↦ Some p ]
ask_of-accepted ts bs i l =
    same_ask bs _ _ _ _ (ends_from-accepted 0 ts i) (accepted_now ts i)
    ∙ ask-accept (ends_from 0 ts) (length (stream_of ts)) 0 bs (asked_places ts) l (omega arith) (low_ends ts)

ask_now_none : (fs : List Outer) (is : List Item) (n : ℕ) → length fs ≡ suc (length is) → ask_now (has_banner fs) (unanswered fs is) None n ≡ Some n
ask_now_none [] is n e = absurd (omega arith)
ask_now_none (f ∷ fs) is n e = let d : drop (length fs) is ≡ [] = drop_all (length fs) is (omega arith) in rw d refl

ask_now_some : (fs : List Outer) (is : List Item) (p n : ℕ) → length fs < suc (length is) → ask_now (has_banner fs) (unanswered fs is) (Some p) n ≡ Some p
ask_now_some [] is p n h = refl
ask_now_some (f ∷ fs) is p n h = go (drop (length fs) is) (omega (arith, length-drop (length fs) is))
  where
    go : (waiting : List Item) → 0 < length waiting → ask_now true waiting (Some p) n ≡ Some p
    go [] e = absurd (omega arith)
    go (i ∷ rest) e = refl

asked_then : (ts : List Event) (bs : List Outer) (n : ℕ) → ask_now (has_banner (answers_of ts bs)) (waiting_of ts bs) (ask_of ts bs) n ≡ elim (ask_of ts bs) [ None ↦ Some n | Some p ↦ Some p ]
asked_then ts bs n = go (ask_of ts bs) refl
  where
    go : (o : Option ℕ) → ask_of ts bs ≡ o → ask_now (has_banner (answers_of ts bs)) (waiting_of ts bs) o n ≡ elim o [ None ↦ Some n | Some p ↦ Some p ]
    go None e = ask_now_none (answers_of ts bs) (items_of ts) n (answered_all ts bs e)
    go (Some p) e = ask_now_some (answers_of ts bs) (items_of ts) p n (answered_some ts bs p e)

pub ask_now-accepted : (ts : List Event) (bs : List Outer) (i : Item) → LieWithin 0 (length (stream_of ts)) bs
    → ask_now (has_banner (answers_of ts bs)) (waiting_of ts bs) (ask_of ts bs) (length (stream_of ts)) ≡ ask_of (ts ++ accepted i ∷ []) bs
ask_now-accepted ts bs i l = asked_then ts bs (length (stream_of ts)) ∙ sym (ask_of-accepted ts bs i l)

unanswered-push : (fs : List Outer) (is : List Item) (i : Item) → length fs ≤ suc (length is) → unanswered fs (is ++ i ∷ []) ≡ unanswered fs is ++ i ∷ []
unanswered-push [] is i h = refl
unanswered-push (f ∷ fs) is i h = drop-append-le (length fs) is (i ∷ []) (omega arith)

pub waiting_of-accepted : (ts : List Event) (bs : List Outer) (i : Item) → LieWithin 0 (length (stream_of ts)) bs → waiting_of (ts ++ accepted i ∷ []) bs ≡ waiting_of ts bs ++ i ∷ []
waiting_of-accepted ts bs i l =
    ap (λ fs. unanswered fs (items_of (ts ++ accepted i ∷ []))) (answers_of-accepted ts bs i l)
    ∙ ap (λ is. unanswered (answers_of ts bs) is) (items_of-accepted ts i)
    ∙ unanswered-push (answers_of ts bs) (items_of ts) i (answered_most ts bs)

next_taken : (k : ℕ) (is : List Item) (i : Item) → k ≤ length is → option_map bytes_of (next_beyond (take (suc k) is) (take (suc k) (is ++ i ∷ []))) ≡ sent_for true (drop k is) i
next_taken zero [] i h = refl
next_taken zero (j ∷ is) i h = refl
next_taken (suc k) [] i h = absurd (omega arith)
next_taken (suc k) (j ∷ is) i h = next_taken k is i (omega arith)

asked_accepted : (fs : List Outer) (is : List Item) (i : Item) → length fs ≤ suc (length is)
    → option_map bytes_of (next_beyond (take (length fs) is) (take (length fs) (is ++ i ∷ []))) ≡ sent_for (has_banner fs) (unanswered fs is) i
asked_accepted [] is i h = refl
asked_accepted (f ∷ fs) is i h = next_taken (length fs) is i (omega arith)

pub sent_by-accepted : (ts : List Event) (bs : List Outer) (i : Item) → LieWithin 0 (length (stream_of ts)) bs
    → sent_for (has_banner (answers_of ts bs)) (waiting_of ts bs) i ≡ sent_by ts bs (accepted i) bs
sent_by-accepted ts bs i l =
    sym (asked_accepted (answers_of ts bs) (items_of ts) i (answered_most ts bs))
    ∙ ap (λ (is : List Item). option_map bytes_of (next_beyond (take (length (answers_of ts bs)) (items_of ts)) (take (length (answers_of ts bs)) is))) (sym (items_of-accepted ts i))
    ∙ ap (λ (fs : List Outer). option_map bytes_of (next_beyond (take (length (answers_of ts bs)) (items_of ts)) (take (length fs) (items_of (ts ++ accepted i ∷ []))))) (sym (answers_of-accepted ts bs i l))

-- One more piece.

-- a piece adds these blocks
pub record Adds (ts : List Event) (bs : List Outer) (p : List ℕ) (fs : List Outer) : Type 0 where
  pub old : LieWithin 0 (length (stream_of ts)) bs
  pub fresh : LieWithin (length (stream_of ts)) (length (stream_of ts) + length p) fs

grows : (ts : List Event) (bs : List Outer) (p : List ℕ) (fs : List Outer) → Adds ts bs p fs
    → Grows (ends_from 0 ts) (ends_from 0 ts ++ (length (stream_of ts) + length p) ∷ []) (length (stream_of ts)) (length (stream_of ts) + length p) bs fs
grows ts bs p fs a = record {
  old = a.old;
  fresh = a.fresh;
  known = λ stop lo hi. end_after-known 0 ts stop _ lo (omega arith);
  low = low_ends ts;
  last = λ stop lo hi. end_after-new 0 ts stop _ (omega arith) hi;
}

ends_now : (ts : List Event) (p : List ℕ) → ends_from 0 (ts ++ received p ∷ []) ≡ ends_from 0 ts ++ (length (stream_of ts) + length p) ∷ []
ends_now ts p = ends_from-received 0 ts p ∙ ap (λ n. ends_from 0 ts ++ n ∷ []) (omega arith)

as_list : (o : Option ℕ) (fs : List Outer) → elim o [ None ↦ [] | Some p ↦ option_to_list (first_from p fs) ] ≡ option_to_list (closed_among o fs)
as_list None fs = refl
as_list (Some p) fs = refl

-- at most one more answer
pub answers_of-received : (ts : List Event) (bs : List Outer) (p : List ℕ) (fs : List Outer) → Adds ts bs p fs
    → answers_of (ts ++ received p ∷ []) (bs ++ fs) ≡ answers_of ts bs ++ option_to_list (closed_among (ask_of ts bs) fs)
answers_of-received ts bs p fs a =
    let n = length (stream_of ts) in
    same_answers (bs ++ fs) _ _ _ _ (ends_now ts p) (ap (λ ns. 0 ∷ ns) (places_from-received 0 ts p))
    ∙ answers-grow (ends_from 0 ts) (ends_from 0 ts ++ (n + length p) ∷ []) n (n + length p) 0 bs fs (asked_places ts) (omega arith) (grows ts bs p fs a)
    ∙ ap (λ more. answers_of ts bs ++ more) (as_list (ask_of ts bs) fs)

abbrev pub next_ask : Option Outer → Option ℕ → List Item → ℕ → Option ℕ
next_ask None ask waiting end = ask
next_ask (Some b) ask waiting end = ask_then waiting end

next_asked : (o : Option ℕ) (fs : List Outer) (ns : List ℕ) (is : List Item) (m : ℕ) → length ns ≡ length is
    → elim o [ None ↦ None | Some p ↦ if_found (first_from p fs) (Some p) (λ b. some_if_any ns m) ] ≡ next_ask (closed_among o fs) o is m
next_asked None fs ns is m e = refl
next_asked (Some p) fs ns is m e = go (first_from p fs) ns is e
  where
    go : (f : Option Outer) (ns : List ℕ) (is : List Item) → length ns ≡ length is → if_found f (Some p) (λ b. some_if_any ns m) ≡ next_ask f (Some p) is m
    go None ns is e = refl
    go (Some b) [] [] e = refl
    go (Some b) (n ∷ ns) (i ∷ is) e = refl
    go (Some b) [] (i ∷ is) e = absurd (omega arith)
    go (Some b) (n ∷ ns) [] e = absurd (omega arith)

pub ask_of-received : (ts : List Event) (bs : List Outer) (p : List ℕ) (fs : List Outer) → Adds ts bs p fs
    → ask_of (ts ++ received p ∷ []) (bs ++ fs) ≡ next_ask (closed_among (ask_of ts bs) fs) (ask_of ts bs) (drop (length (answers_of ts bs)) (items_of ts)) (length (stream_of ts) + length p)
ask_of-received ts bs p fs a =
    let n = length (stream_of ts) in
    let k = length (answers_of ts bs) in
    same_ask (bs ++ fs) _ _ _ _ (ends_now ts p) (ap (λ ns. 0 ∷ ns) (places_from-received 0 ts p))
    ∙ ask-grow (ends_from 0 ts) (ends_from 0 ts ++ (n + length p) ∷ []) n (n + length p) 0 bs fs (asked_places ts) (drop k (places_from 0 ts)) (omega arith)
    (omega arith, AllLe-weaker (0 + n) (n + length p) (places_from 0 ts) (omega arith) (AllLe-places_from 0 ts)) (grows ts bs p fs a) refl
    ∙ next_asked (ask_of ts bs) fs (drop k (places_from 0 ts)) (drop k (items_of ts)) (n + length p) (omega (arith, length-drop k (places_from 0 ts), length-drop k (items_of ts), length-places_from 0 ts))

slice_get-end : {X : Type 0} (xs : List X) (o : Option X) → next_beyond xs (xs ++ option_to_list o) ≡ o
slice_get-end [] None = refl
slice_get-end [] (Some x) = refl
slice_get-end (x ∷ xs) o = slice_get-end xs o

pub closed_by-received : (ts : List Event) (bs : List Outer) (p : List ℕ) (fs : List Outer) → Adds ts bs p fs → closed_by ts bs (received p) (bs ++ fs) ≡ closed_among (ask_of ts bs) fs
closed_by-received ts bs p fs a = ap (λ more. next_beyond (answers_of ts bs) more) (answers_of-received ts bs p fs a) ∙ slice_get-end (answers_of ts bs) (closed_among (ask_of ts bs) fs)

next_none : {X : Type 0} (xs : List X) → next_beyond xs xs ≡ None
next_none [] = refl
next_none (x ∷ xs) = next_none xs

next_some : {X : Type 0} (k : ℕ) (is : List X) → next_beyond (take k is) (take (suc k) is) ≡ slice_get (drop k is) 0
next_some zero [] = refl
next_some zero (i ∷ is) = refl
next_some (suc k) [] = refl
next_some (suc k) (i ∷ is) = next_some k is

abbrev pub next_item : Option Outer → List Item → Option Item
next_item None waiting = None
next_item (Some b) waiting = slice_get waiting 0

-- the item that a piece asks, where it closes this answer
pub sent_by-received : (ts : List Event) (bs : List Outer) (p : List ℕ) (fs : List Outer) → Adds ts bs p fs
    → sent_by ts bs (received p) (bs ++ fs) ≡ option_map bytes_of (next_item (closed_among (ask_of ts bs) fs) (drop (length (answers_of ts bs)) (items_of ts)))
sent_by-received ts bs p fs a =
    ap (λ (is : List Item). option_map bytes_of (next_beyond (take (length (answers_of ts bs)) (items_of ts)) (take (length (answers_of (ts ++ received p ∷ []) (bs ++ fs))) is))) (items_of-received ts p)
    ∙ ap (λ (xs : List Outer). option_map bytes_of (next_beyond (take (length (answers_of ts bs)) (items_of ts)) (take (length xs) (items_of ts)))) (answers_of-received ts bs p fs a)
    ∙ go (closed_among (ask_of ts bs) fs)
  where
    go : (o : Option Outer) → option_map bytes_of (next_beyond (take (length (answers_of ts bs)) (items_of ts)) (take (length (answers_of ts bs ++ option_to_list o)) (items_of ts))) ≡ option_map bytes_of (next_item o (drop (length (answers_of ts bs)) (items_of ts)))
    go None = ap (λ (xs : List Outer). option_map bytes_of (next_beyond (take (length (answers_of ts bs)) (items_of ts)) (take (length xs) (items_of ts)))) (append-nil (answers_of ts bs))
        ∙ ap (option_map bytes_of) (next_none (take (length (answers_of ts bs)) (items_of ts)))
    go (Some b) =
        let e : length (answers_of ts bs ++ b ∷ []) ≡ suc (length (answers_of ts bs)) = omega (arith, length-append (answers_of ts bs) (b ∷ [])) in
        ap (λ (n : ℕ). option_map bytes_of (next_beyond (take (length (answers_of ts bs)) (items_of ts)) (take n (items_of ts)))) e
        ∙ ap (option_map bytes_of) (next_some (length (answers_of ts bs)) (items_of ts))
