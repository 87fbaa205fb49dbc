-- The list of answers against answers by ask points.
use Rattle.std.proofs.Common.{◌≡◌, ℕ, ◌+◌, ◌<◌, ◌≤◌, List, [], ◌∷◌, ◌++◌, length, take, refl, ap, sym, ◌∙◌, subst, arith, Bool, true, false, Option, Some, None, suc, zero, length-append}
use Rattle.std.specs.Prelude.{max, nat_le, slice_get}
use Rattle.std.proofs.lemmas.Bool.Decides.{nat_tests}
use Rattle.meta_format.specs.Limits.{limits}
use Rattle.meta_format.specs.Stream.{Outer}
use Rattle.meta_format.specs.Faults.{Kind}
use Rattle.plugin_core.specs.declared.item.Item.{Item}
use Rattle.plugin_core.specs.Past.{Event, accepted, received, stream_of, items_of, places_from, ends_from}
use Rattle.plugin_core.specs.Answers.{first_from, end_after, if_found, answers_from, asked_places, answers_of}
use Rattle.plugin_core.specs.Steps.{Reads}
use Rattle.plugin_core.specs.AskPoints.{length_after, IsAnswer, AnswersByAskPoints}
use Rattle.plugin_core.specs.AskPoints.IsAnswer.{banner, next}
use Rattle.plugin_core.proofs.Spans.{LieWithin, LieWithin-wider, stream_lies}
use Rattle.plugin_core.proofs.Asks.{found-stop}

-- Events and lengths.

pub after_mono : (past : List Event) (m n : ℕ) → m ≤ n → length_after past m ≤ length_after past n
after_mono past zero n h = omega arith
after_mono past (suc m) zero h = absurd (omega arith)
after_mono [] (suc m) (suc n) h = omega arith
after_mono (accepted i ∷ past) (suc m) (suc n) h = after_mono past m n (omega arith)
after_mono (received q ∷ past) (suc m) (suc n) h =
    let ih = after_mono past m n (omega arith) in
    omega (arith, length-append q (stream_of (take m past)), length-append q (stream_of (take n past)))

after_later : (past : List Event) (e f : ℕ) → length_after past (suc (max e f)) ≡ max (length_after past (suc e)) (length_after past (suc f))
after_later past e f = go (nat_le e f) refl
  where
    go : (t : Bool) → nat_le e f ≡ t → length_after past (suc (max e f)) ≡ max (length_after past (suc e)) (length_after past (suc f))
    go true h =
        let k : e ≤ f = grind (arith, nat_tests) in
        let m : max e f ≡ f = omega arith in
        let a = after_mono past (suc e) (suc f) (omega arith) in
        rw m (omega arith)
    go false h =
        let k : f ≤ e = grind (arith, nat_tests) in
        let m : max e f ≡ e = omega arith in
        let a = after_mono past (suc f) (suc e) (omega arith) in
        rw m (omega arith)

-- the end of the piece that closes a block
end_is : (at : ℕ) (past : List Event) (stop e : ℕ) → at + length_after past e < stop → stop ≤ at + length_after past (suc e) → end_after (ends_from at past) stop ≡ at + length_after past (suc e)
end_is at [] stop zero lo hi = absurd (omega arith)
end_is at [] stop (suc e) lo hi = absurd (omega arith)
end_is at (accepted i ∷ past) stop zero lo hi = absurd (omega arith)
end_is at (accepted i ∷ past) stop (suc e) lo hi = end_is at past stop e lo hi
end_is at (received q ∷ past) stop zero lo hi = grind (arith, nat_tests, length-append q [])
end_is at (received q ∷ past) stop (suc e) lo hi =
    grind (arith, nat_tests, length-append q (stream_of (take e past)), length-append q (stream_of (take (suc e) past)), end_is (at + length q) past stop e)

pub closed_in_some : (at : ℕ) (past : List Event) (stop : ℕ) → at < stop → stop ≤ at + length (stream_of past) → (e : ℕ) × (at + length_after past e < stop) × (stop ≤ at + length_after past (suc e))
closed_in_some at [] stop lo hi = absurd (omega arith)
closed_in_some at (accepted i ∷ past) stop lo hi = let r = closed_in_some at past stop lo hi in (suc r.0, r.1, r.2)
closed_in_some at (received q ∷ past) stop lo hi = go (nat_le stop (at + length q)) refl (λ l. closed_in_some (at + length q) past stop l)
  where
    go : (t : Bool) → nat_le stop (at + length q) ≡ t
        → (at + length q < stop → stop ≤ at + length q + length (stream_of past) → (e : ℕ) × (at + length q + length_after past e < stop) × (stop ≤ at + length q + length_after past (suc e)))
        → (e : ℕ) × (at + length_after (received q ∷ past) e < stop) × (stop ≤ at + length_after (received q ∷ past) (suc e))
    go true h ih = let k : stop ≤ at + length q = grind (arith, nat_tests) in (0, omega arith, omega (arith, length-append q []))
    go false h ih =
        let k : at + length q < stop = grind (arith, nat_tests) in
        let r = ih k (omega (arith, length-append q (stream_of past))) in
        (suc r.0, omega (arith, r.1, length-append q (stream_of (take r.0 past))), omega (arith, r.2, length-append q (stream_of (take (suc r.0) past))))

-- the place of the event that accepts an item
place_is : (at : ℕ) (past : List Event) (f : ℕ) (item : Item) → slice_get past f ≡ Some (accepted item) → slice_get (places_from at past) (length (items_of (take f past))) ≡ Some (at + length_after past (suc f))
place_is at [] f item e = cc
place_is at (accepted i ∷ past) zero item e = let z : at ≡ at + 0 = omega arith in ap (λ n. Some n) z
place_is at (accepted i ∷ past) (suc f) item e = place_is at past f item e
place_is at (received q ∷ past) zero item e = cc
place_is at (received q ∷ past) (suc f) item e =
    place_is (at + length q) past f item e ∙ (let z : at + length q + length_after past (suc f) ≡ at + length (q ++ stream_of (take (suc f) past)) = omega (arith, length-append q (stream_of (take (suc f) past))) in ap (λ n. Some n) z)

accepted_in_some : (at : ℕ) (past : List Event) (k place : ℕ) → slice_get (places_from at past) k ≡ Some place
    → (f : ℕ) × (item : Item) × (slice_get past f ≡ Some (accepted item)) × (length (items_of (take f past)) ≡ k)
accepted_in_some at [] k place e = cc
accepted_in_some at (accepted i ∷ past) zero place e = (0, i, refl, refl)
accepted_in_some at (accepted i ∷ past) (suc k) place e = let r = accepted_in_some at past k place e in (suc r.0, r.1, r.2, ap suc r.3)
accepted_in_some at (received q ∷ past) k place e = let r = accepted_in_some (at + length q) past k place e in (suc r.0, r.1, r.2, r.3)

-- Answers by their numbers.

answer_next : (ends : List ℕ) (bs : List Outer) (closed : ℕ) (places : List ℕ) (k : ℕ) (a : Outer) (place : ℕ) (b : Outer) → slice_get (answers_from ends bs closed places) k ≡ Some a
    → slice_get places (suc k) ≡ Some place → first_from (max (end_after ends a.stop) place) bs ≡ Some b → slice_get (answers_from ends bs closed places) (suc k) ≡ Some b
answer_next ends bs closed [] k a place b e f g = cc
answer_next ends bs closed (p ∷ places) k a place b e f g = go (first_from (max closed p) bs) k (λ r k e f. answer_next ends bs r places k a place b e f g) e f
  where
    first : (places : List ℕ) → slice_get places 0 ≡ Some place → slice_get (answers_from ends bs (end_after ends a.stop) places) 0 ≡ Some b
    first [] f = cc
    first (q ∷ places) f = let s : q ≡ place = cc in rw (s, g) refl

    go : (o : Option Outer) (k : ℕ) → ((r k : ℕ) → slice_get (answers_from ends bs r places) k ≡ Some a → slice_get places (suc k) ≡ Some place → slice_get (answers_from ends bs r places) (suc k) ≡ Some b)
        → slice_get (if_found o [] (λ c. c ∷ answers_from ends bs (end_after ends c.stop) places)) k ≡ Some a → slice_get places k ≡ Some place
        → slice_get (if_found o [] (λ c. c ∷ answers_from ends bs (end_after ends c.stop) places)) (suc k) ≡ Some b
    go None k ih e f = cc
    go (Some c) zero ih e f = let s : c ≡ a = cc in rw s (first places f)
    go (Some c) (suc k) ih e f = ih (end_after ends c.stop) k e f

pub record Before (ends : List ℕ) (bs all : List Outer) (places : List ℕ) (k : ℕ) (b : Outer) : Type 0 where
  pub answer : Outer
  pub place : ℕ
  pub is : slice_get all k ≡ Some answer
  pub at : slice_get places (suc k) ≡ Some place
  pub first : first_from (max (end_after ends answer.stop) place) bs ≡ Some b

answer_last : (ends : List ℕ) (bs : List Outer) (closed : ℕ) (places : List ℕ) (k : ℕ) (b : Outer) → slice_get (answers_from ends bs closed places) (suc k) ≡ Some b
    → Before ends bs (answers_from ends bs closed places) places k b
answer_last ends bs closed [] k b e = cc
answer_last ends bs closed (p ∷ places) k b e = go (first_from (max closed p) bs) k (λ r k e. answer_last ends bs r places k b e) e
  where
    second : (c : Outer) (q : ℕ) (places : List ℕ) (o : Option Outer) → first_from (max (end_after ends c.stop) q) bs ≡ o
        → slice_get (if_found o [] (λ d. d ∷ answers_from ends bs (end_after ends d.stop) places)) 0 ≡ Some b → first_from (max (end_after ends c.stop) q) bs ≡ Some b
    second c q places None f e = cc
    second c q places (Some d) f e = let s : d ≡ b = cc in f ∙ ap (λ d. Some d) s

    first : (c : Outer) (places : List ℕ) → slice_get (answers_from ends bs (end_after ends c.stop) places) 0 ≡ Some b
        → Before ends bs (c ∷ answers_from ends bs (end_after ends c.stop) places) (p ∷ places) 0 b
    first c [] e = cc
    first c (q ∷ places) e = record { answer = c; place = q; is = refl; at = refl; first = second c q places (first_from (max (end_after ends c.stop) q) bs) refl e }

    go : (o : Option Outer) (k : ℕ) → ((r k : ℕ) → slice_get (answers_from ends bs r places) (suc k) ≡ Some b → Before ends bs (answers_from ends bs r places) places k b)
        → slice_get (if_found o [] (λ c. c ∷ answers_from ends bs (end_after ends c.stop) places)) (suc k) ≡ Some b
        → Before ends bs (if_found o [] (λ c. c ∷ answers_from ends bs (end_after ends c.stop) places)) (p ∷ places) k b
    go None k ih e = cc
    go (Some c) zero ih e = first c places e
    go (Some c) (suc k) ih e = let r = ih (end_after ends c.stop) k e in record { answer = r.answer; place = r.place; is = r.is; at = r.at; first = r.first }

pub answer_lies : (ends : List ℕ) (bs : List Outer) (n closed : ℕ) (places : List ℕ) (k : ℕ) (a : Outer) → LieWithin 0 n bs → slice_get (answers_from ends bs closed places) k ≡ Some a → (0 < a.stop) × (a.stop ≤ n)
answer_lies ends bs n closed [] k a l e = cc
answer_lies ends bs n closed (p ∷ places) k a l e = go (first_from (max closed p) bs) refl k (λ r k e. answer_lies ends bs n r places k a l e) e
  where
    go : (o : Option Outer) → first_from (max closed p) bs ≡ o → (k : ℕ) → ((r k : ℕ) → slice_get (answers_from ends bs r places) k ≡ Some a → (0 < a.stop) × (a.stop ≤ n))
        → slice_get (if_found o [] (λ c. c ∷ answers_from ends bs (end_after ends c.stop) places)) k ≡ Some a → (0 < a.stop) × (a.stop ≤ n)
    go None f k ih e = cc
    go (Some c) f zero ih e = let s : c ≡ a = cc in found-stop 0 n (max closed p) bs a l (f ∙ ap (λ c. Some c) s)
    go (Some c) f (suc k) ih e = ih (end_after ends c.stop) k e

-- The law.

pub reads_lie : (s : List ℕ) (blocks : List Outer) (fault : Option Kind) → Reads s blocks fault → LieWithin 0 (length s) blocks
reads_lie s blocks None h = stream_lies limits s blocks h.0.0 h.0.1
reads_lie s blocks (Some kind) h =
    let f = h.1 in
    let e : length s ≡ length f.front + length f.rest = ap length f.is ∙ length-append f.front f.rest in
    LieWithin-wider 0 (length f.front) 0 (length s) blocks (omega arith) (omega arith) (stream_lies limits f.front blocks f.tail f.stream)

pub listed : (past : List Event) (blocks : List Outer) (k : ℕ) (b : Outer) → IsAnswer past blocks k b → slice_get (answers_of past blocks) k ≡ Some b
listed past blocks _ _ (banner b e) = rw e refl
listed past blocks _ _ (next k e f a b before closes accepts first) =
    let p = place_is 0 past f accepts.0 accepts.1 in
    let n : length (items_of (take f past)) ≡ k = omega (arith, accepts.2) in
    let q : slice_get (asked_places past) (suc k) ≡ Some (length_after past (suc f)) = subst (λ (n : ℕ). slice_get (places_from 0 past) n ≡ Some (length_after past (suc f))) n (p ∙ (let z : 0 + length_after past (suc f) ≡ length_after past (suc f) = omega arith in ap (λ n. Some n) z)) in
    let c : end_after (ends_from 0 past) a.stop ≡ length_after past (suc e) = end_is 0 past a.stop e (omega (arith, closes.0)) (omega (arith, closes.1)) ∙ omega arith in
    let m : max (end_after (ends_from 0 past) a.stop) (length_after past (suc f)) ≡ length_after past (suc (max e f)) = ap (λ n. max n (length_after past (suc f))) c ∙ sym (after_later past e f) in
    answer_next (ends_from 0 past) blocks 0 (asked_places past) k a (length_after past (suc f)) b (listed past blocks k a before) q (ap (λ n. first_from n blocks) m ∙ first)

first_answer : (ends : List ℕ) (bs : List Outer) (places : List ℕ) (b : Outer) (o : Option Outer) → slice_get (if_found o [] (λ c. c ∷ answers_from ends bs (end_after ends c.stop) places)) 0 ≡ Some b → o ≡ Some b
first_answer ends bs places b None e = cc
first_answer ends bs places b (Some c) e = e

same_later : (n x y p q : ℕ) → n ≡ max x y → p ≡ 0 + x → q ≡ 0 + y → n ≡ max p q
same_later n x y p q h e f = omega arith

pub by_events : (past : List Event) (blocks : List Outer) → LieWithin 0 (length (stream_of past)) blocks → (k : ℕ) (b : Outer) → slice_get (answers_of past blocks) k ≡ Some b → IsAnswer past blocks k b
by_events past blocks l zero b e = banner b (first_answer (ends_from 0 past) blocks (places_from 0 past) b (first_from 0 blocks) e)
by_events past blocks l (suc k) b e =
    let r = answer_last (ends_from 0 past) blocks 0 (asked_places past) k b e in
    let s = answer_lies (ends_from 0 past) blocks (length (stream_of past)) 0 (asked_places past) k r.answer l r.is in
    let c = closed_in_some 0 past r.answer.stop s.0 (omega (arith, s.1)) in
    let f = accepted_in_some 0 past k r.place r.at in
    let p : Some r.place ≡ Some (0 + length_after past (suc f.0)) = sym r.at ∙ subst (λ (n : ℕ). slice_get (places_from 0 past) n ≡ Some (0 + length_after past (suc f.0))) f.3 (place_is 0 past f.0 f.1 f.2) in
    let q : r.place ≡ 0 + length_after past (suc f.0) = cc in
    let d : end_after (ends_from 0 past) r.answer.stop ≡ 0 + length_after past (suc c.0) = end_is 0 past r.answer.stop c.0 c.1 c.2 in
    let m : length_after past (suc (max c.0 f.0)) ≡ max (end_after (ends_from 0 past) r.answer.stop) r.place = same_later (length_after past (suc (max c.0 f.0))) (length_after past (suc c.0)) (length_after past (suc f.0)) (end_after (ends_from 0 past) r.answer.stop) r.place (after_later past c.0 f.0) d q in
    next k c.0 f.0 r.answer b (by_events past blocks l k r.answer r.is) (omega (arith, c.1), omega (arith, c.2)) (f.1, f.2, ap suc f.3) (ap (λ n. first_from n blocks) m ∙ r.first)

pub answers_by_ask_points : AnswersByAskPoints
answers_by_ask_points past blocks fault h k b = (listed past blocks k b, by_events past blocks (reads_lie (stream_of past) blocks fault h) k b)
