-- What is sent against the item that an event asks.
use Rattle.std.proofs.Common.{◌≡◌, ℕ, ◌+◌, ◌<◌, ◌≤◌, List, [], ◌∷◌, ◌++◌, length, take, drop, refl, ap, sym, ◌∙◌, subst, arith, Bool, true, false, Option, Some, None, suc, zero, length-append}
use Rattle.std.specs.Prelude.{nat_le, slice_get, option_map, option_to_list}
use Rattle.std.proofs.Math.Seq.{take-append_seam}
use Rattle.std.proofs.lemmas.Option.{slice_get_within}
use Rattle.std.proofs.lemmas.List.{append-nil, drop_all, length-drop, take_all}
use Rattle.std.proofs.lemmas.Bool.Decides.{nat_tests}
use Rattle.meta_format.specs.Stream.{Outer}
use Rattle.meta_format.specs.Reader.{CloseWithin}
use Rattle.plugin_core.specs.declared.item.Item.{Item}
use Rattle.plugin_core.specs.Past.{Event, accepted, received, stream_of, items_of, ends_from}
use Rattle.plugin_core.specs.Answers.{asked_places, answers_of, ask_of}
use Rattle.plugin_core.specs.Items.{unanswered, bytes_of}
use Rattle.plugin_core.specs.Steps.{sent_by}
use Rattle.plugin_core.specs.Kept.{has_banner}
use Rattle.plugin_core.specs.inside.Changes.{closed_among, sent_for}
use Rattle.plugin_core.specs.AskPoints.{length_after, IsAskedIn, SendsWhatIsAsked}
use Rattle.plugin_core.proofs.Pasts.{stream_of-received, stream_of-accepted, items_of-received}
use Rattle.plugin_core.proofs.Spans.{LieWithin, LieWithin-following, LieWithin-closed}
use Rattle.plugin_core.proofs.Asks.{found-stop}
use Rattle.plugin_core.proofs.OneMore.{Adds, answers_of-accepted, sent_by-accepted, answers_of-received, sent_by-received, next_item}
use Rattle.plugin_core.proofs.Pieces.{slice_get-drop}
use Rattle.plugin_core.proofs.ByAskPoints.{after_mono, closed_in_some, answer_lies, listed, by_events, reads_lie}

-- The last event of a past.

last_is : {X : Type 0} (xs : List X) (x : X) → slice_get (xs ++ x ∷ []) (length xs) ≡ Some x
last_is [] x = refl
last_is (y ∷ xs) x = last_is xs x

before_last : (past : List Event) (e : Event) → length_after (past ++ e ∷ []) (length past) ≡ length (stream_of past)
before_last past e = ap (λ (ts : List Event). length (stream_of ts)) (take-append_seam past (e ∷ []))

after_last : (past : List Event) (e : Event) → length_after (past ++ e ∷ []) (suc (length past)) ≡ length (stream_of (past ++ e ∷ []))
after_last past e = ap (λ (ts : List Event). length (stream_of ts)) (take_all (suc (length past)) (past ++ e ∷ []) (omega (arith, length-append past (e ∷ []))))

-- The events that accept the items.

accepted_at : (past : List Event) (k : ℕ) (i : Item) → slice_get (items_of past) k ≡ Some i
    → (f : ℕ) × (slice_get past f ≡ Some (accepted i)) × (length (items_of (take f past)) ≡ k) × (f < length past)
accepted_at [] k i e = cc
accepted_at (accepted j ∷ past) zero i e = let s : j ≡ i = cc in (0, ap (λ (j : Item). Some (accepted j)) s, refl, omega arith)
accepted_at (accepted j ∷ past) (suc k) i e = let r = accepted_at past k i e in (suc r.0, r.1, ap suc r.2, omega (arith, r.3))
accepted_at (received q ∷ past) k i e = let r = accepted_at past k i e in (suc r.0, r.1, r.2, omega (arith, r.3))

item_at : (past : List Event) (f : ℕ) (i : Item) → slice_get past f ≡ Some (accepted i) → slice_get (items_of past) (length (items_of (take f past))) ≡ Some i
item_at [] f i e = cc
item_at (accepted j ∷ past) zero i e = let s : j ≡ i = cc in ap (λ (j : Item). Some j) s
item_at (accepted j ∷ past) (suc f) i e = item_at past f i e
item_at (received q ∷ past) zero i e = cc
item_at (received q ∷ past) (suc f) i e = item_at past f i e

-- Places in lists.

some_in : {X : Type 0} (xs : List X) (k : ℕ) → k < length xs → (x : X) × (slice_get xs k ≡ Some x)
some_in [] k h = absurd (omega arith)
some_in (y ∷ xs) zero h = (y, refl)
some_in (y ∷ xs) (suc k) h = some_in xs k (omega arith)

at_end : {X : Type 0} (xs : List X) (o : Option X) (k : ℕ) (x : X) → slice_get (xs ++ option_to_list o) k ≡ Some x → length xs ≤ k → (k ≡ length xs) × (o ≡ Some x)
at_end [] None k x e h = cc
at_end [] (Some y) zero x e h = (refl, e)
at_end [] (Some y) (suc k) x e h = cc
at_end (y ∷ xs) o zero x e h = absurd (omega arith)
at_end (y ∷ xs) o (suc k) x e h = let r = at_end xs o k x e (omega arith) in (ap suc r.0, r.1)

at_front : {X : Type 0} (xs ys : List X) (k : ℕ) (x : X) → slice_get (xs ++ ys) k ≡ Some x → k < length xs → slice_get xs k ≡ Some x
at_front [] ys k x e h = absurd (omega arith)
at_front (z ∷ zs) ys zero x e h = e
at_front (z ∷ zs) ys (suc k) x e h = at_front zs ys k x e (omega arith)

-- An event that closes a block of a stream which was whole before the last event is an earlier one.
closes_before : (past : List Event) (e : Event) (closing stop : ℕ) → length_after (past ++ e ∷ []) closing < stop → stop ≤ length (stream_of past) → closing < length past
closes_before past e closing stop lo hi = go (nat_le (length past) closing) refl
  where
    go : (t : Bool) → nat_le (length past) closing ≡ t → closing < length past
    go true h =
        let k : length past ≤ closing = grind (arith, nat_tests) in
        let m = after_mono (past ++ e ∷ []) (length past) closing k in
        absurd (omega (arith, m, before_last past e))
    go false h = grind (arith, nat_tests)

-- A piece.

received_asks : (ts : List Event) (p : List ℕ) (bs fs : List Outer) → Adds ts bs p fs → LieWithin 0 (length (stream_of (ts ++ received p ∷ []))) (bs ++ fs)
    → (bytes : List ℕ) → sent_by ts bs (received p) (bs ++ fs) ≡ Some bytes → (item : Item) × IsAskedIn (ts ++ received p ∷ []) (bs ++ fs) (length ts) item × (bytes ≡ bytes_of item)
received_asks ts p bs fs a l bytes e = closing (closed_among (ask_of ts bs) fs) refl (sym (sent_by-received ts bs p fs a) ∙ e)
  where
    stops : (b : Outer) (o : Option ℕ) → closed_among o fs ≡ Some b → (length (stream_of ts) < b.stop) × (b.stop ≤ length (stream_of ts) + length p)
    stops b None e = cc
    stops b (Some place) e = found-stop (length (stream_of ts)) (length (stream_of ts) + length p) place fs b a.fresh e

    asks : (b : Outer) → closed_among (ask_of ts bs) fs ≡ Some b → (o : Option Item) → slice_get (drop (length (answers_of ts bs)) (items_of ts)) 0 ≡ o → option_map bytes_of o ≡ Some bytes
        → (item : Item) × IsAskedIn (ts ++ received p ∷ []) (bs ++ fs) (length ts) item × (bytes ≡ bytes_of item)
    asks b c None d e = cc
    asks b c (Some i) d e =
        let s = stops b (ask_of ts bs) c in
        let f = accepted_at (ts ++ received p ∷ []) (length (answers_of ts bs)) i
        (ap (λ (is : List Item). slice_get is (length (answers_of ts bs))) (items_of-received ts p) ∙ sym (slice_get-drop (length (answers_of ts bs)) (items_of ts)) ∙ d) in (
          i,
          record {
            number = length (answers_of ts bs);
            before = b;
            closing = length ts;
            accepting = f.0;
            answer = by_events (ts ++ received p ∷ []) (bs ++ fs) l (length (answers_of ts bs)) b
                (ap (λ (xs : List Outer). slice_get xs (length (answers_of ts bs))) (answers_of-received ts bs p fs a ∙ ap (λ (o : Option Outer). answers_of ts bs ++ option_to_list o) c) ∙ last_is (answers_of ts bs) b);
            closes = (
              omega (arith, s.0, before_last ts (received p)),
              omega (arith, s.1, after_last ts (received p), ap length (stream_of-received ts p), length-append (stream_of ts) p),
            );
            accepts = (i, f.1, ap suc f.2);
            is = refl;
            later = omega (arith, f.3, length-append ts (received p ∷ []));
          },
          cc,
        )

    closing : (o : Option Outer) → closed_among (ask_of ts bs) fs ≡ o → option_map bytes_of (next_item o (drop (length (answers_of ts bs)) (items_of ts))) ≡ Some bytes
        → (item : Item) × IsAskedIn (ts ++ received p ∷ []) (bs ++ fs) (length ts) item × (bytes ≡ bytes_of item)
    closing None c e = cc
    closing (Some b) c e = asks b c (slice_get (drop (length (answers_of ts bs)) (items_of ts)) 0) refl e

-- the piece closes the answer before
closes_last : (ts : List Event) (p : List ℕ) (bs : List Outer) (i : Item) (h : IsAskedIn (ts ++ received p ∷ []) bs (length ts) i) → h.closing ≡ length ts
closes_last ts p bs i h = go (nat_le (length ts) h.closing) refl
  where
    go : (t : Bool) → nat_le (length ts) h.closing ≡ t → h.closing ≡ length ts
    go true e = let k : length ts ≤ h.closing = grind (arith, nat_tests) in omega (arith, h.later)
    go false e =
        let k : h.closing < length ts = grind (arith, nat_tests) in
        let m : h.accepting ≡ length ts = omega (arith, h.later) in
        let x : slice_get (ts ++ received p ∷ []) (length ts) ≡ Some (accepted h.accepts.0) = subst (λ (n : ℕ). slice_get (ts ++ received p ∷ []) n ≡ Some (accepted h.accepts.0)) m h.accepts.1 in
        let y : Some (received p) ≡ Some (accepted h.accepts.0) = sym (last_is ts (received p)) ∙ x in
        cc

received_sends : (ts : List Event) (p : List ℕ) (bs fs : List Outer) → Adds ts bs p fs → (i : Item) → IsAskedIn (ts ++ received p ∷ []) (bs ++ fs) (length ts) i
    → sent_by ts bs (received p) (bs ++ fs) ≡ Some (bytes_of i)
received_sends ts p bs fs a i h = go (nat_le (length (answers_of ts bs)) h.number) refl
  where
    late : length (stream_of ts) < h.before.stop
    late =
        let c : length_after (ts ++ received p ∷ []) (length ts) < h.before.stop = subst (λ (n : ℕ). length_after (ts ++ received p ∷ []) n < h.before.stop) (closes_last ts p (bs ++ fs) i h) h.closes.0 in
        omega (arith, c, before_last ts (received p))

    in_list : slice_get (answers_of ts bs ++ option_to_list (closed_among (ask_of ts bs) fs)) h.number ≡ Some h.before
    in_list = ap (λ (xs : List Outer). slice_get xs h.number) (sym (answers_of-received ts bs p fs a)) ∙ listed (ts ++ received p ∷ []) (bs ++ fs) h.number h.before h.answer

    go : (t : Bool) → nat_le (length (answers_of ts bs)) h.number ≡ t → sent_by ts bs (received p) (bs ++ fs) ≡ Some (bytes_of i)
    go true e =
        let k : length (answers_of ts bs) ≤ h.number = grind (arith, nat_tests) in
        let r = at_end (answers_of ts bs) (closed_among (ask_of ts bs) fs) h.number h.before in_list k in
        let m : length (items_of (take h.accepting (ts ++ received p ∷ []))) ≡ length (answers_of ts bs) = omega (arith, h.accepts.2, r.0) in
        let x : slice_get (items_of ts) (length (answers_of ts bs)) ≡ Some i =
        ap (λ (is : List Item). slice_get is (length (answers_of ts bs))) (sym (items_of-received ts p))
        ∙ subst (λ (n : ℕ). slice_get (items_of (ts ++ received p ∷ [])) n ≡ Some h.accepts.0) m (item_at (ts ++ received p ∷ []) h.accepting h.accepts.0 h.accepts.1)
        ∙ ap (λ (j : Item). Some j) h.is in
        sent_by-received ts bs p fs a
        ∙ ap (λ (o : Option Outer). option_map bytes_of (next_item o (drop (length (answers_of ts bs)) (items_of ts)))) r.1
        ∙ ap (λ (o : Option Item). option_map bytes_of o) (slice_get-drop (length (answers_of ts bs)) (items_of ts) ∙ x)
    go false e =
        let k : h.number < length (answers_of ts bs) = grind (arith, nat_tests) in
        let s = answer_lies (ends_from 0 ts) bs (length (stream_of ts)) 0 (asked_places ts) h.number h.before a.old (at_front (answers_of ts bs) (option_to_list (closed_among (ask_of ts bs) fs)) h.number h.before in_list k) in
        absurd (omega (arith, s.1, late))

-- An item.

sent_for_some : (fs : List Outer) (is : List Item) (i : Item) (bytes : List ℕ) → sent_for (has_banner fs) (unanswered fs is) i ≡ Some bytes → (length is < length fs) × (bytes ≡ bytes_of i)
sent_for_some [] is i bytes e = cc
sent_for_some (f ∷ fs) is i bytes e = go (drop (length fs) is) refl e
  where
    go : (waiting : List Item) → drop (length fs) is ≡ waiting → sent_for true waiting i ≡ Some bytes → (length is < length (f ∷ fs)) × (bytes ≡ bytes_of i)
    go [] d e = (omega (arith, ap length d, length-drop (length fs) is), cc)
    go (j ∷ rest) d e = cc

sent_for_is : (fs : List Outer) (is : List Item) (i : Item) → length is < length fs → sent_for (has_banner fs) (unanswered fs is) i ≡ Some (bytes_of i)
sent_for_is [] is i h = absurd (omega arith)
sent_for_is (f ∷ fs) is i h = let d : drop (length fs) is ≡ [] = drop_all (length fs) is (omega arith) in rw d refl

seam_items : (ts : List Event) (e : Event) → length (items_of (take (length ts) (ts ++ e ∷ []))) ≡ length (items_of ts)
seam_items ts e = ap (λ (past : List Event). length (items_of past)) (take-append_seam ts (e ∷ []))

accepted_asks : (ts : List Event) (i : Item) (bs : List Outer) → LieWithin 0 (length (stream_of ts)) bs → (bytes : List ℕ) → sent_by ts bs (accepted i) bs ≡ Some bytes
    → (item : Item) × IsAskedIn (ts ++ accepted i ∷ []) bs (length ts) item × (bytes ≡ bytes_of item)
accepted_asks ts i bs l bytes e =
    let s = sent_for_some (answers_of ts bs) (items_of ts) i bytes (sent_by-accepted ts bs i l ∙ e) in
    let b = some_in (answers_of ts bs) (length (items_of ts)) s.0 in
    let z = answer_lies (ends_from 0 ts) bs (length (stream_of ts)) 0 (asked_places ts) (length (items_of ts)) b.0 l b.1 in
    let all : length (stream_of (ts ++ accepted i ∷ [])) ≡ length (stream_of ts) = ap length (stream_of-accepted ts i) in
    let c = closed_in_some 0 (ts ++ accepted i ∷ []) b.0.stop z.0 (omega (arith, z.1, all)) in
    let w = closes_before ts (accepted i) c.0 b.0.stop (omega (arith, c.1)) z.1 in (
      i,
      record {
        number = length (items_of ts);
        before = b.0;
        closing = c.0;
        accepting = length ts;
        answer = by_events (ts ++ accepted i ∷ []) bs (subst (λ (n : ℕ). LieWithin 0 n bs) (sym all) l) (length (items_of ts)) b.0
            (ap (λ (xs : List Outer). slice_get xs (length (items_of ts))) (answers_of-accepted ts bs i l) ∙ b.1);
        closes = (omega (arith, c.1), omega (arith, c.2));
        accepts = (i, last_is ts (accepted i), ap suc (seam_items ts (accepted i)));
        is = refl;
        later = omega (arith, w);
      },
      s.1,
    )

accepted_sends : (ts : List Event) (j : Item) (bs : List Outer) → LieWithin 0 (length (stream_of ts)) bs → (i : Item) → IsAskedIn (ts ++ accepted j ∷ []) bs (length ts) i
    → sent_by ts bs (accepted j) bs ≡ Some (bytes_of i)
accepted_sends ts j bs l i h =
    let e : slice_get (answers_of ts bs) h.number ≡ Some h.before = ap (λ (xs : List Outer). slice_get xs h.number) (sym (answers_of-accepted ts bs j l)) ∙ listed (ts ++ accepted j ∷ []) bs h.number h.before h.answer in
    let z = answer_lies (ends_from 0 ts) bs (length (stream_of ts)) 0 (asked_places ts) h.number h.before l e in
    let w = closes_before ts (accepted j) h.closing h.before.stop h.closes.0 z.1 in
    let m : h.accepting ≡ length ts = omega (arith, w, h.later) in
    let x : slice_get (ts ++ accepted j ∷ []) (length ts) ≡ Some (accepted h.accepts.0) = subst (λ (n : ℕ). slice_get (ts ++ accepted j ∷ []) n ≡ Some (accepted h.accepts.0)) m h.accepts.1 in
    let y : Some (accepted j) ≡ Some (accepted h.accepts.0) = sym (last_is ts (accepted j)) ∙ x in
    let same : j ≡ h.accepts.0 = cc in
    let n : suc (length (items_of ts)) ≡ suc h.number = ap suc (sym (seam_items ts (accepted j))) ∙ subst (λ (n : ℕ). suc (length (items_of (take n (ts ++ accepted j ∷ [])))) ≡ suc h.number) m h.accepts.2 in
    let k : length (items_of ts) < length (answers_of ts bs) = omega (arith, n, slice_get_within (answers_of ts bs) h.number h.before e) in
    sym (sent_by-accepted ts bs j l) ∙ sent_for_is (answers_of ts bs) (items_of ts) j k ∙ ap (λ (i : Item). Some (bytes_of i)) (same ∙ h.is)

-- The law.

none_closes : (n m : ℕ) (fs : List Outer) → m ≤ n → CloseWithin n m fs → fs ≡ []
none_closes n m [] h c = refl
none_closes n m (f ∷ fs) h c = absurd (omega (arith, c.0, c.1))

pub sends_what_is_asked : SendsWhatIsAsked
sends_what_is_asked past (accepted i) before more fault old new late bytes =
    let l = reads_lie (stream_of past) before None old in
    let none : more ≡ [] = none_closes (length (stream_of past)) (length (stream_of (past ++ accepted i ∷ []))) more (omega (arith, ap length (stream_of-accepted past i))) late in
    let same : before ++ more ≡ before = ap (λ (fs : List Outer). before ++ fs) none ∙ append-nil before in
    (λ sent. accepted_law past i before (before ++ more) (sym same) bytes l sent, λ asked. accepted_back past i before (before ++ more) (sym same) bytes l asked)
  where
    accepted_law : (past : List Event) (i : Item) (before all : List Outer) → before ≡ all → (bytes : List ℕ) → LieWithin 0 (length (stream_of past)) before → sent_by past before (accepted i) all ≡ Some bytes
        → (item : Item) × IsAskedIn (past ++ accepted i ∷ []) all (length past) item × (bytes ≡ bytes_of item)
    accepted_law past i before all same bytes l =
        subst (λ (all : List Outer). sent_by past before (accepted i) all ≡ Some bytes → (item : Item) × IsAskedIn (past ++ accepted i ∷ []) all (length past) item × (bytes ≡ bytes_of item)) same (accepted_asks past i before l bytes)

    accepted_back : (past : List Event) (i : Item) (before all : List Outer) → before ≡ all → (bytes : List ℕ) → LieWithin 0 (length (stream_of past)) before
        → ((item : Item) × IsAskedIn (past ++ accepted i ∷ []) all (length past) item × (bytes ≡ bytes_of item)) → sent_by past before (accepted i) all ≡ Some bytes
    accepted_back past i before all same bytes l =
        subst (λ (all : List Outer). ((item : Item) × IsAskedIn (past ++ accepted i ∷ []) all (length past) item × (bytes ≡ bytes_of item)) → sent_by past before (accepted i) all ≡ Some bytes) same
        (λ asked. accepted_sends past i before l asked.0 asked.1 ∙ ap (λ (b : List ℕ). Some b) (sym asked.2))
sends_what_is_asked past (received p) before more fault old new late bytes =
    let l = reads_lie (stream_of past) before None old in
    let all = reads_lie (stream_of (past ++ received p ∷ [])) (before ++ more) fault new in
    let end : length (stream_of (past ++ received p ∷ [])) ≡ length (stream_of past) + length p = ap length (stream_of-received past p) ∙ length-append (stream_of past) p in
    let a : Adds past before p more = record {
      old = l;
      fresh = subst (λ (m : ℕ). LieWithin (length (stream_of past)) m more) end (LieWithin-closed (length (stream_of past)) (length (stream_of (past ++ received p ∷ []))) (length (stream_of (past ++ received p ∷ []))) more
          (LieWithin-following 0 (length (stream_of (past ++ received p ∷ []))) before more all) late);
    } in
    (λ sent. received_asks past p before more a all bytes sent, λ asked. received_sends past p before more a asked.0 asked.1 ∙ ap (λ (b : List ℕ). Some b) (sym asked.2))
