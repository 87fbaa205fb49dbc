-- What a life keeps and tells, after one more item or one more piece.
use Rattle.std.proofs.Common.{◌≡◌, ℕ, ◌+◌, List, [], ◌∷◌, ◌++◌, length, drop, refl, ap, sym, ◌∙◌, subst, arith, true, false, Option, Some, None, suc, zero, unwrap_or, length-append}
use Rattle.std.specs.Prelude.{is_some, option_to_list, slice_get, option_map, option_and_then}
use Rattle.std.proofs.lemmas.List.{append-nil, drop-drop}
use Rattle.block_tree.specs.Tree.{Tree}
use Rattle.block_tree.specs.Output.{output}
use Rattle.meta_format.specs.Limits.{limits}
use Rattle.meta_format.specs.Stream.{Outer}
use Rattle.meta_format.specs.Faults.{Kind, bad_tag, too_deep, too_long}
use Rattle.meta_format.specs.Reader.{ReaderView, Faults, CloseWithin, Explains, found_before}
use Rattle.meta_format.specs.Found.{outers}
use Rattle.meta_format.specs.declared.reader.FeedFault.{FeedFault}
use Rattle.meta_format.specs.declared.reader.FeedFault.TheVariants as fault
use Rattle.meta_format.specs.Reader.{ReaderHasRead}
use Rattle.plugin_core.specs.declared.item.Item.{Item}
use Rattle.plugin_core.specs.declared.step.Answered.{Answered}
use Rattle.plugin_core.specs.declared.step.Ended.{Ended}
use Rattle.plugin_core.specs.declared.step.Step.{Step}
use Rattle.plugin_core.specs.declared.piece.Closing.{Closing}
use Rattle.plugin_core.specs.Past.{Event, accepted, received, stream_of, items_of}
use Rattle.plugin_core.specs.Answers.{answers_of, ask_of}
use Rattle.plugin_core.specs.Blocks.{prompt_after}
use Rattle.plugin_core.specs.inside.Words.{prompt_in, default_in, first_prompt, answered_with}
use Rattle.plugin_core.specs.Items.{unanswered, waiting_of, prompt_of, bytes_of, answer_to, answer_following}
use Rattle.plugin_core.specs.Steps.{reason_of, closed_by, sent_by, step_of}
use Rattle.plugin_core.specs.Kept.{InterpreterView, LifeHasPast, Accepts, Takes, has_banner}
use Rattle.plugin_core.specs.inside.Changes.{answer_first, waiting_then, ask_then, Joins, closed_among, closing_by, waiting_after, Passes, Breaks, EndsAt}
use Rattle.plugin_core.proofs.Pasts.{stream_of-received, stream_of-accepted, items_of-received}
use Rattle.plugin_core.proofs.Spans.{LieWithin, LieWithin-following, LieWithin-closed, stream_lies}
use Rattle.plugin_core.proofs.Reported.{reported-received, silent-received}
use Rattle.plugin_core.proofs.OneMore.{answers_of-accepted, waiting_of-accepted, ask_now-accepted, sent_by-accepted, Adds, answers_of-received, ask_of-received, closed_by-received, sent_by-received, next_ask, next_item}

kept_lies : (k : ReaderView) (s : List ℕ) (bs : List Outer) → ReaderHasRead limits k s bs → LieWithin 0 (length s) bs
kept_lies k s bs h = stream_lies limits s bs h.tail h.stream

-- A life that takes an item goes on.
pub takes_item : (old new : InterpreterView) (ts : List Event) (bs : List Outer) (i : Item) → LifeHasPast old ts bs → (sent : Option (List ℕ)) → Joins old new i sent
    → Accepts ts bs i sent new
takes_item old new ts bs i s sent j =
    let l = kept_lies old.reader (stream_of ts) bs s.reader in
    let a = answers_of-accepted ts bs i l in
    record {
      answers = a;
      waiting = waiting_of-accepted ts bs i l;
      gives = j.sent ∙ (rw (s.greeted, s.waiting) (sent_by-accepted ts bs i l));
      then = record {
        goes_on = j.over ∙ s.goes_on;
        reader = subst (λ (r : ReaderView). ReaderHasRead limits r (stream_of (ts ++ accepted i ∷ [])) bs) (sym j.reader)
            (subst (λ (b : List ℕ). ReaderHasRead limits old.reader b bs) (sym (stream_of-accepted ts i)) s.reader);
        ask = j.ask ∙ (rw (s.greeted, s.waiting, s.ask, s.reader.offset) (ask_now-accepted ts bs i l));
        greeted = j.greeted ∙ s.greeted ∙ ap has_banner (sym a);
        waiting = j.waiting ∙ ap (λ q. q ++ i ∷ []) s.waiting ∙ sym (waiting_of-accepted ts bs i l);
        prompt = j.prompt ∙ s.prompt ∙ ap (λ fs. prompt_after first_prompt fs) (sym a);
      };
    }

-- One more answer.

unanswered-next : (fs : List Outer) (b : Outer) (is : List Item) → unanswered (fs ++ b ∷ []) is ≡ drop (length fs) is
unanswered-next [] b is = refl
unanswered-next (f ∷ fs) b is = let e : length (fs ++ b ∷ []) ≡ suc (length fs) = omega (arith, length-append fs (b ∷ [])) in ap (λ n. drop n is) e

waiting_then-next : (fs : List Outer) (is : List Item) → waiting_then (has_banner fs) (unanswered fs is) ≡ drop (length fs) is
waiting_then-next [] is = refl
waiting_then-next (f ∷ fs) is = let e : length fs + 1 ≡ suc (length fs) = omega arith in drop-drop 1 (length fs) is ∙ ap (λ n. drop n is) e

has_banner-next : (fs : List Outer) (b : Outer) → has_banner (fs ++ b ∷ []) ≡ true
has_banner-next [] b = refl
has_banner-next (f ∷ fs) b = refl

prompt_after-next : (q : List ℕ) (fs : List Outer) (b : Outer) → prompt_after q (fs ++ b ∷ []) ≡ unwrap_or (prompt_in b.block) (prompt_after q fs)
prompt_after-next q [] b = refl
prompt_after-next q (f ∷ fs) b = prompt_after-next (unwrap_or (prompt_in f.block) q) fs b

pub slice_get-drop : {X : Type 0} (k : ℕ) (xs : List X) → slice_get (drop k xs) 0 ≡ slice_get xs k
slice_get-drop zero [] = refl
slice_get-drop zero (x ∷ xs) = refl
slice_get-drop (suc k) [] = refl
slice_get-drop (suc k) (x ∷ xs) = slice_get-drop k xs

answer_first-following : (fs : List Outer) (is : List Item) (q : List ℕ) (b : Tree) → answer_following fs is q b ≡ answer_first (has_banner fs) (unanswered fs is) q (output b)
answer_first-following [] is q b = refl
answer_first-following (f ∷ fs) is q b = go (drop (length fs) is) (slice_get is (length fs)) (slice_get-drop (length fs) is)
  where
    go : (rest : List Item) (o : Option Item) → slice_get rest 0 ≡ o → option_map (λ i. answer_to i q (output b)) o ≡ answer_first true rest q (output b)
    go [] o e = ap (λ (o : Option Item). option_map (λ i. answer_to i q (output b)) o) (sym e)
    go (i ∷ rest) o e = ap (λ (o : Option Item). option_map (λ i. answer_to i q (output b)) o) (sym e)

waiting_of-received : (ts : List Event) (bs : List Outer) (p : List ℕ) (fs : List Outer) (o : Option Outer) → Adds ts bs p fs → closed_among (ask_of ts bs) fs ≡ o
    → waiting_of (ts ++ received p ∷ []) (bs ++ fs) ≡ elim o [ None ↦ waiting_of ts bs | Some b ↦ drop (length (answers_of ts bs)) (items_of ts) ]
waiting_of-received ts bs p fs o a e =
    ap (λ xs. unanswered xs (items_of (ts ++ received p ∷ []))) (answers_of-received ts bs p fs a ∙ ap (λ o. answers_of ts bs ++ option_to_list o) e)
    ∙ ap (λ is. unanswered (answers_of ts bs ++ option_to_list o) is) (items_of-received ts p)
    ∙ go o
  where
    go : (o : Option Outer) → unanswered (answers_of ts bs ++ option_to_list o) (items_of ts) ≡ elim o [ None ↦ waiting_of ts bs | Some b ↦ drop (length (answers_of ts bs)) (items_of ts) ]
    go None = ap (λ xs. unanswered xs (items_of ts)) (append-nil (answers_of ts bs))
    go (Some b) = unanswered-next (answers_of ts bs) b (items_of ts)

-- A piece.

-- the reader of a life was fed, and the items, the ask point and the prompt are as before
pub record Fed (old mid : InterpreterView) : Type 0 where
  pub ask : mid.ask ≡ old.ask
  pub greeted : mid.greeted ≡ old.greeted
  pub waiting : mid.waiting ≡ old.waiting
  pub prompt : mid.prompt ≡ old.prompt

same_step : (s : Step) (a : Option Answered) (d b : Option (List ℕ)) (e : Option Ended) → s.answered ≡ a → s.default_input ≡ d → s.send ≡ b → s.ended ≡ e → s ≡ record { answered = a; default_input = d; send = b; ended = e }
same_step s a d b e p q r t = rw (← p, ← q, ← r, ← t) refl

adds : (ts : List Event) (bs : List Outer) (p : List ℕ) (fs : List Outer) (n : ℕ) → LieWithin 0 (length (stream_of ts)) bs → LieWithin 0 n (bs ++ fs)
    → CloseWithin (length (stream_of ts)) (length (stream_of ts ++ p)) fs → Adds ts bs p fs
adds ts bs p fs n old all close = record {
  old = old;
  fresh = subst (λ (m : ℕ). LieWithin (length (stream_of ts)) m fs) (length-append (stream_of ts) p)
      (LieWithin-closed (length (stream_of ts)) (length (stream_of ts ++ p)) n fs (LieWithin-following 0 n bs fs all) close);
}

-- A piece that brings no fault.
pub passes_gives : (old mid new : InterpreterView) (ts : List Event) (bs : List Outer) (p : List ℕ) (fs : List Outer) (step : Step) → LifeHasPast old ts bs → Fed old mid → mid.over ≡ false
    → ReaderHasRead limits mid.reader (stream_of ts ++ p) (bs ++ fs) → CloseWithin (length (stream_of ts)) (length (stream_of ts ++ p)) fs
    → Passes (closed_among mid.ask fs) mid new step → Takes ts bs p step new
passes_gives old mid new ts bs p fs step s fed over taken close h =
    let parts = go (closed_among (ask_of ts bs) fs) refl (subst (λ (o : Option Outer). Passes o mid new step) (ap (λ ask. closed_among ask fs) (fed.ask ∙ s.ask)) h) in
    record {
      after = bs ++ fs;
      fault = None;
      reads = ((taken_now.tail, taken_now.stream), taken_now.no_fault);
      more = fs;
      grows = refl;
      late = subst (λ (t : List ℕ). CloseWithin (length (stream_of ts)) (length t) fs) (sym (stream_of-received ts p)) close;
      answers = answers_of-received ts bs p fs a ∙ ap (λ o. answers_of ts bs ++ option_to_list o) (sym (closed_by-received ts bs p fs a));
      gives = parts.0;
      reported = ap (λ (x : Step). is_some x.answered) parts.0 ∙ reported-received ts bs p fs None a;
      silent = λ none.
          let n = silent-received ts bs p fs None a none in
          (ap (λ (x : Step). x.default_input) parts.0 ∙ n.0, ap (λ (x : Step). x.send) parts.0 ∙ n.1);
      then = parts.1;
    }
  where
    taken_now : ReaderHasRead limits mid.reader (stream_of (ts ++ received p ∷ [])) (bs ++ fs)
    taken_now = subst (λ (t : List ℕ). ReaderHasRead limits mid.reader t (bs ++ fs)) (sym (stream_of-received ts p)) taken

    a : Adds ts bs p fs
    a = adds ts bs p fs _ (kept_lies old.reader (stream_of ts) bs s.reader) (kept_lies mid.reader (stream_of ts ++ p) (bs ++ fs) taken) close

    ask_next : (o : Option Outer) → closed_among (ask_of ts bs) fs ≡ o → next_ask o (ask_of ts bs) (drop (length (answers_of ts bs)) (items_of ts)) (length (stream_of ts) + length p) ≡ ask_of (ts ++ received p ∷ []) (bs ++ fs)
    ask_next o e = sym (ask_of-received ts bs p fs a ∙ ap (λ o. next_ask o (ask_of ts bs) (drop (length (answers_of ts bs)) (items_of ts)) (length (stream_of ts) + length p)) e)

    go : (o : Option Outer) → closed_among (ask_of ts bs) fs ≡ o → Passes o mid new step
        → (step ≡ step_of ts bs p (bs ++ fs) None) × LifeHasPast new (ts ++ received p ∷ []) (bs ++ fs)
    go None e h =
        let c : closed_by ts bs (received p) (bs ++ fs) ≡ None = closed_by-received ts bs p fs a ∙ e in
        let w : answers_of (ts ++ received p ∷ []) (bs ++ fs) ≡ answers_of ts bs = answers_of-received ts bs p fs a ∙ ap (λ o. answers_of ts bs ++ option_to_list o) e ∙ append-nil (answers_of ts bs) in
        let n : sent_by ts bs (received p) (bs ++ fs) ≡ None = sent_by-received ts bs p fs a ∙ ap (λ o. option_map bytes_of (next_item o (drop (length (answers_of ts bs)) (items_of ts)))) e in (
          same_step step _ _ _ _
              (ap (λ (x : Step). x.answered) h.1 ∙ sym (ap (λ o. option_and_then (answered_with ts bs) o) c))
              (ap (λ (x : Step). x.default_input) h.1 ∙ sym (ap (λ o. option_and_then (λ (b : Outer). default_in b.block) o) c))
              (ap (λ (x : Step). x.send) h.1 ∙ sym n)
              (ap (λ (x : Step). x.ended) h.1),
          subst (λ (l : InterpreterView). LifeHasPast l (ts ++ received p ∷ []) (bs ++ fs)) (sym h.0) record {
            goes_on = over;
            reader = taken_now;
            ask = fed.ask ∙ s.ask ∙ ask_next None e;
            greeted = fed.greeted ∙ s.greeted ∙ ap has_banner (sym w);
            waiting = fed.waiting ∙ s.waiting ∙ sym (waiting_of-received ts bs p fs None a e);
            prompt = fed.prompt ∙ s.prompt ∙ ap (λ xs. prompt_after first_prompt xs) (sym w);
          },
        )
    go (Some b) e h =
        let c : closed_by ts bs (received p) (bs ++ fs) ≡ Some b = closed_by-received ts bs p fs a ∙ e in
        let w : answers_of (ts ++ received p ∷ []) (bs ++ fs) ≡ answers_of ts bs ++ b ∷ [] = answers_of-received ts bs p fs a ∙ ap (λ o. answers_of ts bs ++ option_to_list o) e in
        let n : sent_by ts bs (received p) (bs ++ fs) ≡ option_map bytes_of (slice_get (drop (length (answers_of ts bs)) (items_of ts)) 0)
        = sent_by-received ts bs p fs a ∙ ap (λ o. option_map bytes_of (next_item o (drop (length (answers_of ts bs)) (items_of ts)))) e in
        let q : waiting_then mid.greeted mid.waiting ≡ drop (length (answers_of ts bs)) (items_of ts) = rw (fed.greeted, fed.waiting, s.greeted, s.waiting) (waiting_then-next (answers_of ts bs) (items_of ts)) in (
          same_step step _ _ _ _
              (h.0.answered ∙ rw (fed.greeted, fed.waiting, fed.prompt, s.greeted, s.waiting, s.prompt) (sym (answer_first-following (answers_of ts bs) (items_of ts) (prompt_of ts bs) b.block)) ∙ sym (ap (λ o. option_and_then (answered_with ts bs) o) c))
              (h.0.default_input ∙ sym (ap (λ o. option_and_then (λ (b : Outer). default_in b.block) o) c))
              (h.1 ∙ ap (λ (is : List Item). option_map bytes_of (slice_get is 0)) (h.0.waiting ∙ q) ∙ sym n)
              h.2,
          record {
            goes_on = h.0.over ∙ over;
            reader = subst (λ (r : ReaderView). ReaderHasRead limits r (stream_of (ts ++ received p ∷ [])) (bs ++ fs)) (sym h.0.reader) taken_now;
            ask = h.0.ask ∙ ap (λ is. ask_then is mid.reader.offset) q ∙ ap (λ n. ask_then (drop (length (answers_of ts bs)) (items_of ts)) n) (taken.offset ∙ length-append (stream_of ts) p) ∙ ask_next (Some b) e;
            greeted = h.0.greeted ∙ sym (ap has_banner w ∙ has_banner-next (answers_of ts bs) b);
            waiting = h.0.waiting ∙ q ∙ sym (waiting_of-received ts bs p fs (Some b) a e);
            prompt = h.0.prompt ∙ ap (λ (x : List ℕ). unwrap_or (prompt_in b.block) x) (fed.prompt ∙ s.prompt) ∙ sym (ap (λ xs. prompt_after first_prompt xs) w ∙ prompt_after-next first_prompt (answers_of ts bs) b);
          },
        )

closing_first : (old mid : InterpreterView) (ts : List Event) (bs : List Outer) (o : Option Outer) → LifeHasPast old ts bs → Fed old mid
    → closing_by o mid ≡ record { answered = option_and_then (answered_with ts bs) o; default_input = option_and_then (λ (b : Outer). default_in b.block) o }
closing_first old mid ts bs None s fed = refl
closing_first old mid ts bs (Some b) s fed = rw (fed.greeted, fed.waiting, fed.prompt, s.greeted, s.waiting, s.prompt, answer_first-following (answers_of ts bs) (items_of ts) (prompt_of ts bs) b.block) refl

waiting_after-received : (old mid : InterpreterView) (ts : List Event) (bs : List Outer) (p : List ℕ) (fs : List Outer) (o : Option Outer) → LifeHasPast old ts bs → Fed old mid → Adds ts bs p fs → closed_among (ask_of ts bs) fs ≡ o
    → waiting_after o mid ≡ waiting_of (ts ++ received p ∷ []) (bs ++ fs)
waiting_after-received old mid ts bs p fs None s fed a e = fed.waiting ∙ s.waiting ∙ sym (waiting_of-received ts bs p fs None a e)
waiting_after-received old mid ts bs p fs (Some b) s fed a e =
    rw (fed.greeted, fed.waiting, s.greeted, s.waiting) (waiting_then-next (answers_of ts bs) (items_of ts)) ∙ sym (waiting_of-received ts bs p fs (Some b) a e)

-- A piece that brings a fault.
pub breaks_gives : (old mid new : InterpreterView) (ts : List Event) (bs : List Outer) (p : List ℕ) (fs : List Outer) (at : ℕ) (kind : Kind) (step : Step) → LifeHasPast old ts bs → Fed old mid
    → Faults limits (stream_of ts ++ p) at kind (bs ++ fs) → CloseWithin (length (stream_of ts)) (length (stream_of ts ++ p)) fs
    → Breaks (closed_among mid.ask fs) mid new (reason_of kind) step → Takes ts bs p step new
breaks_gives old mid new ts bs p fs at kind step s fed fault close h =
    let a = adds ts bs p fs _ (kept_lies old.reader (stream_of ts) bs s.reader) (stream_lies limits fault.front (bs ++ fs) fault.tail fault.stream) close in
    let o = closed_among (ask_of ts bs) fs in
    let e : closed_among mid.ask fs ≡ o = ap (λ ask. closed_among ask fs) (fed.ask ∙ s.ask) in
    let c : closed_by ts bs (received p) (bs ++ fs) ≡ o = closed_by-received ts bs p fs a in
    let k = h.closing ∙ ap (λ o. closing_by o mid) e ∙ closing_first old mid ts bs o s fed in
    let gives : step ≡ step_of ts bs p (bs ++ fs) (Some kind) = same_step step _ _ _ _
    (ap (λ (x : Closing). x.answered) k ∙ sym (ap (λ o. option_and_then (answered_with ts bs) o) c))
    (ap (λ (x : Closing). x.default_input) k ∙ sym (ap (λ o. option_and_then (λ (b : Outer). default_in b.block) o) c))
    h.send
    (h.ended ∙ ap (λ is. Some (record { reason = reason_of kind; lost = is })) (ap (λ o. waiting_after o mid) e ∙ waiting_after-received old mid ts bs p fs o s fed a refl)) in
    record {
      after = bs ++ fs;
      fault = Some kind;
      reads = (at, subst (λ (t : List ℕ). Faults limits t at kind (bs ++ fs)) (sym (stream_of-received ts p)) fault);
      more = fs;
      grows = refl;
      late = subst (λ (t : List ℕ). CloseWithin (length (stream_of ts)) (length t) fs) (sym (stream_of-received ts p)) close;
      answers = answers_of-received ts bs p fs a ∙ ap (λ o. answers_of ts bs ++ option_to_list o) (sym (closed_by-received ts bs p fs a));
      gives = gives;
      reported = ap (λ (x : Step). is_some x.answered) gives ∙ reported-received ts bs p fs (Some kind) a;
      silent = λ none.
          let n = silent-received ts bs p fs (Some kind) a none in
          (ap (λ (x : Step). x.default_input) gives ∙ n.0, ap (λ (x : Step). x.send) gives ∙ n.1);
      then = h.over;
    }

-- A fault of the reader.
pub ends_gives : (old mid new : InterpreterView) (ts : List Event) (bs : List Outer) (p : List ℕ) (e : FeedFault) (step : Step) → LifeHasPast old ts bs → Fed old mid
    → Explains limits (stream_of ts ++ p) bs e → CloseWithin (length (stream_of ts)) (length (stream_of ts ++ p)) (found_before e) → EndsAt e mid new step → Takes ts bs p step new
ends_gives old mid new ts bs p (fault.BadTag at found) step s fed why close h = breaks_gives old mid new ts bs p (outers found.items) at bad_tag step s fed why close h
ends_gives old mid new ts bs p (fault.TooDeep at found) step s fed why close h = breaks_gives old mid new ts bs p (outers found.items) at too_deep step s fed why close h
ends_gives old mid new ts bs p (fault.TooLong at found) step s fed why close h = breaks_gives old mid new ts bs p (outers found.items) at too_long step s fed why close h
ends_gives old mid new ts bs p fault.OutOfMemory step s fed why close h = absurd h
ends_gives old mid new ts bs p fault.Failed step s fed why close h = absurd h
