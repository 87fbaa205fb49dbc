-- What is returned for an item is the whole answer to it.
use Rattle.std.proofs.Common.{◌≡◌, ℕ, ◌+◌, ◌<◌, ◌≤◌, List, [], ◌∷◌, ◌++◌, length, refl, ap, sym, ◌∙◌, subst, arith, Bool, true, false, Option, Some, None, suc, length-append, append_assoc}
use Rattle.std.specs.Prelude.{nat_le, slice_get, option_map, option_and_then, Result, option_to_list, if◌then◌else◌}
use Rattle.std.proofs.Math.Seq.{take-append_seam}
use Rattle.std.proofs.lemmas.List.{append-nil, take_all}
use Rattle.block_tree.specs.Tree.{Tree}
use Rattle.block_tree.specs.Output.{output}
use Rattle.meta_format.specs.Limits.{limits}
use Rattle.meta_format.specs.Stream.{Outer, Chain, Stream}
use Rattle.meta_format.specs.Stream.Chain.{none as chain_none, next as chain_next}
use Rattle.meta_format.specs.Faults.{Kind}
use Rattle.scheme_text.specs.Reported.{reported_by}
use Rattle.scheme_text.specs.declared.answer.BadCompletion.{BadCompletion}
use Rattle.scheme_text.specs.declared.answer.Completions.{Completions}
use Rattle.plugin_core.specs.declared.item.Item.{Item}
use Rattle.plugin_core.specs.declared.item.Item.TheVariants as item
use Rattle.plugin_core.specs.declared.step.Step.{Step}
use Rattle.plugin_core.specs.declared.step.Answered.{Answered}
use Rattle.plugin_core.specs.declared.step.Answered.TheVariants as answered
use Rattle.plugin_core.specs.Past.{Event, received, stream_of, items_of}
use Rattle.plugin_core.specs.Answers.{first_from, answers_of, ask_of}
use Rattle.plugin_core.specs.AskPoints.{length_after, IsAnswer, ClosesIn}
use Rattle.plugin_core.specs.Items.{prompt_of, answer_to, answer_following}
use Rattle.plugin_core.specs.Steps.{Reads, closed_by}
use Rattle.plugin_core.specs.inside.Words.{answered_with}
use Rattle.plugin_core.specs.Kept.{InterpreterView, Takes}
use Rattle.plugin_core.specs.inside.Changes.{closed_among}
use Rattle.plugin_core.specs.Whole.{IsWholeIn, IsItsAnswer, IsItsCompletion, TellsTheAnswer, TellsTheCompletion}
use Rattle.plugin_core.proofs.Pasts.{stream_of-received}
use Rattle.plugin_core.proofs.Spans.{LieWithin, LieWithin-following, LieWithin-closed}
use Rattle.plugin_core.proofs.Asks.{found-stop}
use Rattle.plugin_core.proofs.OneMore.{Adds, closed_by-received}
use Rattle.plugin_core.proofs.ByAskPoints.{answers_by_ask_points, reads_lie}

-- Each block of a stream is whole in it.

abbrev AreWhole : List ℕ → List Outer → Type 0
AreWhole s [] = Unit {0}
AreWhole s (b ∷ bs) = IsWholeIn s b × AreWhole s bs

wider : (s t : List ℕ) (b : Outer) → IsWholeIn s b → IsWholeIn (s ++ t) b
wider s t b h = record {
  front = h.front;
  spelling = h.spelling;
  rest = h.rest ++ t;
  is = ap (λ x. x ++ t) h.is ∙ append_assoc (h.front ++ h.spelling) h.rest t;
  start = h.start;
  stop = h.stop;
  spells = h.spells;
}

all_wider : (s t : List ℕ) (bs : List Outer) → AreWhole s bs → AreWhole (s ++ t) bs
all_wider s t [] h = tt
all_wider s t (b ∷ bs) h = (wider s t b h.0, all_wider s t bs h.1)

one_more : (s : List ℕ) (bs : List Outer) (b : Outer) → AreWhole s bs → IsWholeIn s b → AreWhole s (bs ++ b ∷ [])
one_more s [] b h k = (k, tt)
one_more s (c ∷ bs) b h k = (h.0, one_more s bs b h.1 k)

following : (s : List ℕ) (bs fs : List Outer) → AreWhole s (bs ++ fs) → AreWhole s fs
following s [] fs h = h
following s (b ∷ bs) fs h = following s bs fs h.1

chain_whole : (blocks : List Outer) (s : List ℕ) → Chain limits blocks s → AreWhole s blocks
chain_whole _ _ chain_none = tt
chain_whole _ _ (chain_next {blocks} {before} noise spelling b chain silent outer) =
    one_more (before ++ noise ++ spelling) blocks (record { start = length (before ++ noise); stop = length (before ++ noise ++ spelling); block = b })
    (all_wider (before ++ noise) spelling blocks (all_wider before noise blocks (chain_whole blocks before chain)))
    (record { front = before ++ noise; spelling = spelling; rest = []; is = sym (append-nil (before ++ noise ++ spelling)); start = refl; stop = refl; spells = outer.spelled })

stream_whole : (s : List ℕ) (blocks : List Outer) (tail : List ℕ) → Stream limits s blocks tail → AreWhole s blocks
stream_whole s blocks tail h =
    subst (λ (t : List ℕ). AreWhole t blocks) (sym h.is) (all_wider (h.before ++ h.noise) tail blocks (all_wider h.before h.noise blocks (chain_whole blocks h.before h.chain)))

reads_whole : (s : List ℕ) (blocks : List Outer) (fault : Option Kind) → Reads s blocks fault → AreWhole s blocks
reads_whole s blocks None h = stream_whole s blocks h.0.0 h.0.1
reads_whole s blocks (Some kind) h =
    let f = h.1 in
    subst (λ (t : List ℕ). AreWhole t blocks) (sym f.is) (all_wider f.front f.rest blocks (stream_whole f.front blocks f.tail f.stream))

found_whole : (s : List ℕ) (p : ℕ) (bs : List Outer) (b : Outer) → AreWhole s bs → first_from p bs ≡ Some b → IsWholeIn s b
found_whole s p [] b h e = cc
found_whole s p (c ∷ bs) b h e = go (nat_le p c.start) e (found_whole s p bs b h.1)
  where
    go : (t : Bool) → (if t then Some c else first_from p bs) ≡ Some b → (first_from p bs ≡ Some b → IsWholeIn s b) → IsWholeIn s b
    go true e ih = let same : c ≡ b = cc in subst (λ (f : Outer). IsWholeIn s f) same h.0
    go false e ih = ih e

-- The law.

last_is : (xs : List Outer) (x : Outer) → slice_get (xs ++ x ∷ []) (length xs) ≡ Some x
last_is [] x = refl
last_is (y ∷ xs) x = last_is xs x

before_last : (past : List Event) (e : Event) → length_after (past ++ e ∷ []) (length past) ≡ length (stream_of past)
before_last past e = ap (λ (ts : List Event). length (stream_of ts)) (take-append_seam past (e ∷ []))

after_last : (past : List Event) (e : Event) → length_after (past ++ e ∷ []) (suc (length past)) ≡ length (stream_of (past ++ e ∷ []))
after_last past e = ap (λ (ts : List Event). length (stream_of ts)) (take_all (suc (length past)) (past ++ e ∷ []) (omega (arith, length-append past (e ∷ []))))

-- The item that is answered, or the banner: a whole block of the stream answers it, whose last byte came in this
-- piece.
data IsOf (past : List Event) (piece : List ℕ) (after : List Outer) (prompt : List ℕ) : Answered → Type 0 where
  of_banner : (out : Tree) → IsOf past piece after prompt (answered.Banner out)
  of_item : (number : ℕ) (asked : Item) (answer : Outer) → slice_get (items_of past) number ≡ Some asked → IsAnswer (past ++ received piece ∷ []) after (suc number) answer
      → ClosesIn (past ++ received piece ∷ []) (length past) answer → IsWholeIn (stream_of (past ++ received piece ∷ [])) answer
      → IsOf past piece after prompt (answer_to asked prompt (output answer.block))

same_some : (a b : Answered) → Some a ≡ Some b → a ≡ b
same_some a b e = cc

tells_of : (past : List Event) (before : List Outer) (piece : List ℕ) (step : Step) (life : InterpreterView) → Reads (stream_of past) before None → (t : Takes past before piece step life)
    → (reported : Answered) → step.answered ≡ Some reported → IsOf past piece t.after (prompt_of past before) reported
tells_of past before piece step life reads t reported is_reported =
    closed (closed_by past before (received piece) t.after) refl (sym (ap (λ (x : Step). x.answered) t.gives) ∙ is_reported)
  where
    now : List Event
    now = past ++ received piece ∷ []

    grown : LieWithin 0 (length (stream_of now)) (before ++ t.more)
    grown = subst (λ (bs : List Outer). LieWithin 0 (length (stream_of now)) bs) t.grows (reads_lie (stream_of now) t.after t.fault t.reads)

    fresh : LieWithin (length (stream_of past)) (length (stream_of now)) t.more
    fresh = LieWithin-closed (length (stream_of past)) (length (stream_of now)) (length (stream_of now)) t.more (LieWithin-following 0 (length (stream_of now)) before t.more grown) t.late

    size : length (stream_of now) ≡ length (stream_of past) + length piece
    size = ap length (stream_of-received past piece) ∙ length-append (stream_of past) piece

    adds : Adds past before piece t.more
    adds = record { old = reads_lie (stream_of past) before None reads; fresh = subst (λ (n : ℕ). LieWithin (length (stream_of past)) n t.more) size fresh }

    whole : AreWhole (stream_of now) t.more
    whole = following (stream_of now) before t.more (subst (λ (bs : List Outer). AreWhole (stream_of now) bs) t.grows (reads_whole (stream_of now) t.after t.fault t.reads))

    by_ask : (b : Outer) (o : Option ℕ) → closed_among o t.more ≡ Some b → ((length (stream_of past) < b.stop) × (b.stop ≤ length (stream_of now))) × IsWholeIn (stream_of now) b
    by_ask b None e = cc
    by_ask b (Some p) e = (found-stop (length (stream_of past)) (length (stream_of now)) p t.more b fresh e, found_whole (stream_of now) p t.more b whole e)

    closed : (o : Option Outer) → closed_by past before (received piece) t.after ≡ o → option_and_then (answered_with past before) o ≡ Some reported
        → IsOf past piece t.after (prompt_of past before) reported
    closed None c e = cc
    closed (Some b) c e = after_some (answers_of past before) refl e
      where
        place : ((length (stream_of past) < b.stop) × (b.stop ≤ length (stream_of now))) × IsWholeIn (stream_of now) b
        place = by_ask b (ask_of past before) (sym (closed_by-received past before piece t.more adds) ∙ ap (λ (bs : List Outer). closed_by past before (received piece) bs) (sym t.grows) ∙ c)

        listed : slice_get (answers_of now t.after) (length (answers_of past before)) ≡ Some b
        listed = ap (λ (bs : List Outer). slice_get bs (length (answers_of past before))) (t.answers ∙ ap (λ (o : Option Outer). answers_of past before ++ option_to_list o) c) ∙ last_is (answers_of past before) b

        after_some : (rs : List Outer) → answers_of past before ≡ rs → answer_following rs (items_of past) (prompt_of past before) b.block ≡ Some reported
            → IsOf past piece t.after (prompt_of past before) reported
        after_some [] f e = subst (IsOf past piece t.after (prompt_of past before)) (same_some (answered.Banner (output b.block)) reported e) (of_banner (output b.block))
        after_some (banner ∷ rs) f e = by_item (slice_get (items_of past) (length rs)) refl e
          where
            by_item : (o : Option Item) → slice_get (items_of past) (length rs) ≡ o → option_map (λ i. answer_to i (prompt_of past before) (output b.block)) o ≡ Some reported
                → IsOf past piece t.after (prompt_of past before) reported
            by_item None g e = cc
            by_item (Some i) g e = subst (IsOf past piece t.after (prompt_of past before)) (same_some (answer_to i (prompt_of past before) (output b.block)) reported e)
                (of_item (length rs) i b g
                ((answers_by_ask_points now t.after t.fault t.reads (suc (length rs)) b).1 (subst (λ (xs : List Outer). slice_get (answers_of now t.after) (length xs) ≡ Some b) f listed))
                (subst (λ (n : ℕ). n < b.stop) (sym (before_last past (received piece))) place.0.0, subst (λ (n : ℕ). b.stop ≤ n) (sym (after_last past (received piece))) place.0.1)
                place.1)

-- A returned answer to a line is one to a line.
line_reported : (past : List Event) (piece : List ℕ) (after : List Outer) (q : List ℕ) (reported : Answered) → IsOf past piece after q reported
    → (id : ℕ) (prompt : List ℕ) (out : Tree) → reported ≡ answered.Line id prompt out → IsItsAnswer past piece after id out × (prompt ≡ q)
line_reported past piece after q _ (of_banner b) id prompt out e = cc
line_reported past piece after q _ (of_item number (item.Line other text) b g answers closes whole) id prompt out e =
    let same_id : other ≡ id = cc in
    let same_prompt : prompt ≡ q = cc in
    let same_out : out ≡ output b.block = cc in (
      record {
        number = number;
        text = text;
        answer = b;
        line = g ∙ ap (λ (n : ℕ). Some (item.Line n text)) same_id;
        answers = answers;
        closes = closes;
        whole = whole;
        shown = same_out;
      },
      same_prompt,
    )
line_reported past piece after q _ (of_item number (item.Complete other text cursor) b g answers closes whole) id prompt out e = cc

completion_reported : (past : List Event) (piece : List ℕ) (after : List Outer) (q : List ℕ) (reported : Answered) → IsOf past piece after q reported
    → (id : ℕ) (result : Result Completions BadCompletion) → reported ≡ answered.Complete id result → IsItsCompletion past piece after id result
completion_reported past piece after q _ (of_banner b) id result e = cc
completion_reported past piece after q _ (of_item number (item.Line other text) b g answers closes whole) id result e = cc
completion_reported past piece after q _ (of_item number (item.Complete other text cursor) b g answers closes whole) id result e =
    let same_id : other ≡ id = cc in
    let same_result : result ≡ reported_by (output b.block) = cc in
    record {
      number = number;
      text = text;
      cursor = cursor;
      answer = b;
      asks = g ∙ ap (λ (n : ℕ). Some (item.Complete n text cursor)) same_id;
      answers = answers;
      closes = closes;
      whole = whole;
      reported = same_result;
    }

pub tells_the_answer : TellsTheAnswer
tells_the_answer past before piece step life reads t id prompt out reported =
    line_reported past piece t.after (prompt_of past before) (answered.Line id prompt out) (tells_of past before piece step life reads t (answered.Line id prompt out) reported) id prompt out refl

pub tells_the_completion : TellsTheCompletion
tells_the_completion past before piece step life reads t id result reported =
    completion_reported past piece t.after (prompt_of past before) (answered.Complete id result) (tells_of past before piece step life reads t (answered.Complete id result) reported) id result refl
