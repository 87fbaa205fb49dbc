-- What a piece adds to the stream of a life that goes on.
use Rattle.std.proofs.Common.{◌≡◌, ◌⊎◌, inl, inr, ⊎_elim, ◌+◌, ◌<◌, ◌≤◌, ℕ, suc, false, List, [], ◌∷◌, ◌++◌, length, refl, ap, ◌∙◌, subst, arith, length-append, Option, Some, None}
use Rattle.std.proofs.Math.Seq.{take-append_seam}
use Rattle.std.proofs.lemmas.List.{take_all}
use Rattle.std.specs.Prelude.{option_to_list}
use Rattle.meta_format.specs.Limits.{limits}
use Rattle.meta_format.specs.Stream.{Outer}
use Rattle.meta_format.specs.Faults.{Kind}
use Rattle.meta_format.specs.inside.Machine.{Mode, outside, tag_of, body_of, escape_of, broken, State, start_state, run, IsAlive, begun}
use Rattle.meta_format.specs.Reader.{ReaderView, CloseWithin}
use Rattle.meta_format.specs.Reader.{ReaderHasRead}
use Rattle.meta_format.proofs.Feeds.{roomy, made_stands, fed_stands, fed_faults, fed_closes}
use Rattle.meta_format.proofs.Sound.{alive_read, broken_stopped}
use Rattle.meta_format.proofs.Readable.{one_reading, one_fault}
use Rattle.plugin_core.specs.Laws.{OneReading}
use Rattle.plugin_core.specs.Past.{Event, received, stream_of}
use Rattle.plugin_core.specs.Answers.{answers_of, ask_of}
use Rattle.plugin_core.specs.inside.Changes.{closed_among}
use Rattle.plugin_core.specs.Steps.{Reads}
use Rattle.plugin_core.specs.AskPoints.{length_after, ClosesIn}
use Rattle.plugin_core.proofs.Readings.{one_of_streams}
use Rattle.plugin_core.proofs.Spans.{LieWithin, LieWithin-following, LieWithin-closed}
use Rattle.plugin_core.proofs.ByAskPoints.{reads_lie}
use Rattle.plugin_core.proofs.Pasts.{stream_of-received}
use Rattle.plugin_core.proofs.Asks.{found-stop}
use Rattle.plugin_core.proofs.OneMore.{Adds, answers_of-received}

pub once : OneReading
once = one_of_streams one_reading one_fault

alive_or : (m : Mode) → IsAlive m ⊎ ((kind : Kind) × (f : ℕ) × (m ≡ broken kind f))
alive_or outside = inl tt
alive_or (tag_of start ms levels name) = inl tt
alive_or (body_of start ms d) = inl tt
alive_or (escape_of start ms d) = inl tt
alive_or (broken kind f) = inr (kind, f, refl)

-- the blocks that a piece adds
pub record Added (s p : List ℕ) (bs others : List Outer) : Type 0 where
  pub fresh : List Outer
  pub is : others ≡ bs ++ fresh
  pub closes : CloseWithin (length s) (length (s ++ p)) fresh

abbrev known : State → ReaderView
known q = record { failed = false; offset = q.at; pending = begun q.mode; mode = q.mode }

module _ (s p : List ℕ) where
  taken : (q : State) → run limits start_state s ≡ q → IsAlive q.mode → ReaderHasRead limits (known q) s q.out
  taken q ran alive = made_stands limits roomy (known q) s q.out ran alive refl refl

  stand : (bs : List Outer) (q : State) → run limits start_state s ≡ q → Reads s bs None → ReaderHasRead limits (known q) s q.out
  stand bs q ran reads = ⊎_elim (taken q ran)
      (λ b. let stopped = broken_stopped limits roomy s b.1 q.at q.out b.0 (ran ∙ ap (λ (m : Mode). record { at = q.at; out = q.out; mode = m }) b.2) in absurd (reads.1 b.1 b.0 stopped.first.fault))
      (alive_or q.mode)

  rest : (bs others : List Outer) (fault : Option Kind) (q r : State) → Reads s bs None → Reads (s ++ p) others fault → ReaderHasRead limits (known q) s q.out
      → run limits record { at = q.at; out = []; mode = q.mode } p ≡ r → Added s p bs others
  rest bs others fault q r old new h ran =
      let same : q.out ≡ bs = (once s q.out bs None None ((h.tail, h.stream), h.no_fault) old).0 in
      let closes = fed_closes limits (known q) s p q.out r h ran in
      let all : others ≡ q.out ++ r.out = ⊎_elim
      (λ alive.
      let t = fed_stands limits roomy (known q) s p q.out r.at r.out r.mode h ran (known r) alive refl refl refl refl in
      (once (s ++ p) others (q.out ++ r.out) fault None new ((t.tail, t.stream), t.no_fault)).0)
      (λ b.
      let f = fed_faults limits roomy (known q) s p q.out r.at b.1 r.out b.0 h (ran ∙ ap (λ (m : Mode). record { at = r.at; out = r.out; mode = m }) b.2) in
      (once (s ++ p) others (q.out ++ r.out) fault (Some b.0) new (b.1, f)).0)
      (alive_or r.mode)
      in record { fresh = r.out; is = all ∙ ap (λ (l : List Outer). l ++ r.out) same; closes = closes }

  pub added : (bs others : List Outer) (fault : Option Kind) → Reads s bs None → Reads (s ++ p) others fault → Added s p bs others
  added bs others fault old new =
      let q = run limits start_state s in
      rest bs others fault q (run limits record { at = q.at; out = []; mode = q.mode } p) old new (stand bs q refl old) refl

-- at most one more answer, which closes in the piece
pub record Answers (past : List Event) (piece : List ℕ) (before after : List Outer) : Type 0 where
  pub closed : Option Outer
  pub answers : answers_of (past ++ received piece ∷ []) after ≡ answers_of past before ++ option_to_list closed
  pub closes : (b : Outer) → closed ≡ Some b → ClosesIn (past ++ received piece ∷ []) (length past) b

before_last : (past : List Event) (e : Event) → length_after (past ++ e ∷ []) (length past) ≡ length (stream_of past)
before_last past e = ap (λ (ts : List Event). length (stream_of ts)) (take-append_seam past (e ∷ []))

after_last : (past : List Event) (e : Event) → length_after (past ++ e ∷ []) (suc (length past)) ≡ length (stream_of (past ++ e ∷ []))
after_last past e = ap (λ (ts : List Event). length (stream_of ts)) (take_all (suc (length past)) (past ++ e ∷ []) (omega (arith, length-append past (e ∷ []))))

closes_last : (past : List Event) (piece : List ℕ) (b : Outer) → length (stream_of past) < b.stop → b.stop ≤ length (stream_of past) + length piece → ClosesIn (past ++ received piece ∷ []) (length past) b
closes_last past piece b lo hi = (
  omega (arith, lo, before_last past (received piece)),
  omega (arith, hi, after_last past (received piece), ap length (stream_of-received past piece), length-append (stream_of past) piece),
)

newly_closed : (past : List Event) (piece : List ℕ) (before fresh : List Outer) → Adds past before piece fresh → (o : Option ℕ) (b : Outer) → closed_among o fresh ≡ Some b → ClosesIn (past ++ received piece ∷ []) (length past) b
newly_closed past piece before fresh adds None b e = cc
newly_closed past piece before fresh adds (Some place) b e =
    let within = found-stop (length (stream_of past)) (length (stream_of past) + length piece) place fresh b adds.fresh e in
    closes_last past piece b within.0 within.1

pub one_answer : (past : List Event) (piece : List ℕ) (before after : List Outer) (fault : Option Kind) → Reads (stream_of past) before None → Reads (stream_of (past ++ received piece ∷ [])) after fault
    → Answers past piece before after
one_answer past piece before after fault old new =
    let s = stream_of past in
    let now : Reads (s ++ piece) after fault = subst (λ (t : List ℕ). Reads t after fault) (stream_of-received past piece) new in
    let a = added s piece before after fault old now in
    let size : length (s ++ piece) ≡ length s + length piece = length-append s piece in
    let lies : LieWithin 0 (length (s ++ piece)) (before ++ a.fresh) = subst (λ (l : List Outer). LieWithin 0 (length (s ++ piece)) l) a.is (reads_lie (s ++ piece) after fault now) in
    let fresh : LieWithin (length s) (length (s ++ piece)) a.fresh = LieWithin-closed (length s) (length (s ++ piece)) (length (s ++ piece)) a.fresh (LieWithin-following 0 (length (s ++ piece)) before a.fresh lies) a.closes in
    let adds : Adds past before piece a.fresh = record { old = reads_lie s before None old; fresh = subst (λ (n : ℕ). LieWithin (length s) n a.fresh) size fresh } in
    record {
      closed = closed_among (ask_of past before) a.fresh;
      answers = ap (λ (l : List Outer). answers_of (past ++ received piece ∷ []) l) a.is ∙ answers_of-received past before piece a.fresh adds;
      closes = newly_closed past piece before a.fresh adds (ask_of past before);
    }

-- before the first piece
pub alive_start : Reads [] [] None
alive_start = let r = alive_read limits roomy [] tt in ((r.tail, r.stream), r.sound)
