-- What a crash leaves at each step of `add`.
use Rattle.std.proofs.Common.{◌≡◌, inl, inr, ⊎_elim, ℕ, ◌+◌, ◌≤◌, List, [], ◌∷◌, ◌++◌, length, drop, refl, sym, ◌∙◌, ap, subst, arith, Result, Ok, length-append}
use Rattle.disk_model.specs.Disk.{Image, History, IsImage, Torn, LeavesOnly, Writes, Syncs, area_of, content_of, other_area, overwritten}
use Rattle.disk_model.specs.declared.disk.Area.{Area}
use Rattle.disk_model.specs.inside.Moments.{started, goes_on, weakens, at_end, stays}
use Rattle.journal.specs.Area.{ArePayloads, StandsFor, closed_gate, first_gate, header, open_gate, records}
use Rattle.journal.specs.Limits.{longest_payload}
use Rattle.journal.specs.Kept.{Keeps, BeforeOrAll, OtherUntouched, active_area}
use Rattle.journal.specs.inside.Standing.{at_active}
use Rattle.journal.proofs.Actives.{Works, at_other, changed, first_of_both, kept, stands_there, works_as, works_on}
use Rattle.journal.proofs.Bytes.{Laid, torn_after, staged, after_stage, torn_gate, after_gate, end-append}

module _ (h0 : History) (end : ℕ) (payloads : List (List ℕ)) (keeps : Keeps h0 end payloads) (more : List (List ℕ)) (each : ArePayloads longest_payload more) (bytes : List ℕ) (are : open_gate ∷ bytes ≡ records more ++ closed_gate ∷ []) (area : Area) (named : active_area (content_of h0) ≡ area) where
  abbrev pub limit : ℕ
  limit = longest_payload

  abbrev pub old : Image
  old = content_of h0

  pub standing : StandsFor limit (area_of area old) payloads
  standing = subst (λ (l : List ℕ). StandsFor limit l payloads) (at_active area old named) keeps.stands.stands

  abbrev pub selector : ℕ
  selector = standing.header_is.selector

  pub laid : Laid limit selector (area_of area old) payloads
  laid = record {
    gate = standing.lays.gate;
    rest = standing.lays.more;
    is = standing.header_is.is ∙ ap (λ (l : List ℕ). header selector ++ l) standing.lays.is;
    closed = standing.lays.closed;
    each = standing.lays.each;
  }

  following : first_gate ≤ end
  following = omega (arith, keeps.end_is)

  -- what a crash leaves before the first call
  before : (i : Image) → IsImage h0.now i → Works area old i × (area_of area i ≡ area_of area old)
  before i image =
      let works = works_as area old i named keeps.stands.headed (keeps.first i image) in
      (works, sym (at_active area i works.named) ∙ keeps.durable i image ∙ at_active area old named)

  untouched : (c d : Image) → IsImage h0.now d → Works area old c → Works area old d → area_of (other_area area) c ≡ area_of (other_area area) d → OtherUntouched h0.now c
  untouched c d image one two same = (d, image, at_other area c one.named ∙ same ∙ sym (at_other area d two.named))

  abbrev pub P : Image → Type 0
  P = BeforeOrAll h0.now payloads more

  pub record Q (i : Image) : Type 0 where
    pub either : P i
    pub works : Works area old i

  pub begun : LeavesOnly Q h0 h0
  begun = started Q h0 (λ c image.
      let here = before c image in
      record {
        either = (inl (stands_there area old c selector payloads here.0 (subst (λ (l : List ℕ). Laid limit selector l payloads) (sym here.1) laid)), (c, image, refl));
        works = here.0;
      })

  pub known : (h : History) → LeavesOnly Q h0 h → LeavesOnly P h0 h
  known h run = weakens Q P h0 h (λ i q. q.either) run

  pub staging : {T E : Type 0} (r : Result T E) (h1 : History) → Writes area (end + 1) bytes r h0 h1 → LeavesOnly Q h0 h1
  staging r h1 w = weakens _ Q h0 h1 (λ c reaches.
      let d = reaches.0 in
      let here = before d reaches.1 in
      let torn = subst (λ (l : List ℕ). Torn (end + 1) (length bytes) l (area_of area c)) here.1 (changed area (Torn (end + 1) (length bytes)) d c reaches.2) in
      let works = works_on area old d c (end + 1) (length bytes) (omega (arith, following)) here.0 reaches.2 in
      record {
        either = (
          inl (stands_there area old c selector payloads works (torn_after limit selector (area_of area old) payloads laid end keeps.end_is (length bytes) (area_of area c) torn)),
          untouched c d reaches.1 works here.0 (kept area (Torn (end + 1) (length bytes)) d c reaches.2),
        );
        works = works;
      }) w.moments

  abbrev pub stage : List ℕ → List ℕ
  stage rest = staged limit selector (area_of area old) payloads laid end keeps.end_is more each bytes are rest

  -- the gate's write, once the record is on the disk
  pub opening : {T E : Type 0} (r : Result T E) (h2 h3 : History) (rest : List ℕ) → LeavesOnly Q h0 h2
      → ((c : Image) → IsImage h2.now c → area_of area c ≡ stage rest)
      → Writes area end (open_gate ∷ []) r h2 h3 → LeavesOnly Q h0 h3
  opening r h2 h3 rest run durable w = goes_on Q h0 h2 h3 run (weakens _ Q h2 h3 (λ c reaches.
      let d = reaches.0 in
      let here = at_end Q h0 h2 run d reaches.1 in
      let torn = subst (λ (l : List ℕ). Torn end 1 l (area_of area c)) (durable d reaches.1) (changed area (Torn end 1) d c reaches.2) in
      let works = works_on area old d c end 1 following here.works reaches.2 in
      let second = here.either.1 in
      let same = kept area (Torn end 1) d c reaches.2 in
      record {
        either = (
          ⊎_elim
              (λ before. inl (stands_there area old c selector payloads works before))
              (λ after. inr (stands_there area old c selector (payloads ++ more) works after))
              (torn_gate limit selector (area_of area old) payloads laid end keeps.end_is more each bytes are rest (area_of area c) torn),
          (second.0, second.1, at_other area c works.named ∙ same ∙ sym (at_other area d here.works.named) ∙ second.2),
        );
        works = works;
      }) w.moments)

  -- the bytes that the record pushes no further than they were
  abbrev pub rest : List ℕ
  rest = drop (end + 1 + length bytes) (area_of area old)

  at : (a b : Image) → a ≡ b → area_of area a ≡ area_of area b
  at a b same = ap (λ (i : Image). area_of area i) same

  module _ {T E : Type 0} (u : T) where
    abbrev pub good : Result T E
    good = Ok u

    module _ (h1 h2 : History) (w1 : Writes area (end + 1) bytes good h0 h1) where
      pub after2 : (r : Result T E) → Syncs area r h1 h2 → LeavesOnly Q h0 h2
      after2 r s1 = stays Q h0 h1 h2 (staging good h1 w1) s1.moments

      module _ (s1 : Syncs area good h1 h2) where
        is_staged : area_of area (content_of h2) ≡ stage rest
        is_staged = at _ _ s1.content
            ∙ after_stage limit selector (area_of area old) payloads laid end keeps.end_is more each bytes are _ (changed area (λ before after. after ≡ overwritten before (end + 1) bytes) _ _ w1.written)

        pub after3 : (r : Result T E) (h3 : History) → Writes area end (open_gate ∷ []) r h2 h3 → LeavesOnly Q h0 h3
        after3 r h3 w2 = opening r h2 h3 rest (after2 good s1) (λ i image. s1.durable i image ∙ sym (at _ _ s1.content) ∙ is_staged) w2

        pub after4 : (r q : Result T E) (h3 h4 : History) → Writes area end (open_gate ∷ []) r h2 h3 → Syncs area q h3 h4 → LeavesOnly Q h0 h4
        after4 r q h3 h4 w2 s2 = stays Q h0 h3 h4 (after3 r h3 w2) s2.moments

        module _ (h3 h4 : History) (w2 : Writes area end (open_gate ∷ []) good h2 h3) (s2 : Syncs area good h3 h4) where
          at_last : Works area old (content_of h4)
          at_last =
              let one = works_on area old old (content_of h1) (end + 1) (length bytes) (omega (arith, following)) (works_as area old old named keeps.stands.headed refl) w1.touched in
              let two = subst (λ (i : Image). Works area old i) (sym s1.content) one in
              let three = works_on area old (content_of h2) (content_of h3) end 1 following two w2.touched in
              subst (λ (i : Image). Works area old i) (sym s2.content) three

          there : (i : Image) → IsImage h4.now i → area_of area i ≡ area_of area (content_of h4)
          there i image = s2.durable i image ∙ sym (at _ _ s2.content)

          is_added : Laid limit selector (area_of area (content_of h4)) (payloads ++ more)
          is_added = after_gate limit selector (area_of area old) payloads laid end keeps.end_is more each bytes are rest _
              (at _ _ s2.content ∙ changed area (λ before after. after ≡ overwritten before end (open_gate ∷ [])) _ _ w2.written ∙ ap (λ (l : List ℕ). overwritten l end (open_gate ∷ [])) is_staged)

          pub added : Keeps h4 (end + length bytes) (payloads ++ more)
          added = record {
            stands = stands_there area old (content_of h4) selector (payloads ++ more) at_last is_added;
            end_is = omega (arith, keeps.end_is, end-append payloads more, ap length are, length-append (records more) (closed_gate ∷ []));
            durable = λ i image.
                let works = (at_end Q h0 h4 (after4 good good h3 h4 w2 s2) i image).works in
                at_active area i works.named ∙ there i image ∙ sym (at_active area (content_of h4) at_last.named);
            first = λ i image.
                let works = (at_end Q h0 h4 (after4 good good h3 h4 w2 s2) i image).works in
                first_of_both area old i (content_of h4) works.first at_last.first (there i image);
          }
