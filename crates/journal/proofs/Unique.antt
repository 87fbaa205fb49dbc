-- Bytes lay out one list of payloads at most, and none where they are damaged.
use Rattle.std.proofs.Common.{◌≡◌, ◌≢◌, ⊎_elim, ℕ, Bool, true, false, ◌<◌, ◌^◌, List, [], ◌∷◌, ◌++◌, length, take, drop, refl, sym, ◌∙◌, ap, subst, arith, append_assoc, length-append}
use Rattle.std.specs.Int.{to_be_bytes, from_be_bytes, w32}
use Rattle.std.proofs.lemmas.List.{take_at, drop_at}
use Rattle.std.proofs.lemmas.Nat.{from_be_bytes-to_be_bytes_4}
use Rattle.journal.specs.Area.{HasHeader, StandsFor, records, record_of, body_of, IsPayload, ArePayloads, end_of, open_gate}
use Rattle.journal.specs.Damage.{IsBroken, IsDamaged, Walked}
use Rattle.journal.specs.Front.{HasFront}
use Rattle.journal.specs.Laws.{OneFront}
use Rattle.disk_model.specs.Disk.{Image}
use Rattle.journal.specs.Kept.{ImageStandsFor, active_of}
use Rattle.journal.specs.Open.{IsPassing, Tells}
use Rattle.journal.specs.Limits.{longest_payload}
use Rattle.journal.specs.declared.opening.OpenCause.{OpenCause}
use Rattle.journal.specs.declared.opening.OpenCause.TheVariants as opens

module _ (limit : ℕ) (fits : limit < 2 ^ 32) where
  -- the first four bytes tell the length
  length_reported : (p q x y : List ℕ) → IsPayload limit p → IsPayload limit q → body_of p ++ x ≡ body_of q ++ y → length p ≡ length q
  length_reported p q x y is_p is_q same =
      let four = ap (λ (l : List ℕ). from_be_bytes w32 (take 4 l)) same in
      sym (from_be_bytes-to_be_bytes_4 (length p) (omega (arith, is_p.1, fits))) ∙ four ∙ from_be_bytes-to_be_bytes_4 (length q) (omega (arith, is_q.1, fits))

  pub same_records : (ps qs : List (List ℕ)) (g h : ℕ) (x y : List ℕ) → ArePayloads limit ps → ArePayloads limit qs → g ≢ open_gate → h ≢ open_gate → records ps ++ g ∷ x ≡ records qs ++ h ∷ y → ps ≡ qs
  same_records [] [] g h x y eps eqs cg ch same = refl
  same_records [] (q ∷ qs) g h x y eps eqs cg ch same = absurd (cg cc)
  same_records (p ∷ ps) [] g h x y eps eqs cg ch same = absurd (ch cc)
  same_records (p ∷ ps) (q ∷ qs) g h x y eps eqs cg ch same =
      let tail : body_of p ++ (records ps ++ g ∷ x) ≡ body_of q ++ (records qs ++ h ∷ y) = ap (λ (l : List ℕ). drop 1 l) (sym (append_assoc (record_of p) (records ps) (g ∷ x)) ∙ same ∙ append_assoc (record_of q) (records qs) (h ∷ y)) in
      let size = length_reported p q (records ps ++ g ∷ x) (records qs ++ h ∷ y) eps.0 eqs.0 tail in
      let following : p ++ (records ps ++ g ∷ x) ≡ q ++ (records qs ++ h ∷ y) = ap (λ (l : List ℕ). drop 4 l) tail in
      let first : p ≡ q = sym (take_at p (records ps ++ g ∷ x) (length p) refl) ∙ ap (λ (l : List ℕ). take (length p) l) following ∙ take_at q (records qs ++ h ∷ y) (length p) (sym size) in
      let rest : records ps ++ g ∷ x ≡ records qs ++ h ∷ y = sym (drop_at p (records ps ++ g ∷ x) (length p) refl) ∙ ap (λ (l : List ℕ). drop (length p) l) following ∙ drop_at q (records qs ++ h ∷ y) (length p) (sym size) in
      let others = same_records ps qs g h x y eps.1 eqs.1 cg ch rest in
      cc

  -- what follows the header
  following : (bytes : List ℕ) (ps : List (List ℕ)) (s : StandsFor limit bytes ps) → drop 10 bytes ≡ records ps ++ s.lays.gate ∷ s.lays.more
  following bytes ps s = ap (λ (l : List ℕ). drop 10 l) s.header_is.is ∙ s.lays.is

  walked_after : (bytes : List ℕ) (ps : List (List ℕ)) (rest : List ℕ) → Walked limit bytes ps rest → drop 10 bytes ≡ records ps ++ rest
  walked_after bytes ps rest w = ap (λ (l : List ℕ). drop 10 l) w.header_is.is

  pub laid_out_once : (bytes : List ℕ) (ps qs : List (List ℕ)) → StandsFor limit bytes ps → StandsFor limit bytes qs → ps ≡ qs
  laid_out_once bytes ps qs s t = same_records ps qs s.lays.gate t.lays.gate s.lays.more t.lays.more s.lays.each t.lays.each s.lays.closed t.lays.closed
      (sym (following bytes ps s) ∙ following bytes qs t)

  -- after the records of an area there is no broken one
  none_broken : (ps qs : List (List ℕ)) (g : ℕ) (x more : List ℕ) → ArePayloads limit ps → ArePayloads limit qs → g ≢ open_gate → IsBroken limit more → records ps ++ g ∷ x ≡ records qs ++ open_gate ∷ more → ⊥
  none_broken [] [] g x more eps eqs closed broken same = closed cc
  none_broken [] (q ∷ qs) g x more eps eqs closed broken same = closed cc
  none_broken (p ∷ ps) [] g x more eps eqs closed broken same =
      let following : body_of p ++ (records ps ++ g ∷ x) ≡ more = ap (λ (l : List ℕ). drop 1 l) (sym (append_assoc (record_of p) (records ps) (g ∷ x)) ∙ same) in
      let reported : from_be_bytes w32 (to_be_bytes w32 (length p)) ≡ length p = from_be_bytes-to_be_bytes_4 (length p) (omega (arith, eps.0.1, fits)) in
      let whole : IsBroken limit (body_of p ++ (records ps ++ g ∷ x)) = subst (λ (l : List ℕ). IsBroken limit l) (sym following) broken in
      let longer = length-append p (records ps ++ g ∷ x) in
      let more = length-append (records ps) (g ∷ x) in
      ⊎_elim (λ none. omega (arith, none, reported, eps.0.0)) (λ other. ⊎_elim (λ large. omega (arith, large, reported, eps.0.1)) (λ short. omega (arith, short, reported, longer, more)) other) whole
  none_broken (p ∷ ps) (q ∷ qs) g x more eps eqs closed broken same =
      let tail : body_of p ++ (records ps ++ g ∷ x) ≡ body_of q ++ (records qs ++ open_gate ∷ more) = ap (λ (l : List ℕ). drop 1 l) (sym (append_assoc (record_of p) (records ps) (g ∷ x)) ∙ same ∙ append_assoc (record_of q) (records qs) (open_gate ∷ more)) in
      let size = length_reported p q (records ps ++ g ∷ x) (records qs ++ open_gate ∷ more) eps.0 eqs.0 tail in
      let following : p ++ (records ps ++ g ∷ x) ≡ q ++ (records qs ++ open_gate ∷ more) = ap (λ (l : List ℕ). drop 4 l) tail in
      let rest : records ps ++ g ∷ x ≡ records qs ++ open_gate ∷ more = sym (drop_at p (records ps ++ g ∷ x) (length p) refl) ∙ ap (λ (l : List ℕ). drop (length p) l) following ∙ drop_at q (records qs ++ open_gate ∷ more) (length p) (sym size) in
      none_broken ps qs g x more eps.1 eqs.1 closed broken rest

  -- a record and what follows it are not broken
  pub whole_record : (p rest : List ℕ) → IsPayload limit p → 0 < length rest → IsBroken limit (body_of p ++ rest) → ⊥
  whole_record p rest is some broken =
      let reported : from_be_bytes w32 (to_be_bytes w32 (length p)) ≡ length p = from_be_bytes-to_be_bytes_4 (length p) (omega (arith, is.1, fits)) in
      let longer = length-append p rest in
      ⊎_elim (λ none. omega (arith, none, reported, is.0)) (λ other. ⊎_elim (λ large. omega (arith, large, reported, is.1)) (λ short. omega (arith, short, reported, longer, some)) other) broken

  -- the records before what is broken are the same, however they are read
  same_damage : (ps qs : List (List ℕ)) (x y : List ℕ) → ArePayloads limit ps → ArePayloads limit qs → IsBroken limit x → IsBroken limit y → records ps ++ open_gate ∷ x ≡ records qs ++ open_gate ∷ y → ps ≡ qs
  same_damage [] [] x y eps eqs bx bn same = refl
  same_damage [] (q ∷ qs) x y eps eqs bx bn same =
      let following : x ≡ body_of q ++ (records qs ++ open_gate ∷ y) = ap (λ (l : List ℕ). drop 1 l) (same ∙ append_assoc (record_of q) (records qs) (open_gate ∷ y)) in
      absurd (whole_record q (records qs ++ open_gate ∷ y) eqs.0 (omega (arith, length-append (records qs) (open_gate ∷ y))) (subst (λ (l : List ℕ). IsBroken limit l) following bx))
  same_damage (p ∷ ps) [] x y eps eqs bx bn same =
      let following : y ≡ body_of p ++ (records ps ++ open_gate ∷ x) = ap (λ (l : List ℕ). drop 1 l) (sym same ∙ append_assoc (record_of p) (records ps) (open_gate ∷ x)) in
      absurd (whole_record p (records ps ++ open_gate ∷ x) eps.0 (omega (arith, length-append (records ps) (open_gate ∷ x))) (subst (λ (l : List ℕ). IsBroken limit l) following bn))
  same_damage (p ∷ ps) (q ∷ qs) x y eps eqs bx bn same =
      let tail : body_of p ++ (records ps ++ open_gate ∷ x) ≡ body_of q ++ (records qs ++ open_gate ∷ y) = ap (λ (l : List ℕ). drop 1 l) (sym (append_assoc (record_of p) (records ps) (open_gate ∷ x)) ∙ same ∙ append_assoc (record_of q) (records qs) (open_gate ∷ y)) in
      let size = length_reported p q (records ps ++ open_gate ∷ x) (records qs ++ open_gate ∷ y) eps.0 eqs.0 tail in
      let following : p ++ (records ps ++ open_gate ∷ x) ≡ q ++ (records qs ++ open_gate ∷ y) = ap (λ (l : List ℕ). drop 4 l) tail in
      let first : p ≡ q = sym (take_at p (records ps ++ open_gate ∷ x) (length p) refl) ∙ ap (λ (l : List ℕ). take (length p) l) following ∙ take_at q (records qs ++ open_gate ∷ y) (length p) (sym size) in
      let rest : records ps ++ open_gate ∷ x ≡ records qs ++ open_gate ∷ y = sym (drop_at p (records ps ++ open_gate ∷ x) (length p) refl) ∙ ap (λ (l : List ℕ). drop (length p) l) following ∙ drop_at q (records qs ++ open_gate ∷ y) (length p) (sym size) in
      let others = same_damage ps qs x y eps.1 eqs.1 bx bn rest in
      cc

  pub damaged_once : (bytes : List ℕ) (g h : ℕ) → IsDamaged limit bytes g → IsDamaged limit bytes h → g ≡ h
  damaged_once bytes g h d e =
      d.3 ∙ ap end_of (same_damage d.0 e.0 d.1 e.1 d.2.each e.2.each d.4 e.4
      (sym (walked_after bytes d.0 (open_gate ∷ d.1) d.2) ∙ walked_after bytes e.0 (open_gate ∷ e.1) e.2)) ∙ sym e.3

  pub undamaged : (bytes : List ℕ) (ps : List (List ℕ)) (gate : ℕ) → StandsFor limit bytes ps → IsDamaged limit bytes gate → ⊥
  undamaged bytes ps gate s d =
      none_broken ps d.0 s.lays.gate s.lays.more d.1 s.lays.each d.2.each s.lays.closed d.4
      (sym (following bytes ps s) ∙ walked_after bytes d.0 (open_gate ∷ d.1) d.2)

  pub has_header : (bytes : List ℕ) (ps : List (List ℕ)) → StandsFor limit bytes ps → HasHeader bytes
  has_header bytes ps s = (
    s.rest,
    s.header_is,
    omega (arith, ap length s.lays.is, length-append (records ps) (s.lays.gate ∷ s.lays.more)),
  )

  pub one_front_of : (bytes : List ℕ) (ps qs : List (List ℕ)) (damaged again : Bool) → HasFront limit bytes ps damaged → HasFront limit bytes qs again → (ps ≡ qs) × (damaged ≡ again)
  one_front_of bytes ps qs false false f g = (laid_out_once bytes ps qs f g, refl)
  one_front_of bytes ps qs false true f g = absurd (undamaged bytes ps (end_of qs) f (qs, g.0, g.1, refl, g.2))
  one_front_of bytes ps qs true false f g = absurd (undamaged bytes qs (end_of ps) g (ps, f.0, f.1, refl, f.2))
  one_front_of bytes ps qs true true f g = (
    same_damage ps qs f.0 g.0 f.1.each g.1.each f.2 g.2
        (sym (walked_after bytes ps (open_gate ∷ f.0) f.1) ∙ walked_after bytes qs (open_gate ∷ g.0) g.1),
    refl,
  )

pub one_front : OneFront
one_front limit fits area payloads others damaged again f g = one_front_of limit fits area payloads others damaged again f g

-- bytes stand for one list of payloads
pub one_list : (limit : ℕ) → limit < 2 ^ 32 → (area : List ℕ) (payloads others : List (List ℕ)) → StandsFor limit area payloads → StandsFor limit area others → payloads ≡ others
one_list limit fits area payloads others s t = laid_out_once limit fits area payloads others s t

-- what a disk stands for is what its bytes lay out
pub given : (i j : Image) (ps qs : List (List ℕ)) → j ≡ i → ImageStandsFor j ps → ImageStandsFor i qs → ps ≡ qs
given i j ps qs same stands others =
    let s = subst (λ (k : Image). ImageStandsFor k ps) same stands in
    one_list longest_payload (omega arith) (active_of i) ps qs s.stands others.stands

-- and then no cause lies in them
pub refused : (i : Image) (qs : List (List ℕ)) (cause : OpenCause) → Tells i cause → ImageStandsFor i qs → IsPassing cause
refused i qs (opens.Damaged gate) reported stands = undamaged longest_payload (omega arith) (active_of i) qs gate stands.stands reported
refused i qs opens.NotASheet reported stands = reported stands.headed (has_header longest_payload (omega arith) (active_of i) qs stands.stands)
refused i qs opens.Disk reported stands = tt
refused i qs opens.OutOfMemory reported stands = tt
