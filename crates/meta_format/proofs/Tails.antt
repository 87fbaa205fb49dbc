-- What the machine knows of an open tail.
use Rattle.std.proofs.Common.{◌≡◌, ℕ, zero, suc, ◌+◌, ◌<◌, ◌≤◌, Bool, true, false, cond, ◌&&◌, ◌||◌, nat_eq, nat_le, nat_lt, not, List, [], ◌∷◌, ◌++◌, length, refl, sym, ap, ◌∙◌, subst, arith, append_assoc, length-append, inl, inr, ⊎_elim}
use Rattle.std.proofs.lemmas.Bool.{cond_both, or_left, or_right, ltb-true, lt-ltb, eq-eqb, not-true, true≢false, and_parts, or_from, leb-false, leb-true, ltb-false, eqb-true, eqb-false, or_parts, or_cases, and_from, not_from_false}
use Rattle.std.specs.List.{list_all}
use Rattle.block_tree.specs.Shape.{is_tag_byte, is_tag_name}
use Rattle.block_tree.specs.inside.Marks.{Mark, open_mark, letter, close_mark}
use Rattle.meta_format.specs.Limits.{Limits}
use Rattle.meta_format.specs.Spelling.{separator, is_special, is_separator}
use Rattle.meta_format.specs.inside.Rows.{SpellsMarks, nothing, plain, escaped, both, opened, closed, Begins, IsOpen}
use Rattle.block_tree.specs.inside.Marks.{tree_from}
use Rattle.meta_format.specs.Stream.{IsOuter}
use Rattle.meta_format.specs.Faults.{Kind, bad_tag, too_deep, too_long, Place, in_tag, in_body, EndsIn, IsBadTag, IsWrong, Closes, IsFault}
use Rattle.meta_format.specs.inside.Machine.{Mode, outside, tag_of, body_of, escape_of, broken, Change, halts, turns, ends, stays, is_bad_tag, is_late, unless_late, closing, after}
use Rattle.meta_format.proofs.Tags.{tag_from, byte_from, and_true_left, list_all-push}
use Rattle.meta_format.proofs.Leading.{Begins-append, open_more, IsOpen-from_Begins, Begins-bound}
use Rattle.meta_format.proofs.Spelled.{Spells-append}
use Rattle.meta_format.proofs.Unique.{row_spells}
use Rattle.meta_format.proofs.Places.{HasPlace, place_row}

-- the bytes of the tail, by the machine's mode
abbrev pub Shape : Limits → List ℕ → Mode → Type 0
Shape most tail outside = ⊥
Shape most tail (tag_of start ms levels name) = (text : List ℕ) × IsOpen most.levels ms levels × (levels < most.levels) × SpellsMarks most.tag ms text
    × (list_all is_tag_byte name ≡ true) × (length name ≤ most.tag) × (tail ≡ text ++ 2 ∷ name)
Shape most tail (body_of start ms d) = Begins most.levels ms (suc d) × SpellsMarks most.tag ms tail
Shape most tail (escape_of start ms d) = (text : List ℕ) × Begins most.levels ms (suc d) × SpellsMarks most.tag ms text × (tail ≡ text ++ 27 ∷ [])
Shape most tail (broken kind f) = ⊥

abbrev pub StartsAt : ℕ → Mode → Type 0
StartsAt a outside = ⊥
StartsAt a (tag_of start ms levels name) = start ≡ a
StartsAt a (body_of start ms d) = start ≡ a
StartsAt a (escape_of start ms d) = start ≡ a
StartsAt a (broken kind f) = ⊥

-- what a change makes of a tail
abbrev pub Outcome : Limits → ℕ → ℕ → List ℕ → ℕ → Change → Type 0
Outcome most a at tail c (halts kind) = IsFault most at tail c kind
Outcome most a at tail c (turns mode) = Shape most (tail ++ c ∷ []) mode × StartsAt a mode × (suc at < most.block + a) × (at < most.stream) × ((kind : Kind) → IsWrong most tail c kind → ⊥)
Outcome most a at tail c (ends start ms) = (start ≡ a) × IsOuter most a (tree_from ms) (tail ++ c ∷ []) × Closes most tail c × ((kind : Kind) → IsWrong most tail c kind → ⊥)
Outcome most a at tail c stays = ⊥

-- the byte is neither wrong nor does it close the block
pub record IsPlain (most : Limits) (tail : List ℕ) (c : ℕ) : Type 0 where
  pub right : (kind : Kind) → IsWrong most tail c kind → ⊥
  pub no_end : Closes most tail c → ⊥

turned : (most : Limits) (a start at : ℕ) (tail : List ℕ) (c : ℕ) (mode : Mode) → at ≡ a + length tail → length tail < most.block → at ≤ most.stream → IsPlain most tail c → start ≡ a → Shape most (tail ++ c ∷ []) mode → StartsAt a mode
    → Outcome most a at tail c (unless_late most start at mode)
turned most a start at tail c mode place short_tail early_tail byte same shape starts =
    cond_both (is_late most start at) (halts too_long) (turns mode) (Outcome most a at tail c)
    (λ e. (byte.right, ⊎_elim (λ f. let g = leb-true most.stream at f in inr (let k : at ≡ most.stream = omega arith in k)) (λ f. let g = leb-true (most.block + start) (suc at) f in inl (let h : suc (length tail) ≡ most.block = omega arith in h, byte.no_end)) (or_cases (nat_le most.stream at) (nat_le (most.block + start) (suc at)) e)))
    (λ e. let parts = or_parts (nat_le most.stream at) (nat_le (most.block + start) (suc at)) e in
    let early = leb-false most.stream at parts.0 in
    let short = leb-false (most.block + start) (suc at) parts.1 in
    (shape, starts, omega arith, early, byte.right))

bad_from_test : (most : Limits) (name : List ℕ) (c : ℕ) → is_bad_tag most.tag name c ≡ true → IsBadTag most name c
bad_from_test most name c h = ⊎_elim
    (λ f. ⊎_elim (λ g. inl (ltb-true c 32 g)) (λ g. let parts = and_parts (is_separator c) (nat_eq (length name) 0) g in inr (inl (parts.0, empty_list name (eqb-true (length name) 0 parts.1))))
    (or_cases (nat_lt c 32) (is_separator c && nat_eq (length name) 0) f))
    (λ f. let parts = and_parts (not (is_separator c)) (nat_eq (length name) most.tag) f in inr (inr (not-true (is_separator c) parts.0, eqb-true (length name) most.tag parts.1)))
    (or_cases (nat_lt c 32 || (is_separator c && nat_eq (length name) 0)) (not (is_separator c) && nat_eq (length name) most.tag) h)
  where
    empty_list : (xs : List ℕ) → length xs ≡ 0 → xs ≡ []
    empty_list [] h = refl
    empty_list (x ∷ xs) h = absurd (omega arith)

test_from_bad : (most : Limits) (name : List ℕ) (c : ℕ) → IsBadTag most name c → is_bad_tag most.tag name c ≡ true
test_from_bad most name c h = ⊎_elim
    (λ f. or_left _ _ (or_left (nat_lt c 32) _ (lt-ltb c 32 f)))
    (⊎_elim (λ f. or_left _ _ (or_right (nat_lt c 32) _ (and_from (is_separator c) (nat_eq (length name) 0) f.0 (eq-eqb (length name) 0 (ap length f.1)))))
    (λ f. or_right _ _ (and_from (not (is_separator c)) (nat_eq (length name) most.tag) (not_from_false (is_separator c) f.0) (eq-eqb (length name) most.tag f.1)))) h

pub separator_at : (b : Bool) (c : ℕ) → nat_eq c 35 ≡ b → is_separator c ≡ true → c ≡ separator b
separator_at true c e h = eqb-true c 35 e
separator_at false c e h = ⊎_elim (λ f. eqb-true c 58 f) (λ f. let no : true ≡ false = sym f ∙ e in absurd (true≢false no)) (or_cases (nat_eq c 58) (nat_eq c 35) h)

along : {tag : ℕ} {ms : List Mark} {s t : List ℕ} → t ≡ s → SpellsMarks tag ms s → SpellsMarks tag ms t
along {tag} {ms} e p = subst (λ x. SpellsMarks tag ms x) (sym e) p

module _ (most : Limits) (a at : ℕ) (tail : List ℕ) (place : at ≡ a + length tail) (short : length tail < most.block) (early : at ≤ most.stream) (c : ℕ) where
  abbrev pub Only : Mode → Type 0
  Only mode = (place : Place) → EndsIn most tail place → HasPlace mode place

  escape_right : (start : ℕ) (ms : List Mark) (d : ℕ) → Only (escape_of start ms d) → (kind : Kind) → IsWrong most tail c kind → ⊥
  escape_right start ms d only bad_tag w = only (in_tag w.0) w.1
  escape_right start ms d only too_deep w = only (in_body most.levels) w.0
  escape_right start ms d only too_long w = w

  body_right : (start : ℕ) (ms : List Mark) (d : ℕ) → Only (body_of start ms d) → (c ≡ 2 → suc d ≡ most.levels → ⊥) → (kind : Kind) → IsWrong most tail c kind → ⊥
  body_right start ms d only apart bad_tag w = only (in_tag w.0) w.1
  body_right start ms d only apart too_deep w = apart w.1 (only (in_body most.levels) w.0)
  body_right start ms d only apart too_long w = w

  tag_right : (start : ℕ) (ms : List Mark) (levels : ℕ) (name : List ℕ) → Only (tag_of start ms levels name) → is_bad_tag most.tag name c ≡ false → (kind : Kind) → IsWrong most tail c kind → ⊥
  tag_right start ms levels name only good bad_tag w =
      let bad = test_from_bad most w.0 c w.2 in
      let same = only (in_tag w.0) w.1 in
      let no : true ≡ false = sym bad ∙ ap (λ n. is_bad_tag most.tag n c) (sym same) ∙ good in
      true≢false no
  tag_right start ms levels name only good too_deep w = only (in_body most.levels) w.0
  tag_right start ms levels name only good too_long w = w

  escape_outcome : (start : ℕ) (ms : List Mark) (d : ℕ) → Shape most tail (escape_of start ms d) → start ≡ a → Only (escape_of start ms d) → Outcome most a at tail c (after most at (escape_of start ms d) c)
  escape_outcome start ms d (text, o, p, e) same only =
      let byte : IsPlain most tail c = record { right = escape_right start ms d only; no_end = λ k. only (in_body 1) k.0 } in
      let f : tail ++ c ∷ [] ≡ text ++ 27 ∷ c ∷ [] = ap (λ t. t ++ c ∷ []) e ∙ append_assoc text (27 ∷ []) (c ∷ []) in
      turned most a start at tail c (body_of start (ms ++ cond (is_special c) (letter c ∷ []) (letter 27 ∷ letter c ∷ [])) d) place short early byte same
      (cond_both (is_special c) (letter c ∷ []) (letter 27 ∷ letter c ∷ []) (λ xs. Begins most.levels (ms ++ xs) (suc d) × SpellsMarks most.tag (ms ++ xs) (tail ++ c ∷ []))
      (λ h. (Begins-append most.levels (suc d) (suc d) ms (letter c ∷ []) o refl, along f (Spells-append p (escaped h nothing))))
      (λ h. (Begins-append most.levels (suc d) (suc d) ms (letter 27 ∷ letter c ∷ []) o refl, along f (Spells-append p (both h nothing)))))
      same

  -- a byte that is no 2 and no 5
  text_outcome : (start : ℕ) (ms : List Mark) (d : ℕ) → Shape most tail (body_of start ms d) → start ≡ a → Only (body_of start ms d) → nat_eq c 2 ≡ false → nat_eq c 5 ≡ false
      → Outcome most a at tail c (unless_late most start at (cond (nat_eq c 27) (escape_of start ms d) (body_of start (ms ++ letter c ∷ []) d)))
  text_outcome start ms d shape same only no2 no5 =
      let byte : IsPlain most tail c = record { right = body_right start ms d only (λ e f. eqb-false c 2 no2 e); no_end = λ k. eqb-false c 5 no5 k.1 } in
      cond_both (nat_eq c 27) (escape_of start ms d) (body_of start (ms ++ letter c ∷ []) d) (λ mode. Outcome most a at tail c (unless_late most start at mode))
      (λ h. turned most a start at tail c (escape_of start ms d) place short early byte same (tail, shape.0, shape.1, ap (λ x. tail ++ x ∷ []) (eqb-true c 27 h)) same)
      (λ h. turned most a start at tail c (body_of start (ms ++ letter c ∷ []) d) place short early byte same
      (Begins-append most.levels (suc d) (suc d) ms (letter c ∷ []) shape.0 refl, Spells-append shape.1 (plain (or_from _ _ (or_from _ _ no2 no5) h) nothing)) same)

  close_outcome : (start : ℕ) (ms : List Mark) (d : ℕ) → Shape most tail (body_of start ms d) → start ≡ a → Only (body_of start ms d) → c ≡ 5 → Outcome most a at tail c (closing most at start ms d)
  close_outcome start ms zero shape same only five =
      let right = body_right start ms zero only (λ e f. let no : 2 ≡ 5 = sym e ∙ five in absurd (omega arith)) in
      let spelled : SpellsMarks most.tag (ms ++ close_mark ∷ []) (tail ++ c ∷ []) = along (ap (λ x. tail ++ x ∷ []) five) (Spells-append shape.1 (closed nothing)) in
      let whole = Begins-append most.levels 1 0 ms (close_mark ∷ []) shape.0 refl in
      cond_both (nat_le most.stream at) (halts too_long) (ends start (ms ++ close_mark ∷ [])) (Outcome most a at tail c) (λ h. let g = leb-true most.stream at h in (right, inr (let k : at ≡ most.stream = omega arith in k)))
      (λ h. let before = leb-false most.stream at h in
      let longer = length-append tail (c ∷ []) in
      (same, record { spelled = row_spells most (ms ++ close_mark ∷ []) (tail ++ c ∷ []) spelled whole; short = omega arith; early = omega arith }, (place_row most tail (in_body 1) (ms, omega arith, shape.0, shape.1), five), right))
  close_outcome start ms (suc d) shape same only five =
      let byte : IsPlain most tail c = record { right = body_right start ms (suc d) only (λ e f. let no : 2 ≡ 5 = sym e ∙ five in absurd (omega arith)); no_end = λ k. let one = only (in_body 1) k.0 in absurd (omega arith) } in
      turned most a start at tail c (body_of start (ms ++ close_mark ∷ []) d) place short early byte same
      (Begins-append most.levels (suc (suc d)) (suc d) ms (close_mark ∷ []) shape.0 refl, along (ap (λ x. tail ++ x ∷ []) five) (Spells-append shape.1 (closed nothing))) same

  body_outcome : (start : ℕ) (ms : List Mark) (d : ℕ) → Shape most tail (body_of start ms d) → start ≡ a → Only (body_of start ms d) → Outcome most a at tail c (after most at (body_of start ms d) c)
  body_outcome start ms d shape same only =
      cond_both (nat_eq c 2) (cond (nat_le most.levels (suc d)) (halts too_deep) (unless_late most start at (tag_of start ms (suc d) [])))
      (cond (nat_eq c 5) (closing most at start ms d) (unless_late most start at (cond (nat_eq c 27) (escape_of start ms d) (body_of start (ms ++ letter c ∷ []) d))))
      (Outcome most a at tail c)
      (λ two. cond_both (nat_le most.levels (suc d)) (halts too_deep) (unless_late most start at (tag_of start ms (suc d) [])) (Outcome most a at tail c)
      (λ deep. let least = leb-true most.levels (suc d) deep in let bound = Begins-bound most.levels (suc d) ms shape.0 in let full : suc d ≡ most.levels = omega arith in
      (subst (λ n. EndsIn most tail (in_body n)) full (place_row most tail (in_body (suc d)) (ms, omega arith, shape.0, shape.1)), eqb-true c 2 two))
      (λ room. let less = leb-false most.levels (suc d) room in
      let byte : IsPlain most tail c = record { right = body_right start ms d only (λ e f. absurd (omega arith)); no_end = λ k. let no : 5 ≡ 2 = sym k.1 ∙ eqb-true c 2 two in absurd (omega arith) } in
      turned most a start at tail c (tag_of start ms (suc d) []) place short early byte same
      (tail, IsOpen-from_Begins most.levels d ms shape.0, leb-false most.levels (suc d) room, shape.1, refl, omega arith, ap (λ x. tail ++ x ∷ []) (eqb-true c 2 two)) same))
      (λ no2. cond_both (nat_eq c 5) (closing most at start ms d) (unless_late most start at (cond (nat_eq c 27) (escape_of start ms d) (body_of start (ms ++ letter c ∷ []) d))) (Outcome most a at tail c)
      (λ five. close_outcome start ms d shape same only (eqb-true c 5 five))
      (λ no5. text_outcome start ms d shape same only no2 no5))

  tag_outcome : (start : ℕ) (ms : List Mark) (levels : ℕ) (name : List ℕ) → Shape most tail (tag_of start ms levels name) → start ≡ a → Only (tag_of start ms levels name) → Outcome most a at tail c (after most at (tag_of start ms levels name) c)
  tag_outcome start ms levels name (text, o, room, p, each, few, e) same only =
      let f : tail ++ c ∷ [] ≡ text ++ 2 ∷ (name ++ c ∷ []) = ap (λ t. t ++ c ∷ []) e ∙ append_assoc text (2 ∷ name) (c ∷ []) in
      cond_both (is_bad_tag most.tag name c) (halts bad_tag)
      (unless_late most start at (cond (is_separator c) (body_of start (ms ++ open_mark (nat_eq c 35) name ∷ []) levels) (tag_of start ms levels (name ++ c ∷ []))))
      (Outcome most a at tail c) (λ bad. (name, place_row most tail (in_tag name) (ms, levels, text, o, room, p, each, few, e), bad_from_test most name c bad))
      (λ good.
      let byte : IsPlain most tail c = record { right = tag_right start ms levels name only good; no_end = λ k. only (in_body 1) k.0 } in
      let parts = or_parts (nat_lt c 32 || (is_separator c && nat_eq (length name) 0)) (not (is_separator c) && nat_eq (length name) most.tag) good in
      let low = or_parts (nat_lt c 32) (is_separator c && nat_eq (length name) 0) parts.0 in
      let high = ltb-false c 32 low.0 in
      cond_both (is_separator c) (body_of start (ms ++ open_mark (nat_eq c 35) name ∷ []) levels) (tag_of start ms levels (name ++ c ∷ []))
      (λ mode. Outcome most a at tail c (unless_late most start at mode))
      (λ sep. let nonempty = eqb-false (length name) 0 (and_true_left (is_separator c) (nat_eq (length name) 0) sep low.1) in
      let some : 0 < length name = omega arith in
      let tag : is_tag_name most.tag name ≡ true = tag_from most.tag name some few each in
      let g : tail ++ c ∷ [] ≡ text ++ 2 ∷ (name ++ separator (nat_eq c 35) ∷ []) = f ∙ ap (λ x. text ++ 2 ∷ (name ++ x ∷ [])) (separator_at (nat_eq c 35) c refl sep) in
      turned most a start at tail c (body_of start (ms ++ open_mark (nat_eq c 35) name ∷ []) levels) place short early byte same
      (open_more most.levels levels (nat_eq c 35) name ms o room, along g (Spells-append p (opened {channel = nat_eq c 35} {name = name} tag nothing))) same)
      (λ no. let short_name = eqb-false (length name) most.tag (and_true_left (not (is_separator c)) (nat_eq (length name) most.tag) (not_from_false (is_separator c) no) parts.1) in
      let longer = length-append name (c ∷ []) in
      let right_byte : is_tag_byte c ≡ true = byte_from c high no in
      turned most a start at tail c (tag_of start ms levels (name ++ c ∷ [])) place short early byte same
      (text, o, room, p, list_all-push is_tag_byte name c each right_byte, omega arith, f) same))

  pub outcome : (mode : Mode) → Shape most tail mode → StartsAt a mode → Only mode → Outcome most a at tail c (after most at mode c)
  outcome outside shape starts only = absurd shape
  outcome (tag_of start ms levels name) shape starts only = tag_outcome start ms levels name shape starts only
  outcome (body_of start ms d) shape starts only = body_outcome start ms d shape starts only
  outcome (escape_of start ms d) shape starts only = escape_outcome start ms d shape starts only
  outcome (broken kind f) shape starts only = absurd shape
