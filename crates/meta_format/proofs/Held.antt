-- How many bytes are held.
use Rattle.std.proofs.Common.{◌≡◌, ℕ, suc, ◌+◌, ◌<◌, ◌≤◌, Bool, false, List, [], ◌∷◌, ◌++◌, length, refl, sym, ap, ◌∙◌, subst, arith, length-append}
use Rattle.std.proofs.lemmas.Bool.{or_parts, leb-false}
use Rattle.std.specs.Prelude.{nat_le}
use Rattle.block_tree.specs.Shape.{most_levels}
use Rattle.meta_format.proofs.Openings.{none_open}
use Rattle.block_tree.specs.inside.Marks.{Mark, open_mark, letter, close_mark}
use Rattle.meta_format.specs.inside.Levels.{weight, IsHeld, stack_marks}
use Rattle.meta_format.specs.inside.Machine.{is_late}
use Rattle.meta_format.specs.inside.Scan.{most_of, IsFresh, AreLevels, IsPlacedAt, IsPlaced, held_bytes}
use Rattle.meta_format.specs.declared.bounds.Bounds.{Bounds}
use Rattle.meta_format.specs.declared.level.Level.{Level}
use Rattle.meta_format.specs.declared.scan.Place.{Place}
use Rattle.meta_format.specs.declared.scan.Place.TheVariants as place
use Rattle.meta_format.specs.declared.scan.Scanner.{Scanner}

weight-append : (ms ns : List Mark) → weight (ms ++ ns) ≡ weight ms + weight ns
weight-append [] ns = omega arith
weight-append (open_mark channel name ∷ ms) ns = let rest = weight-append ms ns in omega arith
weight-append (letter c ∷ ms) ns = let rest = weight-append ms ns in omega arith
weight-append (close_mark ∷ ms) ns = weight-append ms ns

pub weight_of : (ms ns more : List Mark) → ns ≡ ms ++ more → weight ns ≡ weight ms + weight more
weight_of ms ns more e = ap weight e ∙ weight-append ms more

not_late : (b : Bounds) (start at : ℕ) → is_late (most_of b) start at ≡ false → suc at < b.block + start
not_late b start at h = leb-false (b.block + start) (suc at) (or_parts (nat_le b.stream at) (nat_le (b.block + start) (suc at)) h).1

module _ (b : Bounds) (start at : ℕ) (ms ns : List Mark) (late : is_late (most_of b) start at ≡ false) where
  pub held_letter : (c : ℕ) → ns ≡ ms ++ letter c ∷ [] → IsHeld b.block start at ms 0 → IsHeld b.block start (at + 1) ns 0
  held_letter c e h = let w = weight_of ms ns (letter c ∷ []) e in let free = not_late b start at late in let bytes = h.bytes in record { bytes = omega arith; short = omega arith }

  pub held_special : (c : ℕ) → ns ≡ ms ++ letter c ∷ [] → IsHeld b.block start at ms 1 → IsHeld b.block start (at + 1) ns 0
  held_special c e h = let w = weight_of ms ns (letter c ∷ []) e in let free = not_late b start at late in let bytes = h.bytes in record { bytes = omega arith; short = omega arith }

  pub held_both : (mid : List Mark) (c d : ℕ) → mid ≡ ms ++ letter c ∷ [] → ns ≡ mid ++ letter d ∷ [] → IsHeld b.block start at ms 1 → IsHeld b.block start (at + 1) ns 0
  held_both mid c d e f h =
      let w = weight_of ms mid (letter c ∷ []) e in let v = weight_of mid ns (letter d ∷ []) f in
      let free = not_late b start at late in let bytes = h.bytes in record { bytes = omega arith; short = omega arith }

  pub held_close : ns ≡ ms ++ close_mark ∷ [] → IsHeld b.block start at ms 0 → IsHeld b.block start (at + 1) ns 0
  held_close e h = let w = weight_of ms ns (close_mark ∷ []) e in let free = not_late b start at late in let bytes = h.bytes in record { bytes = omega arith; short = omega arith }

  pub held_tag : (channel : Bool) (name : List ℕ) → ns ≡ ms ++ open_mark channel name ∷ [] → IsHeld b.block start at ms (length name) → IsHeld b.block start (at + 1) ns 0
  held_tag channel name e h = let w = weight_of ms ns (open_mark channel name ∷ []) e in let free = not_late b start at late in let bytes = h.bytes in record { bytes = omega arith; short = omega arith }

  pub held_name : (name : List ℕ) (c : ℕ) → IsHeld b.block start at ms (length name) → IsHeld b.block start (at + 1) ms (length (name ++ c ∷ []))
  held_name name c h = let longer = length-append name (c ∷ []) in let free = not_late b start at late in let bytes = h.bytes in record { bytes = omega arith; short = omega arith }

  pub held_more : (k : ℕ) → k ≤ 1 → IsHeld b.block start at ms 0 → IsHeld b.block start (at + 1) ms k
  held_more k small h = let free = not_late b start at late in let bytes = h.bytes in record { bytes = omega arith; short = omega arith }

pub held_none : (block at : ℕ) (levels : List Level) (name : List ℕ) → levels ≡ [] → name ≡ [] → 0 < block → IsHeld block at (at + 1) (stack_marks levels) (length name)
held_none block at levels name e f some =
    let w : weight (stack_marks levels) ≡ 0 = ap (λ l. weight (stack_marks l)) e in
    let n : length name ≡ 0 = ap length f in
    record { bytes = omega arith; short = omega arith }

pub ruleset held_rules = (held_letter, held_special, held_both, held_close, held_tag, held_name, held_more, held_none)

held_at : (block : ℕ) (p : Place) (at start : ℕ) (levels : List Level) (name : List ℕ) → IsPlacedAt block p at start levels name → weight (stack_marks levels) + length name ≤ block
held_at block place.Outside at start levels name h =
    let w : weight (stack_marks levels) ≡ 0 = ap (λ l. weight (stack_marks l)) h.0 in
    let n : length name ≡ 0 = ap length h.1 in
    omega arith
held_at block place.Tag at start levels name (begun, few, bytes, short, held) = let held_bytes = held.bytes in let near = held.short in omega arith
held_at block place.Body at start levels name (begun, some, none, held) = let held_bytes = held.bytes in let near = held.short in let n : length name ≡ 0 = ap length none in omega arith
held_at block place.Escape at start levels name (begun, some, none, held) = let held_bytes = held.bytes in let near = held.short in let n : length name ≡ 0 = ap length none in omega arith

pub placed_held : (block : ℕ) (s : Scanner) → IsPlaced block s → held_bytes s ≤ block
placed_held block s h = held_at block s.place s.at s.start s.levels.items s.name.items h.place

pub placed_fresh : (block : ℕ) (s : Scanner) → IsFresh s → IsPlaced block s
placed_fresh block s h = record {
  place = subst (λ p. IsPlacedAt block p s.at s.start s.levels.items s.name.items) (sym h.outside) (h.levels, h.name);
  levels = subst AreLevels (sym h.levels) record { right = λ k d less. absurd (omega arith); opened = none_open most_levels 0 [] refl refl };
}

pub held_fresh : (block : ℕ) (s : Scanner) → IsFresh s → held_bytes s ≤ block
held_fresh block s h = placed_held block s (placed_fresh block s h)

pub ruleset reader_rules = (placed_held, placed_fresh, held_fresh)
