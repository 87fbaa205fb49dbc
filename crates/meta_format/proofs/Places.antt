-- An open tail leads the machine to its place.
use Rattle.std.proofs.Common.{◌≡◌, ℕ, zero, suc, ◌+◌, ◌<◌, ◌≤◌, true, List, [], ◌∷◌, ◌++◌, length, refl, sym, ap, ◌∙◌, arith, append-nil, length-append}
use Rattle.std.proofs.lemmas.Bool.{cond-false, lt-leb}
use Rattle.std.specs.List.{list_all}
use Rattle.block_tree.specs.Shape.{is_tag_byte}
use Rattle.block_tree.specs.inside.Marks.{Mark}
use Rattle.meta_format.specs.Limits.{Limits}
use Rattle.meta_format.specs.inside.Rows.{SpellsMarks, nothing, Begins, IsOpen}
use Rattle.meta_format.specs.Stream.{Outer}
use Rattle.meta_format.specs.Faults.{Place, in_tag, in_body, in_escape, EndsIn}
use Rattle.meta_format.specs.inside.Machine.{Mode, outside, tag_of, body_of, escape_of, apply, run}
use Rattle.meta_format.proofs.Spelled.{run-append, tag_run, body_opens, body_escape}
use Rattle.meta_format.proofs.Leading.{Begins-from_IsOpen, IsOpen-from_Begins}
use Rattle.meta_format.proofs.Bridge.{levels_row, row_levels}
use Rattle.meta_format.proofs.Unique.{open_run}

-- the place of an open tail, by a row of marks
abbrev pub RowEndsIn : Limits → List ℕ → Place → Type 0
RowEndsIn most tail (in_tag name) = (ms : List Mark) × (levels : ℕ) × (text : List ℕ) × IsOpen most.levels ms levels × (levels < most.levels) × SpellsMarks most.tag ms text
    × (list_all is_tag_byte name ≡ true) × (length name ≤ most.tag) × (tail ≡ text ++ 2 ∷ name)
RowEndsIn most tail (in_body levels) = (ms : List Mark) × (0 < levels) × Begins most.levels ms levels × SpellsMarks most.tag ms tail
RowEndsIn most tail (in_escape levels) = (ms : List Mark) × (text : List ℕ) × (0 < levels) × Begins most.levels ms levels × SpellsMarks most.tag ms text × (tail ≡ text ++ 27 ∷ [])

row_place : (most : Limits) (tail : List ℕ) (place : Place) → EndsIn most tail place → RowEndsIn most tail place
row_place most tail (in_tag name) (n, outer, o, deep, each, few, e) =
    let r = levels_row most o in (r.row, n, outer, r.open_row, deep, r.spelled, each, few, e)
row_place most tail (in_body zero) (some, o) = absurd (omega arith)
row_place most tail (in_body (suc d)) (some, o) =
    let r = levels_row most o in (r.row, some, Begins-from_IsOpen most.levels d r.row r.open_row, r.spelled)
row_place most tail (in_escape zero) (front, some, o, e) = absurd (omega arith)
row_place most tail (in_escape (suc d)) (front, some, o, e) =
    let r = levels_row most o in (r.row, front, some, Begins-from_IsOpen most.levels d r.row r.open_row, r.spelled, e)

pub place_row : (most : Limits) (tail : List ℕ) (place : Place) → RowEndsIn most tail place → EndsIn most tail place
place_row most tail (in_tag name) (ms, n, text, o, deep, p, each, few, e) = (n, text, row_levels most ms text n p o, deep, each, few, e)
place_row most tail (in_body zero) (ms, some, o, p) = absurd (omega arith)
place_row most tail (in_body (suc d)) (ms, some, o, p) = (some, row_levels most ms tail (suc d) p (IsOpen-from_Begins most.levels d ms o))
place_row most tail (in_escape zero) (ms, text, some, o, p, e) = absurd (omega arith)
place_row most tail (in_escape (suc d)) (ms, text, some, o, p, e) = (text, some, row_levels most ms text (suc d) p (IsOpen-from_Begins most.levels d ms o), e)

abbrev pub HasPlace : Mode → Place → Type 0
HasPlace (tag_of start ms levels name) (in_tag other) = name ≡ other
HasPlace (body_of start ms d) (in_body levels) = suc d ≡ levels
HasPlace (escape_of start ms d) (in_escape levels) = suc d ≡ levels
HasPlace _ _ = ⊥

pub record Arrives (most : Limits) (a : ℕ) (out : List Outer) (tail : List ℕ) (place : Place) : Type 0 where
  pub mode : Mode
  pub there : HasPlace mode place
  pub ran : run most record { at = a; out = out; mode = outside } tail ≡ record { at = a + length tail; out = out; mode = mode }

empty_spelling : {tag : ℕ} {s : List ℕ} → SpellsMarks tag [] s → s ≡ []
empty_spelling nothing = refl

-- up to the byte 2 of a tag
before_tag : (most : Limits) (a : ℕ) (out : List Outer) (ms : List Mark) (levels : ℕ) (text rest : List ℕ) → IsOpen most.levels ms levels → levels < most.levels → SpellsMarks most.tag ms text
    → length text + 1 < most.block → a + length text < most.stream
    → run most record { at = a; out = out; mode = outside } (text ++ 2 ∷ rest) ≡ run most record { at = suc (a + length text); out = out; mode = tag_of a ms levels [] } rest
before_tag most a out [] levels text rest o deep p short early =
    let none = empty_spelling p in
    let free : a < most.stream = omega arith in
    ap (λ t. run most record { at = a; out = out; mode = outside } (t ++ 2 ∷ rest)) none
    ∙ ap (λ w. run most (apply record { at = a; out = out; mode = outside } w) rest) (cond-false _ _ _ (lt-leb most.stream a free))
    ∙ ap (λ n. run most record { at = suc n; out = out; mode = tag_of a [] 0 [] } rest) (let e : a ≡ a + length text = omega (arith, ap length none) in e)
    ∙ ap (λ n. run most record { at = suc (a + length text); out = out; mode = tag_of a [] n [] } rest) (sym o)
before_tag most a out (m ∷ ms) zero text rest o deep p short early = absurd (omega arith)
before_tag most a out (m ∷ ms) (suc d) text rest o deep p short early =
    run-append most record { at = a; out = out; mode = outside } text (2 ∷ rest)
    ∙ ap (λ q. run most q (2 ∷ rest)) (open_run most p a out (suc d) o.1 (omega arith) (omega arith))
    ∙ ap (λ w. run most (apply record { at = a + length text; out = out; mode = body_of a (m ∷ ms) d } w) rest) (body_opens most (a + length text) a (m ∷ ms) (omega arith) early d deep)

ends_run : (most : Limits) (a : ℕ) (out : List Outer) (tail : List ℕ) (place : Place) → RowEndsIn most tail place → length tail < most.block → a + length tail ≤ most.stream
    → Arrives most a out tail place
ends_run most a out tail (in_tag name) (ms, levels, text, o, deep, p, each, few, e) short early =
    let whole = length-append text (2 ∷ name) in
    let long = ap length e in
    record {
      mode = tag_of a ms levels name;
      there = refl;
      ran = ap (λ t. run most record { at = a; out = out; mode = outside } t) (e ∙ ap (λ t. text ++ 2 ∷ t) (sym (append-nil name)))
          ∙ before_tag most a out ms levels text (name ++ []) o deep p (omega arith) (omega arith)
          ∙ tag_run most out a ms levels name (suc (a + length text)) [] [] each (omega arith) (omega arith) (omega arith)
          ∙ ap (λ n. record { at = n; out = out; mode = tag_of a ms levels name }) (omega arith);
    }
ends_run most a out tail (in_body zero) (ms, some, o, p) short early = absurd (omega arith)
ends_run most a out tail (in_body (suc d)) (ms, some, o, p) short early =
    record { mode = body_of a ms d; there = refl; ran = open_run most p a out (suc d) o (omega arith) early }
ends_run most a out tail (in_escape zero) (ms, text, some, o, p, e) short early = absurd (omega arith)
ends_run most a out tail (in_escape (suc d)) (ms, text, some, o, p, e) short early =
    let whole = length-append text (27 ∷ []) in
    let long = ap length e in
    record {
      mode = escape_of a ms d;
      there = refl;
      ran = ap (λ t. run most record { at = a; out = out; mode = outside } t) e
          ∙ run-append most record { at = a; out = out; mode = outside } text (27 ∷ [])
          ∙ ap (λ q. run most q (27 ∷ [])) (open_run most p a out (suc d) o (omega arith) (omega arith))
          ∙ ap (apply record { at = a + length text; out = out; mode = body_of a ms d }) (body_escape most (a + length text) a ms (omega arith) (omega arith) d)
          ∙ ap (λ n. record { at = n; out = out; mode = escape_of a ms d }) (omega arith);
    }

pub place_run : (most : Limits) (a : ℕ) (out : List Outer) (tail : List ℕ) (place : Place) → EndsIn most tail place → length tail < most.block → a + length tail ≤ most.stream
    → Arrives most a out tail place
place_run most a out tail place h short early = ends_run most a out tail place (row_place most tail place h) short early
