-- Blocks and open levels as rows of marks, for the proofs. What a reader must believe is said on trees (Spelling, Stream, Faults).
use Rattle.std.specs.Prelude.{◌≡◌, ℕ, zero, suc, ◌<◌, Bool, true, false, List, [], ◌∷◌, ◌++◌}
use Rattle.block_tree.specs.Shape.{is_tag_name}
use Rattle.block_tree.specs.inside.Marks.{Mark, open_mark, letter, close_mark}
use Rattle.meta_format.specs.Spelling.{is_special, separator}

-- The bytes spell the marks, one after another.
pub data SpellsMarks (tag : ℕ) : List Mark → List ℕ → Type 0 where
  nothing : SpellsMarks tag [] []
  plain : {c : ℕ} {ms : List Mark} {s : List ℕ} → is_special c ≡ false → SpellsMarks tag ms s → SpellsMarks tag (letter c ∷ ms) (c ∷ s)
  escaped : {c : ℕ} {ms : List Mark} {s : List ℕ} → is_special c ≡ true → SpellsMarks tag ms s → SpellsMarks tag (letter c ∷ ms) (27 ∷ c ∷ s)
  both : {c : ℕ} {ms : List Mark} {s : List ℕ} → is_special c ≡ false → SpellsMarks tag ms s → SpellsMarks tag (letter 27 ∷ letter c ∷ ms) (27 ∷ c ∷ s)
  opened : {channel : Bool} {name : List ℕ} {ms : List Mark} {s : List ℕ} → is_tag_name tag name ≡ true → SpellsMarks tag ms s
      → SpellsMarks tag (open_mark channel name ∷ ms) (2 ∷ (name ++ separator channel ∷ s))
  closed : {ms : List Mark} {s : List ℕ} → SpellsMarks tag ms s → SpellsMarks tag (close_mark ∷ ms) (5 ∷ s)

-- In so many levels the marks lead to so many, never to more than most, and nothing follows the end of the outermost.
abbrev pub Leads : ℕ → ℕ → List Mark → ℕ → Type 0
Leads most d [] e = d ≡ e
Leads most zero (m ∷ ms) e = ⊥
Leads most (suc d) (letter c ∷ ms) e = Leads most (suc d) ms e
Leads most (suc d) (open_mark channel name ∷ ms) e = (suc d < most) × Leads most (suc (suc d)) ms e
Leads most (suc d) (close_mark ∷ ms) e = Leads most d ms e

-- The marks begin a block, and so many levels are open after them: none where it is whole.
abbrev pub Begins : ℕ → List Mark → ℕ → Type 0
Begins most [] e = ⊥
Begins most (letter c ∷ ms) e = ⊥
Begins most (close_mark ∷ ms) e = ⊥
Begins most (open_mark channel name ∷ ms) e = (0 < most) × Leads most 1 ms e

-- After the marks nothing is open, or so many levels of a block.
abbrev pub IsOpen : ℕ → List Mark → ℕ → Type 0
IsOpen most [] levels = levels ≡ 0
IsOpen most (m ∷ ms) levels = (0 < levels) × Begins most (m ∷ ms) levels
