-- What a line that was looked at is.
use Rattle.std.proofs.Common.{◌≡◌, ℕ, List, [], ◌∷◌, refl, sym, ◌∙◌}
use Rattle.arrivals.specs.Lines.{InputLine, whole, too_long}
use Rattle.arrivals.specs.Held.{Held, GivesLine, IsNextLine, left_with}
use Rattle.arrivals.specs.declared.buffer.NextLine.{NextLine}
use Rattle.arrivals.specs.declared.buffer.NextLine.TheVariants as next

first-of : (l m : InputLine) (ls ms : List InputLine) → l ∷ ls ≡ m ∷ ms → l ≡ m
first-of l m ls ms is = cc is

bytes-of : (a b : List ℕ) → whole a ≡ whole b → a ≡ b
bytes-of a b is = cc is

not-long : (line : List ℕ) → too_long ≡ whole line → ⊥
not-long line is = cc is

not-none : (l : InputLine) (ls : List InputLine) → [] ≡ l ∷ ls → ⊥
not-none l ls is = cc is

-- The line that comes next is the one that is given.
pub peeked_is_given : (h k : Held) (r : NextLine) (line : List ℕ) → IsNextLine h line → GivesLine h r k → (r ≡ next.Line) × (k.line ≡ line)
peeked_is_given h k next.Line line comes gives =
    let is = comes.1 [] in
    (refl, bytes-of k.line line (first-of (whole k.line) (whole line) (left_with k []) is.0 (sym (gives []) ∙ is.1)))
peeked_is_given h k next.TooLong line comes gives =
    let is = comes.1 [] in
    absurd (not-long line (first-of too_long (whole line) (left_with k []) is.0 (sym (gives []) ∙ is.1)))
peeked_is_given h k next.End line comes gives =
    let is = comes.1 [] in
    absurd (not-none (whole line) is.0 (sym (gives.1 []).0 ∙ is.1))
peeked_is_given h k next.More line comes gives = absurd (gives.1 comes.0.0 comes.0.1 comes.0.2)
