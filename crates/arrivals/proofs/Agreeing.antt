-- Lines that are not too long.
use Rattle.std.proofs.Common.{◌≡◌, ◌≤◌, ℕ, List, [], ◌∷◌, length, map, refl, ap, ◌∙◌}
use Rattle.std.specs.List.{All}
use Rattle.std.proofs.lemmas.Bool.{cond-true}
use Rattle.std.proofs.lemmas.List.Elements.{All-head, All-tail}
use Rattle.bstr.specs.Text.{lines_of, without_terminator}
use Rattle.arrivals.specs.Lines.{whole, longest_line, bounded_line, input_lines}
use Rattle.arrivals.specs.Laws.{LinesAreOfBstr}
use Rattle.arrivals.proofs.Rooms.{under-leb}

line-agrees : (line : List ℕ) → length (without_terminator line) ≤ longest_line → bounded_line line ≡ whole (without_terminator line)
unfolding bounded_line
line-agrees line fits = cond-true _ _ _ (under-leb _ _ fits)

all-agree : (lines : List (List ℕ)) → All (λ line. length line ≤ longest_line) (map without_terminator lines) → map bounded_line lines ≡ map whole (map without_terminator lines)
all-agree [] fit = refl
all-agree (line ∷ lines) fit =
    let fits = λ (bytes : List ℕ). length bytes ≤ longest_line in
    let first = All-head fits (without_terminator line) (map without_terminator lines) fit in
    let rest = All-tail fits (without_terminator line) (map without_terminator lines) fit in
    ap (λ l. l ∷ map bounded_line lines) (line-agrees line first) ∙ ap (λ ls. whole (without_terminator line) ∷ ls) (all-agree lines rest)

pub lines-agree : LinesAreOfBstr
unfolding input_lines
lines-agree bytes fit = all-agree (lines_of bytes) fit
