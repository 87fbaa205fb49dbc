-- Laws of the lines of an input.
use Rattle.std.specs.Prelude.{◌≡◌, ℕ, ◌≤◌, List, length, map}
use Rattle.std.specs.List.{All}
use Rattle.bstr.specs.Text.{lines_of, without_terminator}
use Rattle.arrivals.specs.Lines.{whole, longest_line, input_lines}

-- where no line is too long, the lines are those of `bstr`, and so those of a script that is read whole
abbrev pub LinesAreOfBstr : Type 0
LinesAreOfBstr = (bytes : List ℕ) → All (λ line. length line ≤ longest_line) (map without_terminator (lines_of bytes))
    → input_lines bytes ≡ map whole (map without_terminator (lines_of bytes))
