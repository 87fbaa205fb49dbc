-- Laws of the definitions.
use Rattle.std.specs.Prelude.{ℕ, ◌==◌, not, List, ◌++◌, Some, true, ◌≡◌, ◌↔◌, ◌≤◌}
use Rattle.std.specs.Fmt.{decimal}
use Rattle.std.specs.List.{AllByRecursion, list_all}
use Rattle.sheet_text.specs.InputLines.{folded, lines_of_input, line_end, text_of_lines, unfolded}
use Rattle.sheet_text.specs.Script.{greatest_number, number_written}

-- the bytes of a number are its decimal, and nothing else writes it
abbrev pub NumbersAreDecimals : Type 0
NumbersAreDecimals = (bytes : List ℕ) (n : ℕ) → (number_written bytes ≡ Some n) ↔ ((n ≤ greatest_number) × (bytes ≡ decimal n))

-- no U+2028 stands in these bytes
abbrev pub HasNoEnd : List ℕ → Type 0
HasNoEnd line = (front following : List ℕ) → line ≡ front ++ (line_end ++ following) → ⊥

-- The lines of an input with U+2028 between each two are the input, and in none of them stands one.
abbrev pub LinesAreTheInput : Type 0
LinesAreTheInput = (input : List ℕ) → (text_of_lines (λ line. line) line_end (lines_of_input input) ≡ input) × AllByRecursion HasNoEnd (lines_of_input input)

-- An input without a line feed, as each of a worksheet is, comes back from the text with line feeds for each U+2028.
abbrev pub InputsComeBack : Type 0
InputsComeBack = (input : List ℕ) → list_all (λ byte. not (byte == 10)) input ≡ true → folded (unfolded input) ≡ input
