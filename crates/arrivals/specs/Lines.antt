-- The lines of an input.
use Rattle.std.specs.Prelude.{ℕ, List, length, map, drop, nat_le, if◌then◌else◌}
use Rattle.bstr.specs.Text.{line_len, lines_of, without_terminator}

-- a line as it is given: its bytes, or that there are too many
pub data InputLine : Type 0 where
  whole : List ℕ → InputLine
  too_long : InputLine

-- the most bytes of a line, without what ends it
abbrev pub longest_line : ℕ
longest_line = 65536

-- a line without the line feed that ends it and one carriage return before that, where it isn't too long
unfoldable pub bounded_line : List ℕ → InputLine
bounded_line bytes =
    if nat_le (length (without_terminator bytes)) longest_line then whole (without_terminator bytes) else too_long

-- the lines of an input, each up to its line feed; the last one may lack its own
unfoldable pub input_lines : List ℕ → List InputLine
input_lines bytes = map bounded_line (lines_of bytes)

-- the bytes after the first line
abbrev pub past_line : List ℕ → List ℕ
past_line bytes = drop (line_len bytes) bytes
