-- Definitions that only private contracts use: the room of a buffer, and its first line.
use Rattle.std.specs.Prelude.{◌≡◌, ℕ, ◌+◌, ◌≤◌, Bool, true, false, List, [], length, nat_le, if◌then◌else◌}
use Rattle.arrivals.specs.Lines.{InputLine, whole, too_long, longest_line, bounded_line}
use Rattle.arrivals.specs.Held.{Held}
use Rattle.arrivals.specs.declared.buffer.NextLine.{NextLine}
use Rattle.arrivals.specs.declared.buffer.NextLine.TheVariants as next

-- the most bytes that are held
abbrev pub room_size : ℕ
room_size = 131074

pub record IsBuffer (room : List ℕ) (start end line_start line_end : ℕ) : Type 0 where
  pub size : length room ≡ room_size
  pub held : start ≤ end
  pub fits : end ≤ room_size
  pub line : line_start ≤ line_end
  pub line_fits : line_end ≤ room_size

-- the first line of some bytes, or the rest of one that is too long
abbrev pub first_line : Bool → List ℕ → InputLine
first_line false bytes = bounded_line bytes
first_line true bytes = too_long

-- this is returned of that line
abbrev pub Tells : NextLine → Held → InputLine → Type 0
Tells next.Line k line = line ≡ whole k.line
Tells next.TooLong k line = line ≡ too_long
Tells next.More k line = ⊥
Tells next.End k line = ⊥

-- bytes of a line that has no end yet are kept while it may fit
abbrev pub kept_of : List ℕ → List ℕ
kept_of bytes = if nat_le (length bytes) (longest_line + 2) then bytes else []

abbrev pub dropping_of : Bool → List ℕ → Bool
dropping_of dropping bytes = if nat_le (length bytes) (longest_line + 2) then dropping else true
