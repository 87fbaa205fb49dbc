-- What was read of an input and isn't given yet, and the lines still to come.
use Rattle.std.specs.Prelude.{◌≡◌, ◌≢◌, ◌⊎◌, ℕ, ◌+◌, ◌≤◌, ◌<◌, Bool, true, false, List, [], ◌∷◌, ◌++◌, Option, Some, IfSome, option_map, length, slice_index, if◌then◌else◌}
use Rattle.arrivals.specs.Lines.{InputLine, whole, too_long, longest_line, input_lines, past_line}
use Rattle.arrivals.specs.declared.buffer.NextLine.{NextLine}
use Rattle.arrivals.specs.declared.buffer.NextLine.TheVariants as next

pub record Held : Type 0 where
  -- the bytes that were read and belong to no line that was given
  pub bytes : List ℕ
  -- the line that was given last
  pub line : List ℕ
  -- the first of these bytes belong to a line that is too long, whose front was dropped
  pub dropping : Bool
  -- the input was read to its end
  pub ended : Bool

-- before the first read
abbrev pub nothing_held : Held
nothing_held = record { bytes = []; line = []; dropping = false; ended = false }

-- the lines of these bytes, of which the first may be the rest of one that is too long
abbrev pub lines_from : Bool → List ℕ → List InputLine
lines_from false bytes = input_lines bytes
lines_from true bytes = too_long ∷ input_lines (past_line bytes)

-- after the end of the input reads give nothing
abbrev pub if_read : Bool → List ℕ → List ℕ
if_read ended more = if ended then [] else more

-- the lines still to come where reads would give these bytes
unfoldable pub left_with : Held → List ℕ → List InputLine
left_with h more = lines_from h.dropping (h.bytes ++ if_read h.ended more)

-- the lines still to come, where it is known what reads will give
abbrev pub to_come : Held → Option (List ℕ) → Option (List InputLine)
to_come h remaining = option_map (left_with h) remaining

-- no known line is lost, added or changed
abbrev pub KeepsLines : Option (List InputLine) → Option (List InputLine) → Type 0
KeepsLines old new = IfSome old (λ lines. new ≡ Some lines)

-- none of these bytes is a line feed
abbrev pub IsUnended : List ℕ → Type 0
IsUnended bytes = (k : ℕ) → k < length bytes → slice_index bytes k ≢ 10

-- a line feed is among these bytes
abbrev pub HasFeed : List ℕ → Type 0
HasFeed bytes = (k : ℕ) × (k < length bytes) × (slice_index bytes k ≡ 10)

-- Whether `next` has something to give: a line feed is held, or the input was read to its end.
abbrev pub Readiness : Held → Bool → Type 0
Readiness h true = (h.ended ≡ true) ⊎ HasFeed h.bytes
Readiness h false = (h.ended ≡ false) × IsUnended h.bytes

-- whether this is anything but that more must be read
abbrev pub is_given : NextLine → Bool
is_given next.Line = true
is_given next.TooLong = true
is_given next.More = false
is_given next.End = true

-- What a call of `next` gave and what it leaves, whatever reads give later: a line is the first of those
-- to come and is taken off; at the end there is none; more is asked for only where no whole line is held.
abbrev pub GivesLine : Held → NextLine → Held → Type 0
GivesLine h next.Line k = (more : List ℕ) → left_with h more ≡ whole k.line ∷ left_with k more
GivesLine h next.TooLong k = (more : List ℕ) → left_with h more ≡ too_long ∷ left_with k more
GivesLine h next.End k = (h.ended ≡ true) × ((more : List ℕ) → (left_with h more ≡ []) × (left_with k more ≡ []))
GivesLine h next.More k =
    (h.ended ≡ false) × IsUnended h.bytes × (length k.bytes ≤ longest_line + 2) × ((more : List ℕ) → left_with k more ≡ left_with h more)

-- This line comes next, and is held with its line feed, whatever reads give later.
abbrev pub IsNextLine : Held → List ℕ → Type 0
IsNextLine h line = HasFeed h.bytes × ((more : List ℕ) → (rest : List InputLine) × (left_with h more ≡ whole line ∷ rest))

-- What one read adds: some bytes, or the end of the input. Where a line may be whole there may be no room for one.
pub record ReadAdds (h k : Held) (bytes : List ℕ) : Type 0 where
  pub added : k.bytes ≡ h.bytes ++ bytes
  pub dropping : k.dropping ≡ h.dropping
  pub still : h.ended ≡ true → (bytes ≡ []) × (k.ended ≡ true)
  pub reads : length h.bytes ≤ longest_line + 2 → bytes ≡ [] → k.ended ≡ true

-- A read that failed leaves all that is held.
abbrev pub Same : Held → Held → Type 0
Same h k = (k.bytes ≡ h.bytes) × (k.dropping ≡ h.dropping) × (k.ended ≡ h.ended)
