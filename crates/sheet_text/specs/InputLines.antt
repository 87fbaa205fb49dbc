-- The lines of an input, which is one line of a worksheet: U+2028 (LINE SEPARATOR) in it stands for the end of a line.
use Rattle.std.specs.Prelude.{ℕ, zero, suc, ◌==◌, List, [], ◌∷◌, ◌++◌, Option, Some, None, cond, take}
use Rattle.std.specs.List.{flat_map, onto_first}
use Rattle.std.specs.Str.{bytes_eq}

-- U+2028
abbrev pub line_end : List ℕ
line_end = 226 ∷ 128 ∷ 168 ∷ []

-- the lines after the bytes of an end of a line of which so many are left
unfoldable pub lines_after : ℕ → List ℕ → List (List ℕ)
lines_after left [] = [] ∷ []
lines_after (suc left) (byte ∷ rest) = lines_after left rest
lines_after zero (byte ∷ rest) = cond (bytes_eq (take 3 (byte ∷ rest)) line_end) ([] ∷ lines_after 2 rest) (onto_first byte (lines_after 0 rest))

-- the lines of an input: what stands before the first U+2028, between each two, and after the last
abbrev pub lines_of_input : List ℕ → List (List ℕ)
lines_of_input input = lines_after 0 input

-- the lines of what comes after a line, if it ends
abbrev pub further_lines : Option (List ℕ) → List (List ℕ)
further_lines None = []
further_lines (Some rest) = lines_of_input rest

-- a further line as f writes it, with this text in front of it
abbrev pub further_line : (List ℕ → List ℕ) → List ℕ → List ℕ → List ℕ
further_line f between line = between ++ f line

-- lines as f writes them, with this text between each two
abbrev pub text_of_lines : (List ℕ → List ℕ) → List ℕ → List (List ℕ) → List ℕ
text_of_lines f between [] = []
text_of_lines f between (line ∷ lines) = f line ++ flat_map (further_line f between) lines

-- an input with a line feed for each U+2028
abbrev pub unfolded : List ℕ → List ℕ
unfolded input = text_of_lines (λ line. line) (10 ∷ []) (lines_of_input input)

abbrev pub folded_byte : ℕ → List ℕ
folded_byte byte = cond (byte == 10) line_end (byte ∷ [])

-- and back: U+2028 for each line feed
abbrev pub folded : List ℕ → List ℕ
folded = flat_map folded_byte
