-- Bytes as they are printed.
use Rattle.std.specs.Prelude.{ℕ, ◌+◌, ◌/◌, ◌%◌, Bool, true, false, List, [], ◌∷◌, ◌++◌, cond, not, nat_lt, nat_eq, ◌||◌, ◌&&◌}
use Rattle.std.specs.List.{flat_map}
use Rattle.scheme_text.specs.Quoting.{is_marked}

-- a hexadecimal digit, in lower case
abbrev pub hex : ℕ → ℕ
hex n = cond (nat_lt n 10) (48 + n) (87 + n)

-- \x and two digits
abbrev pub escaped_byte : ℕ → List ℕ
escaped_byte b = 92 ∷ 120 ∷ hex (b / 16) ∷ hex (b % 16) ∷ []

-- no byte below 32 and not 127, but a tab and a line feed where lines are kept
abbrev pub is_plain : Bool → ℕ → Bool
is_plain keeps_lines b = cond (nat_eq b 9 || nat_eq b 10) keeps_lines (not (nat_lt b 32) && not (nat_eq b 127))

-- a plain byte as itself, every other one escaped
abbrev pub printed_byte : Bool → ℕ → List ℕ
printed_byte keeps_lines b = cond (is_plain keeps_lines b) (b ∷ []) (escaped_byte b)

-- bytes on one line
abbrev pub on_line : List ℕ → List ℕ
on_line = flat_map (printed_byte false)

-- bytes on as many lines as they have
abbrev pub on_lines : List ℕ → List ℕ
on_lines = flat_map (printed_byte true)

-- a byte between quotes: a backslash before a quote and a backslash; every other byte as on a line
abbrev pub byte_in_quotes : ℕ → List ℕ
byte_in_quotes b = cond (is_marked b) (92 ∷ b ∷ []) (printed_byte false b)

-- bytes between quotes, on one line
abbrev pub in_quotes : List ℕ → List ℕ
in_quotes bytes = 34 ∷ (flat_map byte_in_quotes bytes ++ 34 ∷ [])
