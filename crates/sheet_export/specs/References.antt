-- Bytes as they stand in a page.
use Rattle.std.specs.Prelude.{ℕ, ◌-◌, ◌==◌, ◌&&◌, Bool, List, [], ◌∷◌, ◌++◌, codes, cond, is_some, nat_lt, if◌then◌else◌}
use Rattle.bstr.specs.Utf8.{decoded}
use Rattle.sheet_text.specs.Escape.{is_plain, escaped_byte}

-- a mark of HTML as its reference, every other byte as itself
abbrev pub reference : ℕ → List ℕ
reference byte =
    if byte == 38 then codes "&amp;"
    else if byte == 60 then codes "&lt;"
    else if byte == 62 then codes "&gt;"
    else if byte == 34 then codes "&quot;"
    else if byte == 39 then codes "&#39;"
    else byte ∷ []

-- a byte of a character that is printed as itself as its reference, every other one escaped as in print
abbrev pub html_byte : Bool → Bool → ℕ → List ℕ
html_byte keeps_lines belongs byte = cond (belongs && is_plain keeps_lines byte) (reference byte) (escaped_byte byte)

-- how many bytes the character has that begins here, and 0 where none does
abbrev pub character_length : List ℕ → ℕ
character_length bytes = cond (is_some (decoded bytes).char) (decoded bytes).size 0

-- how many of these bytes, from the first, belong to one character: as many as are left of one that has begun, or else those of
-- the one that begins here
abbrev pub belonging : ℕ → List ℕ → ℕ
belonging left bytes = cond (nat_lt 0 left) left (character_length bytes)

-- the bytes after a character of which so many are left
unfoldable pub html_after : Bool → ℕ → List ℕ → List ℕ
html_after keeps_lines left [] = []
html_after keeps_lines left (byte ∷ rest) =
    html_byte keeps_lines (nat_lt 0 (belonging left (byte ∷ rest))) byte ++ html_after keeps_lines (belonging left (byte ∷ rest) - 1) rest

-- a text on one line, or on as many lines as it has: its characters, and each byte that is part of none escaped
abbrev pub html_text : Bool → List ℕ → List ℕ
html_text keeps_lines bytes = html_after keeps_lines 0 bytes
