-- Texts as they stand in XML 1.0, byte by byte.
use Rattle.std.specs.Prelude.{ℕ, ◌-◌, ◌==◌, ◌&&◌, ◌||◌, not, Bool, false, List, [], ◌∷◌, ◌++◌, Option, Some, None, codes, cond, nat_lt, if◌then◌else◌}
use Rattle.bstr.specs.Utf8.{decoded}

-- a mark of XML as its reference, every other byte as itself
abbrev pub xml_reference : ℕ → List ℕ
xml_reference byte =
    if byte == 38 then codes "&amp;"
    else if byte == 60 then codes "&lt;"
    else if byte == 62 then codes "&gt;"
    else if byte == 34 then codes "&quot;"
    else byte ∷ []

-- no control character, or a tab or a line feed
abbrev pub stays_in_xml : ℕ → Bool
stays_in_xml byte = not (nat_lt byte 32) || byte == 9 || byte == 10

-- what stands for a byte of what XML can't have: U+FFFD
abbrev pub replacement : List ℕ
replacement = 239 ∷ 191 ∷ 189 ∷ []

-- a byte of a character that XML can have as its reference, every other one replaced
abbrev pub xml_byte : Bool → ℕ → List ℕ
xml_byte belongs byte = cond (belongs && stays_in_xml byte) (xml_reference byte) replacement

-- whether there is a character, and it isn't U+FFFE or U+FFFF
abbrev pub is_allowed : Option ℕ → Bool
is_allowed None = false
is_allowed (Some character) = not (character == 65534) && not (character == 65535)

-- how many bytes the character has that begins here, and 0 where none does that XML can have
abbrev pub xml_length : List ℕ → ℕ
xml_length bytes = cond (is_allowed (decoded bytes).char) (decoded bytes).size 0

-- how many of these bytes, from the first, belong to one character: as many as are left of one that has begun, or else those of
-- the one that begins here
abbrev pub xml_belonging : ℕ → List ℕ → ℕ
xml_belonging left bytes = cond (nat_lt 0 left) left (xml_length bytes)

-- the bytes after a character of which so many are left
unfoldable pub xml_after : ℕ → List ℕ → List ℕ
xml_after left [] = []
xml_after left (byte ∷ rest) = xml_byte (nat_lt 0 (xml_belonging left (byte ∷ rest))) byte ++ xml_after (xml_belonging left (byte ∷ rest) - 1) rest

-- a text: its characters, and U+FFFD for each byte that is part of none which XML can have
abbrev pub xml_text : List ℕ → List ℕ
xml_text bytes = xml_after 0 bytes
