-- Texts of a notebook, which are characters: bytes that make none are written as `print` writes those that it doesn't show.
use Rattle.std.specs.Prelude.{ℕ, ◌-◌, Bool, true, false, List, [], ◌∷◌, ◌++◌, Option, Some, None, cond, encode_utf8, is_some, nat_lt}
use Rattle.block_tree.specs.Tree.{Items, Tree, Piece, end, text, block, text_piece, block_piece}
use Rattle.bstr.specs.Utf8.{Decoded, decoded}
use Rattle.sheet_text.specs.Blocks.{sign, is_bare}
use Rattle.sheet_text.specs.Escape.{escaped_byte, is_plain}

-- the character that begins with this byte; the byte escaped where none does, or where the character is none that is printed as itself
abbrev pub first_string : Bool → ℕ → Option ℕ → List ℕ
first_string keeps_lines byte None = escaped_byte byte
first_string keeps_lines byte (Some character) = cond (is_plain keeps_lines character) (encode_utf8 character) (escaped_byte byte)

-- how many bytes of a character follow its first
abbrev pub others_of : Decoded → ℕ
others_of front = cond (is_some front.char) (front.size - 1) 0

-- a text, the first bytes of which belong to a character that stands in front of them
unfoldable pub string_after : Bool → ℕ → List ℕ → List ℕ
string_after keeps_lines left [] = []
string_after keeps_lines left (byte ∷ rest) = cond (nat_lt 0 left) (string_after keeps_lines (left - 1) rest)
    (first_string keeps_lines byte (decoded (byte ∷ rest)).char ++ string_after keeps_lines (others_of (decoded (byte ∷ rest))) rest)

-- a text, on one line or on as many as it has
abbrev pub string_of : Bool → List ℕ → List ℕ
string_of keeps_lines bytes = string_after keeps_lines 0 bytes

-- '{', the tag, what stands in it, '}'
abbrev pub framed_string : Bool → List ℕ → List ℕ → List ℕ
framed_string channel name inside = 123 ∷ (string_of false name ++ sign channel ∷ (inside ++ 125 ∷ []))

abbrev pub shown_string : Bool → List ℕ → List ℕ → List ℕ
shown_string channel name inside = cond (is_bare channel name) inside (framed_string channel name inside)

-- items as a worksheet shows them
abbrev pub items_string : Items → List ℕ
items_string end = []
items_string (text t rest) = string_of true t ++ items_string rest
items_string (block channel name inside rest) = shown_string channel name (items_string inside) ++ items_string rest

-- a block as a worksheet shows it
abbrev pub block_string : Tree → List ℕ
block_string b = shown_string b.channel b.name (items_string b.items)

abbrev pub piece_string : Piece → List ℕ
piece_string (text_piece t) = string_of true t
piece_string (block_piece b) = block_string b
