-- Blocks of an output that are pictures, and those that are errors.
use Rattle.std.specs.Prelude.{ℕ, ◌+◌, ◌==◌, ◌&&◌, ◌||◌, not, nat_eq, nat_le, Bool, true, false, List, [], ◌∷◌, Option, Some, None, codes, cond, if◌then◌else◌}
use Rattle.std.specs.List.{starts_with}
use Rattle.std.specs.Str.{bytes_eq}
use Rattle.block_tree.specs.Tree.{Items, Tree, end, text, block}
use Rattle.sheet_notebook.specs.declared.pictures.PictureKind.{PictureKind}
use Rattle.sheet_notebook.specs.declared.pictures.PictureKind.TheVariants as kind

abbrev pub is_within : ℕ → ℕ → ℕ → Bool
is_within first last byte = nat_le first byte && nat_le byte last

-- a letter, a digit, '+' or '/' (RFC 4648, table 1)
abbrev pub is_symbol_byte : ℕ → Bool
is_symbol_byte byte = is_within 65 90 byte || is_within 97 122 byte || is_within 48 57 byte || byte == 43 || byte == 47

-- one of these, or the '=' that pads
abbrev pub is_base64_byte : ℕ → Bool
is_base64_byte byte = is_symbol_byte byte || byte == 61

-- the place of the next symbol in its group of four
abbrev pub next_place : ℕ → ℕ
next_place place = cond (place == 3) 0 (place + 1)

-- Whether whole groups of four end here, the first of which has so many symbols already: pads stand at the third and the fourth place of the
-- last group alone, and nothing but pads stands after one.
abbrev pub are_groups : ℕ → Bool → List ℕ → Bool
are_groups place padded [] = place == 0
are_groups place padded (byte ∷ rest) = cond (byte == 61)
    (nat_le 2 place && are_groups (next_place place) true rest)
    (not padded && is_symbol_byte byte && are_groups (next_place place) padded rest)

-- base64 (RFC 4648, section 4), with no other byte in it
unfoldable pub is_base64 : List ℕ → Bool
is_base64 given = are_groups 0 false given

-- what each PNG begins with (PNG, sections 5.2 and 11.2.1): its signature, and the length and the type of `IHDR`, but for its last four bits
abbrev pub png_magic : List ℕ
png_magic = codes "iVBORw0KGgoAAAANSUhEU"

-- what each JPEG begins with: the bytes ff d8 ff
abbrev pub jpeg_magic : List ℕ
jpeg_magic = codes "/9j/"

-- bytes in base64 that begin like this
unfoldable pub is_base64_of : List ℕ → List ℕ → Bool
is_base64_of magic given = starts_with nat_eq given magic && is_base64 given

-- whether a text could be an SVG: an element `svg`, or an XML declaration
unfoldable pub is_svg : List ℕ → Bool
is_svg given = starts_with nat_eq given (codes "<svg") || starts_with nat_eq given (codes "<?xml")

-- what a picture of this format is drawn as, if it begins as one of its kind
abbrev pub drawn_as : List ℕ → List ℕ → Option PictureKind
drawn_as name given =
    if bytes_eq name (codes "image/png;base64") then cond (is_base64_of png_magic given) (Some kind.Png) None
    else if bytes_eq name (codes "image/jpeg;base64") then cond (is_base64_of jpeg_magic given) (Some kind.Jpeg) None
    else if bytes_eq name (codes "image/svg+xml") then cond (is_svg given) (Some kind.Svg) None
    else None

-- the text that these items are, if they are one
abbrev pub only_text : Items → Option (List ℕ)
only_text end = None
only_text (text given end) = Some given
only_text (text given (text other rest)) = None
only_text (text given (block channel name inside rest)) = None
only_text (block channel name inside rest) = None

-- whether this tag is a picture's
abbrev pub is_picture_tag : Bool → List ℕ → Bool
is_picture_tag channel name = not channel && starts_with nat_eq name (codes "image/")

abbrev pub picture_named : Bool → List ℕ → Items → Option (List ℕ)
picture_named channel name inside = cond (is_picture_tag channel name) (only_text inside) None

-- the text of a picture: of a block with one text, whose format is a MIME type of pictures
abbrev pub picture_of : Tree → Option (List ℕ)
picture_of b = picture_named b.channel b.name b.items

-- whether this is the channel of answers
abbrev pub is_output_tag : Bool → List ℕ → Bool
is_output_tag channel name = channel && bytes_eq name (codes "output")

-- whether a block is an error: of the channel `error`, or of the channel `output` in one of that channel
abbrev pub is_error_tag : Bool → Bool → List ℕ → Bool
is_error_tag in_output channel name = (channel && bytes_eq name (codes "error")) || (in_output && is_output_tag channel name)
