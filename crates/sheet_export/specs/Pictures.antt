-- Pictures of a page: images with all of their bytes in their addresses (HTML standard, "The img element"; RFC 2397).
use Rattle.std.specs.Prelude.{ℕ, ◌+◌, ◌-◌, ◌*◌, ◌/◌, ◌%◌, ◌==◌, nat_lt, false, List, [], ◌∷◌, ◌++◌, Option, Some, None, codes, cond}
use Rattle.sheet_notebook.specs.Pictures.{drawn_as}
use Rattle.sheet_notebook.specs.declared.pictures.PictureKind.{PictureKind}
use Rattle.sheet_notebook.specs.declared.pictures.PictureKind.TheVariants as kind
use Rattle.sheet_export.specs.References.{html_text}
use Rattle.sheet_export.specs.Parts as part

-- the symbol of six bits (RFC 4648, table 1)
abbrev pub symbol_of : ℕ → ℕ
symbol_of bits = cond (nat_lt bits 26) (65 + bits) (cond (nat_lt bits 52) (97 + (bits - 26)) (cond (nat_lt bits 62) (48 + (bits - 52)) (cond (bits == 62) 43 47)))

-- the four symbols of three bytes
abbrev pub symbols_of : ℕ → ℕ → ℕ → List ℕ
symbols_of a b c = symbol_of (a / 4) ∷ symbol_of (a % 4 * 16 + b / 16) ∷ symbol_of (b % 16 * 4 + c / 64) ∷ symbol_of (c % 64) ∷ []

-- those of two and of one at the end, with '=' to the fourth
abbrev pub symbols_of_two : ℕ → ℕ → List ℕ
symbols_of_two a b = symbol_of (a / 4) ∷ symbol_of (a % 4 * 16 + b / 16) ∷ symbol_of (b % 16 * 4) ∷ 61 ∷ []

abbrev pub symbols_of_one : ℕ → List ℕ
symbols_of_one a = symbol_of (a / 4) ∷ symbol_of (a % 4 * 16) ∷ 61 ∷ 61 ∷ []

-- bytes in base64 (RFC 4648, section 4)
unfoldable pub in_base64 : List ℕ → List ℕ
in_base64 [] = []
in_base64 (a ∷ []) = symbols_of_one a
in_base64 (a ∷ b ∷ []) = symbols_of_two a b
in_base64 (a ∷ b ∷ c ∷ rest) = symbols_of a b c ++ in_base64 rest

-- what stands in front of a picture's base64
abbrev pub image_start : PictureKind → List ℕ
image_start kind.Png = part.png_start
image_start kind.Jpeg = part.jpeg_start
image_start kind.Svg = part.svg_start

-- a picture's base64: of an SVG that of its text, of the others their text
abbrev pub image_data : PictureKind → List ℕ → List ℕ
image_data kind.Png given = given
image_data kind.Jpeg given = given
image_data kind.Svg given = in_base64 given

-- an image
abbrev pub image_html : PictureKind → List ℕ → List ℕ
image_html drawn given = image_start drawn ++ (image_data drawn given ++ part.image_end)

-- what is shown of a picture that isn't drawn: its format
abbrev pub undrawn_html : List ℕ → List ℕ
undrawn_html name = 123 ∷ (html_text false name ++ codes ": not drawn}")

-- a picture of this kind, if it is one
abbrev pub drawn_html : Option PictureKind → List ℕ → List ℕ → List ℕ
drawn_html (Some drawn) name given = image_html drawn given
drawn_html None name given = undrawn_html name

-- a picture
abbrev pub picture_html : List ℕ → List ℕ → List ℕ
picture_html name given = drawn_html (drawn_as name given) name given
