-- Laws of the definitions.
use Rattle.std.specs.Prelude.{ℕ, ◌+◌, ◌-◌, Bool, false, List, [], ◌∷◌, ◌++◌, ◌≡◌, ◌≤◌, ◌==◌, ◌||◌, ◌&&◌, not, nat_eq, nat_lt, true, Some, codes, cond, drop, length}
use Rattle.std.specs.List.{list_all, list_any, starts_with}
use Rattle.block_tree.specs.Tree.{Tree}
use Rattle.host_events.specs.declared.command.Command.TheVariants as command
use Rattle.sheet_text.specs.Script.{greatest_number, line_of}
use Rattle.sheet_text.specs.declared.script.ScriptLine.TheVariants as line
use Rattle.worksheet.specs.Laws.{IsSession}
use Rattle.worksheet.specs.Names.{is_name}
use Rattle.worksheet.specs.declared.field.Field.{Field}
use Rattle.worksheet.specs.declared.field.Session.{Session}
use Rattle.sheet_notebook.specs.Pictures.{is_base64_byte, drawn_as}
use Rattle.sheet_notebook.specs.declared.pictures.PictureKind.{PictureKind}
use Rattle.sheet_export.specs.Fences.{fence_length, fence_of}
use Rattle.sheet_export.specs.Html.{block_html}
use Rattle.sheet_export.specs.Pictures.{image_data}
use Rattle.sheet_export.specs.References.{html_text}
use Rattle.sheet_export.specs.Script.{field_line, has_no_space, session_line}

-- '<', '>', '"' and an apostrophe: what begins or ends an element or the value of an attribute
abbrev pub is_mark : ℕ → Bool
is_mark byte = byte == 60 || byte == 62 || byte == 34 || byte == 39

-- what comes after the '&' of a reference
abbrev pub reference_names : List (List ℕ)
reference_names = codes "amp;" ∷ codes "lt;" ∷ codes "gt;" ∷ codes "quot;" ∷ codes "#39;" ∷ []

-- whether one of these stands here
abbrev pub has_reference_name : List ℕ → Bool
has_reference_name bytes = list_any (λ name. starts_with nat_eq bytes name) reference_names

-- whether each '&' begins a reference
abbrev pub has_references_alone : List ℕ → Bool
has_references_alone [] = true
has_references_alone (byte ∷ rest) = (not (byte == 38) || has_reference_name rest) && has_references_alone rest

-- no text of a page has a mark, and each '&' in it begins a reference
abbrev pub TextsHaveNoMarks : Type 0
TextsHaveNoMarks = (keeps_lines : Bool) (bytes : List ℕ)
    → (list_all (λ byte. not (is_mark byte)) (html_text keeps_lines bytes) ≡ true)
    × (has_references_alone (html_text keeps_lines bytes) ≡ true)

-- whether base64 alone stands here, up to the end of an attribute and of its element
abbrev pub ends_image : List ℕ → Bool
ends_image [] = false
ends_image (byte ∷ rest) = cond (is_base64_byte byte) (ends_image rest) (starts_with nat_eq (byte ∷ rest) (codes "\">"))

-- whether an element with this front stands here, up to that end
abbrev pub is_image_with : List ℕ → List ℕ → Bool
is_image_with front rest = starts_with nat_eq rest front && ends_image (drop (length front) rest)

-- whether one of a picture does, after its '<'
abbrev pub is_image : List ℕ → Bool
is_image rest = is_image_with (codes "img alt=\"A picture (PNG)\" src=\"data:image/png;base64,") rest
    || is_image_with (codes "img alt=\"A picture (JPEG)\" src=\"data:image/jpeg;base64,") rest
    || is_image_with (codes "img alt=\"A picture (SVG)\" src=\"data:image/svg+xml;base64,") rest

-- whether the span of a formula or of an error begins here, after its '<'
abbrev pub begins_span : List ℕ → Bool
begins_span rest = starts_with nat_eq rest (codes "span class=\"tex\">") || starts_with nat_eq rest (codes "span class=\"error\">")

-- Whether the spans of a text nest, of which so many are open: each '<' begins one, or the end of one that is open, or a picture in whose
-- address base64 alone stands; and at the end of the text no span is open.
abbrev pub nests : ℕ → List ℕ → Bool
nests depth [] = depth == 0
nests depth (byte ∷ rest) = cond (byte == 60)
    (cond (begins_span rest) (nests (depth + 1) rest)
    (cond (is_image rest) (nests depth rest) (nat_lt 0 depth && starts_with nat_eq rest (codes "/span>") && nests (depth - 1) rest)))
    (nests depth rest)

-- Spans of formulas and of errors, and pictures, are the one markup in an output, and the spans nest: none is begun or ended by a text.
abbrev pub SpansNest : Type 0
SpansNest = (output : Tree) → nests 0 (block_html false output) ≡ true

-- What stands in the address of a picture is base64 alone.
abbrev pub PicturesAreBase64 : Type 0
PicturesAreBase64 = (name given : List ℕ) (drawn : PictureKind) → drawn_as name given ≡ Some drawn → list_all is_base64_byte (image_data drawn given) ≡ true

-- The line of a session whose words have no space is read as the command that makes it.
abbrev pub SessionLinesAreRead : Type 0
SessionLinesAreRead = (session : Session) → IsSession session → list_all has_no_space session.words ≡ true
    → line_of (session_line session) ≡ Some (line.Command (command.Session session.name session.tab session.words))

-- The line of a field is read as the command that makes one of its session and input after that number.
abbrev pub FieldLinesAreRead : Type 0
FieldLinesAreRead = (place : ℕ) (field : Field) → place ≤ greatest_number → is_name field.session ≡ true
    → line_of (field_line place field) ≡ Some (line.Command (command.New place field.session field.input))

-- Nowhere in a text stand as many backquotes as its fence has. (A line ends a code block only where it has at least as many.)
abbrev pub NoTextClosesItsFence : Type 0
NoTextClosesItsFence = (lines front following : List ℕ) → lines ≡ front ++ (fence_of (fence_length lines) ++ following) → ⊥
