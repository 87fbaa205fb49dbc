-- Outputs that are a formula between dollars, which stands in Markdown as it is.
use Rattle.std.specs.Prelude.{ℕ, ◌-◌, ◌+◌, ◌==◌, ◌&&◌, ◌||◌, not, nat_eq, nat_lt, Bool, true, false, List, [], ◌∷◌, Option, Some, None, codes, cond, drop, length, option_map, take}
use Rattle.std.specs.List.{ends_with, list_all, slice_get, starts_with}
use Rattle.std.specs.Str.{bytes_eq}
use Rattle.block_tree.specs.Tree.{Items, Tree, end, text, block}
use Rattle.sheet_text.specs.Blocks.{is_bare}
use Rattle.sheet_text.specs.Escape.{is_plain}

-- a byte that is printed as itself on one line, and no backquote
abbrev pub is_formula_byte : ℕ → Bool
is_formula_byte byte = is_plain false byte && not (byte == 96)

-- whether these bytes could begin the address of a link; some readers allow spaces in front of it
abbrev pub opens_address : List ℕ → Bool
opens_address [] = false
opens_address (byte ∷ rest) = cond (byte == 32) (opens_address rest) (byte == 40)

-- whether a link or an image, which have "](", or an element, a remark or an address, which have a '<' with no space after it, could begin
abbrev pub begins_markup : ℕ → List ℕ → Bool
begins_markup byte rest = (byte == 93 && opens_address rest) || (byte == 60 && not (starts_with nat_eq rest (codes " ")))

-- whether attributes of what stands in front of them could begin, as kramdown writes them
abbrev pub begins_attributes : ℕ → List ℕ → Bool
begins_attributes byte rest = byte == 123 && starts_with nat_eq rest (codes ":")

-- whether two backslashes stand before a brace: within `\text` pandoc reads that brace as escaped, and so reads past the formula's end
abbrev pub hides_brace : ℕ → List ℕ → Bool
hides_brace byte rest = byte == 92 && (starts_with nat_eq rest (codes "\\{") || starts_with nat_eq rest (codes "\\}"))

abbrev pub changes_marks : ℕ → List ℕ → Bool
changes_marks byte rest = begins_attributes byte rest || hides_brace byte rest

abbrev pub may_begin_markup : ℕ → List ℕ → Bool
may_begin_markup byte rest = begins_markup byte rest || changes_marks byte rest

-- whether one could anywhere in a text
abbrev pub has_markup : List ℕ → Bool
has_markup [] = false
has_markup (byte ∷ rest) = may_begin_markup byte rest || has_markup rest

-- whether a text is no more than text, whatever reads it; an '&' begins a reference at most, which is text too
abbrev pub is_still : List ℕ → Bool
is_still given = list_all is_formula_byte given && not (has_markup given)

abbrev pub is_no_dollar : ℕ → Bool
is_no_dollar byte = not (byte == 36)

-- whether these bytes have no dollar, and no backslash at their end, which would make the dollar after it another one
abbrev pub is_inside : List ℕ → Bool
is_inside inside = list_all is_no_dollar inside && not (ends_with nat_eq inside (codes "\\"))

-- whether there is a byte, and it is one of ASCII that shows something
abbrev pub is_seen : Option ℕ → Bool
is_seen None = false
is_seen (Some byte) = nat_lt 32 byte && nat_lt byte 127

-- whether such bytes stand at both ends: where a blank does, some readers know no formula between single dollars
abbrev pub is_tight : List ℕ → Bool
is_tight inside = is_seen (slice_get inside 0) && is_seen (slice_get inside (length inside - 1))

-- how many braces are open after a byte that is no '}', where so many were before it
abbrev pub depth_with : ℕ → ℕ → ℕ
depth_with depth byte = cond (byte == 123) (depth + 1) depth

-- whether each '}' closes a '{', of which so many are open, and none stays open; a byte after a backslash is no brace
abbrev pub closes : Bool → ℕ → List ℕ → Bool
closes escaped depth [] = depth == 0
closes true depth (byte ∷ rest) = closes false depth rest
closes false depth (byte ∷ rest) = cond (byte == 125) (nat_lt 0 depth && closes false (depth - 1) rest) (closes (byte == 92) (depth_with depth byte) rest)

-- what may stand between these dollars
abbrev pub may_stand : List ℕ → List ℕ → Bool
may_stand dollars inside = is_inside inside && closes false 0 inside && (length dollars == 2 || is_tight inside)

abbrev pub has_ends : List ℕ → List ℕ → Bool
has_ends dollars given = starts_with nat_eq given dollars && ends_with nat_eq given dollars

-- whether a text has these dollars at both ends, and between them what may stand there
abbrev pub stands_between : List ℕ → List ℕ → Bool
stands_between dollars given = has_ends dollars given && may_stand dollars (take (length given - length dollars - length dollars) (drop (length dollars) given))

-- whether a text is something between these dollars
abbrev pub is_between : List ℕ → List ℕ → Bool
is_between dollars given = nat_lt (length dollars + length dollars) (length given) && stands_between dollars given

-- a formula within a line, or on its own, that is no more than text where no reader knows it
unfoldable pub is_formula : List ℕ → Bool
is_formula given = is_still given && (is_between (codes "$") given || is_between (codes "$$") given)

-- the formula that these items are, if they are one
abbrev pub formula_in : Items → Option (List ℕ)
formula_in end = None
formula_in (text given end) = cond (is_formula given) (Some given) None
formula_in (text given (text other rest)) = None
formula_in (text given (block channel name inside rest)) = None
formula_in (block channel name inside rest) = None

-- the formula that a block with this tag is, if it is of the format `latex` and is one
abbrev pub formula_named : Bool → List ℕ → Items → Option (List ℕ)
formula_named channel name inside = cond (not channel && bytes_eq name (codes "latex")) (formula_in inside) None

-- the formula that a block is, if it is one
abbrev pub formula_of : Tree → Option (List ℕ)
formula_of b = formula_named b.channel b.name b.items

-- the formula that these items are as one block, if they are one
abbrev pub formula_last : Items → Option (List ℕ)
formula_last end = None
formula_last (text given rest) = None
formula_last (block channel name inside end) = formula_named channel name inside
formula_last (block channel name inside (text given rest)) = None
formula_last (block channel name inside (block other another within rest)) = None

-- the text and the formula after it that these items are, if they are those
abbrev pub text_and_formula : Items → Option (List ℕ × List ℕ)
text_and_formula end = None
text_and_formula (text given rest) = option_map (λ formula. (given, formula)) (formula_last rest)
text_and_formula (block channel name inside rest) = None

-- the text that an output prints and the formula after it, if it is those: of an interpreter that prints before it gives its value
abbrev pub formula_after : Tree → Option (List ℕ × List ℕ)
formula_after b = cond (is_bare b.channel b.name) (text_and_formula b.items) None
