-- The spans of formulas and of errors nest, and pictures leave what is open.
use Rattle.std.proofs.Common.{◌≡◌, ℕ, ◌+◌, ◌-◌, Bool, true, false, cond, List, [], ◌∷◌, ◌++◌, refl, ap, sym, ◌∙◌, append_assoc, append-nil, arith, Option, Some, None, codes, eqb-true}
use Rattle.std.specs.Prelude.{◌==◌, ◌&&◌, ◌||◌, drop, length, nat_eq, nat_lt, not}
use Rattle.std.specs.List.{list_all, starts_with}
use Rattle.std.proofs.Math.Seq.{drop-append_seam}
use Rattle.std.proofs.lemmas.Bool.{true≢false}
use Rattle.std.proofs.lemmas.Bool.Decides.{nat_tests}
use Rattle.block_tree.specs.Tree.{Items, end, text, block}
use Rattle.sheet_text.specs.Blocks.{sign}
use Rattle.sheet_notebook.specs.Pictures.{is_base64_byte, is_error_tag, is_output_tag, drawn_as, picture_named, picture_of}
use Rattle.sheet_notebook.specs.declared.pictures.PictureKind.{PictureKind}
use Rattle.sheet_notebook.specs.declared.pictures.PictureKind.TheVariants as kind
use Rattle.sheet_export.specs.References.{html_text}
use Rattle.sheet_export.specs.Html.{block_html, framed_html, is_tex, is_unmarked, items_html, marked_html, shown_html}
use Rattle.sheet_export.specs.Pictures.{drawn_html, image_data, image_html, image_start, picture_html, undrawn_html}
use Rattle.sheet_export.specs.Laws.{begins_span, ends_image, is_image, is_image_with, nests, PicturesAreBase64, SpansNest}
use Rattle.sheet_export.specs.Parts as part
use Rattle.sheet_export.proofs.NoMarks.{passes, unmarked_text}

-- a byte that is no mark
plain_byte : (x : ℕ) (passes_rest : Bool) → (passes x && passes_rest) ≡ true → (x == 60) ≡ false
plain_byte x p e = go (x == 60) refl
  where
    go : (t : Bool) → (x == 60) ≡ t → (x == 60) ≡ false
    go false is = is
    go true is = absurd (true≢false (sym e ∙ (rw is refl)))

plain_rest : (x : ℕ) (passes_rest : Bool) → (passes x && passes_rest) ≡ true → passes_rest ≡ true
plain_rest x p e = go (passes x) e
  where
    go : (t : Bool) → (t && p) ≡ true → p ≡ true
    go true is = is
    go false is = absurd (true≢false (sym is))

-- bytes without marks leave what is open
skips : (xs : List ℕ) (depth : ℕ) (rest : List ℕ) → list_all passes xs ≡ true → nests depth (xs ++ rest) ≡ nests depth rest
skips [] depth rest e = refl
skips (x ∷ xs) depth rest e = (rw (plain_byte x (list_all passes xs) e) refl) ∙ skips xs depth rest (plain_rest x (list_all passes xs) e)

skips_text : (keeps_lines : Bool) (bytes : List ℕ) (depth : ℕ) (rest : List ℕ) → nests depth (html_text keeps_lines bytes ++ rest) ≡ nests depth rest
skips_text keeps_lines bytes depth rest = skips (html_text keeps_lines bytes) depth rest (unmarked_text keeps_lines 0 bytes)

begins : (depth : ℕ) (rest : List ℕ) → nests depth (part.tex_start ++ rest) ≡ nests (depth + 1) rest
begins depth rest = refl

positive : (depth : ℕ) → nat_lt 0 (depth + 1) ≡ true
positive depth = grind (arith, nat_tests)

one_less : (depth : ℕ) → depth + 1 - 1 ≡ depth
one_less depth = omega arith

ends : (depth : ℕ) (rest : List ℕ) → nests (depth + 1) (part.tex_end ++ rest) ≡ nests depth rest
ends depth rest = ap (λ t. t && true && nests (depth + 1 - 1) rest) (positive depth) ∙ ap (λ n. nests n rest) (one_less depth)

skips_sign : (channel : Bool) (depth : ℕ) (rest : List ℕ) → nests depth (sign channel ∷ rest) ≡ nests depth rest
skips_sign true depth rest = refl
skips_sign false depth rest = refl

-- base64 leaves what is open, and ends at a quote
no_less : (byte : ℕ) → is_base64_byte byte ≡ true → (byte == 60) ≡ false
no_less byte e = go (byte == 60) refl
  where
    go : (t : Bool) → (byte == 60) ≡ t → (byte == 60) ≡ false
    go false is = is
    go true is = absurd (true≢false (sym e ∙ ap is_base64_byte (eqb-true byte 60 is)))

head : (a b : Bool) → (a && b) ≡ true → a ≡ true
head true b e = refl
head false b e = absurd (true≢false (sym e))

tail : (a b : Bool) → (a && b) ≡ true → b ≡ true
tail true b e = e
tail false b e = absurd (true≢false (sym e))

skips_data : (data_bytes : List ℕ) (depth : ℕ) (rest : List ℕ) → list_all is_base64_byte data_bytes ≡ true → nests depth (data_bytes ++ rest) ≡ nests depth rest
skips_data [] depth rest e = refl
skips_data (x ∷ xs) depth rest e =
    (rw (no_less x (head (is_base64_byte x) (list_all is_base64_byte xs) e)) refl) ∙ skips_data xs depth rest (tail (is_base64_byte x) (list_all is_base64_byte xs) e)

data_ends : (data_bytes rest : List ℕ) → list_all is_base64_byte data_bytes ≡ true → ends_image (data_bytes ++ (part.image_end ++ rest)) ≡ true
data_ends [] rest e = refl
data_ends (x ∷ xs) rest e = (rw (head (is_base64_byte x) (list_all is_base64_byte xs) e) refl) ∙ data_ends xs rest (tail (is_base64_byte x) (list_all is_base64_byte xs) e)

-- any byte but '<'
abbrev is_other : ℕ → Bool
is_other byte = not (byte == 60)

other_byte : (byte : ℕ) → is_other byte ≡ true → (byte == 60) ≡ false
other_byte byte e = go (byte == 60) e
  where
    go : (t : Bool) → not t ≡ true → t ≡ false
    go true is = absurd (true≢false (sym is))
    go false is = refl

-- such bytes leave what is open
skips_others : (xs : List ℕ) (depth : ℕ) (rest : List ℕ) → list_all is_other xs ≡ true → nests depth (xs ++ rest) ≡ nests depth rest
skips_others [] depth rest e = refl
skips_others (x ∷ xs) depth rest e =
    (rw (other_byte x (head (is_other x) (list_all is_other xs) e)) refl) ∙ skips_others xs depth rest (tail (is_other x) (list_all is_other xs) e)

-- what ends a span, or nothing
abbrev closing : ℕ → List ℕ → Bool
closing depth after = nat_lt 0 depth && starts_with nat_eq after (codes "/span>") && nests (depth - 1) after

opens_span : (depth : ℕ) (after : List ℕ) → begins_span after ≡ true → nests depth (60 ∷ after) ≡ nests (depth + 1) after
opens_span depth after e = ap (λ t. cond t (nests (depth + 1) after) (cond (is_image after) (nests depth after) (closing depth after))) e

opens_image : (depth : ℕ) (after : List ℕ) → begins_span after ≡ false → is_image after ≡ true → nests depth (60 ∷ after) ≡ nests depth after
opens_image depth after e f =
    ap (λ t. cond t (nests (depth + 1) after) (cond (is_image after) (nests depth after) (closing depth after))) e ∙ ap (λ t. cond t (nests depth after) (closing depth after)) f

-- the start of a picture's element, before base64 that ends
abbrev png_front : List ℕ
png_front = codes "img alt=\"A picture (PNG)\" src=\"data:image/png;base64,"

abbrev jpeg_front : List ℕ
jpeg_front = codes "img alt=\"A picture (JPEG)\" src=\"data:image/jpeg;base64,"

abbrev svg_front : List ℕ
svg_front = codes "img alt=\"A picture (SVG)\" src=\"data:image/svg+xml;base64,"

both : (a b : Bool) → a ≡ true → b ≡ true → (a && b) ≡ true
both true b p q = q
both false b p q = absurd (true≢false (sym p))

either : (a b c : Bool) → a ≡ true → (a || b || c) ≡ true
either true b c p = refl
either false b c p = absurd (true≢false (sym p))

second_of : (a b c : Bool) → b ≡ true → (a || b || c) ≡ true
second_of true b c p = refl
second_of false true c p = refl
second_of false false c p = absurd (true≢false (sym p))

third_of : (a b c : Bool) → c ≡ true → (a || b || c) ≡ true
third_of true b c p = refl
third_of false true c p = refl
third_of false false c p = p

has_front : (front rest : List ℕ) → starts_with nat_eq (front ++ rest) front ≡ true → ends_image rest ≡ true → is_image_with front (front ++ rest) ≡ true
has_front front rest s e =
    both (starts_with nat_eq (front ++ rest) front) (ends_image (drop (length front) (front ++ rest))) s (ap ends_image (drop-append_seam front rest) ∙ e)

starts_with_front : (front : List ℕ) (depth : ℕ) (rest : List ℕ) → begins_span (front ++ rest) ≡ false → is_image (front ++ rest) ≡ true → list_all is_other front ≡ true
    → nests depth (60 ∷ (front ++ rest)) ≡ nests depth rest
starts_with_front front depth rest e f others = opens_image depth (front ++ rest) e f ∙ skips_others front depth rest others

png_starts : (depth : ℕ) (rest : List ℕ) → ends_image rest ≡ true → nests depth (60 ∷ (png_front ++ rest)) ≡ nests depth rest
png_starts depth rest e = starts_with_front png_front depth rest refl
    (either (is_image_with png_front (png_front ++ rest)) (is_image_with jpeg_front (png_front ++ rest)) (is_image_with svg_front (png_front ++ rest)) (has_front png_front rest refl e)) refl

jpeg_starts : (depth : ℕ) (rest : List ℕ) → ends_image rest ≡ true → nests depth (60 ∷ (jpeg_front ++ rest)) ≡ nests depth rest
jpeg_starts depth rest e = starts_with_front jpeg_front depth rest refl
    (second_of (is_image_with png_front (jpeg_front ++ rest)) (is_image_with jpeg_front (jpeg_front ++ rest)) (is_image_with svg_front (jpeg_front ++ rest)) (has_front jpeg_front rest refl e)) refl

svg_starts : (depth : ℕ) (rest : List ℕ) → ends_image rest ≡ true → nests depth (60 ∷ (svg_front ++ rest)) ≡ nests depth rest
svg_starts depth rest e = starts_with_front svg_front depth rest refl
    (third_of (is_image_with png_front (svg_front ++ rest)) (is_image_with jpeg_front (svg_front ++ rest)) (is_image_with svg_front (svg_front ++ rest)) (has_front svg_front rest refl e)) refl

starts_image : (drawn : PictureKind) (depth : ℕ) (rest : List ℕ) → ends_image rest ≡ true → nests depth (image_start drawn ++ rest) ≡ nests depth rest
starts_image kind.Png depth rest e = png_starts depth rest e
starts_image kind.Jpeg depth rest e = jpeg_starts depth rest e
starts_image kind.Svg depth rest e = svg_starts depth rest e

skips_image : PicturesAreBase64 → (name given : List ℕ) (drawn : PictureKind) → drawn_as name given ≡ Some drawn → (depth : ℕ) (rest : List ℕ) → nests depth (image_html drawn given ++ rest) ≡ nests depth rest
skips_image alone name given drawn is depth rest =
    let base64 = image_data drawn given in
    ap (nests depth) (append_assoc (image_start drawn) (base64 ++ part.image_end) rest ∙ ap (λ t. image_start drawn ++ t) (append_assoc base64 part.image_end rest))
    ∙ starts_image drawn depth (base64 ++ (part.image_end ++ rest)) (data_ends base64 rest (alone name given drawn is)) ∙ skips_data base64 depth (part.image_end ++ rest) (alone name given drawn is)

skips_undrawn : (name : List ℕ) (depth : ℕ) (rest : List ℕ) → nests depth (undrawn_html name ++ rest) ≡ nests depth rest
skips_undrawn name depth rest = ap (nests depth) (append_assoc (html_text false name) (codes ": not drawn}") rest) ∙ skips_text false name depth (codes ": not drawn}" ++ rest)

skips_picture : PicturesAreBase64 → (name given : List ℕ) (depth : ℕ) (rest : List ℕ) → nests depth (picture_html name given ++ rest) ≡ nests depth rest
skips_picture alone name given depth rest = go (drawn_as name given) refl
  where
    go : (found : Option PictureKind) → drawn_as name given ≡ found → nests depth (drawn_html found name given ++ rest) ≡ nests depth rest
    go (Some drawn) is = skips_image alone name given drawn is depth rest
    go None is = skips_undrawn name depth rest

abbrev error_front : List ℕ
error_front = codes "span class=\"error\">"

error_opens : (depth : ℕ) (rest : List ℕ) → nests depth (60 ∷ (error_front ++ rest)) ≡ nests (depth + 1) rest
error_opens depth rest = opens_span depth (error_front ++ rest) refl ∙ skips_others error_front (depth + 1) rest refl

begins_error : (depth : ℕ) (rest : List ℕ) → nests depth (part.error_start ++ rest) ≡ nests (depth + 1) rest
begins_error depth rest = error_opens depth rest

-- what stands between the ends of a span
in_span : (start inside : List ℕ) → ((depth : ℕ) (rest : List ℕ) → nests depth (start ++ rest) ≡ nests (depth + 1) rest)
    → ((depth : ℕ) (rest : List ℕ) → nests depth (inside ++ rest) ≡ nests depth rest) → (depth : ℕ) (rest : List ℕ) → nests depth ((start ++ (inside ++ part.tex_end)) ++ rest) ≡ nests depth rest
in_span start inside opens holds depth rest =
    ap (nests depth) (append_assoc start (inside ++ part.tex_end) rest) ∙ opens depth ((inside ++ part.tex_end) ++ rest)
    ∙ ap (nests (depth + 1)) (append_assoc inside part.tex_end rest) ∙ holds (depth + 1) (part.tex_end ++ rest) ∙ ends depth rest

-- a block between its ends, where what it holds leaves what is open
framed : (in_output channel : Bool) (name inside : List ℕ) → ((depth : ℕ) (rest : List ℕ) → nests depth (inside ++ rest) ≡ nests depth rest) → (depth : ℕ) (rest : List ℕ)
    → nests depth (framed_html in_output channel name inside ++ rest) ≡ nests depth rest
framed in_output channel name inside holds depth rest = go (is_error_tag in_output channel name) (is_tex channel name)
  where
    go : (e t : Bool) → nests depth ((cond e part.error_start (cond t part.tex_start (123 ∷ (html_text false name ++ sign channel ∷ []))) ++ (inside ++ cond e part.error_end (cond t part.tex_end (125 ∷ [])))) ++ rest) ≡ nests depth rest
    go true t = in_span part.error_start inside begins_error holds depth rest
    go false true = in_span part.tex_start inside begins holds depth rest
    go false false =
        ap (nests depth) (append_assoc (html_text false name ++ sign channel ∷ []) (inside ++ 125 ∷ []) rest ∙ append_assoc (html_text false name) (sign channel ∷ []) ((inside ++ 125 ∷ []) ++ rest))
        ∙ skips_text false name depth (sign channel ∷ ((inside ++ 125 ∷ []) ++ rest)) ∙ skips_sign channel depth ((inside ++ 125 ∷ []) ++ rest)
        ∙ ap (nests depth) (append_assoc inside (125 ∷ []) rest) ∙ holds depth (125 ∷ rest)

marked_nests : (in_output channel : Bool) (name inside : List ℕ) → ((depth : ℕ) (rest : List ℕ) → nests depth (inside ++ rest) ≡ nests depth rest) → (depth : ℕ) (rest : List ℕ)
    → nests depth (marked_html in_output channel name inside ++ rest) ≡ nests depth rest
marked_nests in_output channel name inside holds depth rest = go (is_unmarked in_output channel name)
  where
    go : (t : Bool) → nests depth (cond t inside (framed_html in_output channel name inside) ++ rest) ≡ nests depth rest
    go true = holds depth rest
    go false = framed in_output channel name inside holds depth rest

shown_nests : PicturesAreBase64 → (found : Option (List ℕ)) (in_output channel : Bool) (name inside : List ℕ) → ((depth : ℕ) (rest : List ℕ) → nests depth (inside ++ rest) ≡ nests depth rest)
    → (depth : ℕ) (rest : List ℕ) → nests depth (shown_html found in_output channel name inside ++ rest) ≡ nests depth rest
shown_nests alone (Some given) in_output channel name inside holds depth rest = skips_picture alone name given depth rest
shown_nests alone None in_output channel name inside holds depth rest = marked_nests in_output channel name inside holds depth rest

items_nest : PicturesAreBase64 → (in_output : Bool) (xs : Items) (depth : ℕ) (rest : List ℕ) → nests depth (items_html in_output xs ++ rest) ≡ nests depth rest
items_nest alone in_output end depth rest = refl
items_nest alone in_output (text t others) depth rest =
    ap (nests depth) (append_assoc (html_text true t) (items_html in_output others) rest) ∙ skips_text true t depth (items_html in_output others ++ rest) ∙ items_nest alone in_output others depth rest
items_nest alone in_output (block channel name inside others) depth rest =
    let shown = shown_html (picture_named channel name inside) in_output channel name (items_html (is_output_tag channel name) inside) in
    ap (nests depth) (append_assoc shown (items_html in_output others) rest)
    ∙ shown_nests alone (picture_named channel name inside) in_output channel name (items_html (is_output_tag channel name) inside) (items_nest alone (is_output_tag channel name) inside) depth (items_html in_output others ++ rest)
    ∙ items_nest alone in_output others depth rest

pub spans_nest : PicturesAreBase64 → SpansNest
spans_nest alone output =
    ap (nests 0) (sym (append-nil (block_html false output)))
    ∙ shown_nests alone (picture_of output) false output.channel output.name (items_html (is_output_tag output.channel output.name) output.items) (items_nest alone (is_output_tag output.channel output.name) output.items) 0 []
