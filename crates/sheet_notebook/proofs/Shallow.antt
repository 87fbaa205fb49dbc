-- A notebook nests six deep, and has no float.
use Rattle.std.proofs.Common.{◌≡◌, ◌≤◌, ℕ, max, Bool, true, false, cond, ◌||◌, List, [], ◌∷◌, map, refl, ap, ap₂, arith, Option, Some, None}
use Rattle.std.specs.Prelude.{unwrap_or}
use Rattle.block_tree.specs.Tree.{Tree, block_piece, text_piece}
use Rattle.serde_json.specs.Data.{Data, array, depth, item, items_depth, no_items}
use Rattle.serde_json.specs.Read.{max_depth}
use Rattle.serde_json.specs.View.{items_of}
use Rattle.serde_json.specs.Written.{has_float, items_have_float}
use Rattle.worksheet.specs.Contents.{Contents}
use Rattle.worksheet.specs.declared.field.Answer.{Answer}
use Rattle.worksheet.specs.declared.field.Field.{Field}
use Rattle.sheet_notebook.specs.Empty.{shows_nothing}
use Rattle.sheet_notebook.specs.Formulas.{formula_of}
use Rattle.sheet_notebook.specs.Notebook.{answer_outputs, cell_of, error_data, has_parts, media_of, media_output, notebook, outputs_in, outputs_of, part_output, picture_output, plain_bundle, result_of, own_output, stream_data, whole_output}
use Rattle.sheet_notebook.specs.Parts.{Part, output_parts}
use Rattle.sheet_notebook.specs.Pictures.{is_error_tag, drawn_as, picture_of}
use Rattle.sheet_notebook.specs.Strings.{block_string, items_string}
use Rattle.sheet_notebook.specs.declared.pictures.PictureKind.{PictureKind}
use Rattle.sheet_notebook.specs.declared.pictures.PictureKind.TheVariants as kind

max_within : (a b n : ℕ) → a ≤ n → b ≤ n → max a b ≤ n
max_within a b n p q = omega (arith, p, q)

picture_float : (found : Option PictureKind) (name given : List ℕ) → has_float (picture_output found name given) ≡ false
picture_float None name given = refl
picture_float (Some kind.Png) name given = refl
picture_float (Some kind.Jpeg) name given = refl
picture_float (Some kind.Svg) name given = refl

picture_depth : (found : Option PictureKind) (name given : List ℕ) → depth (picture_output found name given) ≤ 2
picture_depth None name given = omega arith
picture_depth (Some kind.Png) name given = omega arith
picture_depth (Some kind.Jpeg) name given = omega arith
picture_depth (Some kind.Svg) name given = omega arith

media_float : (given formula : Option (List ℕ)) (name : List ℕ) (other : Data) → has_float other ≡ false → has_float (unwrap_or (media_output given formula name) other) ≡ false
media_float (Some given) formula name other e = picture_float (drawn_as name given) name given
media_float None (Some formula) name other e = refl
media_float None None name other e = e

media_depth : (given formula : Option (List ℕ)) (name : List ℕ) (other : Data) → depth other ≤ 2 → depth (unwrap_or (media_output given formula name) other) ≤ 2
media_depth (Some given) formula name other e = picture_depth (drawn_as name given) name given
media_depth None (Some formula) name other e = omega arith
media_depth None None name other e = e

own_float : (in_output : Bool) (b : Tree) (other : Data) → has_float other ≡ false → has_float (unwrap_or (own_output in_output b) other) ≡ false
own_float in_output b other e = go (is_error_tag in_output b.channel b.name)
  where
    go : (t : Bool) → has_float (unwrap_or (cond t (Some (error_data (items_string b.items))) (media_of b)) other) ≡ false
    go true = refl
    go false = media_float (picture_of b) (formula_of b) b.name other e

own_depth : (in_output : Bool) (b : Tree) (other : Data) → depth other ≤ 2 → depth (unwrap_or (own_output in_output b) other) ≤ 2
own_depth in_output b other e = go (is_error_tag in_output b.channel b.name)
  where
    go : (t : Bool) → depth (unwrap_or (cond t (Some (error_data (items_string b.items))) (media_of b)) other) ≤ 2
    go true = omega arith
    go false = media_depth (picture_of b) (formula_of b) b.name other e

parts_float : (ps : List Part) → items_have_float (items_of (map part_output ps)) ≡ false
parts_float [] = refl
parts_float ((in_output, text_piece t) ∷ rest) = parts_float rest
parts_float ((in_output, block_piece b) ∷ rest) = ap₂ (λ a b. a || b) (own_float in_output b (stream_data (block_string b)) refl) (parts_float rest)

parts_depth : (ps : List Part) → items_depth (items_of (map part_output ps)) ≤ 2
parts_depth [] = omega arith
parts_depth ((in_output, text_piece t) ∷ rest) = max_within 1 _ 2 (omega arith) (parts_depth rest)
parts_depth ((in_output, block_piece b) ∷ rest) = max_within _ _ 2 (own_depth in_output b (stream_data (block_string b)) (omega arith)) (parts_depth rest)

answer_float : (b : Tree) → has_float (outputs_in b) ≡ false
unfolding outputs_in
answer_float b = go (has_parts b)
  where
    go : (t : Bool) → has_float (cond t (array (items_of (map part_output (output_parts b)))) (array (item (whole_output b) no_items))) ≡ false
    go true = parts_float (output_parts b)
    go false = ap (λ t. t || false) (own_float false b (result_of (plain_bundle b)) refl)

answer_depth : (b : Tree) → depth (outputs_in b) ≤ 3
unfolding outputs_in
answer_depth b = go (has_parts b)
  where
    go : (t : Bool) → depth (cond t (array (items_of (map part_output (output_parts b)))) (array (item (whole_output b) no_items))) ≤ 3
    go true = omega (arith, parts_depth (output_parts b))
    go false = omega (arith, own_depth false b (result_of (plain_bundle b)) (omega arith))

shown_float : (b : Tree) → has_float (answer_outputs b) ≡ false
shown_float b = go (shows_nothing b)
  where
    go : (t : Bool) → has_float (cond t (array no_items) (outputs_in b)) ≡ false
    go true = refl
    go false = answer_float b

shown_depth : (b : Tree) → depth (answer_outputs b) ≤ 3
shown_depth b = go (shows_nothing b)
  where
    go : (t : Bool) → depth (cond t (array no_items) (outputs_in b)) ≤ 3
    go true = omega arith
    go false = answer_depth b

outputs_float : (answer : Option Answer) → has_float (outputs_of answer) ≡ false
outputs_float None = refl
outputs_float (Some answer) = shown_float answer.output

outputs_depth : (answer : Option Answer) → depth (outputs_of answer) ≤ 3
outputs_depth None = omega arith
outputs_depth (Some answer) = shown_depth answer.output

cell_float : (field : Field) → has_float (cell_of field) ≡ false
unfolding cell_of
cell_float field = ap (λ b. b || false) (outputs_float field.answer)

cell_depth : (field : Field) → depth (cell_of field) ≤ 4
unfolding cell_of
cell_depth field = omega (arith, outputs_depth field.answer)

cells_float : (fields : List Field) → items_have_float (items_of (map cell_of fields)) ≡ false
cells_float [] = refl
cells_float (field ∷ fields) = ap₂ (λ a b. a || b) (cell_float field) (cells_float fields)

cells_depth : (fields : List Field) → items_depth (items_of (map cell_of fields)) ≤ 4
cells_depth [] = omega arith
cells_depth (field ∷ fields) = max_within _ _ 4 (cell_depth field) (cells_depth fields)

pub no_float : (sheet : Contents) → has_float (notebook sheet) ≡ false
no_float sheet = ap (λ b. b || false) (cells_float sheet.fields)

pub is_shallow : (sheet : Contents) → depth (notebook sheet) ≤ max_depth
is_shallow sheet = omega (arith, cells_depth sheet.fields)
