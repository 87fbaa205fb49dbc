-- What shows nothing has no byte in its texts and no tag that is shown.
use Rattle.std.proofs.Common.{◌≡◌, ℕ, Bool, true, false, cond, ◌&&◌, ◌==◌, length, List, [], ◌∷◌, ◌++◌, refl, ap, ap₂, ◌∙◌, sym}
use Rattle.std.proofs.Math.Dec.{eqb-suc-zero}
use Rattle.block_tree.specs.Tree.{Items, Tree, end, text, block}
use Rattle.block_tree.specs.View.{tree_out, piece_text, piece_block}
use Rattle.sheet_text.specs.Blocks.{framed, is_bare, items_block_text, shown, sign}
use Rattle.sheet_text.specs.Escape.{escaped_byte, is_plain, on_line, on_lines, printed_byte}
use Rattle.sheet_notebook.specs.Empty.{shows_nothing}
use Rattle.sheet_notebook.specs.inside.Blank.{are_blank}

empty_both : (xs ys : List ℕ) → (length (xs ++ ys) == 0) ≡ ((length xs == 0) && (length ys == 0))
empty_both [] ys = refl
empty_both (x ∷ xs) ys = eqb-suc-zero (length (xs ++ ys)) ∙ sym (ap (λ b. b && (length ys == 0)) (eqb-suc-zero (length xs)))

printed_seen : (byte : ℕ) → (length (printed_byte true byte) == 0) ≡ false
printed_seen byte = go (is_plain true byte)
  where
    go : (plain : Bool) → (length (cond plain (byte ∷ []) (escaped_byte byte)) == 0) ≡ false
    go true = refl
    go false = refl

empty_lines : (given : List ℕ) → (length (on_lines given) == 0) ≡ (length given == 0)
empty_lines [] = refl
empty_lines (byte ∷ rest) = empty_both (printed_byte true byte) (on_lines rest) ∙ ap (λ b. b && (length (on_lines rest) == 0)) (printed_seen byte) ∙ sym (eqb-suc-zero (length rest))

empty_shown : (channel : Bool) (name inside : List ℕ) → (length (shown channel name inside) == 0) ≡ (is_bare channel name && (length inside == 0))
empty_shown channel name inside = go (is_bare channel name)
  where
    go : (bare : Bool) → (length (cond bare inside (framed channel name inside)) == 0) ≡ (bare && (length inside == 0))
    go true = refl
    go false = eqb-suc-zero (length (on_line name ++ sign channel ∷ (inside ++ 125 ∷ [])))

blank_items : (items : Items) → (length (items_block_text items) == 0) ≡ are_blank items
blank_items end = refl
blank_items (text given rest) = empty_both (on_lines given) (items_block_text rest) ∙ ap₂ (λ a b. a && b) (empty_lines given) (blank_items rest)
blank_items (block channel name inside rest) =
    empty_both (shown channel name (items_block_text inside)) (items_block_text rest)
    ∙ ap₂ (λ a b. a && b) (empty_shown channel name (items_block_text inside) ∙ ap (λ b. is_bare channel name && b) (blank_items inside)) (blank_items rest)

pub blank_output : (output : Tree) → (is_bare output.channel output.name && are_blank output.items) ≡ shows_nothing output
blank_output output =
    sym (empty_shown output.channel output.name (items_block_text output.items) ∙ ap (λ b. is_bare output.channel output.name && b) (blank_items output.items))

pub ruleset blank_rules = (tree_out, piece_text, piece_block)

pub ruleset nothing_rules = (blank_output, tree_out)
