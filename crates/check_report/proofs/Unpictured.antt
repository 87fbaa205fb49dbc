-- Outputs in which no picture stands.
use Rattle.std.proofs.Common.{◌≡◌, ℕ, Bool, true, false, ◌||◌, List, ◌++◌, refl, ap, ◌∙◌, Option, Some, None, is_some}
use Rattle.std.proofs.lemmas.Bool.{true≢false}
use Rattle.block_tree.specs.Tree.{Items, Tree, end, text, block}
use Rattle.sheet_text.specs.Escape.{on_lines}
use Rattle.sheet_text.specs.Blocks.{block_text, items_block_text, shown}
use Rattle.sheet_notebook.specs.Pictures.{picture_named, picture_of}
use Rattle.check_report.specs.Brief.{brief_block, brief_text, items_brief}
use Rattle.check_report.specs.Laws.{has_picture, have_picture}

-- no picture and nothing in it: as it is shown
plain_block : (p : Option (List ℕ)) (channel : Bool) (name xs ys : List ℕ) → is_some p ≡ false → xs ≡ ys → brief_block p channel name xs ≡ shown channel name ys
plain_block None channel name xs ys h e = ap (shown channel name) e
plain_block (Some t) channel name xs ys h e = absurd (true≢false h)

first_false : (a b : Bool) → (a || b) ≡ false → a ≡ false
first_false false b h = refl
first_false true b h = absurd (true≢false h)

second_false : (a b : Bool) → (a || b) ≡ false → b ≡ false
second_false false b h = h
second_false true b h = absurd (true≢false h)

items_as_shown : (items : Items) → have_picture items ≡ false → items_brief items ≡ items_block_text items
items_as_shown end h = refl
items_as_shown (text t rest) h = ap (λ r. on_lines t ++ r) (items_as_shown rest h)
items_as_shown (block channel name inside rest) h =
    let p = picture_named channel name inside in
    let inner = second_false (is_some p) (have_picture inside) (first_false (is_some p || have_picture inside) (have_picture rest) h) in
    let own = first_false (is_some p) (have_picture inside) (first_false (is_some p || have_picture inside) (have_picture rest) h) in
    let others = second_false (is_some p || have_picture inside) (have_picture rest) h in
    ap (λ x. x ++ items_brief rest) (plain_block p channel name (items_brief inside) (items_block_text inside) own (items_as_shown inside inner))
    ∙ ap (λ r. shown channel name (items_block_text inside) ++ r) (items_as_shown rest others)

pub others_as_shown : (output : Tree) → has_picture output ≡ false → brief_text output ≡ block_text output
others_as_shown b h = plain_block (picture_of b) b.channel b.name (items_brief b.items) (items_block_text b.items) (first_false (is_some (picture_of b)) (have_picture b.items) h)
    (items_as_shown b.items (second_false (is_some (picture_of b)) (have_picture b.items) h))
