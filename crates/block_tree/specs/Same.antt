-- When two trees are the same, as a test, and that the test tells it.
use Rattle.std.proofs.Common.{◌≡◌, Bool, true, false, ◌&&◌, refl, ap, ◌∙◌, subst}
use Rattle.std.proofs.lemmas.Bool.{and_parts, and_from, false≢true}
use Rattle.std.proofs.lemmas.Slice.Eq.{bytes_eq-Decides}
use Rattle.std.specs.Bool.{Decides, beq}
use Rattle.std.specs.Str.{bytes_eq}
use Rattle.std.specs.Cmp.{IsEquivalence, IsPartialEquivalence, decided, partial_equiv_from_equiv, booleans_Decides}
use Rattle.block_tree.specs.Tree.{Items, Tree, Piece, text_piece, block_piece, end, text, block}

-- whether they are the same, part by part
abbrev pub same_items : Items → Items → Bool
same_items end end = true
same_items end (text t rest) = false
same_items end (block c n inside rest) = false
same_items (text s more) end = false
same_items (text s more) (text t rest) = bytes_eq s t && same_items more rest
same_items (text s more) (block c n inside rest) = false
same_items (block d m within more) end = false
same_items (block d m within more) (text t rest) = false
same_items (block d m within more) (block c n inside rest) = beq d c && bytes_eq m n && same_items within inside && same_items more rest

abbrev pub same_tree : Tree → Tree → Bool
same_tree a b = beq a.channel b.channel && bytes_eq a.name b.name && same_items a.items b.items

abbrev pub same_piece : Piece → Piece → Bool
same_piece (text_piece s) (text_piece t) = bytes_eq s t
same_piece (text_piece s) (block_piece b) = false
same_piece (block_piece a) (text_piece t) = false
same_piece (block_piece a) (block_piece b) = same_tree a b

same_self : (a : Items) → same_items a a ≡ true
same_self end = refl
same_self (text t rest) = and_from (bytes_eq t t) (same_items rest rest) ((bytes_eq-Decides t t).1 refl) (same_self rest)
same_self (block c n inside rest) = and_from (beq c c && bytes_eq n n && same_items inside inside) (same_items rest rest)
    (and_from (beq c c && bytes_eq n n) (same_items inside inside) (and_from (beq c c) (bytes_eq n n) ((booleans_Decides c c).1 refl) ((bytes_eq-Decides n n).1 refl)) (same_self inside)) (same_self rest)

equal_items : (a b : Items) → same_items a b ≡ true → a ≡ b
equal_items end end h = refl
equal_items end (text t rest) h = absurd (false≢true h)
equal_items end (block c n inside rest) h = absurd (false≢true h)
equal_items (text s more) end h = absurd (false≢true h)
equal_items (text s more) (text t rest) h =
    let u = and_parts (bytes_eq s t) (same_items more rest) h in ap (λ x. text x more) ((bytes_eq-Decides s t).0 u.0) ∙ ap (text t) (equal_items more rest u.1)
equal_items (text s more) (block c n inside rest) h = absurd (false≢true h)
equal_items (block d m within more) end h = absurd (false≢true h)
equal_items (block d m within more) (text t rest) h = absurd (false≢true h)
equal_items (block d m within more) (block c n inside rest) h =
    let u = and_parts (beq d c && bytes_eq m n && same_items within inside) (same_items more rest) h in
    let v = and_parts (beq d c && bytes_eq m n) (same_items within inside) u.0 in
    let w = and_parts (beq d c) (bytes_eq m n) v.0 in
    ap (λ x. block x m within more) ((booleans_Decides d c).0 w.0) ∙ ap (λ x. block c x within more) ((bytes_eq-Decides m n).0 w.1)
    ∙ ap (λ x. block c n x more) (equal_items within inside v.1) ∙ ap (block c n inside) (equal_items more rest u.1)

equal_trees : (a b : Tree) → same_tree a b ≡ true → a ≡ b
equal_trees a b h =
    let v = and_parts (beq a.channel b.channel && bytes_eq a.name b.name) (same_items a.items b.items) h in
    let w = and_parts (beq a.channel b.channel) (bytes_eq a.name b.name) v.0 in
    ap (λ x. record { channel = x; name = a.name; items = a.items }) ((booleans_Decides a.channel b.channel).0 w.0)
    ∙ ap (λ x. record { channel = b.channel; name = x; items = a.items }) ((bytes_eq-Decides a.name b.name).0 w.1)
    ∙ ap (λ x. record { channel = b.channel; name = b.name; items = x }) (equal_items a.items b.items v.1)

pub same_tree-Decides : (a b : Tree) → Decides (same_tree a b) (a ≡ b)
same_tree-Decides a b = (
  equal_trees a b,
  λ e. subst (λ x. same_tree a x ≡ true) e
      (and_from (beq a.channel a.channel && bytes_eq a.name a.name) (same_items a.items a.items) (and_from (beq a.channel a.channel) (bytes_eq a.name a.name) ((booleans_Decides a.channel a.channel).1 refl) ((bytes_eq-Decides a.name a.name).1 refl)) (same_self a.items)),
)

pub same_tree_equiv : IsEquivalence same_tree
same_tree_equiv = decided same_tree same_tree-Decides

pub same_tree_per : IsPartialEquivalence same_tree
same_tree_per = partial_equiv_from_equiv same_tree_equiv
