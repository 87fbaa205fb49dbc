-- Formulas are still.
use Rattle.std.proofs.Common.{◌≡◌, ℕ, Bool, true, false, cond, List, [], ◌++◌, Option, Some, None, option_map, refl, ap, ap₂, sym, ◌∙◌, append-nil}
use Rattle.std.specs.Prelude.{◌&&◌, not, codes}
use Rattle.std.specs.Str.{bytes_eq}
use Rattle.block_tree.specs.Tree.{Items, Tree, end, text, block}
use Rattle.sheet_text.specs.Blocks.{block_text, framed, is_bare, items_block_text, shown}
use Rattle.sheet_text.specs.Escape.{on_lines}
use Rattle.std.proofs.lemmas.Slice.Eq.{bytes_eq-Decides}
use Rattle.sheet_notebook.specs.Formulas.{formula_in, formula_last, formula_named, formula_of, is_formula, is_still, text_and_formula}
use Rattle.sheet_notebook.specs.Laws.{FormulasAreStill, FormulasAfterAreStill}

abbrev stays : Option (List ℕ) → Bool
stays None = true
stays (Some formula) = is_still formula

first : (a b : Bool) → (a && b) ≡ true → a ≡ true
first true b e = refl
first false b e = e

still : (given : List ℕ) → is_formula given ≡ true → is_still given ≡ true
unfolding is_formula
still given e = first (is_still given) _ e

text_stays : (given : List ℕ) → stays (cond (is_formula given) (Some given) None) ≡ true
text_stays given = go (is_formula given) refl
  where
    go : (t : Bool) → is_formula given ≡ t → stays (cond t (Some given) None) ≡ true
    go true e = still given e
    go false e = refl

items_stay : (items : Items) → stays (formula_in items) ≡ true
items_stay end = refl
items_stay (text given end) = text_stays given
items_stay (text given (text other rest)) = refl
items_stay (text given (block channel name inside rest)) = refl
items_stay (block channel name inside rest) = refl

named_stays : (channel : Bool) (name : List ℕ) (inside : Items) → stays (formula_named channel name inside) ≡ true
named_stays channel name inside = go (not channel && bytes_eq name (codes "latex"))
  where
    go : (t : Bool) → stays (cond t (formula_in inside) None) ≡ true
    go true = items_stay inside
    go false = refl

output_stays : (output : Tree) → stays (formula_of output) ≡ true
output_stays output = named_stays output.channel output.name output.items

pub are_still : FormulasAreStill
are_still output formula e = sym (ap stays e) ∙ output_stays output

-- a formula after a text

-- what is said of a formula that items are as one block
record IsLast (items : Items) (formula : List ℕ) : Type 0 where
  still : is_still formula ≡ true
  shows : items_block_text items ≡ framed false (codes "latex") (on_lines formula)

in_text : (inside : Items) (formula : List ℕ) → formula_in inside ≡ Some formula → items_block_text inside ≡ on_lines formula
in_text end formula e = cc
in_text (text given end) formula e = go (is_formula given) e
  where
    go : (t : Bool) → cond t (Some given) None ≡ Some formula → on_lines given ++ [] ≡ on_lines formula
    go true is = let same : given ≡ formula = cc in append-nil (on_lines given) ∙ ap on_lines same
    go false is = cc
in_text (text given (text other rest)) formula e = cc
in_text (text given (block channel name inside rest)) formula e = cc
in_text (block channel name inside rest) formula e = cc

last_shows : (channel : Bool) (name : List ℕ) (inside : Items) (formula : List ℕ) → formula_named channel name inside ≡ Some formula
    → shown channel name (items_block_text inside) ++ [] ≡ framed false (codes "latex") (on_lines formula)
last_shows true name inside formula e = cc
last_shows false name inside formula e = go (bytes_eq name (codes "latex")) ((bytes_eq-Decides name (codes "latex")).0) e
  where
    go : (t : Bool) → (t ≡ true → name ≡ codes "latex") → cond t (formula_in inside) None ≡ Some formula → shown false name (items_block_text inside) ++ [] ≡ framed false (codes "latex") (on_lines formula)
    go true named is = append-nil (shown false name (items_block_text inside)) ∙ ap₂ (shown false) (named refl) (in_text inside formula is)
    go false named is = cc

last_is : (items : Items) (formula : List ℕ) → formula_last items ≡ Some formula → IsLast items formula
last_is end formula e = cc
last_is (text given rest) formula e = cc
last_is (block channel name inside end) formula e = record { still = sym (ap stays e) ∙ named_stays channel name inside; shows = last_shows channel name inside formula e }
last_is (block channel name inside (text given rest)) formula e = cc
last_is (block channel name inside (block other another within rest)) formula e = cc

record IsBoth (items : Items) (printed formula : List ℕ) : Type 0 where
  still : is_still formula ≡ true
  shows : items_block_text items ≡ on_lines printed ++ framed false (codes "latex") (on_lines formula)

abbrev text_of : Option (List ℕ × List ℕ) → List ℕ
text_of None = []
text_of (Some found) = found.0

abbrev formula_with : Option (List ℕ × List ℕ) → List ℕ
formula_with None = []
formula_with (Some found) = found.1

both_are : (items : Items) (printed formula : List ℕ) → text_and_formula items ≡ Some (printed, formula) → IsBoth items printed formula
both_are end printed formula e = cc
both_are (text given rest) printed formula e = go (formula_last rest) refl e
  where
    go : (found : Option (List ℕ)) → formula_last rest ≡ found → option_map {U = List ℕ × List ℕ} (λ f. (given, f)) found ≡ Some (printed, formula) → IsBoth (text given rest) printed formula
    go None is both = cc
    go (Some f) is both =
        let same : given ≡ printed = ap text_of both in
        let one : f ≡ formula = ap formula_with both in
        let last = last_is rest formula (is ∙ ap Some one) in
        record { still = last.still; shows = ap₂ (λ a b. on_lines a ++ b) same last.shows }
both_are (block channel name inside rest) printed formula e = cc

pub are_still_after : FormulasAfterAreStill
are_still_after output printed formula e = go (is_bare output.channel output.name) refl e
  where
    go : (t : Bool) → is_bare output.channel output.name ≡ t → cond t (text_and_formula output.items) None ≡ Some (printed, formula)
        → (is_still formula ≡ true) × (block_text output ≡ on_lines printed ++ framed false (codes "latex") (on_lines formula))
    go true bare is =
        let both = both_are output.items printed formula is in
        (both.still, ap (λ b. cond b (items_block_text output.items) (framed output.channel output.name (items_block_text output.items))) bare ∙ both.shows)
    go false bare is = cc
