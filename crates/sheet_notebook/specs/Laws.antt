-- Laws of the definitions.
use Rattle.std.specs.Prelude.{◌≡◌, true, ℕ, false, List, ◌++◌, Some, codes}
use Rattle.std.specs.List.{list_all}
use Rattle.block_tree.specs.Tree.{Tree}
use Rattle.sheet_text.specs.Blocks.{block_text, framed}
use Rattle.sheet_text.specs.Escape.{on_lines}
use Rattle.sheet_notebook.specs.Formulas.{formula_after, formula_of, is_still}
use Rattle.sheet_notebook.specs.Pictures.{is_base64, is_base64_byte}

-- A formula has no control byte and no backquote, nothing in it begins a link, an image, an element, a remark or an address.
abbrev pub FormulasAreStill : Type 0
FormulasAreStill = (output : Tree) (formula : List ℕ) → formula_of output ≡ Some formula → is_still formula ≡ true

-- Neither has one after a text that was printed; and the text and the formula are all that `print` shows of such an output.
abbrev pub FormulasAfterAreStill : Type 0
FormulasAfterAreStill = (output : Tree) (printed formula : List ℕ) → formula_after output ≡ Some (printed, formula)
    → (is_still formula ≡ true) × (block_text output ≡ on_lines printed ++ framed false (codes "latex") (on_lines formula))

-- Base64 has letters, digits, '+', '/' and '=' alone, so nothing that begins or ends a mark of HTML.
abbrev pub Base64IsItsAlone : Type 0
Base64IsItsAlone = (given : List ℕ) → is_base64 given ≡ true → list_all is_base64_byte given ≡ true
