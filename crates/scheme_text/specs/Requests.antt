-- The request of completions. (TeXmacs manual, interfacing: tab-completion.)
use Rattle.std.specs.Prelude.{ℕ, List, ◌∷◌, ◌++◌, codes}
use Rattle.std.specs.Fmt.{decimal}
use Rattle.scheme_text.specs.Quoting.{quoted}

-- DATA_COMMAND, which is 16, and a list of the word, the input as a string and the cursor in decimal; then a line feed
abbrev pub request : List ℕ → ℕ → List ℕ
request input cursor = 16 ∷ (codes "(complete \"" ++ (quoted input ++ (codes "\" " ++ (decimal cursor ++ codes ")\n"))))
