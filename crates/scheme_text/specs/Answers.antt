-- What the answer to a request of completions says. (TeXmacs manual, interfacing: tab-completion. Its grammar: docs/use/PROTOCOL.md,
-- completion.)
use Rattle.std.specs.Prelude.{◌≡◌, ℕ, true, List, [], ◌∷◌, ◌++◌, codes, Some}
use Rattle.std.specs.List.{list_all}
use Rattle.block_tree.specs.Tree.{Tree}
use Rattle.scheme_text.specs.Quoting.{Quotes}
use Rattle.scheme_text.specs.Outputs.{is_white, answer_text}
use Rattle.scheme_text.specs.declared.answer.Completions.{Completions}

-- The bytes are strings that stand for these texts, with white space before, between and after them, or none. 34 is a quote.
pub data Strings : List ℕ → List (List ℕ) → Type 0 where
  no_string : Strings [] []
  white_first : {c : ℕ} {s : List ℕ} {ts : List (List ℕ)} → is_white c ≡ true → Strings s ts → Strings (c ∷ s) ts
  string_first : {q t s : List ℕ} {ts : List (List ℕ)} → Quotes q t → Strings s ts → Strings (34 ∷ (q ++ 34 ∷ s)) (t ∷ ts)

-- An answer has one of three forms: nothing, an empty string, or a tuple of strings, which 40 and 41, the brackets, enclose. These
-- are the texts of its strings; of the first two forms there are none.
pub data Form : List ℕ → List (List ℕ) → Type 0 where
  empty : Form [] []
  empty_string : Form (34 ∷ 34 ∷ []) []
  tuple : (w s : List ℕ) {ts : List (List ℕ)} → list_all is_white w ≡ true → Strings s ts → Form (40 ∷ (w ++ (codes "tuple" ++ (s ++ 41 ∷ [])))) ts

-- The text has one of these forms, with white space at both ends, or none.
pub record Says (s : List ℕ) (ts : List (List ℕ)) : Type 0 where
  pub before : List ℕ
  pub inside : List ℕ
  pub following : List ℕ
  pub is : s ≡ before ++ (inside ++ following)
  pub white_before : list_all is_white before ≡ true
  pub white_after : list_all is_white following ≡ true
  pub form : Form inside ts

-- The first text is the root, and the others are the completions. Without a text there are none, and the root is empty.
abbrev pub rooted : List (List ℕ) → Completions
rooted [] = record { root = []; rest = [] }
rooted (t ∷ ts) = record { root = t; rest = ts }

-- The output tells these completions.
pub record IsReportedBy (b : Tree) (c : Completions) : Type 0 where
  pub text : List ℕ
  pub strings : List (List ℕ)
  pub holds : answer_text b ≡ Some text
  pub says : Says text strings
  pub are : c ≡ rooted strings
