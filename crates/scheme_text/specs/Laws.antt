-- What follows from the definitions.
use Rattle.std.specs.Prelude.{◌≡◌, ◌↔◌, ℕ, ◌<◌, ◌^◌, List, [], ◌∷◌, ◌++◌, codes, Ok}
use Rattle.std.specs.List.{flat_map}
use Rattle.block_tree.specs.Tree.{Tree}
use Rattle.scheme_text.specs.Quoting.{Quotes, quoted}
use Rattle.scheme_text.specs.Requests.{request}
use Rattle.scheme_text.specs.Answers.{Says, IsReportedBy}
use Rattle.scheme_text.specs.Reported.{reported_by}
use Rattle.scheme_text.specs.declared.answer.Completions.{Completions}

-- Bytes ask for the completions of one input at one cursor at most.
abbrev pub OneRequest : Type 0
OneRequest = (s t : List ℕ) (i j : ℕ) → i < 2 ^ 64 → j < 2 ^ 64 → request s i ≡ request t j → (s ≡ t) × (i ≡ j)

-- A text says one list of strings at most.
abbrev pub SaysOneList : Type 0
SaysOneList = (s : List ℕ) (ts us : List (List ℕ)) → Says s ts → Says s us → ts ≡ us

-- Bytes between quotes stand for one text at most.
abbrev pub QuotesOneText : Type 0
QuotesOneText = (s t u : List ℕ) → Quotes s t → Quotes s u → t ≡ u

-- What is written between quotes stands for what was to be written.
abbrev pub QuotedIsRead : Type 0
QuotedIsRead = (t : List ℕ) → Quotes (quoted t) t

-- a string between quotes, with a space in front of it
abbrev pub string_after_space : List ℕ → List ℕ
string_after_space t = 32 ∷ (34 ∷ (quoted t ++ 34 ∷ []))

-- a tuple as an interpreter writes it
abbrev pub written_tuple : List (List ℕ) → List ℕ
written_tuple ts = codes "(tuple" ++ (flat_map string_after_space ts ++ 41 ∷ [])

-- A tuple that is written so says its strings.
abbrev pub WrittenTuplesAreRead : Type 0
WrittenTuplesAreRead = (ts : List (List ℕ)) → Says (written_tuple ts) ts

-- What is said as a value is what the output says.
abbrev pub ReportedAsAValue : Type 0
ReportedAsAValue = (b : Tree) (c : Completions) → (reported_by b ≡ Ok c) ↔ IsReportedBy b c
