-- Which programs an evaluation needs, and whether they are there. (docs/use/EVAL.md.)
use Rattle.std.specs.Prelude.{◌≡◌, ℕ, Bool, true, false, List, [], ◌∷◌}
use Rattle.std.specs.List.{AllByRecursion, list_any}
use Rattle.worksheet.specs.Checks.{field_in}
use Rattle.worksheet.specs.declared.field.Field.{Field}
use Rattle.worksheet.specs.declared.field.Session.{Session}
use Rattle.evaluation.specs.Rounds.{is_field_of}

-- what a look for a program of this name may answer
abbrev pub Finds : Type 1
Finds = List ℕ → Bool → Type 0

-- the program that a session names: its first word
abbrev pub program_of : List (List ℕ) → List ℕ
program_of [] = []
program_of (word ∷ words) = word

-- one of the fields with these numbers is of this session
abbrev pub is_needed : List Field → List ℕ → List ℕ → Bool
is_needed fields ids session = list_any (λ id. is_field_of session (field_in fields id)) ids

-- the program of this session was found, if one of these fields is of it
abbrev pub HasItsProgram : Finds → List Field → List ℕ → Session → Type 0
HasItsProgram finds fields ids session = is_needed fields ids session.name ≡ true → finds (program_of session.words) true

-- Each of these sessions is ready.
abbrev pub HaveAll : Finds → List Field → List ℕ → List Session → Type 0
HaveAll finds fields ids sessions = AllByRecursion (HasItsProgram finds fields ids) sessions

-- The first of these sessions that isn't ready has this name: one of these fields is of it, and its program wasn't found.
pub data IsFirstLacking (finds : Finds) (fields : List Field) (ids : List ℕ) : List Session → List ℕ → Type 0 where
  here : (session : Session) (others : List Session) → is_needed fields ids session.name ≡ true → finds (program_of session.words) false
      → IsFirstLacking finds fields ids (session ∷ others) session.name
  following : (session : Session) (others : List Session) (name : List ℕ) → HasItsProgram finds fields ids session → IsFirstLacking finds fields ids others name
      → IsFirstLacking finds fields ids (session ∷ others) name
