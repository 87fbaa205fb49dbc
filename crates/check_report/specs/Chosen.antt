-- Which fields are checked, and which of those are compared.
use Rattle.std.specs.Prelude.{◌≡◌, ◌&&◌, ◌||◌, not, ℕ, Bool, true, false, List, Option, Some, None, is_some, nat_le}
use Rattle.std.specs.List.{list_any}
use Rattle.std.specs.Str.{bytes_eq}
use Rattle.worksheet.specs.declared.field.Answer.{Answer}
use Rattle.worksheet.specs.declared.field.Field.{Field}
use Rattle.check_report.specs.declared.chosen.Chosen.{Chosen}
use Rattle.check_report.specs.declared.chosen.Ids.{Ids}
use Rattle.check_report.specs.declared.verdict.Verdict.{Verdict}
use Rattle.check_report.specs.declared.verdict.Verdict.TheVariants as verdict
use Rattle.check_report.specs.Verdicts.{Compared}

-- whether a session is the one that is asked for, where one is
abbrev pub is_session_asked : Option (List ℕ) → List ℕ → Bool
is_session_asked None session = true
is_session_asked (Some name) session = bytes_eq name session

-- A field is checked where its session is, and it shows an answer or all fields are asked for.
abbrev pub is_chosen : Chosen → Field → Bool
is_chosen chosen field = is_session_asked chosen.only field.session && (chosen.all || is_some field.answer)

-- whether a number is one of these
abbrev pub has_id : ℕ → Ids → Bool
has_id id ids = nat_le ids.first id && nat_le id ids.last

-- whether a number is one of these, where any are named
abbrev pub is_among : Option (List Ids) → ℕ → Bool
is_among None id = true
is_among (Some ids) id = list_any (has_id id) ids

-- A field isn't compared where it is left out, and where others are named that are.
abbrev pub is_left_out : Chosen → ℕ → Bool
is_left_out chosen id = list_any (has_id id) chosen.left_out || not (is_among chosen.compared id)

-- What an evaluation of a field comes to, by the answer that it shows and the one that came: what is left out isn't compared.
pub data Judged (chosen : Chosen) (field : Field) (came : Option Answer) (v : Verdict) : Type 0 where
  left_out : is_left_out chosen field.id ≡ true → v ≡ verdict.LeftOut → Judged chosen field came v
  compared : is_left_out chosen field.id ≡ false → Compared field.answer came v → Judged chosen field came v
