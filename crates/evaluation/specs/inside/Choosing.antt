-- The fields that are asked for, one after another, and the sessions that are changed.
use Rattle.std.specs.Prelude.{◌≡◌, ◌==◌, ◌||◌, ℕ, Bool, true, false, List, [], ◌∷◌, ◌++◌, cond}
use Rattle.std.specs.List.{list_any}
use Rattle.std.specs.Str.{bytes_eq}
use Rattle.worksheet.specs.Contents.{Contents}
use Rattle.worksheet.specs.declared.field.Field.{Field}
use Rattle.evaluation.specs.Meant.{is_changed, is_one_of}
use Rattle.evaluation.specs.declared.plan.Spared.{Spared}
use Rattle.evaluation.specs.declared.plan.Spared.TheVariants as spared
use Rattle.evaluation.specs.declared.plan.Which.{Which}
use Rattle.evaluation.specs.declared.plan.Which.TheVariants as which

-- whether this field is asked for, where the one before it is or isn't
abbrev pub is_asked_for : Which → Bool → Field → Bool
is_asked_for which.All before field = true
is_asked_for (which.Named ids) before field = is_one_of ids field
is_asked_for (which.From id) before field = before || (field.id == id)

abbrev pub id_if : Bool → ℕ → List ℕ
id_if true id = id ∷ []
id_if false id = []

-- this session is one of these
abbrev pub is_in : List (List ℕ) → List ℕ → Bool
is_in sessions session = list_any (λ one. bytes_eq one session) sessions

-- these sessions and one more, each once
abbrev pub with_session : List (List ℕ) → List ℕ → List (List ℕ)
with_session sessions one = cond (is_in sessions one) sessions (sessions ++ one ∷ [])

-- the same where a field of it lacks an answer
abbrev pub with_session_if : Bool → List (List ℕ) → List ℕ → List (List ℕ)
with_session_if true sessions one = with_session sessions one
with_session_if false sessions one = sessions

-- these are the sessions that are changed
pub record AreChanged (sheet : Contents) (sessions : List (List ℕ)) : Type 0 where
  pub each : (session : List ℕ) → is_in sessions session ≡ is_changed sheet session

-- they are, where it is asked for
abbrev pub AreKnown : Spared → Contents → List (List ℕ) → Type 0
AreKnown spared.Nothing sheet sessions = Unit {0}
AreKnown spared.Answered sheet sessions = Unit {0}
AreKnown spared.Unchanged sheet sessions = AreChanged sheet sessions
