-- Lists of a worksheet.
use Rattle.std.proofs.Common.{◌≡◌, List, [], ◌∷◌, map, refl, ap}
use Rattle.serde_json.specs.Data.{array}
use Rattle.serde_json.specs.View.{items_of}
use Rattle.worksheet.specs.declared.field.Field.{Field}
use Rattle.worksheet.specs.declared.field.Session.{Session}
use Rattle.sheet_json.specs.Objects.{count, ids_data, session_data, sessions_data}
use Rattle.sheet_json.specs.Shown.{still_session}
use Rattle.sheet_json.specs.inside.Rows.{id_data, ids_row, still_data, sessions_row}

ids_twice : (fields : List Field) → map id_data fields ≡ map count (map (λ f. f.id) fields)
ids_twice [] = refl
ids_twice (x ∷ fields) = ap (λ t. count x.id ∷ t) (ids_twice fields)

pub ids_are : (fields : List Field) → ids_row fields ≡ ids_data (map (λ f. f.id) fields)
ids_are fields = ap (λ t. array (items_of t)) (ids_twice fields)

sessions_twice : (sessions : List Session) → map still_data sessions ≡ map session_data (map still_session sessions)
sessions_twice [] = refl
sessions_twice (x ∷ sessions) = ap (λ t. still_data x ∷ t) (sessions_twice sessions)

pub sessions_are : (sessions : List Session) → sessions_row sessions ≡ sessions_data (map still_session sessions)
sessions_are sessions = ap (λ t. array (items_of t)) (sessions_twice sessions)
