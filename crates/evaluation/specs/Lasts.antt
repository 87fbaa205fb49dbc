-- Which field of each session was asked last.
use Rattle.std.specs.Prelude.{ℕ, Bool, not, List, [], ◌∷◌, ◌++◌, Option, Some, None, filter, find, option_map}
use Rattle.std.specs.Str.{bytes_eq}
use Rattle.worksheet.specs.declared.field.Field.{Field}
use Rattle.evaluation.specs.declared.lasts.Last.{Last}

abbrev pub is_last_of : List ℕ → Last → Bool
is_last_of session last = bytes_eq last.session session

abbrev pub is_of_another : List ℕ → Last → Bool
is_of_another session last = not (bytes_eq last.session session)

-- the number of the field that was asked last of this session, where one was
abbrev pub last_asked : List Last → List ℕ → Option ℕ
last_asked lasts session = option_map (λ last. last.field) (find (is_last_of session) lasts)

-- that field is the last one of its session now
abbrev pub with_last : List Last → Last → List Last
with_last lasts field = filter (is_of_another field.session) lasts ++ field ∷ []

-- the same where this field was asked after them, if it is there
abbrev pub after_asking : List Last → Option Field → List Last
after_asking lasts None = lasts
after_asking lasts (Some field) = with_last lasts (record { session = field.session; field = field.id })
