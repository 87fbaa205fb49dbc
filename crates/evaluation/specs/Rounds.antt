-- In which order the fields that are to be evaluated are asked. (docs/use/EVAL.md.)
use Rattle.std.specs.Prelude.{◌==◌, ℕ, zero, suc, Bool, true, false, List, [], ◌∷◌, ◌++◌, Option, Some, None, count_by, filter, length, map, nat_le}
use Rattle.std.specs.Str.{bytes_eq}
use Rattle.worksheet.specs.Checks.{field_in}
use Rattle.worksheet.specs.Contents.{Contents}
use Rattle.worksheet.specs.declared.field.Field.{Field}
use Rattle.evaluation.specs.declared.plan.Plan.{Plan}
use Rattle.evaluation.specs.declared.rounds.Placed.{Placed}
use Rattle.evaluation.specs.Meant.{meant_in}

-- whether this one of the fields is of this session
abbrev pub is_field_of : List ℕ → Option Field → Bool
is_field_of session None = false
is_field_of session (Some field) = bytes_eq field.session session

-- how many of these numbers are those of fields of this session
abbrev pub count_of : List Field → List ℕ → List ℕ → ℕ
count_of fields session ids = count_by (λ id. is_field_of session (field_in fields id)) ids

-- how many are those of fields of this one's session
abbrev pub of_its_session : List Field → List ℕ → Option Field → ℕ
of_its_session fields front None = 0
of_its_session fields front (Some field) = count_of fields field.session front

-- The round of the field with this number: how many of its session are to be evaluated before it.
abbrev pub round_of : List Field → List ℕ → ℕ → ℕ
round_of fields front id = of_its_session fields front (field_in fields id)

-- these fields, each with its round, where those stand in front of them
abbrev pub with_rounds : List Field → List ℕ → List ℕ → List Placed
with_rounds fields front [] = []
with_rounds fields front (id ∷ ids) = record { round = round_of fields front id; id = id } ∷ with_rounds fields (front ++ id ∷ []) ids

-- their numbers
abbrev pub placed_ids : List Placed → List ℕ
placed_ids all = map (λ p. p.id) all

-- those of one round
abbrev pub in_round : List Placed → ℕ → List ℕ
in_round all round = map (λ p. p.id) (filter (λ p. p.round == round) all)

-- those of the first rounds, one round after the other
abbrev pub in_rounds : List Placed → ℕ → List ℕ
in_rounds all zero = []
in_rounds all (suc n) = in_rounds all n ++ in_round all n

-- those of all rounds, of which there are no more than fields
abbrev pub all_rounds : List Placed → List ℕ
all_rounds all = in_rounds all (length all)

abbrev pub by_rounds : List Field → List ℕ → List ℕ
by_rounds fields meant = all_rounds (with_rounds fields [] meant)

abbrev pub order_by : Bool → List Field → List ℕ → List ℕ
order_by true fields meant = meant
order_by false fields meant = by_rounds fields meant

abbrev pub order_of : Plan → List Field → List ℕ → List ℕ
order_of plan fields meant = order_by (nat_le plan.jobs 1) fields meant

-- The numbers of the fields that are to be evaluated, in the order in which they are asked: the worksheet's order where one is asked after
-- another; where sessions go side by side first the first field of each session, then the second of each, and so on.
abbrev pub asking_order : Plan → Contents → List ℕ
asking_order plan sheet = order_of plan sheet.fields (meant_in plan sheet)
