-- Which fields are asked together. (docs/use/EVAL.md.)
use Rattle.std.specs.Prelude.{ℕ, ◌+◌, ◌-◌, ◌&&◌, Bool, false, not, List, [], ◌∷◌, ◌++◌, Option, Some, None, drop, if◌then◌else◌, length, nat_lt}
use Rattle.worksheet.specs.Checks.{field_in}
use Rattle.worksheet.specs.declared.field.Field.{Field}
use Rattle.session_engine.specs.World.{World, sheet_in}
use Rattle.child_edge.specs.Seats.{waits}
use Rattle.driver.specs.Steps.{most_together}
use Rattle.evaluation.specs.Beside.{is_session_busy}
use Rattle.evaluation.specs.Meant.{is_passed_over}
use Rattle.evaluation.specs.Programs.{is_needed}
use Rattle.evaluation.specs.declared.lasts.Last.{Last}
use Rattle.evaluation.specs.declared.plan.Plan.{Plan}

-- one of the fields with these numbers is of the session of this one
abbrev pub shares_session : List Field → List ℕ → Option Field → Bool
shares_session fields group None = false
shares_session fields group (Some field) = is_needed fields group field.session

-- no item waits in the session of this field, and none of the fields with these numbers is of it
abbrev pub is_apart : World → List ℕ → Option Field → Bool
is_apart w group field = not (is_session_busy w field) && not (shares_session (sheet_in w).fields group field)

-- There is room for one field more beside so many: in one group, and in the sessions that may go side by side.
abbrev pub has_room : Plan → World → ℕ → Bool
has_room plan w count = nat_lt count most_together && nat_lt (length (waits w)) (plan.jobs - count)

-- the field with this number may be asked with these, as far as its session goes: that is another than theirs, no item waits in it, and the field isn't
-- passed over
abbrev pub may_go_with : Plan → World → List Last → List ℕ → ℕ → Bool
may_go_with plan w lasts group id = is_apart w group (field_in (sheet_in w).fields id) && not (is_passed_over plan (sheet_in w).fields lasts id)

-- The field with this number is asked together with these, which come before it: it may be, and there is room for it. A strict evaluation asks one field
-- after another.
abbrev pub goes_with : Plan → World → List Last → List ℕ → ℕ → Bool
goes_with plan w lasts group id = not plan.strict && (has_room plan w (length group) && may_go_with plan w lasts group id)

-- these, and after them the first ones of those, one after another as long as each goes with all before it
abbrev pub with_those_that_go : (List ℕ → ℕ → Bool) → List ℕ → List ℕ → List ℕ
with_those_that_go goes group [] = group
with_those_that_go goes group (id ∷ ids) = if goes group id then with_those_that_go goes (group ++ id ∷ []) ids else group

-- The fields that are asked together where the one at this place is asked, which has this number: it, and the next ones as long as each goes with all
-- before it.
abbrev pub group_at : Plan → World → List Last → List ℕ → ℕ → ℕ → List ℕ
group_at plan w lasts ids k id = with_those_that_go (goes_with plan w lasts) (id ∷ []) (drop (k + 1) ids)
