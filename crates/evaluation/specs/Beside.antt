-- Sessions side by side: which field is asked while others wait, and which of those that wait the time is over for. (docs/use/EVAL.md, `--jobs` and
-- `--timeout`.)
use Rattle.std.specs.Prelude.{◌≡◌, ◌⊎◌, ◌==◌, ◌<◌, ◌≤◌, ◌+◌, ◌-◌, ◌&&◌, ℕ, Bool, true, false, not, List, Option, Some, None, length, nat_lt, option_map, slice_get}
use Rattle.worksheet.specs.Checks.{field_in}
use Rattle.worksheet.specs.declared.field.Field.{Field}
use Rattle.session_engine.specs.declared.host.LifeView.{LifeView}
use Rattle.session_engine.specs.World.{World, in_flight, life_of, sheet_in}
use Rattle.child_edge.specs.Seats.{life_view, waits}
use Rattle.evaluation.specs.declared.plan.Plan.{Plan}
use Rattle.evaluation.specs.declared.plan.Stand.{Stand}
use Rattle.evaluation.specs.Meant.{IsAsked}

-- whether an item waits in this life
abbrev pub is_busy : Option LifeView → Bool
is_busy None = false
is_busy (Some life) = nat_lt 0 life.waiting

-- whether an item waits in the session of this field
abbrev pub is_session_busy : World → Option Field → Bool
is_session_busy w None = false
is_session_busy w (Some field) = is_busy (option_map life_view (life_of w field.session))

-- There is room beside the fields that wait: none does in the session of this one, and items wait in fewer sessions than may go side by side.
abbrev pub has_room_beside : Plan → World → ℕ → Bool
has_room_beside plan w id = not (is_session_busy w (field_in (sheet_in w).fields id)) && nat_lt (length (waits w)) plan.jobs

-- The field at this place, with this number, is asked although others wait: no field is passed over for it, no interpreter was interrupted of
-- those that wait, and there is room for it.
abbrev pub joins : Plan → World → Stand → ℕ → ℕ → Bool
joins plan w stand k id = (k == stand.taken) && (not stand.warned && has_room_beside plan w id)

-- the field that would be asked next, if there is one, isn't asked while others wait
pub record NoneJoins (plan : Plan) (w : World) (meant : List ℕ) (stand : Stand) : Type 0 where
  pub each : (k id : ℕ) → IsAsked plan (sheet_in w).fields meant stand k id → joins plan w stand k id ≡ false

-- whether the field with this number, where there is one, waits for its answer
abbrev pub is_waiting_one : World → Option ℕ → Bool
is_waiting_one w None = false
is_waiting_one w (Some id) = in_flight w id

-- The field that is the nth of those that are to be evaluated, with this number, is the first that waits of those whose interpreters weren't
-- interrupted.
pub record IsFirstWaiting (w : World) (meant : List ℕ) (stand : Stand) (n id : ℕ) : Type 0 where
  pub low : stand.first < n
  pub high : n ≤ stand.taken
  pub there : slice_get meant (n - 1) ≡ Some id
  pub waits_for : in_flight w id ≡ true
  pub earlier : (k : ℕ) → stand.first ≤ k → k + 1 < n → is_waiting_one w (slice_get meant k) ≡ false

-- none of these waits
pub record NoneWaits (w : World) (meant : List ℕ) (stand : Stand) : Type 0 where
  pub each : (k : ℕ) → stand.first ≤ k → k < stand.taken → is_waiting_one w (slice_get meant k) ≡ false

-- Where the time is over it is that of the first of them that waits; where none of them does, of the one that was asked last.
abbrev pub IsLate : World → List ℕ → Stand → ℕ → ℕ → Type 0
IsLate w meant stand n id = IsFirstWaiting w meant stand n id ⊎ (NoneWaits w meant stand × (n ≡ stand.taken) × (id ≡ stand.field))

-- the first place of those that wait together, by whether the field at this place is asked while others wait
abbrev pub first_by : Bool → ℕ → ℕ → ℕ
first_by true first k = first
first_by false first k = k
