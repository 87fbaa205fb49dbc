-- What the fields of a scanner say. Private contracts cite this.
use Rattle.std.specs.Prelude.{◌≡◌, ◌≤◌, ◌<◌, ◌-◌, ◌+◌, ℕ, List, [], ◌∷◌, length, map, Option, Some, None, true, All, Result, Ok, Err, option_to_list, cond, nat_eq, ◌&&◌}
use Rattle.std.specs.List.{list_all}
use Rattle.block_tree.specs.Shape.{is_tag_byte, longest_tag, most_levels}
use Rattle.block_tree.specs.Tree.{Tree}
use Rattle.meta_format.specs.Limits.{Limits}
use Rattle.meta_format.specs.Stream.{Outer}
use Rattle.meta_format.specs.Found.{outer_of, outers}
use Rattle.meta_format.specs.Faults.{bad_tag, too_deep, too_long}
use Rattle.meta_format.specs.inside.Levels.{stack_marks, weight, IsHeld, IsLevel, AreOpen}
use Rattle.meta_format.specs.inside.Machine.{Mode, outside, tag_of, body_of, escape_of, broken, State, next, run, start_state, IsAlive}
use Rattle.meta_format.specs.declared.bounds.Bounds.{Bounds}
use Rattle.meta_format.specs.declared.level.Level.{Level}
use Rattle.meta_format.specs.declared.scan.Place.{Place}
use Rattle.meta_format.specs.declared.scan.Place.TheVariants as place
use Rattle.meta_format.specs.declared.scan.Scanner.{Scanner}
use Rattle.meta_format.specs.declared.scan.Found.{Found}
use Rattle.meta_format.specs.declared.scan.Stop.{Stop}
use Rattle.meta_format.specs.declared.scan.Stop.TheVariants as stop

abbrev pub most_of : Bounds → Limits
most_of b = record { tag = longest_tag; levels = most_levels; block = b.block; stream = b.stream }

abbrev pub mode_at : Place → ℕ → List Level → List ℕ → Mode
mode_at place.Outside start levels name = outside
mode_at place.Tag start levels name = tag_of start (stack_marks levels) (length levels) name
mode_at place.Body start levels name = body_of start (stack_marks levels) (length levels - 1)
mode_at place.Escape start levels name = escape_of start (stack_marks levels) (length levels - 1)

abbrev pub mode_of : Scanner → Mode
mode_of s = mode_at s.place s.start s.levels.items s.name.items

abbrev pub scan_state : Scanner → List Outer → State
scan_state s out = record { at = s.at; out = out; mode = mode_of s }

-- There is no level outside a block, and one at least in a body. A block starts before the next byte. A name is held in a tag alone.
abbrev pub IsPlacedAt : ℕ → Place → ℕ → ℕ → List Level → List ℕ → Type 0
IsPlacedAt block place.Outside at start levels name = (levels ≡ []) × (name ≡ [])
IsPlacedAt block place.Tag at start levels name = (start ≤ at) × (length levels < most_levels) × (list_all is_tag_byte name ≡ true) × (length name ≤ longest_tag)
    × IsHeld block start at (stack_marks levels) (length name)
IsPlacedAt block place.Body at start levels name = (start ≤ at) × (0 < length levels) × (name ≡ []) × IsHeld block start at (stack_marks levels) 0
IsPlacedAt block place.Escape at start levels name = (start ≤ at) × (0 < length levels) × (name ≡ []) × IsHeld block start at (stack_marks levels) 1

-- The levels are right, and their marks say how many they are.
pub record AreLevels (levels : List Level) : Type 0 where
  pub right : All IsLevel levels
  pub opened : AreOpen most_levels (stack_marks levels) (length levels)

pub record IsPlaced (block : ℕ) (s : Scanner) : Type 0 where
  pub place : IsPlacedAt block s.place s.at s.start s.levels.items s.name.items
  pub levels : AreLevels s.levels.items

-- a scanner before the first byte
pub record IsFresh (s : Scanner) : Type 0 where
  pub at : s.at ≡ 0
  pub outside : s.place ≡ place.Outside
  pub levels : s.levels.items ≡ []
  pub name : s.name.items ≡ []

-- the bytes of the tags and the texts that are held
abbrev pub held_bytes : Scanner → ℕ
held_bytes s = weight (stack_marks s.levels.items) + length s.name.items

-- A byte there gave what the machine gives.
abbrev pub StepsAt : Place → Limits → Scanner → ℕ → Result (Option Found) Stop → Scanner → Type 0
StepsAt place most old c (Ok found) new = next most record { at = old.at; out = []; mode = mode_at place old.start old.levels.items old.name.items } c ≡ scan_state new (map outer_of (option_to_list found))
StepsAt place most old c (Err stop.BadTag) new = next most record { at = old.at; out = []; mode = mode_at place old.start old.levels.items old.name.items } c ≡ record { at = new.at; out = []; mode = broken bad_tag new.at }
StepsAt place most old c (Err stop.TooDeep) new = next most record { at = old.at; out = []; mode = mode_at place old.start old.levels.items old.name.items } c ≡ record { at = new.at; out = []; mode = broken too_deep new.at }
StepsAt place most old c (Err stop.TooLong) new = next most record { at = old.at; out = []; mode = mode_at place old.start old.levels.items old.name.items } c ≡ record { at = new.at; out = []; mode = broken too_long new.at }
StepsAt place most old c (Err stop.OutOfMemory) new = Unit {0}

abbrev pub Steps : Limits → Scanner → ℕ → Result (Option Found) Stop → Scanner → Type 0
Steps most old c result new = StepsAt old.place most old c result new

-- The bytes took the machine from this state to that of a scanner and what it found, or to a fault.
abbrev pub Scans : Limits → State → List ℕ → Result (Unit {0}) Stop → Scanner → List Found → Type 0
Scans most from bytes (Ok u) new found = run most from bytes ≡ scan_state new (outers found)
Scans most from bytes (Err stop.BadTag) new found = run most from bytes ≡ record { at = new.at; out = outers found; mode = broken bad_tag new.at }
Scans most from bytes (Err stop.TooDeep) new found = run most from bytes ≡ record { at = new.at; out = outers found; mode = broken too_deep new.at }
Scans most from bytes (Err stop.TooLong) new found = run most from bytes ≡ record { at = new.at; out = outers found; mode = broken too_long new.at }
Scans most from bytes (Err stop.OutOfMemory) new found = Unit {0}

-- Where bytes are read that have no limit of length.

abbrev pub unbounded : Limits
unbounded = record { tag = longest_tag; levels = most_levels; block = 18446744073709551615; stream = 18446744073709551615 }

abbrev pub last_after : Outer → List Outer → Outer
last_after o [] = o
last_after o (p ∷ os) = last_after p os

abbrev pub last_outer : List Outer → Option Outer
last_outer [] = None
last_outer (o ∷ os) = Some (last_after o os)

-- the block, where it begins the bytes and ends them
abbrev pub filling : ℕ → Option Outer → Option Tree
filling size None = None
filling size (Some o) = cond (nat_eq o.start 0 && nat_eq o.stop size) (Some o.block) None

-- The bytes have no fault, and these are their outer blocks.
pub record FindsBlocks (s : List ℕ) (found : List Outer) : Type 0 where
  pub out : (run unbounded start_state s).out ≡ found
  pub alive : IsAlive (run unbounded start_state s).mode
