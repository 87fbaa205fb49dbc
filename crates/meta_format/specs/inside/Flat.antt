-- What offsets alone say of the machine, over a stream that is held whole. Private contracts cite this.
use Rattle.std.specs.Prelude.{◌≡◌, ◌≤◌, ◌<◌, ◌+◌, ℕ, Bool, true, List, [], ◌∷◌, ◌++◌, length, drop}
use Rattle.std.specs.List.{list_all}
use Rattle.block_tree.specs.Shape.{is_tag_byte}
use Rattle.block_tree.specs.Tree.{Tree}
use Rattle.block_tree.specs.inside.Marks.{Mark}
use Rattle.meta_format.specs.Limits.{Limits}
use Rattle.meta_format.specs.Spelling.{separator}
use Rattle.meta_format.specs.Faults.{Kind}
use Rattle.meta_format.specs.inside.Machine.{Mode, outside, tag_of, body_of, escape_of, broken, State, run}

-- the machine at an offset where no block is open
abbrev pub outside_at : ℕ → State
outside_at at = record { at = at; out = []; mode = outside }

-- The bytes between the two offsets took the machine, which was outside, to this state.
pub record Takes (most : Limits) (s : List ℕ) (from at : ℕ) (q : State) : Type 0 where
  pub piece : List ℕ
  pub split : drop from s ≡ piece ++ drop at s
  pub ran : run most (outside_at from) piece ≡ q

-- the machine after the one block that it has found
abbrev pub closed_at : ℕ → ℕ → Tree → State
closed_at start stop b = record { at = stop; out = record { start = start; stop = stop; block = b } ∷ []; mode = outside }

-- They closed no block, and led there.
abbrev pub ComesTo : Limits → List ℕ → ℕ → ℕ → Mode → Type 0
ComesTo most s from at mode = Takes most s from at record { at = at; out = []; mode = mode }

-- The byte at this offset is a fault.
abbrev pub Breaks : Limits → List ℕ → ℕ → ℕ → Kind → Type 0
Breaks most s from at kind = run most (outside_at from) (drop from s) ≡ record { at = at; out = []; mode = broken kind at }

-- After a 2, with so many levels open.
abbrev pub AtTag : Limits → List ℕ → ℕ → ℕ → ℕ → Type 0
AtTag most s start at levels = (marks : List Mark) × ComesTo most s start at (tag_of start marks levels [])

-- In a body, so many levels inside the outermost.
abbrev pub InBody : Limits → List ℕ → ℕ → ℕ → ℕ → Type 0
InBody most s start at d = (marks : List Mark) × ComesTo most s start at (body_of start marks d)

-- After a 27 in a body.
abbrev pub InEscape : Limits → List ℕ → ℕ → ℕ → ℕ → Type 0
InEscape most s start at d = (marks : List Mark) × ComesTo most s start at (escape_of start marks d)

-- From at to end stand bytes of a tag, not too many.
abbrev pub NameUpTo : ℕ → List ℕ → ℕ → ℕ → Type 0
NameUpTo most s at end = (name : List ℕ) × (list_all is_tag_byte name ≡ true) × (length name ≤ most) × (drop at s ≡ name ++ drop end s) × (at + length name ≡ end)

-- From at to end stand a name that is not empty, and its separator.
abbrev pub TagUpTo : ℕ → List ℕ → ℕ → ℕ → Type 0
TagUpTo most s at end = (name : List ℕ) × (channel : Bool) × (list_all is_tag_byte name ≡ true) × (0 < length name) × (length name ≤ most)
    × (drop at s ≡ name ++ separator channel ∷ drop end s) × (at + length name + 1 ≡ end)
