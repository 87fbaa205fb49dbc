-- What a reader knows after each byte. `ReaderHasRead` carries it for the proof alone: what a reader stands for is said by its stream, fault, offset and pending.
use Rattle.std.specs.Prelude.{ℕ, zero, suc, ◌+◌, Bool, cond, ◌||◌, ◌&&◌, nat_eq, nat_le, nat_lt, not, List, [], ◌∷◌, ◌++◌, length, Option, Some, None}
use Rattle.block_tree.specs.inside.Marks.{Mark, open_mark, letter, close_mark}
use Rattle.meta_format.specs.Limits.{Limits}
use Rattle.meta_format.specs.Spelling.{is_special, is_separator}
use Rattle.block_tree.specs.inside.Marks.{tree_from}
use Rattle.meta_format.specs.Stream.{Outer}
use Rattle.meta_format.specs.Faults.{Kind, bad_tag, too_deep, too_long}

pub data Mode : Type 0 where
  outside : Mode
  -- where the outer block starts, the marks before this tag, the levels that are open, the name so far
  tag_of : ℕ → List Mark → ℕ → List ℕ → Mode
  -- where it starts, its marks so far, the levels inside the outermost
  body_of : ℕ → List Mark → ℕ → Mode
  escape_of : ℕ → List Mark → ℕ → Mode
  broken : Kind → ℕ → Mode

pub record State : Type 0 where
  pub at : ℕ
  pub out : List Outer
  pub mode : Mode

abbrev pub start_state : State
start_state = record { at = 0; out = []; mode = outside }

abbrev pub is_bad_tag : ℕ → List ℕ → ℕ → Bool
is_bad_tag most name c = nat_lt c 32 || (is_separator c && nat_eq (length name) 0) || (not (is_separator c) && nat_eq (length name) most)

-- whether the byte at this offset can only be one too many, if it does not close the block
abbrev pub is_late : Limits → ℕ → ℕ → Bool
is_late most start at = nat_le most.stream at || nat_le (most.block + start) (suc at)

-- what a byte does
pub data Change : Type 0 where
  halts : Kind → Change
  turns : Mode → Change
  -- the block that starts there is whole
  ends : ℕ → List Mark → Change
  stays : Change

abbrev pub unless_late : Limits → ℕ → ℕ → Mode → Change
unless_late most start at mode = cond (is_late most start at) (halts too_long) (turns mode)

abbrev pub closing : Limits → ℕ → ℕ → List Mark → ℕ → Change
closing most at start ms zero = cond (nat_le most.stream at) (halts too_long) (ends start (ms ++ close_mark ∷ []))
closing most at start ms (suc d) = unless_late most start at (body_of start (ms ++ close_mark ∷ []) d)

abbrev pub after : Limits → ℕ → Mode → ℕ → Change
after most at outside c = cond (nat_le most.stream at) (halts too_long) (turns (cond (nat_eq c 2) (tag_of at [] 0 []) outside))
after most at (tag_of start ms levels name) c =
    cond (is_bad_tag most.tag name c) (halts bad_tag)
    (unless_late most start at (cond (is_separator c) (body_of start (ms ++ open_mark (nat_eq c 35) name ∷ []) levels) (tag_of start ms levels (name ++ c ∷ []))))
after most at (body_of start ms d) c =
    cond (nat_eq c 2) (cond (nat_le most.levels (suc d)) (halts too_deep) (unless_late most start at (tag_of start ms (suc d) [])))
    (cond (nat_eq c 5) (closing most at start ms d)
    (unless_late most start at (cond (nat_eq c 27) (escape_of start ms d) (body_of start (ms ++ letter c ∷ []) d))))
after most at (escape_of start ms d) c =
    unless_late most start at (body_of start (ms ++ cond (is_special c) (letter c ∷ []) (letter 27 ∷ letter c ∷ [])) d)
after most at (broken kind f) c = stays

abbrev pub apply : State → Change → State
apply q (halts kind) = record { at = q.at; out = q.out; mode = broken kind q.at }
apply q (turns mode) = record { at = suc q.at; out = q.out; mode = mode }
apply q (ends start ms) = record { at = suc q.at; out = q.out ++ record { start = start; stop = suc q.at; block = tree_from ms } ∷ []; mode = outside }
apply q stays = q

abbrev pub next : Limits → State → ℕ → State
next most q c = apply q (after most q.at q.mode c)

abbrev pub run : Limits → State → List ℕ → State
run most q [] = q
run most q (c ∷ s) = run most (next most q c) s

-- where the block starts that is open
abbrev pub begun : Mode → Option ℕ
begun outside = None
begun (tag_of start ms levels name) = Some start
begun (body_of start ms d) = Some start
begun (escape_of start ms d) = Some start
begun (broken kind f) = None

abbrev pub IsAlive : Mode → Type 0
IsAlive outside = Unit {0}
IsAlive (tag_of start ms levels name) = Unit {0}
IsAlive (body_of start ms d) = Unit {0}
IsAlive (escape_of start ms d) = Unit {0}
IsAlive (broken kind f) = ⊥
