-- What the open levels of a scanner hold. Private contracts cite this.
use Rattle.std.specs.Prelude.{◌≡◌, ◌≤◌, ◌+◌, ℕ, Bool, true, false, List, [], ◌∷◌, ◌++◌, map, length}
use Rattle.std.specs.List.{flat_map}
use Rattle.block_tree.specs.inside.Marks.{Mark, open_mark, letter, close_mark}
use Rattle.block_tree.specs.inside.Nodes.{item_marks, is_plain_item, all_right, Tested}
use Rattle.block_tree.specs.Shape.{is_tag_name, longest_tag}
use Rattle.meta_format.specs.inside.Rows.{IsOpen}
use Rattle.meta_format.specs.declared.level.Level.{Level}

abbrev pub level_marks : Level → List Mark
level_marks l = open_mark l.tag.channel l.tag.name ∷ (flat_map item_marks l.items.items ++ map letter l.text.items)

abbrev pub stack_marks : List Level → List Mark
stack_marks = flat_map level_marks

abbrev pub tests_of : Level → List Tested
tests_of l = map is_plain_item l.items.items

-- whether the last one is a text, where the flag says it of what stands before
abbrev pub ends_in_text : Bool → List Tested → Bool
ends_in_text after [] = after
ends_in_text after (t ∷ ts) = ends_in_text t.0 ts

-- tag and items are right
pub record IsRight (l : Level) : Type 0 where
  pub tag : is_tag_name longest_tag l.tag.name ≡ true
  pub items : all_right false (tests_of l) ≡ true

-- the same, and a text may follow
pub record IsLevel (l : Level) : Type 0 where
  pub right : IsRight l
  pub no_text : ends_in_text false (tests_of l) ≡ false

-- so many levels are open after these marks
pub record AreOpen (most : ℕ) (ms : List Mark) (levels : ℕ) : Type 0 where
  pub open_marks : IsOpen most ms levels
  pub few : levels ≤ most

-- the bytes of the tags and the texts in a row of marks
abbrev pub weight : List Mark → ℕ
weight [] = 0
weight (open_mark channel name ∷ ms) = length name + weight ms
weight (letter c ∷ ms) = 1 + weight ms
weight (close_mark ∷ ms) = weight ms

-- The marks, and so many bytes more, are held of the bytes from the start of a block on, which are not too many.
pub record IsHeld (block start at : ℕ) (ms : List Mark) (more : ℕ) : Type 0 where
  pub bytes : start + weight ms + more ≤ at
  pub short : at ≤ start + block
