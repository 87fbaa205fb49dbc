-- What `blocks` writes of a stream: a line for each outer block, and one for its fault or its open tail.
use Rattle.std.specs.Prelude.{◌≡◌, ◌<◌, ◌≤◌, ℕ, Bool, List, [], ◌∷◌, ◌++◌, Option, IfSome, codes, length}
use Rattle.std.specs.Io.KnownBytes.{Appends}
use Rattle.std.specs.List.{flat_map}
use Rattle.std.specs.Fmt.{decimal}
use Rattle.meta_format.specs.Limits.{Limits, limits}
use Rattle.meta_format.specs.Stream.{Outer}
use Rattle.meta_format.specs.Faults.{Kind, bad_tag, too_deep, too_long}
use Rattle.offline_programs.specs.Input.{longest_standard_input}
use Rattle.sheet_text.specs.Blocks.{tree_text}
use Rattle.stream_json.specs.Streams.{StreamEnd, StreamHas, broken, inside, is_whole, outside}

-- 'START STOP', a space, the block with its tags
abbrev pub outer_line : Outer → List ℕ
outer_line outer = decimal outer.start ++ 32 ∷ (decimal outer.stop ++ 32 ∷ (tree_text outer.block ++ 10 ∷ []))

abbrev pub outer_lines : List Outer → List ℕ
outer_lines = flat_map outer_line

-- the number and the name of a fault
abbrev pub kind_text : Kind → List ℕ
kind_text bad_tag = codes "1 BadTag"
kind_text too_deep = codes "2 TooDeep"
kind_text too_long = codes "3 TooLong"

-- 'fault', the number and the name, the offset
abbrev pub named_fault_line : List ℕ → ℕ → List ℕ
named_fault_line name offset = codes "fault " ++ name ++ codes " " ++ decimal offset ++ 10 ∷ []

-- 'fault N NAME OFFSET'
abbrev pub fault_line : Kind → ℕ → List ℕ
fault_line kind offset = named_fault_line (kind_text kind) offset

-- 'unfinished START'
abbrev pub unfinished_line : ℕ → List ℕ
unfinished_line start = codes "unfinished " ++ decimal start ++ 10 ∷ []

-- what stands after the lines of the blocks
abbrev pub end_line : StreamEnd → List ℕ
end_line outside = []
end_line (inside start) = unfinished_line start
end_line (broken kind offset) = fault_line kind offset

-- The text of the stream, and whether the stream is whole: it has no fault, and no outer block is open at its end.
pub record Printed (most : Limits) (stream text : List ℕ) (is : Bool) : Type 0 where
  pub blocks : List Outer
  pub end : StreamEnd
  pub has : StreamHas most stream blocks end
  pub written : text ≡ outer_lines blocks ++ end_line end
  pub whole : is ≡ is_whole end

-- The text of a stream was written, after these bytes, and made them those; and whether the stream is whole.
abbrev pub IsPrinted : List ℕ → Option (List ℕ) → Option (List ℕ) → Bool → Type 0
IsPrinted stream before after whole = (text : List ℕ) × Printed limits stream text whole × Appends before after text

-- what a reader gives, where that is known, is no longer than a program takes
abbrev pub IsShortInput : Option (List ℕ) → Type 0
IsShortInput stream = IfSome stream (λ bytes. length bytes ≤ longest_standard_input)

-- and it is longer
abbrev pub IsLongInput : Option (List ℕ) → Type 0
IsLongInput stream = IfSome stream (λ bytes. longest_standard_input < length bytes)
