-- Laws of the definitions.
use Rattle.std.specs.Prelude.{◌≡◌, List, Option, Some, codes, option_map, true}
use Rattle.std.specs.List.{AllByRecursion}
use Rattle.block_tree.specs.Shape.{is_block}
use Rattle.meta_format.specs.Stream.{Outer}
use Rattle.serde_json.specs.Data.{Data}
use Rattle.sheet_json.specs.Lines.{IsOneLine, json_line}
use Rattle.sheet_json.specs.Plain.{Is64, IsPlain}
use Rattle.sheet_json.specs.Reading.{tree_in, HasBytes}
use Rattle.sheet_json.specs.Reported.{count_in, member_in, of}
use Rattle.stream_json.specs.Streams.{StreamEnd, broken, inside, outside}
use Rattle.stream_json.specs.StreamObjects.{outer_data, stream_objects}

-- an outer block, by its members; the others are parts of its block
abbrev pub outer_in : Data → Option Outer
outer_in d = of (of (option_map (λ start stop block. record { start = start; stop = stop; block = block }) (member_in count_in (codes "start") d)) (member_in count_in (codes "stop") d)) (member_in tree_in (codes "block") d)

-- An outer block reads back, with all its tags and texts: so two of them have one object only where they are equal.
abbrev pub OutersReadBack : Type 0
OutersReadBack = (o : Outer) → HasBytes o.block → outer_in (outer_data o) ≡ Some o

-- offsets of 64 bits, and a block
abbrev pub IsSoundOuter : Outer → Type 0
IsSoundOuter o = Is64 o.start × Is64 o.stop × (is_block o.block ≡ true)

abbrev pub IsSoundEnd : StreamEnd → Type 0
IsSoundEnd outside = Unit {0}
IsSoundEnd (inside start) = Is64 start
IsSoundEnd (broken kind at) = Is64 at

-- Each object of a stream is one line, whatever an interpreter wrote. It has no float and no number of more than 64 bits, and nests 67
-- deep at most, so it reads back.
abbrev pub StreamsAreLines : Type 0
StreamsAreLines = (blocks : List Outer) (end : StreamEnd) → AllByRecursion IsSoundOuter blocks → IsSoundEnd end → AllByRecursion (λ d. IsPlain 67 d × IsOneLine (json_line d)) (stream_objects blocks end)
