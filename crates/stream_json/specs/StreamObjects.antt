-- What `blocks --json` writes of a stream. (docs/use/JSON.md.)
use Rattle.std.specs.Prelude.{◌≡◌, ◌⊎◌, ℕ, Bool, List, [], ◌∷◌, ◌++◌, Option, Some, None, codes, map}
use Rattle.std.specs.Io.KnownBytes.{Appends}
use Rattle.std.specs.List.{flat_map}
use Rattle.block_tree.specs.Output.{output, text_on_channel}
use Rattle.meta_format.specs.Faults.{Kind, bad_tag, too_deep, too_long}
use Rattle.meta_format.specs.Limits.{Limits}
use Rattle.meta_format.specs.Stream.{Outer}
use Rattle.offline_programs.specs.declared.fault.RunFault.{RunFault}
use Rattle.offline_programs.specs.declared.fault.RunFault.TheVariants as fault
use Rattle.serde_json.specs.Data.{Data, object, member}
use Rattle.sheet_json.specs.Blocks.{tree_data}
use Rattle.sheet_json.specs.Lines.{json_line}
use Rattle.sheet_json.specs.Objects.{count, shown_data, telling_data, text_or_null, typed}
use Rattle.sheet_json.specs.Tellings as reported
use Rattle.stream_json.specs.Streams.{StreamEnd, StreamHas, broken, inside, is_whole, outside}

-- An outer block: its offsets, the block with all its tags, and these parts of it.
abbrev pub outer_with : Outer → Data → Data → Data → Data → Data
outer_with o default kept prompt shown = object (member (codes "block") (tree_data o.block) (member (codes "default") default (member (codes "output") kept (member (codes "prompt") prompt (member (codes "shown") shown
    (member (codes "start") (count o.start) (member (codes "stop") (count o.stop) (typed (codes "block")))))))))

-- The parts are what a host takes of it as an answer: its default input, the output, the text of its prompt, and the output as it is shown.
abbrev pub outer_data : Outer → Data
outer_data o = outer_with o (text_or_null (text_on_channel (codes "input") o.block)) (tree_data (output o.block)) (text_or_null (text_on_channel (codes "prompt") o.block)) (shown_data (output o.block))

abbrev pub unfinished_data : ℕ → Data
unfinished_data start = object (member (codes "start") (count start) (typed (codes "unfinished")))

abbrev pub kind_number : Kind → ℕ
kind_number bad_tag = 1
kind_number too_deep = 2
kind_number too_long = 3

abbrev pub kind_named : Kind → List ℕ
kind_named bad_tag = codes "BadTag"
kind_named too_deep = codes "TooDeep"
kind_named too_long = codes "TooLong"

-- what stands after the blocks
abbrev pub end_data : StreamEnd → List Data
end_data outside = telling_data reported.end ∷ []
end_data (inside start) = unfinished_data start ∷ telling_data reported.end ∷ []
end_data (broken kind at) = telling_data (reported.fault (kind_number kind) (kind_named kind) (Some at)) ∷ []

-- the objects of a stream after `hello`, in order
abbrev pub later_objects : List Outer → StreamEnd → List Data
later_objects blocks end = map outer_data blocks ++ end_data end

-- all its objects: first `hello`, then these
abbrev pub stream_objects : List Outer → StreamEnd → List Data
stream_objects blocks end = telling_data reported.hello ∷ later_objects blocks end

abbrev pub objects_text : List Outer → StreamEnd → List ℕ
objects_text blocks end = flat_map json_line (stream_objects blocks end)

-- these objects of this stream were written, and whether it is whole
abbrev pub ObjectsOf : Limits → List ℕ → Option (List ℕ) → Option (List ℕ) → Bool → Type 0
ObjectsOf most stream old new is =
    (blocks : List Outer) × (end : StreamEnd) × StreamHas most stream blocks end × Appends old new (objects_text blocks end) × (is ≡ is_whole end)

-- why an object isn't written: the writer failed, or there was no memory for it
abbrev pub IsUnwritten : RunFault → Type 0
IsUnwritten why = (why ≡ fault.Output) ⊎ (why ≡ fault.OutOfMemory)
