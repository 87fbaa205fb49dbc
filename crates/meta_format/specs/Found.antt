-- What a reader found, in the words of a stream.
use Rattle.std.specs.Prelude.{List, map}
use Rattle.meta_format.specs.Stream.{Outer}
use Rattle.meta_format.specs.declared.scan.Found.{Found}

-- what a reader found, as an outer block
abbrev pub outer_of : Found → Outer
outer_of f = record { start = f.start; stop = f.stop; block = f.block }

abbrev pub outers : List Found → List Outer
outers = map outer_of
