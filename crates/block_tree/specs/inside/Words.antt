-- Names for parts of definitions, which proofs and private clauses use.
use Rattle.std.specs.Prelude.{ℕ, false, List, codes, Option}
use Rattle.std.specs.Option.{option_or}
use Rattle.block_tree.specs.Tree.{Tree, end}

-- an empty block of the format 'verbatim'
abbrev pub no_output : Tree
no_output = record { channel = false; name = codes "verbatim"; items = end }

abbrev pub or_else : Option (List ℕ) → Option (List ℕ) → Option (List ℕ)
or_else first second = option_or first second
