-- Which pieces of an interpreter's output are written out before its block is complete. (docs/use/PROTOCOL.md.)
use Rattle.std.specs.Prelude.{ℕ, ◌==◌, Bool, List, [], if◌then◌else◌}
use Rattle.std.specs.List.{list_any}
use Rattle.sheet_json.specs.Sheets.{telling_line}
use Rattle.sheet_json.specs.Tellings as reported

-- the byte DATA_END of the protocol
abbrev pub is_end : ℕ → Bool
is_end byte = byte == 5

-- a byte stands in these that ends a block, or would if none escaped it
abbrev pub has_end : List ℕ → Bool
has_end bytes = list_any is_end bytes

-- the line of these, which the interpreter of the life with this number in this session wrote (docs/use/JSON.md)
unfoldable pub partial_text : List ℕ → ℕ → List ℕ → List ℕ
partial_text name life bytes = telling_line (reported.event name life (reported.partial bytes))

-- what is written out of a piece: its line, or nothing where a byte stands in it that ends a block
abbrev pub reported_text : List ℕ → ℕ → List ℕ → List ℕ
reported_text name life bytes = if has_end bytes then [] else partial_text name life bytes
