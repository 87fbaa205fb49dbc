use Rattle.std.proofs.Common.{◌≡◌, take}
use Rattle.std.specs.List.{list_all}
use Rattle.worksheet.specs.inside.Words.{is_input_byte}
use Rattle.worksheet.proofs.check.are_input_bytes.Given as goal

abbrev pub invariant-loop-byte : goal.invariant-loop-byte
invariant-loop-byte l = l.are ≡ list_all is_input_byte (take l.byte-index l.bytes)
