use Rattle.std.proofs.Common.{length, string_bytes}
use Rattle.sheet_notebook.specs.Strings.{string_after, string_of}
use Rattle.sheet_notebook.proofs.Adding.{Adding}
use Rattle.sheet_notebook.proofs.strings.push_text.Given as goal

abbrev pub invariant-loop-byte : goal.invariant-loop-byte
invariant-loop-byte l = Adding (string_bytes l.initial.text) (string_bytes l.text) (string_after l.keeps_lines l.left l.rest) (string_of l.keeps_lines l.bytes)

abbrev pub decreases-loop-byte : goal.decreases-loop-byte
decreases-loop-byte l = length l.rest
