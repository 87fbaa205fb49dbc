use Rattle.std.proofs.Common.{sym}
use Rattle.sheet_text.proofs.LastBytes.{last_byte_ends}
use Rattle.sheet_text.proofs.ends.text_end.Goals as goal

pub returns-in-Some : goal.returns-in-Some
returns-in-Some c = sym (last_byte_ends c.args.bytes.now c.args.before c.in-Some.byte.now c.last_printed.result (sym c.in-Some.ensures.value) c.last_printed.ensures)
