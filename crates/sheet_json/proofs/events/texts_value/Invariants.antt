use Rattle.std.proofs.Common.{take}
use Rattle.sheet_json.specs.Bytes.{bytes_data}
use Rattle.sheet_json.proofs.Lists.{AreOf}
use Rattle.sheet_json.proofs.events.texts_value.Given as goal

abbrev pub invariant-loop-text : goal.invariant-loop-text
invariant-loop-text l = AreOf bytes_data l.values.items (take l.text-index l.texts)
