use Rattle.std.proofs.Common.{take}
use Rattle.sheet_json.specs.Objects.{lost_data}
use Rattle.sheet_json.proofs.Lists.{AreOf}
use Rattle.sheet_json.proofs.events.losts_value.Given as goal

abbrev pub invariant-loop-place : goal.invariant-loop-place
invariant-loop-place l = AreOf lost_data l.values.items (take l.place l.lost)
