use Rattle.std.proofs.Common.{◌≡◌, take}
use Rattle.field_agenda.specs.Standing.{lasts_after}
use Rattle.field_agenda.proofs.asking.lasts_after.Given as goal

abbrev pub invariant-loop-id : goal.invariant-loop-id
invariant-loop-id l = l.asked.items ≡ lasts_after l.lasts l.sheet.contents.fields (take l.id-index l.group)
