use Rattle.std.proofs.Common.{◌≡◌, ◌<◌, ◌+◌, ◌^◌, length}
use Rattle.field_agenda.proofs.bounds.has_few_fields.Given as goal

abbrev pub invariant-loop-field : goal.invariant-loop-field
invariant-loop-field l = record {
  counted : l.count + length l.field-iterator ≡ length l.sheet.contents.fields;
  few : l.count < 2 ^ 31;
}
