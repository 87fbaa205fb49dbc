use Rattle.std.proofs.Common.{◌≡◌}
use Rattle.sheet_check.specs.Together.{cleared}
use Rattle.sheet_check.proofs.clearing.clear_fields.Given as goal

abbrev pub invariant-loop-field : goal.invariant-loop-field
invariant-loop-field g l = record {
  clears : cleared l.fn.chosen l.fields l.store.sheet.contents ≡ cleared l.fn.chosen l.fn.sheet.contents.fields l.fn.store.sheet.contents;
}
