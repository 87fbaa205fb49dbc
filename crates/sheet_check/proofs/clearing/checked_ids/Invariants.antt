use Rattle.std.proofs.Common.{◌≡◌, ◌++◌}
use Rattle.sheet_check.specs.Together.{checked_ids}
use Rattle.sheet_check.proofs.clearing.checked_ids.Given as goal

abbrev pub invariant-loop-field : goal.invariant-loop-field
invariant-loop-field l = record {
  puts : l.ids.items ++ checked_ids l.fn.chosen l.fields ≡ checked_ids l.fn.chosen l.fn.sheet.contents.fields;
}
