use Rattle.std.proofs.Common.{length}
use Rattle.sheet_json.proofs.Wholly.{Writing}
use Rattle.sheet_json.proofs.whole.push_fields.Given as goal

abbrev pub invariant-loop-field : goal.invariant-loop-field
invariant-loop-field l = Writing l.initial.bytes.items l.bytes.items l.fields l.sheet.contents.fields

abbrev pub decreases-loop-field : goal.decreases-loop-field
decreases-loop-field l = length l.fields
