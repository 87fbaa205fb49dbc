use Rattle.std.proofs.Common.{length}
use Rattle.sheet_json.specs.inside.Rows.{id_data}
use Rattle.sheet_json.proofs.Lists.{AreBefore}
use Rattle.sheet_json.proofs.sheets.ids_row.Given as goal

abbrev pub invariant-loop-field : goal.invariant-loop-field
invariant-loop-field l = AreBefore id_data l.values.items l.fields l.sheet.contents.fields

abbrev pub decreases-loop-field : goal.decreases-loop-field
decreases-loop-field l = length l.fields
