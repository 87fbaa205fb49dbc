use Rattle.std.proofs.Common.{length}
use Rattle.sheet_json.specs.inside.Rows.{still_data}
use Rattle.sheet_json.proofs.Lists.{AreBefore}
use Rattle.sheet_json.proofs.sheets.sessions_row.Given as goal

abbrev pub invariant-loop-session : goal.invariant-loop-session
invariant-loop-session l = AreBefore still_data l.values.items l.sessions l.sheet.contents.sessions

abbrev pub decreases-loop-session : goal.decreases-loop-session
decreases-loop-session l = length l.sessions
