use Rattle.std.proofs.Common.{◌≡◌, List, ◌++◌, length}
use Rattle.worksheet.specs.declared.field.Field.{Field}
use Rattle.session_engine.specs.World.{World}
use Rattle.session_engine.specs.Host.{IsHost}
use Rattle.tellings.specs.Json.{parts_text}
use Rattle.tellings.proofs.Rows.{Written}
use Rattle.tellings.proofs.sheets_json.write_parts.Given as goal

abbrev pub invariant-loop-field : goal.invariant-loop-field
invariant-loop-field g l =
    ((seen : List Field) × (seen ++ l.fields ≡ l.sheet.contents.fields))
    × ((w : World) → IsHost l.host w
    → Written (g.W.Write.contents l.initial.writer) (g.W.Write.contents l.writer) (parts_text l.line w l.fields) (parts_text l.line w l.sheet.contents.fields))

abbrev pub decreases-loop-field : goal.decreases-loop-field
decreases-loop-field g l = length l.fields
