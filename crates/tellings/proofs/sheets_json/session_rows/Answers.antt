use Rattle.std.proofs.Common.{◌∙◌, map}
use Rattle.serde_json.specs.View.{view}
use Rattle.sheet_json.specs.Objects.{session_data}
use Rattle.tellings.specs.Json.{session_at}
use Rattle.tellings.proofs.Rows.{all_rows, map_twice}
use Rattle.tellings.proofs.sheets_json.session_rows.Goals as goal

pub returns : goal.returns
returns g c = λ w h.
    all_rows (λ s. session_data (session_at w s)) (map view c.loop-session.rows.items) c.loop-session.sessions c.args.sheet.now.contents.sessions c.in_default.ensures.steps.0 (c.loop-session.invariant w h)
    ∙ map_twice (session_at w) session_data c.args.sheet.now.contents.sessions
