use Rattle.std.proofs.Common.{◌≡◌, ◌++◌, length, map}
use Rattle.serde_json.specs.View.{view}
use Rattle.session_engine.specs.World.{World}
use Rattle.session_engine.specs.Host.{IsHost}
use Rattle.sheet_json.specs.Objects.{session_data}
use Rattle.tellings.specs.Json.{session_at}
use Rattle.tellings.proofs.sheets_json.session_rows.Given as goal

abbrev pub invariant-loop-session : goal.invariant-loop-session
invariant-loop-session g l =
    (w : World) → IsHost l.host w
    → map view l.rows.items ++ map (λ s. session_data (session_at w s)) l.sessions ≡ map (λ s. session_data (session_at w s)) l.sheet.contents.sessions

abbrev pub decreases-loop-session : goal.decreases-loop-session
decreases-loop-session g l = length l.sessions
