-- What an agenda of lines may do.
use Rattle.std.specs.Prelude.{◌≡◌, ℕ, List, [], Option, None}
use Rattle.host_events.specs.declared.event.Event.{Event}
use Rattle.session_engine.specs.World.{World}
use Rattle.driver.specs.Place.{AgendaRules, agenda_rules, action_rules}
use Rattle.line_agenda.specs.LinesAt.{LinesAt}
use Rattle.line_agenda.specs.Says.{LinesSay, LinesWoken}
use Rattle.line_agenda.specs.Heeds.{LinesHeed}

-- No line joins what lives gave: it is read when that is durable.
abbrev pub LinesJoin : LinesAt → World → Option ℕ → List Event → LinesAt → Type 0
LinesJoin a w first more b = (first ≡ None) × (more ≡ []) × (b ≡ a)

-- It says what is next, is given whose turn it is, and heeds what came.
abbrev pub lines_rules : AgendaRules LinesAt
lines_rules = agenda_rules (action_rules LinesSay LinesWoken LinesHeed) LinesJoin
