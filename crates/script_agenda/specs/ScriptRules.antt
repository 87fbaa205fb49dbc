-- What an agenda of a script may do.
use Rattle.std.specs.Prelude.{◌≡◌, ℕ, ◌-◌, ◌||◌, Bool, List, [], Option, None, length}
use Rattle.std.specs.List.{list_any}
use Rattle.host_events.specs.declared.event.Event.{Event}
use Rattle.session_engine.specs.World.{World}
use Rattle.arrivals.specs.declared.sources.Woken.{Woken}
use Rattle.live.specs.Wrong.{is_wrong}
use Rattle.tellings.specs.declared.note.Note.{Note}
use Rattle.driver.specs.Place.{AgendaRules, agenda_rules, action_rules}
use Rattle.driver.specs.Reports.{TurnCame}
use Rattle.script_agenda.specs.Says.{ScriptSays}
use Rattle.script_agenda.specs.ScriptAt.{ScriptAt}

-- No line joins what lives gave.
abbrev pub ScriptJoins : ScriptAt → World → Option ℕ → List Event → ScriptAt → Type 0
ScriptJoins a w first more b = (first ≡ None) × (more ≡ []) × (b ≡ a)

-- It watches nothing.
abbrev pub ScriptWoken : ScriptAt → Woken → ScriptAt → Type 0
ScriptWoken a woken b = b ≡ a

-- a command was refused, or items were lost
abbrev pub goes_wrong_by : TurnCame → Bool
goes_wrong_by c = list_any (λ o. is_wrong o.reply) c.outcomes

abbrev pub taken_of : TurnCame → ℕ
taken_of c = length c.outcomes

-- The lines of a group that weren't taken, since one before them was refused, aren't counted.
abbrev pub after_heeding : ScriptAt → TurnCame → ScriptAt
after_heeding a c = record a { number = a.number - (a.group - taken_of c); group = 0; wrong = a.wrong || goes_wrong_by c }

-- It notes nothing of what came.
abbrev pub ScriptHeeds : ScriptAt → World → ℕ → TurnCame → Option Note → ScriptAt → Type 0
ScriptHeeds a w now c n b = (n ≡ None) × (b ≡ after_heeding a c)

abbrev pub script_rules : AgendaRules ScriptAt
script_rules = agenda_rules (action_rules ScriptSays ScriptWoken ScriptHeeds) ScriptJoins
