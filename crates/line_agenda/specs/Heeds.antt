-- What an agenda of lines makes of what came. (docs/use/SCRIPT.md, "Live".)
use Rattle.std.specs.Prelude.{◌≡◌, ◌≢◌, ◌⊎◌, ℕ, ◌&&◌, ◌||◌, not, Bool, true, false, List, [], ◌∷◌, Option, Some, None}
use Rattle.std.specs.List.{list_any}
use Rattle.session_engine.specs.World.{World}
use Rattle.session_engine.specs.Groups.{is_refusal}
use Rattle.child_calls.specs.declared.seat.Seat.{Seat}
use Rattle.child_edge.specs.Seats.{waits}
use Rattle.child_edge.specs.declared.interrupting.Interrupted.{Interrupted}
use Rattle.live.specs.Wrong.{is_wrong}
use Rattle.tellings.specs.declared.note.Note.{Note}
use Rattle.tellings.specs.declared.note.Note.TheVariants as note
use Rattle.live.specs.declared.holding.Hold.{Hold}
use Rattle.live.specs.declared.holding.Hold.TheVariants as hold
use Rattle.live.specs.Saying.{has_closed, has_limit, is_held, stop_if}
use Rattle.driver.specs.Reports.{TurnCame}
use Rattle.line_agenda.specs.declared.doing.Doing.{Doing}
use Rattle.line_agenda.specs.declared.doing.Doing.TheVariants as doing
use Rattle.line_agenda.specs.Waits.{begun_again, warned}
use Rattle.line_agenda.specs.LinesAt.{LinesAt}
use Rattle.line_agenda.specs.Transactions.{transaction_note}

-- something was refused, or items were lost
abbrev pub went_wrong : TurnCame → Bool
went_wrong c = list_any (λ o. is_wrong o.reply) c.outcomes || list_any is_wrong c.replies

-- a command was refused
abbrev pub refused_one : TurnCame → Bool
refused_one c = list_any is_refusal c.outcomes

-- something closed: a banner, an answer, or completions
abbrev pub closed_one : TurnCame → Bool
closed_one c = list_any (λ o. has_closed o.reply) c.outcomes || list_any has_closed c.replies

-- that the wait of this line is over is noted where it was one and isn't any more
abbrev pub over_if : ℕ → Bool → Option Note
over_if number true = Some (note.Waited number false)
over_if number false = None

abbrev pub over_note : ℕ → Hold → Hold → Option Note
over_note number before following = over_if number (is_held before && not (is_held following))

-- what came of an interrupt is noted
abbrev pub interrupt_note : (Interrupted → Note) → Option Interrupted → Option Note
interrupt_note of None = None
interrupt_note of (Some reported) = Some (of reported)

-- The wait after what lives gave: it goes on as long as an item waits for an answer. Where something closed, the next line of that session was
-- sent, so the time of a line begins again.
abbrev pub LifeGoesOn : Option ℕ → World → ℕ → Bool → Hold → Hold → Type 0
LifeGoesOn limit w now closed held following =
    ((waits w ≡ []) × (following ≡ hold.Free)) ⊎ ((waits w ≢ []) × (following ≡ begun_again limit now (has_limit held && closed) held))

-- the wait after an interrupt of a life whose time is over: after the last one there are two seconds more, and a strict input stops
abbrev pub after_warning : Bool → ℕ → List Seat → Hold → Hold
after_warning strict now [] held = stop_if (strict && true) (warned now)
after_warning strict now (seat ∷ rest) held = held

-- What is noted of what came, and which wait goes on then, by what was done.
abbrev pub HeedsDone : LinesAt → World → ℕ → TurnCame → Doing → Option Note → Hold → Type 0
HeedsDone a w now c doing.Nothing n held = (n ≡ None) × (held ≡ a.held)
HeedsDone a w now c (doing.Line wrong) n held = (n ≡ None) × (held ≡ stop_if (a.manner.strict && wrong) a.held)
HeedsDone a w now c (doing.Interrupt name wrong) n held =
    (n ≡ interrupt_note (note.Interrupted a.number name) c.interrupted) × (held ≡ stop_if (a.manner.strict && wrong) a.held)
HeedsDone a w now c doing.Commands n held = (n ≡ None) × (held ≡ stop_if (a.manner.strict && went_wrong c) a.held)
HeedsDone a w now c (doing.Transaction first) n held =
    (n ≡ Some (transaction_note first a.number (refused_one c))) × (held ≡ stop_if (a.manner.strict && refused_one c) a.held)
HeedsDone a w now c doing.Life n held =
    (on : Hold) × LifeGoesOn a.manner.limit w now (closed_one c) a.held on × (n ≡ over_note a.number a.held on)
    × (held ≡ stop_if (a.manner.strict && went_wrong c) on)
HeedsDone a w now c (doing.Warning seat) n held =
    (n ≡ interrupt_note (note.Warned seat) c.interrupted) × (held ≡ after_warning a.manner.strict now a.late a.held)
HeedsDone a w now c doing.Stall n held =
    (n ≡ Some (note.Waited a.number true)) × (held ≡ stop_if (a.manner.strict && went_wrong c) hold.Free)

-- It heeds what came.
abbrev pub LinesHeed : LinesAt → World → ℕ → TurnCame → Option Note → LinesAt → Type 0
LinesHeed a w now c n b = (held : Hold) × HeedsDone a w now c a.doing n held × (b ≡ record a { held = held; doing = doing.Nothing })
