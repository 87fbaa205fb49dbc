-- What an agenda of fields makes of what came. (docs/use/EVAL.md.)
use Rattle.std.specs.Prelude.{◌≡◌, ◌&&◌, ℕ, Bool, not, Option, None, if◌then◌else◌}
use Rattle.session_engine.specs.World.{World}
use Rattle.tellings.specs.declared.note.Note.{Note}
use Rattle.tellings.specs.declared.note.Note.TheVariants as note
use Rattle.live.specs.declared.holding.Hold.{Hold}
use Rattle.live.specs.declared.holding.Hold.TheVariants as hold
use Rattle.live.specs.Arrivals.{respite}
use Rattle.live.specs.Saying.{WaitGoesOn, is_held, seconds_from}
use Rattle.driver.specs.Reports.{TurnCame}
use Rattle.line_agenda.specs.Heeds.{closed_one, interrupt_note}
use Rattle.evaluation.specs.declared.plan.Stand.{Stand}
use Rattle.field_agenda.specs.declared.by_fields.ByFields.{ByFields}
use Rattle.field_agenda.specs.declared.stage.FieldDoing.{FieldDoing}
use Rattle.field_agenda.specs.declared.stage.FieldDoing.TheVariants as doing
use Rattle.field_agenda.specs.Standing.{does_at, limit_begun, waiting_so}

-- The wait of fields after what came. Where something closed, as the banner of an interpreter that was started for one of them, the line of that session
-- was sent, so their time begins again. After an interrupt it doesn't.
abbrev pub waited : Option ℕ → Stand → ℕ → Bool → Hold
waited limit s now closed = if is_held s.held && (closed && not s.warned) then limit_begun limit now else s.held

-- The wait that goes on, by what was done: for the fields that were asked one begins, which is over where no item waits; after an interrupt there are two
-- seconds more; and where those are over none goes on.
abbrev pub WaitAfter : FieldDoing → Option ℕ → World → ℕ → Hold → Hold → Type 0
WaitAfter doing.Nothing limit w now held following = following ≡ held
WaitAfter doing.Ask limit w now held following = WaitGoesOn (limit_begun limit now) w following
WaitAfter doing.Life limit w now held following = WaitGoesOn held w following
WaitAfter (doing.Over id) limit w now held following = following ≡ hold.Until (seconds_from now respite)
WaitAfter doing.Stall limit w now held following = following ≡ hold.Free

-- whether no item waited right after the last fields were asked
abbrev pub at_once_after : FieldDoing → Bool → Hold → Bool
at_once_after doing.Nothing before held = before
at_once_after doing.Ask before held = not (is_held held)
at_once_after doing.Life before held = before
at_once_after (doing.Over id) before held = before
at_once_after doing.Stall before held = before

-- what is noted: what came of the interrupt for a field whose time is over
abbrev pub noted_of : FieldDoing → TurnCame → Option Note
noted_of doing.Nothing c = None
noted_of doing.Ask c = None
noted_of doing.Life c = None
noted_of (doing.Over id) c = interrupt_note (note.Over id) c.interrupted
noted_of doing.Stall c = None

-- It heeds what came.
abbrev pub FieldsHeed : {P : Type 0} → ByFields P → World → ℕ → TurnCame → Option Note → ByFields P → Type 0
FieldsHeed a w now c n b = (held : Hold) × WaitAfter a.doing a.plan.limit w now (waited a.plan.limit a.stand now (closed_one c)) held × (n ≡ noted_of a.doing c)
    × (b ≡ does_at a doing.Nothing (waiting_so a.stand held (at_once_after a.doing a.stand.at_once held)))
