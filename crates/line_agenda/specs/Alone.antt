-- What a line asks for by itself. (docs/use/SCRIPT.md, "Live".)
use Rattle.std.specs.Prelude.{◌≡◌, ◌≢◌, ◌⊎◌, ℕ, true, false, List, [], ◌∷◌, Option, Some, None}
use Rattle.std.specs.declared.alloc.Global.{Global}
use Rattle.std.specs.declared.vec.Vec.{Vec}
use Rattle.host_events.specs.declared.command.Command.{Command}
use Rattle.host_events.specs.declared.event.Event.{Event}
use Rattle.host_events.specs.declared.event.Event.TheVariants as event
use Rattle.session_engine.specs.Gathers.{is_checkpoint}
use Rattle.session_engine.specs.World.{World}
use Rattle.child_edge.specs.Seats.{waits}
use Rattle.tellings.specs.declared.note.Note.TheVariants as note
use Rattle.sheet_text.specs.declared.script.ScriptLine.TheVariants as line
use Rattle.live.specs.declared.live_line.LiveLine.{LiveLine}
use Rattle.live.specs.declared.live_line.LiveLine.TheVariants as live
use Rattle.live.specs.declared.holding.Hold.{Hold}
use Rattle.live.specs.declared.holding.Hold.TheVariants as hold
use Rattle.live.specs.declared.manner.Manner.{Manner}
use Rattle.live.specs.Saying.{asks_in_vain}
use Rattle.driver.specs.declared.report.Show.TheVariants as show
use Rattle.driver.specs.declared.action.Action.{Action}
use Rattle.driver.specs.declared.action.Action.TheVariants as action
use Rattle.line_agenda.specs.declared.doing.LineChoice.{LineChoice}
use Rattle.line_agenda.specs.declared.doing.Doing.TheVariants as doing
use Rattle.line_agenda.specs.Waits.{begun}
use Rattle.line_agenda.specs.Transactions.{new_transaction}

-- it asks that these events are taken as one group, those of lines from this one on
abbrev pub AsksLines : ℕ → List Event → Action → Type 0
AsksLines first events t = (taken : Vec Event Global) × (t ≡ action.Lines first taken) × (taken.items ≡ events)

-- What a command asks for: that it is taken, or that the journal is rewritten.
abbrev pub AsksCommand : ℕ → Command → Action → Type 0
AsksCommand number c t =
    ((is_checkpoint (event.Command c) ≡ true) × (t ≡ action.Checkpoint number))
    ⊎ ((is_checkpoint (event.Command c) ≡ false) × AsksLines number (event.Command c ∷ []) t)

-- No wait is begun, and no transaction. This is asked for, and this is done then.
abbrev pub AsksAction : Action → LineChoice → Type 0
AsksAction t c = (c.action ≡ t) × (c.held ≡ hold.Free) × (c.transaction ≡ None)

-- A wait begins. Where no item waits it is over at once, and that is printed.
abbrev pub BeginsWait : ℕ → World → Hold → LineChoice → Type 0
BeginsWait number w begun c =
    ((waits w ≡ []) × (c.action ≡ action.Show (show.Note (note.Waited number false))) × (c.held ≡ hold.Free) × (c.doing ≡ doing.Line false) × (c.transaction ≡ None))
    ⊎ ((waits w ≢ []) × (c.action ≡ action.Nothing) × (c.held ≡ begun) × (c.doing ≡ doing.Line false) × (c.transaction ≡ None))

-- What the line with this number asks for outside of a transaction, in this manner, where the clock reads this. A line that isn't known goes wrong, and so does
-- one that asks for what isn't there. The end of no transaction isn't known.
abbrev pub AsksAlone : Manner → ℕ → World → ℕ → Option LiveLine → LineChoice → Type 0
AsksAlone m number w now None c = AsksAction (action.Show (show.Note (note.Bad number))) c × (c.doing ≡ doing.Line true)
AsksAlone m number w now (Some (live.Script line.Skip)) c = AsksAction (action.Show (show.Note (note.Nothing number))) c × (c.doing ≡ doing.Line false)
AsksAlone m number w now (Some (live.Script (line.Command command))) c =
    AsksCommand number command c.action × (c.held ≡ hold.Free) × (c.doing ≡ doing.Commands) × (c.transaction ≡ None)
AsksAlone m number w now (Some (live.Script line.Wait)) c = BeginsWait number w (begun m.limit now (Some (live.Script line.Wait))) c
AsksAlone m number w now (Some (live.Script line.Print)) c = AsksAction (action.Show (show.Sheet number)) c × (c.doing ≡ doing.Line false)
AsksAlone m number w now (Some (live.PrintField id)) c =
    AsksAction (action.Show (show.Field number id)) c × (c.doing ≡ doing.Line (asks_in_vain w (live.PrintField id)))
AsksAlone m number w now (Some (live.WaitFor seconds)) c = BeginsWait number w (begun m.limit now (Some (live.WaitFor seconds))) c
AsksAlone m number w now (Some (live.Interrupt name)) c =
    AsksAction (action.Interrupt name) c × (c.doing ≡ doing.Interrupt name (asks_in_vain w (live.Interrupt name)))
AsksAlone m number w now (Some (live.Export format)) c = AsksAction (action.Show (show.Export number format)) c × (c.doing ≡ doing.Line false)
AsksAlone m number w now (Some live.Begin) c =
    (c.action ≡ action.Show (show.Note (note.Nothing number))) × (c.held ≡ hold.Free) × (c.doing ≡ doing.Line false) × (c.transaction ≡ Some (new_transaction number))
AsksAlone m number w now (Some live.End) c = AsksAction (action.Show (show.Note (note.Bad number))) c × (c.doing ≡ doing.Line true)
