-- Which fields are asked by the gate by which answers of others are made durable. (docs/use/EVAL.md.)
use Rattle.std.specs.Prelude.{◌≡◌, ℕ, ◌+◌, List, [], Option, Some, None, map}
use Rattle.host_events.specs.declared.event.Event.{Event}
use Rattle.session_engine.specs.World.{World, sheet_in}
use Rattle.live.specs.declared.holding.Hold.{Hold}
use Rattle.live.specs.Saying.{WaitGoesOn}
use Rattle.field_agenda.specs.declared.by_fields.ByFields.{ByFields}
use Rattle.field_agenda.specs.declared.stage.FieldDoing.TheVariants as doing
use Rattle.field_agenda.specs.Says.{MayBeAsked, asked_with, asks_field}
use Rattle.field_agenda.specs.Standing.{asked_together, does_at, life_due, waiting_so}

-- where it stands when this wait goes on after what lives had
abbrev pub goes_on : {P : Type 0} → ByFields P → Hold → ByFields P
goes_on a held = record a { stand = waiting_so a.stand held a.stand.at_once }

-- The field at this place, with this number, is asked, and so are those that go with it: as where it would be asked next.
pub record JoinsFrom {P : Type 0} (a : ByFields P) (w : World) (k id : ℕ) (reported : Option ℕ × List Event) (b : ByFields P) : Type 0 where
  pub may : MayBeAsked a w k id
  pub first : reported.0 ≡ Some (k + 1)
  pub asked : reported.1 ≡ map asks_field (asked_with a w k id)
  pub stands : b ≡ does_at a doing.Ask (asked_together a.stand k (sheet_in w).fields (asked_with a w k id))

-- What joins the events of lives that led to this world: what it would say is next there if they were heeded and it says that fields are asked, while no
-- other life is due. Or nothing does, and it stays as it is.
pub data FieldsJoin {P : Type 0} (a : ByFields P) (w : World) (first : Option ℕ) (more : List Event) (b : ByFields P) : Type 0 where
  none_join : first ≡ None → more ≡ [] → b ≡ a → FieldsJoin a w first more b
  some_join : (held : Hold) (k id : ℕ) → a.doing ≡ doing.Life → life_due a.due ≡ None → WaitGoesOn a.stand.held w held → JoinsFrom (goes_on a held) w k id (first, more) b
      → FieldsJoin a w first more b
