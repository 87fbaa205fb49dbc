-- The events that a run tried last of all, of which nothing was reported. (docs/trust/PROGRAMS.md.)
use Rattle.std.specs.Prelude.{◌≡◌, ◌⊎◌, List, [], ◌∷◌, ◌++◌}
use Rattle.host_events.specs.declared.command.Command.TheVariants as command
use Rattle.host_events.specs.declared.event.Event.{Event}
use Rattle.host_events.specs.declared.event.Event.TheVariants as event
use Rattle.offline_programs.specs.declared.fault.RunFault.{RunFault}
use Rattle.child_edge.specs.Faithful.{Entry}
use Rattle.driver.specs.Items.{Item, RunStep, ask, broke}
use Rattle.driver.specs.Place.{RunPlace, Rules}
use Rattle.driver.specs.Steps.{Fails, Run, broken, broken_alone, broken_joined, lost, lost_edits, lost_joined, lost_whole, too_many, too_many_heard, too_many_whole, uncounted, uncounted_line, unheard, unjoined, unnumbered, unprinted, unreceived, unsaid, unstalled, untaken, untaken_edits, untaken_whole, unwatched, unwritten}

-- Where an item failed: the events of the group at which the disk failed, or the one at which the host had a fault. Where none was tried there is none.
abbrev pub tried_at : {A C K : Type 0} {R : Rules A C K} {p q : RunPlace A C K} {i : Item} {entries : List Entry} {why : RunFault} → Fails R p i entries why q → List Event
tried_at (lost from events h l) = events
tried_at (lost_joined events all a h taken l) = all
tried_at (lost_whole first events h l) = events
tried_at (lost_edits up_to events h l) = events
tried_at (broken from events entries e f w c d h up_to stopped) = e ∷ []
tried_at (broken_joined events all a entries e f w c d h taken up_to stopped) = e ∷ []
tried_at (broken_alone e f h stopped) = e ∷ []
tried_at (unwritten line f h stopped) = event.Command command.Checkpoint ∷ []
tried_at (unsaid now why a clock says) = []
tried_at (uncounted many) = []
tried_at (unwatched q c wakes) = []
tried_at (unheard seat most) = []
tried_at (too_many from events many) = []
tried_at (untaken from events) = []
tried_at (too_many_heard events many) = []
tried_at (unjoined events) = []
tried_at (too_many_whole first events many) = []
tried_at (untaken_whole first events) = []
tried_at (untaken_edits up_to events) = []
tried_at (unreceived seat) = []
tried_at (unnumbered line many) = []
tried_at unstalled = []
tried_at (uncounted_line first outcomes many) = []
tried_at (unprinted s why k is tries) = []

-- One of these steps broke off: those before it led from where this was to be done to an item that failed.
pub record StepBroke {A C K : Type 0} (R : Rules A C K) (first : RunPlace A C K) (todo : List Item) (steps : List RunStep) : Type 0 where
  pub before : List RunStep
  pub after : List RunStep
  pub item : Item
  pub rest : List Item
  pub entries : List Entry
  pub why : RunFault
  pub split : steps ≡ before ++ broke entries why ∷ after
  pub there : RunPlace A C K
  pub back : RunPlace A C K
  pub ran : Run R first todo before (item ∷ rest) there
  pub fails : Fails R there item entries why back

-- These events were tried last, and nothing of them was reported: none; or those at which a step broke off.
abbrev pub TriedLast : {A C K : Type 0} → (R : Rules A C K) → RunPlace A C K → List Item → List RunStep → List Event → Type 0
TriedLast R first todo steps events = (events ≡ []) ⊎ ((b : StepBroke R first todo steps) × (events ≡ tried_at b.fails))
