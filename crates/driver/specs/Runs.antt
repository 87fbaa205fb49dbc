-- What a call did: by what it left to be done.
use Rattle.std.specs.Prelude.{ℕ, Bool, true, false, List, [], ◌∷◌, Result, Ok, Err}
use Rattle.disk_model.specs.Disk.{DiskView}
use Rattle.host_events.specs.declared.event.Event.{Event}
use Rattle.host_events.specs.declared.outcome.HostFault.{HostFault}
use Rattle.session_engine.specs.World.{World}
use Rattle.session_engine.specs.Host.{HostView, IsHost}
use Rattle.child_edge.specs.Edge.{Stopped}
use Rattle.child_edge.specs.Together.{LostTogether}
use Rattle.offline_programs.specs.declared.fault.RunFault.{RunFault}
use Rattle.driver.specs.Items.{Item, RunStep, after_fault, ask, halt}
use Rattle.driver.specs.Place.{RunPlace, Rules}
use Rattle.driver.specs.Steps.{Run}

-- How the host stands where a run is in this world: it stands for it, or a fault of its own has closed it.
pub data Stands (h : HostView) (w : World) : Type 0 where
  works : IsHost h w → Stands h w
  stopped : (before : DiskView) (e : Event) (f : HostFault) → Stopped before h w e f → Stands h w
  lost_there : (events : List Event) (before : DiskView) → LostTogether w events before h → Stands h w

abbrev pub StandsBy : {T : Type 0} → Result T RunFault → HostView → World → Type 0
StandsBy (Ok done) h w = IsHost h w
StandsBy (Err why) h w = Stands h w

-- a driver: a host, its sources, its sink and its agenda
pub record Parts (A C K : Type 0) : Type 0 where
  pub host : HostView
  pub sources : C
  pub sink : K
  pub agenda : A

abbrev pub parts : {A C K : Type 0} → HostView → C → K → A → Parts A C K
parts host sources sink agenda = record { host = host; sources = sources; sink = sink; agenda = agenda }

-- where a run stands in this world, of which the agenda was asked so often
abbrev pub seen : {A C K : Type 0} → ℕ → World → Parts A C K → RunPlace A C K
seen n w x = record { asked = n; agenda = x.agenda; world = w; disk = x.host.store.disk; sources = x.sources; sink = x.sink }

-- From this place, where this was to be done, steps led to where the driver stands now, and what is left to be done follows from the answer. The
-- agenda was asked so often by then.
pub record DidSteps {A C K T : Type 0} (R : Rules A C K) (p : RunPlace A C K) (todo : List Item) (left : Result T RunFault → List Item) (answer : Result T RunFault) (now : ℕ × Parts A C K) : Type 0 where
  pub steps : List RunStep
  pub world : World
  pub ran : Run R p todo steps (left answer) (seen now.0 world now.1)
  pub stands : StandsBy answer now.1.host world

-- What is left where no more was done than this: that, or what comes after a fault.
abbrev pub left_by_answer : {T : Type 0} → (T → List Item) → Result T RunFault → List Item
left_by_answer left (Ok done) = left done
left_by_answer left (Err why) = after_fault why

-- The agenda is asked again, or it was at its end.
abbrev pub again : Bool → List Item
again true = ask ∷ []
again false = []

-- that it is asked again, where this was done
abbrev pub again_by : {T : Type 0} → Result T RunFault → Result Bool RunFault
again_by (Ok done) = Ok true
again_by (Err why) = Err why

-- what is left at the end of a run
abbrev pub left_at_end : {T : Type 0} → Result T RunFault → List Item
left_at_end (Ok done) = []
left_at_end (Err why) = halt why ∷ []
