-- Where a run stands, and what differs from run to run.
use Rattle.std.specs.Prelude.{◌≡◌, ℕ, Bool, false, true, List, Option, Result}
use Rattle.std.specs.Io.KnownBytes.{Appends}
use Rattle.disk_model.specs.Disk.{DiskView}
use Rattle.session_engine.specs.World.{World}
use Rattle.session_engine.specs.Joining.{JoinRule}
use Rattle.child_edge.specs.Faithful.{At, Relation, at}
use Rattle.arrivals.specs.Watching.{Asked}
use Rattle.arrivals.specs.declared.sources.Woken.{Woken}
use Rattle.tellings.specs.Voice.{CutShort, Voice, WroteFront}
use Rattle.tellings.specs.declared.note.Note.{Note}
use Rattle.offline_programs.specs.declared.fault.RunFault.{RunFault}
use Rattle.driver.specs.declared.action.Action.{Action}
use Rattle.driver.specs.Reports.{TurnCame}

-- How often the agenda was asked, the agenda, where events led to, the disk of the host, the sources, and the sink.
pub record RunPlace (A C K : Type 0) : Type 0 where
  pub asked : ℕ
  pub agenda : A
  pub world : World
  pub disk : DiskView
  pub sources : C
  pub sink : K

-- the place as runs of events see it
abbrev pub run_at : {A C K : Type 0} → RunPlace A C K → At C
run_at p = at p.world p.sources p.disk

-- What sources may do: the calls on children, a watch, and what the clock reads.
pub record SourceRules (C : Type 0) : Type 1 where
  pub after : Relation C
  pub wakes : C → Asked → Option Woken → C → Type 0
  pub clock : C → ℕ → Type 0

-- What a sink may do: its texts, what was printed so far, and what came of trying a text while the disk was in this state.
pub record SinkRules (K : Type 0) : Type 1 where
  pub voice : Voice
  pub written : K → Option (List ℕ)
  pub tried : K → DiskView → List ℕ → Bool → K → Type 0

-- What an agenda may do from action to action: what it says is next, that it is given whose turn it is, and what it makes of what came.
pub record ActionRules (A : Type 0) : Type 1 where
  pub says : A → World → ℕ → Result Action RunFault → A → Type 0
  pub woken : A → Woken → A → Type 0
  pub heeds : A → World → ℕ → TurnCame → Option Note → A → Type 0

-- What an agenda may do: all of that, and which events it lets join those of lives that were taken and aren't durable yet.
pub record AgendaRules (A : Type 0) : Type 1 where
  pub says : A → World → ℕ → Result Action RunFault → A → Type 0
  pub woken : A → Woken → A → Type 0
  pub heeds : A → World → ℕ → TurnCame → Option Note → A → Type 0
  pub joins : JoinRule A

pub record Rules (A C K : Type 0) : Type 1 where
  pub agenda : AgendaRules A
  pub sources : SourceRules C
  pub sink : SinkRules K

abbrev pub action_rules : {A : Type 0} → (A → World → ℕ → Result Action RunFault → A → Type 0) → (A → Woken → A → Type 0)
    → (A → World → ℕ → TurnCame → Option Note → A → Type 0) → ActionRules A
action_rules says woken heeds = record { says = says; woken = woken; heeds = heeds }

abbrev pub agenda_rules : {A : Type 0} → ActionRules A → JoinRule A → AgendaRules A
agenda_rules actions joins = record { says = actions.says; woken = actions.woken; heeds = actions.heeds; joins = joins }

abbrev pub source_rules : {C : Type 0} → Relation C → (C → Asked → Option Woken → C → Type 0) → (C → ℕ → Type 0) → SourceRules C
source_rules after wakes clock = record { after = after; wakes = wakes; clock = clock }

abbrev pub sink_rules : {K : Type 0} → Voice → (K → Option (List ℕ)) → (K → DiskView → List ℕ → Bool → K → Type 0) → SinkRules K
sink_rules voice written tried = record { voice = voice; written = written; tried = tried }

abbrev pub rules : {A C K : Type 0} → AgendaRules A → SourceRules C → SinkRules K → Rules A C K
rules agenda sources sink = record { agenda = agenda; sources = sources; sink = sink }

-- A text was tried while the disk was in this state; where all of it went out, it comes after what was printed before.
pub record Tries {K : Type 0} (R : SinkRules K) (k : K) (disk : DiskView) (text : List ℕ) (whole : Bool) (l : K) : Type 0 where
  pub tried : R.tried k disk text whole l
  pub appends : whole ≡ true → Appends (R.written k) (R.written l) text

-- A fault was printed, last of all: all of its text, or, of a voice that writes in lines, a beginning of it.
pub record TriesLast {K : Type 0} (R : SinkRules K) (k : K) (disk : DiskView) (text : List ℕ) (whole : Bool) (l : K) : Type 0 where
  pub tries : Tries R k disk text whole l
  pub front : R.voice.in_lines ≡ true → WroteFront false (R.written k) (R.written l) text

-- A text was tried, and not all of it went out. Where there was no memory for it, or a stream failed that is written in lines, a beginning of it did.
pub record TriesInVain {K : Type 0} (R : SinkRules K) (k : K) (disk : DiskView) (text : List ℕ) (why : RunFault) (l : K) : Type 0 where
  pub tried : R.tried k disk text false l
  pub cut : CutShort R.voice.in_lines (R.written k) (R.written l) text why
