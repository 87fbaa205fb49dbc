-- A run as it is seen by less of its agenda and of its sink: the agenda and the sink by maps of them, of which what each may do goes over.
use Rattle.std.proofs.Common.{ℕ, List, [], ◌∷◌, ap, Err, Ok}
use Rattle.std.specs.Prelude.{Bool, Option, Result, true}
use Rattle.disk_model.specs.Disk.{DiskView}
use Rattle.arrivals.specs.declared.sources.Woken.{Woken}
use Rattle.host_events.specs.declared.event.Event.{Event}
use Rattle.host_events.specs.declared.outcome.Outcome.{Outcome}
use Rattle.session_engine.specs.World.{World}
use Rattle.session_engine.specs.Joining.{JoinsAfter, ToBeTaken, alone, asking, with_more}
use Rattle.child_edge.specs.Faithful.{Entry}
use Rattle.tellings.specs.declared.note.Note.{Note}
use Rattle.offline_programs.specs.declared.fault.RunFault.{RunFault}
use Rattle.driver.specs.declared.action.Action.{Action}
use Rattle.driver.specs.Reports.{TurnCame, printed_text}
use Rattle.driver.specs.Items.{Item, RunStep}
use Rattle.driver.specs.Place.{AgendaRules, RunPlace, Rules, Tries, TriesInVain, TriesLast, rules, sink_rules}
use Rattle.driver.specs.Steps.{Fails, Goes, Run}
use Rattle.driver.specs.Steps as step
use Rattle.driver.specs.Over.{Over, ProgramParts, not_opened, ran_over}

module _ {A B C K L : Type 0} (R : Rules A C K) (S : AgendaRules B) (written : L → Option (List ℕ)) (tried : L → DiskView → List ℕ → Bool → L → Type 0) (f : A → B) (g : K → L)
    (says : (a : A) (w : World) (n : ℕ) (r : Result Action RunFault) (b : A) → R.agenda.says a w n r b → S.says (f a) w n r (f b))
    (woken : (a : A) (w : Woken) (b : A) → R.agenda.woken a w b → S.woken (f a) w (f b))
    (heeds : (a : A) (w : World) (n : ℕ) (c : TurnCame) (note : Option Note) (b : A) → R.agenda.heeds a w n c note b → S.heeds (f a) w n c note (f b))
    (joins : (a : A) (w : World) (first : Option ℕ) (more : List Event) (b : A) → R.agenda.joins a w first more b → S.joins (f a) w first more (f b))
    (tries : (k : K) (d : DiskView) (text : List ℕ) (whole : Bool) (l : K) → Tries R.sink k d text whole l → Tries (sink_rules R.sink.voice written tried) (g k) d text whole (g l))
    (last : (k : K) (d : DiskView) (text : List ℕ) (whole : Bool) (l : K) → TriesLast R.sink k d text whole l → TriesLast (sink_rules R.sink.voice written tried) (g k) d text whole (g l))
    (in_vain : (k : K) (d : DiskView) (text : List ℕ) (why : RunFault) (l : K) → TriesInVain R.sink k d text why l → TriesInVain (sink_rules R.sink.voice written tried) (g k) d text why (g l)) where
  abbrev pub seen_rules : Rules B C L
  seen_rules = rules S R.sources (sink_rules R.sink.voice written tried)

  abbrev pub seen_place : RunPlace A C K → RunPlace B C L
  seen_place p = record { asked = p.asked; agenda = f p.agenda; world = p.world; disk = p.disk; sources = p.sources; sink = g p.sink }

  abbrev pub seen_parts : ProgramParts A C K → ProgramParts B C L
  seen_parts x = record { disk = x.disk; sources = x.sources; sink = g x.sink; agenda = f x.agenda }

  asks_seen : (a b : A) (w : World) (events : List Event) (reported : List Outcome) (first : Option ℕ) (more : List Event) → JoinsAfter (asking R.agenda.joins a b) w events reported first more
      → JoinsAfter (asking S.joins (f a) (f b)) w events reported first more
  asks_seen a b w events reported first more j = record { world = j.world; runs = j.runs; answered = joins a j.world first more b j.answered }

  all_seen : (a b : A) (w : World) (events all : List Event) → ToBeTaken (asking R.agenda.joins a b) w events all → ToBeTaken (asking S.joins (f a) (f b)) w events all
  all_seen a b w events all (alone same) = alone (ap f same)
  all_seen a b w events all (with_more reported first more j) = with_more reported first more (asks_seen a b w events reported first more j)

  fails_seen : (p q : RunPlace A C K) (i : Item) (entries : List Entry) (why : RunFault) → Fails R p i entries why q → Fails seen_rules (seen_place p) i entries why (seen_place q)
  fails_seen p q i entries why (step.unsaid now w a clock said) = step.unsaid now w (f a) clock (says p.agenda p.world now (Err w) a said)
  fails_seen p q i entries why (step.uncounted many) = step.uncounted many
  fails_seen p q i entries why (step.unwatched x c wakes) = step.unwatched x c wakes
  fails_seen p q i entries why (step.unheard seat most) = step.unheard seat most
  fails_seen p q i entries why (step.too_many from events many) = step.too_many from events many
  fails_seen p q i entries why (step.untaken from events) = step.untaken from events
  fails_seen p q i entries why (step.lost from events h l) = step.lost from events h l
  fails_seen p q i entries why (step.broken from events bs e x w c d h t stopped) = step.broken from events bs e x w c d h t stopped
  fails_seen p q i entries why (step.too_many_heard events many) = step.too_many_heard events many
  fails_seen p q i entries why (step.unjoined events) = step.unjoined events
  fails_seen p q i entries why (step.lost_joined events all a h all_are l) = step.lost_joined events all (f a) h (all_seen p.agenda a p.world events all all_are) l
  fails_seen p q i entries why (step.broken_joined events all a bs e x w c d h all_are t stopped) =
      step.broken_joined events all (f a) bs e x w c d h (all_seen p.agenda a p.world events all all_are) t stopped
  fails_seen p q i entries why (step.too_many_whole first events many) = step.too_many_whole first events many
  fails_seen p q i entries why (step.untaken_whole first events) = step.untaken_whole first events
  fails_seen p q i entries why (step.lost_whole first events h l) = step.lost_whole first events h l
  fails_seen p q i entries why (step.untaken_edits up_to events) = step.untaken_edits up_to events
  fails_seen p q i entries why (step.lost_edits up_to events h l) = step.lost_edits up_to events h l
  fails_seen p q i entries why (step.broken_alone x f h stopped) = step.broken_alone x f h stopped
  fails_seen p q i entries why (step.unreceived seat) = step.unreceived seat
  fails_seen p q i entries why (step.unwritten line x h stopped) = step.unwritten line x h stopped
  fails_seen p q i entries why (step.unnumbered line many) = step.unnumbered line many
  fails_seen p q i entries why step.unstalled = step.unstalled
  fails_seen p q i entries why (step.uncounted_line first outcomes many) = step.uncounted_line first outcomes many
  fails_seen p q i entries why (step.unprinted s w k is t) = step.unprinted s w (g k) is (in_vain p.sink p.disk (printed_text R.sink.voice p.world s) w k t)

  step_seen : (p q : RunPlace A C K) (todo next : List Item) (s : RunStep) → Goes R p todo s next q → Goes seen_rules (seen_place p) todo s next (seen_place q)
  step_seen p q todo next s (step.asks now t a clock said) = step.asks now t (f a) clock (says p.agenda p.world now (Ok t) a said)
  step_seen p q todo next s (step.watches x w c a rest wakes reported) = step.watches x w c (f a) rest wakes (woken p.agenda w a reported)
  step_seen p q todo next s (step.hears seat most events c rest h) = step.hears seat most events c rest h
  step_seen p q todo next s (step.takes from events outcomes followed w c d rest t) = step.takes from events outcomes followed w c d rest t
  step_seen p q todo next s (step.joins events outcomes first more later followed a w c d rest j t) =
      step.joins events outcomes first more later followed (f a) w c d rest (asks_seen p.agenda a p.world events outcomes first more j) t
  step_seen p q todo next s (step.takes_whole first events outcomes w d rest t) = step.takes_whole first events outcomes w d rest t
  step_seen p q todo next s (step.refuses_whole first events before last rest r) = step.refuses_whole first events before last rest r
  step_seen p q todo next s (step.takes_edits up_to events done outcomes w d rest first t) = step.takes_edits up_to events done outcomes w d rest first t
  step_seen p q todo next s (step.takes_alone x o w d rest gives kept) = step.takes_alone x o w d rest gives kept
  step_seen p q todo next s (step.carries o answer c rest went) = step.carries o answer c rest went
  step_seen p q todo next s (step.receives seat x c rest was) = step.receives seat x c rest was
  step_seen p q todo next s (step.rewrites line o w d rest gives kept) = step.rewrites line o w d rest gives kept
  step_seen p q todo next s (step.stalls_all rest) = step.stalls_all rest
  step_seen p q todo next s (step.interrupts name reported c rest i) = step.interrupts name reported c rest i
  step_seen p q todo next s (step.prints t k rest went) = step.prints t (g k) rest (tries p.sink p.disk (printed_text R.sink.voice p.world t) true k went)
  step_seen p q todo next s (step.heeds c now n a rest clock h) = step.heeds c now n (f a) rest clock (heeds p.agenda p.world now c n a h)
  step_seen p q todo next s (step.breaks i entries why there rest fails) = step.breaks i entries why (seen_place there) rest (fails_seen p there i entries why fails)
  step_seen p q todo next s (step.prints_fault why whole k went) = step.prints_fault why whole (g k) (last p.sink p.disk (R.sink.voice.fault why) whole k went)

  pub run_seen : (p q : RunPlace A C K) (todo left : List Item) (steps : List RunStep) → Run R p todo steps left q → Run seen_rules (seen_place p) todo steps left (seen_place q)
  run_seen p q todo left [] r = (r.0, ap seen_place r.1)
  run_seen p q todo left (s ∷ steps) (next, mid, goes, more) = (next, seen_place mid, step_seen p mid todo next s goes, run_seen mid q next left steps more)

  -- The same of a program over a disk.
  pub over_seen : (first last : ProgramParts A C K) (answer : Result (Unit {0}) RunFault) → Over R first last answer → Over seen_rules (seen_parts first) (seen_parts last) answer
  over_seen first last answer (ran_over reported o) = ran_over reported (record {
    opened = o.opened;
    steps = o.steps;
    asked = o.asked;
    world = o.world;
    sources = o.sources;
    host = o.host;
    ran = run_seen _ _ _ _ o.steps o.ran;
    stands = o.stands;
    disk_is = o.disk_is;
    stops = o.stops;
  })
  over_seen first last answer (not_opened why o) = not_opened why (record {
    sources = o.sources;
    sink = ap g o.sink;
    agenda = ap f o.agenda;
    tells = o.tells;
    looks = o.looks;
    failed = o.failed;
    steady = o.steady;
  })
