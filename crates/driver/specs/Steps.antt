-- One step of a run, from what is to be done to what is to be done then.
use Rattle.std.specs.Prelude.{◌≡◌, ◌⊎◌, ℕ, ◌+◌, ◌^◌, ◌≤◌, ◌<◌, Bool, true, List, [], ◌∷◌, ◌++◌, Option, Some, None, IsSomeAnd, Ok, Err, length, map}
use Rattle.disk_model.specs.Disk.{DiskView}
use Rattle.host_events.specs.declared.command.Command.TheVariants as command
use Rattle.host_events.specs.declared.event.Event.{Event}
use Rattle.host_events.specs.declared.event.Event.TheVariants as event
use Rattle.host_events.specs.declared.outcome.Outcome.{Outcome}
use Rattle.host_events.specs.declared.outcome.HostFault.{HostFault}
use Rattle.host_events.specs.declared.outcome.HostFault.TheVariants as hosts
use Rattle.session_engine.specs.World.{World}
use Rattle.session_engine.specs.Does.{Gives}
use Rattle.session_engine.specs.Host.{HostView}
use Rattle.session_engine.specs.Joining.{JoinsAfter, ToBeTaken, asking}
use Rattle.session_engine.specs.Whole.{RefusedAt}
use Rattle.session_engine.specs.declared.whole.WholeFault.{WholeFault}
use Rattle.session_engine.specs.declared.whole.WholeFault.TheVariants as at_whole
use Rattle.child_calls.specs.declared.seat.Seat.{Seat}
use Rattle.child_edge.specs.Edge.{Stopped}
use Rattle.child_calls.specs.Calls.{Answer}
use Rattle.child_edge.specs.EditGroups.{EditsKept, LostEdits, TakesFirst}
use Rattle.child_edge.specs.declared.edit_groups.EditsFault.{EditsFault}
use Rattle.child_edge.specs.declared.edit_groups.EditsFault.TheVariants as at_edits
use Rattle.child_edge.specs.Faithful.{Carried, Entry, at, due_of}
use Rattle.child_edge.specs.Interrupts.{Interrupts}
use Rattle.child_edge.specs.Kept.{Kept}
use Rattle.child_edge.specs.Seats.{waits}
use Rattle.child_edge.specs.Together.{Followed, HearsOne, LostTogether, Together, TogetherUpTo, entries_after}
use Rattle.child_edge.specs.Reported.{reported}
use Rattle.child_edge.specs.Wholly.{AllTaken, LostWhole}
use Rattle.child_edge.specs.declared.together.TogetherFault.{TogetherFault}
use Rattle.child_edge.specs.declared.together.TogetherFault.TheVariants as at_gate
use Rattle.child_edge.specs.declared.interrupting.Interrupted.{Interrupted}
use Rattle.arrivals.specs.Watching.{Asked}
use Rattle.arrivals.specs.declared.sources.Woken.{Woken}
use Rattle.tellings.specs.Voice.{IsWithheld}
use Rattle.tellings.specs.declared.note.Note.{Note}
use Rattle.offline_programs.specs.declared.fault.RunFault.{RunFault}
use Rattle.offline_programs.specs.declared.fault.RunFault.TheVariants as fault
use Rattle.driver.specs.declared.action.Action.{Action}
use Rattle.driver.specs.Reports.{TurnCame, Report, interrupt_came, lines, printed_text}
use Rattle.driver.specs.Place.{RunPlace, Rules, Tries, TriesInVain, TriesLast, run_at}
use Rattle.driver.specs.Items.{Item, RunStep, after_fault, ask, broke, carried, carry, chose, print_fault, printed_fault, halt, hear, heard, heed, heeded, interrupt, interrupted, items_by, join, notes, refused_whole, rewrite, rewrote, stall, stalled, stalls, take, print, printing, printing_joined, printed, receive, received, take_alone, take_edits, taking_due, took, took_alone, watch, watched, take_transaction}
use Rattle.driver.specs.Hearing.{HeardReady}

-- the most events that are taken as one group
abbrev pub most_together : ℕ
most_together = 1024

-- the fault of a run where commands weren't taken all or not at all
abbrev pub fault_of_whole : WholeFault → RunFault
fault_of_whole at_whole.NoRoom = fault.OutOfMemory
fault_of_whole at_whole.Disk = fault.Host hosts.Disk
fault_of_whole at_whole.Closed = fault.Host hosts.Closed

-- the fault of a run where commands that only change the worksheet weren't taken
abbrev pub fault_of_edits : EditsFault → RunFault
fault_of_edits at_edits.OutOfMemory = fault.OutOfMemory
fault_of_edits at_edits.Lost = fault.Host hosts.Disk

-- the fault of a run where events weren't taken as one group
abbrev pub fault_at_gate : TogetherFault → RunFault
fault_at_gate at_gate.OutOfMemory = fault.OutOfMemory
fault_at_gate at_gate.Lost = fault.Host hosts.Disk
fault_at_gate (at_gate.Host f) = fault.Host f

-- The first item fails with this fault, after the events of these entries were taken, and leaves the run there.
pub data Fails {A C K : Type 0} (R : Rules A C K) (p : RunPlace A C K) : Item → List Entry → RunFault → RunPlace A C K → Type 0 where
  -- the agenda can't say what is next
  unsaid : (now : ℕ) (why : RunFault) (a : A) → R.sources.clock p.sources now → R.agenda.says p.agenda p.world now (Err why) a
      → Fails R p ask [] why (record p { asked = p.asked + 1; agenda = a })
  -- it was asked as often as is counted
  uncounted : 2 ^ 64 ≤ p.asked + 1 → Fails R p ask [] fault.InputTooLong p
  -- the sources can't be watched
  unwatched : (q : Asked) (c : C) → R.sources.wakes p.sources q None c → Fails R p (watch q) [] fault.Input (record p { sources = c })
  -- there was no memory, and nothing was received
  unheard : (seat : Seat) (most : ℕ) → Fails R p (hear seat most) [] fault.OutOfMemory p
  -- there are too many events for one gate, or the number of a line can't be counted: none was taken
  too_many : (from : Option ℕ) (events : List Event) → (most_together < length events) ⊎ IsSomeAnd from (λ n. 2 ^ 64 ≤ n + most_together + 1)
      → Fails R p (take from events) [] fault.InputTooLong p
  -- there was no memory, and none was taken
  untaken : (from : Option ℕ) (events : List Event) → Fails R p (take from events) [] fault.OutOfMemory p
  -- the disk failed at the gate: of none of the events anything is printed
  lost : (from : Option ℕ) (events : List Event) (h : HostView) → LostTogether p.world events p.disk h
      → Fails R p (take from events) [] (fault.Host hosts.Disk) (record p { disk = h.store.disk })
  -- the host had this fault at one of the events, or at one that followed
  broken : (from : Option ℕ) (events : List Event) (entries : List Entry) (e : Event) (f : HostFault) (w : World) (c : C) (d : DiskView) (h : HostView)
      → TogetherUpTo R.sources.after (run_at p) events entries e (at w c d) → Stopped d h w e f
      → Fails R p (take from events) entries (fault.Host f) (record p { world = w; sources = c; disk = h.store.disk })
  -- The same of events of lives and those that join them. There are too many, or there was no memory: none was taken, and the agenda wasn't asked.
  too_many_heard : (events : List Event) → most_together < length events → Fails R p (join events) [] fault.InputTooLong p
  unjoined : (events : List Event) → Fails R p (join events) [] fault.OutOfMemory p
  lost_joined : (events all : List Event) (a : A) (h : HostView) → ToBeTaken (asking R.agenda.joins p.agenda a) p.world events all → LostTogether p.world all p.disk h
      → Fails R p (join events) [] (fault.Host hosts.Disk) (record p { agenda = a; disk = h.store.disk })
  broken_joined : (events all : List Event) (a : A) (entries : List Entry) (e : Event) (f : HostFault) (w : World) (c : C) (d : DiskView) (h : HostView)
      → ToBeTaken (asking R.agenda.joins p.agenda a) p.world events all → TogetherUpTo R.sources.after (run_at p) all entries e (at w c d) → Stopped d h w e f
      → Fails R p (join events) entries (fault.Host f) (record p { agenda = a; world = w; sources = c; disk = h.store.disk })
  -- The same of commands that are taken all or not at all. Where the disk failed, all were taken, of which none was refused.
  too_many_whole : (first : ℕ) (events : List Event) → (most_together < length events) ⊎ (2 ^ 64 ≤ first + most_together + 1)
      → Fails R p (take_transaction first events) [] fault.InputTooLong p
  untaken_whole : (first : ℕ) (events : List Event) → Fails R p (take_transaction first events) [] fault.OutOfMemory p
  lost_whole : (first : ℕ) (events : List Event) (h : HostView) → LostWhole p.world events p.disk h
      → Fails R p (take_transaction first events) [] (fault.Host hosts.Disk) (record p { disk = h.store.disk })
  -- The same of commands that only change the worksheet: of none of them anything is printed.
  untaken_edits : (up_to : Bool) (events : List Event) → Fails R p (take_edits up_to events) [] fault.OutOfMemory p
  lost_edits : (up_to : Bool) (events : List Event) (h : HostView) → LostEdits up_to p.world events p.disk h
      → Fails R p (take_edits up_to events) [] (fault.Host hosts.Disk) (record p { disk = h.store.disk })
  -- the host had this fault at an event by itself
  broken_alone : (e : Event) (f : HostFault) (h : HostView) → Stopped p.disk h p.world e f
      → Fails R p (take_alone e) [] (fault.Host f) (record p { disk = h.store.disk })
  -- there was no memory, and nothing was received
  unreceived : (seat : Seat) → Fails R p (receive seat) [] fault.OutOfMemory p
  -- the host had this fault at the checkpoint
  unwritten : (line : ℕ) (f : HostFault) (h : HostView) → Stopped p.disk h p.world (event.Command command.Checkpoint) f
      → Fails R p (rewrite line) [] (fault.Host f) (record p { disk = h.store.disk })
  unnumbered : (line : ℕ) → 2 ^ 64 ≤ line + most_together + 1 → Fails R p (rewrite line) [] fault.InputTooLong p
  -- there was no memory for the lives that stall
  unstalled : Fails R p stall [] fault.OutOfMemory p
  -- the number of a line can't be counted: nothing is printed of it
  uncounted_line : (first : ℕ) (outcomes : List Outcome) → 2 ^ 64 ≤ first + most_together + 1 → Fails R p (print (lines first outcomes)) [] fault.InputTooLong p
  -- the sink failed, or there was no memory for the text
  unprinted : (s : Report) (why : RunFault) (k : K) → IsWithheld R.sink.voice why → TriesInVain R.sink p.sink p.disk (printed_text R.sink.voice p.world s) why k
      → Fails R p (print s) [] why (record p { sink = k })

-- One step.
pub data Goes {A C K : Type 0} (R : Rules A C K) (p : RunPlace A C K) : List Item → RunStep → List Item → RunPlace A C K → Type 0 where
  asks : (now : ℕ) (t : Action) (a : A) → R.sources.clock p.sources now → R.agenda.says p.agenda p.world now (Ok t) a
      → Goes R p (ask ∷ []) (chose t) (items_by t) (record p { asked = p.asked + 1; agenda = a })
  watches : (q : Asked) (w : Woken) (c : C) (a : A) (rest : List Item) → R.sources.wakes p.sources q (Some w) c → R.agenda.woken p.agenda w a
      → Goes R p (watch q ∷ rest) (watched q w) rest (record p { agenda = a; sources = c })
  hears : (seat : Seat) (most : ℕ) (events : List Event) (c : C) (rest : List Item) → HeardReady R.sources seat most p.sources events c
      → Goes R p (hear seat most ∷ rest) (heard events) (join events ∷ rest) (record p { sources = c })
  -- All that the events give is durable before an effect of theirs is carried out, and before a word of it is printed.
  takes : (from : Option ℕ) (events : List Event) (outcomes : List Outcome) (followed : List Followed) (w : World) (c : C) (d : DiskView) (rest : List Item)
      → Together R.sources.after (run_at p) events outcomes followed (at w c d)
      → Goes R p (take from events ∷ rest) (took events outcomes followed) (printing from outcomes (reported (entries_after followed)) ++ rest) (record p { world = w; sources = c; disk = d })
  -- The events of lives were taken, and then the agenda said what joins them. All that these and those give is durable before an effect of any of them is
  -- carried out, and before a word of it is printed.
  joins : (events : List Event) (outcomes : List Outcome) (first : Option ℕ) (more : List Event) (later : List Outcome) (followed : List Followed) (a : A) (w : World) (c : C) (d : DiskView) (rest : List Item)
      → JoinsAfter (asking R.agenda.joins p.agenda a) p.world events outcomes first more → Together R.sources.after (run_at p) (events ++ more) (outcomes ++ later) followed (at w c d)
      → Goes R p (join events ∷ rest) (took (events ++ more) (outcomes ++ later) followed) (printing_joined first outcomes later (reported (entries_after followed)) rest)
      (record p { agenda = a; world = w; sources = c; disk = d })
  -- All commands of a whole group were accepted: all that they give is durable at once, and none has an effect.
  takes_whole : (first : ℕ) (events : List Event) (outcomes : List Outcome) (w : World) (d : DiskView) (rest : List Item) → AllTaken p.world events outcomes w p.disk d
      → Goes R p (take_transaction first events ∷ rest) (took events outcomes []) (printing (Some first) outcomes [] ++ rest) (record p { world = w; disk = d })
  -- One of them would be refused, after those before it: none is taken, and that refusal is printed, by the number of its line.
  refuses_whole : (first : ℕ) (events : List Event) (before : List Outcome) (last : Outcome) (rest : List Item)
      → RefusedAt p.world events before last
      → Goes R p (take_transaction first events ∷ rest) (refused_whole events last) (printing (Some (first + length before)) (last ∷ []) [] ++ rest) p
  -- The first of these commands were taken: all that they give is durable at once, and none has an effect.
  takes_edits : (up_to : Bool) (events done : List Event) (outcomes : List Outcome) (w : World) (d : DiskView) (rest : List Item)
      → TakesFirst up_to events done outcomes → EditsKept p.world done outcomes w p.disk d
      → Goes R p (take_edits up_to events ∷ rest) (took done outcomes []) (printing None outcomes [] ++ rest) (record p { world = w; disk = d })
  -- An event was taken, and what it gives is durable before its effect is carried out.
  takes_alone : (e : Event) (o : Outcome) (w : World) (d : DiskView) (rest : List Item) (g : Gives p.world e o w) → Kept p.world g.0 w p.disk d
      → Goes R p (take_alone e ∷ rest) (took_alone e o) (carry o ∷ rest) (record p { world = w; disk = d })
  -- An effect is one call. Then what the event gave is printed, and heeded; where the call met a fault, its event is taken by itself, too.
  carries : (o : Outcome) (answer : Option Answer) (c : C) (rest : List Item) → Carried R.sources.after p.sources o.effect answer c
      → Goes R p (carry o ∷ rest) (carried o answer) (printing None (o ∷ []) [] ++ taking_due (due_of o.effect answer) ++ rest) (record p { sources = c })
  receives : (seat : Seat) (e : Event) (c : C) (rest : List Item) → HearsOne R.sources.after seat p.sources e c
      → Goes R p (receive seat ∷ rest) (received e) (take_alone e ∷ rest) (record p { sources = c })
  rewrites : (line : ℕ) (o : Outcome) (w : World) (d : DiskView) (rest : List Item) (g : Gives p.world (event.Command command.Checkpoint) o w) → Kept p.world g.0 w p.disk d
      → Goes R p (rewrite line ∷ rest) (rewrote (record { event = event.Command command.Checkpoint; outcome = o; answer = None })) (printing (Some line) (o ∷ []) [] ++ rest) (record p { world = w; disk = d })
  stalls_all : (rest : List Item) → Goes R p (stall ∷ rest) (stalled (waits p.world)) (take None (map stalls (waits p.world)) ∷ rest) p
  interrupts : (name : List ℕ) (result : Interrupted) (c : C) (rest : List Item) → Interrupts R.sources.after p.world name p.sources result c
      → Goes R p (interrupt name ∷ rest) (interrupted name result) (heed (interrupt_came result) ∷ rest) (record p { sources = c })
  prints : (s : Report) (k : K) (rest : List Item) → Tries R.sink p.sink p.disk (printed_text R.sink.voice p.world s) true k
      → Goes R p (print s ∷ rest) (printed s) rest (record p { sink = k })
  heeds : (c : TurnCame) (now : ℕ) (n : Option Note) (a : A) (rest : List Item) → R.sources.clock p.sources now → R.agenda.heeds p.agenda p.world now c n a
      → Goes R p (heed c ∷ rest) (heeded c n) (notes n ++ rest) (record p { agenda = a })
  breaks : (i : Item) (entries : List Entry) (why : RunFault) (q : RunPlace A C K) (rest : List Item) → Fails R p i entries why q
      → Goes R p (i ∷ rest) (broke entries why) (after_fault why) q
  prints_fault : (why : RunFault) (whole : Bool) (k : K) → TriesLast R.sink p.sink p.disk (R.sink.voice.fault why) whole k
      → Goes R p (print_fault why ∷ []) (printed_fault why whole) (halt why ∷ []) (record p { sink = k })

-- These steps lead from where this is to be done to where that is.
abbrev pub Run : {A C K : Type 0} → Rules A C K → RunPlace A C K → List Item → List RunStep → List Item → RunPlace A C K → Type 0
Run R p todo [] left q = (left ≡ todo) × (q ≡ p)
Run {A = A} {C = C} {K = K} R p todo (s ∷ steps) left q = (next : List Item) × (mid : RunPlace A C K) × Goes R p todo s next mid × Run R mid next steps left q
