-- What is to be done, and what was done.
use Rattle.std.specs.Prelude.{ℕ, Bool, List, [], ◌∷◌, ◌++◌, Option, Some, None}
use Rattle.host_events.specs.declared.event.Event.{Event}
use Rattle.host_events.specs.declared.event.Event.TheVariants.{Child}
use Rattle.host_events.specs.declared.event.ChildEvent.TheVariants as child
use Rattle.host_events.specs.declared.outcome.Outcome.{Outcome}
use Rattle.host_events.specs.declared.reply.Reply.{Reply}
use Rattle.child_calls.specs.Calls.{Answer}
use Rattle.child_calls.specs.declared.seat.Seat.{Seat}
use Rattle.child_edge.specs.Faithful.{Entry}
use Rattle.child_edge.specs.Together.{Followed, trace_of}
use Rattle.child_edge.specs.declared.interrupting.Interrupted.{Interrupted}
use Rattle.arrivals.specs.Watching.{Asked, asked}
use Rattle.arrivals.specs.declared.sources.Woken.{Woken}
use Rattle.tellings.specs.declared.note.Note.{Note}
use Rattle.offline_programs.specs.declared.fault.RunFault.{RunFault}
use Rattle.offline_programs.specs.declared.fault.RunFault.TheVariants as fault
use Rattle.driver.specs.declared.action.Action.{Action}
use Rattle.driver.specs.declared.action.Action.TheVariants as action
use Rattle.driver.specs.Reports.{TurnCame, Report, came}
use Rattle.driver.specs.Reports as report
use Rattle.driver.specs.declared.report.Show.TheVariants as show

-- what is to be done
pub data Item : Type 0 where
  -- the agenda says what is next
  ask : Item
  -- the sources are watched
  watch : Asked → Item
  -- this life is received from, and others that are ready: so many at most
  hear : Seat → ℕ → Item
  -- these events are taken as one group: those of lives, or of the lines from this one on
  take : Option ℕ → List Event → Item
  -- these commands of the lines from this one on are taken as one group, all of them or none
  take_transaction : ℕ → List Event → Item
  -- these commands, which only change the worksheet, are taken as one group: all of them, or up to the first that is refused
  take_edits : Bool → List Event → Item
  -- this event is taken by itself
  take_alone : Event → Item
  -- the effect of this outcome is carried out, and then it is printed
  carry : Outcome → Item
  -- this life is received from, and what it gives is taken by itself
  receive : Seat → Item
  -- these events of lives are taken as one group, with those that the agenda says join them
  join : List Event → Item
  -- the journal is rewritten, for which this line asks
  rewrite : ℕ → Item
  -- each life in which an item waits has stalled
  stall : Item
  -- the interpreter of this session is interrupted
  interrupt : List ℕ → Item
  -- this is printed
  print : Report → Item
  -- the agenda heeds what came
  heed : TurnCame → Item
  -- this fault is printed
  print_fault : RunFault → Item
  -- no more is done, by this fault
  halt : RunFault → Item

-- what was done
pub data RunStep : Type 0 where
  chose : Action → RunStep
  watched : Asked → Woken → RunStep
  heard : List Event → RunStep
  took : List Event → List Outcome → List Followed → RunStep
  -- one of these commands was refused, so none was taken
  refused_whole : List Event → Outcome → RunStep
  took_alone : Event → Outcome → RunStep
  carried : Outcome → Option Answer → RunStep
  received : Event → RunStep
  rewrote : Entry → RunStep
  stalled : List Seat → RunStep
  interrupted : List ℕ → Interrupted → RunStep
  printed : Report → RunStep
  heeded : TurnCame → Option Note → RunStep
  -- the item at the head failed, after these events were taken
  broke : List Entry → RunFault → RunStep
  -- the fault was printed last of all, or that was tried
  printed_fault : RunFault → Bool → RunStep

-- what the agenda asked for, and then it is asked again; at the end it is not
abbrev pub items_by : Action → List Item
items_by action.End = []
items_by action.Nothing = ask ∷ []
items_by (action.Watch input patience) = watch (asked input patience) ∷ ask ∷ []
items_by (action.Hear seat most) = hear seat most ∷ ask ∷ []
items_by (action.Lines first events) = take (Some first) events.items ∷ ask ∷ []
items_by (action.Transaction first edits) = take_transaction first edits ∷ ask ∷ []
items_by (action.Edits up_to edits) = take_edits up_to edits ∷ ask ∷ []
items_by (action.Alone event) = take_alone event ∷ ask ∷ []
items_by (action.Receive seat) = receive seat ∷ ask ∷ []
items_by (action.Checkpoint line) = rewrite line ∷ ask ∷ []
items_by action.Stall = stall ∷ ask ∷ []
items_by (action.Interrupt name) = interrupt name ∷ ask ∷ []
items_by (action.Show s) = print (report.shown s) ∷ heed (came [] []) ∷ ask ∷ []

-- what events gave that were taken as one group is printed, lines by their numbers, and then what followed; the agenda heeds it
abbrev pub group_of : Option ℕ → List Outcome → Report
group_of None outcomes = report.lives outcomes
group_of (Some first) outcomes = report.lines first outcomes

abbrev pub printing : Option ℕ → List Outcome → List Reply → List Item
printing from outcomes replies = print (group_of from outcomes) ∷ print (report.followed replies) ∷ heed (came outcomes replies) ∷ []

-- the event of the fault that a call met is taken likewise
abbrev pub taking_due : Option Event → List Item
taking_due None = []
taking_due (Some e) = take_alone e ∷ []

-- What lives gave is printed, then what those gave that joined, by the numbers of their lines from this one on, and then what followed all of it; the
-- agenda heeds it all at once. Then there is the rest.
abbrev pub joined_lines : Option ℕ → List Outcome → List Item → List Item
joined_lines None later rest = rest
joined_lines (Some first) later rest = print (report.lines first later) ∷ rest

abbrev pub printing_joined : Option ℕ → List Outcome → List Outcome → List Reply → List Item → List Item
printing_joined first outcomes later replies rest =
    print (report.lives outcomes) ∷ joined_lines first later (print (report.followed replies) ∷ heed (came (outcomes ++ later) replies) ∷ rest)

-- what is noted is printed
abbrev pub notes : Option Note → List Item
notes None = []
notes (Some n) = print (report.shown (show.Note n)) ∷ []

-- After a fault it is printed, and no more is done; that the sink failed is not.
abbrev pub after_fault : RunFault → List Item
after_fault fault.Output = halt fault.Output ∷ []
after_fault why = print_fault why ∷ []

-- the event that a life has stalled
abbrev pub stalls : Seat → Event
stalls seat = Child seat.name seat.life child.Stalled

-- the entries of the trace; what the effect's call of an event by itself was answered, a later step says
abbrev pub entries_of : RunStep → List Entry
entries_of (chose t) = []
entries_of (watched q w) = []
entries_of (heard events) = []
entries_of (took events outcomes followed) = trace_of events outcomes followed
entries_of (refused_whole events o) = []
entries_of (took_alone e o) = record { event = e; outcome = o; answer = None } ∷ []
entries_of (carried o a) = []
entries_of (received e) = []
entries_of (rewrote b) = b ∷ []
entries_of (stalled seats) = []
entries_of (interrupted name result) = []
entries_of (printed s) = []
entries_of (heeded c n) = []
entries_of (broke entries why) = entries
entries_of (printed_fault why whole) = []
