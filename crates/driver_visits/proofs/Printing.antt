-- What a run prints is of events that it has taken, in their order.
use Rattle.std.proofs.Common.{◌≡◌, ◌∙◌, ℕ, List, [], ◌∷◌, ◌++◌, Option, Some, None, refl, sym, ap, subst, append-nil, append_assoc}
use Rattle.std.specs.Prelude.{◌+◌, length, map}
use Rattle.std.specs.List.{flat_map}
use Rattle.std.proofs.lemmas.Grind.{flat_map-append}
use Rattle.host_events.specs.declared.event.Event.{Event}
use Rattle.host_events.specs.declared.outcome.Outcome.{Outcome}
use Rattle.host_events.specs.declared.reply.Reply.{Reply}
use Rattle.child_edge.specs.Reported.{reported}
use Rattle.child_edge.specs.Together.{Followed, entries_after}
use Rattle.tellings.specs.declared.note.Note.{Note}
use Rattle.offline_programs.specs.declared.fault.RunFault.{RunFault}
use Rattle.offline_programs.specs.declared.fault.RunFault.TheVariants as fault
use Rattle.driver.specs.declared.action.Action.{Action}
use Rattle.driver.specs.declared.action.Action.TheVariants as action
use Rattle.driver.specs.Items.{Item, RunStep, after_fault, chose, group_of, heard, heeded, interrupted, items_by, joined_lines, notes, printed, printed_fault, printing, received, refused_whole, rewrote, stalled, taking_due, took, took_alone, watched}
use Rattle.driver.specs.Items as item
use Rattle.driver.specs.Place.{RunPlace, Rules}
use Rattle.driver.specs.Reports.{Report, came}
use Rattle.driver.specs.Reports as report
use Rattle.driver.specs.Steps.{Goes, Run, asks, breaks, carries, heeds, hears, interrupts, joins, prints, prints_fault, receives, refuses_whole, rewrites, stalls_all, takes, takes_alone, takes_edits, takes_whole, watches}
use Rattle.driver_visits.specs.Printed.{InOrder, IsReportOf, Reportable, here, in_report, later, no_more, outcome, reply, was_reported, to_report}

-- Lists in their order.
module _ {A : Type 0} where
  all_in_order : (xs : List A) → InOrder xs xs
  all_in_order [] = no_more
  all_in_order (x ∷ xs) = here (all_in_order xs)

  skipped : (xs some all : List A) → InOrder some all → InOrder some (xs ++ all)
  skipped [] some all h = h
  skipped (x ∷ xs) some all h = later (skipped xs some all h)

  joined : {xs all : List A} → InOrder xs all → (ys more : List A) → InOrder ys more → InOrder (xs ++ ys) (all ++ more)
  joined {all = all} no_more ys more k = skipped all ys more k
  joined (here h) ys more k = here (joined h ys more k)
  joined (later h) ys more k = later (joined h ys more k)

  front_of : (xs ys : List A) {some all : List A} → InOrder some all → some ≡ xs ++ ys → InOrder xs all
  front_of [] ys h is = no_more
  front_of (x ∷ xs) ys no_more is = cc
  front_of (x ∷ xs) ys (here {x = z} {some = some} {all = all} h) is =
      let first : z ≡ x = cc in
      let rest : some ≡ xs ++ ys = cc in
      subst (λ (w : A). InOrder (w ∷ xs) (z ∷ all)) first (here (front_of xs ys h rest))
  front_of (x ∷ xs) ys (later h) is = later (front_of (x ∷ xs) ys h is)

  front : (xs ys : List A) {all : List A} → InOrder (xs ++ ys) all → InOrder xs all
  front xs ys h = front_of xs ys h refl

  both_empty : (xs ys : List A) → xs ++ ys ≡ [] → ys ≡ []
  both_empty [] ys is = is
  both_empty (x ∷ xs) ys is = cc

map_joined : {A B : Type 0} (f : A → B) (xs ys : List A) → map f (xs ++ ys) ≡ map f xs ++ map f ys
map_joined f [] ys = refl
map_joined f (x ∷ xs) ys = ap (λ (l : List _). f x ∷ l) (map_joined f xs ys)

-- What is to be done has yet to report this.
abbrev owed_by : Item → List Reportable
owed_by (item.print r) = in_report r
owed_by (item.carry o) = outcome o ∷ []
owed_by _ = []

abbrev owed : List Item → List Reportable
owed items = flat_map owed_by items

-- what is to be printed stands in front, and nothing is owed after the rest
abbrev Orderly : List Item → Type 0
Orderly [] = Unit {0}
Orderly (item.print r ∷ rest) = Orderly rest
Orderly (item.carry o ∷ rest) = owed rest ≡ []
Orderly (item.ask ∷ rest) = owed rest ≡ []
Orderly (item.watch q ∷ rest) = owed rest ≡ []
Orderly (item.hear seat most ∷ rest) = owed rest ≡ []
Orderly (item.take from events ∷ rest) = owed rest ≡ []
Orderly (item.take_transaction first events ∷ rest) = owed rest ≡ []
Orderly (item.take_edits up_to events ∷ rest) = owed rest ≡ []
Orderly (item.take_alone e ∷ rest) = owed rest ≡ []
Orderly (item.receive seat ∷ rest) = owed rest ≡ []
Orderly (item.join events ∷ rest) = owed rest ≡ []
Orderly (item.rewrite line ∷ rest) = owed rest ≡ []
Orderly (item.stall ∷ rest) = owed rest ≡ []
Orderly (item.interrupt name ∷ rest) = owed rest ≡ []
Orderly (item.heed c ∷ rest) = owed rest ≡ []
Orderly (item.print_fault why ∷ rest) = owed rest ≡ []
Orderly (item.halt why ∷ rest) = owed rest ≡ []

-- where nothing is owed, it is in order
orderly : (items : List Item) → owed items ≡ [] → Orderly items
orderly [] none = tt
orderly (item.print r ∷ rest) none = orderly rest (both_empty (in_report r) (owed rest) none)
orderly (item.carry o ∷ rest) none = cc
orderly (item.ask ∷ rest) none = none
orderly (item.watch q ∷ rest) none = none
orderly (item.hear seat most ∷ rest) none = none
orderly (item.take from events ∷ rest) none = none
orderly (item.take_transaction first events ∷ rest) none = none
orderly (item.take_edits up_to events ∷ rest) none = none
orderly (item.take_alone e ∷ rest) none = none
orderly (item.receive seat ∷ rest) none = none
orderly (item.join events ∷ rest) none = none
orderly (item.rewrite line ∷ rest) none = none
orderly (item.stall ∷ rest) none = none
orderly (item.interrupt name ∷ rest) none = none
orderly (item.heed c ∷ rest) none = none
orderly (item.print_fault why ∷ rest) none = none
orderly (item.halt why ∷ rest) none = none

asked_owes : (t : Action) → owed (items_by t) ≡ []
asked_owes action.End = refl
asked_owes action.Nothing = refl
asked_owes (action.Watch input patience) = refl
asked_owes (action.Hear seat most) = refl
asked_owes (action.Lines first events) = refl
asked_owes (action.Transaction first edits) = refl
asked_owes (action.Edits up_to edits) = refl
asked_owes (action.Alone event) = refl
asked_owes (action.Receive seat) = refl
asked_owes (action.Checkpoint line) = refl
asked_owes action.Stall = refl
asked_owes (action.Interrupt name) = refl
asked_owes (action.Show one) = refl

fault_owes : (why : RunFault) → owed (after_fault why) ≡ []
fault_owes (fault.Host f) = refl
fault_owes (fault.Open cause) = refl
fault_owes fault.InUse = refl
fault_owes fault.SecondFile = refl
fault_owes fault.Input = refl
fault_owes fault.InputTooLong = refl
fault_owes fault.Output = refl
fault_owes fault.OutOfMemory = refl

due_owes : (e : Option Event) (rest : List Item) → owed (taking_due e ++ rest) ≡ owed rest
due_owes None rest = refl
due_owes (Some e) rest = refl

notes_owe : (n : Option Note) (rest : List Item) → owed (notes n ++ rest) ≡ owed rest
notes_owe None rest = refl
notes_owe (Some n) rest = refl

-- So far these steps were done, and this is to be done.
record InTurn (done : List RunStep) (todo : List Item) : Type 0 where
  order : InOrder (flat_map was_reported done ++ owed todo) (flat_map to_report done)
  follows : Orderly todo

-- One step more.
module _ (done : List RunStep) (todo : List Item) (h : InTurn done todo) (s : RunStep) (next : List Item) where
  so_far : {B : Type 0} (f : RunStep → List B) → flat_map f (done ++ s ∷ []) ≡ flat_map f done ++ f s
  so_far f = flat_map-append f done (s ∷ []) ∙ ap (λ (l : List _). flat_map f done ++ l) (append-nil (f s))

  in_turn : InOrder ((flat_map was_reported done ++ was_reported s) ++ owed next) (flat_map to_report done ++ to_report s) → Orderly next → InTurn (done ++ s ∷ []) next
  in_turn order follows = record {
    order = subst (λ (l : List Reportable). InOrder (l ++ owed next) (flat_map to_report (done ++ s ∷ []))) (sym (so_far was_reported))
        (subst (InOrder ((flat_map was_reported done ++ was_reported s) ++ owed next)) (sym (so_far to_report)) order);
    follows = follows;
  }

  -- it had nothing to report, and reported nothing
  silently : was_reported s ≡ [] → to_report s ≡ [] → owed next ≡ owed todo → Orderly next → InTurn (done ++ s ∷ []) next
  silently none nothing same follows = in_turn
      (subst (λ (l : List Reportable). InOrder ((flat_map was_reported done ++ l) ++ owed next) (flat_map to_report done ++ to_report s)) (sym none)
      (subst (λ (l : List Reportable). InOrder ((flat_map was_reported done ++ []) ++ owed next) (flat_map to_report done ++ l)) (sym nothing)
      (subst (λ (l : List Reportable). InOrder (l ++ owed next) (flat_map to_report done ++ [])) (sym (append-nil (flat_map was_reported done)))
      (subst (InOrder (flat_map was_reported done ++ owed next)) (sym (append-nil (flat_map to_report done)))
      (subst (λ (l : List Reportable). InOrder (flat_map was_reported done ++ l) (flat_map to_report done)) (sym same) h.order)))))
      follows

  -- it had something to report, of which this is owed then, where nothing was owed
  giving : was_reported s ≡ [] → owed todo ≡ [] → InOrder (owed next) (to_report s) → Orderly next → InTurn (done ++ s ∷ []) next
  giving none nothing news follows = in_turn
      (subst (λ (l : List Reportable). InOrder ((flat_map was_reported done ++ l) ++ owed next) (flat_map to_report done ++ to_report s)) (sym none)
      (subst (λ (l : List Reportable). InOrder (l ++ owed next) (flat_map to_report done ++ to_report s)) (sym (append-nil (flat_map was_reported done)))
      (joined (front (flat_map was_reported done) (owed todo) h.order) (owed next) (to_report s) news)))
      follows

  -- it broke off, and nothing is owed
  breaking : was_reported s ≡ [] → to_report s ≡ [] → owed next ≡ [] → InTurn (done ++ s ∷ []) next
  breaking none nothing owes = in_turn
      (subst (λ (l : List Reportable). InOrder ((flat_map was_reported done ++ l) ++ owed next) (flat_map to_report done ++ to_report s)) (sym none)
      (subst (λ (l : List Reportable). InOrder ((flat_map was_reported done ++ []) ++ owed next) (flat_map to_report done ++ l)) (sym nothing)
      (subst (λ (l : List Reportable). InOrder ((flat_map was_reported done ++ []) ++ l) (flat_map to_report done ++ [])) (sym owes)
      (joined
      (subst (λ (l : List Reportable). InOrder l (flat_map to_report done)) (sym (append-nil (flat_map was_reported done)))
      (front (flat_map was_reported done) (owed todo) h.order))
      [] [] no_more))))
      (orderly next owes)

-- what is owed of events that were taken together
group_owes : (from : Option ℕ) (outcomes : List Outcome) → in_report (group_of from outcomes) ≡ map outcome outcomes
group_owes None outcomes = refl
group_owes (Some first) outcomes = refl

printing_owes : (from : Option ℕ) (outcomes : List Outcome) (replies : List Reply) (rest : List Item) → owed rest ≡ [] → owed (printing from outcomes replies ++ rest) ≡ map outcome outcomes ++ map reply replies
printing_owes from outcomes replies rest none =
    ap (λ (l : List Reportable). l ++ (map reply replies ++ owed rest)) (group_owes from outcomes)
    ∙ ap (λ (l : List Reportable). map outcome outcomes ++ (map reply replies ++ l)) none
    ∙ ap (λ (l : List Reportable). map outcome outcomes ++ l) (append-nil (map reply replies))

printed_first : (from : Option ℕ) (outcomes : List Outcome) (replies : List Reply) (rest : List Item) → owed rest ≡ [] → Orderly (printing from outcomes replies ++ rest)
printed_first from outcomes replies rest none = none

-- and of those that others joined
joined_owes : (first : Option ℕ) (outcomes more : List Outcome) (replies : List Reply) (rest : List Item) → owed rest ≡ []
    → InOrder (map outcome outcomes ++ owed (joined_lines first more (item.print (report.followed replies) ∷ item.heed (came (outcomes ++ more) replies) ∷ rest))) (map outcome (outcomes ++ more) ++ map reply replies)
joined_owes None outcomes more replies rest none =
    subst (λ (l : List Reportable). InOrder (map outcome outcomes ++ (map reply replies ++ l)) (map outcome (outcomes ++ more) ++ map reply replies)) (sym none)
    (subst (λ (l : List Reportable). InOrder (map outcome outcomes ++ l) (map outcome (outcomes ++ more) ++ map reply replies)) (sym (append-nil (map reply replies)))
    (subst (λ (l : List Reportable). InOrder (map outcome outcomes ++ map reply replies) (l ++ map reply replies)) (sym (map_joined outcome outcomes more))
    (subst (InOrder (map outcome outcomes ++ map reply replies)) (sym (append_assoc (map outcome outcomes) (map outcome more) (map reply replies)))
    (joined (all_in_order (map outcome outcomes)) (map reply replies) (map outcome more ++ map reply replies)
    (skipped (map outcome more) (map reply replies) (map reply replies) (all_in_order (map reply replies)))))))
joined_owes (Some first) outcomes more replies rest none =
    subst (λ (l : List Reportable). InOrder (map outcome outcomes ++ (map outcome more ++ (map reply replies ++ l))) (map outcome (outcomes ++ more) ++ map reply replies)) (sym none)
    (subst (λ (l : List Reportable). InOrder (map outcome outcomes ++ (map outcome more ++ l)) (map outcome (outcomes ++ more) ++ map reply replies)) (sym (append-nil (map reply replies)))
    (subst (λ (l : List Reportable). InOrder (map outcome outcomes ++ (map outcome more ++ map reply replies)) (l ++ map reply replies)) (sym (map_joined outcome outcomes more))
    (subst (InOrder (map outcome outcomes ++ (map outcome more ++ map reply replies))) (sym (append_assoc (map outcome outcomes) (map outcome more) (map reply replies)))
    (all_in_order (map outcome outcomes ++ (map outcome more ++ map reply replies))))))

joined_first : (first : Option ℕ) (outcomes more : List Outcome) (replies : List Reply) (rest : List Item) → owed rest ≡ []
    → Orderly (joined_lines first more (item.print (report.followed replies) ∷ item.heed (came (outcomes ++ more) replies) ∷ rest))
joined_first None outcomes more replies rest none = none
joined_first (Some first) outcomes more replies rest none = none

all_of : (some all : List Reportable) → some ≡ all → InOrder some all
all_of some all is = subst (λ (l : List Reportable). InOrder l all) (sym is) (all_in_order all)

module _ {A C K : Type 0} (R : Rules A C K) where
  next_in_turn : (done : List RunStep) (p q : RunPlace A C K) (todo next : List Item) (s : RunStep) → Goes R p todo s next q → InTurn done todo → InTurn (done ++ s ∷ []) next
  next_in_turn done p q todo next s (asks now t a clock says) h = silently done todo h s next refl refl (asked_owes t) (orderly next (asked_owes t))
  next_in_turn done p q todo next s (watches x w c a rest wakes woken) h = silently done todo h s next refl refl refl (orderly rest h.follows)
  next_in_turn done p q todo next s (hears seat most events c rest went) h = silently done todo h s next refl refl refl h.follows
  next_in_turn done p q todo next s (takes from events outcomes followed w c d rest t) h =
      giving done todo h s next refl h.follows (all_of (owed next) (to_report s) (printing_owes from outcomes (reported (entries_after followed)) rest h.follows))
      (printed_first from outcomes (reported (entries_after followed)) rest h.follows)
  next_in_turn done p q todo next s (joins events outcomes first more others followed a w c d rest j t) h =
      giving done todo h s next refl h.follows (joined_owes first outcomes others (reported (entries_after followed)) rest h.follows)
      (joined_first first outcomes others (reported (entries_after followed)) rest h.follows)
  next_in_turn done p q todo next s (takes_whole first events outcomes w d rest t) h =
      giving done todo h s next refl h.follows (all_of (owed next) (to_report s) (printing_owes (Some first) outcomes [] rest h.follows)) (printed_first (Some first) outcomes [] rest h.follows)
  next_in_turn done p q todo next s (refuses_whole first events before last rest refused) h =
      giving done todo h s next refl h.follows (all_of (owed next) (to_report s) (printing_owes (Some (first + length before)) (last ∷ []) [] rest h.follows)) (printed_first (Some (first + length before)) (last ∷ []) [] rest h.follows)
  next_in_turn done p q todo next s (takes_edits up_to events first outcomes w d rest ends t) h =
      giving done todo h s next refl h.follows (all_of (owed next) (to_report s) (printing_owes None outcomes [] rest h.follows)) (printed_first None outcomes [] rest h.follows)
  next_in_turn done p q todo next s (takes_alone e o w d rest g kept) h =
      giving done todo h s next refl h.follows (all_of (owed next) (to_report s) (ap (λ (l : List Reportable). outcome o ∷ l) h.follows)) h.follows
  next_in_turn done p q todo next s (carries o answer c rest carried) h =
      silently done todo h s next refl refl (ap (λ (l : List Reportable). outcome o ∷ l) (due_owes _ rest)) (due_owes _ rest ∙ h.follows)
  next_in_turn done p q todo next s (receives seat e c rest went) h = silently done todo h s next refl refl refl h.follows
  next_in_turn done p q todo next s (rewrites line o w d rest g kept) h =
      giving done todo h s next refl h.follows (all_of (owed next) (to_report s) (printing_owes (Some line) (o ∷ []) [] rest h.follows)) (printed_first (Some line) (o ∷ []) [] rest h.follows)
  next_in_turn done p q todo next s (stalls_all rest) h = silently done todo h s next refl refl refl h.follows
  next_in_turn done p q todo next s (interrupts name result c rest called) h = silently done todo h s next refl refl refl h.follows
  next_in_turn done p q todo next s (prints r k rest tries) h =
      in_turn done todo h s next
      (subst (λ (l : List Reportable). InOrder l (flat_map to_report done ++ [])) (sym (append_assoc (flat_map was_reported done) (in_report r) (owed rest)))
      (subst (InOrder (flat_map was_reported done ++ (in_report r ++ owed rest))) (sym (append-nil (flat_map to_report done))) h.order))
      h.follows
  next_in_turn done p q todo next s (heeds c now n a rest clock went) h = silently done todo h s next refl refl (notes_owe n rest) (orderly next (notes_owe n rest ∙ h.follows))
  next_in_turn done p q todo next s (breaks i entries why x rest fails) h = breaking done todo h s next refl refl (fault_owes why)
  next_in_turn done p q todo next s (prints_fault why whole k tries) h = breaking done todo h s next refl refl refl

  in_order : (done : List RunStep) (p q : RunPlace A C K) (todo left : List Item) (before after : List RunStep) (r : Report) → Run R p todo (before ++ printed r ∷ after) left q → InTurn done todo
      → IsReportOf (done ++ before) r
  in_order done p q todo left [] after r (next, mid, prints x k rest tries, more) h =
      subst (λ (l : List RunStep). IsReportOf l x) (sym (append-nil done))
      (front (flat_map was_reported done ++ in_report x) (owed rest)
      (subst (λ (l : List Reportable). InOrder l (flat_map to_report done)) (sym (append_assoc (flat_map was_reported done) (in_report x) (owed rest))) h.order))
  in_order done p q todo left (s ∷ before) after r (next, mid, goes, more) h =
      subst (λ (l : List RunStep). IsReportOf l r) (append_assoc done (s ∷ []) before)
      (in_order (done ++ s ∷ []) mid q next left before after r more (next_in_turn done p mid todo next s goes h))

  -- what was printed is of the steps before it, where the run began with its agenda
  pub printed_of : (p q : RunPlace A C K) (left : List Item) (before after : List RunStep) (r : Report) → Run R p (item.ask ∷ []) (before ++ printed r ∷ after) left q → IsReportOf before r
  printed_of p q left before after r run = in_order [] p q (item.ask ∷ []) left before after r run (record { order = no_more; follows = refl })
