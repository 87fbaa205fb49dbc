-- What the driver's calls did.
use Rattle.std.proofs.Common.{◌≡◌, ℕ, ◌+◌, ◌^◌, ◌≤◌, ◌<◌, List, [], ◌∷◌, ◌++◌, Option, Some, None, refl, sym, subst, Ok, Err, true, false, length}
use Rattle.std.specs.Prelude.{◌⊎◌, Bool, Result, IfErr, IsSomeAnd, is_ok, map}
use Rattle.disk_model.specs.Disk.{DiskView, SameDisk}
use Rattle.host_events.specs.declared.command.Command.TheVariants as command
use Rattle.host_events.specs.declared.event.Event.{Event}
use Rattle.host_events.specs.declared.event.Event.TheVariants as event
use Rattle.host_events.specs.declared.outcome.Outcome.{Outcome}
use Rattle.host_events.specs.declared.outcome.HostFault.{HostFault}
use Rattle.host_events.specs.declared.outcome.HostFault.TheVariants as hosts
use Rattle.host_events.specs.declared.reply.Reply.{Reply}
use Rattle.session_engine.specs.World.{World}
use Rattle.session_engine.specs.Does.{following}
use Rattle.session_engine.specs.Host.{HostView, IsHost, Took}
use Rattle.session_engine.specs.Faults.{Failed}
use Rattle.child_calls.specs.declared.seat.Seat.{Seat}
use Rattle.child_edge.specs.Faithful.{at}
use Rattle.child_edge.specs.Interrupts.{Interrupts}
use Rattle.child_edge.specs.Seats.{waits}
use Rattle.child_edge.specs.Together.{FailsTogether, RanTogether}
use Rattle.child_edge.specs.declared.interrupting.Interrupted.{Interrupted}
use Rattle.child_edge.specs.declared.together.GaveTogether.{GaveTogether}
use Rattle.child_edge.specs.declared.together.TogetherFault.{TogetherFault}
use Rattle.child_edge.specs.declared.together.TogetherFault.TheVariants as at_gate
use Rattle.child_edge.proofs.Faulting.{stopped_if}
use Rattle.arrivals.specs.Watching.{Asked}
use Rattle.arrivals.specs.declared.sources.Woken.{Woken}
use Rattle.tellings.specs.Voice.{CutShort, IsWithheld}
use Rattle.tellings.specs.declared.note.Note.{Note}
use Rattle.offline_programs.specs.declared.fault.RunFault.{RunFault}
use Rattle.offline_programs.specs.declared.fault.RunFault.TheVariants as fault
use Rattle.driver.specs.declared.action.Action.{Action}
use Rattle.driver.specs.Reports.{TurnCame, Report, interrupt_came, printed_text}
use Rattle.driver.specs.Items.{Item, after_fault, ask, chose, halt, hear, heard, heed, heeded, interrupt, interrupted, items_by, join, notes, print, print_fault, printed, printed_fault, printing, rewrite, rewrote, stall, stalled, stalls, take, took, watch, watched}
use Rattle.driver.specs.Hearing.{HeardReady}
use Rattle.driver.specs.Place.{RunPlace, Rules, Tries, TriesLast}
use Rattle.driver.specs.Steps.{Fails, Goes, Run, asks, broken, fault_at_gate, hears, heeds, interrupts, lost, most_together, prints, prints_fault, rewrites, stalls_all, takes, too_many, uncounted, unheard, unnumbered, unprinted, unsaid, unstalled, untaken, unwatched, unwritten, watches}
use Rattle.driver.specs.Runs.{DidSteps, Parts, again, again_by, left_at_end, left_by_answer, lost_there, parts, seen, stopped, works}
use Rattle.driver.proofs.Running.{did_break, did_more, did_one, run_join}

module _ {A C K : Type 0} (R : Rules A C K) (n : ℕ) (rest : List Item) (w : World) (h : HostView) (stands : IsHost h w) where
  pub did_print : (c : C) (k l : K) (a : A) (s : Report) (r : Result (Unit {0}) RunFault) → Tries R.sink k h.store.disk (printed_text R.sink.voice w s) (is_ok r) l → IfErr r (IsWithheld R.sink.voice)
      → IfErr r (CutShort R.sink.voice.in_lines (R.sink.written k) (R.sink.written l) (printed_text R.sink.voice w s))
      → DidSteps R (seen n w (parts h c k a)) (print s ∷ rest) (left_by_answer (λ done. rest)) r (n, parts h c l a)
  did_print c k l a s (Ok done) tries is cut =
      did_one R (seen n w (parts h c k a)) (print s ∷ rest) (printed s) (left_by_answer (λ done. rest)) (Ok done) w (n, parts h c l a) (prints s l rest tries) stands
  did_print c k l a s (Err why) tries is cut =
      did_break R (seen n w (parts h c k a)) (print s) rest [] (λ done. rest) why w (n, parts h c l a) (unprinted s why l is (record { tried = tries.tried; cut = cut })) (works stands)

  pub did_heed : (c : C) (k : K) (a b : A) (x : TurnCame) (now : ℕ) (done : Unit {0}) → R.sources.clock c now → R.agenda.heeds a w now x None b
      → DidSteps R (seen n w (parts h c k a)) (heed x ∷ rest) (left_by_answer (λ done. rest)) (Ok done) (n, parts h c k b)
  did_heed c k a b x now done clock is =
      did_one R (seen n w (parts h c k a)) (heed x ∷ rest) (heeded x None) (left_by_answer (λ done. rest)) (Ok done) w (n, parts h c k b) (heeds x now None b rest clock is) stands

  pub did_note : (c : C) (k : K) (a b : A) (x : TurnCame) (now : ℕ) (note : Note) (r : Result (Unit {0}) RunFault) (last : ℕ × Parts A C K) → R.sources.clock c now → R.agenda.heeds a w now x (Some note) b
      → DidSteps R (seen n w (parts h c k b)) (notes (Some note) ++ rest) (left_by_answer (λ done. rest)) r last
      → DidSteps R (seen n w (parts h c k a)) (heed x ∷ rest) (left_by_answer (λ done. rest)) r last
  did_note c k a b x now note r last clock is d =
      did_more R (seen n w (parts h c k a)) (heed x ∷ rest) (heeded x (Some note)) (notes (Some note) ++ rest) (seen n w (parts h c k b)) (left_by_answer (λ done. rest)) r last
      (heeds x now (Some note) b rest clock is) d

  pub did_watch : (c d : C) (k : K) (a b : A) (q : Asked) (woken : Woken) (done : Unit {0}) → R.sources.wakes c q (Some woken) d → R.agenda.woken a woken b
      → DidSteps R (seen n w (parts h c k a)) (watch q ∷ rest) (left_by_answer (λ done. rest)) (Ok done) (n, parts h d k b)
  did_watch c d k a b q woken done wakes is =
      did_one R (seen n w (parts h c k a)) (watch q ∷ rest) (watched q woken) (left_by_answer (λ done. rest)) (Ok done) w (n, parts h d k b) (watches q woken d b rest wakes is) stands

  pub watch_failed : {T : Type 0} (c d : C) (k : K) (a : A) (q : Asked) (left : T → List Item) → R.sources.wakes c q None d
      → DidSteps R (seen n w (parts h c k a)) (watch q ∷ rest) (left_by_answer left) (Err fault.Input) (n, parts h d k a)
  watch_failed c d k a q left wakes = did_break R (seen n w (parts h c k a)) (watch q) rest [] left fault.Input w (n, parts h d k a) (unwatched q d wakes) (works stands)

module _ {A C K : Type 0} (R : Rules A C K) (n : ℕ) (w : World) (h : HostView) (stands : IsHost h w) where
  -- the agenda was asked, and what it asked for was done
  pub did_ask : (c : C) (k : K) (a b : A) (now : ℕ) (t : Action) (r : Result Bool RunFault) (last : ℕ × Parts A C K) → R.sources.clock c now → R.agenda.says a w now (Ok t) b
      → DidSteps R (seen (n + 1) w (parts h c k b)) (items_by t) (left_by_answer again) r last → DidSteps R (seen n w (parts h c k a)) (ask ∷ []) (left_by_answer again) r last
  did_ask c k a b now t r last clock says d =
      did_more R (seen n w (parts h c k a)) (ask ∷ []) (chose t) (items_by t) (seen (n + 1) w (parts h c k b)) (left_by_answer again) r last (asks now t b clock says) d

  pub ask_failed : (c : C) (k : K) (a b : A) (now : ℕ) (why : RunFault) → R.sources.clock c now → R.agenda.says a w now (Err why) b
      → DidSteps R (seen n w (parts h c k a)) (ask ∷ []) (left_by_answer again) (Err why) (n + 1, parts h c k b)
  ask_failed c k a b now why clock says =
      did_break R (seen n w (parts h c k a)) ask [] [] again why w (n + 1, parts h c k b) (unsaid now why b clock says) (works stands)

-- Events that are taken as one group.

module _ {A C K : Type 0} (R : Rules A C K) (n : ℕ) (rest : List Item) (w : World) (h : HostView) (stands : IsHost h w) (from : Option ℕ) (events : List Event) (c : C) (k : K) (a : A) where
  abbrev pub p : RunPlace A C K
  p = seen n w (parts h c k a)

  pub took_together : (d : C) (g : HostView) (gave : GaveTogether) → RanTogether R.sources.after (at w c h.store.disk) events g d gave
      → DidSteps R p (take from events ∷ rest) (left_by_answer (λ (x : GaveTogether). printing from x.outcomes.items x.replies.items ++ rest)) (Ok gave) (n, parts g d k a)
  took_together d g gave r =
      did_one R p (take from events ∷ rest) (took events gave.outcomes.items r.followed)
      (left_by_answer (λ (x : GaveTogether). printing from x.outcomes.items x.replies.items ++ rest)) (Ok gave) r.leads (n, parts g d k a)
      (subst (λ (rs : List Reply). Goes R p (take from events ∷ rest) (took events gave.outcomes.items r.followed)
      (printing from gave.outcomes.items rs ++ rest) (seen n r.leads (parts g d k a))) (sym r.replied)
      (takes from events gave.outcomes.items r.followed r.leads d g.store.disk rest r.run)) r.stands

  pub too_many_events : (left : GaveTogether → List Item) → (most_together < length events) ⊎ IsSomeAnd from (λ x. 2 ^ 64 ≤ x + most_together + 1)
      → DidSteps R p (take from events ∷ rest) (left_by_answer left) (Err fault.InputTooLong) (n, parts h c k a)
  too_many_events left many = did_break R p (take from events) rest [] left fault.InputTooLong w (n, parts h c k a) (too_many from events many) (works stands)

  pub failed_together : (left : GaveTogether → List Item) (d : C) (g : HostView) (f : TogetherFault) → FailsTogether R.sources.after (at w c h.store.disk) events g d f
      → DidSteps R p (take from events ∷ rest) (left_by_answer left) (Err (fault_at_gate f)) (n, parts g d k a)
  failed_together left d g at_gate.OutOfMemory (goes_on, disk, same) =
      subst (λ (y : C). DidSteps R p (take from events ∷ rest) (left_by_answer left) (Err fault.OutOfMemory) (n, parts g y k a)) (sym same)
      (did_break R p (take from events) rest [] left fault.OutOfMemory w (n, parts g c k a)
      (subst (λ (x : DiskView). Fails R p (take from events) [] fault.OutOfMemory (record p { disk = x })) (sym disk) (untaken from events)) (works goes_on))
  failed_together left d g at_gate.Lost (l, same) =
      subst (λ (y : C). DidSteps R p (take from events ∷ rest) (left_by_answer left) (Err (fault.Host hosts.Disk)) (n, parts g y k a)) (sym same)
      (did_break R p (take from events) rest [] left (fault.Host hosts.Disk) w (n, parts g c k a) (lost from events g l) (lost_there events h.store.disk l))
  failed_together left d g (at_gate.Host f) (entries, e, v, disk, up_to, gone) =
      did_break R p (take from events) rest entries left (fault.Host f) v (n, parts g d k a) (broken from events entries e f v d disk g up_to gone) (stopped disk e f gone)

module _ {A C K : Type 0} (R : Rules A C K) (n : ℕ) (rest : List Item) (w : World) (h : HostView) (stands : IsHost h w) (c : C) (k : K) (a : A) where
  pub did_hear : {T : Type 0} (seat : Seat) (most : ℕ) (events : List Event) (d : C) (left : Result T RunFault → List Item) (r : Result T RunFault) (last : ℕ × Parts A C K) → HeardReady R.sources seat most c events d
      → DidSteps R (seen n w (parts h d k a)) (join events ∷ rest) left r last → DidSteps R (seen n w (parts h c k a)) (hear seat most ∷ rest) left r last
  did_hear seat most events d left r last was did =
      did_more R (seen n w (parts h c k a)) (hear seat most ∷ rest) (heard events) (join events ∷ rest) (seen n w (parts h d k a)) left r last (hears seat most events d rest was) did

  pub hear_failed : {T : Type 0} (seat : Seat) (most : ℕ) (d : C) (left : T → List Item) → d ≡ c → DidSteps R (seen n w (parts h c k a)) (hear seat most ∷ rest) (left_by_answer left) (Err fault.OutOfMemory) (n, parts h d k a)
  hear_failed seat most d left same =
      subst (λ (y : C). DidSteps R (seen n w (parts h c k a)) (hear seat most ∷ rest) (left_by_answer left) (Err fault.OutOfMemory) (n, parts h y k a)) (sym same)
      (did_break R (seen n w (parts h c k a)) (hear seat most) rest [] left fault.OutOfMemory w (n, parts h c k a) (unheard seat most) (works stands))

  pub did_stall : {T : Type 0} (events : List Event) (left : Result T RunFault → List Item) (r : Result T RunFault) (last : ℕ × Parts A C K) → events ≡ map stalls (waits w)
      → DidSteps R (seen n w (parts h c k a)) (take None events ∷ rest) left r last → DidSteps R (seen n w (parts h c k a)) (stall ∷ rest) left r last
  did_stall events left r last are did =
      did_more R (seen n w (parts h c k a)) (stall ∷ rest) (stalled (waits w)) (take None (map stalls (waits w)) ∷ rest) (seen n w (parts h c k a)) left r last (stalls_all rest)
      (subst (λ (es : List Event). DidSteps R (seen n w (parts h c k a)) (take None es ∷ rest) left r last) are did)

  pub stall_failed : {T : Type 0} (left : T → List Item) → DidSteps R (seen n w (parts h c k a)) (stall ∷ rest) (left_by_answer left) (Err fault.OutOfMemory) (n, parts h c k a)
  stall_failed left = did_break R (seen n w (parts h c k a)) stall rest [] left fault.OutOfMemory w (n, parts h c k a) unstalled (works stands)

  pub did_interrupt : {T : Type 0} (name : List ℕ) (result : Interrupted) (d : C) (left : Result T RunFault → List Item) (r : Result T RunFault) (last : ℕ × Parts A C K) → Interrupts R.sources.after w name c result d
      → DidSteps R (seen n w (parts h d k a)) (heed (interrupt_came result) ∷ rest) left r last → DidSteps R (seen n w (parts h c k a)) (interrupt name ∷ rest) left r last
  did_interrupt name result d left r last is did =
      did_more R (seen n w (parts h c k a)) (interrupt name ∷ rest) (interrupted name result) (heed (interrupt_came result) ∷ rest)
      (seen n w (parts h d k a)) left r last (interrupts name result d rest is) did

  pub did_rewrite : {T : Type 0} (line : ℕ) (o : Outcome) (g : HostView) (left : Result T RunFault → List Item) (r : Result T RunFault) (last : ℕ × Parts A C K) → SameDisk h.store.disk g.store.disk
      → (t : Took w (event.Command command.Checkpoint) h g o) → DidSteps R (seen n (following w t.did) (parts g c k a)) (printing (Some line) (o ∷ []) [] ++ rest) left r last
      → DidSteps R (seen n w (parts h c k a)) (rewrite line ∷ rest) left r last
  did_rewrite line o g left r last same t did =
      did_more R (seen n w (parts h c k a)) (rewrite line ∷ rest) (rewrote (record { event = event.Command command.Checkpoint; outcome = o; answer = None })) (printing (Some line) (o ∷ []) [] ++ rest)
      (seen n (following w t.did) (parts g c k a)) left r last
      (rewrites line o (following w t.did) g.store.disk rest (t.did, t.may, t.reported, refl) (record { same = same; moments = t.disk; holds = t.stands.stands.images })) did

  pub rewrite_failed : {T : Type 0} (line : ℕ) (g : HostView) (f : HostFault) (left : T → List Item) → SameDisk h.store.disk g.store.disk → g.closed ≡ true → Failed w (event.Command command.Checkpoint) h g f
      → DidSteps R (seen n w (parts h c k a)) (rewrite line ∷ rest) (left_by_answer left) (Err (fault.Host f)) (n, parts g c k a)
  rewrite_failed line g f left same shut failed =
      let gone = stopped_if {T = Unit {0}} (Err f) w (event.Command command.Checkpoint) h g stands failed same shut in
      did_break R (seen n w (parts h c k a)) (rewrite line) rest [] left (fault.Host f) w (n, parts g c k a) (unwritten line f g gone) (stopped h.store.disk (event.Command command.Checkpoint) f gone)

  pub rewrite_uncounted : {T : Type 0} (line : ℕ) (left : T → List Item) → 2 ^ 64 ≤ line + most_together + 1 → DidSteps R (seen n w (parts h c k a)) (rewrite line ∷ rest) (left_by_answer left) (Err fault.InputTooLong) (n, parts h c k a)
  rewrite_uncounted line left many = did_break R (seen n w (parts h c k a)) (rewrite line) rest [] left fault.InputTooLong w (n, parts h c k a) (unnumbered line many) (works stands)

-- The loop.

not_output : (why : RunFault) → (why ≡ fault.Output → ⊥) → after_fault why ≡ print_fault why ∷ []
not_output fault.Input other = refl
not_output fault.InputTooLong other = refl
not_output fault.Output other = absurd (other refl)
not_output fault.OutOfMemory other = refl
not_output (fault.Host f) other = refl
not_output (fault.Open cause) other = refl
not_output fault.InUse other = refl
not_output fault.SecondFile other = refl

module _ {A C K : Type 0} (R : Rules A C K) (p : RunPlace A C K) (todo : List Item) where
  pub did_again : {T : Type 0} (r : Result T RunFault) (now : ℕ × Parts A C K) → DidSteps R p todo (left_by_answer (λ (done : T). ask ∷ [])) r now → DidSteps R p todo (left_by_answer again) (again_by r) now
  did_again (Ok done) now d = record { steps = d.steps; world = d.world; ran = d.ran; stands = d.stands }
  did_again (Err why) now d = record { steps = d.steps; world = d.world; ran = d.ran; stands = d.stands }

  pub did_end : (done : Unit {0}) (now : ℕ × Parts A C K) → DidSteps R p todo (left_by_answer again) (Ok false) now → DidSteps R p todo (left_by_answer (λ (x : Unit {0}). [])) (Ok done) now
  did_end done now d = record { steps = d.steps; world = d.world; ran = d.ran; stands = d.stands }

  pub did_all : (done : Unit {0}) (now : ℕ × Parts A C K) → DidSteps R p todo (left_by_answer (λ (x : Unit {0}). [])) (Ok done) now → DidSteps R p todo left_at_end (Ok done) now
  did_all done now d = record { steps = d.steps; world = d.world; ran = d.ran; stands = d.stands }

  pub sink_failed : {T : Type 0} (left : T → List Item) (now : ℕ × Parts A C K) → DidSteps R p todo (left_by_answer left) (Err fault.Output) now → DidSteps {T = T} R p todo left_at_end (Err fault.Output) now
  sink_failed left now d = record { steps = d.steps; world = d.world; ran = d.ran; stands = d.stands }

  pub did_print_fault : {T : Type 0} (left : T → List Item) (why : RunFault) (n : ℕ) (h : HostView) (c : C) (k l : K) (a : A) (whole : Bool) → (why ≡ fault.Output → ⊥) → TriesLast R.sink k h.store.disk (R.sink.voice.fault why) whole l
      → DidSteps R p todo (left_by_answer left) (Err why) (n, parts h c k a) → DidSteps {T = T} R p todo left_at_end (Err why) (n, parts h c l a)
  did_print_fault left why n h c k l a whole other tries d = record {
    steps = d.steps ++ printed_fault why whole ∷ [];
    world = d.world;
    ran = run_join R p (seen n d.world (parts h c k a)) (seen n d.world (parts h c l a)) todo (after_fault why) (halt why ∷ []) d.steps (printed_fault why whole ∷ []) d.ran
        (subst (λ (t : List Item). Run R (seen n d.world (parts h c k a)) t (printed_fault why whole ∷ []) (halt why ∷ []) (seen n d.world (parts h c l a))) (sym (not_output why other))
        (halt why ∷ [], seen n d.world (parts h c l a), prints_fault why whole l tries, (refl, refl)));
    stands = d.stands;
  }

pub not_begun : {A C K : Type 0} (R : Rules A C K) (w : World) (x : Parts A C K) → IsHost x.host w → DidSteps R (seen 0 w x) (ask ∷ []) (left_by_answer again) (Ok true) (0, x)
not_begun R w x stands = record { steps = []; world = w; ran = (refl, refl); stands = stands }

pub asked_too_often : {A C K : Type 0} (R : Rules A C K) (n : ℕ) (w : World) (x : Parts A C K) (left : Unit {0} → List Item) → IsHost x.host w → 2 ^ 64 ≤ n + 1 → DidSteps R (seen n w x) (ask ∷ []) (left_by_answer left) (Err fault.InputTooLong) (n, x)
asked_too_often R n w x left stands many = did_break R (seen n w x) ask [] [] left fault.InputTooLong w (n, x) (uncounted many) (works stands)
