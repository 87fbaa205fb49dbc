-- Events that are taken together, and what follows them.
use Rattle.std.proofs.Common.{◌≡◌, ◌+◌, ℕ, List, [], ◌∷◌, ◌++◌, Option, Some, None, refl, ap, sym, ◌∙◌, subst, append-nil, append_assoc, slice_get, length, arith, inl, inr}
use Rattle.std.specs.Prelude.{Bool}
use Rattle.disk_model.specs.Disk.{DiskView, Leaves, LeavesOnly, Rises, SameDisk}
use Rattle.recovery.specs.Sheets.{IsSheetImage, IsSheetOf}
use Rattle.host_events.specs.declared.event.Event.{Event}
use Rattle.host_events.specs.declared.outcome.Outcome.{Outcome}
use Rattle.host_events.specs.declared.outcome.HostFault.{HostFault}
use Rattle.host_events.specs.declared.outcome.HostFault.TheVariants as hosts
use Rattle.host_events.specs.declared.reply.Reply.{Reply}
use Rattle.worksheet.specs.Contents.{Contents}
use Rattle.session_engine.specs.World.{World, sheet_in}
use Rattle.session_engine.specs.Does.{Runs}
use Rattle.session_engine.specs.Host.{HostView, IsHost}
use Rattle.session_engine.specs.Faults.{CauseOf}
use Rattle.session_engine.specs.Gathers.{FlushesTo}
use Rattle.session_engine.specs.Groups.{FailedGroup, HaltsGroup, StoppedGroup, TookGroup}
use Rattle.session_engine.specs.declared.play.GroupFault.{GroupFault}
use Rattle.session_engine.specs.declared.play.GroupFault.TheVariants as group
use Rattle.child_calls.specs.Calls.{Answer}
use Rattle.child_edge.specs.Edge.{BrokeOff, Ran}
use Rattle.child_edge.specs.Faithful.{Relation, At, at, Entry, Carried, FirstOf, Follows, Served, ServedUpTo, due_of}
use Rattle.child_edge.specs.Kept.{HoldsSheet}
use Rattle.child_edge.specs.Reported.{reported}
use Rattle.session_engine.specs.Whole.{FailedWhole}
use Rattle.child_edge.specs.Wholly.{LostWhole}
use Rattle.child_edge.specs.EditGroups.{LastIf, LostEdits}
use Rattle.child_edge.specs.Together.{CarriesOut, FailsTogether, Followed, LeavesEither, LostTogether, RanTogether, Together, entries_after, trace_of}
use Rattle.child_edge.specs.declared.together.GaveTogether.{GaveTogether}
use Rattle.child_edge.specs.declared.together.TogetherFault.{TogetherFault}
use Rattle.child_edge.specs.declared.together.TogetherFault.TheVariants as halt
use Rattle.child_edge.specs.inside.Gating.{CarriedSoFar, EachUpTo, HaltsAtOnce, OneCarried, OneUpTo, TookAtOnce}
use Rattle.child_edge.proofs.Faulting.{same-at}
use Rattle.child_edge.proofs.Waits.{FirstOf-more, reported-join}

-- The gate.

-- a fault at which none of the events was taken
abbrev pub TakesNone : GroupFault → Type 0
TakesNone (group.Checkpoint back) = Unit {0}
TakesNone (group.NoRoom back) = Unit {0}
TakesNone (group.Stopped outcomes f) = ⊥
TakesNone group.Disk = ⊥

-- what it is answered for is so on the disk as it is then
cause-after : (w : World) (e : Event) (a b d : DiskView) (f : HostFault) → ((f ≡ hosts.Disk) → ⊥) → CauseOf w e a b f → CauseOf w e d d f
cause-after w e a b d hosts.Closed kept cause = absurd cause
cause-after w e a b d hosts.Disk kept cause = absurd (kept refl)
cause-after w e a b d hosts.OutOfMemory kept cause = (refl, cause.1)
cause-after w e a b d hosts.JournalFull kept cause = (refl, cause.1, cause.2)

module _ (w : World) (old new : HostView) (before : old.store.real ≡ old.store.disk) (after : new.store.real ≡ new.store.disk) (stands : IsHost old w) (same : SameDisk old.store.real new.store.real) where
  pub either : (v : World) → FlushesTo (sheet_in v) old.store new.store → LeavesEither w v old.store.disk new.store.disk
  either v flushes = λ model.
      subst (λ (d : DiskView). LeavesOnly (IsSheetOf (sheet_in w) (sheet_in v)) old.store.disk.history d.history) after
      (subst (λ (d : DiskView). LeavesOnly (IsSheetOf (sheet_in w) (sheet_in v)) d.history new.store.real.history) before
      (flushes model (sheet_in w) (subst (λ (d : DiskView). Leaves (IsSheetImage (sheet_in w)) d.history.now) (sym before) (stands.stands.images model))))

  pub same_disk : SameDisk old.store.disk new.store.disk
  same_disk = subst (λ (d : DiskView). SameDisk old.store.disk d) after (subst (λ (d : DiskView). SameDisk d new.store.real) before same)

  pub took_at_once : (events : List Event) (outcomes : List Outcome) → TookGroup w events outcomes old new → TookAtOnce w events old new outcomes
  took_at_once events outcomes p = (
    p.played.leads,
    record {
      runs = subst (λ (es : List Event). Runs w es outcomes p.played.leads) (sym (append-nil p.played.done) ∙ sym p.played.split) p.played.runs;
      same = same_disk;
      moments = either p.played.leads p.moments;
      holds = p.played.stands.stands.images;
    },
    p.played.stands,
  )

  pub lost_at_once : (events : List Event) → FailedGroup w events old new → LostTogether w events old.store.disk new
  lost_at_once events p = record {
    taken = p.played.done;
    dropped = p.rest;
    split = p.played.split;
    withheld = p.withheld;
    leads = p.played.leads;
    runs = p.played.runs;
    closed = p.closed;
    contents = p.contents;
    numbers = p.numbers;
    same = same_disk;
    failed = subst (λ (d : DiskView). Rises old.store.disk.faults d.faults) after (subst (λ (d : DiskView). Rises d.faults new.store.real.faults) before p.broke);
    moments = either p.played.leads p.moments;
  }

  -- the same of commands that were taken as a whole
  pub lost_whole_at_once : (events : List Event) → FailedWhole w events old new → LostWhole w events old.store.disk new
  unfolding lost_at_once
  lost_whole_at_once events p = record { lost = lost_at_once events p.failed; all = p.all; accepted = p.accepted }

  -- the same of commands of which none is taken after one that was refused, or all are
  pub lost_edits_at_once : (up_to : Bool) (events : List Event) (p : FailedGroup w events old new) → LastIf up_to p.withheld → LostEdits up_to w events old.store.disk new
  unfolding lost_at_once
  lost_edits_at_once up_to events p last = record { lost = lost_at_once events p; last = last }

  pub stopped_at_once : (events : List Event) (outcomes : List Outcome) (f : HostFault) → StoppedGroup w events old new outcomes f → HaltsAtOnce w events old new (halt.Host f)
  stopped_at_once events outcomes f p =
      let held : HoldsSheet p.played.leads new.store.disk = λ model. subst (λ (s : Contents). Leaves (IsSheetImage s) new.store.disk.history.now) p.contents (p.flushed.2 model) in (
        p.played.done,
        p.dropped,
        p.at,
        outcomes,
        p.played.leads,
        p.played.split,
        record { runs = p.played.runs; same = same_disk; moments = either p.played.leads p.moments; holds = held },
        record {
          closed = p.closed;
          held = held;
          same = same-at new.store.disk;
          contents = p.contents;
          numbers = p.numbers;
          cause = cause-after p.played.leads p.at p.before.store.disk p.after.store.disk new.store.disk f p.kept p.failed.cause;
        },
      )

  -- where no event was taken the disk is as it was
  pub none_at_once : (events : List Event) → old.store.owed ≡ [] → (fault : GroupFault) → TakesNone fault → HaltsGroup w events old new fault → IsHost new w × (new.store.disk ≡ old.store.disk)
  none_at_once events owed (group.Checkpoint back) is p = (subst (λ (x : HostView). IsHost x w) (sym p.2) stands, ap (λ (x : HostView). x.store.disk) p.2)
  none_at_once events owed (group.NoRoom back) is p = (p.stands, sym after ∙ p.untouched owed ∙ before)
  none_at_once events owed (group.Stopped outcomes f) is p = absurd is
  none_at_once events owed group.Disk is p = absurd is

-- Effects.

following-one : (f : Followed) → f.entries ≡ entries_after (f ∷ [])
following-one f = sym (append-nil f.entries)

pub following-append : (fs gs : List Followed) → entries_after (fs ++ gs) ≡ entries_after fs ++ entries_after gs
following-append [] gs = refl
following-append (f ∷ fs) gs = ap (λ (x : List Entry). f.entries ++ x) (following-append fs gs) ∙ sym (append_assoc f.entries (entries_after fs) (entries_after gs))

module _ {C : Type 0} (R : Relation C) (o : Outcome) (w : World) (c m : C) (d : DiskView) (a : Option Answer) (carried : Carried R c o.effect a m) where
  -- nothing comes of it
  pub carried_alone : due_of o.effect a ≡ None → OneCarried R o (at w c d) [] (at w m d)
  carried_alone none = (record { answer = a; entries = [] } ∷ [], (record { answer = a; entries = [] }, m, refl, carried, (sym none, refl)), refl)

  -- its fault and all that comes of it
  pub carried_on : (e : Event) (bs : List Entry) (t : At C) → due_of o.effect a ≡ Some e → Served R (at w m d) e bs t → OneCarried R o (at w c d) bs t
  carried_on e bs t due served = let f : Followed = record { answer = a; entries = bs } in
      (f ∷ [], (f, m, refl, carried, subst (λ (x : Option Event). Follows R (at w m d) x bs None t) (sym due) served), following-one f)

  pub carried_up_to : (e : Event) (bs : List Entry) (left : Event) (t : At C) → due_of o.effect a ≡ Some e → ServedUpTo R (at w m d) e bs left t → OneUpTo R o (at w c d) bs left t
  carried_up_to e bs left t due served = let f : Followed = record { answer = a; entries = bs } in
      (f ∷ [], (f, m, refl, carried, subst (λ (x : Option Event). Follows R (at w m d) x bs (Some left) t) (sym due) served), following-one f)

module _ {C : Type 0} (R : Relation C) (outcomes : List Outcome) (s : At C) (before : List Reply) where
  pub none_carried : (w : World) (h : HostView) (c : C) → IsHost h w → s ≡ at w c h.store.disk → Ran (CarriedSoFar R outcomes 0 s) before h c before
  none_carried w h c stands is = record { entries = []; leads = w; form = ([], (refl, sym is), refl); stands = stands; replied = sym (append-nil before) }

  module _ (k : ℕ) (o : Outcome) (h g : HostView) (c d : C) (old new : List Reply) (so : Ran (CarriedSoFar R outcomes k s) before h c old) (is : slice_get outcomes k ≡ Some o) where
    pub one_carried : Ran (OneCarried R o (at so.leads c h.store.disk)) old g d new → Ran (CarriedSoFar R outcomes (k + 1) s) before g d new
    one_carried p = record {
      entries = so.entries ++ p.entries;
      leads = p.leads;
      form = (
        so.form.0 ++ p.form.0,
        FirstOf-more (CarriesOut R None) outcomes k s so.form.0 (at so.leads c h.store.disk) o p.form.0 (at p.leads d g.store.disk) so.form.1 is p.form.1,
        ap (λ (x : List Entry). x ++ p.entries) so.form.2 ∙ ap (λ (x : List Entry). entries_after so.form.0 ++ x) p.form.2 ∙ sym (following-append so.form.0 p.form.0),
      );
      stands = p.stands;
      replied = reported-join before old new so.entries p.entries so.replied p.replied;
    }

    pub one_broke : (f : HostFault) → BrokeOff (OneUpTo R o (at so.leads c h.store.disk)) old g d new f → BrokeOff (EachUpTo R outcomes s) before g d new f
    one_broke f p = record {
      entries = so.entries ++ p.entries;
      leads = p.leads;
      disk = p.disk;
      failed = p.failed;
      form = (
        k,
        so.form.0,
        p.form.0,
        at so.leads c h.store.disk,
        o,
        so.form.1,
        is,
        p.form.1,
        ap (λ (x : List Entry). x ++ p.entries) so.form.2 ∙ ap (λ (x : List Entry). entries_after so.form.0 ++ x) p.form.2 ∙ sym (following-append so.form.0 p.form.0),
      );
      stopped = p.stopped;
      replied = reported-join before old new so.entries p.entries so.replied p.replied;
    }

-- All of it.

-- there are as many outcomes as events
pub as_many : (w : World) (es : List Event) (os : List Outcome) (v : World) → Runs w es os v → length os ≡ length es
as_many w [] [] v runs = refl
as_many w [] (o ∷ os) v runs = absurd runs
as_many w (e ∷ es) [] v runs = absurd runs
as_many w (e ∷ es) (o ∷ os) v runs = let rest = as_many runs.0 es os v runs.2 in omega (arith, rest)

pub fails_at_once : {C : Type 0} (R : Relation C) (w : World) (events : List Event) (old new : HostView) (c : C) (f : TogetherFault) → HaltsAtOnce w events old new f → FailsTogether R (at w c old.store.disk) events new c f
fails_at_once R w events old new c halt.OutOfMemory p = (p.0, p.1, refl)
fails_at_once R w events old new c halt.Lost p = (p, refl)
fails_at_once R w events old new c (halt.Host f) (done, dropped, e, outcomes, v, split, kept, stopped) = (
  trace_of done outcomes [],
  e,
  v,
  new.store.disk,
  inl (record { done = done; dropped = dropped; split = split; outcomes = outcomes; kept = kept; children = refl; are = refl }),
  stopped,
)

module _ {C : Type 0} (R : Relation C) (w : World) (c d : C) (events : List Event) (old mid new : HostView) (outcomes : List Outcome) (took : TookAtOnce w events old mid outcomes) (replies : List Reply) where
  pub ran_together : (gave : GaveTogether) → gave.outcomes.items ≡ outcomes → gave.replies.items ≡ replies → Ran (CarriedSoFar R outcomes (length outcomes) (at took.0 c mid.store.disk)) [] new d replies
      → RanTogether R (at w c old.store.disk) events new d gave
  ran_together gave is are p = record {
    followed = p.form.0;
    leads = p.leads;
    run = subst (λ (os : List Outcome). Together R (at w c old.store.disk) events os p.form.0 (at p.leads d new.store.disk)) (sym is) (record { middle = took.0; disk = mid.store.disk; kept = took.1; carried = p.form.1 });
    stands = p.stands;
    replied = are ∙ p.replied ∙ ap reported p.form.2;
  }

  pub broke_together : (f : HostFault) → BrokeOff (EachUpTo R outcomes (at took.0 c mid.store.disk)) [] new d replies f → FailsTogether R (at w c old.store.disk) events new d (halt.Host f)
  broke_together f p = let (k, followed, last, place, next, front, is, broken, are) = p.form in (
    trace_of events outcomes (followed ++ last),
    p.failed,
    p.leads,
    p.disk,
    inr (record {
      outcomes = outcomes;
      middle = took.0;
      disk = mid.store.disk;
      kept = took.1;
      whole = k;
      followed = followed;
      last = last;
      place = place;
      next = next;
      are_carried = front;
      is_next = is;
      broken = broken;
      are = refl;
    }),
    p.stopped,
  )
