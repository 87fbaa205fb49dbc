-- Commands that only change the worksheet, and such commands that are taken as a whole or not at all.
use Rattle.std.proofs.Common.{◌≡◌, true, false, List, [], ◌∷◌, ◌++◌, Option, Some, None, refl, sym, subst, ap, ◌∙◌, append-nil, inl, inr}
use Rattle.std.proofs.lemmas.Bool.{false≢true}
use Rattle.std.specs.Prelude.{Bool, is_some}
use Rattle.std.specs.List.{AllByRecursion}
use Rattle.disk_model.specs.Disk.{DiskView, SameDisk}
use Rattle.worksheet.specs.declared.refusal.Refusal.{Refusal}
use Rattle.worksheet.specs.Checks.{first_of}
use Rattle.host_events.specs.Commands.{op_of}
use Rattle.host_events.specs.declared.command.Command.{Command}
use Rattle.host_events.specs.declared.command.Command.TheVariants as command
use Rattle.host_events.specs.declared.event.Event.{Event}
use Rattle.host_events.specs.declared.event.Event.TheVariants as event
use Rattle.host_events.specs.declared.outcome.Outcome.{Outcome}
use Rattle.host_events.specs.declared.outcome.HostFault.{HostFault}
use Rattle.host_events.specs.declared.outcome.HostFault.TheVariants as hosts
use Rattle.session_engine.specs.World.{World, sheet_in}
use Rattle.session_engine.specs.Refused.{command_refusals}
use Rattle.session_engine.specs.Does.{CommandDoes, Does, Gives, Runs}
use Rattle.session_engine.specs.Host.{HostView, IsHost}
use Rattle.session_engine.specs.Faults.{CauseOf}
use Rattle.session_engine.specs.Gathers.{FlushesTo}
use Rattle.session_engine.specs.Groups.{HaltsGroup, StoppedGroup}
use Rattle.session_engine.specs.inside.Until.{HaltsBy, TookBy}
use Rattle.session_engine.specs.declared.play.GroupFault.{GroupFault}
use Rattle.session_engine.specs.declared.play.GroupFault.TheVariants as group
use Rattle.session_engine.specs.Whole.{HaltsWhole, MadeWhole, OnlyEdits, is_edit}
use Rattle.session_engine.specs.declared.whole.Whole.{Whole}
use Rattle.session_engine.specs.declared.whole.Whole.TheVariants as whole
use Rattle.session_engine.specs.declared.whole.WholeFault.{WholeFault}
use Rattle.session_engine.specs.declared.whole.WholeFault.TheVariants as halt
use Rattle.child_edge.specs.Wholly.{FailsWhole, ServesWhole}
use Rattle.child_edge.specs.EditGroups.{EditsKept, LostEdits, TookEdits}
use Rattle.child_edge.proofs.Gates.{either, lost_edits_at_once, lost_whole_at_once, same_disk, took_at_once}

-- Such commands have no effect.

does_alone : (w : World) (c : Command) (r : Option Refusal) (d : Does) → is_some (op_of c) ≡ true → CommandDoes w c r d → d.reported.effect ≡ None
does_alone w c (Some r) d edit is = ap (λ (x : Does). x.reported.effect) is
does_alone w c None d edit (inr refused) = ap (λ (x : Does). x.reported.effect) refused.1
does_alone w (command.Session name tab words) None d edit (inl is) = ap (λ (x : Does). x.reported.effect) is
does_alone w (command.New after session input) None d edit (inl is) = ap (λ (x : Does). x.reported.effect) is
does_alone w (command.Set id input) None d edit (inl is) = ap (λ (x : Does). x.reported.effect) is
does_alone w (command.Remove id) None d edit (inl is) = ap (λ (x : Does). x.reported.effect) is
does_alone w (command.Move id after) None d edit (inl is) = ap (λ (x : Does). x.reported.effect) is
does_alone w (command.Clear id) None d edit (inl is) = ap (λ (x : Does). x.reported.effect) is
does_alone w (command.Eval id) None d edit (inl is) = absurd (false≢true edit)
does_alone w (command.Complete id cursor) None d edit (inl is) = absurd (false≢true edit)
does_alone w (command.CompleteText id cursor text) None d edit (inl is) = absurd (false≢true edit)
does_alone w (command.Stop name) None d edit (inl is) = absurd (false≢true edit)
does_alone w command.Checkpoint None d edit (inl is) = absurd (false≢true edit)

pub gives_alone : (w : World) (e : Event) (o : Outcome) (v : World) → is_edit e ≡ true → Gives w e o v → o.effect ≡ None
gives_alone w (event.Command c) o v edit gives = ap (λ (x : Outcome). x.effect) gives.2 ∙ does_alone w c (first_of (command_refusals w c)) gives.0 edit gives.1
gives_alone w (event.Child name number e) o v edit gives = absurd (false≢true edit)

each_alone : (w : World) (es : List Event) (os : List Outcome) (v : World) → OnlyEdits es → Runs w es os v → AllByRecursion (λ o. o.effect ≡ None) os
each_alone w [] [] v all runs = tt
each_alone w [] (o ∷ os) v all runs = absurd runs
each_alone w (e ∷ es) [] v all runs = absurd runs
each_alone w (e ∷ es) (o ∷ os) v all runs = (gives_alone w e o runs.0 all.0 runs.1, each_alone runs.0 es os v all.1 runs.2)

-- They are taken as a whole.

module _ (w : World) (old new : HostView) (before : old.store.real ≡ old.store.disk) (after : new.store.real ≡ new.store.disk) (stands : IsHost old w) (same : SameDisk old.store.real new.store.real) where
  pub serves_whole : (events : List Event) → OnlyEdits events → (made : Whole) → MadeWhole w events old new made → ServesWhole w events old new made
  serves_whole events edits (whole.Taken outcomes) made = let took = took_at_once w old new before after stands same events outcomes.items made.took in record {
    leads = took.0;
    taken = record { kept = took.1; accepted = made.accepted; alone = each_alone w events outcomes.items took.0 edits took.1.runs };
    stands = took.2;
  }
  serves_whole events edits (whole.Refused first last) made = made

  pub fails_whole : (events : List Event) (fault : WholeFault) → HaltsWhole w events old new fault → FailsWhole w events old new fault
  fails_whole events halt.NoRoom p = p
  fails_whole events halt.Closed p = p
  fails_whole events halt.Disk p = lost_whole_at_once w old new before after stands same events p

-- They are taken as one group, all or up to a refusal.

among : (done : List Event) (e : Event) (more : List Event) → OnlyEdits (done ++ e ∷ more) → is_edit e ≡ true
among [] e more all = all.0
among (x ∷ xs) e more all = among xs e more all.1

first_edits : (done rest : List Event) → OnlyEdits (done ++ rest) → OnlyEdits done
first_edits [] rest all = tt
first_edits (e ∷ es) rest all = (all.0, first_edits es rest all.1)

-- a fault of one of them is the disk's
edit_fault : (w : World) (e : Event) (old new : DiskView) (f : HostFault) → is_edit e ≡ true → ((f ≡ hosts.Disk) → ⊥) → CauseOf w e old new f → ⊥
edit_fault w (event.Child name number x) old new f edit kept cause = false≢true edit
edit_fault w (event.Command c) old new hosts.Closed edit kept cause = cause
edit_fault w (event.Command c) old new hosts.Disk edit kept cause = kept refl
edit_fault w (event.Command c) old new hosts.OutOfMemory edit kept cause = false≢true cause.1
edit_fault w (event.Command c) old new hosts.JournalFull edit kept cause = false≢true cause.1

pub never_stopped : (w : World) (events : List Event) (old new : HostView) (outcomes : List Outcome) (f : HostFault) → OnlyEdits events → StoppedGroup w events old new outcomes f → ⊥
never_stopped w events old new outcomes f edits s =
    edit_fault s.played.leads s.at s.before.store.disk s.after.store.disk f (among s.played.done s.at s.dropped (subst OnlyEdits s.played.split edits)) s.kept s.failed.cause

-- whether the group ends at a refusal or not, a fault leaves what one of the whole group does
pub halts_group : (up_to : Bool) (w : World) (events : List Event) (old new : HostView) (f : GroupFault) → HaltsBy up_to w events old new f → HaltsGroup w events old new f
halts_group false w events old new f p = p
halts_group true w events old new (group.Checkpoint back) p = p
halts_group true w events old new (group.NoRoom back) p = p
halts_group true w events old new (group.Stopped outcomes f) p = p.0
halts_group true w events old new group.Disk p = p.0

module _ (w : World) (old new : HostView) (before : old.store.real ≡ old.store.disk) (after : new.store.real ≡ new.store.disk) (stands : IsHost old w) (same : SameDisk old.store.real new.store.real) where
  edits_kept : (events : List Event) (outcomes : List Outcome) (v : World) → OnlyEdits events → Runs w events outcomes v → FlushesTo (sheet_in v) old.store new.store → IsHost new v
      → EditsKept w events outcomes v old.store.disk new.store.disk
  edits_kept events outcomes v edits runs flushes there = record {
    kept = record { runs = runs; same = same_disk w old new before after stands same; moments = either w old new before after stands same v flushes; holds = there.stands.images };
    alone = each_alone w events outcomes v edits runs;
  }

  pub took_edits : (up_to : Bool) (events : List Event) (outcomes : List Outcome) → OnlyEdits events → TookBy up_to w events outcomes old new → TookEdits up_to w events old new outcomes
  took_edits false events outcomes edits p = let runs = subst (λ (es : List Event). Runs w es outcomes p.played.leads) (sym (append-nil p.played.done) ∙ sym p.played.split) p.played.runs in record {
    done = events;
    first = record { rest = []; split = sym (append-nil events); ends = refl };
    leads = p.played.leads;
    taken = edits_kept events outcomes p.played.leads edits runs p.moments p.played.stands;
    stands = p.played.stands;
  }
  took_edits true events outcomes edits p = record {
    done = p.played.done;
    first = record { rest = p.rest; split = p.played.split; ends = p.stops };
    leads = p.played.leads;
    taken = edits_kept p.played.done outcomes p.played.leads (first_edits p.played.done p.rest (subst OnlyEdits p.played.split edits)) p.played.runs p.moments p.played.stands;
    stands = p.played.stands;
  }

  pub lost_edits : (up_to : Bool) (events : List Event) → HaltsBy up_to w events old new group.Disk → LostEdits up_to w events old.store.disk new
  lost_edits false events p = lost_edits_at_once w old new before after stands same false events p tt
  lost_edits true events p = lost_edits_at_once w old new before after stands same true events p.0 p.1
