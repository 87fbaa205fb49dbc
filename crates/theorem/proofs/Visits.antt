-- An invocation is a turn.
use Rattle.std.proofs.Common.{◌≡◌, ⊎_elim, ℕ, List, [], ◌∷◌, ◌++◌, refl, ap, sym, ◌∙◌, subst, append-nil, append_assoc, IsTrue}
use Rattle.disk_model.specs.Disk.{DiskView, History, Image, Leaves, LeavesOnly}
use Rattle.disk_model.specs.inside.Moments.{at_end, goes_on, started, weakens}
use Rattle.worksheet.specs.declared.op.Op.{Op}
use Rattle.worksheet.specs.Ops.{sheet_of}
use Rattle.worksheet.specs.Checks.{Allowed}
use Rattle.recovery.specs.Sheets.{IsSheetImage, IsSheetOf}
use Rattle.host_events.specs.declared.event.Event.{Event}
use Rattle.host_events.specs.declared.outcome.HostFault.TheVariants as faults
use Rattle.host_events.specs.declared.outcome.Outcome.{Outcome}
use Rattle.session_engine.specs.World.{World, sheet_in, world_at_opening}
use Rattle.session_engine.specs.Does.{Does, MayDo, Runs, following}
use Rattle.session_engine.specs.Crash.{LeftAmong}
use Rattle.session_engine.proofs.Playing.{EitherSheet, either_sheet, run_on}
use Rattle.host_laws.specs.Turns.{EachTurned, HostTurn, HostsInTurn, LeftByTurn, LeftInTurn}
use Rattle.theorem.specs.Story.{CrashedSince}
use Rattle.theorem.specs.Programs.{Begun, Course, EndedAs, HasReported, Visit, Invocations, well, at_event, in_group, no_more, looked, cut_off, cut_since, ended}
use Rattle.theorem.proofs.Reported.{at_crash, opening_leaves}

runs_after : (w : World) (es : List Event) (os : List Outcome) (m : World) (fs : List Event) (ps : List Outcome) (v : World) → Runs w es os m → Runs m fs ps v → Runs w (es ++ fs) (os ++ ps) v
runs_after w [] [] m fs ps v first after = subst (λ (x : World). Runs x fs ps v) first after
runs_after w [] (o ∷ os) m fs ps v first after = absurd first
runs_after w (e ∷ es) [] m fs ps v first after = absurd first
runs_after w (e ∷ es) (o ∷ os) m fs ps v first after = (first.0, first.1, runs_after first.0 es os m fs ps v first.2 after)

module _ (before : Image) (disk : DiskView) (ops : List Op) (end : ℕ) (now : DiskView) (b : Begun before disk ops end now) where
  abbrev first : World
  first = world_at_opening ops disk.room end

  -- a turn in which these events were taken, and those lost
  turned : (events taken lost : List Event) → events ≡ taken ++ lost → (reported withheld : List Outcome) (v : World) → Runs first taken (reported ++ withheld) v
      → (i : Image) → IsSheetImage (sheet_in v) i → LeftByTurn disk.room before ops (record { events = events; reported = reported }) i
  turned events taken lost split reported withheld v run i image = (
    v.ops,
    record {
      allowed = b.allowed;
      opens = b.found;
      end = end;
      ends = b.ends;
      taken = taken;
      lost = lost;
      split = split;
      withheld = withheld;
      leads = v;
      run = run;
      ops = refl;
      leaves = image;
    },
  )

  -- an image that may be left within a list of events, with more after them
  among : (events more : List Event) (outcomes : List Outcome) (i : Image) → LeftAmong first events outcomes i → LeftByTurn disk.room before ops (record { events = events ++ more; reported = [] }) i
  among events more outcomes i l =
      turned (events ++ more) l.done (l.more ++ more) (ap (λ (x : List Event). x ++ more) l.split ∙ append_assoc l.done l.more more) [] l.outcomes l.leads l.runs i l.image

  module _ (events : List Event) (reported : List Outcome) (v : World) (mid : DiskView) (c : Course first now events reported v mid) where
    model_now : IsTrue now.keeps_model
    model_now = b.kept

    model_mid : IsTrue mid.keeps_model
    model_mid = subst IsTrue (sym c.same.keeps_model) model_now

    -- all of the events were taken, and these outcomes were reported, or none
    all_reported : (more : List Event) (i : Image) → IsSheetImage (sheet_in v) i → LeftByTurn disk.room before ops (record { events = events ++ more; reported = reported }) i
    all_reported more i image = turned (events ++ more) events more refl reported [] v (subst (λ (os : List Outcome). Runs first events os v) (sym (append-nil reported)) c.runs) i image

    none_reported : (more : List Event) (i : Image) → IsSheetImage (sheet_in v) i → LeftByTurn disk.room before ops (record { events = events ++ more; reported = [] }) i
    none_reported more i image = turned (events ++ more) events more refl [] reported v c.runs i image

    -- one event more was taken, of which nothing was reported
    one_more : (e : Event) (d : Does) → MayDo v e d → (i : Image) → IsSheetImage (sheet_in (following v d)) i
        → LeftByTurn disk.room before ops (record { events = events ++ e ∷ []; reported = reported }) i
    one_more e d may i image = turned (events ++ e ∷ []) (events ++ e ∷ []) [] (sym (append-nil (events ++ e ∷ []))) reported (d.reported ∷ []) (following v d)
        (run_on first events reported v e d d.reported c.runs may refl) i image

    one_more_withheld : (e : Event) (d : Does) → MayDo v e d → (i : Image) → IsSheetImage (sheet_in (following v d)) i
        → LeftByTurn disk.room before ops (record { events = events ++ e ∷ []; reported = [] }) i
    one_more_withheld e d may i image = turned (events ++ e ∷ []) (events ++ e ∷ []) [] (sym (append-nil (events ++ e ∷ []))) [] (reported ++ d.reported ∷ []) (following v d)
        (run_on first events reported v e d d.reported c.runs may refl) i image

    -- some of a group were
    some_more : (taken dropped : List Event) (withheld : List Outcome) (leads : World) → Runs v taken withheld leads → (i : Image) → IsSheetImage (sheet_in leads) i
        → LeftByTurn disk.room before ops (record { events = events ++ (taken ++ dropped); reported = reported }) i
    some_more taken dropped withheld leads runs i image = turned (events ++ (taken ++ dropped)) (events ++ taken) dropped (sym (append_assoc events taken dropped)) reported withheld leads
        (runs_after first events reported v taken withheld leads c.runs runs) i image

    some_withheld : (taken dropped : List Event) (withheld : List Outcome) (leads : World) → Runs v taken withheld leads → (i : Image) → IsSheetImage (sheet_in leads) i
        → LeftByTurn disk.room before ops (record { events = events ++ (taken ++ dropped); reported = [] }) i
    some_withheld taken dropped withheld leads runs i image = turned (events ++ (taken ++ dropped)) (events ++ taken) dropped (sym (append_assoc events taken dropped)) [] (reported ++ withheld) leads
        (runs_after first events reported v taken withheld leads c.runs runs) i image

    -- at every moment of how it came to an end, where all is reported
    ending : (more : List Event) (back : DiskView) → EndedAs v mid more back → LeavesOnly (LeftByTurn disk.room before ops (record { events = events ++ more; reported = reported })) mid.history back.history
    ending more back well = started (LeftByTurn disk.room before ops (record { events = events ++ []; reported = reported })) mid.history (λ i image. all_reported [] i (c.holds model_mid i image))
    ending more back (at_event e faults.Closed last same cause) = absurd cause
    ending more back (at_event e faults.Disk last same cause) =
        let write = cause.1.0 in
        weakens (EitherSheet v write.does) (LeftByTurn disk.room before ops (record { events = events ++ e ∷ []; reported = reported })) mid.history last.history
        (λ i either. ⊎_elim (all_reported (e ∷ []) i) (one_more e write.does write.may i) either)
        (either_sheet v write.does mid last c.holds cause.1.1 model_mid)
    ending more back (at_event e faults.OutOfMemory last same cause) =
        subst (λ (d : DiskView). LeavesOnly (LeftByTurn disk.room before ops (record { events = events ++ e ∷ []; reported = reported })) mid.history d.history) (sym cause.0)
        (started (LeftByTurn disk.room before ops (record { events = events ++ e ∷ []; reported = reported })) mid.history (λ i image. all_reported (e ∷ []) i (c.holds model_mid i image)))
    ending more back (at_event e faults.JournalFull last same cause) =
        subst (λ (d : DiskView). LeavesOnly (LeftByTurn disk.room before ops (record { events = events ++ e ∷ []; reported = reported })) mid.history d.history) (sym cause.0)
        (started (LeftByTurn disk.room before ops (record { events = events ++ e ∷ []; reported = reported })) mid.history (λ i image. all_reported (e ∷ []) i (c.holds model_mid i image)))
    ending more back (in_group taken dropped withheld leads last runs same moments) =
        weakens (IsSheetOf (sheet_in v) (sheet_in leads)) (LeftByTurn disk.room before ops (record { events = events ++ (taken ++ dropped); reported = reported })) mid.history last.history
        (λ i either. ⊎_elim (all_reported (taken ++ dropped) i) (some_more taken dropped withheld leads runs i) either) (moments model_mid)

    -- less may have been reported, too
    withheld_turn : (es : List Event) (i : Image) → LeftByTurn disk.room before ops (record { events = es; reported = reported }) i → LeftByTurn disk.room before ops (record { events = es; reported = [] }) i
    withheld_turn es i t = (
      t.0,
      record {
        allowed = t.1.allowed;
        opens = t.1.opens;
        end = t.1.end;
        ends = t.1.ends;
        taken = t.1.taken;
        lost = t.1.lost;
        split = t.1.split;
        withheld = reported ++ t.1.withheld;
        leads = t.1.leads;
        run = t.1.run;
        ops = t.1.ops;
        leaves = t.1.leaves;
      },
    )

    -- at every moment from the opening to the end
    pub moments : (more : List Event) (back : DiskView) → EndedAs v mid more back
        → LeavesOnly (LeftByTurn disk.room before ops (record { events = events ++ more; reported = [] })) now.history back.history
    moments more back ends =
        goes_on (LeftByTurn disk.room before ops (record { events = events ++ more; reported = [] })) now.history mid.history back.history
        (weakens (LeftAmong first events reported) (LeftByTurn disk.room before ops (record { events = events ++ more; reported = [] })) now.history mid.history (among events more reported) (c.moments model_now))
        (weakens (LeftByTurn disk.room before ops (record { events = events ++ more; reported = reported })) (LeftByTurn disk.room before ops (record { events = events ++ more; reported = [] })) mid.history back.history
        (withheld_turn (events ++ more)) (ending more back ends))

    -- and at its end all that was reported is there
    pub at_the_end : (more : List Event) (back : DiskView) → EndedAs v mid more back → Leaves (LeftByTurn disk.room before ops (record { events = events ++ more; reported = reported })) back.history.now
    at_the_end more back ends = at_end (LeftByTurn disk.room before ops (record { events = events ++ more; reported = reported })) mid.history back.history (ending more back ends)

-- Invocations one after another are turns.

module _ (room : ℕ) (before : Image) (turn : HostTurn) (mid : Image) (disk back : DiskView) (same : disk.room ≡ room) (v : Visit before disk turn back) where
  abbrev Left : List Outcome → Type 0
  Left reported = LeftByTurn room before v.ops (record { events = turn.events; reported = reported }) mid

  as_given : (reported : List Outcome) → LeftByTurn disk.room before v.ops (record { events = v.events ++ v.unreported; reported = reported }) mid → Left reported
  as_given reported l = subst (λ (r : ℕ). LeftByTurn r before v.ops (record { events = turn.events; reported = reported }) mid) same
      (subst (λ (es : List Event). LeftByTurn disk.room before v.ops (record { events = es; reported = reported }) mid) (sym v.is) l)

  pub was_cut : CrashedSince v.now.history back.history mid → Left []
  was_cut crashed = as_given [] (at_crash (LeftByTurn disk.room before v.ops (record { events = v.events ++ v.unreported; reported = [] })) v.now.history back.history mid
      (moments before disk v.ops v.end v.now v.begun v.events turn.reported v.leads v.mid v.course v.unreported back v.ended) crashed)

  pub was_reported : (reported : List Outcome) (at : History) → LeavesOnly (HasReported (world_at_opening v.ops disk.room v.end) turn.events reported) at back.history
      → CrashedSince at back.history mid → Left reported
  was_reported reported at kept crashed =
      let l = at_crash (HasReported (world_at_opening v.ops disk.room v.end) turn.events reported) at back.history mid kept crashed in
      subst (λ (r : ℕ). LeftByTurn r before v.ops (record { events = turn.events; reported = reported }) mid) same
      (turned before disk v.ops v.end v.now v.begun turn.events l.taken l.lost l.split reported l.withheld l.leads l.runs mid l.image)

  pub has_ended : CrashedSince back.history back.history mid → Left turn.reported
  has_ended crashed = as_given turn.reported (at_crash (LeftByTurn disk.room before v.ops (record { events = v.events ++ v.unreported; reported = turn.reported })) back.history back.history mid
      (started (LeftByTurn disk.room before v.ops (record { events = v.events ++ v.unreported; reported = turn.reported })) back.history
      (at_the_end before disk v.ops v.end v.now v.begun v.events turn.reported v.leads v.mid v.course v.unreported back v.ended)) crashed)

pub each_invoked : (room : ℕ) (before : Image) (turns : List HostTurn) (after : Image) → Invocations room before turns after → EachTurned room before turns after
each_invoked room before turns after no_more = refl
each_invoked room before turns after (looked {mid = mid} disk back restarted looks crashed more) =
    subst (λ (i : Image). EachTurned room i turns after) (opening_leaves before disk back mid restarted looks crashed) (each_invoked room mid turns after more)
each_invoked room before turns after (cut_off {mid = mid} {turn = turn} {turns = others} disk back same v crashed more) =
    let left = was_cut room before turn mid disk back same v crashed in (mid, (v.ops, left.0, left.1), each_invoked room mid others after more)
each_invoked room before turns after (cut_since {mid = mid} {turn = turn} {turns = others} disk back same v reported at kept crashed more) =
    let left = was_reported room before turn mid disk back same v reported at kept crashed in (mid, (v.ops, left.0, left.1), each_invoked room mid others after more)
each_invoked room before turns after (ended {mid = mid} {turn = turn} {turns = others} disk back same v crashed more) =
    let left = has_ended room before turn mid disk back same v crashed in (mid, (v.ops, left.0, left.1), each_invoked room mid others after more)

-- what they left
pub invocations_left : HostsInTurn → (room : ℕ) (first : List Op) (before after : Image) (turns : List HostTurn)
    → Allowed first → IsSheetImage (sheet_of first) before → Invocations room before turns after → LeftInTurn room first before after turns
invocations_left hosts room first before after turns allowed image story =
    hosts room first before after turns allowed image (each_invoked room before turns after story)
