-- Hosts one after another.
use Rattle.std.proofs.Common.{◌≡◌, ◌⊎◌, inl, inr, ⊎_elim, ℕ, List, [], ◌∷◌, ◌++◌, refl, ap, sym, ◌∙◌, subst, Some, None, append-nil, append_assoc}
use Rattle.std.specs.Bool.{IsTrue}
use Rattle.disk_model.specs.Disk.{DiskView, Image, InModel, IsImage, Leaves}
use Rattle.disk_model.specs.inside.Moments.{at_end}
use Rattle.worksheet.specs.declared.op.Op.{Op}
use Rattle.worksheet.specs.declared.op.Op.TheVariants as op
use Rattle.worksheet.specs.declared.field.Field.{Field}
use Rattle.worksheet.specs.declared.field.Answer.{Answer}
use Rattle.worksheet.specs.Contents.{Contents}
use Rattle.worksheet.specs.Ops.{sheet_of}
use Rattle.worksheet.specs.Checks.{Allowed, field_in}
use Rattle.recovery.specs.Sheets.{IsSheetImage}
use Rattle.recovery.specs.Laws.{OneSheet}
use Rattle.host_events.specs.declared.command.Command.TheVariants as command
use Rattle.host_events.specs.declared.event.Event.{Event}
use Rattle.host_events.specs.declared.event.Event.TheVariants as event
use Rattle.host_events.specs.declared.outcome.HostFault.{HostFault}
use Rattle.host_events.specs.declared.outcome.HostFault.TheVariants as hosts
use Rattle.host_events.specs.declared.outcome.Outcome.{Outcome}
use Rattle.session_engine.specs.World.{World, world_at_opening, sheet_in}
use Rattle.session_engine.specs.Does.{Does, MayDo, Runs, following}
use Rattle.session_engine.specs.Host.{EndsAt, HostView}
use Rattle.session_engine.specs.Crash.{HasPlayed, LeftAmong, StoppedAt}
use Rattle.host_laws.specs.Turns.{Has, HostStep, StepsOf, no_step, step_first, KeepField, AnsweredIn, HostTurn, Turned, EachTurned, no_host, host_first, LeftInTurn, HostsInTurn, EvaluatedAgain, LeftByTurn, PlaysAreTurns}
use Rattle.host_laws.proofs.FieldLaws.{cleared}
use Rattle.session_engine.proofs.Playing.{EitherSheet, either_sheet, run_on}
use Rattle.host_laws.proofs.ApartOwners.{Owned, opened_owned, owned_step}
use Rattle.host_laws.proofs.ByParts.{by_parts}
use Rattle.host_laws.proofs.Living.{Sound}
use Rattle.host_laws.proofs.Showing.{stepped}
use Rattle.host_laws.proofs.Same.{by_ops, runs}

-- a run has its steps
steps_of : (w : World) (es : List Event) (os : List Outcome) (v : World) → Runs w es os v → (steps : List HostStep) × StepsOf w es os steps v
steps_of w [] [] v run = ([], subst (λ (u : World). StepsOf w [] [] [] u) (sym run) no_step)
steps_of w [] (o ∷ os) v run = absurd run
steps_of w (e ∷ es) [] v run = absurd run
steps_of w (e ∷ es) (o ∷ os) v run =
    let more = steps_of run.0 es os v run.2 in
    (record { before = w; event = e; following = run.0 } ∷ more.0, step_first run.1 more.1)

-- a field that stays through these steps and those
keeps_both : (f : Field) (steps more : List HostStep) → KeepField f steps → KeepField f more → KeepField f (steps ++ more)
keeps_both f [] more h k = k
keeps_both f (s ∷ steps) more h k = (h.0, keeps_both f steps more h.1 k)

-- an answer that one of the first steps closed, and that stayed through the others
after_more : (f : Field) (steps more : List HostStep) → AnsweredIn steps f → KeepField f more → AnsweredIn (steps ++ more) f
after_more f steps more a stays = record {
  earlier = a.earlier;
  step = a.step;
  later = a.later ++ more;
  split = ap (λ (l : List HostStep). l ++ more) a.split ∙ append_assoc a.earlier (a.step ∷ a.later) more;
  closes = a.closes;
  stays = keeps_both f (a.step ∷ a.later) more a.stays stays;
}

-- an answer that one of the later steps closed
in_later : (f : Field) (steps more : List HostStep) → AnsweredIn more f → AnsweredIn (steps ++ more) f
in_later f steps more a = record {
  earlier = steps ++ a.earlier;
  step = a.step;
  later = a.later;
  split = ap (λ (l : List HostStep). steps ++ l) a.split ∙ sym (append_assoc steps a.earlier (a.step ∷ a.later));
  closes = a.closes;
  stays = a.stays;
}

-- A field was there before these steps and stayed as it is, or one of them closed its answer.
abbrev IsShown : Contents → List HostStep → Field → Type 0
IsShown sheet steps f = (Has sheet f × KeepField f steps) ⊎ AnsweredIn steps f

-- what a field shows in the end
shown : {w v : World} {es : List Event} {os : List Outcome} {steps : List HostStep} → StepsOf w es os steps v → Sound w → Owned w
    → (f : Field) (a : Answer) → f.answer ≡ Some a → Has (sheet_in v) f → IsShown (sheet_in w) steps f
shown no_step h own f a some has = inl (has, tt)
shown (step_first {w} {mid} {v} {e} {o} {es} {os} {steps} gives more) h own f a some has =
    let s = stepped w e o mid h gives in
    ⊎_elim
    (λ stays. ⊎_elim
    (λ before. inl (before, stays))
    (λ closes. inr (record { earlier = []; step = record { before = w; event = e; following = mid }; later = steps; split = refl; closes = closes; stays = stays }))
    (s.shown own f a some stays.0))
    (λ later. inr (in_later f (record { before = w; event = e; following = mid } ∷ []) steps later))
    (shown more s.sound (owned_step w e o mid own (by_parts w e o mid gives)) f a some has)

pub sound : (ops : List Op) (room end : ℕ) → Allowed ops → Sound (world_at_opening ops room end)
sound ops room end allowed = record { allowed = allowed; lives = tt }

pub owned : (ops : List Op) (room end : ℕ) → Allowed ops → Owned (world_at_opening ops room end)
owned ops room end allowed = opened_owned (world_at_opening ops room end) (refl, allowed)

-- What one host shows: a field that shows an answer was there at the opening and stayed as it is, or one of the steps closed its answer.
pub shown_by_host : (found : List Op) (room end : ℕ) (es : List Event) (os : List Outcome) (w : World) → Allowed found → Runs (world_at_opening found room end) es os w
    → (steps : List HostStep) × StepsOf (world_at_opening found room end) es os steps w
    × ((f : Field) (a : Answer) → f.answer ≡ Some a → Has (sheet_in w) f → (Has (sheet_of found) f × KeepField f steps) ⊎ AnsweredIn steps f)
shown_by_host found room end es os w allowed run =
    let did = steps_of (world_at_opening found room end) es os w run in
    (did.0, did.1, λ f a some has. shown did.1 (sound found room end allowed) (owned found room end allowed) f a some has)

go_on : OneSheet → (room : ℕ) (first : List Op) (before : Image) (turns : List HostTurn) (after : Image) → Allowed first → IsSheetImage (sheet_of first) before
    → EachTurned room before turns after → LeftInTurn room first before after turns
go_on one room first before [] after allowed image each = subst (λ (i : Image). LeftInTurn room first before i []) (sym each) record {
  kept = first;
  steps = [];
  went = no_host;
  image = image;
  shows = λ f a has some. inl (has, tt);
}
go_on one room first before (turn ∷ turns) after allowed image each =
    let mid = each.0 in
    let found = each.1.0 in
    let t = each.1.2 in
    let same : sheet_of found ≡ sheet_of first = one (sheet_of found) (sheet_of first) before t.opens image in
    let outcomes = turn.reported ++ t.withheld in
    let r = runs (world_at_opening found room t.end) first t.taken outcomes t.leads (sound found room t.end t.allowed) allowed same t.run in
    let leaves : IsSheetImage (sheet_of r.ops) mid = subst (λ (s : Contents). IsSheetImage s mid) (ap sheet_of t.ops ∙ r.same) t.leaves in
    let now : Turned room before first turn mid r.ops = record {
      allowed = allowed;
      opens = image;
      end = t.end;
      ends = t.ends;
      taken = t.taken;
      lost = t.lost;
      split = t.split;
      withheld = t.withheld;
      leads = by_ops r.ops t.leads;
      run = r.run;
      ops = refl;
      leaves = leaves;
    } in
    let did = steps_of (world_at_opening first room t.end) t.taken outcomes (by_ops r.ops t.leads) r.run in
    let more = go_on one room r.ops mid turns after r.allowed leaves each.2 in
    record {
      kept = more.kept;
      steps = did.0 ++ more.steps;
      went = host_first now did.1 more.went;
      image = more.image;
      shows = λ f a has some. ⊎_elim
          (λ stays. ⊎_elim
          (λ before. inl (before.0, keeps_both f did.0 more.steps before.1 stays.1))
          (λ answered. inr (after_more f did.0 more.steps answered stays.1))
          (shown did.1 (sound first room t.end allowed) (owned first room t.end allowed) f a some stays.0))
          (λ later. inr (in_later f did.0 more.steps later))
          (more.shows f a has some);
    }

pub hosts_in_turn : OneSheet → HostsInTurn
hosts_in_turn one room first before after turns allowed image each = go_on one room first before turns after allowed image each

sounds : (w : World) (es : List Event) (os : List Outcome) (v : World) → Sound w → Runs w es os v → Sound v
sounds w [] [] v h run = subst Sound (sym run) h
sounds w [] (o ∷ os) v h run = absurd run
sounds w (e ∷ es) [] v h run = absurd run
sounds w (e ∷ es) (o ∷ os) v h run = sounds run.0 es os v (stepped w e o run.0 h run.1).sound run.2

owners : (w : World) (es : List Event) (os : List Outcome) (v : World) → Owned w → Runs w es os v → Owned v
owners w [] [] v h run = subst Owned (sym run) h
owners w [] (o ∷ os) v h run = absurd run
owners w (e ∷ es) [] v h run = absurd run
owners w (e ∷ es) (o ∷ os) v h run = owners run.0 es os v (owned_step w e o run.0 h (by_parts w e o run.0 run.1)) run.2

pub evaluated_again : EvaluatedAgain
evaluated_again found room end es os w allowed run id o mid given clears later reported steps v more f a number has some =
    let before = sounds (world_at_opening found room end) es os w (sound found room end allowed) run in
    let after = (stepped w (event.Command (command.Eval id)) o mid before given).sound in
    let own = owned_step w (event.Command (command.Eval id)) o mid (owners (world_at_opening found room end) es os w (owned found room end allowed) run) (by_parts w (event.Command (command.Eval id)) o mid given) in
    ⊎_elim
    (λ stays.
    let here : field_in (sheet_of (w.ops ++ op.Clear id ∷ [])).fields id ≡ Some f =
    ap (λ (n : ℕ). field_in (sheet_of (w.ops ++ op.Clear id ∷ [])).fields n) (sym number)
    ∙ subst (λ (ops : List Op). Has (sheet_of ops) f) clears stays.0 in
    let none = cleared w.ops id f (subst Allowed clears after.allowed) here in
    absurd (let no : None ≡ Some a = sym none ∙ some in cc))
    (λ answered. answered)
    (shown more after own f a some has)

-- Plays after other events.

pub runs_on : (w : World) (es : List Event) (os : List Outcome) (v : World) (fs : List Event) (ps : List Outcome) (u : World) → Runs w es os v → Runs v fs ps u → Runs w (es ++ fs) (os ++ ps) u
runs_on w [] [] v fs ps u p q = subst (λ (x : World). Runs x fs ps u) p q
runs_on w [] (o ∷ os) v fs ps u p q = absurd p
runs_on w (e ∷ es) [] v fs ps u p q = absurd p
runs_on w (e ∷ es) (o ∷ os) v fs ps u p q = (p.0, p.1, runs_on p.0 es os v fs ps u p.2 q)

module _ (room end : ℕ) (before : Image) (found : List Op) (allowed : Allowed found) (opens : IsSheetImage (sheet_of found) before) (ends : EndsAt before end)
    (earlier : List Event) (said : List Outcome) (w : World) (so_far : Runs (world_at_opening found room end) earlier said w) (events : List Event) (reported : List Outcome) where
  abbrev first : World
  first = world_at_opening found room end

  -- a turn of the events before the play and of those in it, which returned these outcomes
  abbrev IsTurn : List Outcome → Image → Type 0
  IsTurn outcomes = LeftByTurn room before found (record { events = earlier ++ events; reported = outcomes })

  -- The first of the play's events were taken; the outcomes of those before the play were returned, and
  -- some of these.
  turn_of : (done rest : List Event) → events ≡ done ++ rest → (outcomes withheld : List Outcome) (v : World) → Runs first (earlier ++ done) (outcomes ++ withheld) v
      → (i : Image) → IsSheetImage (sheet_in v) i → IsTurn outcomes i
  turn_of done rest split outcomes withheld v run i image = (
    v.ops,
    record {
      allowed = allowed;
      opens = opens;
      end = end;
      ends = ends;
      taken = earlier ++ done;
      lost = rest;
      split = ap (λ (es : List Event). earlier ++ es) split ∙ sym (append_assoc earlier done rest);
      withheld = withheld;
      leads = v;
      run = run;
      ops = refl;
      leaves = image;
    },
  )

  -- a crash inside it
  within : (i : Image) → LeftAmong w events reported i → IsTurn said i
  within i left = turn_of left.done left.more left.split said left.outcomes left.leads (runs_on first earlier said w left.done left.outcomes left.leads so_far left.runs) i left.image

  -- one that leaves the worksheet after the events with an outcome
  without_it : (rest : List Event) (host : HostView) (p : HasPlayed w events rest reported host) (i : Image) → IsSheetImage (sheet_in p.leads) i → IsTurn (said ++ reported) i
  without_it rest host p = turn_of p.done rest p.split (said ++ reported) [] p.leads
      (subst (λ (os : List Outcome). Runs first (earlier ++ p.done) os p.leads) (sym (append-nil (said ++ reported))) (runs_on first earlier said w p.done reported p.leads so_far p.runs))

  -- one that leaves the worksheet after the event that follows them
  with_it : (e : Event) (rest : List Event) (host : HostView) (p : HasPlayed w events (e ∷ rest) reported host) (d : Does) (i : Image) → MayDo p.leads e d
      → IsSheetImage (sheet_in (following p.leads d)) i → IsTurn (said ++ reported) i
  with_it e rest host p d i may image =
      let more = run_on w p.done reported p.leads e d d.reported p.runs may refl in
      turn_of (p.done ++ e ∷ []) rest (p.split ∙ sym (append_assoc p.done (e ∷ []) rest)) (said ++ reported) (d.reported ∷ []) (following p.leads d)
      (subst (λ (os : List Outcome). Runs first (earlier ++ (p.done ++ e ∷ [])) os (following p.leads d)) (sym (append_assoc said reported (d.reported ∷ [])))
      (runs_on first earlier said w (p.done ++ e ∷ []) (reported ++ d.reported ∷ []) (following p.leads d) so_far more))
      i image

  stopped : (old new : HostView) (fault : HostFault) → StoppedAt w events old new reported fault → InModel old.store.disk (Leaves (IsTurn (said ++ reported)) new.store.disk.history.now)
  stopped old new hosts.Closed s = absurd s.failed.cause
  stopped old new hosts.Disk s = λ model i image.
      let write = s.failed.cause.1.0 in
      ⊎_elim (without_it (s.at ∷ s.dropped) s.before s.played i) (with_it s.at s.dropped s.before s.played write.does i write.may)
      (at_end (EitherSheet s.played.leads write.does) s.before.store.disk.history new.store.disk.history
      (either_sheet s.played.leads write.does s.before.store.disk new.store.disk s.played.stands.stands.images s.failed.cause.1.1 (subst IsTrue (sym s.same.keeps_model) model)) i image)
  stopped old new hosts.OutOfMemory s = λ model i image. without_it (s.at ∷ s.dropped) s.before s.played i
      (s.played.stands.stands.images (subst IsTrue (sym s.same.keeps_model) model) i (subst (λ (d : DiskView). IsImage d.history.now i) s.failed.cause.0 image))
  stopped old new hosts.JournalFull s = λ model i image. without_it (s.at ∷ s.dropped) s.before s.played i
      (s.played.stands.stands.images (subst IsTrue (sym s.same.keeps_model) model) i (subst (λ (d : DiskView). IsImage d.history.now i) s.failed.cause.0 image))

pub plays_are_turns : PlaysAreTurns
plays_are_turns room end before found allowed opens ends earlier said w so_far events reported after = (
  λ left. within room end before found allowed opens ends earlier said w so_far events reported after left,
  λ rest host played image. without_it room end before found allowed opens ends earlier said w so_far events reported rest host played after image,
  λ old new fault s. stopped room end before found allowed opens ends earlier said w so_far events reported old new fault s,
)
