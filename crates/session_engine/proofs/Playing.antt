-- Events in order.
use Rattle.std.proofs.Common.{◌≡◌, ◌⊎◌, inl, inr, ⊎_elim, Bool, true, false, List, [], ◌∷◌, ◌++◌, refl, sym, ap, ◌∙◌, subst, arith, append_assoc, append-nil, Option, Some, None}
use Rattle.std.specs.Bool.{IsTrue}
use Rattle.disk_model.specs.Disk.{DiskView, Image, InModel, Leaves, LeavesOnly, SameDisk}
use Rattle.disk_model.specs.inside.Moments.{started, weakens, goes_on}
use Rattle.worksheet.specs.declared.op.Op.{Op}
use Rattle.recovery.specs.Sheets.{IsEither, IsSheetImage}
use Rattle.worksheet.specs.Ops.{sheet_of}
use Rattle.host_events.specs.declared.event.Event.{Event}
use Rattle.host_events.specs.declared.outcome.Outcome.{Outcome}
use Rattle.host_events.specs.declared.outcome.HostFault.{HostFault}
use Rattle.host_events.specs.declared.outcome.HostFault.TheVariants as hosts
use Rattle.session_engine.specs.World.{World, sheet_in, renewed_if, with_op_if}
use Rattle.session_engine.specs.Does.{Does, MayDo, Runs, following}
use Rattle.session_engine.specs.Host.{HostView, IsHost, OnDisk, Took}
use Rattle.session_engine.specs.Faults.{Failed}
use Rattle.session_engine.specs.Crash.{HasPlayed, LeftAmong, Moments, MomentsBefore, TookEach}

pub run_on : (w : World) (es : List Event) (os : List Outcome) (v : World) (e : Event) (d : Does) (o : Outcome) → Runs w es os v → MayDo v e d → o ≡ d.reported → Runs w (es ++ e ∷ []) (os ++ o ∷ []) (following v d)
run_on w [] [] v e d o run may reported = subst (λ (x : World). Runs x (e ∷ []) (o ∷ []) (following v d)) run (following v d, (d, may, reported, refl), refl)
run_on w [] (p ∷ os) v e d o run may reported = absurd run
run_on w (c ∷ es) [] v e d o run may reported = absurd run
run_on w (c ∷ es) (p ∷ os) v e d o run may reported = (run.0, run.1, run_on run.0 es os v e d o run.2 may reported)

pub nothing_played : (w : World) (events : List Event) (host : HostView) → IsHost host w → HasPlayed w events events [] host
nothing_played w events host h = record { done = []; split = refl; leads = w; runs = refl; stands = h }

-- what each image was that the events so far could leave, it is with an outcome more
pub more_reported : (w : World) (events : List Event) (reported : List Outcome) (o : Outcome) (i : Image) → LeftAmong w events reported i → LeftAmong w events (reported ++ o ∷ []) i
more_reported w events reported o i l = record {
  done = l.done;
  more = l.more;
  split = l.split;
  outcomes = l.outcomes;
  later = l.later ++ o ∷ [];
  first = ap (λ (os : List Outcome). os ++ o ∷ []) l.first ∙ append_assoc l.outcomes l.later (o ∷ []);
  leads = l.leads;
  runs = l.runs;
  image = l.image;
}

module _ (w : World) (events rest : List Event) (reported : List Outcome) (host : HostView) (p : HasPlayed w events rest reported host) where
  -- an image of the worksheet so far
  pub left_here : (i : Image) → IsSheetImage (sheet_in p.leads) i → LeftAmong w events reported i
  left_here i image = record {
    done = p.done;
    more = rest;
    split = p.split;
    outcomes = reported;
    later = [];
    first = sym (append-nil reported);
    leads = p.leads;
    runs = p.runs;
    image = image;
  }

  pub nothing_left : Moments w events reported host.store.disk host.store.disk
  nothing_left model = started (LeftAmong w events reported) host.store.disk.history (λ i image. left_here i (p.stands.stands.images model i image))

pub after_ops : (v : World) (d : Does) (o : Op) → d.op ≡ Some o → (following v d).ops ≡ v.ops ++ o ∷ []
after_ops v d o is = go d.again ∙ ap (λ (x : Option Op). (with_op_if x (record v { begun = d.begun; lives = d.lives })).ops) is
  where
    go : (b : Bool) → (renewed_if b (with_op_if d.op (record v { begun = d.begun; lives = d.lives }))).ops ≡ (with_op_if d.op (record v { begun = d.begun; lives = d.lives })).ops
    go false = refl
    go true = refl

-- an image of the worksheet before an event, or after it
abbrev pub EitherSheet : World → Does → Image → Type 0
EitherSheet w d i = IsSheetImage (sheet_in w) i ⊎ IsSheetImage (sheet_in (following w d)) i

-- so is each image at every moment of an event
pub either_sheet : (w : World) (d : Does) (old new : DiskView) → InModel old (Leaves (IsSheetImage (sheet_in w)) old.history.now) → OnDisk w.ops d.again d.op old new
    → InModel old (LeavesOnly (EitherSheet w d) old.history new.history)
either_sheet w d old new images disk = go d.again d.op refl disk
  where
    go : (b : Bool) (a : Option Op) → d.op ≡ a → OnDisk w.ops b a old new → InModel old (LeavesOnly (EitherSheet w d) old.history new.history)
    go false None is same model = subst (λ (v : DiskView). LeavesOnly (EitherSheet w d) old.history v.history) (sym same) (started (EitherSheet w d) old.history (λ i image. inl (images model i image)))
    go false (Some o) is moments model = weakens (IsEither w.ops o) (EitherSheet w d) old.history new.history
        (λ i image. ⊎_elim (λ before. inl before) (λ after. inr (subst (λ (ops : List Op). IsSheetImage (sheet_of ops) i) (sym (after_ops w d o is)) after)) image) (moments model)
    go true a is moments model = weakens (IsSheetImage (sheet_in w)) (EitherSheet w d) old.history new.history (λ i image. inl image) (moments model)

module _ (w : World) (events rest : List Event) (e : Event) (reported : List Outcome) (host : HostView) (p : HasPlayed w events (e ∷ rest) reported host) where
  longer : events ≡ (p.done ++ e ∷ []) ++ rest
  longer = p.split ∙ sym (append_assoc p.done (e ∷ []) rest)

  pub one_more : (new : HostView) (o : Outcome) → Took p.leads e host new o → HasPlayed w events rest (reported ++ o ∷ []) new
  one_more new o took = record { done = p.done ++ e ∷ []; split = longer; leads = following p.leads took.did; runs = run_on w p.done reported p.leads e took.did o p.runs took.may took.reported; stands = took.stands }

  -- an image before an event, or after it
  either_left : (d : Does) (o : Outcome) → MayDo p.leads e d → o ≡ d.reported → (i : Image) → EitherSheet p.leads d i → LeftAmong w events (reported ++ o ∷ []) i
  either_left d o may is i image = ⊎_elim
      (λ before. more_reported w events reported o i (left_here w events (e ∷ rest) reported host p i before))
      (λ after. record {
        done = p.done ++ e ∷ [];
        more = rest;
        split = longer;
        outcomes = reported ++ o ∷ [];
        later = [];
        first = sym (append-nil (reported ++ o ∷ []));
        leads = following p.leads d;
        runs = run_on w p.done reported p.leads e d o p.runs may is;
        image = after;
      }) image

  reported_on : (old new : DiskView) (o : Outcome) → Moments w events reported old new → Moments w events (reported ++ o ∷ []) old new
  reported_on old new o moments model = weakens (LeftAmong w events reported) (LeftAmong w events (reported ++ o ∷ [])) old.history new.history (more_reported w events reported o) (moments model)

  -- the moments so far, and those of what an event does
  did_on : (old new : DiskView) (d : Does) (o : Outcome) → MayDo p.leads e d → o ≡ d.reported → SameDisk old host.store.disk → Moments w events reported old host.store.disk
      → OnDisk p.leads.ops d.again d.op host.store.disk new → Moments w events (reported ++ o ∷ []) old new
  did_on old new d o may is same before disk model = goes_on (LeftAmong w events (reported ++ o ∷ [])) old.history host.store.disk.history new.history (reported_on old host.store.disk o before model)
      (weakens (EitherSheet p.leads d) (LeftAmong w events (reported ++ o ∷ [])) host.store.disk.history new.history (either_left d o may is)
      (either_sheet p.leads d host.store.disk new p.stands.stands.images disk (subst IsTrue (sym same.keeps_model) model)))

  pub moments_on : (old : DiskView) (new : HostView) (o : Outcome) → SameDisk old host.store.disk → Moments w events reported old host.store.disk → Took p.leads e host new o → Moments w events (reported ++ o ∷ []) old new.store.disk
  moments_on old new o same before took = did_on old new.store.disk took.did o took.may took.reported same before took.disk

  -- the moments so far, and those of an event that failed
  pub moments_failed : (old : DiskView) (new : HostView) (fault : HostFault) → SameDisk old host.store.disk → Moments w events reported old host.store.disk → Failed p.leads e host new fault → MomentsBefore w events reported fault old new.store.disk
  moments_failed old new hosts.Closed same before failed = absurd failed.cause
  moments_failed old new hosts.Disk same before failed =
      let write = failed.cause.1.0 in
      (write.does.reported, did_on old new.store.disk write.does write.does.reported write.may refl same before failed.cause.1.1)
  moments_failed old new hosts.OutOfMemory same before failed = subst (λ (d : DiskView). Moments w events reported old d) (sym failed.cause.0) before
  moments_failed old new hosts.JournalFull same before failed = subst (λ (d : DiskView). Moments w events reported old d) (sym failed.cause.0) before

pub same_on : (a b c : DiskView) → SameDisk a b → SameDisk b c → SameDisk a c
same_on a b c p q = record { room = q.room ∙ p.room; keeps_model = q.keeps_model ∙ p.keeps_model; later = omega (arith, p.later, q.later) }

pub same_self : (d : DiskView) → SameDisk d d
same_self d = record { room = refl; keeps_model = refl; later = omega arith }

-- Each as a step takes it.

-- the events but these last ones
abbrev pub PlayedEach : World → List Event → List Event → List Outcome → HostView → HostView → Type 0
PlayedEach w events rest reported old host = (p : HasPlayed w events rest reported host) × TookEach w p.done old reported p.leads host

pub each_on : (w : World) (es : List Event) (old : HostView) (os : List Outcome) (v : World) (mid : HostView) (e : Event) (o : Outcome) (new : HostView)
    → TookEach w es old os v mid → (took : Took v e mid new o) → SameDisk mid.store.disk new.store.disk → TookEach w (es ++ e ∷ []) old (os ++ o ∷ []) (following v took.did) new
each_on w [] old [] v mid e o new each took same =
    let one : TookEach v (e ∷ []) mid (o ∷ []) (following v took.did) new = (new, took, same, (refl, refl)) in
    subst (λ (x : World). TookEach x (e ∷ []) old (o ∷ []) (following v took.did) new) each.0
    (subst (λ (h : HostView). TookEach v (e ∷ []) h (o ∷ []) (following v took.did) new) each.1 one)
each_on w [] old (p ∷ os) v mid e o new each took same = absurd each
each_on w (c ∷ es) old [] v mid e o new each took same = absurd each
each_on w (c ∷ es) old (p ∷ os) v mid e o new each took same =
    (each.0, each.1, each.2, each_on (following w each.1.did) es each.0 os v mid e o new each.3 took same)

pub nothing_each : (w : World) (events : List Event) (host : HostView) → IsHost host w → PlayedEach w events events [] host host
unfolding nothing_played
nothing_each w events host h = (nothing_played w events host h, (refl, refl))

pub one_more_each : (w : World) (events rest : List Event) (e : Event) (reported : List Outcome) (old host new : HostView) (o : Outcome) (p : PlayedEach w events (e ∷ rest) reported old host)
    → Took p.0.leads e host new o → SameDisk host.store.disk new.store.disk → PlayedEach w events rest (reported ++ o ∷ []) old new
unfolding one_more
one_more_each w events rest e reported old host new o p took same =
    (one_more w events rest e reported host p.0 new o took, each_on w p.0.done old reported p.0.leads host e o new p.1 took same)
