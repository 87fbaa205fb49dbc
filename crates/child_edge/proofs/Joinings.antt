-- Events that are taken together with those that join them.
use Rattle.std.proofs.Common.{◌≡◌, ◌∷◌, ◌++◌, ◌+◌, [], ℕ, zero, suc, List, Option, Some, None, refl, sym, ap, ◌∙◌, subst, append_assoc, append-nil, slice_get, length, length-append, arith, inr}
use Rattle.disk_model.specs.Disk.{SameDisk}
use Rattle.host_events.specs.declared.event.Event.{Event}
use Rattle.host_events.specs.declared.outcome.Outcome.{Outcome}
use Rattle.host_events.specs.declared.outcome.HostFault.{HostFault}
use Rattle.host_events.specs.declared.reply.Reply.{Reply}
use Rattle.session_engine.specs.World.{World}
use Rattle.session_engine.specs.Host.{HostView, IsHost}
use Rattle.session_engine.specs.Joining.{Asking, HaltsJoined, JoinsAfter, ToBeTaken, TookJoined}
use Rattle.session_engine.specs.declared.joining.Joint.{Joint}
use Rattle.session_engine.specs.declared.joining.JoinFault.TheVariants as joins
use Rattle.child_edge.specs.Edge.{BrokeOff, Ran}
use Rattle.child_edge.specs.Faithful.{Relation, At, at, Entry, FirstOf}
use Rattle.child_edge.specs.Reported.{reported}
use Rattle.child_edge.specs.Together.{CarriesOut, Followed, Together, entries_after, trace_of}
use Rattle.child_edge.specs.Joined.{FailsJoined, RanJoined, joining_edge}
use Rattle.child_edge.specs.declared.joined.GaveJoined.{GaveJoined}
use Rattle.child_edge.specs.declared.together.TogetherFault.{TogetherFault}
use Rattle.child_edge.specs.declared.together.TogetherFault.TheVariants as halt
use Rattle.child_edge.specs.inside.Gating.{CarriedSoFar, EachUpTo}
use Rattle.child_edge.specs.inside.Joining.{HaltsWithJoined, JointCarried, JointUpTo, TookWithJoined}
use Rattle.child_edge.proofs.Gates.{following-append, fails_at_once, lost_at_once, stopped_at_once, took_at_once}
use Rattle.child_edge.proofs.Waits.{reported-join}

-- Things of two lists in turn.

slice_left : {A : Type 0} (xs ys : List A) (k : ℕ) (x : A) → slice_get xs k ≡ Some x → slice_get (xs ++ ys) k ≡ Some x
slice_left [] ys k x is = absurd (let bad : None ≡ Some x = is in cc)
slice_left (y ∷ xs) ys zero x is = is
slice_left (y ∷ xs) ys (suc k) x is = slice_left xs ys k x is

slice_right : {A : Type 0} (xs ys : List A) (k n : ℕ) → n ≡ length xs + k → slice_get (xs ++ ys) n ≡ slice_get ys k
slice_right [] ys k n is = ap (λ (i : ℕ). slice_get ys i) (omega (arith, is))
slice_right (x ∷ xs) ys k zero is = absurd (omega (arith, is))
slice_right (x ∷ xs) ys k (suc n) is = slice_right xs ys k n (omega (arith, is))

module _ {A S B : Type 0} (P : A → S → List B → S → Type 0) (xs ys : List A) where
  wider : (k : ℕ) (s : S) (bs : List B) (t : S) → FirstOf P xs k s bs t → FirstOf P (xs ++ ys) k s bs t
  wider zero s bs t p = p
  wider (suc k) s bs t (x, mid, before, last, is, front, one, are) = (x, mid, before, last, slice_left xs ys k x is, wider k s before mid front, one, are)

  first_of_both : (k n : ℕ) (s : S) (bs : List B) (mid : S) (cs : List B) (t : S) → n ≡ length xs + k → FirstOf P xs (length xs) s bs mid → FirstOf P ys k mid cs t → FirstOf P (xs ++ ys) n s (bs ++ cs) t
  first_of_both zero n s bs mid cs t count p (none, stays) =
      subst (λ (v : S). FirstOf P (xs ++ ys) n s (bs ++ cs) v) (sym stays)
      (subst (λ (more : List B). FirstOf P (xs ++ ys) n s (bs ++ more) mid) (sym none)
      (subst (λ (all : List B). FirstOf P (xs ++ ys) n s all mid) (sym (append-nil bs))
      (subst (λ (i : ℕ). FirstOf P (xs ++ ys) i s bs mid) (let is : length xs ≡ n = omega (arith, count) in is) (wider (length xs) s bs mid p))))
  first_of_both (suc k) zero s bs mid cs t count p q = absurd (omega (arith, count))
  first_of_both (suc k) (suc n) s bs mid cs t count p (x, place, before, last, is, front, one, are) = (
    x,
    place,
    bs ++ before,
    last,
    slice_right xs ys k n (omega (arith, count)) ∙ is,
    first_of_both k n s bs mid before place (omega (arith, count)) p front,
    one,
    ap (λ (l : List B). bs ++ l) are ∙ sym (append_assoc bs before last),
  )

-- Effects of outcomes, and of later ones.

module _ {C : Type 0} (R : Relation C) (os ps : List Outcome) (s : At C) (before : List Reply) (h g : HostView) (c d : C) (old new : List Reply)
    (so : Ran (CarriedSoFar R os (length os) s) before h c old) where
  pub carried_both : Ran (CarriedSoFar R ps (length ps) (at so.leads c h.store.disk)) old g d new → Ran (CarriedSoFar R (os ++ ps) (length (os ++ ps)) s) before g d new
  carried_both p = record {
    entries = so.entries ++ p.entries;
    leads = p.leads;
    form = (
      so.form.0 ++ p.form.0,
      first_of_both (CarriesOut R None) os ps (length ps) (length (os ++ ps)) s so.form.0 (at so.leads c h.store.disk) p.form.0 (at p.leads d g.store.disk) (length-append os ps) so.form.1 p.form.1,
      ap (λ (x : List Entry). x ++ p.entries) so.form.2 ∙ ap (λ (x : List Entry). entries_after so.form.0 ++ x) p.form.2 ∙ sym (following-append so.form.0 p.form.0),
    );
    stands = p.stands;
    replied = reported-join before old new so.entries p.entries so.replied p.replied;
  }

  pub broke_later : (f : HostFault) → BrokeOff (EachUpTo R ps (at so.leads c h.store.disk)) old g d new f → BrokeOff (EachUpTo R (os ++ ps) s) before g d new f
  broke_later f p = let (k, followed, last, place, next, front, is, broken, are) = p.form in record {
    entries = so.entries ++ p.entries;
    leads = p.leads;
    disk = p.disk;
    failed = p.failed;
    form = (
      length os + k,
      so.form.0 ++ followed,
      last,
      place,
      next,
      first_of_both (CarriesOut R None) os ps k (length os + k) s so.form.0 (at so.leads c h.store.disk) followed place refl so.form.1 front,
      slice_right os ps k (length os + k) refl ∙ is,
      broken,
      ap (λ (x : List Entry). x ++ p.entries) so.form.2 ∙ ap (λ (x : List Entry). entries_after so.form.0 ++ x) are ∙ sym (following-append so.form.0 (followed ++ last))
          ∙ ap (λ (fs : List Followed). entries_after fs) (sym (append_assoc so.form.0 followed last)),
    );
    stopped = p.stopped;
    replied = reported-join before old new so.entries p.entries so.replied p.replied;
  }

module _ {C : Type 0} (R : Relation C) (os ps : List Outcome) (s : At C) (before : List Reply) (h : HostView) (c : C) (new : List Reply) (f : HostFault) where
  pub broke_sooner : BrokeOff (EachUpTo R os s) before h c new f → BrokeOff (EachUpTo R (os ++ ps) s) before h c new f
  broke_sooner p = let (k, followed, last, place, next, front, is, broken, are) = p.form in record {
    entries = p.entries;
    leads = p.leads;
    disk = p.disk;
    failed = p.failed;
    form = (k, followed, last, place, next, wider (CarriesOut R None) os ps k s followed place front, slice_left os ps k next is, broken, are);
    stopped = p.stopped;
    replied = p.replied;
  }

-- The gate.

module _ (A : Asking) (w : World) (events : List Event) (old new : HostView) (before : old.store.real ≡ old.store.disk) (after : new.store.real ≡ new.store.disk) (stands : IsHost old w) (same : SameDisk old.store.real new.store.real) where
  pub took_with_joined : (joint : Joint) → TookJoined A w events old new joint → TookWithJoined A w events old new joint
  took_with_joined joint p = record {
    more = p.more;
    joined = p.joined;
    kept = took_at_once w old new before after stands same (events ++ p.more) (joint.outcomes.items ++ joint.later.items) p.took;
  }

  pub lost_with_joined : HaltsJoined A w events old new joins.Disk → HaltsWithJoined A w events old new halt.Lost
  lost_with_joined (all, to_be, p) = (all, to_be, lost_at_once w old new before after stands same all p)

  pub stopped_with_joined : (f : HostFault) → HaltsJoined A w events old new (joins.Stopped f) → HaltsWithJoined A w events old new (halt.Host f)
  stopped_with_joined f (all, to_be, outcomes, p) = (all, to_be, stopped_at_once w old new before after stands same all outcomes f p)

-- All of it.

pub fails_with_joined : {C : Type 0} (R : Relation C) (A : Asking) (w : World) (events : List Event) (old new : HostView) (c : C) (f : TogetherFault) → HaltsWithJoined A w events old new f
    → FailsJoined (joining_edge R A) (at w c old.store.disk) events new c f
fails_with_joined R A w events old new c halt.OutOfMemory p = (p.0, p.1, p.2, refl)
fails_with_joined R A w events old new c halt.Lost (all, to_be, p) = (all, to_be, p, refl)
fails_with_joined R A w events old new c (halt.Host f) (all, to_be, p) =
    let q = fails_at_once R w all old new c (halt.Host f) p in (all, to_be, q.0, q.1, q.2, q.3, q.4, q.5)

module _ {C : Type 0} (R : Relation C) (A : Asking) (w : World) (c d : C) (events : List Event) (old mid new : HostView) (joint : Joint) (took : TookWithJoined A w events old mid joint) (replies : List Reply) where
  pub ran_joined : (gave : GaveJoined) → gave.outcomes.items ≡ joint.outcomes.items → gave.first ≡ joint.first → gave.later.items ≡ joint.later.items → gave.replies.items ≡ replies
      → Ran (JointCarried R joint (at took.kept.0 c mid.store.disk)) [] new d replies → RanJoined (joining_edge R A) (at w c old.store.disk) events new d gave
  ran_joined gave outcomes first later are p = record {
    more = took.more;
    joined = subst (λ (os : List Outcome). JoinsAfter A w events os gave.first took.more) (sym outcomes) (subst (λ (n : Option ℕ). JoinsAfter A w events joint.outcomes.items n took.more) (sym first) took.joined);
    followed = p.form.0;
    leads = p.leads;
    run = subst (λ (os : List Outcome). Together R (at w c old.store.disk) (events ++ took.more) (os ++ gave.later.items) p.form.0 (at p.leads d new.store.disk)) (sym outcomes)
        (subst (λ (os : List Outcome). Together R (at w c old.store.disk) (events ++ took.more) (joint.outcomes.items ++ os) p.form.0 (at p.leads d new.store.disk)) (sym later)
        (record { middle = took.kept.0; disk = mid.store.disk; kept = took.kept.1; carried = p.form.1 }));
    stands = p.stands;
    replied = are ∙ p.replied ∙ ap reported p.form.2;
  }

  pub broke_joined : (f : HostFault) → ToBeTaken A w events (events ++ took.more) → BrokeOff (JointUpTo R joint (at took.kept.0 c mid.store.disk)) [] new d replies f
      → FailsJoined (joining_edge R A) (at w c old.store.disk) events new d (halt.Host f)
  broke_joined f to_be p = let (k, followed, last, place, next, front, is, broken, are) = p.form in (
    events ++ took.more,
    to_be,
    trace_of (events ++ took.more) (joint.outcomes.items ++ joint.later.items) (followed ++ last),
    p.failed,
    p.leads,
    p.disk,
    inr (record {
      outcomes = joint.outcomes.items ++ joint.later.items;
      middle = took.kept.0;
      disk = mid.store.disk;
      kept = took.kept.1;
      whole = k;
      followed = followed;
      last = last;
      place = place;
      next = next;
      are_carried = front;
      is_next = is;
      broken = broken;
      are = refl;
    }),
    p.stopped,
  )
