-- A round goes on by one life, and a wait by one round.
use Rattle.std.proofs.Common.{◌≡◌, ℕ, ◌+◌, Bool, List, ◌++◌, Some, refl, ap, sym, ◌∙◌, append_assoc, add-one, slice_get, nat_lt}
use Rattle.host_events.specs.declared.reply.Reply.{Reply}
use Rattle.host_events.specs.declared.outcome.HostFault.{HostFault}
use Rattle.child_edge.specs.Seats.{waits}
use Rattle.child_edge.specs.declared.serving.EdgeCause.{EdgeCause}
use Rattle.child_edge.specs.declared.serving.EdgeCause.TheVariants as cause
use Rattle.child_edge.specs.Edge.{ByCause}
use Rattle.child_edge.specs.Faithful.{Relation, At, Entry, FirstOf, OneRound, Rounds, hearing}
use Rattle.child_edge.specs.Reported.{reported}
use Rattle.child_edge.proofs.Chains.{reported-append}

pub FirstOf-more : {A S B : Type 0} (P : A → S → List B → S → Type 0) (xs : List A) (k : ℕ) (s : S) (before : List B) (mid : S) (x : A) (last : List B) (t : S)
    → FirstOf P xs k s before mid → slice_get xs k ≡ Some x → P x mid last t → FirstOf P xs (k + 1) s (before ++ last) t
FirstOf-more P xs k s before mid x last t h e p = rw add-one (x, mid, before, last, e, h, p, refl)

pub Rounds-more : {C : Type 0} (R : Relation C) (most n : ℕ) (s : At C) (before : List Entry) (mid : At C) (listens : Bool) (last : List Entry) (t : At C)
    → Rounds R most n s before mid → listens ≡ nat_lt n most → OneRound (hearing R listens) (waits mid.world) mid last t → Rounds R most (n + 1) s (before ++ last) t
Rounds-more R most n s before mid listens last t h e p = rw add-one (mid, before, last, h, rw e at p, refl)

pub reported-join : (all old new : List Reply) (bs cs : List Entry) → old ≡ all ++ reported bs → new ≡ old ++ reported cs → new ≡ all ++ reported (bs ++ cs)
reported-join all old new bs cs h k =
    k ∙ ap (λ t. t ++ reported cs) h ∙ append_assoc all (reported bs) (reported cs) ∙ ap (λ t. all ++ t) (sym (reported-append bs cs))

pub by_cause : (c : EdgeCause) (P : HostFault → Type 0) (Q : Type 0) (P' : HostFault → Type 0) (Q' : Type 0) → ByCause c P Q → ((f : HostFault) → P f → P' f) → (Q → Q') → ByCause c P' Q'
by_cause (cause.Host f) P Q P' Q' h p q = p f h
by_cause cause.OutOfMemory P Q P' Q' h p q = q h
