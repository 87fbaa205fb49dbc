-- A run goes on by one event.
use Rattle.std.proofs.Common.{◌≡◌, List, [], ◌∷◌, ◌++◌, Option, Some, None, refl, ap, sym, ◌∙◌, append_assoc, append-nil}
use Rattle.host_events.specs.declared.event.Event.{Event}
use Rattle.host_events.specs.declared.reply.Reply.{Reply}
use Rattle.child_edge.specs.Faithful.{Relation, At, Entry, Entries, Follows, due_after}
use Rattle.child_edge.specs.Reported.{reported, spoken}

pub Follows-push : {C : Type 0} (R : Relation C) (s : At C) (due : Option Event) (bs : List Entry) (e : Event) (m : At C) (b : Entry) (t : At C)
    → Follows R s due bs (Some e) m → Entries R m e b t → Follows R s due (bs ++ b ∷ []) (due_after b) t
Follows-push R s None [] e m b t p h = let none : Some e ≡ None = p.0 in cc
Follows-push R s (Some e') [] e m b t p h =
    let same : e ≡ e' = cc in
    (t, rw (← same, ← p.1) h, (refl, refl))
Follows-push R s None (x ∷ bs) e m b t p h = elim p [ ]
Follows-push R s (Some e') (x ∷ bs) e m b t p h = (p.0, p.1, Follows-push R p.0 (due_after x) bs e m b t p.2 h)

pub reported-push : (bs : List Entry) (b : Entry) → reported (bs ++ b ∷ []) ≡ reported bs ++ spoken b.outcome.reply
reported-push [] b = append-nil (spoken b.outcome.reply)
reported-push (x ∷ bs) b = ap (λ t. spoken x.outcome.reply ++ t) (reported-push bs b) ∙ sym (append_assoc (spoken x.outcome.reply) (reported bs) (spoken b.outcome.reply))

pub reported-append : (bs cs : List Entry) → reported (bs ++ cs) ≡ reported bs ++ reported cs
reported-append [] cs = refl
reported-append (x ∷ bs) cs = ap (λ t. spoken x.outcome.reply ++ t) (reported-append bs cs) ∙ sym (append_assoc (spoken x.outcome.reply) (reported bs) (reported cs))

-- the replies go on by one event's
pub reported-on : (all old new : List Reply) (bs : List Entry) (b : Entry) (r : Reply) → old ≡ all ++ reported bs → new ≡ old ++ spoken r → r ≡ b.outcome.reply → new ≡ all ++ reported (bs ++ b ∷ [])
reported-on all old new bs b r h k e =
    k ∙ ap (λ t. t ++ spoken r) h ∙ append_assoc all (reported bs) (spoken r) ∙ ap (λ x. all ++ (reported bs ++ spoken x)) e ∙ ap (λ t. all ++ t) (sym (reported-push bs b))
