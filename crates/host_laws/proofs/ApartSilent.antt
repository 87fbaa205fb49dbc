-- What others' events tell.
use Rattle.std.proofs.Common.{◌≡◌, ⊎_elim, ℕ, List, refl, ap, sym, ◌∙◌, subst, Bool, true, false, Option, Some, None}
use Rattle.std.specs.Prelude.{if◌then◌else◌, ◌==◌, option_map}
use Rattle.std.specs.Str.{bytes_eq}
use Rattle.worksheet.specs.declared.refusal.Refusal.{Refusal}
use Rattle.worksheet.specs.Checks.{first_of}
use Rattle.plugin_core.specs.declared.item.Item.{Item}
use Rattle.plugin_core.specs.declared.item.Item.TheVariants as item
use Rattle.plugin_core.specs.declared.step.Step.{Step}
use Rattle.plugin_core.specs.declared.step.Ended.{Ended}
use Rattle.block_tree.specs.declared.reason.Reason.{Reason}
use Rattle.block_tree.specs.declared.reason.Reason.TheVariants as reason
use Rattle.plugin_core.specs.Past.{accepted}
use Rattle.plugin_core.specs.Steps.{step_of, sent_by}
use Rattle.host_laws.proofs.ByParts.{by_parts}
use Rattle.host_events.specs.declared.command.Command.{Command}
use Rattle.host_events.specs.declared.command.Command.TheVariants as command
use Rattle.host_events.specs.declared.event.ChildEvent.{ChildEvent}
use Rattle.host_events.specs.declared.event.ChildEvent.TheVariants as child
use Rattle.host_events.specs.declared.event.Event.TheVariants as event
use Rattle.host_events.specs.declared.outcome.Outcome.{Outcome}
use Rattle.host_events.specs.declared.outcome.Effect.TheVariants as effect
use Rattle.host_events.specs.declared.reply.Closed.{Closed}
use Rattle.host_events.specs.declared.reply.Reply.TheVariants as reply
use Rattle.session_engine.specs.World.{World, Going, life_of, with_number, session_of_field}
use Rattle.session_engine.specs.inside.Words.{line_of_field, request_of_field, reported_of}
use Rattle.session_engine.specs.Does.{ends, replies, refused, reported_with, sends_or_kills, closed_reported}
use Rattle.host_laws.specs.inside.Given.{Commanded, Childed, stops, outcome_of, GivesByParts}
use Rattle.session_engine.specs.inside.Parts.{asks}
use Rattle.session_engine.specs.Refused.{command_refusals}
use Rattle.host_laws.specs.Apart.{OthersAreSilent, concerns, is_reported, is_on}
use Rattle.host_laws.proofs.ApartLives.{first_has}

abbrev Silent : List ℕ → Outcome → Type 0
Silent n o = (is_reported n o.reply ≡ false) × (is_on n o.effect ≡ false)

said : (n : List ℕ) (o p : Outcome) → o ≡ p → Silent n p → Silent n o
said n o p e s = subst (Silent n) (sym e) s

end_silent : (n : List ℕ) (l : Going) (why : Reason) (killed : Bool) → bytes_eq l.name n ≡ false → Silent n (ends l why killed)
end_silent n l why true h = (h, h)
end_silent n l why false h = (h, refl)

sent_silent : (n m : List ℕ) (number : ℕ) (send : Option (List ℕ)) (e : Option Ended) → bytes_eq m n ≡ false → is_on n (sends_or_kills m number send e) ≡ false
sent_silent n m number None None h = refl
sent_silent n m number (Some bytes) None h = h
sent_silent n m number send (Some e) h = h

reported_silent : (n m : List ℕ) (number : ℕ) (c : Option Closed) (default send : Option (List ℕ)) (e : Option Ended) → bytes_eq m n ≡ false → Silent n (reported_with m number c default send e)
reported_silent n m number None default send None h = (refl, refl)
reported_silent n m number (Some a) default send e h = (h, sent_silent n m number send e h)
reported_silent n m number None default send (Some e) h = (h, h)

life_silent : (n : List ℕ) (w : World) (l : Going) (c : ChildEvent) (o : Outcome) (v : World) → bytes_eq l.name n ≡ false → Childed w (Some l) c o v → Silent n o
life_silent n w l child.StartRefused o v h g = said n o (ends l reason.StartRefused false) g.0 (end_silent n l reason.StartRefused false h)
life_silent n w l (child.Piece piece) o v h g =
    let s : Step = step_of l.past l.blocks piece g.0 g.1 in
    said n o (reported_of l s) g.2.1 (reported_silent n l.name l.number (closed_reported s.answered) s.default_input s.send s.ended h)
life_silent n w l child.End o v h g = said n o (ends l reason.Ended true) g.0 (end_silent n l reason.Ended true h)
life_silent n w l child.ReadFault o v h g = said n o (ends l reason.ReadFault true) g.0 (end_silent n l reason.ReadFault true h)
life_silent n w l child.SendFault o v h g = said n o (ends l reason.SendFault true) g.0 (end_silent n l reason.SendFault true h)
life_silent n w l child.Stalled o v h g = said n o (ends l reason.Stalled true) g.0 (end_silent n l reason.Stalled true h)
life_silent n w l child.StopFault o v h g = said n o (replies reply.Nothing) g.0 (refl, refl)

none_silent : (n : List ℕ) (w : World) (c : ChildEvent) (o : Outcome) (v : World) → Childed w None c o v → Silent n o
none_silent n w child.StartRefused o v g = said n o (replies reply.Nothing) g.0 (refl, refl)
none_silent n w (child.Piece piece) o v g = said n o (replies reply.Nothing) g.0 (refl, refl)
none_silent n w child.End o v g = said n o (replies reply.Nothing) g.0 (refl, refl)
none_silent n w child.ReadFault o v g = said n o (replies reply.Nothing) g.0 (refl, refl)
none_silent n w child.SendFault o v g = said n o (replies reply.Nothing) g.0 (refl, refl)
none_silent n w child.Stalled o v g = said n o (replies reply.Nothing) g.0 (refl, refl)
none_silent n w child.StopFault o v g = said n o (replies reply.Nothing) g.0 (refl, refl)

child_silent : (n m : List ℕ) (w : World) (number : ℕ) (c : ChildEvent) (o : Outcome) (v : World) → bytes_eq m n ≡ false → GivesByParts w (event.Child m number c) o v → Silent n o
child_silent n m w number c o v h g = go (life_of w m) refl g
  where
    go : (k : Option Going) → life_of w m ≡ k → Childed w (with_number number k) c o v → Silent n o
    go None e g = none_silent n w c o v g
    go (Some l) e g = here (l.number == number) (first_has m w.lives l e) g
      where
        here : (b : Bool) → l.name ≡ m → Childed w (if b then Some l else None) c o v → Silent n o
        here true s g = life_silent n w l c o v (ap (λ (j : List ℕ). bytes_eq j n) s ∙ h) g
        here false s g = none_silent n w c o v g

ask_silent : (n m : List ℕ) (w : World) (i : Item) (k : Option Going) → bytes_eq m n ≡ false → Silent n (asks w m i k)
ask_silent n m w i None h = (refl, h)
ask_silent n m w i (Some l) h = (refl, go (sent_by l.past l.blocks (accepted i) l.blocks))
  where
    go : (bytes : Option (List ℕ)) → is_on n (option_map (λ bs. effect.Send m l.number bs) bytes) ≡ false
    go None = refl
    go (Some bs) = h

stop_silent : (n m : List ℕ) (w : World) (k : Option Going) → ((l : Going) → k ≡ Some l → l.name ≡ m) → bytes_eq m n ≡ false → Silent n (stops k)
stop_silent n m w None s h = (refl, refl)
stop_silent n m w (Some l) s h = end_silent n l reason.Stopped true (ap (λ (j : List ℕ). bytes_eq j n) (s l refl) ∙ h)

accepted_silent : (n : List ℕ) (w : World) (c : Command) → concerns n w (event.Command c) ≡ false → Silent n (outcome_of w c)
accepted_silent n w (command.Session name tab words) h = (refl, refl)
accepted_silent n w (command.New place session input) h = (refl, refl)
accepted_silent n w (command.Set id input) h = (refl, refl)
accepted_silent n w (command.Remove id) h = (refl, refl)
accepted_silent n w (command.Move id place) h = (refl, refl)
accepted_silent n w (command.Clear id) h = (refl, refl)
accepted_silent n w (command.Eval id) h = ask_silent n (session_of_field w id) w (line_of_field w id) (life_of w (session_of_field w id)) h
accepted_silent n w (command.Complete id cursor) h = ask_silent n (session_of_field w id) w (request_of_field w id cursor) (life_of w (session_of_field w id)) h
accepted_silent n w (command.CompleteText id cursor text) h = ask_silent n (session_of_field w id) w (item.Complete id text cursor) (life_of w (session_of_field w id)) h
accepted_silent n w (command.Stop m) h = stop_silent n m w (life_of w m) (λ l e. first_has m w.lives l e) h
accepted_silent n w command.Checkpoint h = (refl, refl)

command_silent : (n : List ℕ) (w : World) (c : Command) (o : Outcome) (v : World) → concerns n w (event.Command c) ≡ false → GivesByParts w (event.Command c) o v → Silent n o
command_silent n w c o v h g = go (first_of (command_refusals w c)) g
  where
    go : (r : Option Refusal) → Commanded w c r o v → Silent n o
    go (Some r) g = said n o (refused r) g.0 (refl, refl)
    go None g = ⊎_elim (λ done. said n o (outcome_of w c) done.0 (accepted_silent n w c h)) (λ spent. subst (Silent n) (sym spent.1) (refl, refl)) g

pub others_are_silent : OthersAreSilent
others_are_silent name w (event.Command c) o v g h = command_silent name w c o v h (by_parts w (event.Command c) o v g)
others_are_silent name w (event.Child m number c) o v g h = child_silent name m w number c o v h (by_parts w (event.Child m number c) o v g)
