-- What the table says of an event, and that it says one thing.
use Rattle.std.proofs.Common.{◌≡◌, ◌⊎◌, inl, inr, ⊎_elim, ℕ, List, [], ◌∷◌, ◌++◌, refl, ap, sym, ◌∙◌, subst, true, false, Option, Some, None}
use Rattle.meta_format.specs.Limits.{limits}
use Rattle.meta_format.specs.Stream.{Outer}
use Rattle.meta_format.specs.Faults.{Kind}
use Rattle.meta_format.proofs.Feeds.{roomy}
use Rattle.meta_format.proofs.FaultOrNone.{fault_or_none}
use Rattle.meta_format.proofs.EveryStream.{a_reading}
use Rattle.worksheet.specs.declared.op.Op.TheVariants as op
use Rattle.worksheet.specs.declared.refusal.Refusal.{Refusal}
use Rattle.worksheet.specs.Checks.{first_of}
use Rattle.plugin_core.specs.declared.item.Item.{Item}
use Rattle.plugin_core.specs.declared.item.Item.TheVariants as item
use Rattle.plugin_core.specs.Laws.{OneReading}
use Rattle.plugin_core.specs.Past.{received, stream_of}
use Rattle.plugin_core.specs.Steps.{Reads, step_of}
use Rattle.host_events.specs.declared.command.Command.{Command}
use Rattle.host_events.specs.declared.command.Command.TheVariants as command
use Rattle.host_events.specs.declared.event.ChildEvent.{ChildEvent}
use Rattle.host_events.specs.declared.event.ChildEvent.TheVariants as child
use Rattle.host_events.specs.declared.event.Event.{Event}
use Rattle.host_events.specs.declared.event.Event.TheVariants as event
use Rattle.host_events.specs.declared.outcome.Outcome.{Outcome}
use Rattle.host_events.specs.declared.reply.Reply.TheVariants as reply
use Rattle.block_tree.specs.declared.reason.Reason.TheVariants as reason
use Rattle.session_engine.specs.World.{World, Going, life_of, session_of_field, with_number}
use Rattle.session_engine.specs.inside.Words.{line_of_field, request_of_field}
use Rattle.session_engine.specs.Refused.{command_refusals, command_takes_memory}
use Rattle.session_engine.specs.Does.{Does, MayDo, ChildDoes, CommandDoes, Gives, Runs, following, does, ends_life, asks_item, steps, tells}
use Rattle.host_laws.specs.Apart.{is_refusal_reply}
use Rattle.host_laws.specs.Laws.{EachEventHasAnOutcome, AnEventDoesOneThing, OutcomesLeadToOneWorld, lacks_memory, may_want}

-- Every event does something.

reads : (s : List ℕ) → (blocks : List Outer) × (fault : Option Kind) × Reads s blocks fault
reads s = ⊎_elim
    (λ sound. let r = a_reading limits roomy s in (r.blocks, None, ((r.tail, r.stream), sound)))
    (λ broken. (broken.2, Some broken.1, (broken.0, broken.3)))
    (fault_or_none limits roomy s)

module _ (w : World) where
  child_does : (l : Option Going) (e : ChildEvent) → (d : Does) × ChildDoes w l e d
  child_does l child.StartRefused = (ends_life w reason.StartRefused false l reply.Nothing, refl)
  child_does None (child.Piece piece) = (tells w reply.Nothing, refl)
  child_does (Some l) (child.Piece piece) =
      let r = reads (stream_of (l.past ++ received piece ∷ [])) in
      (steps w l piece r.0 (step_of l.past l.blocks piece r.0 r.1), (r.0, r.1, r.2, refl))
  child_does l child.End = (ends_life w reason.Ended true l reply.Nothing, refl)
  child_does l child.ReadFault = (ends_life w reason.ReadFault true l reply.Nothing, refl)
  child_does l child.SendFault = (ends_life w reason.SendFault true l reply.Nothing, refl)
  child_does l child.Stalled = (ends_life w reason.Stalled true l reply.Nothing, refl)
  child_does l child.StopFault = (tells w reply.Nothing, refl)

  command_does : (c : Command) (r : Option Refusal) → (d : Does) × CommandDoes w c r d
  command_does c (Some r) = (tells w (reply.Refused r), refl)
  command_does c None = (does w c, inl refl)

  may_do : (e : Event) → (d : Does) × MayDo w e d
  may_do (event.Command c) = command_does c (first_of (command_refusals w c))
  may_do (event.Child name number e) = child_does (with_number number (life_of w name)) e

pub each_event_has_an_outcome : EachEventHasAnOutcome
each_event_has_an_outcome w e = let d = may_do w e in (d.0.reported, following w d.0, (d.0, d.1, refl, refl))

-- It does one thing.

module _ (one : OneReading) (w : World) where
  one_of_child : (l : Option Going) (e : ChildEvent) (d f : Does) → ChildDoes w l e d → ChildDoes w l e f → d ≡ f
  one_of_child l child.StartRefused d f a b = a ∙ sym b
  one_of_child None (child.Piece piece) d f a b = a ∙ sym b
  one_of_child (Some l) (child.Piece piece) d f a b =
      let r = one (stream_of (l.past ++ received piece ∷ [])) a.0 b.0 a.1 b.1 a.2 b.2 in
      a.3
      ∙ ap (λ (bs : List Outer). steps w l piece bs (step_of l.past l.blocks piece bs a.1)) r.0
      ∙ ap (λ (k : Option Kind). steps w l piece b.0 (step_of l.past l.blocks piece b.0 k)) r.1
      ∙ sym b.3
  one_of_child l child.End d f a b = a ∙ sym b
  one_of_child l child.ReadFault d f a b = a ∙ sym b
  one_of_child l child.SendFault d f a b = a ∙ sym b
  one_of_child l child.Stalled d f a b = a ∙ sym b
  one_of_child l child.StopFault d f a b = a ∙ sym b

  one_of_command : (c : Command) (r : Option Refusal) (d f : Does) → CommandDoes w c r d → CommandDoes w c r f
      → (d ≡ f) ⊎ ((command_takes_memory w c ≡ true) × ((d ≡ lacks_memory w) ⊎ (f ≡ lacks_memory w)))
  one_of_command c (Some r) d f a b = inl (a ∙ sym b)
  one_of_command c None d f (inl a) (inl b) = inl (a ∙ sym b)
  one_of_command c None d f (inr a) b = inr (a.0, inl a.1)
  one_of_command c None d f (inl a) (inr b) = inr (b.0, inr b.1)

  one_does : (e : Event) (d f : Does) → MayDo w e d → MayDo w e f → (d ≡ f) ⊎ ((may_want w e ≡ true) × ((d ≡ lacks_memory w) ⊎ (f ≡ lacks_memory w)))
  one_does (event.Command c) d f a b = one_of_command c (first_of (command_refusals w c)) d f a b
  one_does (event.Child name number e) d f a b = inl (one_of_child (with_number number (life_of w name)) e d f a b)

pub an_event_does_one_thing : OneReading → AnEventDoesOneThing
an_event_does_one_thing one w e d f a b = one_does one w e d f a b

-- Where it leads is settled by what it returned.

module _ (one : OneReading) (w : World) where
  asking_accepts : (i : Item) (name : List ℕ) (l : Option Going) → is_refusal_reply (asks_item w i None name l).reported.reply ≡ false
  asking_accepts i name None = refl
  asking_accepts i name (Some l) = refl

  -- what is accepted isn't reported as refused
  accepts : (c : Command) → is_refusal_reply (does w c).reported.reply ≡ false
  accepts (command.Session name tab words) = refl
  accepts (command.New after session input) = refl
  accepts (command.Set id input) = refl
  accepts (command.Remove id) = refl
  accepts (command.Move id after) = refl
  accepts (command.Clear id) = refl
  accepts (command.Eval id) = go (life_of w (session_of_field w id))
    where
      go : (l : Option Going) → is_refusal_reply (asks_item w (line_of_field w id) (Some (op.Clear id)) (session_of_field w id) l).reported.reply ≡ false
      go None = refl
      go (Some l) = refl
  accepts (command.Complete id cursor) = asking_accepts (request_of_field w id cursor) (session_of_field w id) (life_of w (session_of_field w id))
  accepts (command.CompleteText id cursor text) = asking_accepts (item.Complete id text cursor) (session_of_field w id) (life_of w (session_of_field w id))
  accepts (command.Stop name) = go (life_of w name)
    where
      go : (l : Option Going) → is_refusal_reply (ends_life w reason.Stopped true l reply.Done).reported.reply ≡ false
      go None = refl
      go (Some l) = refl
  accepts command.Checkpoint = refl

  differs : (c : Command) (d f : Does) → d ≡ does w c → f ≡ lacks_memory w → d.reported ≡ f.reported → ⊥
  differs c d f a b same =
      let t : (does w c).reported ≡ (lacks_memory w).reported = ap (λ (x : Does). x.reported) (sym a) ∙ same ∙ ap (λ (x : Does). x.reported) b in
      let no : false ≡ true = sym (accepts c) ∙ ap (λ (o : Outcome). is_refusal_reply o.reply) t in
      cc

  reported_apart : (c : Command) (r : Option Refusal) (d f : Does) → CommandDoes w c r d → CommandDoes w c r f → d.reported ≡ f.reported → d ≡ f
  reported_apart c (Some r) d f a b same = a ∙ sym b
  reported_apart c None d f (inl a) (inl b) same = a ∙ sym b
  reported_apart c None d f (inl a) (inr b) same = absurd (differs c d f a b.1 same)
  reported_apart c None d f (inr a) (inl b) same = absurd (differs c f d b a.1 (sym same))
  reported_apart c None d f (inr a) (inr b) same = a.1 ∙ sym b.1

  by_reported : (e : Event) (d f : Does) → MayDo w e d → MayDo w e f → d.reported ≡ f.reported → d ≡ f
  by_reported (event.Command c) d f a b same = reported_apart c (first_of (command_refusals w c)) d f a b same
  by_reported (event.Child name number e) d f a b same = one_of_child one w (with_number number (life_of w name)) e d f a b

  one_world : (e : Event) (o : Outcome) (v u : World) → Gives w e o v → Gives w e o u → v ≡ u
  one_world e o v u a b = a.3 ∙ ap (following w) (by_reported e a.0 b.0 a.1 b.1 (sym a.2 ∙ b.2)) ∙ sym b.3

pub outcomes_lead_to_one_world : OneReading → OutcomesLeadToOneWorld
outcomes_lead_to_one_world one w [] [] v u a b = a ∙ sym b
outcomes_lead_to_one_world one w [] (o ∷ os) v u a b = absurd a
outcomes_lead_to_one_world one w (e ∷ es) [] v u a b = absurd a
outcomes_lead_to_one_world one w (e ∷ es) (o ∷ os) v u a b =
    let same : b.0 ≡ a.0 = one_world one w e o b.0 a.0 b.1 a.1 in
    outcomes_lead_to_one_world one a.0 es os v u a.2 (subst (λ (m : World). Runs m es os u) same b.2)
