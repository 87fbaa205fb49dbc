-- What events give, by rows and by parts.
use Rattle.std.proofs.Common.{◌≡◌, inl, inr, ⊎_elim, ◌∙◌, ap, sym, subst, ℕ, List, Option, Some, None, refl, Bool, true, false}
use Rattle.meta_format.specs.Stream.{Outer}
use Rattle.worksheet.specs.declared.op.Op.{Op}
use Rattle.worksheet.specs.declared.op.Op.TheVariants as op
use Rattle.worksheet.specs.declared.refusal.Refusal.{Refusal}
use Rattle.worksheet.specs.declared.refusal.Refusal.TheVariants as refusal
use Rattle.worksheet.specs.Checks.{first_of}
use Rattle.plugin_core.specs.declared.item.Item.TheVariants as item
use Rattle.plugin_core.specs.declared.step.Ended.{Ended}
use Rattle.plugin_core.specs.declared.step.Step.{Step}
use Rattle.block_tree.specs.declared.reason.Reason.{Reason}
use Rattle.block_tree.specs.declared.reason.Reason.TheVariants as reason
use Rattle.plugin_core.specs.Steps.{step_of}
use Rattle.host_events.specs.declared.command.Command.{Command}
use Rattle.host_events.specs.declared.command.Command.TheVariants as command
use Rattle.host_events.specs.declared.event.ChildEvent.{ChildEvent}
use Rattle.host_events.specs.declared.event.ChildEvent.TheVariants as child
use Rattle.host_events.specs.declared.event.Event.{Event}
use Rattle.host_events.specs.declared.event.Event.TheVariants as event
use Rattle.host_events.specs.declared.outcome.Outcome.{Outcome}
use Rattle.host_events.specs.declared.reply.Reply.TheVariants as reply
use Rattle.session_engine.specs.World.{World, Going, kept_at_end, life_of, with_number, with_op_if, session_of_field}
use Rattle.session_engine.specs.inside.Words.{with_op, line_of_field, request_of_field, with_piece}
use Rattle.session_engine.specs.Refused.{command_refusals}
use Rattle.session_engine.specs.Does.{Does, does, following, ends_life, steps, tells, op_by, CommandDoes, ChildDoes, MayDo, Gives}
use Rattle.session_engine.specs.inside.Parts.{without_life, goes_on}
use Rattle.host_laws.specs.inside.Given.{stops, outcome_of, after, Commanded, Ended_by, Childed, GivesByParts}
use Rattle.host_events.specs.Commands.{op_of}
use Rattle.session_engine.proofs.Changing.{as_op}
use Rattle.session_engine.proofs.Asking.{asked_reported, asked_leads}
use Rattle.session_engine.proofs.Tables.{first_has_name}
use Rattle.session_engine.proofs.Stopping.{without_none_here}

stopped_reported : (w : World) (l : Option Going) → (ends_life w reason.Stopped true l reply.Done).reported ≡ stops l
stopped_reported w None = refl
stopped_reported w (Some l) = refl

-- the life of a name has that name
stopped_leads : (w : World) (name : List ℕ) (l : Option Going) → life_of w name ≡ l → following w (ends_life w reason.Stopped true l reply.Done) ≡ with_op_if (kept_at_end w reason.Stopped l) (without_life name w)
stopped_leads w name None is = sym (without_none_here w name is)
stopped_leads w name (Some l) is = ap (λ (n : List ℕ). with_op_if (kept_at_end w reason.Stopped (Some l)) (without_life n w)) (first_has_name (λ (g : Going). g.name) name w.lives l is)

same_outcome : (w : World) (c : Command) → (does w c).reported ≡ outcome_of w c
same_outcome w (command.Session name tab words) = refl
same_outcome w (command.New place session input) = refl
same_outcome w (command.Set id input) = refl
same_outcome w (command.Remove id) = refl
same_outcome w (command.Move id place) = refl
same_outcome w (command.Clear id) = refl
same_outcome w (command.Eval id) = asked_reported w (line_of_field w id) (Some (op.Clear id)) (session_of_field w id) (life_of w (session_of_field w id))
same_outcome w (command.Complete id cursor) = asked_reported w (request_of_field w id cursor) None (session_of_field w id) (life_of w (session_of_field w id))
same_outcome w (command.CompleteText id cursor text) = asked_reported w (item.Complete id text cursor) None (session_of_field w id) (life_of w (session_of_field w id))
same_outcome w (command.Stop name) = stopped_reported w (life_of w name)
same_outcome w command.Checkpoint = refl

same_after : (w : World) (c : Command) → following w (does w c) ≡ after w c
same_after w (command.Session name tab words) = refl
same_after w (command.New place session input) = refl
same_after w (command.Set id input) = refl
same_after w (command.Remove id) = refl
same_after w (command.Move id place) = refl
same_after w (command.Clear id) = refl
same_after w (command.Eval id) = asked_leads w (line_of_field w id) (Some (op.Clear id)) (session_of_field w id) (life_of w (session_of_field w id))
same_after w (command.Complete id cursor) = asked_leads w (request_of_field w id cursor) None (session_of_field w id) (life_of w (session_of_field w id))
same_after w (command.CompleteText id cursor text) = asked_leads w (item.Complete id text cursor) None (session_of_field w id) (life_of w (session_of_field w id))
same_after w (command.Stop name) = stopped_leads w name (life_of w name) refl
same_after w command.Checkpoint = refl

stepped : (w : World) (l : Going) (piece : List ℕ) (blocks : List Outer) (s : Step) → following w (steps w l piece blocks s) ≡ with_op_if (op_by w.room w.end s.answered s.ended) (goes_on (with_piece l piece blocks) s.ended w)
stepped w l piece blocks s = go s.ended refl
  where
    go : (e : Option Ended) → s.ended ≡ e → following w (steps w l piece blocks s) ≡ with_op_if (op_by w.room w.end s.answered s.ended) (goes_on (with_piece l piece blocks) s.ended w)
    go None is = rw is refl
    go (Some e) is = rw is refl

module _ (w : World) where
  command_by_parts : (c : Command) (r : Option Refusal) (d : Does) → CommandDoes w c r d → Commanded w c r d.reported (following w d)
  command_by_parts c (Some r) d is = (ap (λ (x : Does). x.reported) is, ap (following w) is)
  command_by_parts c None d is = ⊎_elim
      (λ done. inl (ap (λ (x : Does). x.reported) done ∙ same_outcome w c, ap (following w) done ∙ same_after w c))
      (λ want. inr (want.0, ap (λ (x : Does). x.reported) want.1, ap (following w) want.1)) is

  end_by_parts : (why : Reason) (killed : Bool) (l : Option Going) (d : Does) → d ≡ ends_life w why killed l reply.Nothing → Ended_by w l why killed d.reported (following w d)
  end_by_parts why killed None d is = (ap (λ (x : Does). x.reported) is, ap (following w) is)
  end_by_parts why killed (Some l) d is = (ap (λ (x : Does). x.reported) is, ap (following w) is)

  child_by_parts : (l : Option Going) (e : ChildEvent) (d : Does) → ChildDoes w l e d → Childed w l e d.reported (following w d)
  child_by_parts l child.StartRefused d is = end_by_parts reason.StartRefused false l d is
  child_by_parts None (child.Piece piece) d is = (ap (λ (x : Does). x.reported) is, ap (following w) is)
  child_by_parts (Some l) (child.Piece piece) d may = (may.0, may.1, (may.2, ap (λ (x : Does). x.reported) may.3, ap (following w) may.3 ∙ stepped w l piece may.0 (step_of l.past l.blocks piece may.0 may.1)))
  child_by_parts l child.End d is = end_by_parts reason.Ended true l d is
  child_by_parts l child.ReadFault d is = end_by_parts reason.ReadFault true l d is
  child_by_parts l child.SendFault d is = end_by_parts reason.SendFault true l d is
  child_by_parts l child.Stalled d is = end_by_parts reason.Stalled true l d is
  child_by_parts l child.StopFault d is = (ap (λ (x : Does). x.reported) is, ap (following w) is)

  may_by_parts : (e : Event) (d : Does) → MayDo w e d → GivesByParts w e d.reported (following w d)
  may_by_parts (event.Command c) d may = command_by_parts c (first_of (command_refusals w c)) d may
  may_by_parts (event.Child name number e) d may = child_by_parts (with_number number (life_of w name)) e d may

pub by_parts : (w : World) (e : Event) (o : Outcome) (v : World) → Gives w e o v → GivesByParts w e o v
by_parts w e o v g = subst (λ (x : Outcome). GivesByParts w e x v) (sym g.2) (subst (λ (u : World). GivesByParts w e g.0.reported u) (sym g.3) (may_by_parts w e g.0 g.1))

-- And back.

module _ (w : World) where
  command_by_rows : (c : Command) (r : Option Refusal) (o : Outcome) (v : World) → Commanded w c r o v → (d : Does) × CommandDoes w c r d × (o ≡ d.reported) × (v ≡ following w d)
  command_by_rows c (Some r) o v is = (tells w (reply.Refused r), refl, is.0, is.1)
  command_by_rows c None o v is = ⊎_elim
      (λ done. (does w c, inl refl, done.0 ∙ sym (same_outcome w c), done.1 ∙ sym (same_after w c)))
      (λ want. (tells w (reply.Refused refusal.OutOfMemory), inr (want.0, refl), want.1, want.2)) is

  end_by_rows : (why : Reason) (killed : Bool) (l : Option Going) (o : Outcome) (v : World) → Ended_by w l why killed o v → (o ≡ (ends_life w why killed l reply.Nothing).reported) × (v ≡ following w (ends_life w why killed l reply.Nothing))
  end_by_rows why killed None o v is = (is.0, is.1)
  end_by_rows why killed (Some l) o v is = (is.0, is.1)

  child_by_rows : (l : Option Going) (e : ChildEvent) (o : Outcome) (v : World) → Childed w l e o v → (d : Does) × ChildDoes w l e d × (o ≡ d.reported) × (v ≡ following w d)
  child_by_rows l child.StartRefused o v is = let e = end_by_rows reason.StartRefused false l o v is in (ends_life w reason.StartRefused false l reply.Nothing, refl, e.0, e.1)
  child_by_rows None (child.Piece piece) o v is = (tells w reply.Nothing, refl, is.0, is.1)
  child_by_rows (Some l) (child.Piece piece) o v is =
      let s = step_of l.past l.blocks piece is.0 is.1 in
      (steps w l piece is.0 s, (is.0, is.1, is.2.0, refl), is.2.1, is.2.2 ∙ sym (stepped w l piece is.0 s))
  child_by_rows l child.End o v is = let e = end_by_rows reason.Ended true l o v is in (ends_life w reason.Ended true l reply.Nothing, refl, e.0, e.1)
  child_by_rows l child.ReadFault o v is = let e = end_by_rows reason.ReadFault true l o v is in (ends_life w reason.ReadFault true l reply.Nothing, refl, e.0, e.1)
  child_by_rows l child.SendFault o v is = let e = end_by_rows reason.SendFault true l o v is in (ends_life w reason.SendFault true l reply.Nothing, refl, e.0, e.1)
  child_by_rows l child.Stalled o v is = let e = end_by_rows reason.Stalled true l o v is in (ends_life w reason.Stalled true l reply.Nothing, refl, e.0, e.1)
  child_by_rows l child.StopFault o v is = (tells w reply.Nothing, refl, is.0, is.1)

pub by_rows : (w : World) (e : Event) (o : Outcome) (v : World) → GivesByParts w e o v → Gives w e o v
by_rows w (event.Command c) o v g = command_by_rows w c (first_of (command_refusals w c)) o v g
by_rows w (event.Child name number e) o v g = child_by_rows w (with_number number (life_of w name)) e o v g

-- where the op of a command leads
pub op_after : (w : World) (c : Command) (o : Op) → op_of c ≡ Some o → after w c ≡ with_op o w
op_after w c o is = sym (same_after w c) ∙ ap (following w) (as_op w c o is).does_is
