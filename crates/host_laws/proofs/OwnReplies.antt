-- Each command has a reply of its own.
use Rattle.std.proofs.Common.{inl, inr, ℕ, true, List, Option, Some, None, refl, sym, subst}
use Rattle.worksheet.specs.declared.op.Op.{Op}
use Rattle.worksheet.specs.declared.refusal.Refusal.{Refusal}
use Rattle.worksheet.specs.Checks.{first_of}
use Rattle.plugin_core.specs.declared.item.Item.{Item}
use Rattle.host_events.specs.declared.command.Command.{Command}
use Rattle.host_events.specs.declared.command.Command.TheVariants as command
use Rattle.host_events.specs.declared.outcome.Outcome.{Outcome}
use Rattle.host_events.specs.declared.reply.Reply.TheVariants as reply
use Rattle.block_tree.specs.declared.reason.Reason.TheVariants as reason
use Rattle.session_engine.specs.World.{World, Going, life_of, session_of_field}
use Rattle.session_engine.specs.Refused.{command_refusals}
use Rattle.session_engine.specs.Does.{Does, CommandDoes, asks_item, does, ends_life}
use Rattle.host_laws.specs.Laws.{EachCommandHasAReply, IsOwnReply}

asked : (w : World) (i : Item) (given : Option Op) (name : List ℕ) (l : Option Going) → IsOwnReply (asks_item w i given name l).reported.reply
asked w i given name None = tt
asked w i given name (Some l) = tt

stopped : (w : World) (l : Option Going) → IsOwnReply (ends_life w reason.Stopped true l reply.Done).reported.reply
stopped w None = tt
stopped w (Some l) = (refl, (_, refl, refl))

done : (w : World) (c : Command) → IsOwnReply (does w c).reported.reply
done w (command.Session name tab words) = tt
done w (command.New after session input) = tt
done w (command.Set id input) = tt
done w (command.Remove id) = tt
done w (command.Move id after) = tt
done w (command.Clear id) = tt
done w (command.Eval id) = asked w _ _ (session_of_field w id) (life_of w (session_of_field w id))
done w (command.Complete id cursor) = asked w _ _ (session_of_field w id) (life_of w (session_of_field w id))
done w (command.CompleteText id cursor text) = asked w _ _ (session_of_field w id) (life_of w (session_of_field w id))
done w (command.Stop name) = stopped w (life_of w name)
done w command.Checkpoint = tt

by : (w : World) (c : Command) (r : Option Refusal) (d : Does) → CommandDoes w c r d → IsOwnReply d.reported.reply
by w c (Some r) d is = subst (λ (x : Does). IsOwnReply x.reported.reply) (sym is) tt
by w c None d (inl is) = subst (λ (x : Does). IsOwnReply x.reported.reply) (sym is) (done w c)
by w c None d (inr p) = subst (λ (x : Does). IsOwnReply x.reported.reply) (sym p.1) tt

pub each_command_has_a_reply : EachCommandHasAReply
each_command_has_a_reply w c o v gives =
    subst (λ (x : Outcome). IsOwnReply x.reply) (sym gives.2) (by w c (first_of (command_refusals w c)) gives.0 gives.1)
