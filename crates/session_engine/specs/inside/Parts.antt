-- The definitions cut into the parts that private functions work on.
use Rattle.std.specs.Prelude.{ℕ, ◌+◌, List, [], ◌∷◌, ◌++◌, Bool, true, false, Option, Some, None, option_map}
use Rattle.worksheet.specs.declared.op.Op.TheVariants as op
use Rattle.worksheet.specs.declared.refusal.Refusal.{Refusal}
use Rattle.worksheet.specs.declared.refusal.Refusal.TheVariants as refusal
use Rattle.worksheet.specs.Checks.{session_named}
use Rattle.plugin_core.specs.declared.item.Item.{Item}
use Rattle.plugin_core.specs.declared.step.Ended.{Ended}
use Rattle.block_tree.specs.declared.reason.Reason.{Reason}
use Rattle.block_tree.specs.declared.reason.Reason.TheVariants as reason
use Rattle.plugin_core.specs.Past.{accepted}
use Rattle.plugin_core.specs.Steps.{sent_by}
use Rattle.host_events.specs.declared.event.ChildEvent.{ChildEvent}
use Rattle.host_events.specs.declared.event.ChildEvent.TheVariants as child
use Rattle.host_events.specs.declared.outcome.Effect.TheVariants as effect
use Rattle.host_events.specs.declared.outcome.Outcome.{Outcome}
use Rattle.host_events.specs.declared.reply.Reply.TheVariants as reply
use Rattle.session_engine.specs.World.{World, Going, sheet_in, life_of, session_of_field}
use Rattle.session_engine.specs.Refused.{queue_refusals}
use Rattle.session_engine.specs.inside.Words.{full, put_back, taken_out, starting_words, begun_with, joined_by}

-- the refusals of an Eval after those of its field and its line
abbrev pub eval_refusals : World → ℕ → List (Refusal × Bool)
eval_refusals w id = queue_refusals w (life_of w (session_of_field w id)) ++ full w (op.Clear id) ∷ []

abbrev pub with_life : Going → World → World
with_life l w = record w { lives = put_back l w.lives }

abbrev pub without_life : List ℕ → World → World
without_life name w = record w { lives = taken_out name w.lives }

-- what a life of a session is started with, where none goes on
abbrev pub start_words : World → List ℕ → Option Going → Option (List (List ℕ))
start_words w name None = Some (starting_words (session_named (sheet_in w).sessions name))
start_words w name (Some l) = None

-- a session is asked an item, where this life of it goes on: what is returned, and the world with it
abbrev pub asks : World → List ℕ → Item → Option Going → Outcome
asks w name i None = record { reply = reply.Asked (w.begun + 1); effect = Some (effect.Start name (w.begun + 1) (starting_words (session_named (sheet_in w).sessions name))) }
asks w name i (Some l) = record { reply = reply.Asked l.number; effect = option_map (λ bytes. effect.Send name l.number bytes) (sent_by l.past l.blocks (accepted i) l.blocks) }

abbrev pub with_item : World → List ℕ → Item → Option Going → World
with_item w name i None = record w { begun = w.begun + 1; lives = w.lives ++ begun_with w name i ∷ [] }
with_item w name i (Some l) = with_life (joined_by l i) w

-- the world after a life's piece, which ended it or not
abbrev pub goes_on : Going → Option Ended → World → World
goes_on l None w = with_life l w
goes_on l (Some e) w = without_life l.name w

-- why a life ends at an event of its child, and whether the child is killed
abbrev pub end_by : ChildEvent → Option (Reason × Bool)
end_by child.StartRefused = Some (reason.StartRefused, false)
end_by (child.Piece piece) = None
end_by child.End = Some (reason.Ended, true)
end_by child.ReadFault = Some (reason.ReadFault, true)
end_by child.SendFault = Some (reason.SendFault, true)
end_by child.Stalled = Some (reason.Stalled, true)
end_by child.StopFault = None
