-- Worked examples of the definitions.
use Rattle.std.proofs.Common.{◌≡◌, ℕ, List, [], ◌∷◌, refl, true, false, Some, None}
use Rattle.std.specs.Str.{is_utf8, chars}
use lib.Utf8.{encode}
use Rattle.worksheet.specs.declared.op.Op.{Op}
use Rattle.worksheet.specs.declared.op.Op.TheVariants as op
use Rattle.worksheet.specs.declared.refusal.Refusal.TheVariants as refusal
use Rattle.worksheet.specs.Checks.{first_of}
use Rattle.plugin_core.specs.declared.item.Item.TheVariants as item
use Rattle.block_tree.specs.declared.reason.Reason.TheVariants as reason
use Rattle.host_events.specs.declared.command.Command.TheVariants as command
use Rattle.host_events.specs.declared.event.ChildEvent.TheVariants as child
use Rattle.host_events.specs.declared.event.Event.TheVariants as event
use Rattle.host_events.specs.declared.outcome.Effect.TheVariants as effect
use Rattle.host_events.specs.declared.reply.Reply.TheVariants as reply
use Rattle.session_engine.specs.World.{World, world_at_opening, life_of, waiting_in}
use Rattle.session_engine.specs.inside.Words.{request_of_field, begun_with}
use Rattle.session_engine.specs.Refused.{command_refusals}
use Rattle.session_engine.specs.Does.{following, does, ends_life, replies, MayDo}

-- session a with the word p, and its fields 1 (x) and 2 (y)

abbrev a : List ℕ
a = 97 ∷ []

abbrev p : List ℕ
p = 112 ∷ []

abbrev x : List ℕ
x = 120 ∷ []

abbrev y : List ℕ
y = 121 ∷ []

abbrev ops : List Op
ops = op.Session a false (p ∷ []) ∷ op.New 0 a x ∷ op.New 1 a y ∷ []

abbrev start : World
start = world_at_opening ops 1000 53

-- field 1 was evaluated
abbrev asked : World
asked = following start (does start (command.Eval 1))

-- and then field 2
abbrev asked_twice : World
asked_twice = following asked (does asked (command.Eval 2))

-- the first evaluation begins life 1 with the session's words, and the second joins it
begins_a_life : (does start (command.Eval 1)).reported ≡ record { reply = reply.Asked 1; effect = Some (effect.Start a 1 (p ∷ [])) }
begins_a_life = refl

joins_the_life : (does asked (command.Eval 2)).reported ≡ replies (reply.Asked 1)
joins_the_life = refl

-- a field in flight isn't set, removed, cleared or evaluated, and may be moved
not_removed : first_of (command_refusals asked (command.Remove 1)) ≡ Some refusal.InFlight
not_removed = refl

not_set : first_of (command_refusals asked (command.Set 1 y)) ≡ Some refusal.InFlight
not_set = refl

not_evaluated : first_of (command_refusals asked (command.Eval 1)) ≡ Some refusal.InFlight
not_evaluated = refl

moved : first_of (command_refusals asked (command.Move 1 2)) ≡ None
moved = refl

not_moved : first_of (command_refusals asked (command.Move 1 0)) ≡ Some refusal.SamePlace
not_moved = refl

-- at the end of the life both lines are lost, in order, and the child is killed
end_loses_both : (ends_life asked_twice reason.Ended true (life_of asked_twice a) reply.Nothing).reported
    ≡ record {
      reply = reply.Child (record { name = a; life = 1; closed = None; default_input = None; ended = Some (record { reason = reason.Ended; lost = item.Line 1 x ∷ item.Line 2 y ∷ [] }) });
      effect = Some (effect.Kill a 1);
    }
end_loses_both = refl

-- the start of life 1 is refused, and the next life has number 2
abbrev refused_start : World
refused_start = following asked (ends_life asked reason.StartRefused false (life_of asked a) reply.Nothing)

next_life : (does refused_start (command.Eval 1)).reported ≡ record { reply = reply.Asked 2; effect = Some (effect.Start a 2 (p ∷ [])) }
next_life = refl

-- an event of a life that doesn't go on does nothing
stale : MayDo refused_start (event.Child a 1 child.End) (record { reported = replies reply.Nothing; op = None; again = false; begun = 1; lives = [] })
stale = refl

-- where the record of the Clear ends past the room, an evaluation is refused
no_room : first_of (command_refusals (world_at_opening ops 62 53) (command.Eval 1)) ≡ Some refusal.JournalFull
no_room = refl

room : first_of (command_refusals (world_at_opening ops 64 53) (command.Eval 1)) ≡ None
room = refl

-- after 100,000 lives none begins
lives_spent : first_of (command_refusals (record start { begun = 100000 }) (command.Eval 1)) ≡ Some refusal.LivesSpent
lives_spent = refl

no_field : first_of (command_refusals start (command.Eval 3)) ≡ Some refusal.NoField
no_field = refl

no_session : first_of (command_refusals start (command.Stop p)) ≡ Some refusal.NoSession
no_session = refl

-- a session that isn't running is stopped already
already_down : (does start (command.Stop a)).reported ≡ replies reply.Done
already_down = refl

-- Completions: the session, but one whose interpreter answers requests, and field 1 with the character of the bytes 195 and 169.

abbrev ops_with_tab : List Op
ops_with_tab = op.Session a true (p ∷ []) ∷ op.New 0 a (195 ∷ 169 ∷ []) ∷ []

abbrev with_tab : World
with_tab = world_at_opening ops_with_tab 1000 40

-- a plain session is refused before the cursor is looked at
no_tab : first_of (command_refusals start (command.Complete 1 9)) ≡ Some refusal.NoTab
no_tab = refl

-- the cursor stands in front of the character or after it
inside_a_character : first_of (command_refusals with_tab (command.Complete 1 1)) ≡ Some refusal.BadCursor
inside_a_character = refl

past_the_end : first_of (command_refusals with_tab (command.Complete 1 3)) ≡ Some refusal.BadCursor
past_the_end = refl

at_the_end : first_of (command_refusals with_tab (command.Complete 1 2)) ≡ None
at_the_end = refl

-- a request begins a life like a line, gives no op, and leaves its field free
asks_for_completions : (does with_tab (command.Complete 1 2)).reported ≡ record { reply = reply.Asked 1; effect = Some (effect.Start a 1 (p ∷ [])) }
asks_for_completions = refl

no_op : (does with_tab (command.Complete 1 2)).op ≡ None
no_op = refl

still_free : first_of (command_refusals (following with_tab (does with_tab (command.Complete 1 2))) (command.Remove 1)) ≡ None
still_free = refl

-- it keeps the field's input
keeps_its_text : waiting_in (begun_with with_tab a (request_of_field with_tab 1 2)) ≡ item.Complete 1 (195 ∷ 169 ∷ []) 2 ∷ []
keeps_its_text = refl

-- or the text in its place, whose cursors are its own
text_in_its_place : (does with_tab (command.CompleteText 1 1 x)).lives ≡ begun_with with_tab a (item.Complete 1 x 1) ∷ []
text_in_its_place = refl

after_its_text : first_of (command_refusals with_tab (command.CompleteText 1 1 x)) ≡ None
unfolding is_utf8 chars encode
after_its_text = refl

past_its_text : first_of (command_refusals with_tab (command.CompleteText 1 2 x)) ≡ Some refusal.BadCursor
unfolding is_utf8 chars encode
past_its_text = refl

-- a text that no input may be, with a line feed, is refused before the cursor is looked at
no_line_feed : first_of (command_refusals with_tab (command.CompleteText 1 9 (10 ∷ []))) ≡ Some refusal.BadInput
no_line_feed = refl

-- A checkpoint. There were the session, a field that was removed and one after it. Left are the session, the number of the field and the
-- field.

abbrev ops_with_removed : List Op
ops_with_removed = op.Session a false (p ∷ []) ∷ op.New 0 a (120 ∷ []) ∷ op.Remove 1 ∷ op.New 0 a (121 ∷ []) ∷ []

abbrev with_removed : ℕ → World
with_removed room = world_at_opening ops_with_removed room 63

is_done : (does (with_removed 64) command.Checkpoint).reported ≡ replies reply.Done
is_done = refl

the_ops_stay : (following (with_removed 64) (does (with_removed 64) command.Checkpoint)).ops ≡ ops_with_removed
the_ops_stay = refl

the_end_moves : (following (with_removed 64) (does (with_removed 64) command.Checkpoint)).end ≡ 48
the_end_moves = refl

-- the gate after the records needs room too
no_room_again : first_of (command_refusals (with_removed 48) command.Checkpoint) ≡ Some refusal.JournalFull
no_room_again = refl

room_again : first_of (command_refusals (with_removed 49) command.Checkpoint) ≡ None
room_again = refl
