-- Which commands are refused, and why: for each command its refusals in their order, each beside whether it applies. The first
-- that applies is answered. (docs/dev/HOST.md, "Refusals".)
use Rattle.std.specs.Prelude.{ℕ, ◌+◌, ◌&&◌, not, Bool, true, false, List, [], ◌∷◌, ◌++◌, length, drop, nat_le, nat_lt, Option, is_none, is_some}
use Rattle.std.specs.Option.{option_map_or}
use Rattle.block_tree.specs.declared.reason.Reason.TheVariants as reason
use Rattle.worksheet.specs.Checks.{has_session, has_field, is_input, refusals, session_named}
use Rattle.worksheet.specs.declared.op.Op.{Op}
use Rattle.worksheet.specs.declared.op.Op.TheVariants as op
use Rattle.worksheet.specs.declared.refusal.Refusal.{Refusal}
use Rattle.worksheet.specs.declared.refusal.Refusal.TheVariants as refusal
use Rattle.plugin_core.specs.Limits.{most_waiting}
use Rattle.session_engine.specs.Limits.{most_lives}
use Rattle.host_events.specs.declared.command.Command.{Command}
use Rattle.host_events.specs.declared.command.Command.TheVariants as command
use Rattle.session_engine.specs.World.{World, Going, sheet_in, in_flight, fits_in, end_again, kept_at_end, life_of, session_of_field, input_of, waiting_in}

-- these refusals with one more, which stands directly after the first
abbrev pub second : Refusal × Bool → List (Refusal × Bool) → List (Refusal × Bool)
second r [] = r ∷ []
second r (first ∷ rs) = first ∷ r ∷ rs

-- The refusals of an op but lack of room: those of the worksheet. Where no line of the field may wait, that is asked directly after
-- whether there is such a field.
abbrev pub refusals_but_room : World → Op → List (Refusal × Bool)
refusals_but_room w (op.Set id input) = second (refusal.InFlight, in_flight w id) (refusals (sheet_in w) (op.Set id input))
refusals_but_room w (op.Remove id) = second (refusal.InFlight, in_flight w id) (refusals (sheet_in w) (op.Remove id))
refusals_but_room w (op.Clear id) = second (refusal.InFlight, in_flight w id) (refusals (sheet_in w) (op.Clear id))
refusals_but_room w o = refusals (sheet_in w) o

-- the refusals of an op, lack of room the last: its payload doesn't fit
abbrev pub op_refusals : World → Op → List (Refusal × Bool)
op_refusals w o = refusals_but_room w o ++ (refusal.JournalFull, not (fits_in w.room w.end o)) ∷ []

-- The refusals of one item more for a session of which this life goes on, or none: so many items wait in the life that it takes no more; or
-- none goes on, and so many have begun that none can begin.
abbrev pub queue_refusals : World → Option Going → List (Refusal × Bool)
queue_refusals w life =
    (refusal.QueueFull, option_map_or (λ l. nat_le most_waiting (length (waiting_in l))) life false)
    ∷ (refusal.LivesSpent, is_none life && nat_le most_lives w.begun)
    ∷ []

-- what is left of a text begins inside a character: with a byte that goes on one (RFC 3629, 3)
abbrev pub begins_inside : List ℕ → Bool
begins_inside [] = false
begins_inside (b ∷ bs) = nat_le 128 b && nat_lt b 192

-- a place in a text, as the number of bytes before it: in front of a character, or at the end
abbrev pub is_cursor : List ℕ → ℕ → Bool
is_cursor text at = nat_le at (length text) && not (begins_inside (drop at text))

-- The refusals of completions for a field, before those of the text: there is no such field, or the interpreter of its session answers no
-- such requests.
abbrev pub tab_refusals : World → ℕ → List (Refusal × Bool)
tab_refusals w id =
    (refusal.NoField, not (has_field (sheet_in w) id))
    ∷ (refusal.NoTab, not (option_map_or (λ s. s.tab) (session_named (sheet_in w).sessions (session_of_field w id)) false))
    ∷ []

-- and after those: this is no cursor in the text, or the session with this name takes no item more
abbrev pub cursor_refusals : World → List ℕ → List ℕ → ℕ → List (Refusal × Bool)
cursor_refusals w name text cursor = (refusal.BadCursor, not (is_cursor text cursor)) ∷ queue_refusals w (life_of w name)

-- The refusals of a command. Completions are asked at a cursor in the input of a field, or in a text that may be one.
abbrev pub command_refusals : World → Command → List (Refusal × Bool)
command_refusals w (command.Session name tab words) = op_refusals w (op.Session name tab words)
command_refusals w (command.New after session input) = op_refusals w (op.New after session input)
command_refusals w (command.Set id input) = op_refusals w (op.Set id input)
command_refusals w (command.Remove id) = op_refusals w (op.Remove id)
command_refusals w (command.Move id after) = op_refusals w (op.Move id after)
command_refusals w (command.Clear id) = op_refusals w (op.Clear id)
command_refusals w (command.Eval id) =
    (refusal.NoField, not (has_field (sheet_in w) id))
    ∷ (refusal.InFlight, in_flight w id)
    ∷ (queue_refusals w (life_of w (session_of_field w id)) ++ (refusal.JournalFull, not (fits_in w.room w.end (op.Clear id))) ∷ [])
command_refusals w (command.Complete id cursor) = tab_refusals w id ++ cursor_refusals w (session_of_field w id) (input_of w id) cursor
command_refusals w (command.CompleteText id cursor text) =
    tab_refusals w id ++ (refusal.BadInput, not (is_input text)) ∷ cursor_refusals w (session_of_field w id) text cursor
command_refusals w (command.Stop name) = (refusal.NoSession, not (has_session (sheet_in w) name)) ∷ []
-- the ops that make the worksheet again have no room: the gate after their records isn't in the area
command_refusals w command.Checkpoint = (refusal.JournalFull, not (nat_le (end_again (sheet_in w) + 1) w.room)) ∷ []

-- Which commands may be refused for lack of memory, where no other refusal applies: all of them, a Stop where a line keeps its reason.
abbrev pub command_takes_memory : World → Command → Bool
command_takes_memory w (command.Stop name) = is_some (kept_at_end w reason.Stopped (life_of w name))
command_takes_memory w _ = true
