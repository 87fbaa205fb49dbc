-- What a script over a worksheet in memory writes. The worksheet is that of the ops so far.
use Rattle.std.specs.Prelude.{◌≡◌, ◌+◌, ℕ, true, List, [], ◌∷◌, ◌++◌, Option, Some, None, map, codes}
use Rattle.std.specs.Fmt.{decimal}
use Rattle.std.specs.List.{flat_map}
use Rattle.bstr.specs.Text.{lines_of, without_terminator}
use Rattle.worksheet.specs.declared.op.Op.{Op}
use Rattle.worksheet.specs.declared.refusal.Refusal.{Refusal}
use Rattle.worksheet.specs.declared.refusal.Refusal.TheVariants as refusal
use Rattle.worksheet.specs.Ops.{sheet_of}
use Rattle.worksheet.specs.Checks.{first_refusal, takes_memory}
use Rattle.host_events.specs.Commands.{op_of, reply_to}
use Rattle.host_events.specs.declared.command.Command.{Command}
use Rattle.host_events.specs.declared.reply.Reply.{Reply}
use Rattle.host_events.specs.declared.reply.Reply.TheVariants as reply
use Rattle.sheet_text.specs.Script.{line_of, keeps_bytes}
use Rattle.sheet_text.specs.Texts.{reply_text, sheet_text}
use Rattle.sheet_text.specs.declared.script.ScriptLine.{ScriptLine}
use Rattle.sheet_text.specs.declared.script.ScriptLine.TheVariants as line

-- the lines of a script: each ends at a line feed, one carriage return in front of it is dropped, and
-- a last line without one counts
abbrev pub script_lines : List ℕ → List (List ℕ)
script_lines script = map without_terminator (lines_of script)

-- 'bad line' and the number of the line, from 1
abbrev pub bad_line : ℕ → List ℕ
bad_line number = codes "bad line " ++ decimal number ++ 10 ∷ []

-- the texts of replies, one after another
abbrev pub replies_text : List Reply → List ℕ
replies_text replies = flat_map reply_text replies

-- An op on the worksheet of these ops, what is replied, and the ops after it. The worksheet says
-- which refusal comes; lack of memory is reported only of an op that it allows and that takes memory.
pub data OpRan (ops : List Op) (o : Op) : Reply → List Op → Type 0 where
  done : first_refusal (sheet_of ops) o ≡ None → OpRan ops o (reply_to (sheet_of ops) o) (ops ++ o ∷ [])
  refused : (why : Refusal) → first_refusal (sheet_of ops) o ≡ Some why → OpRan ops o (reply.Refused why) ops
  unkept : takes_memory o ≡ true → first_refusal (sheet_of ops) o ≡ None → OpRan ops o (reply.Refused refusal.OutOfMemory) ops

-- What the line with this number says, what is written of it, and the ops after it.
pub data LineRan (number : ℕ) (ops : List Op) : Option ScriptLine → List ℕ → List Op → Type 0 where
  skipped : LineRan number ops (Some line.Skip) [] ops
  unknown : LineRan number ops None (bad_line number) ops
  printed : LineRan number ops (Some line.Print) (sheet_text (sheet_of ops)) ops
  replied : (reported : Command) (o : Op) (answer : Reply) (after : List Op) → op_of reported ≡ Some o → OpRan ops o answer after
      → LineRan number ops (Some (line.Command reported)) (reply_text answer) after
  -- without interpreters there is nothing to wait for, to send to or to stop
  idle : LineRan number ops (Some line.Wait) (bad_line number) ops
  no_op : (reported : Command) → op_of reported ≡ None → LineRan number ops (Some (line.Command reported)) (bad_line number) ops
  -- there was no memory for the bytes of the command
  unread : (reported : Command) → keeps_bytes reported ≡ true
      → LineRan number ops (Some (line.Command reported)) (reply_text (reply.Refused refusal.OutOfMemory)) ops

-- The lines from this number on, one after another, and what is written of them.
abbrev pub LinesRan : ℕ → List Op → List (List ℕ) → List ℕ → Type 0
LinesRan number ops [] text = text ≡ []
LinesRan number ops (line ∷ lines) text =
    (first : List ℕ) × (after : List Op) × (rest : List ℕ) × LineRan number ops (line_of line) first after × LinesRan (number + 1) after lines rest × (text ≡ first ++ rest)

-- A whole script on an empty worksheet.
abbrev pub ScriptRan : List ℕ → List ℕ → Type 0
ScriptRan script text = LinesRan 1 [] (script_lines script) text
