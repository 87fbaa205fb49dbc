-- What the lines of a script make of an empty worksheet.
use Rattle.std.specs.Prelude.{◌≡◌, ◌⊎◌, ℕ, ◌+◌, true, List, [], ◌∷◌, ◌++◌, Some, None, codes, length, map}
use Rattle.host_events.specs.Commands.{op_of, reply_to}
use Rattle.host_events.specs.declared.command.Command.{Command}
use Rattle.host_events.specs.declared.reply.Reply.TheVariants as reply
use Rattle.offline_programs.specs.Memory.{LinesRan}
use Rattle.sheet_text.specs.Script.{line_of}
use Rattle.sheet_text.specs.Texts.{reply_text, sheet_text}
use Rattle.sheet_text.specs.declared.script.ScriptLine.TheVariants as line
use Rattle.worksheet.specs.Checks.{Allowed}
use Rattle.worksheet.specs.Contents.{Contents}
use Rattle.worksheet.specs.Laws.{IsWorksheet}
use Rattle.worksheet.specs.Ops.{sheet_of}
use Rattle.worksheet.specs.Rewrite.{session_op}
use Rattle.worksheet.specs.declared.field.Field.{Field}
use Rattle.worksheet.specs.declared.op.Op.{Op}
use Rattle.worksheet.specs.declared.op.Op.TheVariants as op
use Rattle.worksheet.specs.declared.refusal.Refusal.TheVariants as refusal
use Rattle.sheet_export.specs.Script.{has_script, script_of}

-- the ops of the lines of these fields, in front of which stand so many others
abbrev pub new_ops : ℕ → List Field → List Op
new_ops place [] = []
new_ops place (field ∷ fields) = op.New place field.session field.input ∷ new_ops (place + 1) fields

-- the ops of all lines
abbrev pub script_ops : Contents → List Op
script_ops sheet = map session_op sheet.sessions ++ new_ops 0 sheet.fields

-- the same fields with the numbers from this one on, and without answers
abbrev pub renumbered_fields : ℕ → List Field → List Field
renumbered_fields number [] = []
renumbered_fields number (field ∷ fields) = record { id = number; session = field.session; input = field.input; answer = None; lost = None } ∷ renumbered_fields (number + 1) fields

-- the same sessions, and fields of the same sessions and inputs in the same order
abbrev pub renumbered : Contents → Contents
renumbered sheet = record { fields = renumbered_fields 1 sheet.fields; sessions = sheet.sessions; next = length sheet.fields + 1 }

-- The ops of a worksheet's script are allowed from an empty worksheet on, and make that.
abbrev pub ScriptsMakeThemAgain : Type 0
ScriptsMakeThemAgain = (sheet : Contents) → IsWorksheet sheet → Allowed (script_ops sheet) × (sheet_of (script_ops sheet) ≡ renumbered sheet)

-- a line is read as a command that gives this op
abbrev pub SaysOp : List ℕ → Op → Type 0
SaysOp text o = (reported : Command) × (line_of text ≡ Some (line.Command reported)) × (op_of reported ≡ Some o)

-- each of these lines is, one for each op
pub data SayOps : List (List ℕ) → List Op → Type 0 where
  none : SayOps [] []
  more : (text : List ℕ) (o : Op) (lines : List (List ℕ)) (os : List Op) → SaysOp text o → SayOps lines os → SayOps (text ∷ lines) (o ∷ os)

-- The lines of a worksheet's script are read as commands that give these ops.
abbrev pub ScriptsSayTheirOps : Type 0
ScriptsSayTheirOps = (sheet : Contents) → IsWorksheet sheet → has_script sheet ≡ true → SayOps (script_of sheet) (script_ops sheet)

-- There is a run of the lines of a worksheet's script over an empty worksheet in which memory is never refused. `print` after them
-- prints what they make.
abbrev pub ScriptsRun : Type 0
ScriptsRun = (sheet : Contents) → IsWorksheet sheet → has_script sheet ≡ true
    → (reported : List ℕ) × LinesRan 1 [] (script_of sheet ++ codes "print" ∷ []) (reported ++ sheet_text (renumbered sheet))

-- what is replied to these ops after those, where each is done
abbrev pub replies_of : List Op → List Op → List ℕ
replies_of before [] = []
replies_of before (o ∷ os) = reply_text (reply_to (sheet_of before) o) ++ replies_of (before ++ o ∷ []) os

-- The first of these ops were done after those, and at the next one memory was refused.
abbrev pub WantsMemory : List Op → List Op → List ℕ → Type 0
WantsMemory before ops text = (first : List Op) × (o : Op) × (later : List Op) × (following : List ℕ) × (ops ≡ first ++ o ∷ later)
    × (text ≡ replies_of before first ++ (reply_text (reply.Refused refusal.OutOfMemory) ++ following))

-- Each run of these lines replies that its ops were done, and prints what they make; or at one of them memory was refused.
abbrev pub ScriptsRunAlike : Type 0
ScriptsRunAlike = (sheet : Contents) → IsWorksheet sheet → has_script sheet ≡ true
    → (text : List ℕ) → LinesRan 1 [] (script_of sheet ++ codes "print" ∷ []) text
    → (text ≡ replies_of [] (script_ops sheet) ++ sheet_text (renumbered sheet)) ⊎ WantsMemory [] (script_ops sheet) text
