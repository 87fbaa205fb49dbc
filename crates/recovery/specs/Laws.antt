-- Laws of payloads and of the images of worksheets.
use Rattle.std.specs.Prelude.{◌≡◌, ◌≤◌, ℕ, Bool, List, ◌++◌, Option, None, length}
use Rattle.std.specs.List.{AllByRecursion}
use Rattle.block_tree.specs.Tree.{Tree}
use Rattle.block_tree.specs.Output.{output}
use Rattle.meta_format.specs.Limits.{limits}
use Rattle.meta_format.specs.Spelling.{Spells}
use Rattle.worksheet.specs.Limits.{longest_kept_prompt}
use Rattle.journal.specs.Area.{ArePayloads}
use Rattle.journal.specs.Limits.{longest_payload}
use Rattle.worksheet.specs.declared.op.Op.{Op}
use Rattle.worksheet.specs.declared.op.Op.TheVariants as op
use Rattle.worksheet.specs.Ops.{sheet_of}
use Rattle.worksheet.specs.Checks.{Allowed, first_refusal}
use Rattle.worksheet.specs.Contents.{Contents}
use Rattle.worksheet.specs.Rewrite.{rewrite_of}
use Rattle.disk_model.specs.Disk.{Image}
use Rattle.journal.specs.Open.{IsPassing}
use Rattle.journal.specs.declared.opening.OpenCause.{OpenCause}
use Rattle.journal.specs.declared.opening.OpenCause.TheVariants as opens
use Rattle.journal.specs.Front.{ImageHasFront}
use Rattle.journal.specs.Kept.{ImageStandsFor}
use Rattle.recovery.specs.Code.{code_of, HasCode, IsPayloadOf, IsTyped}
use Rattle.recovery.specs.Rescued.{IsRescued}
use Rattle.recovery.specs.Sheets.{codes_of, Makes, IsSheetImage, TellsOfSheet}

-- no two ops have one payload
abbrev pub OneOp : Type 0
OneOp = (a b : Op) (payload : List ℕ) → IsPayloadOf a payload → IsPayloadOf b payload → a ≡ b

-- an op that a worksheet of allowed ops allows has a payload
abbrev pub AllowedHaveCode : Type 0
AllowedHaveCode = (os : List Op) (o : Op) → Allowed os → first_refusal (sheet_of os) o ≡ None
    → HasCode o

-- an image stands for the payloads of one list of allowed ops at most
abbrev pub OneListOfOps : Type 0
OneListOfOps = (a b : List Op) (s t : Contents) (i : Image) → Makes a s → Makes b t
    → ImageStandsFor i (codes_of a) → ImageStandsFor i (codes_of b) → a ≡ b

-- and is that of one worksheet at most
abbrev pub OneSheet : Type 0
OneSheet = (s t : Contents) (i : Image) → IsSheetImage s i → IsSheetImage t i → s ≡ t

-- a disk is damaged at one gate at most, be it by the gates or by a payload that is refused
abbrev pub OneRefusal : Type 0
OneRefusal = (i : Image) (gate other : ℕ) → TellsOfSheet i (opens.Damaged gate)
    → TellsOfSheet i (opens.Damaged other) → gate ≡ other

-- and no cause of a refusal lies in the bytes of an image of a worksheet
abbrev pub SheetImageOpens : Type 0
SheetImageOpens = (sheet : Contents) (i : Image) (cause : OpenCause) → IsSheetImage sheet i
    → TellsOfSheet i cause → IsPassing cause

-- No list of allowed ops whose payloads stand at the front of an image is longer than that of a rescue:
-- each is a front of it.
abbrev pub LongestRescue : Type 0
LongestRescue = (i : Image) (ops : List Op) (damage : Option ℕ) (others : List Op)
    (left : List (List ℕ)) (damaged : Bool) → IsRescued i ops damage
    → AllByRecursion IsTyped others → Allowed others → ImageHasFront i (codes_of others ++ left) damaged
    → (more : List Op) × (ops ≡ others ++ more)

-- an image has one rescue at most
abbrev pub OneRescue : Type 0
OneRescue = (i : Image) (ops others : List Op) (damage again : Option ℕ) → IsRescued i ops damage
    → IsRescued i others again → (ops ≡ others) × (damage ≡ again)

-- and that of an image of a worksheet is the worksheet, whole
abbrev pub RescueOfWhole : Type 0
RescueOfWhole = (i : Image) (sheet : Contents) (ops : List Op) (damage : Option ℕ)
    → IsSheetImage sheet i → IsRescued i ops damage → (sheet_of ops ≡ sheet) × (damage ≡ None)

-- The ops that make a worksheet again fit records, where the ops that made it do. Each answer among them is that of one of those, and every
-- other op is short.
abbrev pub RewritesAreShort : Type 0
RewritesAreShort = (ops : List Op) (sheet : Contents) → Makes ops sheet
    → ArePayloads longest_payload (codes_of (rewrite_of sheet))

-- An answer fits a record: where the bytes of its block were no more than an outer block may have,
-- and its prompt is one that a worksheet allows.
abbrev pub ReceivedAnswersFit : Type 0
ReceivedAnswersFit = (id : ℕ) (prompt : List ℕ) (block : Tree) (received : List ℕ)
    → Spells limits block received → length received ≤ limits.block
    → length prompt ≤ longest_kept_prompt
    → length (code_of (op.Answer id prompt (output block))) ≤ longest_payload
