-- The list of the changes that stand on a disk.
use Rattle.std.specs.Prelude.{◌⊎◌, ℕ, ◌+◌, List, [], ◌∷◌, ◌++◌, Option, Some, None, Result, Ok, Err, codes}
use Rattle.std.specs.Fmt.{decimal}
use Rattle.disk_model.specs.Disk.{Image}
use Rattle.journal.specs.Front.{TellsHeader}
use Rattle.journal.specs.declared.opening.OpenCause.{OpenCause}
use Rattle.journal.specs.declared.opening.OpenCause.TheVariants as opens
use Rattle.past.specs.Earlier.{StandFirst}
use Rattle.recovery.specs.Rescued.{IsRescued}
use Rattle.offline_programs.specs.declared.fault.RunFault.{RunFault}
use Rattle.offline_programs.specs.declared.fault.RunFault.TheVariants as fault
use Rattle.sheet_text.specs.Replies.{reason_name}
use Rattle.worksheet.specs.Ops.{next_after}
use Rattle.worksheet.specs.declared.op.Op.{Op}
use Rattle.worksheet.specs.declared.op.Op.TheVariants as op

-- what an op changes, where the next new field has this number
abbrev pub text_of_change : ℕ → Op → List ℕ
text_of_change next (op.Session name tab words) = codes "session " ++ name
text_of_change next (op.New after session input) = codes "new " ++ decimal next ++ codes " " ++ session
text_of_change next (op.Set id input) = codes "set " ++ decimal id
text_of_change next (op.Remove id) = codes "remove " ++ decimal id
text_of_change next (op.Move id after) = codes "move " ++ decimal id ++ codes " " ++ decimal after
text_of_change next (op.Clear id) = codes "eval " ++ decimal id
text_of_change next (op.Answer id prompt output) = codes "answered " ++ decimal id
text_of_change next (op.Lost id reason) = codes "lost " ++ decimal id ++ codes " " ++ reason_name reason
text_of_change next (op.Ids number) = codes "ids " ++ decimal number

-- its number and that
abbrev pub change_line : ℕ → ℕ → Op → List ℕ
change_line number next o = decimal number ++ codes " " ++ text_of_change next o ++ 10 ∷ []

-- The lines of these ops, where the first one has this number, and the next new field that one.
abbrev pub changes_from : ℕ → ℕ → List Op → List ℕ
changes_from number next [] = []
changes_from number next (o ∷ os) = change_line number next o ++ changes_from (number + 1) (next_after next o) os

-- the list of all changes, which are numbered from 1
abbrev pub history_text : List Op → List ℕ
history_text ops = changes_from 1 1 ops

-- These are all changes that stand on an image before this damage, and their list was written.
abbrev pub Lists : Image → Option ℕ → (List ℕ → Type 0) → Type 0
Lists i damage written = (all : List Op) × IsRescued i all damage × written (history_text all)

-- These changes stand first on an image, whatever comes after them, and their list was written.
abbrev pub ListsFirst : Image → (List ℕ → Type 0) → Type 0
ListsFirst i written = (ops : List Op) × StandFirst i ops × written (history_text ops)

-- What the cause says that ended a list: the first damage, up to which all was written; that there is no header, where nothing was;
-- or it isn't in the bytes, and then nothing was written, or the list of some that stand first.
abbrev pub TellsEnd : Image → (List ℕ → Type 0) → Type 0 → OpenCause → Type 0
TellsEnd i written nothing (opens.Damaged gate) = Lists i (Some gate) written
TellsEnd i written nothing opens.NotASheet = TellsHeader i opens.NotASheet × nothing
TellsEnd i written nothing opens.Disk = nothing ⊎ ListsFirst i written
TellsEnd i written nothing opens.OutOfMemory = nothing ⊎ ListsFirst i written

-- the same of a fault of the program: one of reading or of writing
abbrev pub TellsListFault : Image → (List ℕ → Type 0) → Type 0 → RunFault → Type 0
TellsListFault i written nothing (fault.Open cause) = TellsEnd i written nothing cause
TellsListFault i written nothing fault.Output = Unit {0}
TellsListFault i written nothing _ = ⊥

-- What a list of changes answers of an image, where the text that was written is seen so: with `Ok` all changes stand in it, and no
-- damage is after them.
abbrev pub TellsList : Image → (List ℕ → Type 0) → Type 0 → Result Unit RunFault → Type 0
TellsList i written nothing (Ok u) = Lists i None written
TellsList i written nothing (Err why) = TellsListFault i written nothing why
