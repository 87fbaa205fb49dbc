-- The ops that make a worksheet again: its sessions in their order, its fields by ascending number, and the number of the next new
-- field. The law `RewriteMakesTheSame` says that they make it.
use Rattle.std.specs.Prelude.{ℕ, ◌+◌, ◌-◌, ◌==◌, zero, suc, List, [], ◌∷◌, ◌++◌, map, nat_lt, Option, Some, None, if◌then◌else◌}
use Rattle.block_tree.specs.declared.reason.Reason.{Reason}
use Rattle.worksheet.specs.declared.op.Op.{Op}
use Rattle.worksheet.specs.declared.op.Op.TheVariants as op
use Rattle.worksheet.specs.declared.field.Answer.{Answer}
use Rattle.worksheet.specs.declared.field.Field.{Field}
use Rattle.worksheet.specs.declared.field.Session.{Session}
use Rattle.worksheet.specs.Contents.{Contents}
use Rattle.worksheet.specs.Checks.{field_in, numbers}

abbrev pub session_op : Session → Op
session_op session = op.Session session.name session.tab session.words

-- the next New takes this number: nothing is to do where it is the next one already
abbrev pub ids_to : ℕ → ℕ → List Op
ids_to next number = if next == number then [] else op.Ids number ∷ []

-- of the numbers in front of this one the nearest that is smaller, and where none of them is, the one that was found before
abbrev pub smaller_before : ℕ → ℕ → List ℕ → ℕ
smaller_before found id [] = found
smaller_before found id (n ∷ ns) =
    if n == id then found else if nat_lt n id then smaller_before n id ns
    else smaller_before found id ns

-- why nothing was answered, if that is known
abbrev pub lost_ops : ℕ → Option Reason → List Op
lost_ops id None = []
lost_ops id (Some reason) = op.Lost id reason ∷ []

-- its answer, or the reason why there is none, if it has one of them
abbrev pub outcome_ops : ℕ → Option Answer → Option Reason → List Op
outcome_ops id None lost = lost_ops id lost
outcome_ops id (Some answer) lost = op.Answer id answer.prompt answer.output ∷ []

-- One of these fields, where this is the next number. It goes after the nearest field in front of it with a smaller number, which was made
-- before it; without one, to the front.
abbrev pub field_ops : List Field → ℕ → Field → List Op
field_ops fields next field = ids_to next field.id
    ++ (op.New (smaller_before 0 field.id (numbers fields)) field.session field.input
    ∷ outcome_ops field.id field.answer field.lost)

-- the field under a number, if there is one, and then the ops `following`; else the ops `without`
abbrev pub found_ops : List Field → ℕ → Option Field → List Op → List Op → List Op
found_ops fields next None following without = without
found_ops fields next (Some field) following without = field_ops fields next field ++ following

-- Those of the fields that have one of so many numbers from this one on, where this is the next number. At the end the next number is the
-- one after them all.
abbrev pub fields_ops : List Field → ℕ → ℕ → ℕ → List Op
fields_ops fields zero number next = ids_to next number
fields_ops fields (suc count) number next =
    found_ops fields next (field_in fields number)
    (fields_ops fields count (number + 1) (number + 1)) (fields_ops fields count (number + 1) next)

-- the ops that make this worksheet again
abbrev pub rewrite_of : Contents → List Op
rewrite_of sheet = map session_op sheet.sessions ++ fields_ops sheet.fields (sheet.next - 1) 1 1
