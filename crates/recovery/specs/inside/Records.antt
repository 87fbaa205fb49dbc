-- Records that make a worksheet again, before they are written. No public clause speaks of them.
use Rattle.worksheet.specs.declared.op.Op.{Op}
use Rattle.worksheet.specs.declared.op.Op.TheVariants as op
use Rattle.worksheet.specs.Rewrite.{session_op}
use Rattle.recovery.specs.declared.records.Record.{Record}
use Rattle.recovery.specs.declared.records.Record.TheVariants as records

-- the op of a record
abbrev pub op_in : Record → Op
op_in (records.Session session) = session_op session.now
op_in (records.Ids next) = op.Ids next
op_in (records.New after field) = op.New after field.now.session field.now.input
op_in (records.Answer id answer) = op.Answer id answer.now.prompt answer.now.output
op_in (records.Lost id reason) = op.Lost id reason
