use Rattle.std.proofs.Common.{◌-◌, map}
use Rattle.worksheet.specs.Rewrite.{fields_ops, session_op}
use Rattle.recovery.specs.inside.Measured.{HasRecord}
use Rattle.recovery.proofs.Gathering.{all_after, all_front}
use Rattle.recovery.proofs.Measures.{measures_on, measures_stop}
use Rattle.recovery.proofs.measuring.left_after_all.Goals as goal

pub left_after_sessions-requires : goal.left_after_sessions-requires
left_after_sessions-requires c =
    let sheet = c.args.sheet.now.contents in
    all_front HasRecord (map session_op sheet.sessions) (fields_ops sheet.fields (sheet.next - 1) 1 1) c.requires.records

pub left_after_fields-requires-clause-records : goal.left_after_fields-requires-clause-records
left_after_fields-requires-clause-records c =
    let sheet = c.args.sheet.now.contents in
    all_after HasRecord (map session_op sheet.sessions) (fields_ops sheet.fields (sheet.next - 1) 1 1) c.requires.records

pub returns-in-Some : goal.returns-in-Some
returns-in-Some c =
    let sheet = c.args.sheet.now.contents in
    measures_on (map session_op sheet.sessions) (fields_ops sheet.fields (sheet.next - 1) 1 1) c.left_after_fields.result c.args.left c.in-Some.rest c.in-Some.ensures c.left_after_fields.ensures

pub returns-in-None : goal.returns-in-None
returns-in-None c =
    let sheet = c.args.sheet.now.contents in
    measures_stop (map session_op sheet.sessions) (fields_ops sheet.fields (sheet.next - 1) 1 1) c.args.left c.in-None.ensures
