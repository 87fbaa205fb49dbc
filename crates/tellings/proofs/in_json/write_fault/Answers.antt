use Rattle.std.proofs.Common.{subst}
use Rattle.sheet_json.specs.Sheets.{telling_line}
use Rattle.sheet_json.specs.Tellings as reported
use Rattle.tellings.specs.Faults.{fault_name, fault_offset}
use Rattle.tellings.specs.Voice.{WroteLine}
use Rattle.tellings.proofs.in_json.write_fault.Goals as goal

pub returns-clause-wrote : goal.returns-clause-wrote
returns-clause-wrote g c = subst (λ n. WroteLine c.write_made.result (g.W.Write.contents c.args.writer.now) (g.W.Write.contents c.write_made.new.writer)
    (telling_line (reported.fault n (fault_name c.args.why) (fault_offset c.args.why)))) c.number-number.ensures
    (subst (λ name. WroteLine c.write_made.result (g.W.Write.contents c.args.writer.now) (g.W.Write.contents c.write_made.new.writer)
    (telling_line (reported.fault c.number-number.result name (fault_offset c.args.why)))) c.name-name.ensures
    (subst (λ offset. WroteLine c.write_made.result (g.W.Write.contents c.args.writer.now) (g.W.Write.contents c.write_made.new.writer)
    (telling_line (reported.fault c.number-number.result c.name-name.result.now offset))) c.offset-offset.ensures
    (c.write_made.ensures.wrote (reported.fault c.number-number.result c.name-name.result.now c.offset-offset.result) c.fault_value.ensures)))
