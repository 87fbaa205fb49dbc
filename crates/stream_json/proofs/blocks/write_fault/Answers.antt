use Rattle.std.proofs.Common.{Some}
use Rattle.sheet_json.specs.Objects.{telling_data}
use Rattle.sheet_json.specs.Tellings as reported
use Rattle.sheet_json.proofs.NoFloats.{none_reported}
use Rattle.stream_json.proofs.blocks.write_fault.Goals as goal

pub returns-clause-ok : goal.returns-clause-ok
returns-clause-ok g c =
    let t = reported.fault c.args.number c.args.name.now (Some c.args.offset) in
    c.write_made.ensures.ok (telling_data t) (none_reported t) c.fault_value.ensures
