use Rattle.sheet_json.specs.Objects.{telling_data}
use Rattle.sheet_json.specs.Tellings as reported
use Rattle.sheet_json.proofs.NoFloats.{none_reported}
use Rattle.stream_json.proofs.blocks.write_end.Goals as goal

pub returns-clause-ok : goal.returns-clause-ok
returns-clause-ok g c = c.write_made.ensures.ok (telling_data reported.end) (none_reported reported.end) c.end_value.ensures
