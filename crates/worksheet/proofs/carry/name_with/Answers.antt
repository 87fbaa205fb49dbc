use Rattle.std.proofs.Common.{sym}
use Rattle.worksheet.specs.inside.Entries.{shown}
use Rattle.worksheet.proofs.Finds.{session_named-name}
use Rattle.worksheet.proofs.carry.name_with.Goals as goal

pub returns : goal.returns
returns c = session_named-name (shown c.args.sessions.now.entries) c.args.name.now c.in-Some.found.now (sym c.in-Some.ensures)
