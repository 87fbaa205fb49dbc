use Rattle.std.proofs.Common.{◌∙◌, None}
use Rattle.std.specs.Str.{bytes_eq}
use Rattle.indexmap.proofs.CallerLemmas.{insert_entry-new}
use Rattle.worksheet.proofs.session_map.add_name.Goals as goal

pub returns-in-Ok-clause-ok : goal.returns-in-Ok-clause-ok
returns-in-Ok-clause-ok c = c.in-Ok.ensures.entries ∙ insert_entry-new bytes_eq c.args.sessions.now c.args.name None c.requires
