use Rattle.std.proofs.Common.{◌≡◌}
use Rattle.clap.specs.Words.{app_of}
use Rattle.command_words.specs.inside.Table as asked
use Rattle.command_words.proofs.commands.with_all.Given as goal

abbrev pub invariant-loop-at : goal.invariant-loop-at
invariant-loop-at l = app_of l.command ≡ asked.with_rows (app_of l.fn.command) l.at
