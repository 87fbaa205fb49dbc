use Rattle.std.proofs.Common.{◌≡◌, false, drop}
use Rattle.clap.specs.Words.{app_of, new_app}
use Rattle.clap.specs.declared.builder.command.Command.TheViews.{out-Command}
use Rattle.command_words.specs.inside.Arguments.{with_words}
use Rattle.command_words.proofs.commands.command_with.Given as goal

abbrev pub invariant-loop-word : goal.invariant-loop-word
invariant-loop-word l = record {
  made : with_words (app_of l.command) (drop l.word-index l.words) ≡ with_words (new_app l.fn.row.name.now) l.words;
  local : (out-Command l.command).has_globals ≡ false;
}
