use Rattle.std.proofs.Common.{◌≡◌, ◌∙◌, ◌+◌, ap, drop, sym}
use Rattle.std.proofs.lemmas.List.{at_drop_more, drop_all}
use Rattle.clap.specs.Words.{App, app_of}
use Rattle.command_words.specs.inside.Arguments.{with_words}
use Rattle.command_words.proofs.commands.command_with.Goals as goal

pub loop-word-preserved : goal.loop-word-preserved
loop-word-preserved c =
    let words = c.args.words.now in
    let at = c.loop-word.word-index in
    record {
      made = ap (λ (app : App). with_words app (drop (at + 1) words)) c.in_ok-command.ensures.made
          ∙ sym (at_drop_more (with_words (app_of c.loop-word.command)) words at _ c.loop-word-test.true) ∙ c.loop-word.invariant.made;
      local = c.in_ok-command.ensures.local;
    }

pub returns-clause-made : goal.returns-clause-made
returns-clause-made c = sym (ap (with_words (app_of c.loop-word.command)) (drop_all _ c.args.words.now c.loop-word-test.false)) ∙ c.loop-word.invariant.made
