use Rattle.std.proofs.Common.{ap, map, refl, subst, true, ◌≡◌, ◌∙◌, sym}
use Rattle.std.specs.Prelude.{string_bytes}
use Rattle.clap.specs.Words.{App, HasKind, fault_of, is_simple, is_simple_and_free, subcommand_of}
use Rattle.clap.proofs.OnLiterals.{clap_on_literals}
use Rattle.command_words.specs.Asked.{by_subcommand, tmhost}
use Rattle.command_words.proofs.Simple.{simple_of}
use Rattle.command_words.proofs.words.read_words.Goals as goal

tmhost_is_simple_and_free : is_simple_and_free tmhost ≡ true
unfolding clap_on_literals
tmhost_is_simple_and_free = refl

tmhost_is_simple : is_simple tmhost ≡ true
tmhost_is_simple = simple_of tmhost tmhost_is_simple_and_free

pub returns-in_ok-task_of-in-Ok-clause-task : goal.returns-in_ok-task_of-in-Ok-clause-task
returns-in_ok-task_of-in-Ok-clause-task c =
    let app_is = c.in_ok-command.ensures in
    let rows_are = (c.in-Ok.ensures.matches (ap is_simple app_is ∙ tmhost_is_simple)).1 in
    c.in_ok-task_of-in-Ok.ensures ∙ ap by_subcommand (rows_are ∙ ap (λ (app : App). subcommand_of app (map string_bytes c.args.words.now)) app_is)

pub returns-in_ok-task_of-in-Ok-clause-kinds : goal.returns-in_ok-task_of-in-Ok-clause-kinds
returns-in_ok-task_of-in-Ok-clause-kinds c =
    let app_is = c.in_ok-command.ensures in
    let none = c.in-Ok.ensures.kinds (ap is_simple_and_free app_is ∙ tmhost_is_simple_and_free) in
    ap (λ (app : App). fault_of app (map string_bytes c.args.words.now)) (sym app_is) ∙ none

pub returns-in-Err-clause-kinds : goal.returns-in-Err-clause-kinds
returns-in-Err-clause-kinds c =
    let app_is = c.in_ok-command.ensures in
    subst (λ (app : App). HasKind (fault_of app (map string_bytes c.args.words.now)) c.in-Err.error) app_is (c.in-Err.ensures.kinds (ap is_simple_and_free app_is ∙ tmhost_is_simple_and_free))
