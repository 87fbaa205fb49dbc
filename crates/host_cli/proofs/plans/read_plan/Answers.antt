use Rattle.std.proofs.Common.{◌∙◌, ap, sym, subst, map}
use Rattle.command_words.specs.Asked.{eval_view}
use Rattle.host_cli.specs.Plans.{jobs_asked, which_asked}
use Rattle.host_cli.specs.inside.Reading.{IsWhy}
use Rattle.host_cli.proofs.PlansRefused.{jobs_refused, which_refused}
use Rattle.host_cli.proofs.plans.read_plan.Goals as goal

pub returns-in-Err-clause-err : goal.returns-in-Err-clause-err
returns-in-Err-clause-err c =
    let words = eval_view c.args.words.now in
    jobs_refused words (c.in-Some.limit, sym c.in-Some.ensures) c.in-Err.why
    (sym (c.in-Err.ensures ∙ ap (λ s. jobs_asked words.jobs s words.timeout) c.stops_early-strict.ensures))

pub returns-in-Err-read_which-clause-err : goal.returns-in-Err-read_which-clause-err
returns-in-Err-read_which-clause-err c =
    let words = eval_view c.args.words.now in
    which_refused words (
      (
        (c.in-Some.limit, sym c.in-Some.ensures),
        (c.in-Ok.jobs, sym (c.in-Ok.ensures ∙ ap (λ s. jobs_asked words.jobs s words.timeout) c.stops_early-strict.ensures)),
      ),
      (c.in-Ok-read_spared.spared, sym c.in-Ok-read_spared.ensures),
    )
    c.in-Err-read_which.why
    (subst (λ ws. IsWhy (which_asked words.from (map (λ word. word.now) ws)) c.in-Err-read_which.why) c.as_slice.ensures.value c.in-Err-read_which.ensures.err)
