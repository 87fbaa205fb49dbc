use Rattle.std.proofs.Common.{sym, ◌∙◌}
use Rattle.session_engine.proofs.Asking.{fit}
use Rattle.session_engine.proofs.Committing.{broken, not_committed}
use Rattle.session_engine.proofs.commits.commit.Goals as goal

pub returns-in-Some-clause-ok : goal.returns-in-Some-clause-ok
returns-in-Some-clause-ok g c = λ ops is.
    not_committed c.args.store.now c.commit.new.self c.args.op c.in-Err.fault c.in-Some.refusal c.in-Err.ensures.commits.answer (sym c.refusal_of-refusal.ensures ∙ c.in-Some.is)

pub returns-in-Some-clause-moments : goal.returns-in-Some-clause-moments
returns-in-Some-clause-moments g c = λ model ops is. c.commit.ensures.any_moment model c.requires.open ops is

pub returns-in-None-clause-fits : goal.returns-in-None-clause-fits
returns-in-None-clause-fits g c =
    let left = broken c.args.store.now c.commit.new.self c.args.op c.in-Err.fault c.requires.open c.in-Err.ensures.commits.answer (sym c.refusal_of-refusal.ensures ∙ c.in-None.is) in
    fit c.args.store.now.disk.room c.args.store.now.end c.args.op left.0.1

pub returns-in-None-clause-err : goal.returns-in-None-clause-err
returns-in-None-clause-err g c =
    let left = broken c.args.store.now c.commit.new.self c.args.op c.in-Err.fault c.requires.open c.in-Err.ensures.commits.answer (sym c.refusal_of-refusal.ensures ∙ c.in-None.is) in
    (left.1.contents, left.1.faults)

pub returns-in-None-clause-moments : goal.returns-in-None-clause-moments
returns-in-None-clause-moments g c = λ model ops is. c.commit.ensures.any_moment model c.requires.open ops is

pub returns-in-Ok-clause-same : goal.returns-in-Ok-clause-same
returns-in-Ok-clause-same g c = c.commit.ensures.same

pub returns-in-Ok-clause-gathers : goal.returns-in-Ok-clause-gathers
returns-in-Ok-clause-gathers g c = c.commit.ensures.gathers

pub returns-in-Ok-clause-at_once : goal.returns-in-Ok-clause-at_once
returns-in-Ok-clause-at_once g c = tt

pub returns-in-Ok-clause-fits : goal.returns-in-Ok-clause-fits
returns-in-Ok-clause-fits g c = tt

pub returns-in-Ok-clause-err : goal.returns-in-Ok-clause-err
returns-in-Ok-clause-err g c = tt

pub returns-in-Some-clause-same : goal.returns-in-Some-clause-same
returns-in-Some-clause-same g c = c.commit.ensures.same

pub returns-in-Some-clause-gathers : goal.returns-in-Some-clause-gathers
returns-in-Some-clause-gathers g c = c.commit.ensures.gathers

pub returns-in-Some-clause-at_once : goal.returns-in-Some-clause-at_once
returns-in-Some-clause-at_once g c = tt

pub returns-in-Some-clause-fits : goal.returns-in-Some-clause-fits
returns-in-Some-clause-fits g c = tt

pub returns-in-Some-clause-err : goal.returns-in-Some-clause-err
returns-in-Some-clause-err g c = tt

pub returns-in-None-clause-same : goal.returns-in-None-clause-same
returns-in-None-clause-same g c = c.commit.ensures.same

pub returns-in-None-clause-gathers : goal.returns-in-None-clause-gathers
returns-in-None-clause-gathers g c = c.commit.ensures.gathers

pub returns-in-None-clause-ok : goal.returns-in-None-clause-ok
returns-in-None-clause-ok g c = λ ops is. tt
