use Rattle.std.proofs.Common.{IsTrue, subst}
use Rattle.disk_model.specs.inside.Moments.{goes_on, still}
use Rattle.journal.proofs.Again.{ready, spared_headed, spares_either}
use Rattle.journal.proofs.renewal.write_from.Goals as goal

pub activate-requires-clause-headed : goal.activate-requires-clause-headed
activate-requires-clause-headed g c = λ model1.
    let model = subst IsTrue c.lay_from.ensures.called.keeps_model model1 in
    spared_headed c.args.area _ _ (c.lay_from.ensures.spared model) (c.requires.active model).headed

pub returns-in_err-end-clause-any_moment : goal.returns-in_err-end-clause-any_moment
returns-in_err-end-clause-any_moment g c = λ model end payloads keeps.
    spares_either c.args.area _ _ end payloads (g.S.Source.payloads c.args.source.now) keeps (c.requires.active model).named (c.lay_from.ensures.moments model)

pub returns-in_err-activate-clause-any_moment : goal.returns-in_err-activate-clause-any_moment
returns-in_err-activate-clause-any_moment g c = λ model end payloads keeps.
    let model1 = still _ _ _ c.lay_from.ensures.called model in
    let named = (c.requires.active model).named in
    let laid = c.in_ok-end.ensures in
    goes_on _ _ _ _ (spares_either c.args.area _ _ end payloads (g.S.Source.payloads c.args.source.now) keeps named (c.lay_from.ensures.moments model))
    (c.activate.ensures.any_moment model1 payloads (g.S.Source.payloads c.args.source.now)
    (ready c.args.area _ _ end payloads (g.S.Source.payloads c.args.source.now) keeps named (c.lay_from.ensures.moments model) (c.lay_from.ensures.spared model) (laid.laid model keeps.stands.headed) (laid.durable model)))

pub returns-clause-any_moment : goal.returns-clause-any_moment
returns-clause-any_moment g c = λ model end payloads keeps.
    let model1 = still _ _ _ c.lay_from.ensures.called model in
    let named = (c.requires.active model).named in
    let laid = c.in_ok-end.ensures in
    goes_on _ _ _ _ (spares_either c.args.area _ _ end payloads (g.S.Source.payloads c.args.source.now) keeps named (c.lay_from.ensures.moments model))
    (c.activate.ensures.any_moment model1 payloads (g.S.Source.payloads c.args.source.now)
    (ready c.args.area _ _ end payloads (g.S.Source.payloads c.args.source.now) keeps named (c.lay_from.ensures.moments model) (c.lay_from.ensures.spared model) (laid.laid model keeps.stands.headed) (laid.durable model)))

pub returns-clause-acknowledged : goal.returns-clause-acknowledged
returns-clause-acknowledged g c = λ model end payloads keeps.
    let model1 = still _ _ _ c.lay_from.ensures.called model in
    let named = (c.requires.active model).named in
    let laid = c.in_ok-end.ensures in
    c.in_ok-activate.ensures.acknowledged model1 payloads (g.S.Source.payloads c.args.source.now)
    (ready c.args.area _ _ end payloads (g.S.Source.payloads c.args.source.now) keeps named (c.lay_from.ensures.moments model) (c.lay_from.ensures.spared model) (laid.laid model keeps.stands.headed) (laid.durable model))
