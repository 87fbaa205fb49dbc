use Rattle.std.proofs.Common.{IsTrue, subst}
use Rattle.disk_model.specs.inside.Moments.{goes_on, still}
use Rattle.journal.proofs.Again.{ready, spared_headed, spares_either}
use Rattle.journal.proofs.rewrite.write_again.Goals as goal

pub activate-requires-clause-headed : goal.activate-requires-clause-headed
activate-requires-clause-headed g c = λ model1.
    let model = subst IsTrue c.lay_all.ensures.called.keeps_model model1 in
    spared_headed c.args.area _ _ (c.lay_all.ensures.spared model) (c.requires.active model).headed

pub returns-in_err-lay_all-clause-any_moment : goal.returns-in_err-lay_all-clause-any_moment
returns-in_err-lay_all-clause-any_moment g c = λ model end payloads keeps.
    spares_either c.args.area _ _ end payloads c.args.frames.now keeps (c.requires.active model).named (c.lay_all.ensures.moments model)

pub returns-in_err-activate-clause-any_moment : goal.returns-in_err-activate-clause-any_moment
returns-in_err-activate-clause-any_moment g c = λ model end payloads keeps.
    let model1 = still _ _ _ c.lay_all.ensures.called model in
    let named = (c.requires.active model).named in
    let laid = c.in_ok-lay_all.ensures in
    goes_on _ _ _ _ (spares_either c.args.area _ _ end payloads c.args.frames.now keeps named (c.lay_all.ensures.moments model))
    (c.activate.ensures.any_moment model1 payloads c.args.frames.now
    (ready c.args.area _ _ end payloads c.args.frames.now keeps named (c.lay_all.ensures.moments model) (c.lay_all.ensures.spared model) (laid.laid model keeps.stands.headed) (laid.durable model)))

pub returns-clause-any_moment : goal.returns-clause-any_moment
returns-clause-any_moment g c = λ model end payloads keeps.
    let model1 = still _ _ _ c.lay_all.ensures.called model in
    let named = (c.requires.active model).named in
    let laid = c.in_ok-lay_all.ensures in
    goes_on _ _ _ _ (spares_either c.args.area _ _ end payloads c.args.frames.now keeps named (c.lay_all.ensures.moments model))
    (c.activate.ensures.any_moment model1 payloads c.args.frames.now
    (ready c.args.area _ _ end payloads c.args.frames.now keeps named (c.lay_all.ensures.moments model) (c.lay_all.ensures.spared model) (laid.laid model keeps.stands.headed) (laid.durable model)))

pub returns-clause-acknowledged : goal.returns-clause-acknowledged
returns-clause-acknowledged g c = λ model end payloads keeps.
    let model1 = still _ _ _ c.lay_all.ensures.called model in
    let named = (c.requires.active model).named in
    let laid = c.in_ok-lay_all.ensures in
    c.in_ok-activate.ensures.acknowledged model1 payloads c.args.frames.now
    (ready c.args.area _ _ end payloads c.args.frames.now keeps named (c.lay_all.ensures.moments model) (c.lay_all.ensures.spared model) (laid.laid model keeps.stands.headed) (laid.durable model))
