use Rattle.driver.proofs.noting.NotingSink.followed.Goals as goal

pub returns-clause-tries : goal.returns-clause-tries
returns-clause-tries g c = λ w h.
    let t = c.followed-done.ensures.tries w h in
    record { tried = (t.tried, c.is_ok-self.ensures.value); appends = t.appends }
