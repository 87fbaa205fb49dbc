use Rattle.std.proofs.Common.{refl}
use Rattle.driver.proofs.noting.NotingSink.print_fault.Goals as goal

pub returns : goal.returns
returns g c =
    let t = c.print_fault-self.ensures in
    record { tries = record { tried = (t.tries.tried, refl); appends = t.tries.appends }; front = t.front }
