use Rattle.std.proofs.Common.{ap, refl}
use Rattle.disk_model.specs.Disk.{bytes_on}
use Rattle.disk_model.specs.Memory.{view_of}
use Rattle.driver_visits.proofs.crashed.open_crashed.Goals as goal

pub returns-in-Ok : goal.returns-in-Ok
returns-in-Ok c =
    let left = c.in-Ok.ensures in
    record {
      state = left.state;
      at = left.at_moment;
      crash = view_of c.in-Ok.image;
      named = ap bytes_on left.named;
      image = left.image;
      keeps_model = refl;
      opens = c.opened_after.ensures.acts;
    }
