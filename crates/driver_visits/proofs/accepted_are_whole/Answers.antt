use Rattle.sheet_check.specs.Accept.{to_accept}
use Rattle.sheet_check.specs.Evaluated.{way}
use Rattle.driver_visits.proofs.Copying.{ran_whole}
use Rattle.driver_visits.proofs.accepted_are_whole.Goals as goal

pub returns : goal.returns
returns g c = λ limit chosen sheet q all run. ran_whole (to_accept (way g.S.Children.after g.S.Sources.clock g.S.Sources.wakes limit) chosen) sheet q all run
