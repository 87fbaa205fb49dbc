use Rattle.std.proofs.Common.{◌∙◌, sym, ap}
use Rattle.child_calls.specs.Handing.{stand}
use Rattle.child_calls.proofs.Handed.{at-place}
use Rattle.child_calls.proofs.lives.LivesChildren.stop.Goals as goal

pub returns : goal.returns
returns g c =
    at-place c.args.name c.args.life _ c.args.self.now.running.items c.in-Some.i c.remove-running.result _ _ c.as_slice.ensures.value (sym c.place.ensures.at_it ∙ c.in-Some.is) c.remove-running.ensures.value
    (c.end.new.self, c.end.ensures, ap (stand c.args.self.now.launcher) c.remove-running.ensures.items)
