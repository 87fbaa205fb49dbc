use Rattle.std.proofs.Common.{◌∙◌, sym, refl}
use Rattle.child_calls.proofs.Handed.{at-place}
use Rattle.child_calls.proofs.lives.LivesChildren.send.Goals as goal

pub returns : goal.returns
returns g c =
    at-place c.args.name c.args.life _ c.args.self.now.running.items c.in-Some.i c.index_mut.result.now _ _ c.as_slice.ensures.value (sym c.place.ensures.at_it ∙ c.in-Some.is) c.index_mut.ensures.value
    (c.write.new.self, c.write.ensures, refl)
