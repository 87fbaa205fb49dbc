use Rattle.std.proofs.Common.{◌∙◌, sym, refl, inr}
use Rattle.child_calls.proofs.Handed.{at-place}
use Rattle.child_calls.proofs.lives.LivesChildren.receive.Goals as goal

pub returns-clause-gives : goal.returns-clause-gives
returns-clause-gives g c =
    let (came, did, reported) = c.read_piece.ensures.gave in
    inr (at-place c.args.name c.args.life _ c.args.self.now.running.items c.in-Some.i c.index_mut.result.now _ _ c.as_slice.ensures.value (sym c.place.ensures.at_it ∙ c.in-Some.is) c.index_mut.ensures.value
    (c.read_piece.new.process, came, did, refl, reported))
