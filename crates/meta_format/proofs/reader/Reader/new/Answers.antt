use Rattle.std.proofs.Common.{refl, ap, sym, subst, []}
use Rattle.meta_format.specs.Limits.{limits}
use Rattle.meta_format.specs.inside.Machine.{IsAlive, begun}
use Rattle.meta_format.proofs.Feeds.{roomy, made_stands}
use Rattle.meta_format.proofs.reader.Reader.new.Goals as goal

pub returns : goal.returns
returns c =
    let mode = sym c.new.ensures.mode in
    made_stands limits roomy _ [] [] (ap (λ m. record { at = 0; out = []; mode = m }) mode) (subst IsAlive mode tt) refl (ap begun mode)
