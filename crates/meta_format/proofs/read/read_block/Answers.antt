use Rattle.std.proofs.Common.{◌≡◌, ◌∙◌, sym, ap, length, Err, refl}
use Rattle.meta_format.specs.declared.read.ReadFault.TheVariants.{NotABlock}
use Rattle.meta_format.proofs.Readings.{read_none, read_broken}
use Rattle.meta_format.proofs.read.read_block.Goals as goal

pub returns-in-None-clause-no_block : goal.returns-in-None-clause-no_block
returns-in-None-clause-no_block c e b p =
    read_none c.args.bytes.now c.in-Ok.found.items (length c.args.bytes.now) refl c.scan_all.ensures.small c.in-Ok.ensures.found (sym c.in-None.is ∙ c.filling_block.ensures) b p

pub returns-in-Err-clause-no_block : goal.returns-in-Err-clause-no_block
returns-in-Err-clause-no_block c e b p =
    let same : c.in-Err.fault ≡ NotABlock = cc in
    read_broken c.args.bytes.now c.scan_all.ensures.small (c.in-Err.ensures.fault (ap Err same)) b p
