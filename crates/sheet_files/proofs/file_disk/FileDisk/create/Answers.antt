use Rattle.std.proofs.Common.{inr, subst}
use Rattle.std.proofs.lemmas.Result.{err_from_is_err_and}
use Rattle.sheet_files.specs.Openings.{NotBegun}
use Rattle.sheet_files.proofs.file_disk.FileDisk.create.Goals as goal

pub returns-in_err-of-clause-made : goal.returns-in_err-of-clause-made
returns-in_err-of-clause-made g c =
    let p = err_from_is_err_and c.from_residual-in_err-of.result c.from_residual-in_err-of.ensures.1 in
    rw p.1 (inr (c.in_ok-first.field-0, c.in_ok-first.ensures, c.in_err-of.ensures.err))
