use Rattle.sheet_text.specs.Blocks.{sign}
use Rattle.sheet_export.proofs.Scans.{tag_scan}
use Rattle.sheet_export.proofs.fences.with_tag.Goals as goal

pub returns : goal.returns
returns c =
    tag_scan c.args.before c.in_ok-opened.opened c.in_ok-named.named c.in_ok-signed.signed c.args.tag.now.name c.as_slice.result.now c.sign_of.result (sign c.args.tag.now.channel) c.in_ok-opened.ensures c.as_slice.ensures c.in_ok-named.ensures c.sign_of.ensures c.in_ok-signed.ensures
