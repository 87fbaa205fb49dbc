use Rattle.std.proofs.Common.{◌≡◌, subst}
use Rattle.sheet_json.specs.Tellings as reported
use Rattle.partial_output.specs.Pieces as piece
use Rattle.partial_output.proofs.piece.partial_line.Goals as goal

pub returns-in-Ok-reported_bytes : goal.returns-in-Ok-reported_bytes
unfolding piece.partial_text
returns-in-Ok-reported_bytes c =
    subst (λ name. c.in-Ok-reported_bytes.line.items ≡ piece.partial_text name c.args.life c.args.bytes.now) c.as_slice.ensures.bytes
    (c.in-Ok-reported_bytes.ensures (reported.event c.as_slice.result.now c.args.life (reported.partial c.args.bytes.now)) c.in-Ok.ensures)
