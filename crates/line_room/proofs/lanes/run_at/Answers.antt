use Rattle.std.proofs.Common.{false, refl, arith}
use Rattle.std.proofs.lemmas.Simd.{zip2_splat, length-chunk}
use lib.Lanes.{chunk}
use Rattle.sheet_text.specs.Escape.{is_plain}
use Rattle.sheet_text.proofs.Lanes.{joined, run_in}
use Rattle.line_room.proofs.lanes.run_at.Goals as goal

pub returns : goal.returns
returns c =
    let v = chunk c.args.at 16 c.args.bytes.now in
    let long = length-chunk c.args.at 16 c.args.bytes.now c.requires in
    run_in (is_plain false) c.args.bytes.now c.args.at 16 _ _ c.requires (omega arith) c.type_inv.bytes c.first_stop.ensures _
    (joined _ _ _ v (zip2_splat _ v 16 32 long) (zip2_splat _ v 16 127 long)) refl
