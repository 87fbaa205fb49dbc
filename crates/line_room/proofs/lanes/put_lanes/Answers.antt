use Rattle.std.proofs.Common.{◌≡◌, ◌+◌, ◌-◌, ◌++◌, ◌∙◌, length, take, drop, ap, arith}
use Rattle.std.proofs.lemmas.List.{length-take-le, length-drop}
use Rattle.std.proofs.lemmas.Slice.{take-put_mid}
use Rattle.line_room.proofs.lanes.put_lanes.Goals as goal

pub returns-clause-put : goal.returns-clause-put
returns-clause-put c =
    let used = c.args.used in
    let at = c.args.at in
    let bytes = c.args.bytes.now in
    let room = c.args.room.now in
    let part = c.copy_from_slice.new.self in
    let n : at + 16 - at ≡ 16 = omega arith in
    let is : part ≡ take 16 (drop at bytes) = c.copy_from_slice.ensures.after ∙ ap (λ m. take m (drop at bytes)) n in
    let long : length part ≡ 16 = ap length is ∙ length-take-le 16 (drop at bytes) (omega (arith, length-drop at bytes, c.requires.there)) in
    take-put_mid used (used + 16 - used) room part (used + 16) (omega (arith, long)) (omega (arith, c.requires.place)) ∙ ap (λ t. take used room ++ t) is
