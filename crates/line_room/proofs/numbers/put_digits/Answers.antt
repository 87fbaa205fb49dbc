use Rattle.std.proofs.Common.{rules, ◌≡◌, ◌+◌, ◌-◌, ◌++◌, ◌∙◌, length, take, drop, ap, arith}
use Rattle.std.specs.Fmt.{decimal}
use Rattle.std.proofs.lemmas.Fmt.{length-decimal-le}
use Rattle.std.proofs.lemmas.List.{length-take-le, length-drop}
use lib.Seq.{take-take}
use Rattle.line_room.proofs.Putting.{front, put_part}
use Rattle.line_room.proofs.numbers.put_digits.Goals as goal

pub write_digits-start-requires : goal.write_digits-start-requires
write_digits-start-requires c = search (rules, length-decimal-le 20)

pub returns-clause-text : goal.returns-clause-text
returns-clause-text c =
    let used = c.args.used in
    let room = c.args.room.now in
    let start = c.write_digits-start.result in
    let made = c.write_digits-start.new.buf in
    let digits = decimal c.args.n in
    let part = c.copy_from_slice.new.self in
    let k = 20 - start in
    let m : start + 20 - start ≡ 20 = omega arith in
    let is : part ≡ take 20 (drop start made) = c.copy_from_slice.ensures.after ∙ ap (λ j. take j (drop start made)) m in
    let len : k ≡ length digits = omega (arith, c.write_digits-start.ensures.start) in
    let size : length made ≡ 40 = search rules in
    let long : length part ≡ 20 = ap length is ∙ length-take-le 20 (drop start made) (omega (arith, length-drop start made, size, c.write_digits-start.ensures.start)) in
    put_part used (used + 20 - used) room part k (omega (arith, c.requires)) (omega (arith, long))
    ∙ ap (λ t. take used room ++ t)
    (ap (take k) is ∙ take-take k 20 (drop start made) (omega arith) ∙ front k (drop start made) digits _ len c.write_digits-start.ensures.written)
