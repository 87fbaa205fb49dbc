use Rattle.std.proofs.Common.{arith, refl}
use Rattle.recovery.proofs.InFront.{has_its_place, one_placed}
use Rattle.recovery.proofs.afters.afters_of.Goals as goal

pub index_mut-requires : goal.index_mut-requires
index_mut-requires c =
    let place = has_its_place c.args.sheet.now.contents c.loop-field.fields c.next.new.self c.in-Some.field.now c.loop-field.smaller.items c.loop-field.afters.items c.requires c.loop-field.invariant c.in-Some.ensures.steps in
    omega (arith, place, c.loop-field.afters.ok)

pub loop-field-preserved : goal.loop-field-preserved
loop-field-preserved c =
    one_placed c.args.sheet.now.contents c.loop-field.fields c.next.new.self c.in-Some.field.now c.in_ok-after.after c.loop-field.smaller.items c.put_number.new.smaller.items c.loop-field.afters.items _
    c.requires c.loop-field.invariant c.in-Some.ensures.steps c.in_ok-after.ensures.front c.in_ok-after.ensures.following refl
