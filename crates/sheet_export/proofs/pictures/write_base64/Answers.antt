use Rattle.std.proofs.lemmas.Result.{on_ok_weaker}
use Rattle.sheet_export.proofs.Groups.{group_written, none_written, one_written, two_written}
use Rattle.sheet_export.proofs.pictures.write_base64.Goals as goal

pub returns-in_default-split_first : goal.returns-in_default-split_first
returns-in_default-split_first g c =
    on_ok_weaker c.write_one.result
    (one_written c.in-Some.a.now c.loop-a.rest.now c.in-Some.following.now (g.W.Write.contents c.args.out.now) (g.W.Write.contents c.loop-a.out) (g.W.Write.contents c.write_one.new.out) _
    c.in-Some.ensures.cases.0 c.in_default-split_first.ensures.cases c.loop-a.invariant)
    c.write_one.ensures

pub returns-in_default-split_first-2 : goal.returns-in_default-split_first-2
returns-in_default-split_first-2 g c =
    on_ok_weaker c.write_two.result
    (two_written c.in-Some.a.now c.in-Some-split_first.b.now c.loop-a.rest.now c.in-Some.following.now c.in-Some-split_first.further.now
    (g.W.Write.contents c.args.out.now) (g.W.Write.contents c.loop-a.out) (g.W.Write.contents c.write_two.new.out) _
    c.in-Some.ensures.cases.0 c.in-Some-split_first.ensures.cases.0 c.in_default-split_first-2.ensures.cases c.loop-a.invariant)
    c.write_two.ensures

pub loop-a-preserved : goal.loop-a-preserved
loop-a-preserved g c =
    group_written c.in-Some.a.now c.in-Some-split_first.b.now c.in-Some-split_first-2.c.now
    c.loop-a.rest.now c.in-Some.following.now c.in-Some-split_first.further.now c.in-Some-split_first-2.others.now
    (g.W.Write.contents c.args.out.now) (g.W.Write.contents c.loop-a.out) (g.W.Write.contents c.write_three.new.out) _
    c.in-Some.ensures.cases.0 c.in-Some-split_first.ensures.cases.0 c.in-Some-split_first-2.ensures.cases.0 c.loop-a.invariant c.in_ok-write_three.ensures

pub returns : goal.returns
returns g c = none_written c.loop-a.rest.now _ _ _ c.in_default.ensures.cases c.loop-a.invariant
