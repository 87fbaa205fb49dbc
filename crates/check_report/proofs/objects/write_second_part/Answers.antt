use Rattle.std.proofs.Common.{◌++◌, codes}
use Rattle.std.proofs.KnownBytes.{Appends-trans}
use Rattle.std.specs.Fmt.{decimal}
use Rattle.check_report.proofs.objects.write_second_part.Goals as goal

pub returns : goal.returns
returns g c =
    let a = g.W.Write.contents c.args.out.now in
    let b = g.W.Write.contents c.write_bytes.new.out in
    let d = g.W.Write.contents c.write_id.new.out in
    let e = g.W.Write.contents c.write_bytes-2.new.out in
    let f = g.W.Write.contents c.write_id-2.new.out in
    let h = g.W.Write.contents c.write_bytes-3.new.out in
    let i = g.W.Write.contents c.write_id-3.new.out in
    let j = g.W.Write.contents c.write_bytes-4.new.out in
    let o = codes ",\"new\":" in
    let w = decimal c.args.counts.new in
    let p = codes ",\"same\":" in
    let x = decimal c.args.counts.same in
    let q = codes ",\"type\":\"compared\",\"unanswered\":" in
    let y = decimal c.args.counts.unanswered in
    let r = codes "}\n{\"type\":\"end\"}\n" in
    let to_new = Appends-trans a b d o w c.in_ok-write_bytes.ensures c.in_ok-write_id.ensures in
    let to_same = Appends-trans a e f (o ++ w ++ p) x (Appends-trans a d e (o ++ w) p to_new c.in_ok-write_bytes-2.ensures) c.in_ok-write_id-2.ensures in
    let to_unanswered = Appends-trans a h i (o ++ w ++ p ++ x ++ q) y (Appends-trans a f h (o ++ w ++ p ++ x) q to_same c.in_ok-write_bytes-3.ensures) c.in_ok-write_id-3.ensures in
    Appends-trans a i j (o ++ w ++ p ++ x ++ q ++ y) r to_unanswered c.in_ok-write_bytes-4.ensures
