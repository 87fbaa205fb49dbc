use Rattle.std.proofs.Common.{◌≡◌, [], ◌++◌, ◌∙◌, take, sym, ap, subst, arith}
use Rattle.std.specs.Io.KnownBytes.{Appends, append_known}
use Rattle.std.proofs.KnownBytes.{Appends-trans, Keeps-refl, append_known-grown}
use Rattle.std.proofs.lemmas.List.{with_items_is}
use Rattle.meta_format.specs.Limits.{limits}
use Rattle.sheet_text.proofs.Spellings.{prints_more, prints_all, spelling_printed}
use Rattle.line_room.proofs.room.Room.put_spelled.Goals as goal

pub loop-at-preserved : goal.loop-at-preserved
loop-at-preserved g c =
    let so = c.loop-at.invariant in
    let bytes = c.args.bytes.now in
    let puts = c.fill-place.ensures.puts in
    let held = c.fill-place.result.used in
    let room = c.fill-place.new.room in
    let before = c.make_place.new.self in
    let out = g.W.Write.contents c.make_place.new.out in
    let view : take held room ≡ before ++ puts.0 =
    puts.1 ∙ ap (λ l. take c.self.inside.used l ++ puts.0) c.as_mut_slice.ensures.value ∙ ap (λ l. l ++ puts.0) c.self.view_is in
    let grown : Appends (append_known out before) (append_known out (take held room)) puts.0 = append_known-grown _ out before (take held room) puts.0 (Keeps-refl _) view in
    let items = with_items_is c.self.inside.bytes room (c.fill-place.ensures.size ∙ c.as_mut_slice.ensures.len) in
    let put = subst (λ l. Appends (append_known out before) (append_known out (take held l)) puts.0) (sym items) grown in (
      so.0 ++ puts.0,
      c.fill-place.ensures.within,
      Appends-trans _ _ _ so.0 puts.0 so.2 (Appends-trans _ _ _ [] puts.0 c.in_ok-make_place.ensures.kept put),
      prints_more bytes 0 c.loop-at.at c.fill-place.result.at so.0 puts.0 so.3 puts.2,
    )

pub returns : goal.returns
returns g c b spelled =
    let so = c.loop-at.invariant in
    let bytes = c.args.bytes.now in
    subst (Appends (append_known (g.W.Write.contents c.args.out.now) c.args.self.now) (append_known (g.W.Write.contents c.loop-at.out) c.loop-at.self))
    (prints_all bytes c.loop-at.at so.0 (omega (arith, c.loop-at-test.false)) so.3 ∙ spelling_printed limits b bytes spelled) so.2
