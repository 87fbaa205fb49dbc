use Rattle.std.proofs.Common.{◌∷◌, ◌++◌, []}
use Rattle.meta_format.specs.Limits.{limits}
use Rattle.meta_format.specs.Stream.{Outer}
use Rattle.meta_format.specs.Faults.{bad_tag, too_deep, too_long}
use Rattle.stream_json.proofs.Written.{nothing_read}
use Rattle.program_endings.proofs.Lines.{held_none, line_more, end_printed, open_printed, fault_printed}
use Rattle.program_endings.proofs.block_lines.write_stream.Goals as goal

pub loop-start-init : goal.loop-start-init
loop-start-init g c = ([], nothing_read limits c.args.stream.now, held_none (g.W.Write.contents c.args.out.now) c.args.room.now c.requires.none_held)

pub write_outer-requires : goal.write_outer-requires
write_outer-requires g c =
    let so = c.loop-start.invariant in
    let next = c.in-Outer.ensures.next so.0 so.1 in
    (next.0, next.2.spelled)

pub loop-start-preserved : goal.loop-start-preserved
loop-start-preserved g c =
    let so = c.loop-start.invariant in
    let next = c.in-Outer.ensures.next so.0 so.1 in
    let one : Outer = record { start = c.in-Outer.start; stop = c.in-Outer.stop; block = next.0 } in
    (so.0 ++ one ∷ [], next.1, line_more so.0 one _ _ _ so.2 (c.in_ok-write_outer-in-Outer.ensures.ok next.0 next.2.spelled))

pub returns-in-Open-clause-printed : goal.returns-in-Open-clause-printed
returns-in-Open-clause-printed g c =
    let so = c.loop-start.invariant in
    open_printed limits c.args.stream.now so.0 c.in-Open.start _ _ _ (c.in-Open.ensures.next so.0 so.1) so.2 c.in_ok-write_unfinished-in-Open.ensures.ok

pub returns-in-End-clause-printed : goal.returns-in-End-clause-printed
returns-in-End-clause-printed g c =
    let so = c.loop-start.invariant in
    end_printed limits c.args.stream.now so.0 _ _ _ (c.in-End.ensures.next so.0 so.1) so.2 c.in_ok-write_held-in-End.ensures.ok

pub returns-in-BadTag-clause-printed : goal.returns-in-BadTag-clause-printed
returns-in-BadTag-clause-printed g c =
    let so = c.loop-start.invariant in
    fault_printed limits c.args.stream.now c.in-BadTag.offset bad_tag so.0 _ _ _ (c.in-BadTag.ensures.next so.0 so.1) so.2 c.in_ok-write_fault-in-BadTag.ensures.ok

pub returns-in-TooDeep-clause-printed : goal.returns-in-TooDeep-clause-printed
returns-in-TooDeep-clause-printed g c =
    let so = c.loop-start.invariant in
    fault_printed limits c.args.stream.now c.in-TooDeep.offset too_deep so.0 _ _ _ (c.in-TooDeep.ensures.next so.0 so.1) so.2 c.in_ok-write_fault-in-TooDeep.ensures.ok

pub returns-in-TooLong-clause-printed : goal.returns-in-TooLong-clause-printed
returns-in-TooLong-clause-printed g c =
    let so = c.loop-start.invariant in
    fault_printed limits c.args.stream.now c.in-TooLong.offset too_long so.0 _ _ _ (c.in-TooLong.ensures.next so.0 so.1) so.2 c.in_ok-write_fault-in-TooLong.ensures.ok
