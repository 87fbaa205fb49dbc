use Rattle.std.proofs.Common.{rules, ◌-◌, take, drop, arith}
use Rattle.std.specs.Io.KnownBytes.{Appends}
use Rattle.sheet_text.specs.Escape.{printed_byte}
use Rattle.sheet_text.proofs.Runs.{run_step, run_last, plain_byte}
use Rattle.sheet_text.proofs.escape.write_bytes.Goals as goal

pub returns-then-end-bytes : goal.returns-then-end-bytes
returns-then-end-bytes g c =
    let run = c.plain_end-end.ensures in
    let bytes = c.args.bytes.now in
    let start = c.loop-start.start in
    let end = c.plain_end-end.result in
    let put : Appends (g.W.Write.contents c.loop-start.out) (g.W.Write.contents c.write_run.new.out) (take (end - start) (drop start bytes)) = search rules in
    run_last (printed_byte c.args.keeps_lines) bytes start end _ _ _ run.ordered (omega (arith, c.if-end-bytes.true)) (plain_byte c.args.keeps_lines bytes start end run.pass)
    c.loop-start.invariant.1 put

pub loop-start-preserved : goal.loop-start-preserved
loop-start-preserved g c =
    let run = c.plain_end-end.ensures in
    let bytes = c.args.bytes.now in
    let start = c.loop-start.start in
    let end = c.plain_end-end.result in
    let inside = run.in_range in
    let put : Appends (g.W.Write.contents c.loop-start.out) (g.W.Write.contents c.write_run.new.out) (take (end - start) (drop start bytes)) = search rules in (
      omega (arith, inside, c.if-end-bytes.false),
      run_step (printed_byte c.args.keeps_lines) bytes start end _ _ _ _ run.ordered (omega (arith, inside, c.if-end-bytes.false)) (plain_byte c.args.keeps_lines bytes start end run.pass)
          c.loop-start.invariant.1 put c.in_ok-write_byte.ensures,
    )
