use Rattle.std.proofs.Common.{rules, ap, ◌∙◌, option_copied}
use Rattle.std.specs.Io.KnownBytes.{Appends}
use Rattle.sheet_text.specs.Escape.{on_line}
use Rattle.sheet_text.specs.InputLines.{further_lines}
use Rattle.sheet_text.proofs.LineCuts.{next_written}
use Rattle.sheet_text.proofs.inputs.write_input_lines.Goals as goal

pub loop-following-preserved : goal.loop-following-preserved
loop-following-preserved g c =
    let between : Appends (g.W.Write.contents c.loop-following.out) (g.W.Write.contents c.write_all.new.self) c.args.between.now = search rules in
    let line : Appends (g.W.Write.contents c.write_all.new.self) (g.W.Write.contents c.write_line-in-Some.new.out) (on_line c.next_line-in-Some.result.0.now) = search rules in
    next_written on_line c.args.between.now _ _ _ _ _ _ c.next_line-in-Some.result.0.now _ (ap (λ o. further_lines (option_copied o)) c.in-Some.is ∙ c.next_line-in-Some.ensures.lines) c.loop-following.invariant between line
