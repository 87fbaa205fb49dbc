use Rattle.std.proofs.Common.{rules, false, ◌∷◌, [], ap, ◌∙◌, option_copied}
use Rattle.std.specs.Io.KnownBytes.{Appends}
use Rattle.sheet_text.specs.InputLines.{further_lines}
use Rattle.sheet_text.proofs.LineCuts.{next_written}
use Rattle.sheet_export.specs.References.{html_text}
use Rattle.sheet_export.proofs.html.write_lines.Goals as goal

pub loop-following-preserved : goal.loop-following-preserved
loop-following-preserved g c =
    let between : Appends (g.W.Write.contents c.loop-following.out) (g.W.Write.contents c.write_bytes.new.out) (10 ∷ []) = search rules in
    let line : Appends (g.W.Write.contents c.write_bytes.new.out) (g.W.Write.contents c.write_text-in-Some.new.out) (html_text false c.next_line-in-Some.result.0.now) = search rules in
    next_written (html_text false) (10 ∷ []) _ _ _ _ _ _ c.next_line-in-Some.result.0.now _ (ap (λ o. further_lines (option_copied o)) c.in-Some.is ∙ c.next_line-in-Some.ensures.lines) c.loop-following.invariant between line
