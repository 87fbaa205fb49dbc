use Rattle.std.proofs.Common.{false, ◌∷◌, [], flat_map, option_copied}
use Rattle.sheet_export.specs.References.{html_text}
use Rattle.sheet_text.specs.InputLines.{further_line, further_lines}
use Rattle.sheet_text.proofs.LineCuts.{Written, left_beyond}
use Rattle.sheet_export.proofs.html.write_lines.Given as goal

abbrev pub invariant-loop-following : goal.invariant-loop-following
invariant-loop-following g l = Written (further_line (html_text false) (10 ∷ [])) (g.W.Write.contents l.initial.out) (g.W.Write.contents l.out)
    (further_lines (option_copied l.following)) (flat_map (further_line (html_text false) (10 ∷ [])) (further_lines (option_copied l.initial.following)))

abbrev pub decreases-loop-following : goal.decreases-loop-following
decreases-loop-following g l = left_beyond (option_copied l.following)
