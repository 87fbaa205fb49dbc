use Rattle.std.proofs.Common.{◌∷◌, [], option_copied, string_bytes}
use Rattle.sheet_text.specs.InputLines.{further_line, further_lines, lines_of_input, text_of_lines}
use Rattle.sheet_text.proofs.LineCuts.{Makes, left_beyond}
use Rattle.sheet_text.proofs.inputs.unfolded.Given as goal

abbrev pub invariant-loop-following : goal.invariant-loop-following
invariant-loop-following l = Makes (further_line (λ line. line) (10 ∷ [])) (string_bytes l.text) (further_lines (option_copied l.following)) (text_of_lines (λ line. line) (10 ∷ []) (lines_of_input l.input))

abbrev pub decreases-loop-following : goal.decreases-loop-following
decreases-loop-following l = left_beyond (option_copied l.following)
