use Rattle.std.proofs.Common.{◌∙◌, ap, drop, sym, take, take-append-drop}
use Rattle.std.proofs.lemmas.Grind.{flat_map-append}
use Rattle.sheet_check.specs.Marks.{line_marks, reply_marks}
use Rattle.sheet_check.proofs.marks.Marks.keep_lines.Goals as goal

pub returns-in-Err-clause-cut : goal.returns-in-Err-clause-cut
returns-in-Err-clause-cut c =
    let i = c.loop-outcome.outcome-index in
    let outcomes = c.args.outcomes.now in record {
      front = line_marks (take i outcomes);
      rest = line_marks (drop i outcomes);
      split = sym (flat_map-append (λ o. reply_marks o.reply) (take i outcomes) (drop i outcomes)) ∙ ap line_marks (take-append-drop i outcomes);
      kept = c.in-Err.ensures.unkept ∙ c.loop-outcome.invariant;
    }
