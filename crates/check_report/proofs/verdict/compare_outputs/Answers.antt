use Rattle.std.proofs.Common.{◌∙◌, sym}
use Rattle.std.proofs.lemmas.Bool.{false≢true}
use Rattle.block_tree.specs.Same.{same_tree-Decides}
use Rattle.check_report.specs.Verdicts.{same, differs}
use Rattle.check_report.proofs.verdict.compare_outputs.Goals as goal

pub returns-then-eq : goal.returns-then-eq
returns-then-eq c =
    same c.args.shown.now c.args.came.now ((same_tree-Decides c.args.came.now.output c.args.shown.now.output).0 (sym c.eq.ensures ∙ c.if-eq.true))

pub returns-else-eq : goal.returns-else-eq
returns-else-eq c =
    differs c.args.shown.now c.args.came.now
    (λ e. false≢true (sym c.if-eq.false ∙ c.eq.ensures ∙ (same_tree-Decides c.args.came.now.output c.args.shown.now.output).1 e))
