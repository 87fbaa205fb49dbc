use Rattle.std.proofs.Common.{◌≡◌, ◌≤◌, Some, false, ap, sym, subst, ◌∙◌}
use Rattle.std.proofs.lemmas.Result.{IfOk-weaker}
use Rattle.serde_json.specs.Data.{Data, depth}
use Rattle.serde_json.specs.Read.{max_depth}
use Rattle.serde_json.specs.Written.{compact_text, has_float}
use Rattle.sheet_notebook.proofs.Shallow.{is_shallow, no_float}
use Rattle.sheet_notebook.proofs.notebook.notebook_bytes.Goals as goal

pub returns-clause-text : goal.returns-clause-text
returns-clause-text c =
    let sheet = c.args.sheet.now.contents in
    IfOk-weaker c.to_vec.result _ _
    (λ bytes reported. reported (subst (λ (d : Data). has_float d ≡ false) (sym c.in_ok-notebook.ensures) (no_float sheet)) ∙ ap compact_text c.in_ok-notebook.ensures) c.to_vec.ensures.text

pub returns-clause-reads : goal.returns-clause-reads
returns-clause-reads c =
    let sheet = c.args.sheet.now.contents in
    IfOk-weaker c.to_vec.result _ _
    (λ bytes reported. reported (subst (λ (d : Data). depth d ≤ max_depth) (sym c.in_ok-notebook.ensures) (is_shallow sheet)) ∙ ap Some c.in_ok-notebook.ensures) c.to_vec.ensures.reads_back
