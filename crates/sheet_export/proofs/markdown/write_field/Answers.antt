use Rattle.std.proofs.KnownBytes.{Appends-trans}
use Rattle.sheet_export.specs.Markdown.{field_markdown, input_markdown, outcome_markdown}
use Rattle.sheet_export.proofs.markdown.write_field.Goals as goal

pub returns : goal.returns
unfolding field_markdown
returns g c =
    let field = c.args.field.now in
    Appends-trans _ _ _ (input_markdown field) (outcome_markdown field) c.in_ok-write_input.ensures c.in_ok-write_outcome.ensures
