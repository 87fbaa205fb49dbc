use Rattle.std.proofs.Common.{◌≡◌, codes, subst}
use Rattle.std.specs.Prelude.{IfOk}
use Rattle.block_tree.specs.Output.{output, text_on_channel}
use Rattle.meta_format.specs.Stream.{Outer}
use Rattle.serde_json.specs.Data.{Data}
use Rattle.serde_json.specs.View.{view}
use Rattle.sheet_json.specs.Blocks.{tree_data}
use Rattle.sheet_json.specs.Objects.{text_or_null}
use Rattle.stream_json.specs.StreamObjects.{outer_with}
use Rattle.stream_json.proofs.objects.outer_value.Goals as goal

pub returns : goal.returns
returns c =
    let o : Outer = record { start = c.args.start; stop = c.args.stop; block = c.args.block.now } in
    let taken = c.in_ok-taken.taken in
    let with_parts : Data → Data → Data → Data → Type 0 = λ default kept prompt shown. IfOk c.framed.result (λ value. view value ≡ outer_with o default kept prompt shown) in
    let default = text_or_null (text_on_channel (codes "input") o.block) in
    let kept = tree_data (output o.block) in
    let prompt = text_or_null (text_on_channel (codes "prompt") o.block) in
    subst (λ (d : Data). with_parts default kept prompt d) c.in_ok-taken.ensures.shown (subst (λ (d : Data). with_parts default kept d (view taken.shown)) c.in_ok-taken.ensures.prompt
    (subst (λ (d : Data). with_parts default d (view taken.prompt) (view taken.shown)) c.in_ok-taken.ensures.output
    (subst (λ (d : Data). with_parts d (view taken.output) (view taken.prompt) (view taken.shown)) c.in_ok-taken.ensures.default c.framed.ensures)))
