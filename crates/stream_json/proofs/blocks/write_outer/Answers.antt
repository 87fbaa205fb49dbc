use Rattle.std.proofs.Common.{Err, ap, subst, ◌∙◌}
use Rattle.std.proofs.lemmas.Result.{on_ok_weaker}
use Rattle.std.specs.Io.KnownBytes.{Appends}
use Rattle.block_tree.specs.Tree.{Tree}
use Rattle.meta_format.specs.Limits.{limits}
use Rattle.meta_format.specs.Stream.{Outer}
use Rattle.meta_format.proofs.Unique.{one_block}
use Rattle.sheet_json.specs.Lines.{json_line}
use Rattle.stream_json.specs.StreamObjects.{outer_data}
use Rattle.stream_json.proofs.OnLines.{outer_none}
use Rattle.stream_json.proofs.blocks.write_outer.Goals as goal

pub returns-in-Ok-clause-ok : goal.returns-in-Ok-clause-ok
returns-in-Ok-clause-ok g c =
    let with_block : Tree → Outer = λ b. record { start = c.args.start; stop = c.args.stop; block = b } in
    let found = c.in-Ok.block in
    on_ok_weaker c.write_made.result
    (λ wrote b spelled. subst (λ (t : Tree). Appends (g.W.Write.contents c.args.out.now) (g.W.Write.contents c.write_made.new.out) (json_line (outer_data (with_block t)))) (one_block limits found b c.args.spelling.now c.in-Ok.ensures.ok spelled) wrote)
    (c.write_made.ensures.ok (outer_data (with_block found)) (outer_none (with_block found)) c.outer_value.ensures)

pub unreachable-requires : goal.unreachable-requires
unreachable-requires g c = c.read_block.ensures.no_block (c.in-Err-NotABlock.is ∙ ap (λ x. Err x) c.in-Err-NotABlock.field-0-is) c.requires.0 c.requires.1
