use Rattle.std.proofs.Common.{◌∙◌, [], ◌∷◌, ◌++◌, ap, append_assoc, sym}
use Rattle.std.specs.Prelude.{true}
use Rattle.std.proofs.lemmas.Grind.{flat_map-append}
use Rattle.std.proofs.lemmas.Result.{err_from_is_err_and}
use Rattle.tellings.specs.Json.{part_line, parts_text}
use Rattle.tellings.proofs.Cut.{cut_ahead, cut_line}
use Rattle.tellings.specs.inside.Lines.{parts_in_lines}
use Rattle.tellings.proofs.Rows.{part_written}
use Rattle.tellings.proofs.sheets_json.write_parts.Goals as goal

pub loop-field-preserved : goal.loop-field-preserved
loop-field-preserved g c =
    let seen = c.loop-field.invariant.0 in (
      (
        seen.0 ++ c.in-Some.field.now ∷ [],
        append_assoc seen.0 (c.in-Some.field.now ∷ []) c.next.new.self ∙ ap (λ fields. seen.0 ++ fields) (sym c.in-Some.ensures.steps) ∙ seen.1,
      ),
      λ w h.
          part_written (g.W.Write.contents c.args.writer.now) (g.W.Write.contents c.loop-field.writer) (g.W.Write.contents c.write_part.new.writer)
          (parts_text c.args.line w c.loop-field.fields) (part_line c.args.line w c.in-Some.field.now) (parts_text c.args.line w c.next.new.self)
          (parts_text c.args.line w c.args.sheet.now.contents.fields)
          (ap (λ fields. parts_text c.args.line w fields) c.in-Some.ensures.steps) (c.loop-field.invariant.1 w h) (c.in_ok-write_part.ensures.wrote w h),
    )

pub returns-in_err-write_part-clause-cut : goal.returns-in_err-write_part-clause-cut
returns-in_err-write_part-clause-cut g c = λ w h. let p = err_from_is_err_and c.from_residual.result c.from_residual.ensures.1 in rw (p.1, p.2) (
    let seen = c.loop-field.invariant.0 in
    cut_ahead true (g.W.Write.contents c.args.writer.now) (g.W.Write.contents c.loop-field.writer) (g.W.Write.contents c.write_part.new.writer)
    (parts_text c.args.line w c.loop-field.fields) (part_line c.args.line w c.in-Some.field.now) (parts_text c.args.line w c.next.new.self)
    (parts_text c.args.line w c.args.sheet.now.contents.fields) (parts_text c.args.line w seen.0) _
    (ap (λ fields. parts_text c.args.line w fields) c.in-Some.ensures.steps)
    (sym (flat_map-append (part_line c.args.line w) seen.0 c.loop-field.fields) ∙ ap (λ fields. parts_text c.args.line w fields) seen.1)
    (λ _. parts_in_lines c.args.line w seen.0) (c.loop-field.invariant.1 w h)
    (cut_line g.W.Write.contents c.loop-field.writer c.write_part.new.writer _ _ c.in_err-write_part.ensures.unwritten (c.in_err-write_part.ensures.wrote w h)))
