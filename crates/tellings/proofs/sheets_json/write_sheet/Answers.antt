use Rattle.std.proofs.Common.{ap, subst}
use Rattle.std.proofs.lemmas.Result.{err_from_is_err_and}
use Rattle.std.proofs.KnownBytes.{Appends-trans}
use Rattle.std.specs.Io.KnownBytes.{Appends}
use Rattle.sheet_json.specs.Sheets.{telling_line}
use Rattle.session_engine.specs.World.{sheet_in}
use Rattle.tellings.specs.Json.{parts_text, whole_reported}
use Rattle.std.specs.Prelude.{true}
use Rattle.tellings.specs.inside.Lines.{parts_in_lines}
use Rattle.tellings.proofs.Cut.{cut_first, cut_line, cut_same, cut_then}
use Rattle.tellings.proofs.sheets_json.write_sheet.Goals as goal

pub returns-clause-ok : goal.returns-clause-ok
returns-clause-ok g c = λ w h.
    Appends-trans (g.W.Write.contents c.args.writer.now) (g.W.Write.contents c.write_parts.new.writer) (g.W.Write.contents c.write_made.new.writer)
    (parts_text c.args.line w (sheet_in w).fields) (telling_line (whole_reported c.args.line w))
    (subst (λ s. Appends (g.W.Write.contents c.args.writer.now) (g.W.Write.contents c.write_parts.new.writer) (parts_text c.args.line w s.fields))
    (c.sheet.ensures.stands w h) (c.in_ok-write_parts.ensures.ok w h))
    (c.in_ok-write_made.ensures.wrote (whole_reported c.args.line w) (c.whole.ensures w h))

pub returns-in_err-write_parts-clause-cut : goal.returns-in_err-write_parts-clause-cut
returns-in_err-write_parts-clause-cut g c = λ w h. let p = err_from_is_err_and c.from_residual.result c.from_residual.ensures.1 in rw (p.1, p.2)
    (cut_first true (g.W.Write.contents c.args.writer.now) (g.W.Write.contents c.write_parts.new.writer) (parts_text c.args.line w (sheet_in w).fields) (telling_line (whole_reported c.args.line w)) _
    (cut_same true (g.W.Write.contents c.args.writer.now) (g.W.Write.contents c.write_parts.new.writer) _ _ _ (ap (λ s. parts_text c.args.line w s.fields) (c.sheet.ensures.stands w h))
    (c.in_err-write_parts.ensures.cut w h)))

pub returns-in_err-write_made-clause-cut : goal.returns-in_err-write_made-clause-cut
returns-in_err-write_made-clause-cut g c = λ w h. let p = err_from_is_err_and c.from_residual-in_err-write_made.result c.from_residual-in_err-write_made.ensures.1 in rw (p.1, p.2)
    (cut_then true (g.W.Write.contents c.args.writer.now) (g.W.Write.contents c.write_parts.new.writer) (g.W.Write.contents c.write_made.new.writer)
    (parts_text c.args.line w (sheet_in w).fields) (telling_line (whole_reported c.args.line w)) _ (λ _. parts_in_lines c.args.line w (sheet_in w).fields)
    (subst (λ s. Appends (g.W.Write.contents c.args.writer.now) (g.W.Write.contents c.write_parts.new.writer) (parts_text c.args.line w s.fields))
    (c.sheet.ensures.stands w h) (c.in_ok-write_parts.ensures.ok w h))
    (cut_line g.W.Write.contents c.write_parts.new.writer c.write_made.new.writer _ _ c.in_err-write_made.ensures.unwritten
    (c.in_err-write_made.ensures.wrote (whole_reported c.args.line w) (c.whole.ensures w h))))
