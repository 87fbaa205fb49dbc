use Rattle.std.proofs.lemmas.Result.{err_from_is_err_and}
use Rattle.std.specs.Prelude.{true}
use Rattle.std.specs.Option.{option_copied}
use Rattle.tellings.proofs.Cut.{cut_first, cut_line, cut_then}
use Rattle.tellings.specs.inside.Lines.{closed_in_lines, default_in_lines}
use Rattle.tellings.proofs.in_json.write_child.Goals as goal

pub returns-in_err-write_closed-clause-cut : goal.returns-in_err-write_closed-clause-cut
returns-in_err-write_closed-clause-cut g c = let p = err_from_is_err_and c.from_residual.result c.from_residual.ensures.1 in rw (p.1, p.2)
    (cut_first true (g.W.Write.contents c.args.writer.now) (g.W.Write.contents c.write_closed.new.writer) _ _ _
    (cut_line g.W.Write.contents c.args.writer.now c.write_closed.new.writer _ _ c.in_err-write_closed.ensures.unwritten c.in_err-write_closed.ensures.wrote))

pub returns-in_err-write_default-clause-cut : goal.returns-in_err-write_default-clause-cut
returns-in_err-write_default-clause-cut g c = let p = err_from_is_err_and c.from_residual-in_err-write_default.result c.from_residual-in_err-write_default.ensures.1 in rw (p.1, p.2)
    (cut_then true (g.W.Write.contents c.args.writer.now) (g.W.Write.contents c.write_closed.new.writer) (g.W.Write.contents c.write_default.new.writer) _ _ _
    (λ _. closed_in_lines c.args.sheet.now.contents (option_copied c.args.next) c.args.child.now) c.in_ok-write_closed.ensures.wrote
    (cut_first true (g.W.Write.contents c.write_closed.new.writer) (g.W.Write.contents c.write_default.new.writer) _ _ _
    (cut_line g.W.Write.contents c.write_closed.new.writer c.write_default.new.writer _ _ c.in_err-write_default.ensures.unwritten c.in_err-write_default.ensures.wrote)))

pub returns-in_err-write_ended-clause-cut : goal.returns-in_err-write_ended-clause-cut
returns-in_err-write_ended-clause-cut g c = let p = err_from_is_err_and c.from_residual-in_err-write_ended.result c.from_residual-in_err-write_ended.ensures.1 in rw (p.1, p.2)
    (cut_then true (g.W.Write.contents c.args.writer.now) (g.W.Write.contents c.write_closed.new.writer) (g.W.Write.contents c.write_ended.new.writer) _ _ _
    (λ _. closed_in_lines c.args.sheet.now.contents (option_copied c.args.next) c.args.child.now) c.in_ok-write_closed.ensures.wrote
    (cut_then true (g.W.Write.contents c.write_closed.new.writer) (g.W.Write.contents c.write_default.new.writer)
    (g.W.Write.contents c.write_ended.new.writer) _ _ _ (λ _. default_in_lines c.args.child.now) c.in_ok-write_default.ensures.wrote
    (cut_line g.W.Write.contents c.write_default.new.writer c.write_ended.new.writer _ _ c.in_err-write_ended.ensures.unwritten c.in_err-write_ended.ensures.wrote)))
