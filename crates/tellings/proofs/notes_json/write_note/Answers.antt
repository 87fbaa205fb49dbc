use Rattle.std.proofs.Common.{sym, subst}
use Rattle.sheet_json.specs.Sheets.{telling_line}
use Rattle.sheet_json.specs.Tellings as reported
use Rattle.tellings.specs.Json.{note_json}
use Rattle.tellings.specs.Voice.{WroteLine}
use Rattle.tellings.proofs.notes_json.write_note.Goals as goal

pub returns-in-Bad-clause-wrote : goal.returns-in-Bad-clause-wrote
returns-in-Bad-clause-wrote g c = subst (λ x. WroteLine c.write_made.result
    (g.W.Write.contents c.args.writer.now) (g.W.Write.contents c.write_made.new.writer) (note_json x)) (sym c.in-Bad.is)
    (c.write_made.ensures.wrote (reported.reply c.in-Bad.line reported.bad) c.bad_value.ensures)

pub returns-in-Nothing-clause-wrote : goal.returns-in-Nothing-clause-wrote
returns-in-Nothing-clause-wrote g c = subst (λ x. WroteLine c.write_made-in-Nothing.result
    (g.W.Write.contents c.args.writer.now) (g.W.Write.contents c.write_made-in-Nothing.new.writer) (note_json x)) (sym c.in-Nothing.is)
    (c.write_made-in-Nothing.ensures.wrote (reported.reply c.in-Nothing.line reported.nothing) c.nothing_value.ensures)

pub returns-in-Waited-clause-wrote : goal.returns-in-Waited-clause-wrote
returns-in-Waited-clause-wrote g c = subst (λ x. WroteLine c.write_made-in-Waited.result
    (g.W.Write.contents c.args.writer.now) (g.W.Write.contents c.write_made-in-Waited.new.writer) (note_json x)) (sym c.in-Waited.is)
    (c.write_made-in-Waited.ensures.wrote (reported.reply c.in-Waited.line (reported.waited c.in-Waited.timed)) c.waited_value.ensures)

pub returns-in-Over-clause-wrote : goal.returns-in-Over-clause-wrote
returns-in-Over-clause-wrote g c =
    subst (λ x. WroteLine c.write_made-in-Over.result (g.W.Write.contents c.args.writer.now) (g.W.Write.contents c.write_made-in-Over.new.writer) (note_json x)) (sym c.in-Over.is)
    (subst (λ word. WroteLine c.write_made-in-Over.result (g.W.Write.contents c.args.writer.now) (g.W.Write.contents c.write_made-in-Over.new.writer)
    (telling_line (reported.over c.in-Over.id word))) c.outcome.ensures
    (c.write_made-in-Over.ensures.wrote (reported.over c.in-Over.id c.outcome.result.now) c.over_value.ensures))

pub returns-in-Undone-clause-wrote : goal.returns-in-Undone-clause-wrote
returns-in-Undone-clause-wrote g c = subst (λ x. WroteLine c.write_made-in-Undone.result
    (g.W.Write.contents c.args.writer.now) (g.W.Write.contents c.write_made-in-Undone.new.writer) (note_json x)) (sym c.in-Undone.is)
    (c.write_made-in-Undone.ensures.wrote (reported.reply c.in-Undone.last (reported.undone c.in-Undone.first)) c.undone_value.ensures)
