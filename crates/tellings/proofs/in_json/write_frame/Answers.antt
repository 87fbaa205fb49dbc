use Rattle.std.proofs.Common.{sym, subst}
use Rattle.sheet_json.specs.Tellings as reported
use Rattle.sheet_json.specs.Sheets.{telling_line}
use Rattle.tellings.specs.Json.{frame_json}
use Rattle.tellings.specs.Voice.{WroteLine}
use Rattle.tellings.proofs.in_json.write_frame.Goals as goal

pub returns-in-Hello-clause-wrote : goal.returns-in-Hello-clause-wrote
returns-in-Hello-clause-wrote g c = subst (λ x. WroteLine c.write_made.result
    (g.W.Write.contents c.args.writer.now) (g.W.Write.contents c.write_made.new.writer) (frame_json x)) (sym c.in-Hello.is)
    (c.write_made.ensures.wrote (reported.hello) c.hello_value.ensures)

pub returns-in-End-clause-wrote : goal.returns-in-End-clause-wrote
returns-in-End-clause-wrote g c = subst (λ x. WroteLine c.write_made-in-End.result
    (g.W.Write.contents c.args.writer.now) (g.W.Write.contents c.write_made-in-End.new.writer) (frame_json x)) (sym c.in-End.is)
    (c.write_made-in-End.ensures.wrote (reported.end) c.end_value.ensures)

pub returns-in-NoField-clause-wrote : goal.returns-in-NoField-clause-wrote
returns-in-NoField-clause-wrote g c = subst (λ x. WroteLine c.write_made-in-NoField.result
    (g.W.Write.contents c.args.writer.now) (g.W.Write.contents c.write_made-in-NoField.new.writer) (frame_json x)) (sym c.in-NoField.is)
    (c.write_made-in-NoField.ensures.wrote (reported.no_field c.in-NoField.id) c.no_field_value.ensures)

pub returns-in-NoProgram-clause-wrote : goal.returns-in-NoProgram-clause-wrote
returns-in-NoProgram-clause-wrote g c =
    subst (λ x. WroteLine c.write_made-in-NoProgram.result (g.W.Write.contents c.args.writer.now) (g.W.Write.contents c.write_made-in-NoProgram.new.writer) (frame_json x)) (sym c.in-NoProgram.is)
    (subst (λ s. WroteLine c.write_made-in-NoProgram.result (g.W.Write.contents c.args.writer.now) (g.W.Write.contents c.write_made-in-NoProgram.new.writer)
    (telling_line (reported.no_program s))) c.as_slice.ensures.bytes
    (c.write_made-in-NoProgram.ensures.wrote (reported.no_program c.as_slice.result.now) c.no_program_value.ensures))
