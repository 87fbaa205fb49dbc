use Rattle.std.proofs.KnownBytes.{Appends-trans}
use Rattle.std.proofs.lemmas.Result.{IfOk-weaker}
use Rattle.std.proofs.Common.{flat_map}
use Rattle.sheet_json.specs.Lines.{json_line}
use Rattle.sheet_json.specs.Sheets.{telling_line}
use Rattle.sheet_json.specs.Tellings as reported
use Rattle.stream_json.specs.StreamObjects.{later_objects}
use Rattle.stream_json.proofs.blocks.write_stream.Goals as goal

pub returns-clause-printed : goal.returns-clause-printed
returns-clause-printed g c =
    let a = g.W.Write.contents c.args.out.now in
    let b = g.W.Write.contents c.write_hello.new.out in
    let d = g.W.Write.contents c.write_later.new.out in
    IfOk-weaker c.write_later.result _ _
    (λ whole so. (so.0, so.1, so.2, Appends-trans a b d (telling_line reported.hello) (flat_map json_line (later_objects so.0 so.1)) c.in_ok-write_hello.ensures.ok so.3, so.4))
    c.write_later.ensures.printed
