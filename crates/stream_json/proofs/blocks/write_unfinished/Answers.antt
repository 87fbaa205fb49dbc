use Rattle.std.proofs.Common.{refl}
use Rattle.std.proofs.KnownBytes.{Appends-trans}
use Rattle.std.proofs.lemmas.Result.{on_ok_weaker}
use Rattle.sheet_json.specs.Lines.{json_line}
use Rattle.sheet_json.specs.Sheets.{telling_line}
use Rattle.sheet_json.specs.Tellings as reported
use Rattle.stream_json.specs.StreamObjects.{unfinished_data}
use Rattle.stream_json.proofs.blocks.write_unfinished.Goals as goal

pub returns-clause-ok : goal.returns-clause-ok
returns-clause-ok g c =
    let a = g.W.Write.contents c.args.out.now in
    let b = g.W.Write.contents c.write_made.new.out in
    let d = g.W.Write.contents c.write_end.new.out in
    on_ok_weaker c.write_end.result (λ wrote. Appends-trans a b d (json_line (unfinished_data c.args.start)) (telling_line reported.end) (c.in_ok-write_made.ensures.ok (unfinished_data c.args.start) refl c.unfinished_value.ensures) wrote)
    c.write_end.ensures.ok
