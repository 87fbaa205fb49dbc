use Rattle.std.proofs.Common.{sym, subst}
use Rattle.sheet_json.specs.Tellings as reported
use Rattle.tellings.specs.Json.{counted_json}
use Rattle.tellings.specs.Voice.{WroteLine}
use Rattle.tellings.proofs.notes_json.write_counts.Goals as goal

pub returns-in-None-clause-wrote : goal.returns-in-None-clause-wrote
returns-in-None-clause-wrote g c = subst (λ x. WroteLine c.write_made.result
    (g.W.Write.contents c.args.writer.now) (g.W.Write.contents c.write_made.new.writer) (counted_json c.args.counts x)) (sym c.in-None.is)
    (c.write_made.ensures.wrote (reported.counted c.args.counts.answered c.args.counts.unanswered c.args.counts.errors) c.counted_value.ensures)

pub returns-in-Some-clause-wrote : goal.returns-in-Some-clause-wrote
returns-in-Some-clause-wrote g c = subst (λ x. WroteLine c.write_made-in-Some.result
    (g.W.Write.contents c.args.writer.now) (g.W.Write.contents c.write_made-in-Some.new.writer) (counted_json c.args.counts x)) (sym c.in-Some.is)
    (c.write_made-in-Some.ensures.wrote (reported.counted_in_time c.args.counts.answered c.args.counts.unanswered c.args.counts.errors c.in-Some.overs.over c.in-Some.overs.passed) c.counted_in_time_value-value.ensures)
