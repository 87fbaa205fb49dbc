use Rattle.std.proofs.Common.{ℕ, ◌+◌, List, false, subst}
use Rattle.sheet_text.specs.Script.{line_of}
use Rattle.script_agenda.specs.Says.{TakesOneLine, by_itself}
use Rattle.script_agenda.specs.ScriptAt.{script_stand}
use Rattle.script_agenda.proofs.by_script.ByScript.take_next.Goals as goal

pub returns : goal.returns
returns c = λ going.
    let next = c.in-Some.ensures.some in
    by_itself c.in-Some.line.now next.0 going next.1
    (subst (λ (l : List (List ℕ)). TakesOneLine (line_of c.in-Some.line.now)
    (record (script_stand c.args.self.now) { lines = l; number = c.args.self.now.number + 1; wrong = false }) c.take_line.result
    (script_stand c.take_line.new.self))
    (c.pass.ensures c.in-Some.line.now next.0 next.1) c.take_line.ensures)
