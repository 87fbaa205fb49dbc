use Rattle.std.proofs.Common.{◌≡◌, ℕ, List, arith, length, refl, subst}
use Rattle.host_events.specs.declared.event.Event.{Event}
use Rattle.script_agenda.specs.Gathering.{Gathers}
use Rattle.script_agenda.specs.Says.{SaysOfLines, skips}
use Rattle.script_agenda.specs.ScriptAt.{script_stand}
use Rattle.script_agenda.proofs.Gatherings.{none_given, none_more}
use Rattle.script_agenda.proofs.by_script.ByScript.take_lines.Goals as goal

pub returns-then-self-before : goal.returns-then-self-before
returns-then-self-before c = λ going.
    let none = c.is_empty.ensures.0 c.if-not-is_empty.false in
    skips c.gather-edits.new.lines c.gather-edits.new.number going
    (subst (λ (es : List Event). Gathers c.args.self.now.strict c.args.self.now.lines c.gather-edits.new.lines es) none c.gather-edits.ensures.gathers)
    (omega (arith, c.if-self-before.true, c.gather-edits.ensures.count, none_more c.args.self.now.strict c.args.self.now.lines c.gather-edits.new.lines c.gather-edits.result c.gather-edits.ensures.gathers)) c.gather-edits.ensures.count refl refl

pub returns : goal.returns
returns c = λ going.
    let same : length c.gather-edits.new.lines ≡ length c.args.self.now.lines = omega (arith, c.if-self-before.false, c.gather-edits.ensures.count) in
    let lines = none_given c.args.self.now.strict c.args.self.now.lines c.gather-edits.new.lines c.gather-edits.result c.gather-edits.ensures.gathers same in
    let number : c.gather-edits.new.number ≡ c.args.self.now.number = omega (arith, c.if-self-before.false) in
    subst (λ (l : List (List ℕ)). SaysOfLines (record (script_stand c.args.self.now) { lines = l }) c.take_next.result (script_stand c.take_next.new.self)) lines
    (subst (λ (n : ℕ). SaysOfLines (record (script_stand c.args.self.now) { lines = c.gather-edits.new.lines; number = n }) c.take_next.result
    (script_stand c.take_next.new.self)) number (c.take_next.ensures going))
