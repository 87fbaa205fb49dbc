use Rattle.std.proofs.Common.{◌≡◌, ◌+◌, ◌∙◌, ap, arith, length, refl, subst}
use Rattle.line_agenda.specs.Alone.{AsksLines}
use Rattle.line_agenda.specs.LinesAt.{after_group, read_to, lines_stand}
use Rattle.line_agenda.specs.Taking.{TakesInput, together}
use Rattle.live.proofs.Gatherings.{nothing_gathered, some_gathered}
use Rattle.line_agenda.proofs.Taken.{as_many}
use Rattle.line_agenda.proofs.by_lines.ByLines.take_input.Goals as goal

pub returns-then-count-eq0 : goal.returns-then-count-eq0
returns-then-count-eq0 g c = λ w h.
    let before = lines_stand g.R.Read.remaining c.args.self.now in
    let k = c.gather-events.new.lines in
    let same = nothing_gathered before.buffer k.held c.gather-events.result.items c.gather-events.ensures.gathered (omega arith) in
    subst (λ a. TakesInput a w c.args.now c.take_next-then-count-eq0.result (lines_stand g.R.Read.remaining c.take_next-then-count-eq0.new.self))
    (ap (λ b. read_to before b (g.R.Read.remaining k.reader)) same ∙ ap (λ r. read_to before before.buffer (g.R.Read.remaining r)) c.gather-events.ensures.reader)
    (c.take_next-then-count-eq0.ensures w h)

pub returns : goal.returns
returns g c = λ w h.
    let before = lines_stand g.R.Read.remaining c.args.self.now in
    let k = c.gather-events.new.lines in
    let gathered = c.gather-events.ensures.gathered in
    let alone = c.takes_one_by_one.ensures c.if-takes_one_by_one.false in
    let many = as_many before.buffer k.held c.gather-events.result.items gathered in
    let there = some_gathered before.buffer k.held c.gather-events.result.items gathered (omega (arith, c.if-count-eq0.false, c.len-count.ensures, c.gather-events.result.ok)) in
    let count : c.len-count.result ≡ length gathered.given = omega (arith, many, c.len-count.ensures, c.gather-events.result.ok) in
    together gathered.given k.held c.group.result alone.0 alone.1 gathered.each there.0 (omega (arith, many, c.gather-events.ensures.few)) there.1 gathered.gives refl
    (subst (λ es. AsksLines (before.number + 1) es c.group.result) gathered.are c.group.ensures.action)
    (c.group.ensures.stands ∙ ap (λ r. after_group (read_to before k.held (g.R.Read.remaining r)) c.len-count.result) c.gather-events.ensures.reader ∙ ap
    (λ n. after_group (read_to before k.held before.remaining) n) count)
