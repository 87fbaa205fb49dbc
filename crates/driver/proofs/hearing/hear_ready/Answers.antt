use Rattle.std.proofs.Common.{[], ◌∷◌, ◌++◌, ap, arith, inl, refl, subst, sym, ◌∙◌}
use Rattle.driver.specs.Hearing.{HeardUpTo}
use Rattle.driver.specs.Place.{source_rules}
use Rattle.driver.proofs.Heard.{heard_few, heard_first, heard_more}
use Rattle.driver.proofs.hearing.hear_ready.Goals as goal

pub loop-init : goal.loop-init
loop-init g c = heard_first (source_rules g.S.Children.after g.S.Sources.wakes g.S.Sources.clock) c.args.seat c.args.sources.now c.receive_event.new.children c.in_ok-first.first c.push_reserved.new.self.items c.in_ok-first.ensures.ok (c.push_reserved.ensures.items ∙ ap (λ l. l ++ c.in_ok-first.first ∷ []) (c.in_ok-reserve.ensures.items ∙ c.new-events.ensures.items))

pub loop-preserved : goal.loop-preserved
loop-preserved g c = let more = c.hear_next.ensures.more c.if-not-hear_next.false in heard_more
    (source_rules g.S.Children.after g.S.Sources.wakes g.S.Sources.clock) c.args.seat c.loop.counter c.args.sources.now c.loop.sources c.hear_next.new.sources c.loop.events.items c.hear_next.new.events.items more.0 c.loop.invariant more.1 more.2

pub returns-then-not-hear_next-clause-ok : goal.returns-then-not-hear_next-clause-ok
returns-then-not-hear_next-clause-ok g c =
    let none = c.hear_next.ensures.none c.if-not-hear_next.true in
    let so = heard_few (source_rules g.S.Children.after g.S.Sources.wakes g.S.Sources.clock) c.args.seat c.loop.counter c.args.most c.args.sources.now c.loop.sources c.loop.events.items (omega (arith, c.loop-test.true)) c.loop.invariant in
    (c.loop.sources, subst (λ l. HeardUpTo (source_rules g.S.Children.after g.S.Sources.wakes g.S.Sources.clock) c.args.seat c.args.most c.args.sources.now l c.loop.sources) (sym none.1) so, none.0)

pub returns-clause-ok : goal.returns-clause-ok
returns-clause-ok g c =
    (c.loop.sources, heard_few (source_rules g.S.Children.after g.S.Sources.wakes g.S.Sources.clock) c.args.seat c.loop.counter c.args.most c.args.sources.now c.loop.sources c.loop.events.items c.loop.auto.counter-end c.loop.invariant, inl refl)
