use Rattle.std.proofs.Common.{◌≡◌, ◌∷◌, [], List, refl, sym, subst, arith, ap, length, length-append, rules}
use Rattle.std.specs.List.{list_any}
use Rattle.std.specs.Prelude.{false}
use Rattle.std.specs.Vec.Iter.{into_iter_items}
use Rattle.std.proofs.lemmas.Result.{IfOk-at_ok, IfErr-at_err}
use Rattle.host_events.specs.declared.event.Event.{Event}
use Rattle.host_events.specs.declared.outcome.Outcome.{Outcome}
use Rattle.session_engine.specs.Host.{Took}
use Rattle.session_engine.specs.Faults.{Failed}
use Rattle.session_engine.specs.Crash.{Moments}
use Rattle.session_engine.specs.Gathers.{NoCheckpoints}
use Rattle.session_engine.specs.Groups.{is_refusal}
use Rattle.session_engine.specs.inside.Until.{PlayedBy}
use Rattle.session_engine.proofs.Until.{empty_of, ends_after, ends_nowhere, goes_on, none_more}
use Rattle.session_engine.proofs.Gathering.{gathers_on, gathers_self}
use Rattle.session_engine.proofs.Playing.{PlayedEach, nothing_each, nothing_left, one_more, one_more_each, moments_on, moments_failed, same_on, same_self}
use Rattle.session_engine.proofs.buffered.BufferedHost.play_onto.Goals as goal

pub loop-event-init : goal.loop-event-init
loop-event-init g c =
    let none : c.args.outcomes.now.items ≡ [] = c.requires.empty in
    let all = c.into_iter-event-iterator.ensures.into_iter_gives.0 in
    record {
      left = search rules;
      room = let is = ap length all in omega (arith, is, c.requires.room);
      same = same_self c.args.self.now.store.disk;
      played = λ w h. subst (λ (es : List Event). PlayedEach w c.args.events.items es c.args.outcomes.now.items c.args.self.now c.args.self.now) (sym all)
          (subst (λ (os : List Outcome). PlayedEach w c.args.events.items c.args.events.items os c.args.self.now c.args.self.now) (sym none) (nothing_each w c.args.events.items c.args.self.now h));
      moments = λ w h. subst (λ (os : List Outcome). Moments w c.args.events.items os c.args.self.now.store.disk c.args.self.now.store.disk) (sym none)
          (nothing_left w c.args.events.items c.args.events.items [] c.args.self.now (nothing_each w c.args.events.items c.args.self.now h).0);
      right = λ on. subst (λ (os : List Outcome). list_any is_refusal os ≡ false) (sym none) refl;
      few = let is = ap length all in let no = ap length none in omega (arith, is, no);
      gathers = λ none. (gathers_self c.args.self.now.store, subst NoCheckpoints (sym all) none);
    }

pub loop-event-preserved : goal.loop-event-preserved
loop-event-preserved g c =
    let at = c.loop-event in
    let inv = at.invariant in
    let e = c.in-Some.event in
    let o = c.in-Ok.outcome in
    let os = at.outcomes.items in
    let first = c.args.self.now in
    let events = c.args.events.items in
    let rest = into_iter_items c.next.new.self in
    let steps : into_iter_items at.event-iterator ≡ e ∷ rest = c.in-Some.ensures.steps.0 in
    let fewer = ap length steps in
    let gone = c.in-Some.ensures.steps.1 in
    record {
      left = let was = inv.left in omega (arith, was, gone, fewer);
      room = omega (arith, fewer, c.add.ensures.len, c.add.ensures.capacity, inv.room);
      same = same_on first.store.disk at.self.store.disk c.step.new.self.store.disk inv.same c.step.ensures.same;
      played = λ w h.
          let p = subst (λ (l : List Event). PlayedEach w events l os first at.self) steps (inv.played w h) in
          let took = IfOk-at_ok (Took p.0.leads e at.self c.step.new.self) c.in-Ok.is (c.step.ensures.took p.0.leads p.0.stands) in
          subst (λ (l : List Outcome). PlayedEach w events rest l first c.step.new.self) (sym c.add.ensures.items)
          (one_more_each w events rest e os first at.self c.step.new.self o p took c.step.ensures.same);
      moments = λ w h.
          let p = subst (λ (l : List Event). PlayedEach w events l os first at.self) steps (inv.played w h) in
          let took = IfOk-at_ok (Took p.0.leads e at.self c.step.new.self) c.in-Ok.is (c.step.ensures.took p.0.leads p.0.stands) in
          subst (λ (l : List Outcome). Moments w events l first.store.disk c.step.new.self.store.disk) (sym c.add.ensures.items)
          (moments_on w events rest e os at.self p.0 first.store.disk c.step.new.self o inv.same (inv.moments w h) took);
      right = λ on. subst (λ (l : List Outcome). list_any is_refusal l ≡ false) (sym c.add.ensures.items) (none_more os o (inv.right on) (goes_on c.args.up_to (is_refusal o) c.stops-stops.result c.stops-stops.ensures c.if-stops.false on));
      few = let one = ap length c.add.ensures.items in let so = length-append os (o ∷ []) in omega (arith, one, so, fewer, inv.few);
      gathers = λ none.
          let was = inv.gathers none in
          let here = subst NoCheckpoints steps was.1 in
          (gathers_on first.store at.self.store c.step.new.self.store was.0 (c.step.ensures.gathers here.0), here.1);
    }

pub returns-in-Err-clause-halts : goal.returns-in-Err-clause-halts
returns-in-Err-clause-halts g c = λ w h.
    let at = c.loop-event in
    let inv = at.invariant in
    let e = c.in-Some.event in
    let os = at.outcomes.items in
    let first = c.args.self.now in
    let events = c.args.events.items in
    let rest = into_iter_items c.next.new.self in
    let steps : into_iter_items at.event-iterator ≡ e ∷ rest = c.in-Some.ensures.steps.0 in
    let p = subst (λ (l : List Event). PlayedEach w events l os first at.self) steps (inv.played w h) in
    let failed = IfErr-at_err (Failed p.0.leads e at.self c.step.new.self) c.in-Err.is (c.step.ensures.failed p.0.leads p.0.stands) in
    record {
      at = e;
      dropped = rest;
      before = at.self;
      same = inv.same;
      played = p.0;
      each = p.1;
      failed = failed;
      closed = c.in-Err.ensures.closes;
      moments = moments_failed w events rest e os at.self p.0 first.store.disk c.step.new.self c.in-Err.fault inv.same (inv.moments w h) failed;
    }

pub returns-in-Err-clause-gathers : goal.returns-in-Err-clause-gathers
returns-in-Err-clause-gathers g c = λ none.
    let at = c.loop-event in
    let was = at.invariant.gathers none in
    let here = subst NoCheckpoints c.in-Some.ensures.steps.0 was.1 in
    gathers_on c.args.self.now.store at.self.store c.step.new.self.store was.0 (c.step.ensures.gathers here.0)

pub returns-then-stops-clause-played : goal.returns-then-stops-clause-played
returns-then-stops-clause-played g c = λ w h.
    let at = c.loop-event in
    let inv = at.invariant in
    let e = c.in-Some.event in
    let o = c.in-Ok.outcome in
    let os = at.outcomes.items in
    let first = c.args.self.now in
    let events = c.args.events.items in
    let rest = into_iter_items c.next.new.self in
    let steps : into_iter_items at.event-iterator ≡ e ∷ rest = c.in-Some.ensures.steps.0 in
    let p = subst (λ (l : List Event). PlayedEach w events l os first at.self) steps (inv.played w h) in
    let took = IfOk-at_ok (Took p.0.leads e at.self c.step.new.self) c.in-Ok.is (c.step.ensures.took p.0.leads p.0.stands) in
    subst (λ (l : List Outcome). PlayedBy c.args.up_to w events l c.step.new.self) (sym c.add.ensures.items)
    (record { rest = rest; played = one_more w events rest e os at.self p.0 c.step.new.self o took; ends = ends_after c.args.up_to os o rest c.stops-stops.result c.stops-stops.ensures c.if-stops.true inv.right })

pub returns-clause-played : goal.returns-clause-played
returns-clause-played g c = λ w h.
    let at = c.loop-event in
    let ended = c.in-None.ensures.steps.0 in
    let left = at.invariant.left in
    let done : into_iter_items at.event-iterator ≡ [] = empty_of (into_iter_items at.event-iterator) (omega (arith, ended, left)) in
    let p = subst (λ (l : List Event). PlayedEach w c.args.events.items l at.outcomes.items c.args.self.now at.self) done (at.invariant.played w h) in
    record { rest = []; played = p.0; ends = ends_nowhere c.args.up_to at.outcomes.items at.invariant.right }
