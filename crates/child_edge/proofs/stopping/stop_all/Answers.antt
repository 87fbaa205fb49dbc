use Rattle.std.proofs.Common.{[], ◌++◌, refl, ap, ◌∙◌, subst, option_map}
use Rattle.session_engine.specs.World.{sheet_in}
use Rattle.session_engine.specs.Host.{number_in}
use Rattle.child_edge.specs.Seats.{numbered, lives_of}
use Rattle.child_edge.specs.Stops.{Stops}
use Rattle.child_edge.proofs.Seating.{number_of, lives-on, all-lives, reported-number, Stops-append}
use Rattle.child_edge.proofs.stopping.stop_all.Goals as goal

pub loop-session-init : goal.loop-session-init
loop-session-init g c =
    let items = c.into_iter-session-iterator.ensures.into_iter_gives ∙ c.sessions-session-items.ensures in
    record {
      kept = ([], refl, ap (λ s. lives_of (number_in c.args.host.now.lives) s) (items ∙ ap (λ s. s.contents.sessions) c.sheet.ensures.sheet));
      stands = λ w h. ([], refl, ap (λ s. lives_of (number_of w) s) (items ∙ ap (λ s. s.sessions) (c.sheet.ensures.stands w h)));
    }

pub loop-session-preserved : goal.loop-session-preserved
loop-session-preserved g c = record {
  kept =
      let r = c.loop-session.invariant.kept in (
        r.0 ++ numbered c.in-Some.session.now.name (option_map (λ l. l.number) c.life.result),
        Stops-append g.C.Children.after r.0 (numbered c.in-Some.session.now.name (option_map (λ l. l.number) c.life.result)) c.args.children.now c.loop-session.children c.stop_life.new.children r.1 c.stop_life.ensures,
        lives-on (number_in c.args.host.now.lives) r.0 c.in-Some.session.now c.loop-session.session-iterator c.next.new.self c.args.host.now.store.sheet.contents.sessions (option_map (λ l. l.number) c.life.result) c.in-Some.ensures.steps c.life.ensures.number r.2,
      );
  stands = λ w h.
      let r = c.loop-session.invariant.stands w h in (
        r.0 ++ numbered c.in-Some.session.now.name (option_map (λ l. l.number) c.life.result),
        Stops-append g.C.Children.after r.0 (numbered c.in-Some.session.now.name (option_map (λ l. l.number) c.life.result)) c.args.children.now c.loop-session.children c.stop_life.new.children r.1 c.stop_life.ensures,
        lives-on (number_of w) r.0 c.in-Some.session.now c.loop-session.session-iterator c.next.new.self (sheet_in w).sessions (option_map (λ l. l.number) c.life.result) c.in-Some.ensures.steps (reported-number w c.in-Some.session.now.name c.life.result (c.life.ensures.life w h)) r.2,
      );
}

pub returns-clause-working : goal.returns-clause-working
returns-clause-working g c = λ w h.
    let r = c.loop-session.invariant.stands w h in
    let all = all-lives (number_of w) w r.0 c.loop-session.session-iterator (sheet_in w).sessions c.in-None.ensures.steps.0 r.2 refl (λ name. refl) in
    subst (λ seats. Stops g.C.Children.after seats c.args.children.now c.loop-session.children) all r.1

pub returns-clause-stopped : goal.returns-clause-stopped
returns-clause-stopped g c = λ w e before fault s.
    let r = c.loop-session.invariant.kept in
    let all = all-lives (number_in c.args.host.now.lives) w r.0 c.loop-session.session-iterator c.args.host.now.store.sheet.contents.sessions c.in-None.ensures.steps.0 r.2 (ap (λ x. x.sessions) s.contents) s.numbers in
    subst (λ seats. Stops g.C.Children.after seats c.args.children.now c.loop-session.children) all r.1

pub returns-clause-numbered : goal.returns-clause-numbered
returns-clause-numbered g c = λ w contents numbers.
    let r = c.loop-session.invariant.kept in
    let all = all-lives (number_in c.args.host.now.lives) w r.0 c.loop-session.session-iterator c.args.host.now.store.sheet.contents.sessions c.in-None.ensures.steps.0 r.2 (ap (λ x. x.sessions) contents) numbers in
    subst (λ seats. Stops g.C.Children.after seats c.args.children.now c.loop-session.children) all r.1
