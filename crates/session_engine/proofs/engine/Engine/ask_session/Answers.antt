use Rattle.std.proofs.Common.{◌+◌, ℕ, List, ⊎_elim, ap, sym, ◌∙◌, subst}
use Rattle.recovery.specs.Sheets.{StoreView}
use Rattle.session_engine.specs.declared.table.Running.{Running}
use Rattle.session_engine.specs.World.{life_of}
use Rattle.session_engine.specs.inside.Parts.{with_item}
use Rattle.session_engine.specs.Host.{EngineStandsFor}
use Rattle.session_engine.proofs.Tables.{found}
use Rattle.session_engine.proofs.Asking.{joins, begins, goes_back}
use Rattle.session_engine.specs.inside.Tables.{CanGoBack}
use Rattle.session_engine.proofs.engine.Engine.ask_session.Goals as goal

pub ask-requires-clause-going : goal.ask-requires-clause-going
ask-requires-clause-going g c = λ r is. (found c.args.name c.args.self.now.lives.items c.requires.works.0.lives r c.requires.works.1.lives_are is).runs.stands.goes_on

pub returns-clause-ok : goal.returns-clause-ok
returns-clause-ok g c = λ w h left has.
    let store = c.args.self.now.store in
    let rs = c.args.self.now.lives.items in
    let begun = c.args.self.now.begun in
    let new = c.ask.new.lives.items in
    let name = c.args.name in
    let words = c.in_ok-words.words in
    let is = c.in_ok-words.ensures w h in
    let v = with_item w name c.args.item (life_of w name) in
    let both = ⊎_elim (λ j. joins store rs new begun (begun + 1) w name c.args.item c.in_ok-number.number c.in_ok-number.sent words h has j is)
    (λ b. begins store rs new begun w name c.args.item c.in_ok-number.number c.in_ok-number.sent words h has left b is) c.in_ok-number.ensures.ok in (
      c.outcome_of_ask.ensures.reported ∙ both.0,
      subst (λ (s : StoreView). EngineStandsFor s c.outcome_of_ask.new.self.lives.items c.outcome_of_ask.new.self.begun v) (sym c.outcome_of_ask.ensures.store)
          (subst (λ (l : List Running). EngineStandsFor store l c.outcome_of_ask.new.self.begun v) (sym (ap (λ (x : Rattle.std.specs.declared.vec.Vec.Vec Running _). x.items) c.outcome_of_ask.ensures.lives))
          (subst (λ (k : ℕ). EngineStandsFor store new k v) (sym c.outcome_of_ask.ensures.begun) both.1)),
    )

pub returns-clause-back : goal.returns-clause-back
returns-clause-back g c =
    let w = c.requires.works.0 in
    let h = c.requires.works.1 in
    let rs = c.args.self.now.lives.items in
    let begun = c.args.self.now.begun in
    let back = goes_back c.args.self.now.store rs c.ask.new.lives.items begun w c.args.name c.args.item c.in_ok-number.number c.in_ok-number.sent c.in_ok-words.words h c.in_ok-number.ensures.ok (c.in_ok-words.ensures w h) in
    subst (λ (l : List Running). CanGoBack c.args.name rs begun l c.outcome_of_ask.new.self.begun) (sym (ap (λ (x : Rattle.std.specs.declared.vec.Vec.Vec Running _). x.items) c.outcome_of_ask.ensures.lives))
    (subst (λ (k : ℕ). CanGoBack c.args.name rs begun c.ask.new.lives.items k) (sym c.outcome_of_ask.ensures.begun) back)
