use Rattle.std.proofs.Common.{◌≡◌, ℕ, ap, sym, ◌∙◌, refl, subst, length, Option, Some, None}
use Rattle.std.specs.Prelude.{option_map}
use Rattle.session_engine.specs.declared.host.LifeView.{LifeView}
use Rattle.session_engine.specs.declared.table.Running.{Running}
use Rattle.session_engine.specs.World.{Going, waiting_in}
use Rattle.session_engine.specs.Host.{HostView, Lives}
use Rattle.session_engine.specs.Host.{name_of, life_in, number_in}
use Rattle.session_engine.proofs.Tables.{placed, none, found, not_found}
use Rattle.session_engine.proofs.buffered.BufferedHost.life.Goals as goal

same_view : (a b n k : ℕ) → a ≡ b → n ≡ k → (let x : LifeView = record { number = a; waiting = n } in x) ≡ record { number = b; waiting = k }
same_view a b n k e f = rw (e, f) refl

pub returns-in-None-clause-number : goal.returns-in-None-clause-number
returns-in-None-clause-number g c =
    let rs = c.self.inside.engine.lives.items in
    let gone : life_in rs c.args.name ≡ None = none name_of c.args.name 0 rs (sym c.place_of.ensures.found ∙ c.in-None.is) in
    subst (λ (v : HostView). None ≡ number_in v.lives c.args.name) c.self.view_is (sym (ap (λ (o : Option Running). option_map (λ r. r.life.number) o) gone))

pub returns-in-None-clause-life : goal.returns-in-None-clause-life
returns-in-None-clause-life g c = λ w h.
    let rs = c.self.inside.engine.lives.items in
    let gone : life_in rs c.args.name ≡ None = none name_of c.args.name 0 rs (sym c.place_of.ensures.found ∙ c.in-None.is) in
    let lives = subst (λ (v : HostView). Lives v.lives w.lives) (sym c.self.view_is) h.stands.lives_are in
    sym (ap (λ (o : Option Going). option_map (λ l. let x : LifeView = record { number = l.number; waiting = length (waiting_in l) } in x) o) (not_found c.args.name rs w.lives lives gone))

pub returns-in-Some-clause-number : goal.returns-in-Some-clause-number
returns-in-Some-clause-number g c =
    let rs = c.self.inside.engine.lives.items in
    let r = c.index-running.result.now in
    let p = placed name_of c.args.name rs c.in-Some.place (sym c.place_of.ensures.found ∙ c.in-Some.is) in
    let here : life_in rs c.args.name ≡ Some r = p.found r ∙ ap (λ (x : Running). Some x) (sym c.index-running.ensures) in
    subst (λ (v : HostView). Some c.number.result ≡ number_in v.lives c.args.name) c.self.view_is
    (ap (λ (k : ℕ). Some k) c.number.ensures ∙ sym (ap (λ (o : Option Running). option_map (λ r. r.life.number) o) here))

pub returns-in-Some-clause-life : goal.returns-in-Some-clause-life
returns-in-Some-clause-life g c = λ w h.
    let rs = c.self.inside.engine.lives.items in
    let r = c.index-running.result.now in
    let p = placed name_of c.args.name rs c.in-Some.place (sym c.place_of.ensures.found ∙ c.in-Some.is) in
    let here : life_in rs c.args.name ≡ Some r = p.found r ∙ ap (λ (x : Running). Some x) (sym c.index-running.ensures) in
    let lives = subst (λ (v : HostView). Lives v.lives w.lives) (sym c.self.view_is) h.stands.lives_are in
    let f = found c.args.name rs w.lives r lives here in
    let n = c.waiting.ensures f.life.past f.life.blocks f.runs.stands in
    ap (λ (x : LifeView). Some x) (same_view c.number.result f.life.number c.waiting.result (length (waiting_in f.life)) (c.number.ensures ∙ f.runs.number) n)
    ∙ sym (ap (λ (o : Option Going). option_map (λ l. let x : LifeView = record { number = l.number; waiting = length (waiting_in l) } in x) o) f.is)
