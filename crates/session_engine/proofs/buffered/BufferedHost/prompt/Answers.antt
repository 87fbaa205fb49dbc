use Rattle.std.proofs.Common.{◌≡◌, ℕ, List, ap, sym, ◌∙◌, subst, Option, Some, None}
use Rattle.std.specs.Prelude.{option_map}
use Rattle.plugin_core.specs.Items.{prompt_of}
use Rattle.session_engine.specs.declared.table.Running.{Running}
use Rattle.session_engine.specs.World.{Going}
use Rattle.session_engine.specs.Host.{HostView, Lives, name_of, life_in}
use Rattle.session_engine.proofs.Tables.{placed, none, found, not_found}
use Rattle.session_engine.proofs.buffered.BufferedHost.prompt.Goals as goal

pub returns-in-None : goal.returns-in-None
returns-in-None g c = record {
  prompt = λ w h.
      let rs = c.self.inside.engine.lives.items in
      let gone : life_in rs c.args.name ≡ None = none name_of c.args.name 0 rs (sym c.place_of.ensures.found ∙ c.in-None.is) in
      let lives = subst (λ (v : HostView). Lives v.lives w.lives) (sym c.self.view_is) h.stands.lives_are in
      sym (ap (λ (o : Option Going). option_map (λ l. prompt_of l.past l.blocks) o) (not_found c.args.name rs w.lives lives gone));
}

pub returns-in-Some : goal.returns-in-Some
returns-in-Some g c = record {
  prompt = λ w h.
      let rs = c.self.inside.engine.lives.items in
      let r = c.index-running.result.now in
      let p = placed name_of c.args.name rs c.in-Some.place (sym c.place_of.ensures.found ∙ c.in-Some.is) in
      let here : life_in rs c.args.name ≡ Some r = p.found r ∙ ap (λ (x : Running). Some x) (sym c.index-running.ensures) in
      let lives = subst (λ (v : HostView). Lives v.lives w.lives) (sym c.self.view_is) h.stands.lives_are in
      let f = found c.args.name rs w.lives r lives here in
      ap (λ (x : List ℕ). Some x) (c.prompt.ensures.prompt f.life.past f.life.blocks f.runs.stands)
      ∙ sym (ap (λ (o : Option Going). option_map (λ l. prompt_of l.past l.blocks) o) f.is);
}
