use Rattle.std.proofs.Common.{◌≡◌, ◌++◌, ◌∷◌, [], List, inl, inr, ap, sym, ◌∙◌, refl, Some}
use Rattle.std.proofs.lemmas.Result.{IfOk-at_ok}
use Rattle.plugin_core.specs.Kept.{Accepts}
use Rattle.session_engine.specs.declared.table.Running.{Running}
use Rattle.session_engine.specs.Host.{name_of, life_in}
use Rattle.session_engine.specs.inside.Tables.{with_life}
use Rattle.session_engine.proofs.Tables.{placed, none}
use Rattle.session_engine.proofs.evals.ask.Goals as goal

pub accept-requires-clause-goes_on : goal.accept-requires-clause-goes_on
accept-requires-clause-goes_on c =
    let rs = c.args.lives.now.items in
    let p = placed name_of c.args.name rs c.in-Some.place (sym c.place_of.ensures.found ∙ c.in-Some.is) in
    let r = c.index_mut-running.result.now in
    c.requires.going r (p.found r ∙ ap (λ (q : Running). Some q) (sym c.index_mut-running.ensures.value))

pub returns-in-Ok-clause-ok : goal.returns-in-Ok-clause-ok
returns-in-Ok-clause-ok c =
    let rs = c.args.lives.now.items in
    let p = placed name_of c.args.name rs c.in-Some.place (sym c.place_of.ensures.found ∙ c.in-Some.is) in
    let r = c.index_mut-running.result.now in
    let here : life_in rs c.args.name ≡ Some r = p.found r ∙ ap (λ (x : Running). Some x) (sym c.index_mut-running.ensures.value) in
    inl (record {
      before = r;
      found = here;
      life = c.accept.new.self;
      same = c.accept.ensures.number;
      put = p.put (with_life r c.accept.new.self);
      reported = c.number.ensures;
      accepts = λ past blocks stands. IfOk-at_ok (λ sent. Accepts past blocks c.args.item sent c.accept.new.self) c.in-Ok.is (c.accept.ensures.ok past blocks stands);
    })

pub returns-in-Ok-begin-clause-ok : goal.returns-in-Ok-begin-clause-ok
returns-in-Ok-begin-clause-ok c = inr (record {
  none = none name_of c.args.name 0 c.args.lives.now.items (sym c.place_of.ensures.found ∙ c.in-None.is);
  life = c.in-Ok-begin.life;
  reported = refl;
  is_number = c.in-Ok-begin.ensures.number;
  put = c.push_reserved.ensures.items ∙ ap (λ (l : List Running). l ++ record { name = c.args.name; life = c.in-Ok-begin.life } ∷ []) c.make_place.ensures.items;
  stands = c.in-Ok-begin.ensures.ok;
  nothing = refl;
})
