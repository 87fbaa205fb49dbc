use Rattle.std.proofs.Common.{◌≡◌, ap, sym, ◌∙◌, refl, arith, false, Option, Some}
use Rattle.std.specs.Prelude.{◌==◌}
use Rattle.std.proofs.lemmas.Bool.Decides.{nat_tests}
use Rattle.session_engine.specs.declared.table.Running.{Running}
use Rattle.session_engine.specs.Host.{name_of, life_in}
use Rattle.session_engine.specs.inside.Tables.{has_number, with_life}
use Rattle.session_engine.proofs.Tables.{placed, none}
use Rattle.session_engine.proofs.table.feed.Goals as goal

pub returns-in_default : goal.returns-in_default
returns-in_default c = (ap (λ (o : Option Running). has_number c.args.number o) (none name_of c.args.name 0 c.args.lives.now.items (sym c.place_of.ensures.found ∙ c.in_default.is)), refl)

pub returns-then-number : goal.returns-then-number
returns-then-number c =
    let rs = c.args.lives.now.items in
    let p = placed name_of c.args.name rs c.in-Some.place (sym c.place_of.ensures.found ∙ c.in-Some.is) in
    let r = c.index.result.now in
    let found = p.found r ∙ ap (λ (q : Running). Some q) (sym c.index.ensures) in
    let n : (r.life.number == c.args.number) ≡ false = grind (arith, nat_tests, c.number.ensures, c.if-number.true) in
    (ap (λ (o : Option Running). has_number c.args.number o) found ∙ n, refl)

pub piece-requires : goal.piece-requires
piece-requires c =
    let rs = c.args.lives.now.items in
    let p = placed name_of c.args.name rs c.in-Some.place (sym c.place_of.ensures.found ∙ c.in-Some.is) in
    let r = c.index_mut-running.result.now in
    c.requires r (p.found r ∙ ap (λ (q : Running). Some q) (sym c.index_mut-running.ensures.value))

pub returns : goal.returns
returns c =
    let rs = c.args.lives.now.items in
    let p = placed name_of c.args.name rs c.in-Some.place (sym c.place_of.ensures.found ∙ c.in-Some.is) in
    let r = c.index_mut-running.result.now in
    let q = c.index.result.now in
    let first : life_in rs c.args.name ≡ Some q = p.found q ∙ ap (λ (x : Running). Some x) (sym c.index.ensures) in
    let second : life_in rs c.args.name ≡ Some r = p.found r ∙ ap (λ (x : Running). Some x) (sym c.index_mut-running.ensures.value) in
    let same : q ≡ r = cc (first, second) in
    record {
      before = r;
      found = second;
      numbered = ap (λ (x : Running). x.life.number) (sym same) ∙ sym c.number.ensures ∙ c.if-number.false;
      life = c.piece.new.self;
      same = c.piece.ensures.number;
      put = p.put (with_life r c.piece.new.self);
      takes = c.piece.ensures.ok;
    }
