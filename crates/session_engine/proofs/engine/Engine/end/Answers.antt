use Rattle.std.proofs.Common.{◌≡◌, List, ap, sym, ◌∙◌, refl, subst, true, false, Option, Some, None}
use Rattle.session_engine.specs.declared.commits.LoseFault.{LoseFault}
use Rattle.session_engine.specs.declared.table.Running.{Running}
use Rattle.host_events.specs.declared.reply.Reply.TheVariants as reply
use Rattle.session_engine.specs.World.{Going, kept_at_end, life_of, with_number}
use Rattle.session_engine.specs.Does.{ends_life, tells, ChildDoes}
use Rattle.session_engine.specs.Host.{Lives, OnDisk, life_in, number_in}
use Rattle.session_engine.specs.inside.Commits.{FailsToLose}
use Rattle.session_engine.specs.inside.Tables.{has_number}
use Rattle.session_engine.proofs.Losses.{end_on_disk, end_stands, end_writes, its_life}
use Rattle.session_engine.proofs.Tables.{found, numbers_are}
use Rattle.session_engine.proofs.Standing.{no_life, reported_end}
use Rattle.session_engine.proofs.Stopping.{gives_end, wants_at_end}
use Rattle.session_engine.proofs.engine.Engine.end.Goals as goal

pub returns-then-not-has_life-clause-took : goal.returns-then-not-has_life-clause-took
returns-then-not-has_life-clause-took g c = λ w e h is.
    let rs = c.args.self.now.lives.items in
    let none = no_life c.args.number c.args.name rs w h.lives_are (sym c.has_life.ensures ∙ c.if-not-has_life.true) in
    record {
      did = tells w reply.Nothing;
      may = subst (λ (l : Option Going). ChildDoes w l e (tells w reply.Nothing)) (sym none) (gives_end w None e c.args.reason c.args.killed is);
      reported = c.nothing.ensures;
      stands = record { works = refl; stands = h };
      disk = refl;
    }

pub ended-requires : goal.ended-requires
ended-requires g c =
    let w = c.requires.0 in
    let rs = c.lose.new.self.lives.items in
    let lives = subst (λ (l : List Running). Lives l w.lives) (sym c.lose.ensures.lives) c.requires.1.lives_are in
    (found c.args.name rs w.lives c.in-Some.running lives c.in-Some.ensures.0).runs.stands.goes_on

pub returns-in-Some-clause-took : goal.returns-in-Some-clause-took
returns-in-Some-clause-took g c = λ w e h is.
    let name = c.args.name in
    let number = c.args.number in
    let why = c.args.reason in
    let killed = c.args.killed in
    let rs = c.lose.new.self.lives.items in
    let r = c.in-Some.running in
    let lives = subst (λ (l : List Running). Lives l w.lives) (sym c.lose.ensures.lives) h.lives_are in
    let f = found name rs w.lives r lives c.in-Some.ensures.0 in
    let has : has_number number (life_in c.args.self.now.lives.items name) ≡ true = sym c.has_life.ensures ∙ c.if-not-has_life.false in
    let there : with_number number (life_of w name) ≡ Some f.life = its_life number name c.args.self.now.lives.items w h.lives_are has ∙ f.is in
    let lost = c.in-Ok.ensures.ok w h in
    record {
      did = ends_life w why killed (Some f.life) reply.Nothing;
      may = subst (λ (l : Option Going). ChildDoes w l e (ends_life w why killed (Some f.life) reply.Nothing)) (sym there) (gives_end w (Some f.life) e why killed is);
      reported = c.ended.ensures f.life.past f.life.blocks f.runs.stands ∙ reported_end f.life r.name r.life.number why killed f.runs.name f.runs.number;
      stands = record { works = refl; stands = end_stands c.lose.new.self.store rs c.remove_life.new.lives.items c.lose.new.self.begun w name r why f lost.stands c.in-Some.ensures.1 };
      disk = subst (λ (k : Option Going). OnDisk w.ops false (kept_at_end w why k) c.args.self.now.store.disk c.lose.new.self.store.disk) f.is lost.disk;
    }

pub returns-in-Err-OutOfMemory-clause-failed : goal.returns-in-Err-OutOfMemory-clause-failed
returns-in-Err-OutOfMemory-clause-failed g c = λ w e h is.
    let name = c.args.name in
    let number = c.args.number in
    let rs = c.args.self.now.lives.items in
    let has : has_number number (life_in rs name) ≡ true = sym c.has_life.ensures ∙ c.if-not-has_life.false in
    let fails = subst (λ (x : LoseFault). FailsToLose w name c.args.reason c.args.self.now c.lose.new.self x) c.in-Err-OutOfMemory.field-0-is (c.in-Err-OutOfMemory.ensures.fault w h) in
    let kept = ap (λ (k : Option Going). kept_at_end w c.args.reason k) (its_life number name rs w h.lives_are has) ∙ fails.is in
    record {
      contents = fails.contents;
      numbers = λ n. ap (λ (l : List Running). number_in l n) c.lose.ensures.lives ∙ numbers_are rs w.lives h.lives_are n;
      cause = (fails.cause, wants_at_end w name number e c.args.reason c.args.killed fails.lost is kept);
    }

pub returns-in-Err-Disk-clause-failed : goal.returns-in-Err-Disk-clause-failed
returns-in-Err-Disk-clause-failed g c = λ w e h is.
    let name = c.args.name in
    let number = c.args.number in
    let rs = c.args.self.now.lives.items in
    let has : has_number number (life_in rs name) ≡ true = sym c.has_life.ensures ∙ c.if-not-has_life.false in
    let fails = subst (λ (x : LoseFault). FailsToLose w name c.args.reason c.args.self.now c.lose.new.self x) c.in-Err-Disk.field-0-is (c.in-Err-Disk.ensures.fault w h) in
    let kept = ap (λ (k : Option Going). kept_at_end w c.args.reason k) (its_life number name rs w h.lives_are has) ∙ fails.is in
    record {
      contents = fails.contents;
      numbers = λ n. ap (λ (l : List Running). number_in l n) c.lose.ensures.lives ∙ numbers_are rs w.lives h.lives_are n;
      cause = (
        fails.cause.0,
        (
          record {
            does = ends_life w c.args.reason c.args.killed (with_number number (life_of w name)) reply.Nothing;
            may = gives_end w (with_number number (life_of w name)) e c.args.reason c.args.killed is;
            writes = end_writes w c.args.reason c.args.killed (with_number number (life_of w name)) reply.Nothing fails.lost kept;
          },
          end_on_disk w c.args.reason c.args.killed (with_number number (life_of w name)) reply.Nothing fails.lost kept c.args.self.now.store.disk c.lose.new.self.store.disk fails.cause.1,
        ),
      );
    }
