use Rattle.std.proofs.Common.{List, ap, sym, ◌∙◌, refl, subst, Bool, Option}
use Rattle.std.specs.Prelude.{if◌then◌else◌, is_some}
use Rattle.std.proofs.lemmas.Result.{IfOk-at_ok}
use Rattle.disk_model.specs.Disk.{InModel, LeavesOnly}
use Rattle.worksheet.specs.declared.op.Op.{Op}
use Rattle.worksheet.specs.Contents.{Contents}
use Rattle.plugin_core.specs.Kept.{Takes}
use Rattle.session_engine.specs.declared.table.Running.{Running}
use Rattle.host_events.specs.declared.reply.Closed.{Closed}
use Rattle.host_events.specs.declared.reply.Reply.TheVariants as reply
use Rattle.session_engine.specs.Does.{ChildDoes, tells}
use Rattle.host_events.specs.declared.event.ChildEvent.TheVariants as child
use Rattle.session_engine.specs.Named.{without_named}
use Rattle.session_engine.specs.Host.{name_of, number_in}
use Rattle.session_engine.specs.World.{World, Going, sheet_in}
use Rattle.session_engine.specs.Does.{reported_with}
use Rattle.session_engine.specs.Host.{EngineStandsFor}
use Rattle.session_engine.specs.inside.Commits.{AllowedIf, CommittedIf, IsEitherIf, LosesField, NotKept, answer_op}
use Rattle.session_engine.proofs.Tables.{found, numbers_stay, numbers_are}
use Rattle.session_engine.proofs.Fields.{allowed_step}
use Rattle.session_engine.proofs.Standing.{no_life, the_life, with_number_there}
use Rattle.session_engine.proofs.PieceLaws.{lead, did, may, reported, leads, fields, given_is, loses, stands, on_disk, contents, cause}
use Rattle.session_engine.proofs.engine.Engine.piece.Goals as goal

pub feed-requires : goal.feed-requires
feed-requires g c = λ r is. (found c.args.name c.args.self.now.lives.items c.requires.0.lives r c.requires.1.lives_are is).runs.stands.goes_on

pub returns-in_default-clause-took : goal.returns-in_default-clause-took
returns-in_default-clause-took g c = λ w h.
    let e = no_life c.args.number c.args.name c.args.self.now.lives.items w h.lives_are c.in_default.ensures.0 in
    record {
      did = tells w reply.Nothing;
      may = subst (λ (o : Option Going). ChildDoes w o (child.Piece c.args.piece.now) (tells w reply.Nothing)) (sym e) refl;
      reported = c.nothing.ensures;
      stands = record { works = refl; stands = subst (λ (l : List Running). EngineStandsFor c.args.self.now.store l c.args.self.now.begun w) (sym c.in_default.ensures.1) h };
      disk = refl;
    }

pub returns-in_default-fed-clause-failed : goal.returns-in_default-fed-clause-failed
returns-in_default-fed-clause-failed g c = λ w h.
    let fe = c.in-Some.ensures in
    let rs = c.args.self.now.lives.items in
    let f = found c.args.name rs w.lives fe.before h.lives_are fe.found in
    let there = the_life c.args.number c.args.name rs w fe.before f fe.found (with_number_there c.args.number c.args.name rs fe.before fe.found fe.numbered) in
    record {
      contents = h.contents;
      numbers = λ n. ap (λ (l : List Running). number_in l n) fe.put ∙ numbers_stay c.args.name n rs fe.before fe.life fe.found fe.same ∙ numbers_are rs w.lives h.lives_are n;
      cause = (refl, ap (λ (x : Option Going). is_some x) there);
    }

pub keep-requires-clause-allowed : goal.keep-requires-clause-allowed
keep-requires-clause-allowed g c =
    let w = c.requires.0 in
    let h = c.requires.1 in
    let fe = c.in-Some.ensures in
    let f = found c.args.name c.args.self.now.lives.items w.lives fe.before h.lives_are fe.found in
    let step = c.in-Ok.step in
    let takes = IfOk-at_ok (λ step. Takes f.life.past f.life.blocks c.args.piece.now step fe.life) c.in-Ok.is (fe.takes f.life.past f.life.blocks f.runs.stands) in
    subst (λ (s : Contents). AllowedIf s (answer_op step.answered)) (sym h.contents)
    (allowed_step c.short_prompts.ensures (sheet_in w) f.life c.args.piece.now step fe.life
    (fields c.args.self.now.store c.args.self.now.lives.items c.args.self.now.begun w c.args.name c.args.number c.args.piece.now fe.before fe.life step h f fe.numbered fe.same takes) takes)

pub keep-requires-clause-there : goal.keep-requires-clause-there
keep-requires-clause-there g c =
    let w = c.requires.0 in
    let h = c.requires.1 in
    let fe = c.in-Some.ensures in
    let f = found c.args.name c.args.self.now.lives.items w.lives fe.before h.lives_are fe.found in
    let step = c.in-Ok.step in
    let takes = IfOk-at_ok (λ step. Takes f.life.past f.life.blocks c.args.piece.now step fe.life) c.in-Ok.is (fe.takes f.life.past f.life.blocks f.runs.stands) in
    subst (λ (s : Contents). LosesField s step.ended) (sym h.contents)
    (loses c.args.self.now.store c.args.self.now.lives.items c.args.self.now.begun w c.args.name c.args.number c.args.piece.now fe.before fe.life step h f fe.numbered fe.same takes)

pub returns-in-Ok-keep-clause-took : goal.returns-in-Ok-keep-clause-took
returns-in-Ok-keep-clause-took g c = λ w h.
    let name = c.args.name in
    let number = c.args.number in
    let piece = c.args.piece.now in
    let store = c.args.self.now.store in
    let rs = c.args.self.now.lives.items in
    let begun = c.args.self.now.begun in
    let fe = c.in-Some.ensures in
    let f = found name rs w.lives fe.before h.lives_are fe.found in
    let step = c.in-Ok.step in
    let takes = IfOk-at_ok (λ step. Takes f.life.past f.life.blocks piece step fe.life) c.in-Ok.is (fe.takes f.life.past f.life.blocks f.runs.stands) in
    let same = given_is store rs begun w name number piece fe.before fe.life step h f fe.numbered fe.same takes in
    let kept = c.in-Ok-keep.ensures.ok w.ops h.contents in
    let done = subst (λ (o : Option Op). CommittedIf store w.ops o c.keep.new.store) same kept.1 in
    let stand = stands store rs begun w name number piece fe.before fe.life step h f fe.numbered fe.same takes c.short_prompts.ensures c.keep.new.store done c.keep.ensures.same in
    let lives = c.settle.ensures ∙ ap (λ (b : Bool). if b then without_named name_of name c.feed.new.lives.items else c.feed.new.lives.items) c.is_some.ensures
    ∙ ap (λ (l : List Running). if is_some step.ended then without_named name_of name l else l) fe.put in
    record {
      did = did store rs begun w name number piece fe.before fe.life step h f fe.numbered fe.same takes;
      may = may store rs begun w name number piece fe.before fe.life step h f fe.numbered fe.same takes;
      reported = c.outcome_of_piece.ensures ∙ ap (λ (x : Option Closed). reported_with name number x step.default_input step.send step.ended) kept.0 ∙ reported store rs begun w name number piece fe.before fe.life step h f fe.numbered fe.same takes;
      stands = record {
        works = refl;
        stands = subst (λ (v : World). EngineStandsFor c.keep.new.store c.settle.new.lives.items begun v) (leads store rs begun w name number piece fe.before fe.life step h f fe.numbered fe.same takes)
            (subst (λ (l : List Running). EngineStandsFor c.keep.new.store l begun (lead store rs begun w name number piece fe.before fe.life step h f fe.numbered fe.same takes)) (sym lives) stand);
      };
      disk = on_disk store rs begun w name number piece fe.before fe.life step h f fe.numbered fe.same takes c.keep.new.store done
          (subst (λ (o : Option Op). InModel store.disk (LeavesOnly (IsEitherIf w.ops o) store.disk.history c.keep.new.store.disk.history)) same (λ model. c.keep.ensures.moments model w.ops h.contents));
    }

pub returns-in-Err-clause-failed : goal.returns-in-Err-clause-failed
returns-in-Err-clause-failed g c = λ w h.
    let store = c.args.self.now.store in
    let rs = c.args.self.now.lives.items in
    let fe = c.in-Some.ensures in
    let f = found c.args.name rs w.lives fe.before h.lives_are fe.found in
    let step = c.in-Ok.step in
    let takes = IfOk-at_ok (λ step. Takes f.life.past f.life.blocks c.args.piece.now step fe.life) c.in-Ok.is (fe.takes f.life.past f.life.blocks f.runs.stands) in
    let same = given_is store rs c.args.self.now.begun w c.args.name c.args.number c.args.piece.now fe.before fe.life step h f fe.numbered fe.same takes in
    let not_kept = subst (λ (o : Option Op). NotKept store c.keep.new.store o c.in-Err.fault) same c.in-Err.ensures.fault in
    record {
      contents = contents store rs c.args.self.now.begun w c.args.name c.args.number c.args.piece.now fe.before fe.life step h f fe.numbered fe.same takes c.keep.new.store c.in-Err.fault not_kept;
      numbers = λ n. ap (λ (l : List Running). number_in l n) fe.put ∙ numbers_stay c.args.name n rs fe.before fe.life fe.found fe.same ∙ numbers_are rs w.lives h.lives_are n;
      cause = cause store rs c.args.self.now.begun w c.args.name c.args.number c.args.piece.now fe.before fe.life step h f fe.numbered fe.same takes c.keep.new.store c.in-Err.fault not_kept
          (subst (λ (o : Option Op). InModel store.disk (LeavesOnly (IsEitherIf w.ops o) store.disk.history c.keep.new.store.disk.history)) same (λ model. c.keep.ensures.moments model w.ops h.contents));
    }
