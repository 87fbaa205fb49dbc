use Rattle.std.proofs.Common.{◌≡◌, ℕ, List, ap, sym, ◌∙◌, refl, subst, true, false, Option, Some, None}
use Rattle.worksheet.specs.Contents.{Contents, SheetView}
use Rattle.worksheet.specs.Checks.{session_named}
use Rattle.worksheet.specs.declared.refusal.Refusal.TheVariants as refusal
use Rattle.worksheet.proofs.Finds.{session_named-name}
use Rattle.block_tree.specs.declared.reason.Reason.TheVariants as reason
use Rattle.session_engine.specs.declared.commits.LoseFault.{LoseFault}
use Rattle.session_engine.specs.declared.table.Running.{Running}
use Rattle.host_events.specs.declared.reply.Reply.TheVariants as reply
use Rattle.session_engine.specs.World.{Going, kept_at_end, life_of, sheet_in, with_op_if}
use Rattle.session_engine.specs.Does.{ends_life, tells}
use Rattle.session_engine.specs.Host.{EngineStandsFor, Lives, OnDisk, number_in}
use Rattle.session_engine.specs.inside.Commits.{FailsToLose}
use Rattle.session_engine.proofs.Losses.{end_on_disk, end_stands, end_writes}
use Rattle.session_engine.proofs.Tables.{found, not_found, numbers_are}
use Rattle.session_engine.proofs.Standing.{reported_end}
use Rattle.session_engine.proofs.Stopping.{gives_stop, gives_stop_none, gives_no_session}
use Rattle.session_engine.proofs.engine.Engine.stop.Goals as goal

pub ended-requires : goal.ended-requires
ended-requires g c =
    let w = c.requires.0 in
    let rs = c.lose.new.self.lives.items in
    let lives = subst (λ (l : List Running). Lives l w.lives) (sym c.lose.ensures.lives) c.requires.1.lives_are in
    (found c.in-Some.session.now.name rs w.lives c.in-Some-remove_life.running lives c.in-Some-remove_life.ensures.0).runs.stands.goes_on

pub returns-in-Some-remove_life-clause-took : goal.returns-in-Some-remove_life-clause-took
returns-in-Some-remove_life-clause-took g c = λ w h.
    let asked = c.args.name in
    let s = c.in-Some.session.now in
    let named : session_named (sheet_in w).sessions asked ≡ Some s =
    sym (c.in-Some.ensures ∙ ap (λ (l : SheetView). session_named l.contents.sessions c.as_slice.result.now) c.sheet.ensures.sheet
    ∙ ap (λ (n : List ℕ). session_named c.args.self.now.store.sheet.contents.sessions n) c.as_slice.ensures ∙ ap (λ (x : Contents). session_named x.sessions asked) h.contents) in
    let same : s.name ≡ asked = session_named-name (sheet_in w).sessions asked s named in
    let rs = c.lose.new.self.lives.items in
    let r = c.in-Some-remove_life.running in
    let lives = subst (λ (l : List Running). Lives l w.lives) (sym c.lose.ensures.lives) h.lives_are in
    let f = found s.name rs w.lives r lives c.in-Some-remove_life.ensures.0 in
    let there : life_of w asked ≡ Some f.life = ap (λ (n : List ℕ). life_of w n) (sym same) ∙ f.is in
    let lost = c.in-Ok.ensures.ok w h in
    record {
      did = ends_life w reason.Stopped true (Some f.life) reply.Done;
      may = gives_stop w asked s (Some f.life) named there;
      reported = c.ended.ensures f.life.past f.life.blocks f.runs.stands ∙ reported_end f.life r.name r.life.number reason.Stopped true f.runs.name f.runs.number;
      stands = record { works = refl; stands = end_stands c.lose.new.self.store rs c.remove_life.new.lives.items c.lose.new.self.begun w s.name r reason.Stopped f lost.stands c.in-Some-remove_life.ensures.1 };
      disk = subst (λ (k : Option Going). OnDisk w.ops false (kept_at_end w reason.Stopped k) c.args.self.now.store.disk c.lose.new.self.store.disk) f.is lost.disk;
    }

pub returns-in-Ok-clause-took : goal.returns-in-Ok-clause-took
returns-in-Ok-clause-took g c = λ w h.
    let asked = c.args.name in
    let s = c.in-Some.session.now in
    let named : session_named (sheet_in w).sessions asked ≡ Some s =
    sym (c.in-Some.ensures ∙ ap (λ (l : SheetView). session_named l.contents.sessions c.as_slice.result.now) c.sheet.ensures.sheet
    ∙ ap (λ (n : List ℕ). session_named c.args.self.now.store.sheet.contents.sessions n) c.as_slice.ensures ∙ ap (λ (x : Contents). session_named x.sessions asked) h.contents) in
    let same : s.name ≡ asked = session_named-name (sheet_in w).sessions asked s named in
    let rs = c.lose.new.self.lives.items in
    let lives = subst (λ (l : List Running). Lives l w.lives) (sym c.lose.ensures.lives) h.lives_are in
    let gone_before : life_of w s.name ≡ None = not_found s.name rs w.lives lives c.in-None-remove_life.ensures.0 in
    let lost = c.in-Ok.ensures.ok w h in
    let stands : EngineStandsFor c.lose.new.self.store rs c.lose.new.self.begun w = subst (λ (k : Option Going). EngineStandsFor c.lose.new.self.store rs c.lose.new.self.begun (with_op_if (kept_at_end w reason.Stopped k) w)) gone_before lost.stands in
    record {
      did = tells w reply.Done;
      may = gives_stop w asked s None named (ap (λ (n : List ℕ). life_of w n) (sym same) ∙ gone_before);
      reported = refl;
      stands = record { works = refl; stands = subst (λ (l : List Running). EngineStandsFor c.lose.new.self.store l c.lose.new.self.begun w) (sym c.in-None-remove_life.ensures.1) stands };
      disk = subst (λ (k : Option Going). OnDisk w.ops false (kept_at_end w reason.Stopped k) c.args.self.now.store.disk c.lose.new.self.store.disk) gone_before lost.disk;
    }

pub returns-in-Err-OutOfMemory-clause-took : goal.returns-in-Err-OutOfMemory-clause-took
returns-in-Err-OutOfMemory-clause-took g c = λ w h.
    let asked = c.args.name in
    let s = c.in-Some.session.now in
    let named : session_named (sheet_in w).sessions asked ≡ Some s =
    sym (c.in-Some.ensures ∙ ap (λ (l : SheetView). session_named l.contents.sessions c.as_slice.result.now) c.sheet.ensures.sheet
    ∙ ap (λ (n : List ℕ). session_named c.args.self.now.store.sheet.contents.sessions n) c.as_slice.ensures ∙ ap (λ (x : Contents). session_named x.sessions asked) h.contents) in
    let same : s.name ≡ asked = session_named-name (sheet_in w).sessions asked s named in
    let fails = subst (λ (x : LoseFault). FailsToLose w s.name reason.Stopped c.args.self.now c.lose.new.self x) c.in-Err-OutOfMemory.field-0-is (c.in-Err-OutOfMemory.ensures.fault w h) in
    let kept = ap (λ (n : List ℕ). kept_at_end w reason.Stopped (life_of w n)) (sym same) ∙ fails.is in
    record {
      did = tells w (reply.Refused refusal.OutOfMemory);
      may = gives_stop_none w asked s fails.lost named kept;
      reported = c.refused-in-Err-OutOfMemory.ensures;
      stands = record { works = refl; stands = fails.still refl };
      disk = fails.cause;
    }

pub returns-clause-failed : goal.returns-clause-failed
returns-clause-failed g c = λ w h.
    let asked = c.args.name in
    let s = c.in-Some.session.now in
    let named : session_named (sheet_in w).sessions asked ≡ Some s =
    sym (c.in-Some.ensures ∙ ap (λ (l : SheetView). session_named l.contents.sessions c.as_slice.result.now) c.sheet.ensures.sheet
    ∙ ap (λ (n : List ℕ). session_named c.args.self.now.store.sheet.contents.sessions n) c.as_slice.ensures ∙ ap (λ (x : Contents). session_named x.sessions asked) h.contents) in
    let same : s.name ≡ asked = session_named-name (sheet_in w).sessions asked s named in
    let rs = c.args.self.now.lives.items in
    let fails = subst (λ (x : LoseFault). FailsToLose w s.name reason.Stopped c.args.self.now c.lose.new.self x) c.in-Err-Disk.field-0-is (c.in-Err-Disk.ensures.fault w h) in
    let kept = ap (λ (n : List ℕ). kept_at_end w reason.Stopped (life_of w n)) (sym same) ∙ fails.is in
    record {
      contents = fails.contents;
      numbers = λ n. ap (λ (l : List Running). number_in l n) c.lose.ensures.lives ∙ numbers_are rs w.lives h.lives_are n;
      cause = (
        fails.cause.0,
        (
          record {
            does = ends_life w reason.Stopped true (life_of w asked) reply.Done;
            may = gives_stop w asked s (life_of w asked) named refl;
            writes = end_writes w reason.Stopped true (life_of w asked) reply.Done fails.lost kept;
          },
          end_on_disk w reason.Stopped true (life_of w asked) reply.Done fails.lost kept c.args.self.now.store.disk c.lose.new.self.store.disk fails.cause.1,
        ),
      );
    }

pub returns-in-None-clause-took : goal.returns-in-None-clause-took
returns-in-None-clause-took g c = λ w h.
    let asked = c.args.name in
    let named : session_named (sheet_in w).sessions asked ≡ None =
    sym (c.in-None.ensures ∙ ap (λ (l : SheetView). session_named l.contents.sessions c.as_slice.result.now) c.sheet.ensures.sheet
    ∙ ap (λ (n : List ℕ). session_named c.args.self.now.store.sheet.contents.sessions n) c.as_slice.ensures ∙ ap (λ (x : Contents). session_named x.sessions asked) h.contents) in
    record {
      did = tells w (reply.Refused refusal.NoSession);
      may = gives_no_session w asked named;
      reported = c.refused.ensures;
      stands = record { works = refl; stands = h };
      disk = refl;
    }
