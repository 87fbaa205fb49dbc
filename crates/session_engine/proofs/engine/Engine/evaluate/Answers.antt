use Rattle.std.proofs.Common.{◌≡◌, inl, sym, subst, None}
use Rattle.disk_model.specs.Disk.{InModel, Leaves, SameDisk}
use Rattle.worksheet.specs.declared.op.Op.TheVariants as op
use Rattle.worksheet.specs.Contents.{Contents}
use Rattle.worksheet.specs.Checks.{first_refusal}
use Rattle.recovery.specs.Sheets.{StoreView, IsSheetImage, IsReady}
use Rattle.session_engine.specs.World.{life_of}
use Rattle.session_engine.specs.inside.Parts.{with_item}
use Rattle.session_engine.specs.inside.Commits.{Committed}
use Rattle.session_engine.proofs.Standing.{committed}
use Rattle.session_engine.proofs.Asking.{fit, spared_clear}
use Rattle.session_engine.proofs.engine.Engine.evaluate.Goals as goal

pub returns-in-Ok-commit_ready-clause-ok : goal.returns-in-Ok-commit_ready-clause-ok
returns-in-Ok-commit_ready-clause-ok g c = λ w h left has.
    let o = op.Clear c.args.id in
    let v = with_item w c.args.name c.args.line (life_of w c.args.name) in
    let done = c.in-Ok.ensures.ok w h left has in
    let store = c.ask_session.new.self.store in
    let new = c.commit_ready.new.self in
    let ready = subst (λ (s : StoreView). IsReady s o c.args.frame) (sym c.ask_session.ensures.store) c.requires.ready in
    let contents = c.in-Ok-commit_ready.ensures.sheet v.ops done.1.contents in
    let here : Committed store v.ops o new = record {
      fits = fit store.disk.room store.end o ready.fits.1;
      contents = contents;
      still_open = c.in-Ok-commit_ready.ensures.open;
      end = c.in-Ok-commit_ready.ensures.ends;
      images = subst (λ (s : Contents). InModel store.disk (Leaves (IsSheetImage s) new.disk.history.now)) contents c.in-Ok-commit_ready.ensures.acknowledged;
    } in
    inl (
      done.0,
      committed store new c.ask_session.new.self.lives.items c.ask_session.new.self.begun v o done.1 here c.commit_ready.ensures.same
          (subst (λ (s : Contents). first_refusal s o ≡ None) done.1.contents ready.allowed) (spared_clear c.args.id v.lives),
    )

pub returns-in-Ok-commit_ready-clause-contents : goal.returns-in-Ok-commit_ready-clause-contents
returns-in-Ok-commit_ready-clause-contents g c = tt

pub returns-in-Ok-commit_ready-clause-numbers : goal.returns-in-Ok-commit_ready-clause-numbers
returns-in-Ok-commit_ready-clause-numbers g c = λ other. tt

pub returns-in-Ok-commit_ready-clause-fault : goal.returns-in-Ok-commit_ready-clause-fault
returns-in-Ok-commit_ready-clause-fault g c = tt

pub returns-in-Err-clause-contents : goal.returns-in-Err-clause-contents
returns-in-Err-clause-contents g c = tt

pub returns-in-Err-clause-numbers : goal.returns-in-Err-clause-numbers
returns-in-Err-clause-numbers g c = λ other. tt

pub returns-in-Err-clause-fault : goal.returns-in-Err-clause-fault
returns-in-Err-clause-fault g c = tt

pub returns-in-Err-commit_ready-clause-ok : goal.returns-in-Err-commit_ready-clause-ok
returns-in-Err-commit_ready-clause-ok g c = λ w h left has. tt

pub returns-in-Ok-commit_ready-clause-same : goal.returns-in-Ok-commit_ready-clause-same
returns-in-Ok-commit_ready-clause-same g c = subst (λ (s : StoreView). SameDisk s.disk c.commit_ready.new.self.disk) c.ask_session.ensures.store c.commit_ready.ensures.same

pub returns-in-Err-commit_ready-clause-same : goal.returns-in-Err-commit_ready-clause-same
returns-in-Err-commit_ready-clause-same g c = subst (λ (s : StoreView). SameDisk s.disk c.commit_ready.new.self.disk) c.ask_session.ensures.store c.commit_ready.ensures.same
