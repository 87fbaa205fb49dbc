use Rattle.std.proofs.Common.{◌≡◌, ⊎_elim, ap, sym, ◌∙◌, refl, subst, None, false}
use Rattle.std.proofs.lemmas.Result.{IfOk-weaker}
use Rattle.worksheet.specs.Contents.{Contents}
use Rattle.worksheet.specs.Checks.{first_refusal}
use Rattle.worksheet.specs.declared.refusal.Refusal.TheVariants as refusal
use Rattle.host_events.specs.declared.reply.Reply.TheVariants as reply
use Rattle.host_events.specs.declared.event.Event.TheVariants as event
use Rattle.session_engine.specs.declared.table.Running.{Running}
use Rattle.session_engine.specs.Does.{replies, changes, tells}
use Rattle.session_engine.specs.inside.Engines.{TookAt, view_of}
use Rattle.session_engine.specs.inside.Commits.{Changes}
use Rattle.session_engine.proofs.Changing.{allowed_by, spares, gives_refusal, gives_full, gives_no_memory, gives_done, change_fails}
use Rattle.session_engine.proofs.engine.Engine.alter.Goals as goal

pub change-requires-clause-allowed : goal.change-requires-clause-allowed
change-requires-clause-allowed g c =
    let w = c.requires.0 in
    let h = c.requires.1 in
    subst (λ (s : Contents). first_refusal s c.args.op ≡ None) (sym h.contents) (allowed_by w c.args.op (sym (c.in_default.ensures w h)))

pub returns-in-Err-clause-took : goal.returns-in-Err-clause-took
returns-in-Err-clause-took g c = λ w d h is. record {
  did = tells w (reply.Refused c.in-Err.refusal);
  may = gives_refusal w d c.args.op is c.in-Err.refusal (sym (c.in-Err.ensures w h));
  reported = c.refused.ensures;
  stands = record { works = refl; stands = h };
  disk = refl;
}

pub returns-clause-took : goal.returns-clause-took
returns-clause-took g c = λ w d h is.
    let o = c.args.op in
    let none = sym (c.in_default.ensures w h) in
    let reply_is = c.reply_to-reply.ensures w h in
    IfOk-weaker c.change.result (Changes w o c.reply_to-reply.result c.args.self.now c.change.new.self) (TookAt w (event.Command d) c.args.self.now c.change.new.self)
    (λ out. ⊎_elim
    (λ done. record {
      did = changes w o;
      may = gives_done w d o is none done.0;
      reported = done.1 ∙ ap replies reply_is;
      stands = record { works = refl; stands = done.2 };
      disk = c.change.ensures.moments w h;
    })
    (λ not_done. ⊎_elim
    (λ no. record {
      did = tells w (reply.Refused refusal.JournalFull);
      may = gives_full w d o is none no.0;
      reported = no.1;
      stands = record { works = refl; stands = no.2 };
      disk = no.3;
    })
    (λ want. record {
      did = tells w (reply.Refused refusal.OutOfMemory);
      may = gives_no_memory w d o is none want.0;
      reported = want.1;
      stands = record { works = refl; stands = want.2 };
      disk = want.3;
    }) not_done))
    (c.change.ensures.ok w h (spares w o none))

pub returns-clause-failed : goal.returns-clause-failed
returns-clause-failed g c = λ w d h is.
    change_fails w d c.args.op is (view_of c.args.self.now false) (view_of c.change.new.self false) c.change.result h (sym (c.in_default.ensures w h))
    (ap (λ (x : Rattle.std.specs.declared.vec.Vec.Vec Running _). x.items) c.change.ensures.lives) c.change.ensures.fault (c.change.ensures.fits w h) (c.change.ensures.moments w h)
