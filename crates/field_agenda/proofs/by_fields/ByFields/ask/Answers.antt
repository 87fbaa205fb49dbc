use Rattle.std.proofs.Common.{ap, refl, subst, sym}
use Rattle.session_engine.specs.Host.{HostView, IsHost}
use Rattle.field_agenda.specs.declared.stage.FieldDoing.TheVariants as doing
use Rattle.field_agenda.specs.Says.{asked, unasked}
use Rattle.field_agenda.specs.Standing.{does_at}
use Rattle.field_agenda.proofs.by_fields.ByFields.ask.Goals as goal

pub returns-in-Ok : goal.returns-in-Ok
returns-in-Ok g c = λ w id h there.
    let made = c.in-Ok.ensures.asks w id (subst (λ (v : HostView). IsHost v w) (sym c.looks.ensures) h) there in
    asked _ (c.in-Ok.field-0.events, refl, made.0) refl (ap (λ s. does_at c.args.self.now doing.Ask s) made.1)

pub returns-in-Err : goal.returns-in-Err
returns-in-Err g c = λ w id h there. unasked refl refl
