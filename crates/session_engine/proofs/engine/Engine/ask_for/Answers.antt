use Rattle.std.proofs.Common.{inr, ℕ, List, ap, ◌∙◌, refl, sym, subst}
use Rattle.worksheet.specs.declared.refusal.Refusal.TheVariants as refusal
use Rattle.recovery.specs.Sheets.{StoreView}
use Rattle.host_events.specs.declared.reply.Reply.TheVariants as reply
use Rattle.session_engine.specs.declared.table.Running.{Running}
use Rattle.session_engine.specs.World.{World}
use Rattle.session_engine.specs.Does.{does, tells}
use Rattle.session_engine.specs.Host.{EngineStandsFor}
use Rattle.session_engine.specs.inside.Engines.{StandsAt}
use Rattle.session_engine.proofs.Completing.{request_refused, request_done, request_reported, request_leads, request_on_disk}
use Rattle.session_engine.proofs.engine.Engine.ask_for.Goals as goal

pub returns-in-Ok-clause-took : goal.returns-in-Ok-clause-took
returns-in-Ok-clause-took g c = λ w command h gives.
    let name = c.args.name in
    let i = c.args.request in
    let both = c.in-Ok.ensures.ok w h gives.left gives.has in
    record {
      did = does w command;
      may = request_done w command name i gives;
      reported = both.0 ∙ request_reported w command name i gives;
      stands = record { works = refl; stands = subst (λ (v : World). StandsAt c.ask_session.new.self v) (request_leads w command name i gives) both.1 };
      disk = request_on_disk w command name i gives c.args.self.now.store.disk c.ask_session.new.self.store.disk (ap (λ (s : StoreView). s.disk) c.ask_session.ensures.store);
    }

pub returns-in-Err-clause-took : goal.returns-in-Err-clause-took
returns-in-Err-clause-took g c = λ w command h gives.
    let same = c.in-Err.ensures.err in
    record {
      did = tells w (reply.Refused refusal.OutOfMemory);
      may = request_refused w command refusal.OutOfMemory (inr (gives.none, gives.takes, refl));
      reported = c.refused.ensures;
      stands = record {
        works = refl;
        stands = subst (λ (s : StoreView). EngineStandsFor s c.ask_session.new.self.lives.items c.ask_session.new.self.begun w) (sym c.ask_session.ensures.store)
            (subst (λ (l : List Running). EngineStandsFor c.args.self.now.store l c.ask_session.new.self.begun w) (sym same.0)
            (subst (λ (k : ℕ). EngineStandsFor c.args.self.now.store c.args.self.now.lives.items k w) (sym same.1) h));
      };
      disk = ap (λ (s : StoreView). s.disk) c.ask_session.ensures.store;
    }
