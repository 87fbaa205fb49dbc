use Rattle.std.proofs.Common.{◌≡◌, inr, ⊎_elim, ℕ, List, ap, sym, ◌∙◌, refl, subst, false, Option, Some, None}
use Rattle.std.specs.Prelude.{option_map}
use Rattle.std.proofs.lemmas.Result.{IfOk-weaker, IfOk-at_ok}
use Rattle.disk_model.specs.Disk.{DiskView}
use Rattle.worksheet.specs.declared.op.Op.TheVariants as op
use Rattle.worksheet.specs.declared.field.Field.{Field}
use Rattle.worksheet.specs.declared.refusal.Refusal.TheVariants as refusal
use Rattle.worksheet.specs.Contents.{SheetView, Contents}
use Rattle.worksheet.specs.Checks.{field_in}
use Rattle.worksheet.proofs.Finds.{field_in-id}
use Rattle.plugin_core.specs.declared.item.Item.{Item}
use Rattle.plugin_core.specs.declared.item.Item.TheVariants as item
use Rattle.session_engine.specs.declared.table.Running.{Running}
use Rattle.host_events.specs.declared.command.Command.TheVariants as command
use Rattle.host_events.specs.declared.event.Event.TheVariants as event
use Rattle.host_events.specs.declared.reply.Reply.TheVariants as reply
use Rattle.session_engine.specs.World.{World, sheet_in, in_flight, life_of}
use Rattle.session_engine.specs.inside.Words.{lives_are_spent}
use Rattle.session_engine.specs.Does.{does, tells}
use Rattle.session_engine.specs.Host.{EngineStandsFor, HasField, OnDisk}
use Rattle.session_engine.specs.inside.Engines.{StandsAt, TookAt, view_of}
use Rattle.session_engine.specs.inside.Commits.{Evaluated}
use Rattle.session_engine.proofs.Standing.{unchanged}
use Rattle.session_engine.proofs.Waiting.{in_flight_by}
use Rattle.session_engine.proofs.Asking.{gives_no_field, gives_in_flight, session_is, not_spent, eval_refused, eval_done, eval_reported, eval_leads, eval_on_disk, eval_fails}
use Rattle.session_engine.proofs.engine.Engine.eval.Goals as goal

pub returns-in-Ok-line-clause-took : goal.returns-in-Ok-line-clause-took
returns-in-Ok-line-clause-took g c = λ w h.
    let id = c.args.id in
    let f = c.in-Some.field.now in
    let here : field_in (sheet_in w).fields id ≡ Some f =
    sym (c.in-Some.ensures ∙ ap (λ (l : SheetView). field_in l.contents.fields id) c.sheet.ensures.sheet ∙ ap (λ (x : Contents). field_in x.fields id) h.contents) in
    let free : in_flight w id ≡ false = in_flight_by c.args.self.now.store c.args.self.now.lives.items c.args.self.now.begun w id h f here ∙ sym (c.waits_of.ensures w.lives h.lives_are) ∙ c.if-waits_of.false in
    let s = session_is w id f here in
    let none = c.in-Ok.ensures.ok w h s in
    let same_id : f.id ≡ id = field_in-id (sheet_in w).fields id f here in
    let line : c.in-Ok-line.line ≡ item.Line id f.input = IfOk-at_ok (λ (l : Item). l ≡ item.Line f.id f.input) c.in-Ok-line.is c.line_of.ensures ∙ ap (λ (k : ℕ). item.Line k f.input) same_id in
    let left = subst (λ (n : List ℕ). lives_are_spent w.begun (life_of w n) ≡ false) s (not_spent w id none) in
    let has : HasField (sheet_in w) f.session c.in-Ok-line.line = subst (λ (l : Item). HasField (sheet_in w) f.session l) (sym line) (ap (λ (o : Option Field). option_map (λ g. g.session) o) here) in
    let still = unchanged c.args.self.now.store c.prepare_clear.new.self.store c.args.self.now.lives.items c.args.self.now.begun w h c.prepare_clear.ensures.store in
    let stand = subst (λ (l : List Running). EngineStandsFor c.prepare_clear.new.self.store l c.prepare_clear.new.self.begun w) (sym (ap (λ (x : Rattle.std.specs.declared.vec.Vec.Vec Running _). x.items) c.prepare_clear.ensures.lives))
    (subst (λ (k : ℕ). EngineStandsFor c.prepare_clear.new.self.store c.args.self.now.lives.items k w) (sym c.prepare_clear.ensures.begun) still) in
    let cleared : OnDisk w.ops false (Some (op.Clear id)) c.args.self.now.store.disk c.evaluate.new.self.store.disk =
    subst (λ (d : DiskView). OnDisk w.ops false (Some (op.Clear id)) d c.evaluate.new.self.store.disk) c.prepare_clear.ensures.store.disk (c.evaluate.ensures.moments w stand) in
    IfOk-weaker c.evaluate.result (Evaluated w (record { session = f.session; id = id; line = c.in-Ok-line.line }) c.prepare_clear.new.self c.evaluate.new.self) (TookAt w (event.Command (command.Eval id)) c.args.self.now c.evaluate.new.self)
    (λ out. ⊎_elim
    (λ done. record {
      did = does w (command.Eval id);
      may = eval_done w id f here free none;
      reported = done.0 ∙ eval_reported w id f here free c.in-Ok-line.line line;
      stands = record { works = refl; stands = subst (λ (v : World). StandsAt c.evaluate.new.self v) (eval_leads w id f here free c.in-Ok-line.line line) done.1 };
      disk = eval_on_disk w id f here free c.args.self.now.store.disk c.evaluate.new.self.store.disk cleared;
    })
    (λ want. record {
      did = tells w (reply.Refused refusal.OutOfMemory);
      may = eval_refused w id f here free refusal.OutOfMemory (inr (none, refl));
      reported = want.0;
      stands = record { works = refl; stands = want.1 };
      disk = want.2 ∙ c.prepare_clear.ensures.store.disk;
    }))
    (c.evaluate.ensures.ok w stand left has)

pub returns-in-Ok-line-clause-failed : goal.returns-in-Ok-line-clause-failed
returns-in-Ok-line-clause-failed g c = λ w h.
    let id = c.args.id in
    let f = c.in-Some.field.now in
    let here : field_in (sheet_in w).fields id ≡ Some f =
    sym (c.in-Some.ensures ∙ ap (λ (l : SheetView). field_in l.contents.fields id) c.sheet.ensures.sheet ∙ ap (λ (x : Contents). field_in x.fields id) h.contents) in
    let free : in_flight w id ≡ false = in_flight_by c.args.self.now.store c.args.self.now.lives.items c.args.self.now.begun w id h f here ∙ sym (c.waits_of.ensures w.lives h.lives_are) ∙ c.if-waits_of.false in
    let none = c.in-Ok.ensures.ok w h (session_is w id f here) in
    let still = unchanged c.args.self.now.store c.prepare_clear.new.self.store c.args.self.now.lives.items c.args.self.now.begun w h c.prepare_clear.ensures.store in
    let lives = ap (λ (x : Rattle.std.specs.declared.vec.Vec.Vec Running _). x.items) c.prepare_clear.ensures.lives in
    let stand = subst (λ (l : List Running). EngineStandsFor c.prepare_clear.new.self.store l c.prepare_clear.new.self.begun w) (sym lives)
    (subst (λ (k : ℕ). EngineStandsFor c.prepare_clear.new.self.store c.args.self.now.lives.items k w) (sym c.prepare_clear.ensures.begun) still) in
    let cleared : OnDisk w.ops false (Some (op.Clear id)) c.args.self.now.store.disk c.evaluate.new.self.store.disk =
    subst (λ (d : DiskView). OnDisk w.ops false (Some (op.Clear id)) d c.evaluate.new.self.store.disk) c.prepare_clear.ensures.store.disk (c.evaluate.ensures.moments w stand) in
    eval_fails w id f here free (view_of c.args.self.now false) (view_of c.prepare_clear.new.self false) (view_of c.evaluate.new.self false) c.evaluate.result h none
    c.prepare_clear.ensures.store lives c.evaluate.ensures.contents c.evaluate.ensures.numbers c.evaluate.ensures.fault cleared

pub returns-in-Err-clause-took : goal.returns-in-Err-clause-took
returns-in-Err-clause-took g c = λ w h.
    let id = c.args.id in
    let f = c.in-Some.field.now in
    let here : field_in (sheet_in w).fields id ≡ Some f =
    sym (c.in-Some.ensures ∙ ap (λ (l : SheetView). field_in l.contents.fields id) c.sheet.ensures.sheet ∙ ap (λ (x : Contents). field_in x.fields id) h.contents) in
    let free : in_flight w id ≡ false = in_flight_by c.args.self.now.store c.args.self.now.lives.items c.args.self.now.begun w id h f here ∙ sym (c.waits_of.ensures w.lives h.lives_are) ∙ c.if-waits_of.false in
    let why = c.in-Err.ensures.err w h (session_is w id f here) in
    let still = unchanged c.args.self.now.store c.prepare_clear.new.self.store c.args.self.now.lives.items c.args.self.now.begun w h c.prepare_clear.ensures.store in
    let stand = subst (λ (l : List Running). EngineStandsFor c.prepare_clear.new.self.store l c.prepare_clear.new.self.begun w) (sym (ap (λ (x : Rattle.std.specs.declared.vec.Vec.Vec Running _). x.items) c.prepare_clear.ensures.lives))
    (subst (λ (k : ℕ). EngineStandsFor c.prepare_clear.new.self.store c.args.self.now.lives.items k w) (sym c.prepare_clear.ensures.begun) still) in
    record {
      did = tells w (reply.Refused c.in-Err.refusal);
      may = eval_refused w id f here free c.in-Err.refusal why;
      reported = c.refused-in-Err.ensures;
      stands = record { works = refl; stands = stand };
      disk = c.prepare_clear.ensures.store.disk;
    }

pub returns-in-None-clause-took : goal.returns-in-None-clause-took
returns-in-None-clause-took g c = λ w h.
    let id = c.args.id in
    let here : field_in (sheet_in w).fields id ≡ None =
    sym (c.in-None.ensures ∙ ap (λ (l : SheetView). field_in l.contents.fields id) c.sheet.ensures.sheet ∙ ap (λ (x : Contents). field_in x.fields id) h.contents) in
    record {
      did = tells w (reply.Refused refusal.NoField);
      may = gives_no_field w id here;
      reported = c.refused.ensures;
      stands = record { works = refl; stands = h };
      disk = refl;
    }

pub returns-then-waits_of-clause-took : goal.returns-then-waits_of-clause-took
returns-then-waits_of-clause-took g c = λ w h.
    let id = c.args.id in
    let f = c.in-Some.field.now in
    let here : field_in (sheet_in w).fields id ≡ Some f =
    sym (c.in-Some.ensures ∙ ap (λ (l : SheetView). field_in l.contents.fields id) c.sheet.ensures.sheet ∙ ap (λ (x : Contents). field_in x.fields id) h.contents) in
    record {
      did = tells w (reply.Refused refusal.InFlight);
      may = gives_in_flight w id f here (in_flight_by c.args.self.now.store c.args.self.now.lives.items c.args.self.now.begun w id h f here ∙ sym (c.waits_of.ensures w.lives h.lives_are) ∙ c.if-waits_of.true);
      reported = c.refused-then-waits_of.ensures;
      stands = record { works = refl; stands = h };
      disk = refl;
    }

pub returns-in-Err-line-clause-took : goal.returns-in-Err-line-clause-took
returns-in-Err-line-clause-took g c = λ w h.
    let id = c.args.id in
    let f = c.in-Some.field.now in
    let here : field_in (sheet_in w).fields id ≡ Some f =
    sym (c.in-Some.ensures ∙ ap (λ (l : SheetView). field_in l.contents.fields id) c.sheet.ensures.sheet ∙ ap (λ (x : Contents). field_in x.fields id) h.contents) in
    let free : in_flight w id ≡ false = in_flight_by c.args.self.now.store c.args.self.now.lives.items c.args.self.now.begun w id h f here ∙ sym (c.waits_of.ensures w.lives h.lives_are) ∙ c.if-waits_of.false in
    let none = c.in-Ok.ensures.ok w h (session_is w id f here) in
    let still = unchanged c.args.self.now.store c.prepare_clear.new.self.store c.args.self.now.lives.items c.args.self.now.begun w h c.prepare_clear.ensures.store in
    let stand = subst (λ (l : List Running). EngineStandsFor c.prepare_clear.new.self.store l c.prepare_clear.new.self.begun w) (sym (ap (λ (x : Rattle.std.specs.declared.vec.Vec.Vec Running _). x.items) c.prepare_clear.ensures.lives))
    (subst (λ (k : ℕ). EngineStandsFor c.prepare_clear.new.self.store c.args.self.now.lives.items k w) (sym c.prepare_clear.ensures.begun) still) in
    record {
      did = tells w (reply.Refused refusal.OutOfMemory);
      may = eval_refused w id f here free refusal.OutOfMemory (inr (none, refl));
      reported = c.refused-in-Err-line.ensures;
      stands = record { works = refl; stands = stand };
      disk = c.prepare_clear.ensures.store.disk;
    }
