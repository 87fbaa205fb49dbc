use Rattle.std.proofs.Common.{◌≡◌, false, sym, ap, subst}
use Rattle.disk_model.specs.Disk.{InModel, Leaves}
use Rattle.recovery.specs.Sheets.{IsSheetImage}
use Rattle.worksheet.specs.Contents.{SheetView}
use Rattle.session_engine.specs.Host.{HostView}
use Rattle.session_engine.specs.inside.Wholes.{WithdrawsTo}
use Rattle.session_engine.proofs.Withdrawing.{images_again, stands_again}
use Rattle.session_engine.proofs.buffered.BufferedHost.withdraw.Goals as goal

pub withdraw-requires-clause-open : goal.withdraw-requires-clause-open
withdraw-requires-clause-open g c = subst (λ (h : HostView). h.store.closed ≡ false) (sym c.self.view_is) c.requires.1.still_open

pub withdraw-requires-clause-made : goal.withdraw-requires-clause-made
withdraw-requires-clause-made g c = c.requires.1.made

pub withdraw-requires-clause-images : goal.withdraw-requires-clause-images
withdraw-requires-clause-images g c =
    subst (λ (h : HostView). InModel h.store.real (Leaves (IsSheetImage c.args.before.contents) h.store.real.history.now)) (sym c.self.view_is)
    (images_again c.args.self.now c.args.before.contents c.requires.0 c.requires.1)

pub invariant_of-self : goal.invariant_of-self
invariant_of-self g c = λ works.
    let w = c.requires.0 in
    let back = subst (λ (h : HostView). WithdrawsTo h c.args.before.contents w) (sym c.self.view_is) c.requires.1 in
    (w, stands_again _ c.withdraw.new.self c.args.before.contents w back c.withdraw.ensures.closed (ap (λ (s : SheetView). s.contents) c.withdraw.ensures.sheet) c.withdraw.ensures.disk c.withdraw.ensures.end)

pub returns-clause-stands : goal.returns-clause-stands
returns-clause-stands g c = λ w to.
    let back = subst (λ (h : HostView). WithdrawsTo h c.args.before.contents w) (sym c.self.view_is) to in
    record {
      works = back.works;
      stands = stands_again _ c.withdraw.new.self c.args.before.contents w back c.withdraw.ensures.closed (ap (λ (s : SheetView). s.contents) c.withdraw.ensures.sheet) c.withdraw.ensures.disk c.withdraw.ensures.end;
    }
