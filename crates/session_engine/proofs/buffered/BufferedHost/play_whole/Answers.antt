use Rattle.std.proofs.Common.{◌≡◌, [], false, sym, subst, ap, ◌∙◌}
use Rattle.worksheet.specs.Contents.{Contents, SheetView}
use Rattle.recovery.specs.Sheets.{Makes}
use Rattle.session_engine.specs.Host.{HostView}
use Rattle.session_engine.proofs.buffered.BufferedHost.play_whole.Goals as goal

pub flush_or_withdraw-requires-clause-may : goal.flush_or_withdraw-requires-clause-may
flush_or_withdraw-requires-clause-may g c =
    let opened : c.args.self.now.closed ≡ false = subst (λ (h : HostView). h.closed ≡ false) c.self.view_is c.if-self.false in
    let works = c.sheet-sheet.ensures.works opened in
    let written = c.sheet-sheet.ensures.written c.requires in
    let same : c.in-Ok.before.contents ≡ c.self.inside.engine.store.sheet.contents = c.in-Ok.ensures ∙ ap (λ (s : SheetView). s.contents) c.sheet.ensures.sheet in
    let made = c.sheet.ensures.made in
    record {
      world = works.0;
      stands = works.1;
      owed = written.0;
      real = written.1;
      start = subst (λ (h : HostView). h.store.owed ≡ [] → h.store.start ≡ h.store.end) c.self.view_is c.sheet.ensures.store.started written.0;
      made = (made.0, subst (λ (s : Contents). Makes made.0 s) (sym same) made.1);
      same = same ∙ ap (λ (h : HostView). h.store.sheet.contents) c.self.view_is;
    }
