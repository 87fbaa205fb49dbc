use Rattle.std.proofs.Common.{◌≤◌, List, [], refl, sym, subst, arith}
use Rattle.disk_model.specs.Disk.{Leaves}
use Rattle.worksheet.specs.Contents.{Contents}
use Rattle.recovery.specs.Sheets.{IsSheetImage}
use Rattle.session_engine.specs.declared.table.Running.{Running}
use Rattle.session_engine.specs.Host.{Lives}
use Rattle.session_engine.specs.Limits.{most_lives}
use Rattle.session_engine.specs.World.{world_at_opening}
use Rattle.session_engine.proofs.buffered.BufferedHost.open.Goals as goal

pub invariant_of-result : goal.invariant_of-result
invariant_of-result g c = λ closed.
    let store = c.in-Ok.store in
    let made = c.sheet-sheet.ensures.made in
    let bound : 0 ≤ most_lives = omega arith in (
      world_at_opening made.0 store.disk.room store.end,
      record {
        still_open = c.in-Ok.ensures.open;
        contents = made.1.is;
        allowed = made.1.allowed;
        images = λ model. subst (λ (s : Contents). Leaves (IsSheetImage s) store.disk.history.now) made.1.is (c.sheet-sheet.ensures.images model c.in-Ok.ensures.open);
        room = refl;
        end = refl;
        begun_is = refl;
        bound = bound;
        lives_are = subst (λ (l : List Running). Lives l []) (sym c.new.ensures.items) tt;
        fields = tt;
        apart = tt;
      },
    )
