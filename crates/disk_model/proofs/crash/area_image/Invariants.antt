use Rattle.std.proofs.Common.{◌≡◌, take}
use Rattle.disk_model.specs.Disk.{History, state_of}
use Rattle.disk_model.specs.Calls.{settled, history_after}
use Rattle.disk_model.specs.inside.Drawing.{Draws, IsEven}
use Rattle.disk_model.proofs.crash.area_image.Given as goal

abbrev pub invariant-loop-call : goal.invariant-loop-call
invariant-loop-call l = record {
  level : IsEven l.drawing;
  fill : l.drawing.fill ≡ l.choice.fill;
  draws : (h : History) → state_of l.area h.now ≡ settled l.start → Draws l.drawing (state_of l.area (history_after h (take l.call-index l.calls)).now);
}
