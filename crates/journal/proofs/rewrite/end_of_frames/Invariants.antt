use Rattle.std.proofs.Common.{◌≡◌, ◌≤◌, ◌+◌, take}
use Rattle.journal.specs.Area.{end_of}
use Rattle.journal.proofs.rewrite.end_of_frames.Given as goal

abbrev pub invariant-loop-frame : goal.invariant-loop-frame
invariant-loop-frame l = record {
  end : l.end ≡ end_of (take l.frame-index l.frames);
  room : l.end + 1 ≤ l.fn.room;
}
