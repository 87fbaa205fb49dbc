use Rattle.std.proofs.Common.{◌≡◌, drop}
use Rattle.session_engine.specs.Named.{place_from}
use Rattle.session_engine.specs.Host.{name_of}
use Rattle.session_engine.proofs.table.place_of.Given as goal

abbrev pub invariant-loop-i : goal.invariant-loop-i
invariant-loop-i l = place_from name_of l.name l.i (drop l.i l.lives.items) ≡ place_from name_of l.name 0 l.lives.items
