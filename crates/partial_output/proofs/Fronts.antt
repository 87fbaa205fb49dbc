-- A text to which nothing was added, and a text of which nothing was written.
use Rattle.std.proofs.KnownBytes.{Appends-nil}
use Rattle.whole_writes.proofs.Writing.{began_nothing}

pub ruleset fronts = (Appends-nil, began_nothing)
