use Rattle.std.proofs.Common.{take}
use Rattle.std.specs.Io.KnownBytes.{Appends}
use Rattle.std.specs.List.{flat_map}
use Rattle.session_engine.specs.World.{World}
use Rattle.session_engine.specs.Host.{IsHost}
use Rattle.tellings.specs.Json.{came_json}
use Rattle.tellings.proofs.in_json.write_lives.Given as goal

abbrev pub invariant-loop-reply : goal.invariant-loop-reply
invariant-loop-reply g l = (w : World) → IsHost l.host w → Appends (g.W.Write.contents l.initial.writer) (g.W.Write.contents l.writer) (flat_map (came_json w) (take l.reply-index l.replies))
