-- The run.
use Rattle.std.proofs.Common.{◌<◌, [], ◌∷◌, ◌++◌, take, refl, inl, None, true, false, arith}
use Rattle.std.specs.Prelude.{codes}
use Rattle.std.specs.Str.{is_utf8, chars}
use lib.Utf8.{encode}
use Rattle.block_tree.specs.Tree.{end, text, block}
use Rattle.disk_model.specs.Disk.{greatest_room}
use Rattle.meta_format.specs.Limits.{limits, IsRoomy}
use Rattle.meta_format.specs.Stream.{Outer}
use Rattle.meta_format.proofs.Sound.{alive_read}
use Rattle.plugin_core.specs.declared.item.Item.TheVariants as item
use Rattle.plugin_core.specs.Past.{accepted, received}
use Rattle.plugin_core.specs.Steps.{Reads, step_of}
use Rattle.recovery.specs.Sheets.{codes_of}
use Rattle.host_events.specs.declared.command.Command.TheVariants as command
use Rattle.session_engine.specs.World.{World, Going, world_at_opening}
use Rattle.session_engine.specs.Does.{Does, does, following, steps, Runs}
use Rattle.worked_run.specs.Run.{name_a, line_x, banner_bytes, answer_bytes, six_events, verbatim_of, reported_outcomes, lost_outcome, opened_ops, WorkedRun}
use Rattle.worked_run.proofs.Images.{makes_found, stands_found, opens_found, before_calls, after_write, after_sync, after_gate, after_all, closed_left, open_left}

-- The worlds.

abbrev at_first : World
at_first = world_at_opening opened_ops greatest_room 24

abbrev made : World
made = following at_first (does at_first (command.New 0 name_a line_x))

abbrev asked : World
asked = following made (does made (command.Eval 1))

-- the life before the banner, and after it
abbrev begun : Going
begun = record { name = name_a; number = 1; past = accepted (item.Line 1 line_x) ∷ []; blocks = [] }

abbrev banner_block : Outer
banner_block = record { start = 0; stop = 22; block = record { channel = false; name = codes "verbatim"; items = block true (codes "prompt") (text (codes "> ") end) end } }

abbrev greeted : Going
greeted = record { name = name_a; number = 1; past = accepted (item.Line 1 line_x) ∷ received banner_bytes ∷ []; blocks = banner_block ∷ [] }

abbrev answer_block : Outer
answer_block = record { start = 22; stop = 34; block = verbatim_of (codes "A") }

-- The stream, read.

roomy : IsRoomy limits
roomy = let levels : 0 < 32 = omega arith in let block : 1 < 16777216 = omega arith in record { levels = levels; block = block }

reads_banner : Reads banner_bytes (banner_block ∷ []) None
reads_banner = let r = alive_read limits roomy banner_bytes tt in ((r.tail, r.stream), r.sound)

reads_answer : Reads (banner_bytes ++ answer_bytes) (banner_block ∷ answer_block ∷ []) None
reads_answer = let r = alive_read limits roomy (banner_bytes ++ answer_bytes) tt in ((r.tail, r.stream), r.sound)

abbrev third : Does
third = steps asked begun banner_bytes (banner_block ∷ []) (step_of begun.past [] banner_bytes (banner_block ∷ []) None)

abbrev shown : World
shown = following asked third

abbrev fourth : Does
fourth = steps shown greeted answer_bytes (banner_block ∷ answer_block ∷ []) (step_of greeted.past (banner_block ∷ []) answer_bytes (banner_block ∷ answer_block ∷ []) None)

abbrev answered : World
answered = following shown fourth

run_three : Runs at_first (take 3 six_events) reported_outcomes shown
unfolding is_utf8 chars encode
run_three = (
  made,
  (does at_first (command.New 0 name_a line_x), inl refl, refl, refl),
  (
    asked,
    (does made (command.Eval 1), inl refl, refl, refl),
    (shown, (third, (banner_block ∷ [], None, reads_banner, refl), refl, refl), refl),
  ),
)

run_four : Runs at_first (take 4 six_events) (reported_outcomes ++ lost_outcome ∷ []) answered
unfolding is_utf8 chars encode
run_four = (
  made,
  (does at_first (command.New 0 name_a line_x), inl refl, refl, refl),
  (
    asked,
    (does made (command.Eval 1), inl refl, refl, refl),
    (
      shown,
      (third, (banner_block ∷ [], None, reads_banner, refl), refl, refl),
      (answered, (fourth, (banner_block ∷ answer_block ∷ [], None, reads_answer, refl), refl, refl), refl),
    ),
  ),
)

pub worked : WorkedRun
worked = record {
  found_is = refl;
  before_is = refl;
  after_is = refl;
  allowed = makes_found.allowed;
  opens = opens_found;
  ends = (codes_of opened_ops, stands_found, refl);
  three = (shown, run_three, refl);
  four = (answered, run_four, refl);
  before_calls = before_calls;
  after_write = after_write;
  after_sync = after_sync;
  after_gate = after_gate;
  after_all = after_all;
  closed_left = closed_left;
  open_left = open_left;
  shows_none = refl;
  shows_answer = refl;
}
