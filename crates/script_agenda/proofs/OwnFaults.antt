-- A fault that an agenda of a script has is true of any disk: it is none of the disk's.
use Rattle.std.proofs.Common.{◌≡◌, ℕ, sym, subst, Ok, Err}
use Rattle.std.specs.Prelude.{Option, None, Result, Some}
use Rattle.disk_model.specs.Disk.{DiskView}
use Rattle.session_engine.specs.World.{World}
use Rattle.sheet_text.specs.Script.{line_of}
use Rattle.sheet_text.specs.declared.script.ScriptLine.{ScriptLine}
use Rattle.offline_programs.specs.declared.fault.RunFault.{RunFault}
use Rattle.offline_programs.specs.declared.fault.RunFault.TheVariants as fault
use Rattle.driver.specs.declared.action.Action.{Action}
use Rattle.driver.specs.TrueFaults.{IsTrueFault}
use Rattle.script_agenda.specs.Says.{SaysOfLines, SaysIn, ScriptSays, TakesOneLine, WaitSays, as_group, at_end, by_itself, next_life, next_round, skips, stopped, uncounted, unlisted, wait_over}
use Rattle.script_agenda.specs.ScriptAt.{ScriptAt, after_one_line}

module _ (d : DiskView) where
  -- where there is a fault, it is true
  abbrev IsTrueAnswer : Result Action RunFault → Type 0
  IsTrueAnswer (Ok t) = Unit {0}
  IsTrueAnswer (Err why) = IsTrueFault why d d

  at_action : (r : Result Action RunFault) (t : Action) → r ≡ Ok t → IsTrueAnswer r
  at_action r t is = subst (λ (x : Result Action RunFault). IsTrueAnswer x) (sym is) tt

  of_line : (l : Option ScriptLine) (a : ScriptAt) (r : Result Action RunFault) (b : ScriptAt) → TakesOneLine l a r b → IsTrueAnswer r
  of_line l a (Ok t) b takes = tt
  of_line l a (Err why) b takes = subst (λ (x : RunFault). IsTrueFault x d d) (sym takes.0) tt

  of_wait : (a : ScriptAt) (w : World) (rounds : ℕ) (r : Result Action RunFault) (b : ScriptAt) → WaitSays a w rounds r b → IsTrueAnswer r
  of_wait a w rounds r b (next_life seat rest round is same) = at_action r _ is
  of_wait a w rounds r b (next_round seat rest round few waiting is same) = at_action r _ is
  of_wait a w rounds r b (wait_over round over is same) = at_action r _ is
  of_wait a w rounds r b (unlisted is same) = subst (λ (x : Result Action RunFault). IsTrueAnswer x) (sym is) tt

  of_lines : (a : ScriptAt) (r : Result Action RunFault) (b : ScriptAt) → SaysOfLines a r b → IsTrueAnswer r
  of_lines a r b (at_end none is same) = at_action r _ is
  of_lines a r b (stopped wrong is same) = at_action r _ is
  of_lines a r b (uncounted many is same) = subst (λ (x : Result Action RunFault). IsTrueAnswer x) (sym is) tt
  of_lines a r b (as_group going takes) = at_action r _ takes.asks
  of_lines a r b (skips rest number going gathers more count is same) = at_action r _ is
  of_lines a r b (by_itself line rest going next takes) = of_line (line_of line) (after_one_line a rest) r b takes

  of_saying : (wait : Option ℕ) (a : ScriptAt) (w : World) (r : Result Action RunFault) (b : ScriptAt) → SaysIn wait a w r b → IsTrueAnswer r
  of_saying None a w r b said = of_lines a r b said
  of_saying (Some rounds) a w r b said = of_wait a w rounds r b said

pub own_faults : (a : ScriptAt) (w : World) (now : ℕ) (why : RunFault) (b : ScriptAt) → ScriptSays a w now (Err why) b → (d : DiskView) → IsTrueFault why d d
own_faults a w now why b said d = of_saying d a.wait a w (Err why) b said
