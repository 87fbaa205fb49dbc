-- A fault that an agenda of lines has is true of any disk: it is none of the disk's.
use Rattle.std.proofs.Common.{◌≡◌, inl, inr, ℕ, sym, subst, Ok, Err}
use Rattle.std.specs.Prelude.{Option, Result}
use Rattle.disk_model.specs.Disk.{DiskView}
use Rattle.session_engine.specs.World.{World}
use Rattle.live.specs.declared.live_line.LiveLine.{LiveLine}
use Rattle.live.specs.Arrivals.{said_by}
use Rattle.offline_programs.specs.declared.fault.RunFault.{RunFault}
use Rattle.offline_programs.specs.declared.fault.RunFault.TheVariants as fault
use Rattle.driver.specs.declared.action.Action.{Action}
use Rattle.driver.specs.TrueFaults.{IsTrueFault}
use Rattle.line_agenda.specs.declared.matter.Matter.{Matter}
use Rattle.line_agenda.specs.declared.matter.Matter.TheVariants as matter
use Rattle.line_agenda.specs.LinesAt.{LinesAt, given_to, heeded}
use Rattle.line_agenda.specs.Says.{LinesSay, SaysLimit, SaysMatter, first_of, of_none, says, stopped, uncounted, unlisted, warns}
use Rattle.line_agenda.specs.Taking.{ReadsOn, TakesGivenLine, TakesInput, alone, ended, reads_on, together}

module _ (d : DiskView) where
  -- where there is a fault, it is true
  abbrev IsTrueAnswer : Result Action RunFault → Type 0
  IsTrueAnswer (Ok t) = Unit {0}
  IsTrueAnswer (Err why) = IsTrueFault why d d

  at_action : (r : Result Action RunFault) (t : Action) → r ≡ Ok t → IsTrueAnswer r
  at_action r t is = subst (λ (x : Result Action RunFault). IsTrueAnswer x) (sym is) tt

  at_memory : (r : Result Action RunFault) → r ≡ Err fault.OutOfMemory → IsTrueAnswer r
  at_memory r is = subst (λ (x : Result Action RunFault). IsTrueAnswer x) (sym is) tt

  at_count : (r : Result Action RunFault) → r ≡ Err fault.InputTooLong → IsTrueAnswer r
  at_count r is = subst (λ (x : Result Action RunFault). IsTrueAnswer x) (sym is) tt

  at_input : (r : Result Action RunFault) → r ≡ Err fault.Input → IsTrueAnswer r
  at_input r is = subst (λ (x : Result Action RunFault). IsTrueAnswer x) (sym is) tt

  of_line : (a : LinesAt) (w : World) (now : ℕ) (l : Option LiveLine) (r : Result Action RunFault) (b : LinesAt) → TakesGivenLine a w now l r b → IsTrueAnswer r
  of_line a w now l (Ok t) b takes = tt
  of_line a w now l (Err why) b takes = subst (λ (x : RunFault). IsTrueFault x d d) (sym takes.0) tt

  of_reading : (a : LinesAt) (r : Result Action RunFault) (b : LinesAt) → ReadsOn a r b → IsTrueAnswer r
  of_reading a r b (k, remaining, same, keeps, inl is) = at_action r _ is
  of_reading a r b (k, remaining, same, keeps, inr is) = at_input r is

  of_input : (a : LinesAt) (w : World) (now : ℕ) (r : Result Action RunFault) (b : LinesAt) → TakesInput a w now r b → IsTrueAnswer r
  of_input a w now r b (together given k t lax none grouped one few ready next is asks same) = at_action r t is
  of_input a w now r b (alone l k ready next takes) = of_line (given_to a k) w now (said_by l) r b takes
  of_input a w now r b (reads_on k ready left reads) = of_reading (given_to a k) r b reads
  of_input a w now r b (ended k t ready none is ends) = at_action r t is

  of_limit : (a : LinesAt) (w : World) (now : ℕ) (r : Result Action RunFault) (b : LinesAt) → SaysLimit a w now r b → IsTrueAnswer r
  of_limit a w now r b (first_of seat rest waiting is same) = at_action r _ is
  of_limit a w now r b (of_none waiting is same) = at_action r _ is
  of_limit a w now r b (unlisted is same) = at_memory r is

  of_matter : (a : LinesAt) (w : World) (now : ℕ) (m : Matter) (r : Result Action RunFault) (b : LinesAt) → SaysMatter a w now m r b → IsTrueAnswer r
  of_matter a w now matter.Untimely r b said = at_action r _ said.0
  of_matter a w now matter.Watch r b (there, ready, is, same) = at_action r _ is
  of_matter a w now matter.Input r b said = of_input a w now r b said
  of_matter a w now (matter.Life seat) r b said = at_action r _ said.0
  of_matter a w now matter.Limit r b said = of_limit a w now r b said
  of_matter a w now matter.Stall r b said = at_action r _ said.0

  of_saying : (a : LinesAt) (w : World) (now : ℕ) (r : Result Action RunFault) (b : LinesAt) → LinesSay a w now r b → IsTrueAnswer r
  of_saying a w now r b (stopped held is same) = at_action r _ is
  of_saying a w now r b (uncounted many is same) = at_count r is
  of_saying a w now r b (warns seat rest late is same) = at_action r _ is
  of_saying a w now r b (says m going none about said) = of_matter (heeded a) w now m r b said

pub own_faults : (a : LinesAt) (w : World) (now : ℕ) (why : RunFault) (b : LinesAt) → LinesSay a w now (Err why) b → (d : DiskView) → IsTrueFault why d d
own_faults a w now why b said d = of_saying d a w now (Err why) b said
