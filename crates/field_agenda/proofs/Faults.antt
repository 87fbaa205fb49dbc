-- A fault that an agenda of fields has is true of any disk: it is none of the disk's.
use Rattle.std.proofs.Common.{◌≡◌, ℕ, sym, subst, Ok, Err}
use Rattle.std.specs.Prelude.{Option, Result}
use Rattle.disk_model.specs.Disk.{DiskView}
use Rattle.session_engine.specs.World.{World}
use Rattle.offline_programs.specs.declared.fault.RunFault.{RunFault}
use Rattle.offline_programs.specs.declared.fault.RunFault.TheVariants as fault
use Rattle.driver.specs.declared.action.Action.{Action}
use Rattle.driver.specs.TrueFaults.{IsTrueFault}
use Rattle.evaluation.specs.Programs.{Finds}
use Rattle.field_agenda.specs.declared.by_fields.ByFields.{ByFields}
use Rattle.field_agenda.specs.declared.stage.Stage.{Stage}
use Rattle.field_agenda.specs.declared.stage.Stage.TheVariants as stage
use Rattle.field_agenda.specs.Looks.{LooksFor, looked, unlooked}
use Rattle.field_agenda.specs.Says.{AsksFrom, ComesToItsEnd, FieldsSay, FieldsGoOn, GoesUnheard, SaysAt, asked, asks, ends, ends_with, goes_unheard, hears, interrupts, stalls, too_many_fields, unasked, uncounted, watches}
use Rattle.field_agenda.specs.Standing.{seen_due}

-- where there is a fault, it is true
abbrev IsTrueAnswer : DiskView → Result Action RunFault → Type 0
IsTrueAnswer d (Ok t) = Unit {0}
IsTrueAnswer d (Err why) = IsTrueFault why d d

at_action : (d : DiskView) (r : Result Action RunFault) (t : Action) → r ≡ Ok t → IsTrueAnswer d r
at_action d r t is = subst (λ (x : Result Action RunFault). IsTrueAnswer d x) (sym is) tt

at_memory : (d : DiskView) (r : Result Action RunFault) → r ≡ Err fault.OutOfMemory → IsTrueAnswer d r
at_memory d r is = subst (λ (x : Result Action RunFault). IsTrueAnswer d x) (sym is) tt

at_count : (d : DiskView) (r : Result Action RunFault) → r ≡ Err fault.InputTooLong → IsTrueAnswer d r
at_count d r is = subst (λ (x : Result Action RunFault). IsTrueAnswer d x) (sym is) tt

module _ {P : Type 0} (d : DiskView) where
  of_look : (finds : Finds) (a : ByFields P) (w : World) (r : Result Action RunFault) (b : ByFields P) → LooksFor finds a w r b → IsTrueAnswer d r
  of_look finds a w r b (looked ids how finding is same) = at_action d r _ is
  of_look finds a w r b (unlooked is same) = at_memory d r is

  of_asking : (a : ByFields P) (w : World) (k id : ℕ) (r : Result Action RunFault) (b : ByFields P) → AsksFrom a w k id r b → IsTrueAnswer d r
  of_asking a w k id r b (asked t lines is same) = at_action d r t is
  of_asking a w k id r b (unasked is same) = at_memory d r is

  of_end : (a : ByFields P) (w : World) (stopped : Option ℕ) (r : Result Action RunFault) (b : ByFields P) → ComesToItsEnd a w stopped r b → IsTrueAnswer d r
  of_end a w stopped r b (ends_with counts count is same) = at_action d r _ is
  of_end a w stopped r b (too_many_fields many is same) = at_count d r is

  of_unheard : (a : ByFields P) (w : World) (now : ℕ) (r : Result Action RunFault) (b : ByFields P) → GoesUnheard a w now r b → IsTrueAnswer d r
  of_unheard a w now r b (asks k id may asking) = of_asking a w k id r b asking
  of_unheard a w now r b (ends at free here so) = of_end a w at r b so
  of_unheard a w now r b (interrupts n id held none late is same) = at_action d r _ is
  of_unheard a w now r b (stalls held none late over is same) = at_action d r _ is
  of_unheard a w now r b (watches held none late going is same) = at_action d r _ is

  of_going : (a : ByFields P) (w : World) (now : ℕ) (r : Result Action RunFault) (b : ByFields P) → FieldsGoOn a w now r b → IsTrueAnswer d r
  of_going a w now r b (uncounted many is same) = at_count d r is
  of_going a w now r b (hears seat due is same) = at_action d r _ is
  of_going a w now r b (goes_unheard none goes) = of_unheard (seen_due a) w now r b goes

  of_saying : (how : Stage) (finds : Finds) (a : ByFields P) (w : World) (now : ℕ) (r : Result Action RunFault) (b : ByFields P) → SaysAt how finds a w now r b → IsTrueAnswer d r
  of_saying stage.New finds a w now r b said = of_look finds a w r b said
  of_saying stage.Going finds a w now r b said = of_going a w now r b said
  of_saying (stage.Counted end) finds a w now r b said = at_action d r _ said.0
  of_saying (stage.NoField id) finds a w now r b said = at_action d r _ said.0
  of_saying (stage.NoProgram name) finds a w now r b said = at_action d r _ said.0

pub own_faults : {P : Type 0} (finds : P → Finds) (a : ByFields P) (w : World) (now : ℕ) (why : RunFault) (b : ByFields P) → FieldsSay finds a w now (Err why) b → (d : DiskView) → IsTrueFault why d d
own_faults finds a w now why b said d = of_saying d a.stage (finds a.programs) a w now (Err why) b said
