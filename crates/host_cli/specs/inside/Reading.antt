-- Why words can't be read.
use Rattle.std.specs.Prelude.{◌≡◌, Result, Err}
use Rattle.host_cli.specs.declared.plans.PlanFault.{PlanFault}
use Rattle.host_cli.specs.declared.plans.PlanFault.TheVariants as plans

-- they ask for nothing that there is, for this reason, or there was no memory
abbrev pub IsWhy : {X : Type 0} → Result X PlanFault → PlanFault → Type 0
IsWhy asked plans.Seconds = asked ≡ Err plans.Seconds
IsWhy asked plans.Id = asked ≡ Err plans.Id
IsWhy asked plans.Both = asked ≡ Err plans.Both
IsWhy asked plans.Jobs = asked ≡ Err plans.Jobs
IsWhy asked plans.Strict = asked ≡ Err plans.Strict
IsWhy asked plans.Changed = asked ≡ Err plans.Changed
IsWhy asked plans.OutOfMemory = Unit {0}
