-- Records of ops that are gathered. No public clause speaks of them.
use Rattle.std.specs.Prelude.{◌≡◌, List, ◌++◌, map, Result, Ok, Err}
use Rattle.std.specs.List.{AllByRecursion}
use Rattle.worksheet.specs.declared.op.Op.{Op}
use Rattle.recovery.specs.Code.{IsTyped}
use Rattle.recovery.specs.declared.records.Record.{Record}
use Rattle.recovery.specs.inside.Records.{op_in}

-- the records of these ops were put after others
abbrev pub Gathered : List Op → List Record → List Record → Type 0
Gathered ops before after = (map op_in after ≡ map op_in before ++ ops) × AllByRecursion IsTyped ops

-- they were, or memory was refused
abbrev pub Gathers : {E : Type 0} → List Op → Result Unit E → List Record → List Record → Type 0
Gathers ops (Ok u) before after = Gathered ops before after
Gathers ops (Err e) before after = Unit {0}
