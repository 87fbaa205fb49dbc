-- What holds whatever an answer is.
use Rattle.std.specs.Prelude.{Result, Ok, Err, OnErr}

-- where this holds, it holds at a fault
pub at_a_fault : {T E : Type 0} (r : Result T E) (P : Type 0) → P → OnErr r P
at_a_fault (Ok v) P p = tt
at_a_fault (Err e) P p = p
