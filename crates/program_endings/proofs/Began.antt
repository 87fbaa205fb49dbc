-- What was written of a text that was tried.
use Rattle.std.proofs.Common.{◌≡◌, ℕ, List, [], Option, append-nil, inl, inr, sym, true}
use Rattle.std.proofs.lemmas.Bool.{true≢false}
use Rattle.std.specs.Prelude.{Err, IfErr, Ok, OnOk, Result}
use Rattle.std.specs.Io.KnownBytes.{Appends}
use Rattle.offline_programs.specs.declared.fault.RunFault.{RunFault}
use Rattle.tellings.specs.Voice.{CutShort, IsWithheld, Voice}
use Rattle.program_endings.specs.LiveProgram.{Began}

-- a beginning, why ever not all of it
pub began_cut : (V : Voice) (a b : Option (List ℕ)) (text : List ℕ) (why : RunFault) → IsWithheld V why → CutShort V.in_lines a b text why → Began V a b text
began_cut V a b text why (inl broke) cut = λ so. cut.broken broke so
began_cut V a b text why (inr lacks) cut = λ so.
    let f = cut.lacked lacks.0 in
    record { front = f.front; rest = f.rest; split = f.split; lines = λ no. absurd (true≢false (sym no)); wrote = f.wrote }

-- all of it
began_whole : (V : Voice) (a b : Option (List ℕ)) (text : List ℕ) → Appends a b text → Began V a b text
began_whole V a b text wrote = λ so. record { front = text; rest = []; split = append-nil text; lines = λ no. absurd (true≢false (sym no)); wrote = wrote }

-- whatever came of it
pub began_so : (V : Voice) (r : Result (Unit {0}) RunFault) (a b : Option (List ℕ)) (text : List ℕ) → OnOk r (Appends a b text) → IfErr r (λ why. (V.takes_memory ≡ true) × IsWithheld V why)
    → IfErr r (CutShort V.in_lines a b text) → Began V a b text
began_so V (Ok done) a b text wrote withheld cut = began_whole V a b text wrote
began_so V (Err why) a b text wrote withheld cut = began_cut V a b text why (withheld.1) cut
