use Rattle.std.proofs.Common.{refl, sym}
use Rattle.std.proofs.lemmas.Bool.{true≢false}
use Rattle.sheet_check.proofs.Driven.{says_none}
use Rattle.sheet_check.proofs.marks.MarksSink.print_fault.Goals as goal

pub returns : goal.returns
returns g c = record { tries = says_none c.args.self.now c.args._host.now.store.disk _ refl; front = λ so. absurd (true≢false (sym so)) }
