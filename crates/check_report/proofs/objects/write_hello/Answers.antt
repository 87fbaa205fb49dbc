use Rattle.std.proofs.Common.{sym, subst}
use Rattle.std.specs.Prelude.{List, ℕ, OnOk}
use Rattle.std.specs.Io.KnownBytes.{Appends}
use Rattle.check_report.proofs.JsonLines.{hello_is}
use Rattle.check_report.proofs.objects.write_hello.Goals as goal

pub returns : goal.returns
returns g c =
    subst (λ (t : List ℕ). OnOk c.write_bytes.result (Appends (g.W.Write.contents c.args.out.now) (g.W.Write.contents c.write_bytes.new.out) t)) (sym hello_is) c.write_bytes.ensures
