use Rattle.std.proofs.Common.{◌≡◌, ℕ, List, Ok, inr, refl, rules, subst}
use Rattle.offline_programs.specs.Saying.{saying}
use Rattle.recovery.specs.declared.rescuing.Rescued.{Rescued}
use Rattle.sheet_export.specs.declared.formats.Format.{Format}
use Rattle.sheet_export.specs.Formats.{last_part}
use Rattle.program_endings.specs.PastProgram.{PastExported}
use Rattle.program_endings.specs.Records.{Streams, streams, writing}
use Rattle.program_endings.specs.declared.ending.Ending.{Ending}
use Rattle.host_cli.proofs.pasts.export_after.Goals as goal

exported : {D W E : Type 0} (closed : D → Type 0) (found : Rescued D) (from to : Format) (first last : List ℕ) (s : Streams W E) (ending : Ending) → from ≡ to → first ≡ last
    → PastExported closed found from first s ending → PastExported closed found to last s ending
exported closed found from to first last s ending f t p = subst (λ x. PastExported closed found x last s ending) f (subst (λ x. PastExported closed found from x s ending) t p)

pub returns-in-Ok-clause-does : goal.returns-in-Ok-clause-does
returns-in-Ok-clause-does g c =
    let old = c.args.outside.now in
    let form = c.titled.result in
    let run = c.run_export_past in
    let s = streams (writing g.Y.Output.Write.contents old.output run.new.output) (saying g.Y.Errors.Write.contents g.Y.Errors.Says.tried old.errors run.new.errors) in
    inr (
      c.hold.new.self,
      c.in_default.ensures,
      (
        c.open_to_read.result,
        c.open_to_read.new.self,
        c.open_to_read.ensures,
        (
          Ok c.in-Ok.found,
          search rules,
          (refl, exported g.Y.Disk.Close.closed c.in-Ok.found form.format c.args.format form.title.now (last_part c.args.path.now) s run.result c.titled.ensures.0 c.titled.ensures.1 run.ensures),
        ),
      ),
    )
