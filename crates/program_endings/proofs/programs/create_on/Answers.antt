use Rattle.std.proofs.Common.{Some, ap, sym, ◌≡◌}
use Rattle.std.specs.Prelude.{unwrap_or}
use Rattle.std.proofs.lemmas.Option.{none-some}
use Rattle.journal.specs.declared.opening.CreateCause.{CreateCause}
use Rattle.program_endings.specs.Programs.{CreateAnswer, Creates}
use Rattle.program_endings.proofs.programs.create_on.Goals as goal

one_cause : (cause why : CreateCause) → Some cause ≡ Some why → cause ≡ why
one_cause cause why is = ap (λ (answer : CreateAnswer). unwrap_or answer cause) is

pub returns-in-Err : goal.returns-in-Err
returns-in-Err g c =
    let cause = c.in-Err.fault.cause in
    let made : Creates (g.D.Disk.view c.args.disk) (g.D.Disk.view c.in-Err.fault.disk) (Some cause) = record {
      same = c.in-Err.ensures.same;
      made = λ kept is. absurd (none-some cause (sym is));
      not_empty = λ kept is. (c.in-Err.ensures.not_empty kept (one_cause cause _ is)).0;
      untouched = c.in-Err.ensures.untouched;
      faulty = λ is. c.in-Err.ensures.faulty (one_cause cause _ is);
    } in
    (c.in-Err.fault.disk, c.close-in-Err.ensures, (Some cause, made, c.end_create.ensures.0, c.end_create.ensures.1))
