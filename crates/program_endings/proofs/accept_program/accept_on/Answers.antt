use Rattle.program_endings.proofs.accept_program.accept_on.Goals as goal

pub returns : goal.returns
returns g c = record {
  later = c.check_accepting-disk.result.disk;
  closed = c.close.ensures;
  answer = c.check_accepting-disk.result.answer;
  accepted = c.check_accepting-disk.ensures.accepted;
  failed = c.check_accepting-disk.ensures.failed;
  memory = c.check_accepting-disk.ensures.memory;
  ends = c.end_acceptance.ensures;
}
