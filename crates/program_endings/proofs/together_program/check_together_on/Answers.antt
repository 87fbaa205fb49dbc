use Rattle.program_endings.proofs.together_program.check_together_on.Goals as goal

pub returns : goal.returns
returns g c = record {
  later = c.check_together-disk.result.disk;
  closed = c.close.ensures;
  mid = c.check_together-disk.new.writer;
  checked = c.check_together-disk.ensures.checked;
  last_reported = c.end_check-ending.ensures.last;
  read = c.check_together-disk.ensures.read;
  failed = c.check_together-disk.ensures.failed;
  steady = c.check_together-disk.ensures.steady;
  ends = c.end_check-ending.ensures.ends;
}
