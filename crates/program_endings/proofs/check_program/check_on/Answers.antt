use Rattle.program_endings.proofs.check_program.check_on.Goals as goal

pub returns : goal.returns
returns g c = record {
  later = c.check-disk.result.disk;
  closed = c.close.ensures;
  mid = c.check-disk.new.writer;
  checked = c.check-disk.ensures.checked;
  last_reported = c.end_check-ending.ensures.last;
  read = c.check-disk.ensures.read;
  failed = c.check-disk.ensures.failed;
  steady = c.check-disk.ensures.steady;
  ends = c.end_check-ending.ensures.ends;
}
