use Rattle.program_endings.proofs.script_program.run_as_script.Goals as goal

pub returns : goal.returns
returns g c = record {
  later = c.run_read-outside.result.outside.disk;
  closed = c.close.ensures;
  same = c.run_read-outside.ensures.same;
  answer = c.run_read-outside.result.answer;
  ran = c.run_read-outside.ensures.ran;
  status = c.end_strict.ensures.status;
  reported = c.end_strict.ensures.reported;
}
