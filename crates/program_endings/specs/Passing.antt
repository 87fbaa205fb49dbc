-- A program's run, by what it is given and what it gives back.
use Rattle.program_endings.specs.Records.{ProgramPassage, ProgramRun, ProgramView, calling, given_disk, passage_of, run_of, writing}
use Rattle.program_endings.specs.declared.passing.Completed.{Completed}
use Rattle.program_endings.specs.declared.passing.Resources.{Resources}
use Rattle.program_endings.specs.declared.passing.GivenBack.{GivenBack}
use Rattle.script_agenda.specs.declared.running.RunResources.{RunResources}

-- from what was outside of it to what it gave back
abbrev pub run : {T D C W : Type 0} → ProgramView D C W → RunResources D C W → GivenBack T C W → ProgramRun D C W
run v outside back = run_of (given_disk v.disks outside.disk) v.sources (calling outside.sources back.sources) (writing v.written outside.output back.output)

-- the same up to where it answered
abbrev pub run_so_far : {T D C W : Type 0} → ProgramView D C W → RunResources D C W → Completed T C W → ProgramRun D C W
run_so_far v outside back = run_of (given_disk v.disks outside.disk) v.sources (calling outside.sources back.sources) (writing v.written outside.output back.output)

-- the same but for its disk, where it was given files, or why they weren't opened
abbrev pub passed : {T D C W : Type 0} → ProgramView D C W → Resources D C W → GivenBack T C W → ProgramPassage D C W
passed v given back = passage_of v.disks v.sources (calling given.sources back.sources) (writing v.written given.output back.output)
