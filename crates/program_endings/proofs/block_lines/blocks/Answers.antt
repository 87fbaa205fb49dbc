use Rattle.offline_programs.specs.Input.{no_memory, of_input}
use Rattle.program_endings.proofs.block_lines.blocks.Goals as goal

pub returns-in_default-clause-faults : goal.returns-in_default-clause-faults
returns-in_default-clause-faults g c = of_input _ no_memory
