use Rattle.host_laws.proofs.ApartSilent as silent
use Rattle.host_laws.proofs.others_are_silent.Goals as goal

pub returns : goal.returns
returns c = silent.others_are_silent
