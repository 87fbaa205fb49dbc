use Rattle.driver.proofs.voiced.VoicedSink.print_fault.Goals as goal

pub returns : goal.returns
returns g c = record { tries = record { tried = c.stamp.ensures.held; appends = c.fault.ensures.reported }; front = c.fault.ensures.front }
