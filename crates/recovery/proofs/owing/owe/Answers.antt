use Rattle.recovery.proofs.Owed.{owed_ends, owed_moments, owed_ok, owed_other, owes_more_yet}
use Rattle.recovery.proofs.owing.owe.Goals as goal

pub returns-clause-owing : goal.returns-clause-owing
returns-clause-owing g c = owes_more_yet c.args.journal c.args.group.payloads c.push.new.self.payloads c.args.frame.now c.in-Ok.ensures.ok c.requires.owing c.payload_len-len.ensures.payload c.requires.place

pub returns-clause-ends : goal.returns-clause-ends
returns-clause-ends g c = owed_ends c.args.journal c.args.group.payloads c.push.new.self.payloads c.args.frame.now c.in-Ok.ensures.ok c.requires.owing c.payload_len-len.ensures.payload

pub returns-clause-other : goal.returns-clause-other
returns-clause-other g c = owed_other c.args.journal c.args.group.payloads c.push.new.self.payloads c.args.frame.now c.in-Ok.ensures.ok c.requires.owing c.payload_len-len.ensures.payload c.room-room.ensures.content_stays

pub returns-clause-ok : goal.returns-clause-ok
returns-clause-ok g c = owed_ok c.args.journal c.args.group.payloads c.push.new.self.payloads c.args.frame.now c.in-Ok.ensures.ok c.requires.owing c.payload_len-len.ensures.payload c.room-room.ensures.content_stays

pub returns-clause-any_moment : goal.returns-clause-any_moment
returns-clause-any_moment g c = owed_moments c.args.journal c.args.group.payloads c.push.new.self.payloads c.args.frame.now c.in-Ok.ensures.ok c.requires.owing c.payload_len-len.ensures.payload c.room-room.ensures.content_stays
