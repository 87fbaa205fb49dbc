-- The replies of a run.
use Rattle.std.specs.Prelude.{List, [], ◌∷◌, ◌++◌}
use Rattle.host_events.specs.declared.reply.Reply.{Reply}
use Rattle.host_events.specs.declared.reply.Reply.TheVariants as reply
use Rattle.child_edge.specs.Faithful.{Entry}

abbrev pub spoken : Reply → List Reply
spoken reply.Nothing = []
spoken r = r ∷ []

-- the replies but Nothing, in order
abbrev pub reported : List Entry → List Reply
reported [] = []
reported (b ∷ bs) = spoken b.outcome.reply ++ reported bs
