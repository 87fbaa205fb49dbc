use Rattle.std.proofs.Common.{◌≡◌, [], ◌∷◌, ◌++◌, true, false, sym, subst, ◌∙◌}
use Rattle.disk_model.specs.Disk.{DiskView, Rises, SameDisk}
use Rattle.recovery.specs.Sheets.{GathersOn}
use Rattle.session_engine.specs.Joining.{asking, with_more}
use Rattle.session_engine.proofs.Gathering.{broke_by, failed_group}
use Rattle.session_engine.proofs.Tables.{numbers_are}
use Rattle.session_engine.proofs.JoinLaws.{took_joined, stopped_joined}
use Rattle.session_engine.proofs.buffered.BufferedHost.join_owed.Goals as goal

pub returns-in-Ok-flush-clause-took : goal.returns-in-Ok-flush-clause-took
returns-in-Ok-flush-clause-took g c = λ w h.
    let old = c.args.self.now in
    let first = c.gather.new.self in
    let mid = c.play_and_join.new.self in
    let host = c.gather.ensures.goes_on w h in
    let gathers : first.store.gathers ≡ true = c.gather.ensures.gathers c.requires.open in
    let on : GathersOn first.store mid.store = c.play_and_join.ensures.gathers in
    let real : mid.store.real ≡ old.store.real = on.real gathers ∙ c.gather.ensures.real in
    let same = subst (λ (d : DiskView). SameDisk d mid.store.disk) c.gather.ensures.disk c.play_and_join.ensures.same in
    let p = c.in-Ok.ensures.played w host in
    took_joined w c.args.events.items old mid c.flush.new.self real same c.flush.ensures.any_moment (asking g.J.Joins.joins c.args.joins.now c.play_and_join.new.joins) c.in-Ok.joint p
    (c.in-Ok-flush.ensures.goes_on p.played.leads p.played.stands) c.in-Ok-flush.ensures.flushed

pub returns-in-Err-flush-clause-halts : goal.returns-in-Err-flush-clause-halts
returns-in-Err-flush-clause-halts g c = λ w h.
    let old = c.args.self.now in
    let first = c.gather.new.self in
    let mid = c.play_and_join.new.self in
    let host = c.gather.ensures.goes_on w h in
    let gathers : first.store.gathers ≡ true = c.gather.ensures.gathers c.requires.open in
    let on : GathersOn first.store mid.store = c.play_and_join.ensures.gathers in
    let real : mid.store.real ≡ old.store.real = on.real gathers ∙ c.gather.ensures.real in
    let same = subst (λ (d : DiskView). SameDisk d mid.store.disk) c.gather.ensures.disk c.play_and_join.ensures.same in
    let so = c.in-Ok.ensures.played w host in
    let p = so.played in (
      c.args.events.items ++ so.more,
      with_more c.in-Ok.joint.outcomes.items c.in-Ok.joint.first so.more so.joined,
      failed_group w (c.args.events.items ++ so.more) old mid c.flush.new.self real same c.flush.ensures.any_moment [] (c.in-Ok.joint.outcomes.items ++ c.in-Ok.joint.later.items) mid p
          p.stands.stands.contents (numbers_are mid.lives p.leads.lives p.stands.stands.lives_are) c.in-Err-flush.ensures.sheet c.in-Err-flush.ensures.lives c.in-Err-flush.ensures.closes
          (broke_by c.flush.result c.in-Err-flush.field-0 mid.store.closed (Rises mid.store.real.faults c.flush.new.self.store.real.faults) c.in-Err-flush.is c.in-Err-flush.ensures.other p.stands.stands.still_open c.flush.ensures.closed.0 c.flush.ensures.faulty),
    )

pub returns-in-Ok-flush-2-clause-halts : goal.returns-in-Ok-flush-2-clause-halts
returns-in-Ok-flush-2-clause-halts g c = λ w h.
    let old = c.args.self.now in
    let first = c.gather.new.self in
    let mid = c.play_and_join.new.self in
    let host = c.gather.ensures.goes_on w h in
    let gathers : first.store.gathers ≡ true = c.gather.ensures.gathers c.requires.open in
    let on : GathersOn first.store mid.store = c.play_and_join.ensures.gathers in
    let real : mid.store.real ≡ old.store.real = on.real gathers ∙ c.gather.ensures.real in
    let same = subst (λ (d : DiskView). SameDisk d mid.store.disk) c.gather.ensures.disk c.play_and_join.ensures.same in
    let (all, to_be, s) = c.in-Err.ensures.halts w host in
    let done = c.in-Ok-flush-2.ensures in (
      all,
      to_be,
      s.reported,
      stopped_joined w all old mid c.flush-in-Err.new.self real same c.flush-in-Err.ensures.any_moment c.in-Err.fault s
          (λ disk. let bad : true ≡ false = sym gathers ∙ c.in-Err.ensures.at_once disk in cc) done.sheet done.lives done.stays done.flushed,
    )

pub returns-in-Err-flush-2-clause-halts : goal.returns-in-Err-flush-2-clause-halts
returns-in-Err-flush-2-clause-halts g c = λ w h.
    let old = c.args.self.now in
    let first = c.gather.new.self in
    let mid = c.play_and_join.new.self in
    let host = c.gather.ensures.goes_on w h in
    let gathers : first.store.gathers ≡ true = c.gather.ensures.gathers c.requires.open in
    let on : GathersOn first.store mid.store = c.play_and_join.ensures.gathers in
    let real : mid.store.real ≡ old.store.real = on.real gathers ∙ c.gather.ensures.real in
    let same = subst (λ (d : DiskView). SameDisk d mid.store.disk) c.gather.ensures.disk c.play_and_join.ensures.same in
    let (all, to_be, s) = c.in-Err.ensures.halts w host in
    let flush = c.flush-in-Err in (
      all,
      to_be,
      failed_group w all old mid flush.new.self real same flush.ensures.any_moment (s.at ∷ s.dropped) s.reported s.before s.played s.failed.contents s.failed.numbers
          c.in-Err-flush-2.ensures.sheet c.in-Err-flush-2.ensures.lives c.in-Err-flush-2.ensures.closes
          (broke_by flush.result c.in-Err-flush-2.field-0 mid.store.closed (Rises mid.store.real.faults flush.new.self.store.real.faults) c.in-Err-flush-2.is c.in-Err-flush-2.ensures.other
          (on.closed gathers ∙ host.stands.still_open) flush.ensures.closed.0 flush.ensures.faulty),
    )
