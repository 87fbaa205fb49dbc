use Rattle.std.proofs.Common.{◌≡◌, [], ◌∷◌, true, false, sym, subst, ◌∙◌, ap, refl}
use Rattle.disk_model.specs.Disk.{DiskView, Rises, SameDisk}
use Rattle.recovery.specs.Sheets.{GathersOn}
use Rattle.session_engine.specs.declared.play.PlayFault.{PlayFault}
use Rattle.session_engine.specs.World.{sheet_in}
use Rattle.session_engine.specs.Host.{HostView, IsHost}
use Rattle.session_engine.specs.Crash.{Halts}
use Rattle.session_engine.specs.Gathers.{OnlyAtOnce}
use Rattle.session_engine.specs.inside.Until.{NoneRefused}
use Rattle.session_engine.proofs.Gathering.{broke_by, flushes_after, stopped_group}
use Rattle.session_engine.proofs.Until.{ends_refused, failed_by, halts_by, none_refused, took_by}
use Rattle.session_engine.proofs.Tables.{numbers_are}
use Rattle.session_engine.proofs.buffered.BufferedHost.play_owed.Goals as goal

pub returns-in-Ok-flush-clause-took : goal.returns-in-Ok-flush-clause-took
returns-in-Ok-flush-clause-took g c = λ w h.
    let old = c.args.self.now in
    let first = c.gather.new.self in
    let mid = c.play_until.new.self in
    let host = c.gather.ensures.goes_on w h in
    let gathers : first.store.gathers ≡ true = c.gather.ensures.gathers c.requires.open in
    let on : GathersOn first.store mid.store = c.play_until.ensures.gathers c.requires.none in
    let real : mid.store.real ≡ old.store.real = on.real gathers ∙ c.gather.ensures.real in
    let same = subst (λ (d : DiskView). SameDisk d mid.store.disk) c.gather.ensures.disk c.play_until.ensures.same in
    let p = c.in-Ok.ensures.played w host in
    took_by w c.args.events.items old mid c.flush.new.self real same c.flush.ensures.any_moment c.args.up_to c.in-Ok.outcomes.items p (c.in-Ok-flush.ensures.goes_on p.played.leads p.played.stands) c.in-Ok-flush.ensures.flushed

pub returns-in-Err-clause-halts : goal.returns-in-Err-clause-halts
returns-in-Err-clause-halts g c = λ w h.
    let old = c.args.self.now in
    let first = c.gather.new.self in
    let mid = c.play_until.new.self in
    let host = c.gather.ensures.goes_on w h in
    let gathers : first.store.gathers ≡ true = c.gather.ensures.gathers c.requires.open in
    let on : GathersOn first.store mid.store = c.play_until.ensures.gathers c.requires.none in
    let real : mid.store.real ≡ old.store.real = on.real gathers ∙ c.gather.ensures.real in
    let same = subst (λ (d : DiskView). SameDisk d mid.store.disk) c.gather.ensures.disk c.play_until.ensures.same in
    let so = c.in-Ok.ensures.played w host in
    let p = so.played in
    failed_by w c.args.events.items old mid c.flush.new.self real same c.flush.ensures.any_moment c.args.up_to so.rest c.in-Ok.outcomes.items mid p (ends_refused c.args.up_to c.in-Ok.outcomes.items so.rest so.ends) p.stands.stands.contents (numbers_are mid.lives p.leads.lives p.stands.stands.lives_are) c.in-Err.ensures.sheet c.in-Err.ensures.lives c.in-Err.ensures.closes
    (broke_by c.flush.result c.in-Err.field-0 mid.store.closed (Rises mid.store.real.faults c.flush.new.self.store.real.faults) c.in-Err.is c.in-Err.ensures.other p.stands.stands.still_open c.flush.ensures.closed.0 c.flush.ensures.faulty)

pub returns-in-Ok-flush-2-clause-halts : goal.returns-in-Ok-flush-2-clause-halts
returns-in-Ok-flush-2-clause-halts g c = λ w h.
    let old = c.args.self.now in
    let first = c.gather.new.self in
    let mid = c.play_until.new.self in
    let host = c.gather.ensures.goes_on w h in
    let gathers : first.store.gathers ≡ true = c.gather.ensures.gathers c.requires.open in
    let on : GathersOn first.store mid.store = c.play_until.ensures.gathers c.requires.none in
    let real : mid.store.real ≡ old.store.real = on.real gathers ∙ c.gather.ensures.real in
    let same = subst (λ (d : DiskView). SameDisk d mid.store.disk) c.gather.ensures.disk c.play_until.ensures.same in
    let halts = subst (λ (x : PlayFault). Halts w c.args.events.items first mid x) c.in-Err-NoRoom.field-0-is (c.in-Err-NoRoom.ensures.halts w host) in
    let stands = subst (λ (v : HostView). IsHost v w) (sym halts.1) host in
    let flush = c.flush-in-Err-NoRoom in
    halts_by c.args.up_to w c.args.events.items old flush.new.self _
    (record {
      same = halts.0;
      stands = c.in-Ok-flush-2.ensures.goes_on w stands;
      untouched = λ none.
          let owed : mid.store.owed ≡ [] = ap (λ (v : HostView). v.store.owed) halts.1 ∙ c.gather.ensures.owed ∙ none in
          c.in-Ok-flush-2.ensures.nothing stands.stands.still_open owed ∙ real;
      moments = flushes_after old.store mid.store flush.new.self.store (sheet_in w) real same stands.stands.contents flush.ensures.any_moment;
    })
    (λ on. tt)

pub returns-in-Err-flush-clause-halts : goal.returns-in-Err-flush-clause-halts
returns-in-Err-flush-clause-halts g c = λ w h.
    let old = c.args.self.now in
    let first = c.gather.new.self in
    let mid = c.play_until.new.self in
    let host = c.gather.ensures.goes_on w h in
    let gathers : first.store.gathers ≡ true = c.gather.ensures.gathers c.requires.open in
    let on : GathersOn first.store mid.store = c.play_until.ensures.gathers c.requires.none in
    let real : mid.store.real ≡ old.store.real = on.real gathers ∙ c.gather.ensures.real in
    let same = subst (λ (d : DiskView). SameDisk d mid.store.disk) c.gather.ensures.disk c.play_until.ensures.same in
    let halts = subst (λ (x : PlayFault). Halts w c.args.events.items first mid x) c.in-Err-NoRoom.field-0-is (c.in-Err-NoRoom.ensures.halts w host) in
    let stands = subst (λ (v : HostView). IsHost v w) (sym halts.1) host in
    let flush = c.flush-in-Err-NoRoom in
    failed_by w c.args.events.items old mid flush.new.self real same flush.ensures.any_moment c.args.up_to c.args.events.items [] mid (record { done = []; split = refl; leads = w; runs = refl; stands = stands }) (λ on. none_refused [] refl) stands.stands.contents (numbers_are mid.lives w.lives stands.stands.lives_are) c.in-Err-flush.ensures.sheet c.in-Err-flush.ensures.lives c.in-Err-flush.ensures.closes
    (broke_by flush.result c.in-Err-flush.field-0 mid.store.closed (Rises mid.store.real.faults flush.new.self.store.real.faults) c.in-Err-flush.is c.in-Err-flush.ensures.other stands.stands.still_open flush.ensures.closed.0 flush.ensures.faulty)

pub returns-in-Ok-flush-3-clause-halts : goal.returns-in-Ok-flush-3-clause-halts
returns-in-Ok-flush-3-clause-halts g c = λ w h.
    let old = c.args.self.now in
    let first = c.gather.new.self in
    let mid = c.play_until.new.self in
    let host = c.gather.ensures.goes_on w h in
    let gathers : first.store.gathers ≡ true = c.gather.ensures.gathers c.requires.open in
    let on : GathersOn first.store mid.store = c.play_until.ensures.gathers c.requires.none in
    let real : mid.store.real ≡ old.store.real = on.real gathers ∙ c.gather.ensures.real in
    let same = subst (λ (d : DiskView). SameDisk d mid.store.disk) c.gather.ensures.disk c.play_until.ensures.same in
    let s = subst (λ (x : PlayFault). Halts w c.args.events.items first mid x) c.in-Err-Stopped.field-0-is (c.in-Err-Stopped.ensures.halts w host) in
    let at_once = subst (λ (x : PlayFault). OnlyAtOnce first.store x) c.in-Err-Stopped.field-0-is (c.in-Err-Stopped.ensures.at_once c.requires.none) in
    let done = c.in-Ok-flush-3.ensures in
    halts_by c.args.up_to w c.args.events.items old c.flush-in-Err-Stopped.new.self _
    (stopped_group w c.args.events.items old mid c.flush-in-Err-Stopped.new.self real same c.flush-in-Err-Stopped.ensures.any_moment c.in-Err-Stopped.outcomes.items c.in-Err-Stopped.fault first s
    (λ disk. let bad : true ≡ false = sym gathers ∙ at_once disk in cc) done.sheet done.lives done.stays done.flushed)
    (λ on. subst NoneRefused c.in-Err-Stopped.field-0-is (c.in-Err-Stopped.ensures.right on))

pub returns-in-Err-flush-2-clause-halts : goal.returns-in-Err-flush-2-clause-halts
returns-in-Err-flush-2-clause-halts g c = λ w h.
    let old = c.args.self.now in
    let first = c.gather.new.self in
    let mid = c.play_until.new.self in
    let host = c.gather.ensures.goes_on w h in
    let gathers : first.store.gathers ≡ true = c.gather.ensures.gathers c.requires.open in
    let on : GathersOn first.store mid.store = c.play_until.ensures.gathers c.requires.none in
    let real : mid.store.real ≡ old.store.real = on.real gathers ∙ c.gather.ensures.real in
    let same = subst (λ (d : DiskView). SameDisk d mid.store.disk) c.gather.ensures.disk c.play_until.ensures.same in
    let s = subst (λ (x : PlayFault). Halts w c.args.events.items first mid x) c.in-Err-Stopped.field-0-is (c.in-Err-Stopped.ensures.halts w host) in
    let flush = c.flush-in-Err-Stopped in
    failed_by w c.args.events.items old mid flush.new.self real same flush.ensures.any_moment c.args.up_to (s.at ∷ s.dropped) c.in-Err-Stopped.outcomes.items s.before s.played
    (λ on. none_refused c.in-Err-Stopped.outcomes.items (subst NoneRefused c.in-Err-Stopped.field-0-is (c.in-Err-Stopped.ensures.right on))) s.failed.contents s.failed.numbers c.in-Err-flush-2.ensures.sheet c.in-Err-flush-2.ensures.lives c.in-Err-flush-2.ensures.closes
    (broke_by flush.result c.in-Err-flush-2.field-0 mid.store.closed (Rises mid.store.real.faults flush.new.self.store.real.faults) c.in-Err-flush-2.is c.in-Err-flush-2.ensures.other (on.closed gathers ∙ host.stands.still_open) flush.ensures.closed.0 flush.ensures.faulty)

pub returns-in-Ok-flush-clause-written : goal.returns-in-Ok-flush-clause-written
returns-in-Ok-flush-clause-written g c =
    let first = c.gather.new.self in
    let mid = c.play_until.new.self in
    let gathers : first.store.gathers ≡ true = c.gather.ensures.gathers c.requires.open in
    let on : GathersOn first.store mid.store = c.play_until.ensures.gathers c.requires.none in
    let opened : mid.store.closed ≡ false = on.closed gathers ∙ c.gather.ensures.open ∙ c.requires.open in
    c.flush.ensures.written opened

pub returns-in-Ok-flush-clause-same : goal.returns-in-Ok-flush-clause-same
returns-in-Ok-flush-clause-same g c =
    let first = c.gather.new.self in
    let mid = c.play_until.new.self in
    let gathers : first.store.gathers ≡ true = c.gather.ensures.gathers c.requires.open in
    let on : GathersOn first.store mid.store = c.play_until.ensures.gathers c.requires.none in
    subst (λ (d : DiskView). SameDisk d c.flush.new.self.store.real) (on.real gathers ∙ c.gather.ensures.real) c.flush.ensures.same

pub returns-in-Err-clause-written : goal.returns-in-Err-clause-written
returns-in-Err-clause-written g c =
    let first = c.gather.new.self in
    let mid = c.play_until.new.self in
    let gathers : first.store.gathers ≡ true = c.gather.ensures.gathers c.requires.open in
    let on : GathersOn first.store mid.store = c.play_until.ensures.gathers c.requires.none in
    let opened : mid.store.closed ≡ false = on.closed gathers ∙ c.gather.ensures.open ∙ c.requires.open in
    c.flush.ensures.written opened

pub returns-in-Err-clause-same : goal.returns-in-Err-clause-same
returns-in-Err-clause-same g c =
    let first = c.gather.new.self in
    let mid = c.play_until.new.self in
    let gathers : first.store.gathers ≡ true = c.gather.ensures.gathers c.requires.open in
    let on : GathersOn first.store mid.store = c.play_until.ensures.gathers c.requires.none in
    subst (λ (d : DiskView). SameDisk d c.flush.new.self.store.real) (on.real gathers ∙ c.gather.ensures.real) c.flush.ensures.same

pub returns-in-Ok-flush-2-clause-written : goal.returns-in-Ok-flush-2-clause-written
returns-in-Ok-flush-2-clause-written g c =
    let first = c.gather.new.self in
    let mid = c.play_until.new.self in
    let gathers : first.store.gathers ≡ true = c.gather.ensures.gathers c.requires.open in
    let on : GathersOn first.store mid.store = c.play_until.ensures.gathers c.requires.none in
    let opened : mid.store.closed ≡ false = on.closed gathers ∙ c.gather.ensures.open ∙ c.requires.open in
    c.flush-in-Err-NoRoom.ensures.written opened

pub returns-in-Ok-flush-2-clause-same : goal.returns-in-Ok-flush-2-clause-same
returns-in-Ok-flush-2-clause-same g c =
    let first = c.gather.new.self in
    let mid = c.play_until.new.self in
    let gathers : first.store.gathers ≡ true = c.gather.ensures.gathers c.requires.open in
    let on : GathersOn first.store mid.store = c.play_until.ensures.gathers c.requires.none in
    subst (λ (d : DiskView). SameDisk d c.flush-in-Err-NoRoom.new.self.store.real) (on.real gathers ∙ c.gather.ensures.real) c.flush-in-Err-NoRoom.ensures.same

pub returns-in-Err-flush-clause-written : goal.returns-in-Err-flush-clause-written
returns-in-Err-flush-clause-written g c =
    let first = c.gather.new.self in
    let mid = c.play_until.new.self in
    let gathers : first.store.gathers ≡ true = c.gather.ensures.gathers c.requires.open in
    let on : GathersOn first.store mid.store = c.play_until.ensures.gathers c.requires.none in
    let opened : mid.store.closed ≡ false = on.closed gathers ∙ c.gather.ensures.open ∙ c.requires.open in
    c.flush-in-Err-NoRoom.ensures.written opened

pub returns-in-Err-flush-clause-same : goal.returns-in-Err-flush-clause-same
returns-in-Err-flush-clause-same g c =
    let first = c.gather.new.self in
    let mid = c.play_until.new.self in
    let gathers : first.store.gathers ≡ true = c.gather.ensures.gathers c.requires.open in
    let on : GathersOn first.store mid.store = c.play_until.ensures.gathers c.requires.none in
    subst (λ (d : DiskView). SameDisk d c.flush-in-Err-NoRoom.new.self.store.real) (on.real gathers ∙ c.gather.ensures.real) c.flush-in-Err-NoRoom.ensures.same

pub returns-in-Ok-flush-3-clause-written : goal.returns-in-Ok-flush-3-clause-written
returns-in-Ok-flush-3-clause-written g c =
    let first = c.gather.new.self in
    let mid = c.play_until.new.self in
    let gathers : first.store.gathers ≡ true = c.gather.ensures.gathers c.requires.open in
    let on : GathersOn first.store mid.store = c.play_until.ensures.gathers c.requires.none in
    let opened : mid.store.closed ≡ false = on.closed gathers ∙ c.gather.ensures.open ∙ c.requires.open in
    c.flush-in-Err-Stopped.ensures.written opened

pub returns-in-Ok-flush-3-clause-same : goal.returns-in-Ok-flush-3-clause-same
returns-in-Ok-flush-3-clause-same g c =
    let first = c.gather.new.self in
    let mid = c.play_until.new.self in
    let gathers : first.store.gathers ≡ true = c.gather.ensures.gathers c.requires.open in
    let on : GathersOn first.store mid.store = c.play_until.ensures.gathers c.requires.none in
    subst (λ (d : DiskView). SameDisk d c.flush-in-Err-Stopped.new.self.store.real) (on.real gathers ∙ c.gather.ensures.real) c.flush-in-Err-Stopped.ensures.same

pub returns-in-Err-flush-2-clause-written : goal.returns-in-Err-flush-2-clause-written
returns-in-Err-flush-2-clause-written g c =
    let first = c.gather.new.self in
    let mid = c.play_until.new.self in
    let gathers : first.store.gathers ≡ true = c.gather.ensures.gathers c.requires.open in
    let on : GathersOn first.store mid.store = c.play_until.ensures.gathers c.requires.none in
    let opened : mid.store.closed ≡ false = on.closed gathers ∙ c.gather.ensures.open ∙ c.requires.open in
    c.flush-in-Err-Stopped.ensures.written opened

pub returns-in-Err-flush-2-clause-same : goal.returns-in-Err-flush-2-clause-same
returns-in-Err-flush-2-clause-same g c =
    let first = c.gather.new.self in
    let mid = c.play_until.new.self in
    let gathers : first.store.gathers ≡ true = c.gather.ensures.gathers c.requires.open in
    let on : GathersOn first.store mid.store = c.play_until.ensures.gathers c.requires.none in
    subst (λ (d : DiskView). SameDisk d c.flush-in-Err-Stopped.new.self.store.real) (on.real gathers ∙ c.gather.ensures.real) c.flush-in-Err-Stopped.ensures.same
