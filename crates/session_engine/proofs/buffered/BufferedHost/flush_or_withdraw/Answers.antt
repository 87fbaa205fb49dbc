use Rattle.std.proofs.Common.{◌≡◌, List, [], true, false, sym, subst, ◌∙◌, ap, refl}
use Rattle.std.specs.List.{list_any}
use Rattle.disk_model.specs.Disk.{DiskView, Rises, SameDisk}
use Rattle.recovery.specs.Sheets.{GathersOn}
use Rattle.host_events.specs.declared.outcome.Outcome.{Outcome}
use Rattle.session_engine.specs.Gathers.{NoCheckpoints}
use Rattle.session_engine.specs.Groups.{is_refusal}
use Rattle.session_engine.proofs.Gathering.{broke_by, failed_group, took_group}
use Rattle.session_engine.proofs.Playing.{same_self}
use Rattle.session_engine.proofs.Tables.{numbers_are}
use Rattle.session_engine.proofs.Withdrawing.{all_played, few_refused, made_refused, never_stops, no_checkpoints, withdraws}
use Rattle.session_engine.proofs.buffered.BufferedHost.flush_or_withdraw.Goals as goal

pub unreachable-requires : goal.unreachable-requires
unreachable-requires g c =
    let first = c.gather.new.self in
    let mid = c.play_onto.new.self in
    let reported = c.play_onto.new.outcomes.items in
    let events = c.args.events.items in
    let may = c.requires.may in
    let none : NoCheckpoints events = no_checkpoints events c.requires.edits in
    let gathers : first.store.gathers ≡ true = c.gather.ensures.gathers may.stands.stands.still_open in
    let host = c.gather.ensures.goes_on may.world may.stands in
    never_stops may.world events first mid reported c.in-Err.field-0 c.requires.edits (c.in-Err.ensures.halts may.world host) (c.in-Err.ensures.at_once none) gathers

-- One is refused.

pub withdraw-requires : goal.withdraw-requires
withdraw-requires g c =
    let old = c.args.self.now in
    let first = c.gather.new.self in
    let mid = c.play_onto.new.self in
    let reported = c.play_onto.new.outcomes.items in
    let events = c.args.events.items in
    let may = c.requires.may in
    let none : NoCheckpoints events = no_checkpoints events c.requires.edits in
    let gathers : first.store.gathers ≡ true = c.gather.ensures.gathers may.stands.stands.still_open in
    let on : GathersOn first.store mid.store = c.play_onto.ensures.gathers none in
    let real : mid.store.real ≡ old.store.real = on.real gathers ∙ c.gather.ensures.real in
    let start : mid.store.start ≡ old.store.start = on.start gathers ∙ c.gather.ensures.start in
    let w = may.world in
    let host = c.gather.ensures.goes_on w may.stands in
    let p = c.in-Ok.ensures.played w host in
    (w, withdraws w events reported mid p old c.args.before.contents may.stands c.requires.edits may real start)

pub returns-then-has_refusal-clause-same : goal.returns-then-has_refusal-clause-same
returns-then-has_refusal-clause-same g c =
    let old = c.args.self.now in
    let first = c.gather.new.self in
    let mid = c.play_onto.new.self in
    let reported = c.play_onto.new.outcomes.items in
    let events = c.args.events.items in
    let may = c.requires.may in
    let none : NoCheckpoints events = no_checkpoints events c.requires.edits in
    let gathers : first.store.gathers ≡ true = c.gather.ensures.gathers may.stands.stands.still_open in
    let on : GathersOn first.store mid.store = c.play_onto.ensures.gathers none in
    let real : mid.store.real ≡ old.store.real = on.real gathers ∙ c.gather.ensures.real in
    subst (λ (d : DiskView). SameDisk old.store.real d) (sym (c.withdraw.ensures.real ∙ real)) (same_self old.store.real)

pub returns-then-has_refusal-clause-made : goal.returns-then-has_refusal-clause-made
returns-then-has_refusal-clause-made g c = λ w h.
    let old = c.args.self.now in
    let first = c.gather.new.self in
    let mid = c.play_onto.new.self in
    let reported = c.play_onto.new.outcomes.items in
    let events = c.args.events.items in
    let may = c.requires.may in
    let none : NoCheckpoints events = no_checkpoints events c.requires.edits in
    let gathers : first.store.gathers ≡ true = c.gather.ensures.gathers may.stands.stands.still_open in
    let on : GathersOn first.store mid.store = c.play_onto.ensures.gathers none in
    let real : mid.store.real ≡ old.store.real = on.real gathers ∙ c.gather.ensures.real in
    let start : mid.store.start ≡ old.store.start = on.start gathers ∙ c.gather.ensures.start in
    let some : list_any is_refusal reported ≡ true = ap (λ (os : List Outcome). list_any is_refusal os) (sym c.as_slice.ensures.value) ∙ sym c.has_refusal.ensures ∙ c.if-has_refusal.true in
    let host = c.gather.ensures.goes_on w h in
    let p = c.in-Ok.ensures.played w host in
    let back = withdraws w events reported mid p old c.args.before.contents h c.requires.edits may real start in
    made_refused w events reported mid p old c.withdraw.new.self c.refused.result some c.refused.ensures (c.withdraw.ensures.stands w back) (c.withdraw.ensures.disk ∙ real ∙ may.real)

pub returns-then-has_refusal-clause-few : goal.returns-then-has_refusal-clause-few
returns-then-has_refusal-clause-few g c = few_refused c.play_onto.new.outcomes.items _ c.refused.result c.refused.ensures c.play_onto.ensures.few

-- None is.

pub returns-in-Ok-flush-clause-same : goal.returns-in-Ok-flush-clause-same
returns-in-Ok-flush-clause-same g c =
    let old = c.args.self.now in
    let first = c.gather.new.self in
    let mid = c.play_onto.new.self in
    let reported = c.play_onto.new.outcomes.items in
    let events = c.args.events.items in
    let may = c.requires.may in
    let none : NoCheckpoints events = no_checkpoints events c.requires.edits in
    let gathers : first.store.gathers ≡ true = c.gather.ensures.gathers may.stands.stands.still_open in
    let on : GathersOn first.store mid.store = c.play_onto.ensures.gathers none in
    let real : mid.store.real ≡ old.store.real = on.real gathers ∙ c.gather.ensures.real in
    subst (λ (d : DiskView). SameDisk d c.flush.new.self.store.real) real c.flush.ensures.same

pub returns-in-Ok-flush-clause-made : goal.returns-in-Ok-flush-clause-made
returns-in-Ok-flush-clause-made g c = λ w h.
    let old = c.args.self.now in
    let first = c.gather.new.self in
    let mid = c.play_onto.new.self in
    let reported = c.play_onto.new.outcomes.items in
    let events = c.args.events.items in
    let may = c.requires.may in
    let none : NoCheckpoints events = no_checkpoints events c.requires.edits in
    let gathers : first.store.gathers ≡ true = c.gather.ensures.gathers may.stands.stands.still_open in
    let on : GathersOn first.store mid.store = c.play_onto.ensures.gathers none in
    let real : mid.store.real ≡ old.store.real = on.real gathers ∙ c.gather.ensures.real in
    let same = subst (λ (d : DiskView). SameDisk d mid.store.disk) c.gather.ensures.disk c.play_onto.ensures.same in
    let accepted : list_any is_refusal reported ≡ false = ap (λ (os : List Outcome). list_any is_refusal os) (sym c.as_slice.ensures.value) ∙ sym c.has_refusal.ensures ∙ c.if-has_refusal.false in
    let host = c.gather.ensures.goes_on w h in
    let p = c.in-Ok.ensures.played w host in
    let all = all_played w events reported mid p accepted in
    record {
      took = took_group w events old mid c.flush.new.self real same c.flush.ensures.any_moment reported all (c.in-Ok-flush.ensures.goes_on p.played.leads p.played.stands) c.in-Ok-flush.ensures.flushed;
      accepted = accepted;
    }

pub returns-in-Ok-flush-clause-written : goal.returns-in-Ok-flush-clause-written
returns-in-Ok-flush-clause-written g c =
    let old = c.args.self.now in
    let first = c.gather.new.self in
    let mid = c.play_onto.new.self in
    let reported = c.play_onto.new.outcomes.items in
    let events = c.args.events.items in
    let may = c.requires.may in
    let none : NoCheckpoints events = no_checkpoints events c.requires.edits in
    let gathers : first.store.gathers ≡ true = c.gather.ensures.gathers may.stands.stands.still_open in
    let on : GathersOn first.store mid.store = c.play_onto.ensures.gathers none in
    let real : mid.store.real ≡ old.store.real = on.real gathers ∙ c.gather.ensures.real in
    c.flush.ensures.written (on.closed gathers ∙ c.gather.ensures.open ∙ may.stands.stands.still_open)

pub returns-clause-same : goal.returns-clause-same
returns-clause-same g c =
    let old = c.args.self.now in
    let first = c.gather.new.self in
    let mid = c.play_onto.new.self in
    let reported = c.play_onto.new.outcomes.items in
    let events = c.args.events.items in
    let may = c.requires.may in
    let none : NoCheckpoints events = no_checkpoints events c.requires.edits in
    let gathers : first.store.gathers ≡ true = c.gather.ensures.gathers may.stands.stands.still_open in
    let on : GathersOn first.store mid.store = c.play_onto.ensures.gathers none in
    let real : mid.store.real ≡ old.store.real = on.real gathers ∙ c.gather.ensures.real in
    subst (λ (d : DiskView). SameDisk d c.flush.new.self.store.real) real c.flush.ensures.same

pub returns-clause-halts : goal.returns-clause-halts
returns-clause-halts g c = λ w h.
    let old = c.args.self.now in
    let first = c.gather.new.self in
    let mid = c.play_onto.new.self in
    let reported = c.play_onto.new.outcomes.items in
    let events = c.args.events.items in
    let may = c.requires.may in
    let none : NoCheckpoints events = no_checkpoints events c.requires.edits in
    let gathers : first.store.gathers ≡ true = c.gather.ensures.gathers may.stands.stands.still_open in
    let on : GathersOn first.store mid.store = c.play_onto.ensures.gathers none in
    let real : mid.store.real ≡ old.store.real = on.real gathers ∙ c.gather.ensures.real in
    let same = subst (λ (d : DiskView). SameDisk d mid.store.disk) c.gather.ensures.disk c.play_onto.ensures.same in
    let accepted : list_any is_refusal reported ≡ false = ap (λ (os : List Outcome). list_any is_refusal os) (sym c.as_slice.ensures.value) ∙ sym c.has_refusal.ensures ∙ c.if-has_refusal.false in
    let host = c.gather.ensures.goes_on w h in
    let p = c.in-Ok.ensures.played w host in
    let all = all_played w events reported mid p accepted in
    let failed = c.in-Err-flush.ensures in
    record {
      failed = failed_group w events old mid c.flush.new.self real same c.flush.ensures.any_moment [] reported mid all all.stands.stands.contents (numbers_are mid.lives all.leads.lives all.stands.stands.lives_are) failed.sheet failed.lives failed.closes
          (broke_by c.flush.result c.in-Err-flush.field-0 mid.store.closed (Rises mid.store.real.faults c.flush.new.self.store.real.faults) c.in-Err-flush.is failed.other all.stands.stands.still_open c.flush.ensures.closed.0 c.flush.ensures.faulty);
      all = refl;
      accepted = accepted;
    }

pub returns-clause-written : goal.returns-clause-written
returns-clause-written g c =
    let old = c.args.self.now in
    let first = c.gather.new.self in
    let mid = c.play_onto.new.self in
    let reported = c.play_onto.new.outcomes.items in
    let events = c.args.events.items in
    let may = c.requires.may in
    let none : NoCheckpoints events = no_checkpoints events c.requires.edits in
    let gathers : first.store.gathers ≡ true = c.gather.ensures.gathers may.stands.stands.still_open in
    let on : GathersOn first.store mid.store = c.play_onto.ensures.gathers none in
    let real : mid.store.real ≡ old.store.real = on.real gathers ∙ c.gather.ensures.real in
    c.flush.ensures.written (on.closed gathers ∙ c.gather.ensures.open ∙ may.stands.stands.still_open)
