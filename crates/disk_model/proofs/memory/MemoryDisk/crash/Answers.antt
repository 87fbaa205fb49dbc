use Rattle.std.proofs.Common.{◌≡◌, ◌≤◌, ◌∙◌, ap, length, List, ℕ, refl, sym, take, arith}
use Rattle.std.proofs.lemmas.List.{length-take-le}
use Rattle.disk_model.specs.Calls.{started_with, fresh, settled, history_after}
use Rattle.disk_model.specs.Crash.{image_of, image_named}
use Rattle.disk_model.specs.Memory.{start_of, view_of}
use Rattle.disk_model.specs.declared.memory.Call.{Call}
use Rattle.disk_model.proofs.Tied.{IfOk-weakens, crashed, first_fits, length-past, second_fits}
use Rattle.disk_model.proofs.memory.MemoryDisk.crash.Goals as goal

pub slice_bounds-calls-end : goal.slice_bounds-calls-end
slice_bounds-calls-end c =
    let made : c.args.choice.now.moment ≤ length c.args.self.now.calls.items = omega (arith, c.requires, length-past (started_with (start_of c.args.self.now)) c.args.self.now.calls.items) in
    let all : length c.deref.result.now ≡ length c.args.self.now.calls.items = ap length c.deref.ensures.value in
    sym (length-take-le c.args.choice.now.moment c.deref.result.now (omega (arith, made, all)))

pub with_areas-requires-clause-first_fits : goal.with_areas-requires-clause-first_fits
with_areas-requires-clause-first_fits c =
    let m = c.args.self.now in
    let choice = c.args.choice.now in
    let made : choice.moment ≤ length m.calls.items = omega (arith, c.requires, length-past (started_with (start_of m)) m.calls.items) in
    let first = c.in_ok-first.ensures (started_with (start_of m)) (ap settled (sym c.deref-2.ensures.value))
    ∙ ap (λ (l : List Call). image_of choice.fill choice.grown (history_after (started_with (start_of m)) (take choice.moment l)).now.first) c.deref.ensures.value in
    omega (arith, ap length first, first_fits (start_of m) m.calls.items choice.moment made choice.fill choice.grown, ap length m.first_is, m.first_fits)

pub with_areas-requires-clause-second_fits : goal.with_areas-requires-clause-second_fits
with_areas-requires-clause-second_fits c =
    let m = c.args.self.now in
    let choice = c.args.choice.now in
    let made : choice.moment ≤ length m.calls.items = omega (arith, c.requires, length-past (started_with (start_of m)) m.calls.items) in
    let second = c.in_ok-second.ensures (started_with (start_of m)) (ap settled (sym c.deref-3.ensures.value))
    ∙ ap (λ (l : List Call). image_of choice.fill choice.grown (history_after (started_with (start_of m)) (take choice.moment l)).now.second) c.deref.ensures.value in
    omega (arith, ap length second, second_fits (start_of m) m.calls.items choice.moment made choice.fill choice.grown, ap length m.second_is, m.second_fits)

pub returns : goal.returns
returns c =
    let m = c.args.self.now in
    let choice = c.args.choice.now in
    let made : choice.moment ≤ length m.calls.items = omega (arith, c.requires, length-past (started_with (start_of m)) m.calls.items) in
    let first = c.in_ok-first.ensures (started_with (start_of m)) (ap settled (sym c.deref-2.ensures.value))
    ∙ ap (λ (l : List Call). image_of choice.fill choice.grown (history_after (started_with (start_of m)) (take choice.moment l)).now.first) c.deref.ensures.value in
    let second = c.in_ok-second.ensures (started_with (start_of m)) (ap settled (sym c.deref-3.ensures.value))
    ∙ ap (λ (l : List Call). image_of choice.fill choice.grown (history_after (started_with (start_of m)) (take choice.moment l)).now.second) c.deref.ensures.value in
    IfOk-weakens _ _ c.with_areas.result (λ disk is. crashed (start_of m) m.calls.items choice.moment made choice.fill choice.grown (view_of m) (view_of disk) refl
    (is ∙ ap (λ (l : List ℕ). fresh m.room (record { first = l; second = c.in_ok-second.second.items })) first
    ∙ ap (λ (l : List ℕ). fresh m.room (record { first = (image_named choice.fill choice.grown (history_after (started_with (start_of m)) (take choice.moment m.calls.items)).now).first; second = l })) second)) c.with_areas.ensures
