use Rattle.std.proofs.Common.{◌≡◌, [], ◌∷◌, refl, sym, subst, Ok, true, false}
use Rattle.std.specs.Prelude.{Bool, Result}
use Rattle.offline_programs.specs.declared.fault.RunFault.{RunFault}
use Rattle.driver.specs.declared.action.Action.{Action}
use Rattle.driver.specs.declared.action.Action.TheVariants as action
use Rattle.driver.specs.Place.{agenda_rules, rules, source_rules}
use Rattle.driver.specs.Items.{ask, items_by}
use Rattle.driver.specs.Runs.{DidSteps, again, left_by_answer, parts, seen}
use Rattle.driver.proofs.Doing.{did_again}
use Rattle.driver.proofs.Running.{did_none}
use Rattle.driver.proofs.driver.Driver.serve.Goals as goal

pub returns-in-End-clause-did : goal.returns-in-End-clause-did
returns-in-End-clause-did g c =
    let R = rules (agenda_rules g.A.Agenda.rules g.A.Joins.joins) (source_rules g.S.Children.after g.S.Sources.wakes g.S.Sources.clock) g.K.Sink.rules in
    let here = parts c.args.self.now.host c.args.self.now.sources c.args.self.now.sink c.args.self.now.agenda in
    λ n w h. did_none R w here n (items_by c.args.action) (left_by_answer again) (Ok false) (subst (λ (t : Action). [] ≡ items_by t) (sym c.in-End.is) refl) h

pub returns-in-Nothing-clause-did : goal.returns-in-Nothing-clause-did
returns-in-Nothing-clause-did g c =
    let R = rules (agenda_rules g.A.Agenda.rules g.A.Joins.joins) (source_rules g.S.Children.after g.S.Sources.wakes g.S.Sources.clock) g.K.Sink.rules in
    let here = parts c.args.self.now.host c.args.self.now.sources c.args.self.now.sink c.args.self.now.agenda in
    λ n w h. did_none R w here n (items_by c.args.action) (left_by_answer again) (Ok true) (subst (λ (t : Action). ask ∷ [] ≡ items_by t) (sym c.in-Nothing.is) refl) h

pub returns-in-Watch-clause-did : goal.returns-in-Watch-clause-did
returns-in-Watch-clause-did g c =
    let R = rules (agenda_rules g.A.Agenda.rules g.A.Joins.joins) (source_rules g.S.Children.after g.S.Sources.wakes g.S.Sources.clock) g.K.Sink.rules in
    let here = parts c.args.self.now.host c.args.self.now.sources c.args.self.now.sink c.args.self.now.agenda in
    λ n w h. subst (λ (t : Action). DidSteps R (seen n w here) (items_by t) (left_by_answer again) c.and_again.result
    (n, (parts c.watch.new.self.host c.watch.new.self.sources c.watch.new.self.sink c.watch.new.self.agenda))) (sym c.in-Watch.is)
    (subst (λ (r : Result Bool RunFault). DidSteps R (seen n w here) (items_by (action.Watch c.in-Watch.input c.in-Watch.patience)) (left_by_answer again) r
    (n, (parts c.watch.new.self.host c.watch.new.self.sources c.watch.new.self.sink c.watch.new.self.agenda))) (sym c.and_again.ensures)
    (did_again R (seen n w here) (items_by (action.Watch c.in-Watch.input c.in-Watch.patience)) c.watch.result
    (n, (parts c.watch.new.self.host c.watch.new.self.sources c.watch.new.self.sink c.watch.new.self.agenda)) (c.watch.ensures.did n (ask ∷ []) w h)))

pub returns-in-Hear-clause-did : goal.returns-in-Hear-clause-did
returns-in-Hear-clause-did g c =
    let R = rules (agenda_rules g.A.Agenda.rules g.A.Joins.joins) (source_rules g.S.Children.after g.S.Sources.wakes g.S.Sources.clock) g.K.Sink.rules in
    let here = parts c.args.self.now.host c.args.self.now.sources c.args.self.now.sink c.args.self.now.agenda in
    λ n w h. subst (λ (t : Action). DidSteps R (seen n w here) (items_by t) (left_by_answer again) c.and_again-in-Hear.result
    (n, (parts c.hear.new.self.host c.hear.new.self.sources c.hear.new.self.sink c.hear.new.self.agenda))) (sym c.in-Hear.is)
    (subst (λ (r : Result Bool RunFault). DidSteps R (seen n w here) (items_by (action.Hear c.in-Hear.seat c.in-Hear.most)) (left_by_answer again) r
    (n, (parts c.hear.new.self.host c.hear.new.self.sources c.hear.new.self.sink c.hear.new.self.agenda))) (sym c.and_again-in-Hear.ensures)
    (did_again R (seen n w here) (items_by (action.Hear c.in-Hear.seat c.in-Hear.most)) c.hear.result
    (n, (parts c.hear.new.self.host c.hear.new.self.sources c.hear.new.self.sink c.hear.new.self.agenda)) (c.hear.ensures.did n (ask ∷ []) w h)))

pub returns-in-Lines-clause-did : goal.returns-in-Lines-clause-did
returns-in-Lines-clause-did g c =
    let R = rules (agenda_rules g.A.Agenda.rules g.A.Joins.joins) (source_rules g.S.Children.after g.S.Sources.wakes g.S.Sources.clock) g.K.Sink.rules in
    let here = parts c.args.self.now.host c.args.self.now.sources c.args.self.now.sink c.args.self.now.agenda in
    λ n w h. subst (λ (t : Action). DidSteps R (seen n w here) (items_by t) (left_by_answer again) c.and_again-in-Lines.result
    (n, (parts c.take_and_print.new.self.host c.take_and_print.new.self.sources c.take_and_print.new.self.sink c.take_and_print.new.self.agenda)))
    (sym c.in-Lines.is) (subst (λ (r : Result Bool RunFault). DidSteps R (seen n w here) (items_by (action.Lines c.in-Lines.first c.in-Lines.events))
    (left_by_answer again) r (n, (parts c.take_and_print.new.self.host c.take_and_print.new.self.sources c.take_and_print.new.self.sink c.take_and_print.new.self.agenda))) (sym c.and_again-in-Lines.ensures) (did_again R (seen n w here) (items_by (action.Lines c.in-Lines.first c.in-Lines.events)) c.take_and_print.result (n, (parts c.take_and_print.new.self.host c.take_and_print.new.self.sources c.take_and_print.new.self.sink c.take_and_print.new.self.agenda)) (c.take_and_print.ensures.did n (ask ∷ []) w h)))

pub returns-in-Transaction-clause-did : goal.returns-in-Transaction-clause-did
returns-in-Transaction-clause-did g c =
    let R = rules (agenda_rules g.A.Agenda.rules g.A.Joins.joins) (source_rules g.S.Children.after g.S.Sources.wakes g.S.Sources.clock) g.K.Sink.rules in
    let here = parts c.args.self.now.host c.args.self.now.sources c.args.self.now.sink c.args.self.now.agenda in
    λ n w h. subst (λ (t : Action). DidSteps R (seen n w here) (items_by t) (left_by_answer again) c.and_again-in-Transaction.result
    (n, (parts c.take_transaction.new.self.host c.take_transaction.new.self.sources c.take_transaction.new.self.sink c.take_transaction.new.self.agenda))) (sym c.in-Transaction.is)
    (subst (λ (r : Result Bool RunFault). DidSteps R (seen n w here) (items_by (action.Transaction c.in-Transaction.first c.in-Transaction.edits)) (left_by_answer again) r
    (n, (parts c.take_transaction.new.self.host c.take_transaction.new.self.sources c.take_transaction.new.self.sink c.take_transaction.new.self.agenda)))
    (sym c.and_again-in-Transaction.ensures) (did_again R (seen n w here) (items_by (action.Transaction c.in-Transaction.first c.in-Transaction.edits)) c.take_transaction.result
    (n, (parts c.take_transaction.new.self.host c.take_transaction.new.self.sources c.take_transaction.new.self.sink c.take_transaction.new.self.agenda))
    (c.take_transaction.ensures.did n (ask ∷ []) w h)))

pub returns-in-Edits-clause-did : goal.returns-in-Edits-clause-did
returns-in-Edits-clause-did g c =
    let R = rules (agenda_rules g.A.Agenda.rules g.A.Joins.joins) (source_rules g.S.Children.after g.S.Sources.wakes g.S.Sources.clock) g.K.Sink.rules in
    let here = parts c.args.self.now.host c.args.self.now.sources c.args.self.now.sink c.args.self.now.agenda in
    λ n w h. subst (λ (t : Action). DidSteps R (seen n w here) (items_by t) (left_by_answer again) c.and_again-in-Edits.result
    (n, (parts c.take_edits.new.self.host c.take_edits.new.self.sources c.take_edits.new.self.sink c.take_edits.new.self.agenda))) (sym c.in-Edits.is)
    (subst (λ (r : Result Bool RunFault). DidSteps R (seen n w here) (items_by (action.Edits c.in-Edits.up_to c.in-Edits.edits)) (left_by_answer again) r
    (n, (parts c.take_edits.new.self.host c.take_edits.new.self.sources c.take_edits.new.self.sink c.take_edits.new.self.agenda)))
    (sym c.and_again-in-Edits.ensures) (did_again R (seen n w here) (items_by (action.Edits c.in-Edits.up_to c.in-Edits.edits)) c.take_edits.result
    (n, (parts c.take_edits.new.self.host c.take_edits.new.self.sources c.take_edits.new.self.sink c.take_edits.new.self.agenda))
    (c.take_edits.ensures.did n (ask ∷ []) w h)))

pub returns-in-Alone-clause-did : goal.returns-in-Alone-clause-did
returns-in-Alone-clause-did g c =
    let R = rules (agenda_rules g.A.Agenda.rules g.A.Joins.joins) (source_rules g.S.Children.after g.S.Sources.wakes g.S.Sources.clock) g.K.Sink.rules in
    let here = parts c.args.self.now.host c.args.self.now.sources c.args.self.now.sink c.args.self.now.agenda in
    λ n w h. subst (λ (t : Action). DidSteps R (seen n w here) (items_by t) (left_by_answer again) c.and_again-in-Alone.result
    (n, (parts c.take_alone.new.self.host c.take_alone.new.self.sources c.take_alone.new.self.sink c.take_alone.new.self.agenda))) (sym c.in-Alone.is)
    (subst (λ (r : Result Bool RunFault). DidSteps R (seen n w here) (items_by (action.Alone c.in-Alone.event)) (left_by_answer again) r
    (n, (parts c.take_alone.new.self.host c.take_alone.new.self.sources c.take_alone.new.self.sink c.take_alone.new.self.agenda)))
    (sym c.and_again-in-Alone.ensures) (did_again R (seen n w here) (items_by (action.Alone c.in-Alone.event)) c.take_alone.result
    (n, (parts c.take_alone.new.self.host c.take_alone.new.self.sources c.take_alone.new.self.sink c.take_alone.new.self.agenda))
    (c.take_alone.ensures.did n (ask ∷ []) w h)))

pub returns-in-Receive-clause-did : goal.returns-in-Receive-clause-did
returns-in-Receive-clause-did g c =
    let R = rules (agenda_rules g.A.Agenda.rules g.A.Joins.joins) (source_rules g.S.Children.after g.S.Sources.wakes g.S.Sources.clock) g.K.Sink.rules in
    let here = parts c.args.self.now.host c.args.self.now.sources c.args.self.now.sink c.args.self.now.agenda in
    λ n w h. subst (λ (t : Action). DidSteps R (seen n w here) (items_by t) (left_by_answer again) c.and_again-in-Receive.result
    (n, (parts c.receive.new.self.host c.receive.new.self.sources c.receive.new.self.sink c.receive.new.self.agenda))) (sym c.in-Receive.is)
    (subst (λ (r : Result Bool RunFault). DidSteps R (seen n w here) (items_by (action.Receive c.in-Receive.seat)) (left_by_answer again) r
    (n, (parts c.receive.new.self.host c.receive.new.self.sources c.receive.new.self.sink c.receive.new.self.agenda))) (sym c.and_again-in-Receive.ensures)
    (did_again R (seen n w here) (items_by (action.Receive c.in-Receive.seat)) c.receive.result
    (n, (parts c.receive.new.self.host c.receive.new.self.sources c.receive.new.self.sink c.receive.new.self.agenda))
    (c.receive.ensures.did n (ask ∷ []) w h)))

pub returns-in-Checkpoint-clause-did : goal.returns-in-Checkpoint-clause-did
returns-in-Checkpoint-clause-did g c =
    let R = rules (agenda_rules g.A.Agenda.rules g.A.Joins.joins) (source_rules g.S.Children.after g.S.Sources.wakes g.S.Sources.clock) g.K.Sink.rules in
    let here = parts c.args.self.now.host c.args.self.now.sources c.args.self.now.sink c.args.self.now.agenda in
    λ n w h. subst (λ (t : Action). DidSteps R (seen n w here) (items_by t) (left_by_answer again) c.and_again-in-Checkpoint.result
    (n, (parts c.rewrite.new.self.host c.rewrite.new.self.sources c.rewrite.new.self.sink c.rewrite.new.self.agenda))) (sym c.in-Checkpoint.is)
    (subst (λ (r : Result Bool RunFault). DidSteps R (seen n w here) (items_by (action.Checkpoint c.in-Checkpoint.line)) (left_by_answer again) r
    (n, (parts c.rewrite.new.self.host c.rewrite.new.self.sources c.rewrite.new.self.sink c.rewrite.new.self.agenda)))
    (sym c.and_again-in-Checkpoint.ensures) (did_again R (seen n w here) (items_by (action.Checkpoint c.in-Checkpoint.line)) c.rewrite.result
    (n, (parts c.rewrite.new.self.host c.rewrite.new.self.sources c.rewrite.new.self.sink c.rewrite.new.self.agenda))
    (c.rewrite.ensures.did n (ask ∷ []) w h)))

pub returns-in-Stall-clause-did : goal.returns-in-Stall-clause-did
returns-in-Stall-clause-did g c =
    let R = rules (agenda_rules g.A.Agenda.rules g.A.Joins.joins) (source_rules g.S.Children.after g.S.Sources.wakes g.S.Sources.clock) g.K.Sink.rules in
    let here = parts c.args.self.now.host c.args.self.now.sources c.args.self.now.sink c.args.self.now.agenda in
    λ n w h. subst (λ (t : Action). DidSteps R (seen n w here) (items_by t) (left_by_answer again) c.and_again-in-Stall.result
    (n, (parts c.stall.new.self.host c.stall.new.self.sources c.stall.new.self.sink c.stall.new.self.agenda))) (sym c.in-Stall.is)
    (subst (λ (r : Result Bool RunFault). DidSteps R (seen n w here) (items_by (action.Stall)) (left_by_answer again) r
    (n, (parts c.stall.new.self.host c.stall.new.self.sources c.stall.new.self.sink c.stall.new.self.agenda))) (sym c.and_again-in-Stall.ensures)
    (did_again R (seen n w here) (items_by (action.Stall)) c.stall.result
    (n, (parts c.stall.new.self.host c.stall.new.self.sources c.stall.new.self.sink c.stall.new.self.agenda)) (c.stall.ensures.did n (ask ∷ []) w h)))

pub returns-in-Interrupt-clause-did : goal.returns-in-Interrupt-clause-did
returns-in-Interrupt-clause-did g c =
    let R = rules (agenda_rules g.A.Agenda.rules g.A.Joins.joins) (source_rules g.S.Children.after g.S.Sources.wakes g.S.Sources.clock) g.K.Sink.rules in
    let here = parts c.args.self.now.host c.args.self.now.sources c.args.self.now.sink c.args.self.now.agenda in
    λ n w h. subst (λ (t : Action). DidSteps R (seen n w here) (items_by t) (left_by_answer again) c.and_again-in-Interrupt.result
    (n, (parts c.interrupt.new.self.host c.interrupt.new.self.sources c.interrupt.new.self.sink c.interrupt.new.self.agenda))) (sym c.in-Interrupt.is)
    (subst (λ (r : Result Bool RunFault). DidSteps R (seen n w here) (items_by (action.Interrupt c.in-Interrupt.name)) (left_by_answer again) r
    (n, (parts c.interrupt.new.self.host c.interrupt.new.self.sources c.interrupt.new.self.sink c.interrupt.new.self.agenda)))
    (sym c.and_again-in-Interrupt.ensures) (did_again R (seen n w here) (items_by (action.Interrupt c.in-Interrupt.name)) c.interrupt.result
    (n, (parts c.interrupt.new.self.host c.interrupt.new.self.sources c.interrupt.new.self.sink c.interrupt.new.self.agenda))
    (c.interrupt.ensures.did n (ask ∷ []) w h)))

pub returns-in-Show-clause-did : goal.returns-in-Show-clause-did
returns-in-Show-clause-did g c =
    let R = rules (agenda_rules g.A.Agenda.rules g.A.Joins.joins) (source_rules g.S.Children.after g.S.Sources.wakes g.S.Sources.clock) g.K.Sink.rules in
    let here = parts c.args.self.now.host c.args.self.now.sources c.args.self.now.sink c.args.self.now.agenda in
    λ n w h. subst (λ (t : Action). DidSteps R (seen n w here) (items_by t) (left_by_answer again) c.and_again-in-Show.result
    (n, (parts c.show_and_heed.new.self.host c.show_and_heed.new.self.sources c.show_and_heed.new.self.sink c.show_and_heed.new.self.agenda)))
    (sym c.in-Show.is) (subst (λ (r : Result Bool RunFault). DidSteps R (seen n w here) (items_by (action.Show c.in-Show.show)) (left_by_answer again) r
    (n, (parts c.show_and_heed.new.self.host c.show_and_heed.new.self.sources c.show_and_heed.new.self.sink c.show_and_heed.new.self.agenda)))
    (sym c.and_again-in-Show.ensures) (did_again R (seen n w here) (items_by (action.Show c.in-Show.show)) c.show_and_heed.result
    (n, (parts c.show_and_heed.new.self.host c.show_and_heed.new.self.sources c.show_and_heed.new.self.sink c.show_and_heed.new.self.agenda))
    (c.show_and_heed.ensures.did n (ask ∷ []) w h)))
