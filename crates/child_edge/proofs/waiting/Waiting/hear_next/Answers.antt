use Rattle.std.proofs.Common.{◌≡◌, Some, refl, sym, ap, ◌∙◌, slice_get}
use Rattle.std.proofs.lemmas.Option.{slice_get-get_or}
use Rattle.child_edge.specs.Faithful.{at}
use Rattle.child_edge.proofs.Stepping.{came_on, came_broke}
use Rattle.child_edge.proofs.Waits.{by_cause}
use Rattle.child_edge.proofs.waiting.Waiting.hear_next.Goals as goal

pub returns-in-Ok-clause-ok : goal.returns-in-Ok-clause-ok
returns-in-Ok-clause-ok g c = λ s bs w h came.
    let p = c.in-Ok.ensures.ok w h in
    let here : slice_get c.args.self.now.seats.items c.args.self.now.place ≡ Some c.index-seat.result.now = slice_get-get_or c.args.self.now.seats.items c.args.self.now.place c.index-seat.result.now c.requires ∙ ap Some (sym c.index-seat.ensures) in
    record {
      entries = p.entries;
      leads = p.leads;
      form = came_on g.C.Children.after c.args.self.now s bs (at w c.args.children.now c.args.host.now.store.disk) came _ c.index-seat.result.now p.entries (at p.leads c.take.new.children c.take.new.host.store.disk)
          c.requires here refl refl refl p.form;
      stands = p.stands;
      replied = p.replied;
    }

pub returns-in-Err-clause-err : goal.returns-in-Err-clause-err
returns-in-Err-clause-err g c = λ s bs w h came.
    let here : slice_get c.args.self.now.seats.items c.args.self.now.place ≡ Some c.index-seat.result.now = slice_get-get_or c.args.self.now.seats.items c.args.self.now.place c.index-seat.result.now c.requires ∙ ap Some (sym c.index-seat.ensures) in
    by_cause c.in-Err.cause _ _ _ _ (c.in-Err.ensures.err w h)
    (λ f p. record {
      entries = p.entries;
      leads = p.leads;
      disk = p.disk;
      failed = p.failed;
      form = came_broke g.C.Children.after c.args.self.now s bs (at w c.args.children.now c.args.host.now.store.disk) came c.index-seat.result.now p.entries p.failed (at p.leads c.take.new.children p.disk) here p.form;
      stopped = p.stopped;
      replied = p.replied;
    })
    (λ q. q)
