use Rattle.std.proofs.Common.{sym, subst, Option, ℕ}
use Rattle.worksheet.specs.Contents.{Contents}
use Rattle.session_engine.specs.World.{sheet_in}
use Rattle.session_engine.specs.inside.Commits.{HasFieldIf}
use Rattle.session_engine.proofs.Losses.{if_err, line_has, lost_disk, lost_stands, on_ok, unlost}
use Rattle.session_engine.proofs.engine.Engine.lose.Goals as goal

pub lose-requires-clause-there : goal.lose-requires-clause-there
lose-requires-clause-there g c =
    let w = c.requires.0 in
    let h = c.requires.1 in
    subst (λ (s : Contents). HasFieldIf s c.first_line-line.result) (sym h.contents)
    (subst (λ (x : Option ℕ). HasFieldIf (sheet_in w) x) (sym (c.first_line-line.ensures w.lives h.lives_are)) (line_has (sheet_in w) w c.args.name h.fields))

pub returns-clause-ok : goal.returns-clause-ok
returns-clause-ok g c = λ w h.
    let store = c.args.self.now.store in
    let new = c.lose.new.store in
    let rs = c.args.self.now.lives.items in
    let begun = c.args.self.now.begun in
    let line = c.first_line-line.result in
    let e = c.first_line-line.ensures w.lives h.lives_are in
    on_ok c.lose.result _ _ (λ done. record {
      stands = lost_stands store new rs begun w c.args.name c.args.reason line h e done c.lose.ensures.same;
      disk = lost_disk store new rs begun w c.args.name c.args.reason line h e done (λ model. c.lose.ensures.moments model w.ops h.contents);
    }) (c.lose.ensures.ok w.ops h.contents)

pub returns-clause-fault : goal.returns-clause-fault
returns-clause-fault g c = λ w h.
    let store = c.args.self.now.store in
    let new = c.lose.new.store in
    let rs = c.args.self.now.lives.items in
    let begun = c.args.self.now.begun in
    let line = c.first_line-line.result in
    let e = c.first_line-line.ensures w.lives h.lives_are in
    if_err c.lose.result _ _ (λ fault n.
    let u = unlost store new rs begun w c.args.name c.args.reason line h e fault n (λ model. c.lose.ensures.moments model w.ops h.contents) in
    record { lost = u.lost; is = u.is; contents = u.contents; cause = u.cause; still = u.still }) c.lose.ensures.fault
