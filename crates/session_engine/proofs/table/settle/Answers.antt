use Rattle.std.proofs.Common.{ap, sym, ◌∙◌, Bool}
use Rattle.std.specs.Prelude.{if◌then◌else◌}
use Rattle.session_engine.specs.Named.{without_named}
use Rattle.session_engine.specs.Host.{name_of}
use Rattle.session_engine.proofs.Tables.{taken_out}
use Rattle.session_engine.proofs.table.settle.Goals as goal

pub returns-then-over : goal.returns-then-over
returns-then-over c =
    let rs = c.args.lives.now.items in
    taken_out c.args.name rs c.remove_life.new.lives.items c.remove_life.result c.remove_life.ensures
    ∙ sym (ap (λ (b : Bool). if b then without_named name_of c.args.name rs else rs) c.if-over.true)
