use Rattle.std.proofs.Common.{◌≡◌, Err, sym, ◌∙◌, subst, arith, IsTrue}
use Rattle.disk_model.specs.Disk.{DiskView, Image, SameDisk}
use Rattle.disk_model.specs.inside.Moments.{looks_on}
use Rattle.past.specs.Earlier.{FirstAreRead}
use Rattle.past.specs.declared.first.Unread.{Unread}
use Rattle.past.specs.inside.First.{FindsFirst}
use Rattle.past.proofs.Firsts.{passing_reported, read_all, read_few, read_none}
use Rattle.past.proofs.first.read_first.Goals as goal

-- what was read after what was begun
both_same : (a b c : DiskView) → SameDisk a b → SameDisk b c → SameDisk a c
both_same a b c one two = record { room = two.room ∙ one.room; keeps_model = two.keeps_model ∙ one.keeps_model; later = omega (arith, two.later, one.later) }

pub returns-in-Err : goal.returns-in-Err
returns-in-Err g c =
    subst (λ (u : Unread g.row.D.Denot). FirstAreRead g.D.Disk.view c.args.count c.args.disk u.disk (Err u.fault)) (sym c.not_begun.ensures)
    (read_none g.D.Disk.view c.args.count c.args.disk c.in-Err.fault.disk c.in-Err.fault.cause c.in-Err.ensures.same c.in-Err.ensures.looks c.in-Err.ensures.fault c.in-Err.ensures.faulty c.in-Err.ensures.steady)

pub returns-in-Err-take_first : goal.returns-in-Err-take_first
returns-in-Err-take_first g c =
    let begun = c.in-Ok.ensures in
    let read = c.in-Err-take_first.ensures in
    subst (λ (u : Unread g.row.D.Denot). FirstAreRead g.D.Disk.view c.args.count c.args.disk u.disk (Err u.fault)) (sym c.not_begun-in-Err-take_first.ensures)
    (read_none g.D.Disk.view c.args.count c.args.disk c.in-Err-take_first.fault.disk c.in-Err-take_first.fault.cause (both_same _ _ _ begun.same read.same)
    (λ model. looks_on _ _ _ (begun.looks model) (read.looks (subst IsTrue (sym begun.same.keeps_model) model))) (λ model. passing_reported _ _ read.cause)
    (λ e. omega (arith, read.faulty e, begun.steady)) (λ none. read.steady none ∙ begun.steady))

pub returns-then-found-count : goal.returns-then-found-count
returns-then-found-count g c =
    let begun = c.in-Ok.ensures in
    let read = c.in-Ok-take_first.ensures in
    subst (λ (u : Unread g.row.D.Denot). FirstAreRead g.D.Disk.view c.args.count c.args.disk u.disk (Err u.fault)) (sym c.lacking.ensures)
    (read_few g.D.Disk.view c.args.count c.args.disk c.in-Ok-take_first.found (both_same _ _ _ begun.same read.same)
    (λ model. looks_on _ _ _ (begun.looks model) (read.looks (subst IsTrue (sym begun.same.keeps_model) model))) (read.steady ∙ begun.steady)
    (λ model. let found = begun.found model in subst (λ (i : Image). FindsFirst i c.args.count c.in-Ok-take_first.found) (begun.looks model).content (read.found (subst IsTrue (sym begun.same.keeps_model) model) found.0 found.2))
    c.if-found-count.true)

pub returns-else-found-count : goal.returns-else-found-count
returns-else-found-count g c =
    let begun = c.in-Ok.ensures in
    let read = c.in-Ok-take_first.ensures in
    let all : c.in-Ok-take_first.found.kept ≡ c.args.count = omega (arith, read.most, c.if-found-count.false) in
    read_all g.D.Disk.view c.args.count c.args.disk c.in-Ok-take_first.found (both_same _ _ _ begun.same read.same)
    (λ model. looks_on _ _ _ (begun.looks model) (read.looks (subst IsTrue (sym begun.same.keeps_model) model))) (read.steady ∙ begun.steady)
    (λ model. let found = begun.found model in subst (λ (i : Image). FindsFirst i c.args.count c.in-Ok-take_first.found) (begun.looks model).content (read.found (subst IsTrue (sym begun.same.keeps_model) model) found.0 found.2))
    c.longest_rescue.ensures (λ less. omega (arith, less, c.if-found-count.false)) (read.made.0, read.made.1, omega (arith, read.made.2, read.most, c.if-found-count.false)) all
