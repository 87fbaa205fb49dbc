use Rattle.std.proofs.Common.{◌≡◌, [], List, ℕ, IsTrue, sym, ap, ◌∙◌, subst}
use Rattle.disk_model.specs.Disk.{DiskView, InModel, LeavesOnly, SameDisk}
use Rattle.journal.specs.Kept.{EitherStands}
use Rattle.recovery.specs.declared.base.Base.{Base}
use Rattle.recovery.specs.inside.Base.{disk_of, owed_to, KeepsIn}
use Rattle.recovery.proofs.Owed.{again_flushed, keeps_back, owes_none}
use Rattle.recovery.proofs.base.Base.again.Goals as goal

pub returns-in-Ok-rewrite_from-clause-answers : goal.returns-in-Ok-rewrite_from-clause-answers
returns-in-Ok-rewrite_from-clause-answers g c =
    again_flushed g.D.Disk.view c.args.self c.in-Gathering.journal c.in-Gathering.field-1 c.in-Gathering.is c.requires.flushed c.in-Ok-rewrite_from.journal (g.S.Source.payloads c.args.source.now) c.in-Ok-rewrite_from.ensures.ends
    (c.in-Ok-rewrite_from.ensures.steady (λ no. no)) c.in-Ok-rewrite_from.ensures.ok

pub returns-in-Ok-clause-same : goal.returns-in-Ok-clause-same
returns-in-Ok-clause-same g c = subst (λ (b : Base g.row.D.Denot). SameDisk (disk_of g.D.Disk.view b) c.in-Ok.journal.disk) (sym c.in-Open.is) c.in-Ok.ensures.same

pub returns-in-Ok-clause-any_moment : goal.returns-in-Ok-clause-any_moment
returns-in-Ok-clause-any_moment g c = subst (λ (b : Base g.row.D.Denot). InModel (disk_of g.D.Disk.view b) ((payloads : List (List ℕ)) → KeepsIn b payloads → LeavesOnly (EitherStands payloads (g.S.Source.payloads c.args.source.now)) (disk_of g.D.Disk.view b).history c.in-Ok.journal.disk.history)) (sym c.in-Open.is) c.in-Ok.ensures.any_moment

pub returns-in-Err-Disk-clause-same : goal.returns-in-Err-Disk-clause-same
returns-in-Err-Disk-clause-same g c = subst (λ (b : Base g.row.D.Denot). SameDisk (disk_of g.D.Disk.view b) (g.D.Disk.view c.in-Err-Disk.disk)) (sym c.in-Open.is) (rw c.in-Err-Disk.field-0-is at c.in-Err-Disk.ensures.same)

pub returns-in-Err-Disk-clause-any_moment : goal.returns-in-Err-Disk-clause-any_moment
returns-in-Err-Disk-clause-any_moment g c = subst (λ (b : Base g.row.D.Denot). InModel (disk_of g.D.Disk.view b) ((payloads : List (List ℕ)) → KeepsIn b payloads → LeavesOnly (EitherStands payloads (g.S.Source.payloads c.args.source.now)) (disk_of g.D.Disk.view b).history (g.D.Disk.view c.in-Err-Disk.disk).history)) (sym c.in-Open.is) (rw c.in-Err-Disk.field-0-is at c.in-Err-Disk.ensures.any_moment)

pub returns-in-Ok-rewrite_from-clause-same : goal.returns-in-Ok-rewrite_from-clause-same
returns-in-Ok-rewrite_from-clause-same g c =
    let none : c.in-Gathering.field-1.payloads ≡ [] = ap (λ (b : Base g.row.D.Denot). owed_to b) (sym c.in-Gathering.is) ∙ c.requires.flushed in
    let is : disk_of g.D.Disk.view c.args.self ≡ c.in-Gathering.journal.disk = ap (λ (b : Base g.row.D.Denot). disk_of g.D.Disk.view b) c.in-Gathering.is ∙ owes_none c.in-Gathering.journal.disk c.in-Gathering.journal.end c.in-Gathering.field-1.payloads none in
    subst (λ (d : DiskView). SameDisk d c.in-Ok-rewrite_from.journal.disk) (sym is) c.in-Ok-rewrite_from.ensures.same

pub returns-in-Ok-rewrite_from-clause-any_moment : goal.returns-in-Ok-rewrite_from-clause-any_moment
returns-in-Ok-rewrite_from-clause-any_moment g c = λ model payloads keeps.
    let none : c.in-Gathering.field-1.payloads ≡ [] = ap (λ (b : Base g.row.D.Denot). owed_to b) (sym c.in-Gathering.is) ∙ c.requires.flushed in
    let is : disk_of g.D.Disk.view c.args.self ≡ c.in-Gathering.journal.disk = ap (λ (b : Base g.row.D.Denot). disk_of g.D.Disk.view b) c.in-Gathering.is ∙ owes_none c.in-Gathering.journal.disk c.in-Gathering.journal.end c.in-Gathering.field-1.payloads none in
    let moments = c.in-Ok-rewrite_from.ensures.any_moment (subst (λ (d : DiskView). IsTrue d.keeps_model) is model) payloads
    (keeps_back c.in-Gathering.journal c.in-Gathering.field-1.payloads payloads none (subst (λ (b : Base g.row.D.Denot). KeepsIn b payloads) c.in-Gathering.is keeps)) in
    subst (λ (d : DiskView). LeavesOnly (EitherStands payloads (g.S.Source.payloads c.args.source.now)) d.history c.in-Ok-rewrite_from.journal.disk.history) (sym is) moments

pub returns-in-Err-Disk-rewrite_from-clause-same : goal.returns-in-Err-Disk-rewrite_from-clause-same
returns-in-Err-Disk-rewrite_from-clause-same g c =
    let none : c.in-Gathering.field-1.payloads ≡ [] = ap (λ (b : Base g.row.D.Denot). owed_to b) (sym c.in-Gathering.is) ∙ c.requires.flushed in
    let is : disk_of g.D.Disk.view c.args.self ≡ c.in-Gathering.journal.disk = ap (λ (b : Base g.row.D.Denot). disk_of g.D.Disk.view b) c.in-Gathering.is ∙ owes_none c.in-Gathering.journal.disk c.in-Gathering.journal.end c.in-Gathering.field-1.payloads none in
    subst (λ (d : DiskView). SameDisk d (g.D.Disk.view c.in-Err-Disk-rewrite_from.disk)) (sym is) (rw c.in-Err-Disk-rewrite_from.field-0-is at c.in-Err-Disk-rewrite_from.ensures.same)

pub returns-in-Err-Disk-rewrite_from-clause-any_moment : goal.returns-in-Err-Disk-rewrite_from-clause-any_moment
returns-in-Err-Disk-rewrite_from-clause-any_moment g c = λ model payloads keeps.
    let none : c.in-Gathering.field-1.payloads ≡ [] = ap (λ (b : Base g.row.D.Denot). owed_to b) (sym c.in-Gathering.is) ∙ c.requires.flushed in
    let is : disk_of g.D.Disk.view c.args.self ≡ c.in-Gathering.journal.disk = ap (λ (b : Base g.row.D.Denot). disk_of g.D.Disk.view b) c.in-Gathering.is ∙ owes_none c.in-Gathering.journal.disk c.in-Gathering.journal.end c.in-Gathering.field-1.payloads none in
    let moments = (rw c.in-Err-Disk-rewrite_from.field-0-is at c.in-Err-Disk-rewrite_from.ensures.any_moment) (subst (λ (d : DiskView). IsTrue d.keeps_model) is model) payloads
    (keeps_back c.in-Gathering.journal c.in-Gathering.field-1.payloads payloads none (subst (λ (b : Base g.row.D.Denot). KeepsIn b payloads) c.in-Gathering.is keeps)) in
    subst (λ (d : DiskView). LeavesOnly (EitherStands payloads (g.S.Source.payloads c.args.source.now)) d.history (g.D.Disk.view c.in-Err-Disk-rewrite_from.disk).history) (sym is) moments
