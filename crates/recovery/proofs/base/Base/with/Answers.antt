use Rattle.std.proofs.Common.{◌≡◌, ◌++◌, ◌∷◌, [], List, ℕ, sym, subst}
use Rattle.disk_model.specs.Disk.{InModel, LeavesOnly, SameDisk, bytes_on}
use Rattle.journal.specs.Kept.{BeforeOrAfter, Keeps, other_of}
use Rattle.recovery.specs.declared.base.Base.{Base}
use Rattle.recovery.specs.inside.Base.{disk_of, KeepsIn}
use Rattle.recovery.proofs.base.Base.with.Goals as goal

pub returns-in-Ok-clause-same : goal.returns-in-Ok-clause-same
returns-in-Ok-clause-same g c = subst (λ (b : Base g.row.D.Denot). SameDisk (disk_of g.D.Disk.view b) c.in-Ok.journal.disk) (sym c.in-Open.is) c.in-Ok.ensures.same

pub returns-in-Ok-clause-other : goal.returns-in-Ok-clause-other
returns-in-Ok-clause-other g c = subst (λ (b : Base g.row.D.Denot). InModel (disk_of g.D.Disk.view b) (other_of (bytes_on c.in-Ok.journal.disk) ≡ other_of (bytes_on (disk_of g.D.Disk.view b)))) (sym c.in-Open.is) c.in-Ok.ensures.other

pub returns-in-Ok-clause-ok : goal.returns-in-Ok-clause-ok
returns-in-Ok-clause-ok g c = subst (λ (b : Base g.row.D.Denot). InModel (disk_of g.D.Disk.view b) ((payloads : List (List ℕ)) → KeepsIn b payloads → Keeps c.in-Ok.journal.disk.history c.in-Ok.journal.end (payloads ++ c.args.frame.now ∷ []))) (sym c.in-Open.is) c.in-Ok.ensures.ok

pub returns-in-Ok-clause-any_moment : goal.returns-in-Ok-clause-any_moment
returns-in-Ok-clause-any_moment g c = subst (λ (b : Base g.row.D.Denot). InModel (disk_of g.D.Disk.view b) ((payloads : List (List ℕ)) → KeepsIn b payloads → LeavesOnly (BeforeOrAfter (disk_of g.D.Disk.view b).history.now payloads c.args.frame.now) (disk_of g.D.Disk.view b).history c.in-Ok.journal.disk.history)) (sym c.in-Open.is) c.in-Ok.ensures.any_moment

pub returns-in-Err-Disk-clause-same : goal.returns-in-Err-Disk-clause-same
returns-in-Err-Disk-clause-same g c = subst (λ (b : Base g.row.D.Denot). SameDisk (disk_of g.D.Disk.view b) (g.D.Disk.view c.in-Err-Disk.disk)) (sym c.in-Open.is) (rw c.in-Err-Disk.field-0-is at c.in-Err-Disk.ensures.same)

pub returns-in-Err-Disk-clause-other : goal.returns-in-Err-Disk-clause-other
returns-in-Err-Disk-clause-other g c = subst (λ (b : Base g.row.D.Denot). InModel (disk_of g.D.Disk.view b) (other_of (bytes_on (g.D.Disk.view c.in-Err-Disk.disk)) ≡ other_of (bytes_on (disk_of g.D.Disk.view b)))) (sym c.in-Open.is) (rw c.in-Err-Disk.field-0-is at c.in-Err-Disk.ensures.other)

pub returns-in-Err-Disk-clause-any_moment : goal.returns-in-Err-Disk-clause-any_moment
returns-in-Err-Disk-clause-any_moment g c = subst (λ (b : Base g.row.D.Denot). InModel (disk_of g.D.Disk.view b) ((payloads : List (List ℕ)) → KeepsIn b payloads → LeavesOnly (BeforeOrAfter (disk_of g.D.Disk.view b).history.now payloads c.args.frame.now) (disk_of g.D.Disk.view b).history (g.D.Disk.view c.in-Err-Disk.disk).history)) (sym c.in-Open.is) (rw c.in-Err-Disk.field-0-is at c.in-Err-Disk.ensures.any_moment)

pub returns-in-Gathering-clause-same : goal.returns-in-Gathering-clause-same
returns-in-Gathering-clause-same g c = subst (λ (b : Base g.row.D.Denot). SameDisk (disk_of g.D.Disk.view b) (disk_of g.D.Disk.view c.owe.result)) (sym c.in-Gathering.is) c.owe.ensures.same

pub returns-in-Gathering-clause-other : goal.returns-in-Gathering-clause-other
returns-in-Gathering-clause-other g c = subst (λ (b : Base g.row.D.Denot). InModel (disk_of g.D.Disk.view b) (other_of (bytes_on (disk_of g.D.Disk.view c.owe.result)) ≡ other_of (bytes_on (disk_of g.D.Disk.view b)))) (sym c.in-Gathering.is) c.owe.ensures.other

pub returns-in-Gathering-clause-ok : goal.returns-in-Gathering-clause-ok
returns-in-Gathering-clause-ok g c = subst (λ (b : Base g.row.D.Denot). InModel (disk_of g.D.Disk.view b) ((payloads : List (List ℕ)) → KeepsIn b payloads → KeepsIn c.owe.result (payloads ++ c.args.frame.now ∷ []))) (sym c.in-Gathering.is) c.owe.ensures.ok

pub returns-in-Gathering-clause-any_moment : goal.returns-in-Gathering-clause-any_moment
returns-in-Gathering-clause-any_moment g c = subst (λ (b : Base g.row.D.Denot). InModel (disk_of g.D.Disk.view b) ((payloads : List (List ℕ)) → KeepsIn b payloads → LeavesOnly (BeforeOrAfter (disk_of g.D.Disk.view b).history.now payloads c.args.frame.now) (disk_of g.D.Disk.view b).history (disk_of g.D.Disk.view c.owe.result).history)) (sym c.in-Gathering.is) c.owe.ensures.any_moment
