use Rattle.std.proofs.Common.{◌≡◌, ◌+◌, ◌-◌, ◌++◌, IfOk, List, ℕ, length, ap, sym, subst, ◌∙◌, arith, length-drop, drop}
use Rattle.std.proofs.lemmas.List.{drop-drop}
use Rattle.disk_model.specs.Disk.{Image, InModel, area_of, bytes_on}
use Rattle.disk_model.specs.declared.disk.Area.{Area}
use Rattle.journal.specs.Area.{record_of}
use Rattle.journal.specs.inside.Reads.{Begins}
use Rattle.journal.proofs.Readings.{reads_on, so_before}
use Rattle.journal.proofs.Windows.{copied}
use Rattle.journal.proofs.walk.payload_at.Goals as goal

pub returns-clause-reads : goal.returns-clause-reads
returns-clause-reads g c = reads_on _ _ _ _ c.in_default.ensures.reads c.copy.ensures.reads

pub returns-clause-bytes : goal.returns-clause-bytes
returns-clause-bytes g c = λ model payload rest is some fits here.
    let old = g.D.Disk.view c.args.disk.now in
    let area = area_of c.args.window.now.area (bytes_on old) in
    let gate = c.args.gate in
    let begins = subst (λ (l : List ℕ). Begins c.following.result.now l) here (c.following.ensures.shows area (c.in_default.ensures.shows model)) in
    let left : c.args.window.now.limit - gate ≡ length (record_of payload ++ rest) = omega (arith, ap length here, length-drop gate area, (c.requires.shows model).limit) in
    let reported = c.payload_len_at-len.ensures.reported payload rest is (omega (arith, fits)) some left begins in
    let following : drop (gate + 5) area ≡ payload ++ rest = sym (drop-drop 5 gate area) ∙ ap (λ (l : List ℕ). drop 5 l) here in
    let read = so_before (λ (i : Image). IfOk c.copy.result (λ bytes. Begins bytes.items (drop (gate + 5) (area_of c.args.window.now.area i)))) _ old (g.D.Disk.view c.fill.new.disk) c.fill.ensures.reads (subst (λ (a : Area). InModel (g.D.Disk.view c.fill.new.disk) (IfOk c.copy.result (λ bytes. Begins bytes.items (drop (gate + 5) (area_of a (bytes_on (g.D.Disk.view c.fill.new.disk))))))) c.fill.ensures.area c.copy.ensures.bytes) model in
    copied c.copy.result payload (drop (gate + 5) area) rest _ reported following c.copy.ensures.len read
