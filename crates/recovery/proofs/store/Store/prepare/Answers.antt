use Rattle.disk_model.specs.Disk.{DiskView}
use Rattle.std.proofs.Common.{◌≡◌, ◌∙◌, ℕ, arith, length, refl, sym, subst, Option, None, Some}
use Rattle.worksheet.specs.Contents.{Contents}
use Rattle.worksheet.specs.Checks.{first_refusal}
use Rattle.journal.specs.Kept.{Fits}
use Rattle.recovery.specs.Code.{code_of}
use Rattle.recovery.specs.Sheets.{IsStore, SameStore, StoreView}
use Rattle.recovery.specs.declared.base.Base.{Base}
use Rattle.recovery.specs.inside.Base.{disk_of, end_in, IsBaseOf, IsStoreOf, store_on}
use Rattle.recovery.proofs.Allowed.{code_on}
use Rattle.recovery.proofs.Images.{made_in, fits_uncapped}
use Rattle.recovery.proofs.Kept.{is_store, ready_same}
use Rattle.recovery.proofs.Owed.{still_of}
use Rattle.recovery.proofs.store.Store.prepare.Goals as goal

pub code_len-len-requires : goal.code_len-len-requires
code_len-len-requires g c =
    let made = made_in g.D.Disk.view c.self.inside.base c.self.inside.sheet.contents c.self.invariant in
    code_on made.0 c.self.inside.sheet.contents c.args.op.now made.1 (subst (λ (s : StoreView). first_refusal s.sheet.contents c.args.op.now ≡ None) (sym c.self.view_is) c.requires)

pub frame_of-requires-clause-record : goal.frame_of-requires-clause-record
frame_of-requires-clause-record g c =
    let made = made_in g.D.Disk.view c.self.inside.base c.self.inside.sheet.contents c.self.invariant in
    let place = c.has_place.ensures.0 c.if-not-has_place.false in (
      code_on made.0 c.self.inside.sheet.contents c.args.op.now made.1 (subst (λ (s : StoreView). first_refusal s.sheet.contents c.args.op.now ≡ None) (sym c.self.view_is) c.requires),
      (fits_uncapped (disk_of g.D.Disk.view c.in-Some.base).room (end_in c.in-Some.base) (length (code_of c.args.op.now)) (rw c.code_len-len.ensures at place.1)).0,
    )

pub returns-clause-ready : goal.returns-clause-ready
returns-clause-ready g c =
    let made = made_in g.D.Disk.view c.self.inside.base c.self.inside.sheet.contents c.self.invariant in
    let allowed = subst (λ (s : StoreView). first_refusal s.sheet.contents c.args.op.now ≡ None) (sym c.self.view_is) c.requires in
    record {
      allowed = subst (λ (s : Contents). first_refusal s c.args.op.now ≡ None) (sym c.make_room.ensures.same) allowed;
      fits =
          let here = c.has_place.ensures.0 c.if-not-has_place.false in
          let n = length (code_of c.args.op.now) in
          let fits = fits_uncapped (disk_of g.D.Disk.view c.in-Some.base).room (end_in c.in-Some.base) n (rw c.code_len-len.ensures at here.1) in (
            c.make_place.ensures.closed ∙ here.0,
            subst (λ (end : ℕ). Fits (disk_of g.D.Disk.view c.make_place.new.self).room end n) (sym c.make_place.ensures.end)
                (subst (λ (d : DiskView). Fits d.room (end_in c.in-Some.base) n) (sym c.make_place.ensures.disk) fits),
          );
      room = c.in_ok-make_room.ensures.ok;
      place =
          let here = c.has_place.ensures.0 c.if-not-has_place.false in
          let short = (fits_uncapped (disk_of g.D.Disk.view c.in-Some.base).room (end_in c.in-Some.base) (length (code_of c.args.op.now)) (rw c.code_len-len.ensures at here.1)).0 in
          omega (arith, c.in_ok-make_place.ensures.place, c.code_len-len.ensures, short);
      own = record {
        typed = c.in_ok-frame_of.ensures.typed;
        fits = code_on made.0 c.self.inside.sheet.contents c.args.op.now made.1 allowed;
        is = c.in_ok-frame_of.ensures.code;
      };
    }

pub returns-clause-store : goal.returns-clause-store
returns-clause-store g c = subst IsStore c.self.view_is (is_store g.D.Disk.view c.self.inside.base c.self.inside.sheet c.self.invariant)

pub returns-then-not-has_place-clause-store : goal.returns-then-not-has_place-clause-store
returns-then-not-has_place-clause-store g c = subst IsStore c.self.view_is (is_store g.D.Disk.view c.self.inside.base c.self.inside.sheet c.self.invariant)

pub returns-in_err-make_room-clause-store : goal.returns-in_err-make_room-clause-store
returns-in_err-make_room-clause-store g c = subst IsStore c.self.view_is (is_store g.D.Disk.view c.self.inside.base c.self.inside.sheet c.self.invariant)

pub returns-in_err-frame_of-clause-store : goal.returns-in_err-frame_of-clause-store
returns-in_err-frame_of-clause-store g c = subst IsStore c.self.view_is (is_store g.D.Disk.view c.self.inside.base c.self.inside.sheet c.self.invariant)

pub returns-in_err-make_place-clause-store : goal.returns-in_err-make_place-clause-store
returns-in_err-make_place-clause-store g c = subst IsStore c.self.view_is (is_store g.D.Disk.view c.self.inside.base c.self.inside.sheet c.self.invariant)

pub returns-then-is_closed-clause-same : goal.returns-then-is_closed-clause-same
returns-then-is_closed-clause-same g c =
    subst (λ (s : StoreView). SameStore s (store_on g.D.Disk.view (Some c.in-Some.base) c.self.inside.sheet)) c.self.view_is
    (ready_same g.D.Disk.view c.self.inside.base c.in-Some.base c.in-Some.base c.self.inside.sheet c.self.inside.sheet c.in-Some.is refl
    refl refl refl refl refl refl refl)

pub returns-then-not-has_place-clause-same : goal.returns-then-not-has_place-clause-same
returns-then-not-has_place-clause-same g c =
    subst (λ (s : StoreView). SameStore s (store_on g.D.Disk.view (Some c.in-Some.base) c.self.inside.sheet)) c.self.view_is
    (ready_same g.D.Disk.view c.self.inside.base c.in-Some.base c.in-Some.base c.self.inside.sheet c.self.inside.sheet c.in-Some.is refl
    refl refl refl refl refl refl refl)

pub returns-in_err-make_room-clause-same : goal.returns-in_err-make_room-clause-same
returns-in_err-make_room-clause-same g c =
    subst (λ (s : StoreView). SameStore s (store_on g.D.Disk.view (Some c.in-Some.base) c.make_room.new.self)) c.self.view_is
    (ready_same g.D.Disk.view c.self.inside.base c.in-Some.base c.in-Some.base c.self.inside.sheet c.make_room.new.self c.in-Some.is c.make_room.ensures.same
    refl refl refl refl refl refl refl)

pub returns-in_err-make_place-clause-same : goal.returns-in_err-make_place-clause-same
returns-in_err-make_place-clause-same g c =
    subst (λ (s : StoreView). SameStore s (store_on g.D.Disk.view (Some c.make_place.new.self) c.make_room.new.self)) c.self.view_is
    (ready_same g.D.Disk.view c.self.inside.base c.in-Some.base c.make_place.new.self c.self.inside.sheet c.make_room.new.self c.in-Some.is c.make_room.ensures.same
    c.make_place.ensures.disk c.make_place.ensures.end c.make_place.ensures.closed c.make_place.ensures.real c.make_place.ensures.owed c.make_place.ensures.gathers c.make_place.ensures.start)

pub returns-in_err-frame_of-clause-same : goal.returns-in_err-frame_of-clause-same
returns-in_err-frame_of-clause-same g c =
    subst (λ (s : StoreView). SameStore s (store_on g.D.Disk.view (Some c.make_place.new.self) c.make_room.new.self)) c.self.view_is
    (ready_same g.D.Disk.view c.self.inside.base c.in-Some.base c.make_place.new.self c.self.inside.sheet c.make_room.new.self c.in-Some.is c.make_room.ensures.same
    c.make_place.ensures.disk c.make_place.ensures.end c.make_place.ensures.closed c.make_place.ensures.real c.make_place.ensures.owed c.make_place.ensures.gathers c.make_place.ensures.start)

pub returns-clause-same : goal.returns-clause-same
returns-clause-same g c =
    subst (λ (s : StoreView). SameStore s (store_on g.D.Disk.view (Some c.make_place.new.self) c.make_room.new.self)) c.self.view_is
    (ready_same g.D.Disk.view c.self.inside.base c.in-Some.base c.make_place.new.self c.self.inside.sheet c.make_room.new.self c.in-Some.is c.make_room.ensures.same
    c.make_place.ensures.disk c.make_place.ensures.end c.make_place.ensures.closed c.make_place.ensures.real c.make_place.ensures.owed c.make_place.ensures.gathers c.make_place.ensures.start)

pub invariant_of-self-in_err-make_room : goal.invariant_of-self-in_err-make_room
invariant_of-self-in_err-make_room g c =
    let base : IsBaseOf g.D.Disk.view c.in-Some.base c.self.inside.sheet.contents = subst (λ (b : Option (Base g.row.D.Denot)). IsStoreOf g.D.Disk.view b c.self.inside.sheet.contents) c.in-Some.is c.self.invariant in
    let start = subst (λ (s : Contents). IsBaseOf g.D.Disk.view c.in-Some.base s) (sym c.make_room.ensures.same) base in
    start

pub invariant_of-self-in_err-make_place : goal.invariant_of-self-in_err-make_place
invariant_of-self-in_err-make_place g c =
    let base : IsBaseOf g.D.Disk.view c.in-Some.base c.self.inside.sheet.contents = subst (λ (b : Option (Base g.row.D.Denot)). IsStoreOf g.D.Disk.view b c.self.inside.sheet.contents) c.in-Some.is c.self.invariant in
    let start = subst (λ (s : Contents). IsBaseOf g.D.Disk.view c.in-Some.base s) (sym c.make_room.ensures.same) base in
    still_of g.D.Disk.view c.in-Some.base c.make_place.new.self c.make_room.new.self.contents start c.make_place.ensures.closed c.make_place.ensures.disk c.make_place.ensures.keeps
    (c.make_place.ensures.owing start.owing)

pub invariant_of-self-in_err-frame_of : goal.invariant_of-self-in_err-frame_of
invariant_of-self-in_err-frame_of g c =
    let base : IsBaseOf g.D.Disk.view c.in-Some.base c.self.inside.sheet.contents = subst (λ (b : Option (Base g.row.D.Denot)). IsStoreOf g.D.Disk.view b c.self.inside.sheet.contents) c.in-Some.is c.self.invariant in
    let start = subst (λ (s : Contents). IsBaseOf g.D.Disk.view c.in-Some.base s) (sym c.make_room.ensures.same) base in
    still_of g.D.Disk.view c.in-Some.base c.make_place.new.self c.make_room.new.self.contents start c.make_place.ensures.closed c.make_place.ensures.disk c.make_place.ensures.keeps
    (c.make_place.ensures.owing start.owing)

pub invariant_of-self-2 : goal.invariant_of-self-2
invariant_of-self-2 g c =
    let base : IsBaseOf g.D.Disk.view c.in-Some.base c.self.inside.sheet.contents = subst (λ (b : Option (Base g.row.D.Denot)). IsStoreOf g.D.Disk.view b c.self.inside.sheet.contents) c.in-Some.is c.self.invariant in
    let start = subst (λ (s : Contents). IsBaseOf g.D.Disk.view c.in-Some.base s) (sym c.make_room.ensures.same) base in
    still_of g.D.Disk.view c.in-Some.base c.make_place.new.self c.make_room.new.self.contents start c.make_place.ensures.closed c.make_place.ensures.disk c.make_place.ensures.keeps
    (c.make_place.ensures.owing start.owing)
