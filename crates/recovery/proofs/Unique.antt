-- No two ops have one payload.
use Rattle.std.proofs.Common.{◌≡◌, ℕ, List, ◌∷◌, Option, refl, sym, ap, ◌∙◌}
use Rattle.meta_format.specs.Limits.{limits}
use Rattle.meta_format.specs.Canonical.{canonical}
use Rattle.meta_format.proofs.Written.{canonical_spells}
use Rattle.worksheet.specs.declared.op.Op.{Op}
use Rattle.worksheet.specs.declared.op.Op.TheVariants as op
use Rattle.recovery.specs.Code.{kind_of, parts_of, IsPayloadOf}
use Rattle.recovery.specs.Laws.{OneOp}
use Rattle.recovery.specs.inside.Reading.{session_at, new_at, set_at, remove_at, move_at, clear_at, lost_at, ids_at}
use Rattle.recovery.proofs.Again.{IsReader, some_is, session_again, new_again, set_again, remove_again, move_again, clear_again, lost_again, asked_again, answer_in, same_answer, ids_again}

tail_is : (x y : ℕ) (xs ys : List ℕ) → x ∷ xs ≡ y ∷ ys → (x ≡ y) × (xs ≡ ys)
tail_is x y xs ys e = (cc, cc)

by_reader : (kind : ℕ) (read : List ℕ → Option Op) → IsReader kind read → (a b : Op) → kind_of a ≡ kind → (payload : List ℕ) → IsPayloadOf a payload → IsPayloadOf b payload → a ≡ b
by_reader kind read reads a b k payload p q =
    let same = tail_is (kind_of a) (kind_of b) (parts_of a) (parts_of b) (sym p.is ∙ q.is) in
    some_is a b (sym (reads a k p.typed p.fits) ∙ ap read same.1 ∙ reads b (sym same.0 ∙ k) q.typed q.fits)

pub one_op : OneOp
one_op (op.Session name tab words) b payload p q = by_reader 1 session_at session_again (op.Session name tab words) b refl payload p q
one_op (op.New after session input) b payload p q = by_reader 2 new_at new_again (op.New after session input) b refl payload p q
one_op (op.Set id input) b payload p q = by_reader 3 set_at set_again (op.Set id input) b refl payload p q
one_op (op.Remove id) b payload p q = by_reader 4 remove_at remove_again (op.Remove id) b refl payload p q
one_op (op.Move id after) b payload p q = by_reader 5 move_at move_again (op.Move id after) b refl payload p q
one_op (op.Clear id) b payload p q = by_reader 6 clear_at clear_again (op.Clear id) b refl payload p q
one_op (op.Lost id reason) b payload p q = by_reader 8 lost_at lost_again (op.Lost id reason) b refl payload p q
one_op (op.Ids next) b payload p q = by_reader 9 ids_at ids_again (op.Ids next) b refl payload p q
one_op (op.Answer id prompt output) b payload p q =
    let parts = parts_of (op.Answer id prompt output) in
    let whole : IsPayloadOf b (7 ∷ parts) = record { typed = q.typed; fits = q.fits; is = sym p.is ∙ q.is } in
    let answer = answer_in parts (canonical output) prompt id (asked_again id prompt (canonical output) p.typed.0 p.fits) b whole in
    same_answer b id prompt (canonical output) output answer (canonical_spells limits output p.typed.1)
