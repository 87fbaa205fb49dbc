-- A disk is refused at one gate at most, and an image of a worksheet at none.
use Rattle.std.proofs.Common.{◌≡◌, ℕ, ⊎_elim, List, [], ◌∷◌, ◌++◌, None, refl, sym, ap, ◌∙◌, subst, append_assoc, append-nil, arith}
use Rattle.std.specs.List.{AllByRecursion}
use Rattle.worksheet.specs.declared.op.Op.{Op}
use Rattle.worksheet.specs.Ops.{sheet_of}
use Rattle.worksheet.specs.Checks.{Allowed, AllowedFrom, first_refusal}
use Rattle.worksheet.proofs.Existence.{allowed_goes_on}
use Rattle.journal.specs.Area.{end_of}
use Rattle.journal.specs.Kept.{active_of}
use Rattle.journal.specs.Limits.{longest_payload}
use Rattle.journal.specs.Laws.{NoDamage, OneDamage, OneList, StandingOpens}
use Rattle.journal.specs.declared.opening.OpenCause.TheVariants as causes
use Rattle.recovery.specs.Code.{code_of, IsTyped, IsPayloadOf}
use Rattle.recovery.specs.Sheets.{codes_of, IsRefusedAt}
use Rattle.recovery.specs.Laws.{OneRefusal, SheetImageOpens}
use Rattle.recovery.specs.inside.Taken.{RefusesFrom}
use Rattle.recovery.proofs.Allowed.{allowed_have_code}
use Rattle.recovery.proofs.Images.{head_is, not_refused, same_op}

-- no op that these allow has this payload
abbrev Refused : List Op → List ℕ → Type 0
Refused ops payload = (o : Op) → IsPayloadOf o payload → first_refusal (sheet_of ops) o ≡ None → ⊥

-- the ops before the first payload that is refused are the same, however they are read
refused_once : (before firsts seconds : List Op) (p q : List ℕ) (more others : List (List ℕ)) → Allowed before → AllowedFrom before firsts → AllowedFrom before seconds
    → AllByRecursion IsTyped firsts → AllByRecursion IsTyped seconds → codes_of firsts ++ p ∷ more ≡ codes_of seconds ++ q ∷ others → Refused (before ++ firsts) p → Refused (before ++ seconds) q → firsts ≡ seconds
refused_once before [] [] p q more others allowed fa fb ta tb same wa wb = refl
refused_once before [] (y ∷ seconds) p q more others allowed fa fb ta tb same wa wb =
    let parts = head_is p (code_of y) more (codes_of seconds ++ q ∷ others) same in
    absurd (wa y (record { typed = tb.0; fits = allowed_have_code before y allowed fb.0; is = parts.0 }) (subst (λ (l : List Op). first_refusal (sheet_of l) y ≡ None) (sym (append-nil before)) fb.0))
refused_once before (x ∷ firsts) [] p q more others allowed fa fb ta tb same wa wb =
    let parts = head_is (code_of x) q (codes_of firsts ++ p ∷ more) others same in
    absurd (wb x (record { typed = ta.0; fits = allowed_have_code before x allowed fa.0; is = sym parts.0 }) (subst (λ (l : List Op). first_refusal (sheet_of l) x ≡ None) (sym (append-nil before)) fa.0))
refused_once before (x ∷ firsts) (y ∷ seconds) p q more others allowed fa fb ta tb same wa wb =
    let parts = head_is (code_of x) (code_of y) (codes_of firsts ++ p ∷ more) (codes_of seconds ++ q ∷ others) same in
    let first : x ≡ y = same_op before x y allowed fa.0 fb.0 ta.0 tb.0 parts.0 in
    let following : AllowedFrom (before ++ x ∷ []) seconds = subst (λ (z : Op). AllowedFrom (before ++ z ∷ []) seconds) (sym first) fb.1 in
    let same_after = refused_once (before ++ x ∷ []) firsts seconds p q more others (allowed_goes_on before x allowed fa.0) fa.1 following ta.1 tb.1 parts.1
    (λ o own next. wa o own (subst (λ (l : List Op). first_refusal (sheet_of l) o ≡ None) (append_assoc before (x ∷ []) firsts) next))
    (λ o own next. wb o own (subst (λ (l : List Op). first_refusal (sheet_of l) o ≡ None) (append_assoc before (x ∷ []) seconds ∙ ap (λ (z : Op). before ++ z ∷ seconds) first) next)) in
    ap (λ (z : Op). z ∷ firsts) first ∙ ap (λ (l : List Op). y ∷ l) same_after

-- and so is its gate
one_gate : (payloads : List (List ℕ)) (gate other : ℕ) → IsRefusedAt payloads gate → IsRefusedAt payloads other → gate ≡ other
one_gate payloads gate other a b =
    let same = refused_once [] a.ops b.ops a.payload b.payload a.more b.more tt a.makes.allowed b.makes.allowed a.makes.typed b.makes.typed (sym a.is ∙ b.is) a.wrong b.wrong in
    a.gate_is ∙ ap (λ (ops : List Op). end_of (codes_of ops)) same ∙ sym b.gate_is

pub one_refusal : OneList → OneDamage → NoDamage → OneRefusal
one_refusal lists once none i gate other reported also = ⊎_elim
    (λ damaged. ⊎_elim
    (λ again. once longest_payload (omega arith) (active_of i) gate other damaged again)
    (λ refused. absurd (none longest_payload (omega arith) (active_of i) refused.0 gate refused.1.stands damaged)) also)
    (λ refused. ⊎_elim
    (λ damaged. absurd (none longest_payload (omega arith) (active_of i) refused.0 other refused.1.stands damaged))
    (λ again. one_gate again.0 gate other (subst (λ (l : List (List ℕ)). IsRefusedAt l gate) (lists longest_payload (omega arith) (active_of i) refused.0 again.0 refused.1.stands again.1.stands) refused.2) again.2) also)
    reported

pub sheet_image_opens : OneList → StandingOpens → SheetImageOpens
sheet_image_opens lists opens sheet i (causes.Damaged gate) image reported = ⊎_elim
    (λ damaged. opens i (codes_of image.ops) (causes.Damaged gate) image.stands damaged)
    (λ refused. not_refused image.ops sheet (causes.Damaged gate) image.makes
    (subst (λ (l : List (List ℕ)). RefusesFrom l (causes.Damaged gate)) (lists longest_payload (omega arith) (active_of i) refused.0 (codes_of image.ops) refused.1.stands image.stands.stands) refused.2))
    reported
sheet_image_opens lists opens sheet i causes.NotASheet image reported = opens i (codes_of image.ops) causes.NotASheet image.stands reported
sheet_image_opens lists opens sheet i causes.Disk image reported = tt
sheet_image_opens lists opens sheet i causes.OutOfMemory image reported = tt
