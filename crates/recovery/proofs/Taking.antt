-- Payloads taken one after another.
use Rattle.std.proofs.Common.{◌≡◌, ℕ, List, [], ◌∷◌, ◌++◌, refl, sym, ap, ◌∙◌, subst, append_assoc}
use Rattle.std.proofs.lemmas.List.{map-append}
use Rattle.disk_model.specs.Disk.{InModel}
use Rattle.worksheet.specs.declared.op.Op.{Op}
use Rattle.worksheet.specs.Contents.{Contents}
use Rattle.journal.specs.declared.walk.Payload.{Payload}
use Rattle.journal.specs.declared.opening.OpenCause.{OpenCause}
use Rattle.journal.specs.declared.opening.OpenCause.TheVariants as opens
use Rattle.journal.specs.Opening.{HasGiven, OpeningView}
use Rattle.recovery.specs.Code.{code_of}
use Rattle.recovery.specs.Sheets.{codes_of, Makes}
use Rattle.recovery.specs.inside.Taken.{TakesOps, Refuses, RefusesFrom}

pub codes_push : (os : List Op) (o : Op) → codes_of (os ++ o ∷ []) ≡ codes_of os ++ code_of o ∷ []
codes_push os o = map-append code_of os (o ∷ [])

-- the payloads so far are taken, and these are left
pub record Left (now : OpeningView) (ops : List Op) (payloads : List (List ℕ)) : Type 0 where
  pub left : List (List ℕ)
  pub given : HasGiven now (codes_of ops) left
  pub are : payloads ≡ codes_of ops ++ left

-- an opening has given the payloads of ops that make this sheet
pub record Reached (old now : OpeningView) (sheet : Contents) : Type 0 where
  pub ops : List Op
  pub makes : Makes ops sheet
  pub so_far : InModel old.disk ((payloads : List (List ℕ)) → HasGiven old [] payloads → Left now ops payloads)

-- one payload more
pub left_on : (now following : OpeningView) (ops : List Op) (payloads : List (List ℕ)) (bytes : List ℕ) (sheet : Contents) (far : Left now ops payloads)
    → ((others : List (List ℕ)) × (far.left ≡ bytes ∷ others) × HasGiven following (codes_of ops ++ bytes ∷ []) others)
    → (takes : TakesOps ops bytes sheet) → Left following (ops ++ takes.next ∷ []) payloads
left_on now following ops payloads bytes sheet far next takes =
    let codes : codes_of ops ++ bytes ∷ [] ≡ codes_of (ops ++ takes.next ∷ []) =
    ap (λ (b : List ℕ). codes_of ops ++ b ∷ []) takes.is ∙ sym (codes_push ops takes.next) in
    record {
      left = next.0;
      given = subst (λ (l : List (List ℕ)). HasGiven following l next.0) codes next.2;
      are = far.are ∙ ap (λ (l : List (List ℕ)). codes_of ops ++ l) next.1 ∙ sym (append_assoc (codes_of ops) (bytes ∷ []) next.0)
          ∙ ap (λ (l : List (List ℕ)). l ++ next.0) codes;
    }

-- a payload that is refused
pub refused_here : (now : OpeningView) (ops : List Op) (payloads : List (List ℕ)) (p : Payload) (sheet : Contents) (cause : OpenCause) (far : Left now ops payloads)
    → (others : List (List ℕ)) → far.left ≡ p.bytes ∷ others → p.gate ≡ now.gate → Makes ops sheet → Refuses ops p cause → RefusesFrom payloads cause
refused_here now ops payloads p sheet (opens.Damaged gate) far others next here makes refuses = record {
  ops = ops;
  payload = p.bytes;
  more = others;
  is = far.are ∙ ap (λ (l : List (List ℕ)). codes_of ops ++ l) next;
  gate_is = refuses.0 ∙ here ∙ far.given.gate_is;
  makes = record { typed = makes.typed; lengths = makes.lengths; allowed = makes.allowed; is = refl };
  wrong = refuses.1;
}
refused_here now ops payloads p sheet opens.NotASheet far others next here makes refuses = refuses
refused_here now ops payloads p sheet opens.Disk far others next here makes refuses = tt
refused_here now ops payloads p sheet opens.OutOfMemory far others next here makes refuses = tt
