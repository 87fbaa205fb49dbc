-- Programs are looked for, session by session.
use Rattle.std.proofs.Common.{◌≡◌, ℕ, true, false, List, [], ◌∷◌, sym, subst}
use Rattle.worksheet.specs.declared.field.Field.{Field}
use Rattle.worksheet.specs.declared.field.Session.{Session}
use Rattle.evaluation.specs.Programs.{Finds, HaveAll, IsFirstLacking, HasItsProgram, is_needed, program_of}
use Rattle.evaluation.specs.Programs as needs

-- each session before the rest of them is ready
pub record Looked (finds : Finds) (fields : List Field) (ids : List ℕ) (all rest : List Session) : Type 0 where
  pub lacking : (name : List ℕ) → IsFirstLacking finds fields ids rest name → IsFirstLacking finds fields ids all name
  pub ready : HaveAll finds fields ids rest → HaveAll finds fields ids all

module _ (finds : Finds) (fields : List Field) (ids : List ℕ) (all rest : List Session) where
  pub looked_begin : rest ≡ all → Looked finds fields ids all rest
  looked_begin e = subst (Looked finds fields ids all) (sym e) (record { lacking = λ name h. h; ready = λ h. h })

  pub looked_next : (session : Session) (more : List Session) → rest ≡ session ∷ more → HasItsProgram finds fields ids session → Looked finds fields ids all rest → Looked finds fields ids all more
  looked_next session more e is so = record {
    lacking = λ name h. so.lacking name (subst (λ ss. IsFirstLacking finds fields ids ss name) (sym e) (needs.following session more name is h));
    ready = λ h. so.ready (subst (HaveAll finds fields ids) (sym e) (is, h));
  }

  pub looked_found : (session : Session) (more : List Session) → rest ≡ session ∷ more → is_needed fields ids session.name ≡ true → finds (program_of session.words) false → Looked finds fields ids all rest
      → IsFirstLacking finds fields ids all session.name
  looked_found session more e needed unfound so = so.lacking session.name (subst (λ ss. IsFirstLacking finds fields ids ss session.name) (sym e) (needs.here session more needed unfound))

  pub looked_all : rest ≡ [] → Looked finds fields ids all rest → HaveAll finds fields ids all
  looked_all e so = so.ready (subst (HaveAll finds fields ids) (sym e) tt)
