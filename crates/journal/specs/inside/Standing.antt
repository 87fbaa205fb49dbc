-- Lemmas on what images stand for, for the layers above too. No clause speaks of them.
use Rattle.std.specs.Prelude.{◌≡◌, List, ℕ, get_or}
use Rattle.std.proofs.Common.{ap, sym, subst}
use Rattle.disk_model.specs.Disk.{Image, History, IsImage, area_of}
use Rattle.disk_model.specs.declared.disk.Area.{Area}
use Rattle.journal.specs.Area.{HasHeader, StandsFor, named_by, selector_at}
use Rattle.journal.specs.Kept.{ImageStandsFor, Keeps, active_area, active_of}
use Rattle.journal.specs.Limits.{longest_payload}

pub at_active : (area : Area) (i : Image) → active_area i ≡ area → active_of i ≡ area_of area i
at_active area i named = ap (λ (a : Area). area_of a i) named

-- where area First is the same, so is the active area
pub same_named : (a b : Image) → a.first ≡ b.first → active_area a ≡ active_area b
same_named a b same = ap (λ (l : List ℕ). named_by (get_or l selector_at 0)) same

-- each image of a disk that keeps payloads stands for them
pub keeps_images : (h : History) (end : ℕ) (payloads : List (List ℕ)) → Keeps h end payloads → (i : Image) → IsImage h.now i → ImageStandsFor i payloads
keeps_images h end payloads keeps i image = record {
  headed = subst HasHeader (sym (keeps.first i image)) keeps.stands.headed;
  stands = subst (λ (l : List ℕ). StandsFor longest_payload l payloads) (sym (keeps.durable i image)) keeps.stands.stands;
}
