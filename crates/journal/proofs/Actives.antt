-- The area that is active, while the areas are written.
use Rattle.std.proofs.Common.{◌≡◌, ℕ, ◌<◌, ◌≤◌, List, ◌∷◌, ◌++◌, length, get_or, drop, take, refl, sym, ◌∙◌, ap, subst, arith, length-drop, take-append-drop, Result}
use Rattle.std.proofs.lemmas.List.{get_or-take, take-take}
use Rattle.disk_model.specs.Disk.{Image, History, ChangesArea, Torn, Syncs, Writes, area_of, content_of, other_area}
use Rattle.disk_model.specs.declared.disk.Area.{Area}
use Rattle.disk_model.specs.declared.disk.Area.TheVariants.{First, Second}
use Rattle.journal.specs.Area.{HasHeader, first_gate, header, named_by, records, selector_at}
use Rattle.journal.specs.Kept.{ImageStandsFor, active_area, other_of}
use Rattle.journal.specs.Limits.{longest_payload}
use Rattle.journal.specs.inside.Active.{IsActive}
use Rattle.journal.specs.inside.Standing.{at_active, same_named}
use Rattle.journal.proofs.Bytes.{Laid}

pub changed : (area : Area) (step : List ℕ → List ℕ → Type 0) (a b : Image) → ChangesArea area step a b → step (area_of area a) (area_of area b)
changed First step a b change = change.0
changed Second step a b change = change.1

pub kept : (area : Area) (step : List ℕ → List ℕ → Type 0) (a b : Image) → ChangesArea area step a b → area_of (other_area area) b ≡ area_of (other_area area) a
kept First step a b change = change.1
kept Second step a b change = change.0

pub at_other : (area : Area) (i : Image) → active_area i ≡ area → other_of i ≡ area_of (other_area area) i
at_other area i named = ap (λ (a : Area). area_of (other_area a) i) named

-- what stands in front of the first gate has the selector
same_selector : (a b : List ℕ) (at : ℕ) → first_gate ≤ at → take at a ≡ take at b → get_or a selector_at 0 ≡ get_or b selector_at 0
same_selector a b at following same =
    sym (get_or-take at a selector_at 0 (omega (arith, following))) ∙ ap (λ (l : List ℕ). get_or l selector_at 0) same ∙ get_or-take at b selector_at 0 (omega (arith, following))

-- a header stays where something is written after it
pub header_stays : (a b : List ℕ) (at n : ℕ) → first_gate ≤ at → HasHeader a → Torn at n a b → HasHeader b
header_stays a b at n following has torn =
    let front : take first_gate b ≡ header has.1.selector =
    sym (take-take first_gate at b following) ∙ ap (λ (l : List ℕ). take first_gate l) torn.before ∙ take-take first_gate at a following
    ∙ ap (λ (l : List ℕ). take first_gate l) has.1.is in (
      drop first_gate b,
      record { selector = has.1.selector; is = sym (take-append-drop first_gate b) ∙ ap (λ (l : List ℕ). l ++ drop first_gate b) front },
      omega (arith, length-drop first_gate b, torn.no_shorter, ap length has.1.is, has.2),
    )

-- Area First is as it was, where it isn't the active one.
abbrev pub FirstKept : Area → Image → Image → Type 0
FirstKept First old i = Unit {0}
FirstKept Second old i = i.first ≡ old.first

first_as_before : (area : Area) (old i : Image) → i.first ≡ old.first → FirstKept area old i
first_as_before First old i same = tt
first_as_before Second old i same = same

-- area First of two images, of which the active areas are the same
pub first_of_both : (area : Area) (old i j : Image) → FirstKept area old i → FirstKept area old j → area_of area i ≡ area_of area j → i.first ≡ j.first
first_of_both First old i j one two same = same
first_of_both Second old i j one two same = one ∙ sym two

-- An image while something is written into the active area, after its header.
pub record Works (area : Area) (old i : Image) : Type 0 where
  pub named : active_area i ≡ area
  pub headed : HasHeader i.first
  pub first : FirstKept area old i

-- the same area First as in an image at work
pub works_as : (area : Area) (old i : Image) → active_area old ≡ area → HasHeader old.first → i.first ≡ old.first → Works area old i
works_as area old i named headed same = record {
  named = same_named i old same ∙ named;
  headed = subst HasHeader (sym same) headed;
  first = first_as_before area old i same;
}

pub works_on : (area : Area) (old a b : Image) (at n : ℕ) → first_gate ≤ at → Works area old a → ChangesArea area (Torn at n) a b → Works area old b
works_on First old a b at n following works change = record {
  named = ap named_by (same_selector b.first a.first at following change.0.before) ∙ works.named;
  headed = header_stays a.first b.first at n following works.headed change.0;
  first = tt;
}
works_on Second old a b at n following works change = record {
  named = same_named b a change.0 ∙ works.named;
  headed = subst HasHeader (sym change.0) works.headed;
  first = change.0 ∙ works.first;
}

-- it stands for what its active area lays out
pub stands_there : (area : Area) (old i : Image) (selector : ℕ) (payloads : List (List ℕ)) → Works area old i → Laid longest_payload selector (area_of area i) payloads → ImageStandsFor i payloads
stands_there area old i selector payloads works laid = record {
  headed = works.headed;
  stands = record {
    rest = records payloads ++ laid.gate ∷ laid.rest;
    header_is = record { selector = selector; is = at_active area i works.named ∙ laid.is };
    lays = record { gate = laid.gate; more = laid.rest; is = refl; closed = laid.closed; each = laid.each };
  };
}

-- The calls of an append, by what a read gives.

pub has_room : (bytes : List ℕ) → HasHeader bytes → first_gate < length bytes
has_room bytes has = omega (arith, ap length has.1.is, has.2)

pub active_as : (area : Area) (a b : Image) → b ≡ a → IsActive area a → IsActive area b
active_as area a b same active = subst (λ (i : Image). IsActive area i) (sym same) active

pub active_on : (area : Area) (a b : Image) (at n : ℕ) → first_gate ≤ at → IsActive area a → ChangesArea area (Torn at n) a b → IsActive area b
active_on First a b at n following active change = record {
  named = ap named_by (same_selector b.first a.first at following change.0.before) ∙ active.named;
  headed = omega (arith, change.0.no_shorter, active.headed);
}
active_on Second a b at n following active change = record {
  named = same_named b a change.0 ∙ active.named;
  headed = subst (λ (l : List ℕ). first_gate < length l) (sym change.0) active.headed;
}

-- a write of the area leaves the other one
pub others_at_write : {T E : Type 0} (area : Area) (at : ℕ) (bytes : List ℕ) (r : Result T E) (h0 h1 : History) → Writes area at bytes r h0 h1
    → area_of (other_area area) (content_of h1) ≡ area_of (other_area area) (content_of h0)
others_at_write area at bytes r h0 h1 w = kept area (Torn at (length bytes)) (content_of h0) (content_of h1) w.touched

pub active_at_write : {T E : Type 0} (area : Area) (at : ℕ) (bytes : List ℕ) (r : Result T E) (h0 h1 : History) → first_gate ≤ at → IsActive area (content_of h0) → Writes area at bytes r h0 h1 → IsActive area (content_of h1)
active_at_write area at bytes r h0 h1 following active w = active_on area (content_of h0) (content_of h1) at (length bytes) following active w.touched

pub same_at_sync : {T E : Type 0} (area any : Area) (r : Result T E) (h0 h1 : History) → Syncs area r h0 h1 → area_of any (content_of h1) ≡ area_of any (content_of h0)
same_at_sync area any r h0 h1 s = ap (λ (i : Image). area_of any i) s.content

pub active_at_sync : {T E : Type 0} (area : Area) (r : Result T E) (h0 h1 : History) → IsActive area (content_of h0) → Syncs area r h0 h1 → IsActive area (content_of h1)
active_at_sync area r h0 h1 active s = active_as area (content_of h0) (content_of h1) s.content active
