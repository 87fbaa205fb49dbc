-- Only proofs and private functions use this file. The entries of a map, some of whose keys may be held ready for a value: what a worksheet
-- contains is the values.
use Rattle.std.specs.Prelude.{◌≡◌, ◌<◌, suc, true, length, get_or, ℕ, List, [], ◌∷◌, Option, Some, None}
use Rattle.worksheet.specs.declared.field.Field.{Field}
use Rattle.worksheet.specs.declared.field.Session.{Session}
use Rattle.worksheet.specs.Names.{is_name}

abbrev pub with_shown : {V : Type 0} → Option V → List V → List V
with_shown None rest = rest
with_shown (Some v) rest = v ∷ rest

-- the values that are there, in order
abbrev pub shown : {K V : Type 0} → List (K × Option V) → List V
shown [] = []
shown (e ∷ es) = with_shown e.1 (shown es)

abbrev pub with_reserved : {K V : Type 0} → K → Option V → Option K → Option K
with_reserved k None rest = Some k
with_reserved k (Some v) rest = rest

-- the first key without a value
abbrev pub reserved : {K V : Type 0} → List (K × Option V) → Option K
reserved [] = None
reserved (e ∷ es) = with_reserved e.0 e.1 (reserved es)

abbrev pub FitsOne : {K V : Type 0} → (V → K) → K → Option V → List (K × Option V) → Type 0 → Type 0
FitsOne key k None es rest = es ≡ []
FitsOne key k (Some v) es rest = (key v ≡ k) × rest

-- each value stands under its key, and after them at most one key has none
abbrev pub Fits : {K V : Type 0} → (V → K) → List (K × Option V) → Type 0
Fits key [] = Unit {0}
Fits key (e ∷ es) = FitsOne key e.0 e.1 es (Fits key es)

-- fields by number
abbrev pub AreFields : List (ℕ × Option Field) → Type 0
AreFields = Fits (λ field. field.id)

-- each of these sessions has a right name
abbrev pub AreNamed : List Session → Type 0
AreNamed [] = Unit {0}
AreNamed (s ∷ ss) = (is_name s.name ≡ true) × AreNamed ss

-- sessions by name
pub record AreSessions (entries : List (List ℕ × Option Session)) : Type 0 where
  pub fits : Fits (λ session. session.name) entries
  pub named : AreNamed (shown entries)

-- directly after the field with a number
abbrev pub IsAfter : ℕ → ℕ → Field → List Field → Type 0
IsAfter after to d fs = (b : ℕ) × (to ≡ suc b) × (b < length fs) × ((get_or fs b d).id ≡ after)
