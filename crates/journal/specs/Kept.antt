-- What a journal keeps on its disk.
use Rattle.std.specs.Prelude.{◌≡◌, ◌⊎◌, ℕ, ◌+◌, ◌≤◌, List, [], ◌∷◌, ◌++◌, get_or, length}
use Rattle.disk_model.specs.Disk.{Image, DiskState, DiskView, History, IsImage, area_of, content_of, other_area}
use Rattle.disk_model.specs.declared.disk.Area.{Area}
use Rattle.journal.specs.Area.{HasHeader, StandsFor, end_of, named_by, records, selector_at}
use Rattle.journal.specs.Limits.{longest_payload}

-- the active area, in which the journal is: the one that the selector in area First names
abbrev pub active_area : Image → Area
active_area i = named_by (get_or i.first selector_at 0)

abbrev pub active_of : Image → List ℕ
active_of i = area_of (active_area i) i

-- the area that isn't active
abbrev pub other_of : Image → List ℕ
other_of i = area_of (other_area (active_area i)) i

-- the image stands for these payloads: area First has a header, and a byte after it, and the active
-- area lays them out
pub record ImageStandsFor (i : Image) (payloads : List (List ℕ)) : Type 0 where
  pub headed : HasHeader i.first
  pub stands : StandsFor longest_payload (active_of i) payloads

-- the disk stands for these payloads; they are durable, and so is area First, whose header names their
-- area; the closed gate after them is at `end`
pub record Keeps (h : History) (end : ℕ) (payloads : List (List ℕ)) : Type 0 where
  pub stands : ImageStandsFor (content_of h) payloads
  pub end_is : end ≡ end_of payloads
  pub durable : (i : Image) → IsImage h.now i → active_of i ≡ active_of (content_of h)
  pub first : (i : Image) → IsImage h.now i → i.first ≡ (content_of h).first

-- the area that isn't active is that of an image of this state
abbrev pub OtherUntouched : DiskState → Image → Type 0
OtherUntouched s i = (j : Image) × IsImage s j × (other_of i ≡ other_of j)

-- the image stands for the payloads, with all of these after them or with none, and the other area is
-- untouched
abbrev pub BeforeOrAll : DiskState → List (List ℕ) → List (List ℕ) → Image → Type 0
BeforeOrAll s payloads more i =
    (ImageStandsFor i payloads ⊎ ImageStandsFor i (payloads ++ more)) × OtherUntouched s i

-- the same of one payload
abbrev pub BeforeOrAfter : DiskState → List (List ℕ) → List ℕ → Image → Type 0
BeforeOrAfter s payloads payload i = BeforeOrAll s payloads (payload ∷ []) i

-- a journal as contracts see it: its disk, and the offset of the closed gate
pub record JournalView : Type 0 where
  pub disk : DiskView
  pub end : ℕ

-- a payload of n bytes, its record and the next gate fit after the end
abbrev pub Fits : ℕ → ℕ → ℕ → Type 0
Fits room end n = (n ≤ longest_payload) × (end + 5 + n + 1 ≤ room)

-- these payloads, their records and the next gate fit after the end
abbrev pub FitsAll : ℕ → ℕ → List (List ℕ) → Type 0
FitsAll room end payloads = end + length (records payloads) + 1 ≤ room

-- the image stands for the payloads from before, or for these
abbrev pub EitherStands : List (List ℕ) → List (List ℕ) → Image → Type 0
EitherStands before payloads i = ImageStandsFor i before ⊎ ImageStandsFor i payloads

-- these payloads fit in an area: the header, their records, and the gate after them
abbrev pub FitsAgain : ℕ → List (List ℕ) → Type 0
FitsAgain room payloads = end_of payloads + 1 ≤ room
