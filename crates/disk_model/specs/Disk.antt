-- A disk of two areas: what its calls do, and what a crash at any moment may leave (docs/trust/FORMAT.md,
-- "What a crash may leave").
use Rattle.std.specs.Prelude.{◌≡◌, ℕ, ◌+◌, ◌-◌, ◌≤◌, ◌^◌, max, min, Bool, false, IsTrue, List, [], ◌∷◌, ◌++◌, length, take, drop, Result, MatchResult}
use Rattle.std.specs.List.{AllByRecursion}
use Rattle.disk_model.specs.declared.disk.Area.{Area}
use Rattle.disk_model.specs.declared.disk.Area.TheVariants.{First, Second}

-- the most bytes of an area, whatever the disk
abbrev pub greatest_room : ℕ
greatest_room = 2147483648

-- the bytes of both areas
pub record Image : Type 0 where
  pub first : List ℕ
  pub second : List ℕ

-- bytes that were written, and the offset of the first of them
pub record Written : Type 0 where
  pub at : ℕ
  pub bytes : List ℕ

-- an area: what a read gives, what its last successful sync left, and the writes that no such sync
-- follows, the newest first
pub record AreaState : Type 0 where
  pub content : List ℕ
  pub synced : List ℕ
  pub writes : List Written

-- both areas at one moment
pub record DiskState : Type 0 where
  pub first : AreaState
  pub second : AreaState

-- the state now, and those of all earlier moments, the newest first
pub record History : Type 0 where
  pub now : DiskState
  pub past : List DiskState

-- a disk as contracts see it: the greatest length of an area, the count of failures, and its
-- history, which is claimed where the disk keeps the model
pub record DiskView : Type 0 where
  pub room : ℕ
  pub faults : ℕ
  pub keeps_model : Bool
  pub history : History

-- the state at a moment, which is the number of states before it
pub record AtMoment (moment : ℕ) (h : History) (s : DiskState) : Type 0 where
  pub later : List DiskState
  pub earlier : List DiskState
  pub states : h.now ∷ h.past ≡ later ++ s ∷ earlier
  pub moment_is : moment ≡ length earlier

-- what a read gives
abbrev pub content_of : History → Image
content_of h = record { first = h.now.first.content; second = h.now.second.content }

-- the same of a disk
abbrev pub bytes_on : DiskView → Image
bytes_on disk = content_of disk.history

abbrev pub state_of : Area → DiskState → AreaState
state_of First s = s.first
state_of Second s = s.second

abbrev pub area_of : Area → Image → List ℕ
area_of First i = i.first
area_of Second i = i.second

-- the one that an area isn't
abbrev pub other_area : Area → Area
other_area First = Second
other_area Second = First

-- these bytes with others put over them at an offset
abbrev pub overwritten : List ℕ → ℕ → List ℕ → List ℕ
overwritten old at bytes = take at old ++ bytes ++ drop (at + length bytes) old

-- what a torn write of n bytes makes of an area: any bytes in its range, the same elsewhere, any
-- length between the old end and the new one
pub record Torn (at n : ℕ) (old new : List ℕ) : Type 0 where
  pub before : take at new ≡ take at old
  pub after : drop (at + n) new ≡ drop (at + n) old
  pub no_shorter : length old ≤ length new
  pub no_longer : length new ≤ max (length old) (at + n)

-- what a crash may leave of an area: what its last sync left, with each later write torn
abbrev pub AreaImage : List ℕ → List Written → List ℕ → Type 0
AreaImage synced [] c = c ≡ synced
AreaImage synced (w ∷ earlier) c =
    (d : List ℕ) × AreaImage synced earlier d × Torn w.at (length w.bytes) d c

-- what a crash may leave of a disk
abbrev pub IsImage : DiskState → Image → Type 0
IsImage s c = AreaImage s.first.synced s.first.writes c.first
    × AreaImage s.second.synced s.second.writes c.second

-- one area changes so, the other stays
abbrev pub ChangesArea : Area → (List ℕ → List ℕ → Type 0) → Image → Image → Type 0
ChangesArea First step old new = step old.first new.first × (new.second ≡ old.second)
ChangesArea Second step old new = (new.first ≡ old.first) × step old.second new.second

-- an image of a state, after this step
abbrev pub Reaches : (Image → Image → Type 0) → DiskState → Image → Type 0
Reaches step s c = (d : Image) × IsImage s d × step d c

-- each image that a crash may leave of a state has P
abbrev pub Leaves : (Image → Type 0) → DiskState → Type 0
Leaves P s = (c : Image) → IsImage s c → P c

-- a disk that was started again on this image: it keeps the model, a read gives the image, and a
-- crash would leave nothing else
pub record IsRestarted (i : Image) (disk : DiskView) : Type 0 where
  pub keeps_model : IsTrue disk.keeps_model
  pub bytes : bytes_on disk ≡ i
  pub durable : Leaves (λ c. c ≡ i) disk.history.now

-- at every moment since old, old's own among them, each image has P
pub record LeavesOnly (P : Image → Type 0) (old new : History) : Type 0 where
  pub start : Leaves P old.now
  pub more : List DiskState
  pub states : new.now ∷ new.past ≡ more ++ old.now ∷ old.past
  pub each : AllByRecursion (Leaves P) more

-- a claim that is made of disks that keep the model
abbrev pub InModel : DiskView → Type 0 → Type 0
InModel v P = IsTrue v.keeps_model → P

-- the count of failures stays at the greatest u64
abbrev pub greatest_count : ℕ
greatest_count = 2 ^ 64 - 1

-- the count of failures rose, or stood at its greatest
abbrev pub Rises : ℕ → ℕ → Type 0
Rises old new = min (old + 1) greatest_count ≤ new

-- a disk and the same disk after calls on it, whatever they did to its bytes: the same room, the
-- model kept or not as before, no failure forgotten
pub record SameDisk (old new : DiskView) : Type 0 where
  pub room : new.room ≡ old.room
  pub keeps_model : new.keeps_model ≡ old.keeps_model
  pub later : old.faults ≤ new.faults

-- a disk after one call: as above, and a fault is answered only where a failure was counted
pub record Called {T E : Type 0} (result : Result T E) (old new : DiskView) : Type 0 where
  pub room : new.room ≡ old.room
  pub keeps_model : new.keeps_model ≡ old.keeps_model
  pub later : old.faults ≤ new.faults
  pub bounded : new.faults ≤ greatest_count
  pub cause : MatchResult result (λ _. new.faults ≡ old.faults) (λ _. Rises old.faults new.faults)

-- calls that change no byte: a read gives what it gave, and no moment of them leaves an image that
-- is new. They may make written bytes durable, as a sync does.
pub record Looks (old new : History) : Type 0 where
  pub content : content_of new ≡ content_of old
  pub moments : LeavesOnly (IsImage old.now) old new

-- a write: done at Ok, torn at most whatever it answers, and torn at most at every moment of it
pub record Writes {T E : Type 0} (area : Area) (at : ℕ) (bytes : List ℕ) (result : Result T E)
    (old new : History) : Type 0 where
  pub written : MatchResult result
      (λ _. ChangesArea area (λ before after. after ≡ overwritten before at bytes) (content_of old)
      (content_of new)) (λ _. Unit {0})
  pub touched : ChangesArea area (Torn at (length bytes)) (content_of old) (content_of new)
  pub moments : LeavesOnly (Reaches (ChangesArea area (Torn at (length bytes))) old.now) old new

-- a sync: it changes nothing that a read gives, leaves no image that is new, and at Ok a crash
-- leaves of the area what a read gives
pub record Syncs {T E : Type 0} (area : Area) (result : Result T E)
    (old new : History) : Type 0 where
  pub content : content_of new ≡ content_of old
  pub moments : LeavesOnly (IsImage old.now) old new
  pub durable : MatchResult result
      (λ _. (c : Image) → IsImage new.now c → area_of area c ≡ area_of area (content_of old))
      (λ _. Unit {0})

-- nothing is claimed of a disk that doesn't keep the model
pub unclaimed : {P : Type 0} → IsTrue false → P
unclaimed h = cc
