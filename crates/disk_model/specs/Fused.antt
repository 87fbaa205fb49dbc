-- What a call does to a disk with a fuse.
use Rattle.std.specs.Prelude.{◌≡◌, ℕ, ◌+◌, min, Result, IsErr}
use Rattle.disk_model.specs.Disk.{Called, DiskView, greatest_count}
use Rattle.disk_model.specs.Fuse.{Blows, fused}
use Rattle.disk_model.specs.declared.fuse.FuseDisk.{FuseDisk}
use Rattle.disk_model.specs.declared.fuse.FuseMode.{FuseMode}

-- the disk as contracts see it, where `view` is that of the disk inside
abbrev pub fuse_view : {D : Type 0} → (D → DiskView) → FuseDisk D → DiskView
fuse_view view f = fused (view f.inner) f.fuse.refused

-- a fuse that has counted no call, and that no read was asked of
pub record IsNew {D : Type 0} (f : FuseDisk D) (inner : D) (k : ℕ) (mode : FuseMode) : Type 0 where
  pub inner_is : f.inner ≡ inner
  pub k_is : f.fuse.k ≡ k
  pub mode_is : f.fuse.mode ≡ mode
  pub calls : f.fuse.calls ≡ 0
  pub refused : f.fuse.refused ≡ 0
  pub longest_read : f.longest_read ≡ 0

-- the next call is one that the fuse fails
abbrev pub IsBlown : {D : Type 0} → FuseDisk D → Type 0
IsBlown f = Blows f.fuse.mode f.fuse.k f.fuse.calls

-- one call: counted up to the k-th; where the fuse is blown failed without passing it on, and
-- counted as one failure more; else answered by the disk inside
pub record Spends {D T E : Type 0} (view : D → DiskView) (result : Result T E)
    (old new : FuseDisk D) : Type 0 where
  pub k : new.fuse.k ≡ old.fuse.k
  pub mode : new.fuse.mode ≡ old.fuse.mode
  pub calls : new.fuse.calls ≡ min (old.fuse.calls + 1) old.fuse.k
  pub failed : IsBlown old → IsErr result × (new.inner ≡ old.inner)
      × (new.fuse.refused ≡ min (old.fuse.refused + 1) greatest_count)
  pub passed_on : (IsBlown old → ⊥) → (new.fuse.refused ≡ old.fuse.refused)
      × Called result (view old.inner) (view new.inner)
