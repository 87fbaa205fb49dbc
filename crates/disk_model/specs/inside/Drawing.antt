-- What `crash` has drawn of an area so far. No public clause speaks of it.
use Rattle.std.specs.Prelude.{◌≡◌, length}
use Rattle.disk_model.specs.Disk.{AreaState}
use Rattle.disk_model.specs.Crash.{all_laid}
use Rattle.disk_model.specs.declared.crash.Drawing.{Drawing}

-- what a read gives and what is drawn have one length
abbrev pub IsEven : Drawing → Type 0
IsEven d = length d.image.items ≡ length d.content.items

-- the area is in this state
pub record Draws (d : Drawing) (a : AreaState) : Type 0 where
  pub content : d.content.items ≡ a.content
  pub image : d.image.items ≡ all_laid d.fill a.synced a.writes
  pub synced : d.synced_len ≡ length a.synced
