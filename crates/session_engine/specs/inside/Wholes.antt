-- A host whose owed records are dropped. No public contract names this.
use Rattle.std.specs.Prelude.{◌≡◌, ◌≤◌, ◌∷◌, ◌++◌, List, [], false}
use Rattle.std.specs.List.{AllByRecursion}
use Rattle.disk_model.specs.Disk.{InModel, Leaves}
use Rattle.worksheet.specs.declared.op.Op.{Op}
use Rattle.worksheet.specs.Contents.{Contents}
use Rattle.worksheet.specs.Checks.{Allowed}
use Rattle.recovery.specs.Sheets.{IsSheetImage, Makes}
use Rattle.session_engine.specs.Limits.{most_lives}
use Rattle.session_engine.specs.Named.{NamesDiffer}
use Rattle.session_engine.specs.World.{World, sheet_in}
use Rattle.host_events.specs.declared.outcome.Outcome.{Outcome}
use Rattle.session_engine.specs.declared.whole.Whole.{Whole}
use Rattle.session_engine.specs.declared.whole.Whole.TheVariants as whole
use Rattle.session_engine.specs.Host.{HaveFields, HostView, IsHost, Lives}

-- With this worksheet, and without what is owed, the host stands for this world.
pub record WithdrawsTo (host : HostView) (before : Contents) (w : World) : Type 0 where
  pub works : host.closed ≡ false
  pub still_open : host.store.closed ≡ false
  pub made : (ops : List Op) × Makes ops before
  pub contents : before ≡ sheet_in w
  pub allowed : Allowed w.ops
  pub images : InModel host.store.real (Leaves (IsSheetImage (sheet_in w)) host.store.real.history.now)
  pub room : host.store.real.room ≡ w.room
  pub end : host.store.start ≡ w.end
  pub begun_is : host.begun ≡ w.begun
  pub bound : w.begun ≤ most_lives
  pub lives_are : Lives host.lives w.lives
  pub fields : AllByRecursion (HaveFields (sheet_in w)) w.lives
  pub apart : NamesDiffer (λ l. l.name) w.lives

-- The host owes nothing, and this is its worksheet again.
pub record MayWithdraw (host : HostView) (before : Contents) : Type 0 where
  pub world : World
  pub stands : IsHost host world
  pub owed : host.store.owed ≡ []
  pub real : host.store.real ≡ host.store.disk
  pub start : host.store.start ≡ host.store.end
  pub made : (ops : List Op) × Makes ops before
  pub same : before ≡ host.store.sheet.contents

-- it says that none was taken, and has these outcomes
abbrev pub EndsIn : List Outcome → Whole → Type 0
EndsIn reported (whole.Taken outcomes) = ⊥
EndsIn reported (whole.Refused before last) = reported ≡ before.items ++ last ∷ []
