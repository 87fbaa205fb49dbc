-- Which events can have which fault, and what it leaves. (docs/dev/HOST.md, "Faults".)
use Rattle.std.specs.Prelude.{◌≡◌, ℕ, List, Bool, true, false, Some, is_some, option_map, ◌||◌}
use Rattle.block_tree.specs.declared.reason.Reason.TheVariants as reason
use Rattle.disk_model.specs.Disk.{DiskView, Rises}
use Rattle.worksheet.specs.declared.op.Op.{Op}
use Rattle.host_events.specs.declared.event.ChildEvent.TheVariants as child
use Rattle.host_events.specs.declared.event.Event.{Event}
use Rattle.host_events.specs.declared.event.Event.TheVariants as event
use Rattle.host_events.specs.declared.outcome.HostFault.{HostFault}
use Rattle.host_events.specs.declared.outcome.HostFault.TheVariants as hosts
use Rattle.session_engine.specs.World.{World, sheet_in, life_of, with_number, fits_in, kept_at_end}
use Rattle.session_engine.specs.Does.{Does, MayDo}
use Rattle.session_engine.specs.Host.{HostView, OnDisk, number_in}

-- A piece of a life that goes on. It takes memory, and it can't be refused.
abbrev pub is_piece : World → Event → Bool
is_piece w (event.Child name number (child.Piece piece)) = is_some (with_number number (life_of w name))
is_piece w _ = false

-- A piece takes memory, and a life's end where a line keeps its reason; no other event of a child does.
abbrev pub event_takes_memory : World → Event → Bool
event_takes_memory w (event.Child name number child.StartRefused) = is_some (kept_at_end w reason.StartRefused (with_number number (life_of w name)))
event_takes_memory w (event.Child name number (child.Piece piece)) = is_piece w (event.Child name number (child.Piece piece))
event_takes_memory w (event.Child name number child.End) = is_some (kept_at_end w reason.Ended (with_number number (life_of w name)))
event_takes_memory w (event.Child name number child.ReadFault) = is_some (kept_at_end w reason.ReadFault (with_number number (life_of w name)))
event_takes_memory w (event.Child name number child.SendFault) = is_some (kept_at_end w reason.SendFault (with_number number (life_of w name)))
event_takes_memory w (event.Child name number child.Stalled) = is_some (kept_at_end w reason.Stalled (with_number number (life_of w name)))
event_takes_memory w _ = false

-- the event may do this, which gives this op
pub record MayGive (w : World) (e : Event) (o : Op) : Type 0 where
  pub does : Does
  pub may : MayDo w e does
  pub gives : does.op ≡ Some o

-- the event may do this, which gives an op or rewrites the journal
pub record MayWrite (w : World) (e : Event) : Type 0 where
  pub does : Does
  pub may : MayDo w e does
  pub writes : (does.again || is_some does.op) ≡ true

-- What a fault is answered for, and what it leaves of the disk. Where an event has no cause here, it is answered Ok: so is a Stop,
-- and each event of a child but a piece, where it gives no op; and a piece of a life that doesn't go on.
abbrev pub CauseOf : World → Event → DiskView → DiskView → HostFault → Type 0
CauseOf w e old new hosts.Closed = ⊥
CauseOf w e old new hosts.Disk = Rises old.faults new.faults × ((write : MayWrite w e) × OnDisk w.ops write.does.again write.does.op old new)
CauseOf w e old new hosts.OutOfMemory = (new ≡ old) × (event_takes_memory w e ≡ true)
CauseOf w e old new hosts.JournalFull = (new ≡ old) × (is_piece w e ≡ true) × ((o : Op) × MayGive w e o × (fits_in w.room w.end o ≡ false))

-- An event that was not taken leaves the worksheet, and each life's number, as they were.
pub record Failed (w : World) (e : Event) (old new : HostView) (fault : HostFault) : Type 0 where
  pub contents : new.store.sheet.contents ≡ sheet_in w
  pub numbers : (name : List ℕ) → number_in new.lives name ≡ option_map (λ l. l.number) (life_of w name)
  pub cause : CauseOf w e old.store.disk new.store.disk fault
