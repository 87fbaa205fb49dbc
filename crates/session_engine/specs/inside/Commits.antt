-- What the store does for an event.
use Rattle.std.specs.Prelude.{◌≡◌, ◌⊎◌, ◌+◌, ◌==◌, ℕ, List, [], ◌∷◌, ◌++◌, length, true, false, Option, Some, None, option_map, option_and_then}
use Rattle.disk_model.specs.Disk.{DiskView, Image, InModel, Leaves, Rises}
use Rattle.worksheet.specs.declared.op.Op.{Op}
use Rattle.worksheet.specs.declared.op.Op.TheVariants as op
use Rattle.worksheet.specs.declared.refusal.Refusal.{Refusal}
use Rattle.worksheet.specs.declared.refusal.Refusal.TheVariants as refusal
use Rattle.worksheet.specs.Contents.{Contents}
use Rattle.worksheet.specs.Ops.{sheet_of}
use Rattle.worksheet.specs.Checks.{first_of, first_refusal, has_field}
use Rattle.block_tree.specs.declared.reason.Reason.{Reason}
use Rattle.recovery.specs.Code.{code_of}
use Rattle.recovery.specs.declared.fault.CommitFault.{CommitFault}
use Rattle.recovery.specs.declared.fault.CommitFault.TheVariants as commits
use Rattle.recovery.specs.Sheets.{StoreView, IsSheetImage, IsEither, SameStore}
use Rattle.host_events.specs.declared.outcome.HostFault.{HostFault}
use Rattle.host_events.specs.declared.outcome.HostFault.TheVariants as hosts
use Rattle.std.specs.List.{AllByRecursion}
use Rattle.plugin_core.specs.declared.item.Item.{Item}
use Rattle.plugin_core.specs.declared.item.Item.TheVariants as item
use Rattle.plugin_core.specs.declared.step.Answered.{Answered}
use Rattle.plugin_core.specs.declared.step.Answered.TheVariants as answered
use Rattle.plugin_core.specs.declared.step.Ended.{Ended}
use Rattle.plugin_core.specs.Items.{first_line_of}
use Rattle.session_engine.specs.declared.engine.Engine.{Engine}
use Rattle.host_events.specs.declared.outcome.Outcome.{Outcome}
use Rattle.host_events.specs.declared.reply.Reply.{Reply}
use Rattle.host_events.specs.declared.reply.Reply.TheVariants as reply
use Rattle.host_events.specs.declared.outcome.Effect.TheVariants as effect
use Rattle.session_engine.specs.World.{World, Going, waiting_in, with_op_if, fits_in, kept_at_end, life_of, sheet_in}
use Rattle.session_engine.specs.inside.Words.{with_op, fits, if_fits, lives_are_spent}
use Rattle.session_engine.specs.Refused.{command_refusals, command_takes_memory}
use Rattle.host_events.specs.declared.command.Command.{Command}
use Rattle.session_engine.specs.Does.{replies, refused, does, asks_item}
use Rattle.session_engine.specs.inside.Parts.{eval_refusals, asks, with_item}
use Rattle.session_engine.specs.inside.Engines.{StandsAt}
use Rattle.session_engine.specs.declared.commits.LoseFault.{LoseFault}
use Rattle.session_engine.specs.declared.commits.LoseFault.TheVariants as loses
use Rattle.session_engine.specs.Host.{HasField, OnDisk}

-- the op is on the disk and in the worksheet, after these
pub record Committed (old : StoreView) (ops : List Op) (o : Op) (new : StoreView) : Type 0 where
  pub fits : fits_in old.disk.room old.end o ≡ true
  pub contents : new.sheet.contents ≡ sheet_of (ops ++ o ∷ [])
  pub still_open : new.closed ≡ false
  pub end : new.end ≡ old.end + 5 + length (code_of o)
  pub images : InModel old.disk (Leaves (IsSheetImage (sheet_of (ops ++ o ∷ []))) new.disk.history.now)

-- the op is refused, and nothing has changed
pub record NotCommitted (old : StoreView) (o : Op) (new : StoreView) (r : Refusal) : Type 0 where
  pub same : SameStore old new
  pub cause : ((r ≡ refusal.JournalFull) × (fits_in old.disk.room old.end o ≡ false)) ⊎ ((r ≡ refusal.OutOfMemory) × (fits_in old.disk.room old.end o ≡ true))

abbrev pub Commits : StoreView → List Op → Op → StoreView → Option Refusal → Type 0
Commits old ops o new None = Committed old ops o new
Commits old ops o new (Some r) = NotCommitted old o new r

-- the refusal that a fault of the store is, unless its disk has failed
abbrev pub refusal_for : CommitFault → Option Refusal
refusal_for (commits.Full back) = Some refusal.JournalFull
refusal_for (commits.OutOfMemory back) = Some refusal.OutOfMemory
refusal_for commits.Disk = None
refusal_for commits.Closed = None

-- The same of an op that may be there.

abbrev pub AllowedIf : Contents → Option Op → Type 0
AllowedIf sheet None = Unit {0}
AllowedIf sheet (Some o) = first_refusal sheet o ≡ None

abbrev pub CommittedIf : StoreView → List Op → Option Op → StoreView → Type 0
CommittedIf old ops None new = SameStore old new
CommittedIf old ops (Some o) new = Committed old ops o new

abbrev pub IsEitherIf : List Op → Option Op → Image → Type 0
IsEitherIf ops None i = IsSheetImage (sheet_of ops) i
IsEitherIf ops (Some o) i = IsEither ops o i

-- why an op that was to be kept isn't
pub data NotKept (old new : StoreView) : Option Op → HostFault → Type 0 where
  unkept_on_disk : (o : Op) → new.sheet.contents ≡ old.sheet.contents → Rises old.disk.faults new.disk.faults → NotKept old new (Some o) hosts.Disk
  unkept_in_memory : (o : Op) → SameStore old new → NotKept old new (Some o) hosts.OutOfMemory
  unkept_in_room : (o : Op) → SameStore old new → fits_in old.disk.room old.end o ≡ false → NotKept old new (Some o) hosts.JournalFull

-- Lines that are lost.

-- the op of a line that is lost, if one is, where it fits
abbrev pub kept_for : ℕ → ℕ → Reason → Option ℕ → Option Op
kept_for room end why line = option_and_then (λ id. if_fits room end (op.Lost id why)) line

-- a line is that of a field that there is
abbrev pub IsOfField : Contents → Item → Type 0
IsOfField sheet (item.Line id text) = has_field sheet id ≡ true
IsOfField sheet (item.Complete id text cursor) = Unit {0}

-- so is the first of some, if there is one
abbrev pub HasFieldIf : Contents → Option ℕ → Type 0
HasFieldIf sheet None = Unit {0}
HasFieldIf sheet (Some id) = has_field sheet id ≡ true

-- and the first one that an end leaves
abbrev pub LosesField : Contents → Option Ended → Type 0
LosesField sheet None = Unit {0}
LosesField sheet (Some e) = HasFieldIf sheet (first_line_of e.lost)

-- why the reason of a line isn't kept that was to be
pub data NotLost (old new : StoreView) : Option Op → LoseFault → Type 0 where
  unlost_in_memory : (o : Op) → SameStore old new → NotLost old new (Some o) loses.OutOfMemory
  unlost_on_disk : (o : Op) → new.sheet.contents ≡ old.sheet.contents → Rises old.disk.faults new.disk.faults → NotLost old new (Some o) loses.Disk

-- the op of the answer to a line
abbrev pub answer_op : Option Answered → Option Op
answer_op None = None
answer_op (Some (answered.Banner b)) = None
answer_op (Some (answered.Line id prompt output)) = Some (op.Answer id prompt output)
answer_op (Some (answered.Complete id result)) = None

-- what becomes of a host that loses the first line of a life: its reason is kept, if there is room
pub record Loses {D : Type 0} (w : World) (name : List ℕ) (why : Reason) (old new : Engine D) : Type 0 where
  pub stands : StandsAt new (with_op_if (kept_at_end w why (life_of w name)) w)
  pub disk : OnDisk w.ops false (kept_at_end w why (life_of w name)) old.store.disk new.store.disk

-- or of one that can't keep it
abbrev pub CauseOfLoss : List Op → Op → DiskView → DiskView → LoseFault → Type 0
CauseOfLoss ops o old new loses.OutOfMemory = new ≡ old
CauseOfLoss ops o old new loses.Disk = Rises old.faults new.faults × OnDisk ops false (Some o) old new

pub record FailsToLose {D : Type 0} (w : World) (name : List ℕ) (why : Reason) (old new : Engine D) (fault : LoseFault) : Type 0 where
  pub lost : Op
  pub is : kept_at_end w why (life_of w name) ≡ Some lost
  pub contents : new.store.sheet.contents ≡ sheet_in w
  pub cause : CauseOfLoss w.ops lost old.store.disk new.store.disk fault
  pub still : fault ≡ loses.OutOfMemory → StandsAt new w

-- an op that takes no field away, or another one
abbrev pub Spares : ℕ → Op → Type 0
Spares id (op.Session name tab words) = Unit {0}
Spares id (op.New after session input) = Unit {0}
Spares id (op.Set other input) = Unit {0}
Spares id (op.Remove other) = (other == id) ≡ false
Spares id (op.Move other after) = Unit {0}
Spares id (op.Clear other) = Unit {0}
Spares id (op.Answer other prompt output) = Unit {0}
Spares id (op.Lost other reason) = Unit {0}
Spares id (op.Ids number) = Unit {0}

-- no waiting line is that of a field that the op removes
abbrev pub SparesItem : Op → Item → Type 0
SparesItem o (item.Line id text) = Spares id o
SparesItem o (item.Complete id text cursor) = Unit {0}

abbrev pub SparesLife : Op → Going → Type 0
SparesLife o l = AllByRecursion (SparesItem o) (waiting_in l)

-- an op that the worksheet allows is done, or refused where it doesn't fit or for lack of memory, and then no disk is touched
abbrev pub Changes : {D : Type 0} → World → Op → Reply → Engine D → Engine D → Outcome → Type 0
Changes w o r old new out =
    ((fits w o ≡ true) × (out ≡ replies r) × StandsAt new (with_op o w))
    ⊎ (((fits w o ≡ false) × (out ≡ refused refusal.JournalFull) × StandsAt new w × (new.store.disk ≡ old.store.disk))
    ⊎ ((fits w o ≡ true) × (out ≡ refused refusal.OutOfMemory) × StandsAt new w × (new.store.disk ≡ old.store.disk)))

-- why an Eval is refused after the checks of its field and its line
abbrev pub RefusesEval : World → ℕ → Refusal → Type 0
RefusesEval w id r = (first_of (eval_refusals w id) ≡ Some r) ⊎ ((first_of (eval_refusals w id) ≡ None) × (r ≡ refusal.OutOfMemory))

-- what is returned for an item that is asked: it begins a life that is started with these words, or these bytes are
-- sent
abbrev pub reported_asked : List ℕ → ℕ → Option (List (List ℕ)) → Option (List ℕ) → Outcome
reported_asked name life (Some words) sent = record { reply = reply.Asked life; effect = Some (effect.Start name life words) }
reported_asked name life None sent = record { reply = reply.Asked life; effect = option_map (λ bytes. effect.Send name life bytes) sent }

abbrev pub begun_with_words : ℕ → Option (List (List ℕ)) → ℕ
begun_with_words begun (Some words) = begun + 1
begun_with_words begun None = begun

-- the line of a field that is to be asked, and its session
pub record LineOf : Type 0 where
  pub session : List ℕ
  pub id : ℕ
  pub line : Item

-- it is asked and its field's Clear is given, or neither for lack of memory
abbrev pub Evaluated : {D : Type 0} → World → LineOf → Engine D → Engine D → Outcome → Type 0
Evaluated w it old new o =
    ((o ≡ asks w it.session it.line (life_of w it.session)) × StandsAt new (with_op (op.Clear it.id) (with_item w it.session it.line (life_of w it.session))))
    ⊎ ((o ≡ refused refusal.OutOfMemory) × StandsAt new w × (new.store.disk ≡ old.store.disk))

-- What this command asks completions with: the name of the session, and the request. No refusal applies.
pub record GivesRequest (w : World) (c : Command) (name : List ℕ) (i : Item) : Type 0 where
  pub none : first_of (command_refusals w c) ≡ None
  pub takes : command_takes_memory w c ≡ true
  pub left : lives_are_spent w.begun (life_of w name) ≡ false
  pub has : HasField (sheet_in w) name i
  pub does_is : does w c ≡ asks_item w i None name (life_of w name)

-- why it asks none
abbrev pub RefusesRequest : World → Command → Refusal → Type 0
RefusesRequest w c r = (first_of (command_refusals w c) ≡ Some r) ⊎ ((first_of (command_refusals w c) ≡ None) × (command_takes_memory w c ≡ true) × (r ≡ refusal.OutOfMemory))
