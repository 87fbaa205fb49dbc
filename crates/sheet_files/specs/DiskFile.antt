-- An open file as a disk sees it: what it was before each moment, and what one call does to it. A
-- moment is the number of a call that may change something, counted over all files of one disk.
use Rattle.std.specs.Prelude.{◌≡◌, ℕ, zero, suc, ◌+◌, ◌≤◌, ◌&&◌, Bool, true, false, IsTrue, List, [], ◌∷◌, length, Option, Some, None, Result, MatchResult}
use Rattle.std.specs.IoError.{error_kind}
use Rattle.std.specs.declared.io.Error.{Error}
use Rattle.std.specs.declared.io.ErrorKind.{ErrorKind}
use Rattle.std.specs.declared.io.ErrorKind.TheVariants.{InvalidInput, ReadOnlyFilesystem}
use Rattle.disk_model.specs.Disk.{AreaImage, AreaState, DiskState, DiskView, History, Torn, greatest_room, overwritten}

-- whether it keeps the model; whether it was opened to read alone; whether a sync of this opening
-- failed, so that no later one is to be believed; and its state before each moment
pub record FileView : Type 0 where
  pub keeps_model : Bool
  pub reads_only : Bool
  pub lost : Bool
  pub before : ℕ → AreaState

-- a claim that is made of files that keep the model
abbrev pub InFile : FileView → Type 0 → Type 0
InFile v P = IsTrue v.keeps_model → P

-- nothing has happened to the file since that moment
abbrev pub IsStill : ℕ → FileView → Type 0
IsStill moment v = (t : ℕ) → moment ≤ t → v.before t ≡ v.before moment

-- what is true of the file's state now
abbrev pub Now : FileView → (AreaState → Type 0) → Type 0
Now v P = (moment : ℕ) → IsStill moment v → P (v.before moment)

-- a file that was opened: nothing happens from that moment on, and no sync of it has failed
pub record IsFresh (moment : ℕ) (v : FileView) : Type 0 where
  pub still : IsStill moment v
  pub sound : v.lost ≡ false

-- what a crash may leave of the file in that state
abbrev pub FileImage : AreaState → List ℕ → Type 0
FileImage a c = AreaImage a.synced a.writes c

-- one call, at that moment: what was before it stays as it was, and so does how it was opened
pub record Passes (moment : ℕ) (old new : FileView) : Type 0 where
  pub keeps_model : new.keeps_model ≡ old.keeps_model
  pub reads_only : new.reads_only ≡ old.reads_only
  pub past : (t : ℕ) → t ≤ moment → new.before t ≡ old.before t
  pub still : IsStill (moment + 1) new

-- a write: done at Ok, torn at most whatever it answers
pub record FileWrites {T E : Type 0} (at : ℕ) (bytes : List ℕ) (result : Result T E)
    (old new : AreaState) : Type 0 where
  pub written : MatchResult result (λ _. new.content ≡ overwritten old.content at bytes)
      (λ _. Unit {0})
  pub touched : Torn at (length bytes) old.content new.content
  pub images : (c : List ℕ) → FileImage new c
      → (d : List ℕ) × FileImage old d × Torn at (length bytes) d c

-- a crash leaves what a read gives
abbrev pub IsDurable : AreaState → Type 0
IsDurable a = (c : List ℕ) → FileImage a c → c ≡ a.content

-- the errors by which a file system that can only be read says that it has nothing to flush
abbrev pub tells_nothing_to_sync : ErrorKind → Bool
tells_nothing_to_sync InvalidInput = true
tells_nothing_to_sync ReadOnlyFilesystem = true
tells_nothing_to_sync _ = false

-- a sync by that error had nothing to flush: of a file that was opened to read alone. Of one that is
-- written the same error says nothing of what was written
abbrev pub HadNothingToSync : Bool → Error → Type 0
HadNothingToSync reads_only error =
    reads_only ≡ true × tells_nothing_to_sync (error_kind error) ≡ true

-- a sync of a file of which no sync has failed: it changes nothing that a read gives, and at Ok all
-- of that is durable, as it is where there was nothing to flush
pub record FileSyncs {T : Type 0} (reads_only : Bool) (result : Result T Error)
    (old new : AreaState) : Type 0 where
  pub content : new.content ≡ old.content
  pub images : (c : List ℕ) → FileImage new c → FileImage old c
  pub durable : MatchResult result (λ _. IsDurable new)
      (λ error. HadNothingToSync reads_only error → IsDurable new)

-- what a sync returns to a disk: at Ok what a read gives is durable
pub record FileSynced {T E : Type 0} (result : Result T E) (old new : AreaState) : Type 0 where
  pub content : new.content ≡ old.content
  pub images : (c : List ℕ) → FileImage new c → FileImage old c
  pub durable : MatchResult result (λ _. IsDurable new) (λ _. Unit {0})

-- a sync that succeeds, or has nothing to flush, leaves on record whether one failed as it was; of
-- another error nothing is said
abbrev pub Loses : {T : Type 0} → Result T Error → FileView → FileView → Type 0
Loses result old new = MatchResult result (λ _. new.lost ≡ old.lost)
    (λ error. HadNothingToSync old.reads_only error → new.lost ≡ old.lost)

-- the view of a file of the system: nothing is claimed of it, but whether it was opened to read alone
abbrev pub real_file : Bool → FileView
real_file reads_only = record {
  keeps_model = false;
  reads_only = reads_only;
  lost = false;
  before = λ _. record { content = []; synced = []; writes = [] };
}

-- a second file was let go as it is, where there is one
abbrev pub SecondLetGo : {F : Type 0} → (F → Type 0) → Option F → Type 0
SecondLetGo let_go None = Unit {0}
SecondLetGo let_go (Some second) = let_go second

-- both files were let go as they are
abbrev pub LetGo : {F : Type 0} → (F → Type 0) → F → Option F → Type 0
LetGo let_go first second = let_go first × SecondLetGo let_go second

-- a file that is missing: it holds nothing, and stays so
abbrev pub missing_file : FileView
missing_file = record {
  keeps_model = true;
  reads_only = false;
  lost = false;
  before = λ _. record { content = []; synced = []; writes = [] };
}

-- the second file of a disk, which may be missing
abbrev pub second_of : {F : Type 0} → (F → FileView) → Option F → FileView
second_of view None = missing_file
second_of view (Some file) = view file

-- both files before a moment
abbrev pub both_before : FileView → FileView → ℕ → DiskState
both_before first second moment =
    record { first = first.before moment; second = second.before moment }

-- the states before each moment below this one, the newest first
abbrev pub states_below : FileView → FileView → ℕ → List DiskState
states_below first second zero = []
states_below first second (suc moment) =
    both_before first second moment ∷ states_below first second moment

-- what two files were, up to this moment
abbrev pub history_of : ℕ → FileView → FileView → History
history_of moment first second = record {
  now = both_before first second moment;
  past = states_below first second moment;
}

-- a disk of two files at this moment
abbrev pub two_files : ℕ → ℕ → FileView → FileView → DiskView
two_files failures moment first second = record {
  room = greatest_room;
  faults = failures;
  keeps_model = first.keeps_model && second.keeps_model;
  history = history_of moment first second;
}

-- a disk of which no failure was counted since
pub record WithoutFailure (old new : DiskView) : Type 0 where
  pub room : new.room ≡ old.room
  pub keeps_model : new.keeps_model ≡ old.keeps_model
  pub faults : new.faults ≡ old.faults
