-- What a place of files went through when a worksheet's two files were made or opened. The place is
-- followed from each call to the next one, so nothing else was done there, and each answer is said.
use Rattle.std.specs.Prelude.{◌≡◌, ◌≤◌, ◌⊎◌, ◌++◌, ℕ, List, Bool, false, true, Option, Some, None, Result, Ok, Err, IfOk, OnOk, codes, if◌then◌else◌}
use Rattle.std.specs.IoError.{error_kind}
use Rattle.std.specs.declared.io.Error.{Error}
use Rattle.std.specs.declared.io.ErrorKind.{ErrorKind}
use Rattle.std.specs.declared.io.ErrorKind.TheVariants.{InvalidInput, NotFound, Unsupported}
use Rattle.std.specs.declared.fs.locks.TryLockError.{TryLockError}
use Rattle.std.specs.declared.fs.locks.TryLockError.TheVariants.{WouldBlock}
use Rattle.std.specs.declared.fs.locks.TryLockError.TheVariants as tries
use Rattle.disk_model.specs.Disk.{greatest_room}
use Rattle.sheet_files.specs.declared.disk_file.OpenedFile.{OpenedFile}
use Rattle.sheet_files.specs.declared.names.Names as names
use Rattle.sheet_files.specs.declared.sheet_file.Lock.{Lock}
use Rattle.sheet_files.specs.declared.sheet_file.Lock.TheVariants.{Shared, Exclusive}

-- the path isn't that of a worksheet's second file, and neither path had anything. Then the first file was
-- made, and locked before the other was made, and that one too; and then both files and the names of their
-- folder were brought onto the disk
abbrev pub Created : {F N : Type 0} → names.Ghosts N F → List ℕ → List ℕ → F × F → N → N → Type 0
Created {F} {N} calls path alt files old new =
    (own : N) × calls.is_second_file old path (Ok false) own
    × ((a : N) × calls.looks own path (Ok false) a
    × ((b : N) × calls.looks a alt (Ok false) b
    × ((c : N) × calls.makes b path (Ok files.0) c
    × ((d : N) × calls.locks c files.0 Exclusive (Ok false) d
    × ((e : N) × calls.makes d alt (Ok files.1) e
    × ((f : N) × calls.locks e files.1 Exclusive (Ok false) f
    × ((g : N) × calls.syncs f files.0 (Ok tt) g
    × ((h : N) × calls.syncs g files.1 (Ok tt) h
    × calls.syncs_folder h path (Ok tt) new))))))))

-- the path isn't that of a worksheet's second file. A first file was opened, and then locked before
-- anything was read of it, and it has one name
abbrev pub FirstOpened : {F N : Type 0} → names.Ghosts N F → List ℕ → Lock → F → N → N → Type 0
FirstOpened {F} {N} calls path lock first old new =
    (own : N) × calls.is_second_file old path (Ok false) own
    × ((a : N) × calls.opens own path lock (Ok first) a
    × ((b : N) × calls.locks a first lock (Ok false) b
    × calls.is_single b first (Ok tt) new))

-- a second file was opened; or there was none, as the error of its opening said, the first one doesn't
-- say that the worksheet lies in it, and one was made
abbrev pub SecondOpened : {F N : Type 0} → names.Ghosts N F → List ℕ → F → F → N → N → Type 0
SecondOpened {F} {N} calls alt first second old new =
    calls.opens old alt Exclusive (Ok second) new
    ⊎ ((error : Error) × (error_kind error ≡ NotFound × ((a : N) × calls.opens old alt Exclusive (Err error) a
    × ((b : N) × calls.reads a first (Ok false) b
    × calls.makes b alt (Ok second) new))))

-- a second file is another than the first, and it was locked before anything was read of it
abbrev pub SecondLocked : {F N : Type 0} → names.Ghosts N F → F → F → Lock → N → N → Type 0
SecondLocked {F} {N} calls first second lock old new =
    (a : N) × calls.are_two old first second (Ok tt) a × calls.locks a second lock (Ok false) new

-- a file is at most as long as an area may be
abbrev pub WithinRoom : {F N : Type 0} → names.Ghosts N F → F → N → N → Type 0
WithinRoom {F} {N} calls file old new =
    (bytes : ℕ) × bytes ≤ greatest_room × calls.measures old file (Ok bytes) new

-- both files were opened to be written, and locked so that nobody else has them; neither is too long, and
-- then the names of their folder were brought onto the disk
abbrev pub Opened : {F N : Type 0} → names.Ghosts N F → List ℕ → List ℕ → F × F → N → N → Type 0
Opened {F} {N} calls path alt files old new =
    (a : N) × FirstOpened calls path Exclusive files.0 old a
    × ((b : N) × SecondOpened calls alt files.0 files.1 a b
    × ((c : N) × SecondLocked calls files.0 files.1 Exclusive b c
    × ((d : N) × WithinRoom calls files.0 c d
    × ((e : N) × WithinRoom calls files.1 d e
    × calls.syncs_folder e path (Ok tt) new))))

-- a second file that is only read was opened, and locked so that others may read it; or there was none, as
-- the error of its opening said
abbrev pub SecondRead : {F N : Type 0} → names.Ghosts N F → List ℕ → F → Option F → N → N → Type 0
SecondRead {F} {N} calls alt first (Some second) old new =
    (a : N) × calls.opens old alt Shared (Ok second) a × SecondLocked calls first second Shared a new
SecondRead {F} {N} calls alt first None old new =
    (error : Error) × (error_kind error ≡ NotFound × calls.opens old alt Shared (Err error) new)

-- the files were opened to be read alone: none was made, written or synced
abbrev pub OpenedToRead : {F N : Type 0} → names.Ghosts N F → List ℕ → List ℕ → F × Option F → N → N → Type 0
OpenedToRead {F} {N} calls path alt files old new =
    (a : N) × FirstOpened calls path Shared files.0 old a
    × SecondRead calls alt files.0 files.1 a new

-- the path of the second file beside the first one at a path
abbrev pub second_name : List ℕ → List ℕ
second_name path = path ++ codes ".alt"

-- a disk's files were made at a path, the first one of both there
abbrev pub DiskMade : {F N : Type 0} → names.Ghosts N F → List ℕ → F → Option F → N → N → Type 0
DiskMade {F} {N} calls path first second old new =
    (other : F) × second ≡ Some other × Created calls path (second_name path) (first, other) old new

-- a disk's files were opened to be written: where a path leads was asked before anything else, and the second file is the one beside
-- what it leads to
abbrev pub DiskOpened : {F N : Type 0} → names.Ghosts N F → List ℕ → F → Option F → N → N → Type 0
DiskOpened {F} {N} calls path first second old new =
    (other : F) × second ≡ Some other × ((real : List ℕ) × ((a : N) × calls.leads old path real a
    × Opened calls real (second_name real) (first, other) a new))

-- and to be read alone
abbrev pub DiskRead : {F N : Type 0} → names.Ghosts N F → List ℕ → F → Option F → N → N → Type 0
DiskRead {F} {N} calls path first second old new =
    (real : List ℕ) × ((a : N) × calls.leads old path real a
    × OpenedToRead calls real (second_name real) (first, second) a new)

-- the errors by which a file system says that it has no locks
abbrev pub tells_no_locks : ErrorKind → Bool
tells_no_locks Unsupported = true
tells_no_locks InvalidInput = true
tells_no_locks _ = false

-- whether another has a file, by what came of a lock that was asked for: nobody, where it was given; somebody, where it wasn't for
-- that; nobody, where the file system has no locks; and of another error that error
abbrev pub SaysInUse : Result (Unit {0}) TryLockError → Result Bool Error → Type 0
SaysInUse (Ok _) result = result ≡ Ok false
SaysInUse (Err WouldBlock) result = result ≡ Ok true
SaysInUse (Err (tries.Error error)) result = result ≡ (if tells_no_locks (error_kind error) then Ok false else Err error)

-- this lock was asked for of this file, and the answer is by what came
abbrev pub LocksBy : {F : Type 0} → (F → Lock → Result (Unit {0}) TryLockError → Type 0) → F → Lock → Result Bool Error → Type 0
LocksBy locked file lock result = (came : Result (Unit {0}) TryLockError) × locked file lock came × SaysInUse came result

-- whether a file is opened to read alone for this lock
abbrev pub reads_alone : Lock → Bool
reads_alone Shared = true
reads_alone Exclusive = false

-- a file counts as opened to read alone exactly where it was asked for so: by the lock that it is to
-- have
abbrev pub OpenedFor : {F : Type 0} → Lock → Result (OpenedFile F) Error → Type 0
OpenedFor lock result = IfOk result (λ opened. opened.reads_only ≡ reads_alone lock)

-- some file was brought onto the disk, where that is the answer
abbrev pub Brings : {F : Type 0} → (F → Result (Unit {0}) Error → Type 0) → Result (Unit {0}) Error → Type 0
Brings {F} brought result = OnOk result ((file : F) × brought file (Ok tt))
