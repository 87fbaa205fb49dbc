-- What the relations of programs speak of: the disk that a program is given, what stands on its streams and outside before it and after it, and its run,
-- which has these together.
use Rattle.std.specs.Prelude.{◌≡◌, ℕ, List, Option}
use Rattle.disk_model.specs.Disk.{DiskView}
use Rattle.driver.specs.Place.{SourceRules}
use Rattle.script_agenda.specs.Run.{Outside, outside}
use Rattle.offline_programs.specs.Saying.{Saying}
use Rattle.sheet_files.specs.Closing.{Closable}

-- A disk that a program is given, and how it is seen and closed.
pub record GivenDisk (D : Type 0) : Type 1 where
  pub how : Closable D
  pub disk : D

abbrev pub given_disk : {D : Type 0} → Closable D → D → GivenDisk D
given_disk how disk = record { how = how; disk = disk }

-- the view of a disk as it was given
abbrev pub view_given : {D : Type 0} → GivenDisk D → DiskView
view_given g = g.how.view g.disk

-- A writer before a program wrote and after it, and how the bytes that it holds are seen.
pub record Writing (W : Type 0) : Type 0 where
  pub contents : W → Option (List ℕ)
  pub old : W
  pub new : W

abbrev pub writing : {W : Type 0} → (W → Option (List ℕ)) → W → W → Writing W
writing contents old new = record { contents = contents; old = old; new = new }

-- the bytes that a writer held before
abbrev pub text_before : {W : Type 0} → Writing W → Option (List ℕ)
text_before w = w.contents w.old

-- the bytes that it holds after
abbrev pub text_after : {W : Type 0} → Writing W → Option (List ℕ)
text_after w = w.contents w.new

-- A program's output and its stream of errors.
pub record Streams (W E : Type 0) : Type 1 where
  pub output : Writing W
  pub errors : Saying E

abbrev pub streams : {W E : Type 0} → Writing W → Saying E → Streams W E
streams output errors = record { output = output; errors = errors }

-- The children, or the sources of all that comes, before a program's calls on them and after these.
pub record Calling (C : Type 0) : Type 0 where
  pub old : C
  pub new : C

abbrev pub calling : {C : Type 0} → C → C → Calling C
calling old new = record { old = old; new = new }

-- nothing was written, and no child was called
abbrev pub DoesNothing : {C W : Type 0} → Calling C → Writing W → Type 0
DoesNothing q w = (w.new ≡ w.old) × (q.new ≡ q.old)

-- what is outside of a program that lives, where it begins
abbrev pub outside_before : {D C W : Type 0} → GivenDisk D → Calling C → Writing W → Outside C
outside_before g q w = outside (view_given g) q.old (text_before w)

-- the same after it, with the disk as it was closed
abbrev pub outside_after : {D C W : Type 0} → GivenDisk D → D → Calling C → Writing W → Outside C
outside_after g later q w = outside (g.how.view later) q.new (text_after w)

-- How a program is seen: its disk, what its sources may do, and the bytes that its output holds.
pub record ProgramView (D C W : Type 0) : Type 1 where
  pub disks : Closable D
  pub sources : SourceRules C
  pub written : W → Option (List ℕ)

abbrev pub program_view : {D C W : Type 0} → Closable D → SourceRules C → (W → Option (List ℕ)) → ProgramView D C W
program_view disks sources written = record { disks = disks; sources = sources; written = written }

-- What a program is given beside a disk, and gives back: its sources and its output, and how these and its disk are seen.
pub record ProgramPassage (D C W : Type 0) : Type 1 where
  pub how : Closable D
  pub rules : SourceRules C
  pub called : Calling C
  pub wrote : Writing W

abbrev pub passage_of : {D C W : Type 0} → Closable D → SourceRules C → Calling C → Writing W → ProgramPassage D C W
passage_of how rules called wrote = record { how = how; rules = rules; called = called; wrote = wrote }

-- A program's run: the disk that it was given, what its sources may do, its calls on them, and what it wrote.
pub record ProgramRun (D C W : Type 0) : Type 1 where
  pub given : GivenDisk D
  pub rules : SourceRules C
  pub called : Calling C
  pub wrote : Writing W

abbrev pub run_of : {D C W : Type 0} → GivenDisk D → SourceRules C → Calling C → Writing W → ProgramRun D C W
run_of given rules called wrote = record { given = given; rules = rules; called = called; wrote = wrote }

-- the run on this disk
abbrev pub run_on : {D C W : Type 0} → ProgramPassage D C W → D → ProgramRun D C W
run_on p disk = run_of (given_disk p.how disk) p.rules p.called p.wrote

-- the same run, from where this was its output on
abbrev pub run_since : {D C W : Type 0} → ProgramRun D C W → W → ProgramRun D C W
run_since r first = run_of r.given r.rules r.called (writing r.wrote.contents first r.wrote.new)

-- and up to where it was
abbrev pub run_until : {D C W : Type 0} → ProgramRun D C W → W → ProgramRun D C W
run_until r last = run_of r.given r.rules r.called (writing r.wrote.contents r.wrote.old last)
