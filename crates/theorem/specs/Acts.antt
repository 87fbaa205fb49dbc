-- All that the program may do to a worksheet: turns of hosts, and answers that `check --accept` puts in; and whence each answer then comes.
-- (docs/trust/THEOREM.md; premises A1 to A7 in README.md.)
use Rattle.std.specs.Prelude.{◌≡◌, ◌⊎◌, ℕ, IsTrue, List, [], ◌∷◌, ◌++◌, Some, Result}
use Rattle.std.specs.List.{AllByRecursion}
use Rattle.block_tree.specs.Tree.{Tree}
use Rattle.disk_model.specs.Disk.{DiskView, History, Image, InModel, LeavesOnly, SameDisk, bytes_on}
use Rattle.journal.specs.declared.journal.OpenFault.{OpenFault}
use Rattle.worksheet.specs.declared.op.Op.{Op}
use Rattle.worksheet.specs.declared.op.Op.TheVariants as op
use Rattle.worksheet.specs.declared.field.Field.{Field}
use Rattle.worksheet.specs.declared.field.Answer.{Answer}
use Rattle.worksheet.specs.Contents.{Contents}
use Rattle.worksheet.specs.Ops.{sheet_of}
use Rattle.worksheet.specs.Checks.{Allowed, AllowedFrom}
use Rattle.recovery.specs.Sheets.{IsSheetImage}
use Rattle.host_events.specs.declared.event.Event.{Event}
use Rattle.session_engine.specs.Host.{HostGivesSheet, HostView}
use Rattle.host_laws.specs.Turns.{AnsweredIn, Has, HostTurn, KeepField, LeftInTurn}
use Rattle.theorem.specs.Story.{CrashedSince}
use Rattle.theorem.specs.Copies.{IsEvalOrChild, PutIn, PutsWhole, WholeOnCopy}
use Rattle.theorem.specs.Programs.{Invocations}

-- What was done by one invocation or several: hosts had turns; or answers were put in, of which these were reported.
pub data Act : Type 0 where
  hosted : List HostTurn → Act
  filed : PutIn → (reported : List Op) → Act

-- An image of the worksheet of these ops and of some of the first of more, with all of those that were reported.
pub record HasFirst (ops more reported : List Op) (i : Image) : Type 0 where
  pub done : List Op
  pub rest : List Op
  pub split : more ≡ done ++ rest
  pub withheld : List Op
  pub has : done ≡ reported ++ withheld
  pub image : IsSheetImage (sheet_of (ops ++ done)) i

-- A read of a disk, which keeps the model (A1), gives this image (A3), and it was opened to put answers after these ops, and nothing else, each of
-- them allowed after those before it. Each is the output of a whole block, which answered its field's line on a copy, where nothing but evaluations was asked.
-- This is the disk then. At every moment each image was of the worksheet after some of the first of them. At the last one the disk may have failed.
pub record Files (before : Image) (disk : DiskView) (ops : List Op) (put : PutIn) (back : DiskView) : Type 0 where
  pub keeps_model : IsTrue disk.keeps_model
  pub read : bytes_on disk ≡ before
  pub found : IsSheetImage (sheet_of ops) before
  pub evaluating : AllByRecursion IsEvalOrChild put.given
  pub answers : AllByRecursion (PutsWhole (sheet_of ops) put.given) put.ops
  pub from : AllowedFrom ops put.ops
  pub now : DiskView
  pub same : SameDisk disk now
  pub moments : InModel now (LeavesOnly (HasFirst ops put.ops []) now.history back.history)

-- Invocations of the program on the same files, one after another: those that have hosts or make reads alone, and acceptances between them. Of each of these
-- there is a moment from which on every image has all that it had reported (A6); the crash came then or later (A5), or it ended.
pub data Uses (room : ℕ) : Image → List Act → Image → Type 0 where
  no_use : {at : Image} → Uses room at [] at
  turns_of : {before mid after : Image} {turns : List HostTurn} {acts : List Act} → Invocations room before turns mid → Uses room mid acts after
      → Uses room before (hosted turns ∷ acts) after
  filing : {before mid after : Image} {put : PutIn} {reported : List Op} {acts : List Act} (disk back : DiskView) (ops : List Op) → (f : Files before disk ops put back)
      → (since : History) → InModel f.now (LeavesOnly (HasFirst ops put.ops reported) since back.history)
      → CrashedSince since back.history mid → Uses room mid acts after → Uses room before (filed put reported ∷ acts) after

-- Some of the first of these answers were put after a worksheet, all of them that were reported. Each of them is the output of a whole block, which answered
-- the line of its field on a copy of that worksheet.
pub record PutAfter (before : Contents) (put : PutIn) (reported : List Op) (after : Contents) : Type 0 where
  pub ops : List Op
  pub is : before ≡ sheet_of ops
  pub allowed : Allowed ops
  pub taken : List Op
  pub lost : List Op
  pub split : put.ops ≡ taken ++ lost
  pub withheld : List Op
  pub has : taken ≡ reported ++ withheld
  pub answers : AllByRecursion (PutsWhole before put.given) taken
  pub from : AllowedFrom ops taken
  pub now : after ≡ sheet_of (ops ++ taken)

-- From one worksheet to another by these acts, and from the image of the one to that of the other.
pub data Did (room : ℕ) : Image → Contents → List Act → Image → Contents → Type 0 where
  nothing_done : {i : Image} {s : Contents} → Did room i s [] i s
  by_hosts : {before mid after : Image} {s t u : Contents} {turns : List HostTurn} {acts : List Act} (first : List Op) → s ≡ sheet_of first
      → (l : LeftInTurn room first before mid turns) → t ≡ sheet_of l.kept → Did room mid t acts after u → Did room before s (hosted turns ∷ acts) after u
  by_filing : {before mid after : Image} {s t u : Contents} {put : PutIn} {reported : List Op} {acts : List Act} → (p : PutAfter s put reported t)
      → IsSheetImage t mid → Did room mid t acts after u → Did room before s (filed put reported ∷ acts) after u

-- Where an answer comes from.

-- after each of these ops, which are put after those, the worksheet has exactly this field
abbrev pub KeepFieldOn : List Op → List Op → Field → Type 0
KeepFieldOn ops [] f = Unit {0}
KeepFieldOn ops (o ∷ more) f = Has (sheet_of (ops ++ o ∷ [])) f × KeepFieldOn (ops ++ o ∷ []) more f

-- One of these ops, which were put after those of this worksheet, put the answer that the field shows, and after each later one the worksheet has the field so.
-- It is the output of a whole block, which answered the field's line on a copy, whose host was given these events.
pub record WasPut (sheet : Contents) (given : List Event) (ops taken : List Op) (f : Field) : Type 0 where
  pub earlier : List Op
  pub later : List Op
  pub prompt : List ℕ
  pub output : Tree
  pub split : taken ≡ earlier ++ op.Answer f.id prompt output ∷ later
  pub shows : f.answer ≡ Some (record { prompt = prompt; output = output })
  pub stays : KeepFieldOn (ops ++ (earlier ++ op.Answer f.id prompt output ∷ [])) later f
  pub whole : WholeOnCopy sheet given f

-- after each step of a host in these acts, and after each answer that was put in, the worksheet has exactly this field
abbrev pub StaysIn : {room : ℕ} {before after : Image} {s u : Contents} {acts : List Act} → Did room before s acts after u → Field → Type 0
StaysIn nothing_done f = Unit {0}
StaysIn (by_hosts first is l now more) f = KeepField f l.steps × StaysIn more f
StaysIn (by_filing p image more) f = KeepFieldOn p.ops p.taken f × StaysIn more f

-- The answer that the field shows came in one of these acts, and the field has stayed so since: a step of a host closed it, as the whole block
-- that answered the field's line, or an acceptance put it in, which had it so from a copy.
abbrev pub CameIn : {room : ℕ} {before after : Image} {s u : Contents} {acts : List Act} → Did room before s acts after u → Field → Type 0
CameIn nothing_done f = ⊥
CameIn (by_hosts first is l now more) f = (AnsweredIn l.steps f × StaysIn more f) ⊎ CameIn more f
CameIn (by_filing {s = s} {put = put} p image more) f = (WasPut s put.given p.ops p.taken f × StaysIn more f) ⊎ CameIn more f

-- What all of this left, and what is opened. An answer that a field shows was there at first and has stayed, or came in one of the acts.
pub record OpensSo {D : Type 0} (room : ℕ) (first : List Op) (before after : Image) (acts : List Act) (result : Result HostView (OpenFault D)) : Type 0 where
  pub sheet : Contents
  pub did : Did room before (sheet_of first) acts after sheet
  pub image : IsSheetImage sheet after
  pub shows : (f : Field) (answer : Answer) → Has sheet f → f.answer ≡ Some answer → (Has (sheet_of first) f × StaysIn did f) ⊎ CameIn did f
  pub opens : HostGivesSheet sheet result

-- The theorem of the programs, with acceptances among what they do.
abbrev pub OpensAfterActs : {D : Type 0} → DiskView → Result HostView (OpenFault D) → Type 0
OpensAfterActs disk result = InModel disk ((room : ℕ) (first : List Op) (before : Image) (acts : List Act)
    → Allowed first → IsSheetImage (sheet_of first) before → Uses room before acts (bytes_on disk)
    → OpensSo room first before (bytes_on disk) acts result)
