-- What the functions of a check that accepts answers promise each other. No public contract names this.
use Rattle.std.specs.Prelude.{◌≡◌, ℕ, List, [], ◌∷◌, ◌++◌, Option, Result, Ok, Err, IfOk, IfErr, Some}
use Rattle.std.specs.Io.KnownBytes.{Appends}
use Rattle.disk_model.specs.Disk.{DiskView}
use Rattle.block_tree.specs.declared.reason.Reason.{Reason}
use Rattle.worksheet.specs.declared.op.Op.{Op}
use Rattle.worksheet.specs.declared.field.Answer.{Answer}
use Rattle.worksheet.specs.declared.field.Field.{Field}
use Rattle.worksheet.specs.Contents.{Contents}
use Rattle.worksheet.specs.Ops.{sheet_of}
use Rattle.recovery.specs.Sheets.{StoreView}
use Rattle.sheet_check.specs.Kept.{HoldsBut, NoPlace, Stores}
use Rattle.sheet_check.specs.declared.accept.PutFault.{PutFault}
use Rattle.sheet_check.specs.declared.accept.PutFault.TheVariants as refused
use Rattle.host_events.specs.declared.outcome.HostFault.TheVariants as hosts
use Rattle.session_engine.specs.World.{World}
use Rattle.session_engine.specs.Host.{HostView, IsHost}
use Rattle.child_edge.specs.Faithful.{At, at}
use Rattle.offline_programs.specs.declared.fault.RunFault.{RunFault}
use Rattle.offline_programs.specs.declared.fault.RunFault.TheVariants as fault
use Rattle.check_report.specs.declared.chosen.Chosen.{Chosen}
use Rattle.check_report.specs.declared.verdict.VerdictCounts.{VerdictCounts}
use Rattle.check_report.specs.declared.verdict.Judgement.{Judgement}
use Rattle.check_report.specs.Chosen.{Judged}
use Rattle.check_report.specs.Reports.{Case, case, report_front}
use Rattle.check_report.specs.Errors.{brings_error}
use Rattle.check_report.specs.Words.{acceptance_text}
use Rattle.live.specs.Records.{Left}
use Rattle.sheet_check.specs.Evaluated.{OneByOne, reason_shown_in}
use Rattle.sheet_check.specs.Fields.{FieldChecked, FieldsChecked}
use Rattle.sheet_check.specs.Check.{IsCopy, Passage}
use Rattle.sheet_check.specs.Accept.{AcceptLeft, FiledAll, FiledBut, Filing, accepted, accepted_answer, accepted_of}
use Rattle.sheet_check.specs.declared.accept_shown.Finding.{Finding}
use Rattle.sheet_check.specs.inside.Checking.{FieldFailed, FieldsEnded, FieldsFailed, FieldsWrote, Question, ShownWrote}

-- what a field came to by the answer that it shows and the one that came, or the reason why none did
pub record Finds (chosen : Chosen) (field : Field) (came : Option Answer) (lost : Option Reason) (found : Finding) : Type 0 where
  pub judged : Judged chosen field came found.judgement.verdict
  pub error : found.judgement.error ≡ brings_error came
  pub taken : found.answer ≡ accepted_answer came found.judgement.verdict
  pub reported : found.text.items ≡ acceptance_text field came lost found.judgement.verdict

-- the fault of a check by why an answer wasn't accepted
abbrev pub fault_of_acceptance : PutFault → RunFault
fault_of_acceptance refused.Full = fault.Host hosts.JournalFull
fault_of_acceptance refused.OutOfMemory = fault.OutOfMemory
fault_of_acceptance refused.Disk = fault.Host hosts.Disk

-- A store in which answers are put: the ops of its worksheet, what was put after them so far, the disk before that, and the store now.
pub record Storing : Type 0 where
  pub ops : List Op
  pub more : List Op
  pub disk : DiskView
  pub store : StoreView

abbrev pub storing : List Op → List Op → DiskView → StoreView → Storing
storing ops more disk store = record { ops = ops; more = more; disk = disk; store = store }

-- nothing more was put
abbrev pub PutNone : Storing → Type 0
PutNone x = Stores x.ops x.more x.disk x.store

-- these were put after the others
abbrev pub PutAll : Storing → List Op → Type 0
PutAll x ones = Stores x.ops (x.more ++ ones) x.disk x.store

-- what a fault leaves where these are to be put after the others
abbrev pub NotPut : Storing → List Op → PutFault → Type 0
NotPut x ones refused.Full = (one : Op) × (ones ≡ one ∷ []) × PutNone x × NoPlace one x.store.disk
NotPut x ones refused.OutOfMemory = PutNone x
NotPut x ones refused.Disk = (one : Op) × (ones ≡ one ∷ []) × HoldsBut x.ops x.more one x.disk x.store.disk

-- a store before something was put in it, and after
pub record Putting : Type 0 where
  pub old : StoreView
  pub new : StoreView

abbrev pub putting : StoreView → StoreView → Putting
putting old new = record { old = old; new = new }

-- Whichever ops, puts and first disk describe the store before, this holds of it after.
abbrev pub Whatever : Putting → (Storing → Type 0) → Type 0
Whatever y P = (ops more : List Op) (disk : DiskView) → Stores ops more disk y.old → P (storing ops more disk y.new)

-- these were put
abbrev pub Puts : Putting → List Op → Type 0
Puts y ones = Whatever y (λ x. PutAll x ones)

-- nothing was
abbrev pub PutsNothing : Putting → Type 0
PutsNothing y = Whatever y PutNone

-- What a fault leaves where these are to be put, and a text is to be written: by which cause they weren't put, and nothing was written; or the writer failed.
pub data NotTaken (y : Putting) (ones : List Op) (a b : Option (List ℕ)) (why : RunFault) : Type 0 where
  not_put : (cause : PutFault) → why ≡ fault_of_acceptance cause → Whatever y (λ x. NotPut x ones cause) → b ≡ a → NotTaken y ones a b why
  unwritten : why ≡ fault.Output → Puts y ones → NotTaken y ones a b why

-- Where a text was tried, at Ok and where the output failed, the output held these bytes before, while the disk was in this state.
abbrev pub StampedSo : {T : Type 0} → (Option (List ℕ) → DiskView → Type 0) → Option (List ℕ) → DiskView → Result T RunFault → Type 0
StampedSo held text disk (Ok done) = held text disk
StampedSo held text disk (Err why) = why ≡ fault.Output → held text disk

-- A store goes on after the ops of this worksheet and what was accepted of some fields.
pub record GoesOn (sheet : Contents) (store : StoreView) : Type 0 where
  pub ops : List Op
  pub cases : List Case
  pub disk : DiskView
  pub is : sheet ≡ sheet_of ops
  pub stores : Stores ops (accepted cases) disk store

-- A field was checked, what is to be reported is written, and what is accepted of it was put.
abbrev pub ShownTook : {C : Type 0} → OneByOne C → Question → At C → Left C → Putting → Judgement → Type 0
ShownTook o one s l y j = (wrote : ShownWrote o one s l j) × Puts y (accepted_of (case one.field wrote.0 (reason_shown_in wrote.1 one.field.id) j.verdict (Some wrote.2)))

-- the same of fields, from a disk to another
abbrev pub FieldsTook : {C : Type 0} → OneByOne C → List Field → At C → Left C → Filing → VerdictCounts → Type 0
FieldsTook o fields s l x counts = (wrote : FieldsWrote o fields s l counts) × FiledAll x l.out wrote.0

-- a field was checked, and this is its case
abbrev pub FieldLast : {C : Type 0} → OneByOne C → Field → At C → HostView → C → Case → Type 0
FieldLast o field s h c last = (t : World) × FieldChecked o.way o.chosen field s (last ∷ []) (at t c h.store.disk) × IsHost h t

-- Where the check of a field ended early: it was evaluated in part, or in whole and its answer couldn't be accepted or reported.
pub data FieldBroke {C : Type 0} (o : OneByOne C) (field : Field) (s : At C) (l : Left C) (y : Putting) (why : RunFault) : Type 0 where
  early : FieldFailed o field s l why → (why ≡ fault.Output → ⊥) → PutsNothing y → FieldBroke o field s l y why
  full : (last : Case) → why ≡ fault.Host hosts.JournalFull → FieldLast o field s l.host l.sources last → l.now ≡ l.out
      → Whatever y (λ x. NotPut x (accepted_of last) refused.Full) → FieldBroke o field s l y why
  broken : (last : Case) → why ≡ fault.Host hosts.Disk → FieldLast o field s l.host l.sources last → l.now ≡ l.out
      → Whatever y (λ x. NotPut x (accepted_of last) refused.Disk) → FieldBroke o field s l y why
  unwritten : (last : Case) → why ≡ fault.Output → FieldLast o field s l.host l.sources last → Puts y (accepted_of last) → FieldBroke o field s l y why

-- some of the first of these fields were checked, and these are their cases
pub record FieldsUpTo {C : Type 0} (o : OneByOne C) (fields : List Field) (s : At C) (h : HostView) (c : C) (cases : List Case) : Type 0 where
  pub gone : List Field
  pub left : List Field
  pub split : fields ≡ gone ++ left
  pub leads : World
  pub checked : FieldsChecked o.way o.chosen gone s cases (at leads c h.store.disk)
  pub stands : IsHost h leads

-- Where the check of fields ended early.
pub data FieldsBroke {C : Type 0} (o : OneByOne C) (fields : List Field) (s : At C) (l : Left C) (x : Filing) (why : RunFault) : Type 0 where
  early : (failed : FieldsFailed o fields s l why) → (why ≡ fault.Output → ⊥) → FiledAll x l.out failed.cases → FieldsBroke o fields s l x why
  full : (cases : List Case) (last : Case) (one : Op) → why ≡ fault.Host hosts.JournalFull → FieldsUpTo o fields s l.host l.sources (cases ++ last ∷ []) → accepted_of last ≡ one ∷ []
      → Appends l.out l.now (report_front o.format cases) → FiledAll x l.out cases → NoPlace one x.after → FieldsBroke o fields s l x why
  broken : (cases : List Case) (last : Case) (one : Op) → why ≡ fault.Host hosts.Disk → FieldsUpTo o fields s l.host l.sources (cases ++ last ∷ []) → accepted_of last ≡ one ∷ []
      → Appends l.out l.now (report_front o.format cases) → FiledBut x l.out cases one → FieldsBroke o fields s l x why
  unwritten : (cases : List Case) (last : Case) → why ≡ fault.Output → FieldsUpTo o fields s l.host l.sources (cases ++ last ∷ []) → FiledAll x l.out (cases ++ last ∷ [])
      → FieldsBroke o fields s l x why

-- The fields of a worksheet were checked on a copy of it, each life that goes on was stopped, and what is accepted is put on a disk on which nothing was put
-- before; or that ended early.
abbrev pub OnCopy : {C : Type 0} → OneByOne C → Contents → Passage C → Filing → Result VerdictCounts RunFault → Type 0
OnCopy o sheet q x counted = (w : World) × (copy : DiskView) × IsCopy sheet w copy
    × IfOk counted (λ counts. (ended : FieldsEnded o sheet.fields w copy q counts) × FiledAll x q.text ended.0)
    × IfErr counted (AcceptLeft o sheet q x)
