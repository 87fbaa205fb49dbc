-- The op of a line that is lost.
use Rattle.std.proofs.Common.{◌≡◌, ⊎_elim, ℕ, List, [], ◌∷◌, refl, ap, sym, ◌∙◌, subst, Bool, true, false, Option, Some, None}
use Rattle.std.specs.Prelude.{if◌then◌else◌}
use Rattle.std.specs.List.{AllByRecursion}
use Rattle.disk_model.specs.Disk.{Rises}
use Rattle.block_tree.specs.Tree.{Tree}
use Rattle.block_tree.specs.declared.reason.Reason.{Reason}
use Rattle.worksheet.specs.declared.op.Op.{Op}
use Rattle.worksheet.specs.declared.op.Op.TheVariants as op
use Rattle.worksheet.specs.declared.refusal.Refusal.{Refusal}
use Rattle.worksheet.specs.declared.refusal.Refusal.TheVariants as refusal
use Rattle.worksheet.specs.Contents.{Contents}
use Rattle.recovery.specs.Sheets.{StoreView}
use Rattle.host_events.specs.declared.outcome.HostFault.TheVariants as hosts
use Rattle.session_engine.specs.declared.commits.LoseFault.TheVariants as loses
use Rattle.worksheet.specs.Checks.{first_refusal, has_field}
use Rattle.plugin_core.specs.declared.item.Item.{Item}
use Rattle.plugin_core.specs.declared.item.Item.TheVariants as item
use Rattle.plugin_core.specs.declared.step.Answered.{Answered}
use Rattle.plugin_core.specs.declared.step.Answered.TheVariants as answered
use Rattle.plugin_core.specs.declared.step.Ended.{Ended}
use Rattle.plugin_core.specs.Items.{first_line_of}
use Rattle.session_engine.specs.World.{World, Going, fits_in, kept_at_end, waiting_in, with_op_if}
use Rattle.session_engine.specs.Does.{op_by}
use Rattle.session_engine.specs.inside.Commits.{AllowedIf, HasFieldIf, IsOfField, LosesField, NotCommitted, NotKept, NotLost, answer_op, kept_for, unkept_in_memory, unkept_on_disk, unlost_in_memory, unlost_on_disk}

-- what holds of no op, and of the loss of this line, holds of what is kept
pub if_lost : (P : Option Op → Type 0) (room end : ℕ) (why : Reason) (line : Option ℕ) → P None → ((id : ℕ) → line ≡ Some id → P (Some (op.Lost id why))) → P (kept_for room end why line)
if_lost P room end why None none some = none
if_lost P room end why (Some id) none some = go (fits_in room end (op.Lost id why))
  where
    go : (b : Bool) → P (if b then Some (op.Lost id why) else None)
    go true = some id refl
    go false = none

-- the same at the end of a life
pub if_ended : (P : Option Op → Type 0) (w : World) (why : Reason) (l : Going) → P None → ((id : ℕ) → first_line_of (waiting_in l) ≡ Some id → P (Some (op.Lost id why))) → P (kept_at_end w why (Some l))
if_ended P w why l none some = if_lost P w.room w.end why (first_line_of (waiting_in l)) none some

pub if_stopped : (P : Option Op → Type 0) (w : World) (why : Reason) (k : Option Going) → P None → ((l : Going) (id : ℕ) → k ≡ Some l → first_line_of (waiting_in l) ≡ Some id → P (Some (op.Lost id why))) → P (kept_at_end w why k)
if_stopped P w why None none some = none
if_stopped P w why (Some l) none some = if_ended P w why l none (λ id e. some l id refl e)

-- no item is answered
abbrev pub AnswersNone : Option Answered → Type 0
AnswersNone None = Unit {0}
AnswersNone (Some (answered.Banner b)) = Unit {0}
AnswersNone (Some (answered.Line id prompt output)) = ⊥
AnswersNone (Some (answered.Complete id result)) = ⊥

-- and of what a piece gives
pub if_pieced : (P : Option Op → Type 0) (room end : ℕ) (a : Option Answered) (e : Option Ended) → P None
    → ((id : ℕ) (prompt : List ℕ) (output : Tree) → a ≡ Some (answered.Line id prompt output) → P (Some (op.Answer id prompt output)))
    → ((x : Ended) (id : ℕ) → e ≡ Some x → first_line_of x.lost ≡ Some id → AnswersNone a → P (Some (op.Lost id x.reason))) → P (op_by room end a e)
if_pieced P room end None None none line lost = none
if_pieced P room end None (Some x) none line lost = if_lost P room end x.reason (first_line_of x.lost) none (λ id e. lost x id refl e tt)
if_pieced P room end (Some (answered.Banner b)) None none line lost = none
if_pieced P room end (Some (answered.Banner b)) (Some x) none line lost = if_lost P room end x.reason (first_line_of x.lost) none (λ id e. lost x id refl e tt)
if_pieced P room end (Some (answered.Line id prompt output)) e none line lost = line id prompt output refl
if_pieced P room end (Some (answered.Complete id result)) e none line lost = none

-- an op or none leaves the lives
pub op_if_lives : (p : Option Op) (u : World) → (with_op_if p u).lives ≡ u.lives
op_if_lives None u = refl
op_if_lives (Some o) u = refl

-- A line that is lost is that of a field that there is.

pub first_has : (sheet : Contents) (items : List Item) → AllByRecursion (IsOfField sheet) items → HasFieldIf sheet (first_line_of items)
first_has sheet [] all = tt
first_has sheet (item.Line id text ∷ items) all = all.0
first_has sheet (item.Complete id text cursor ∷ items) all = tt

pub lost_allowed : (sheet : Contents) (id : ℕ) (why : Reason) → has_field sheet id ≡ true → first_refusal sheet (op.Lost id why) ≡ None
lost_allowed sheet id why has = rw has refl

pub line_allowed : (sheet : Contents) (line : Option ℕ) (id : ℕ) (why : Reason) → HasFieldIf sheet line → line ≡ Some id → first_refusal sheet (op.Lost id why) ≡ None
line_allowed sheet None id why has e = cc
line_allowed sheet (Some other) id why has e = let same : other ≡ id = cc in lost_allowed sheet id why (subst (λ (n : ℕ). has_field sheet n ≡ true) same has)

pub kept_allowed : (sheet : Contents) (room end : ℕ) (why : Reason) (line : Option ℕ) → HasFieldIf sheet line → AllowedIf sheet (kept_for room end why line)
kept_allowed sheet room end why line has = if_lost (AllowedIf sheet) room end why line tt (λ id e. line_allowed sheet line id why has e)

-- what a piece gives is allowed, where its answer is, and where the line that its end loses is that of a field
pub pieced_allowed : (sheet : Contents) (room end : ℕ) (a : Option Answered) (e : Option Ended) → AllowedIf sheet (answer_op a) → LosesField sheet e → AllowedIf sheet (op_by room end a e)
pieced_allowed sheet room end None None one has = tt
pieced_allowed sheet room end None (Some x) one has = kept_allowed sheet room end x.reason (first_line_of x.lost) has
pieced_allowed sheet room end (Some (answered.Banner b)) None one has = tt
pieced_allowed sheet room end (Some (answered.Banner b)) (Some x) one has = kept_allowed sheet room end x.reason (first_line_of x.lost) has
pieced_allowed sheet room end (Some (answered.Line id prompt output)) e one has = one
pieced_allowed sheet room end (Some (answered.Complete id result)) e one has = tt

-- a line whose loss fits is kept
pub kept_fits : (room end : ℕ) (why : Reason) (line : Option ℕ) (id : ℕ) → line ≡ Some id → fits_in room end (op.Lost id why) ≡ true → kept_for room end why line ≡ Some (op.Lost id why)
kept_fits room end why line id e fits = ap (λ (x : Option ℕ). kept_for room end why x) e ∙ ap (λ (b : Bool). if b then Some (op.Lost id why) else None) fits

-- Why what is to be kept isn't.

-- where the store refuses for lack of memory the op fits
pub refused_memory : (old new : StoreView) (o : Op) (r : Refusal) → NotCommitted old o new r → (r ≡ refusal.JournalFull → ⊥) → fits_in old.disk.room old.end o ≡ true
refused_memory old new o r n other = ⊎_elim (λ full. absurd (other full.0)) (λ memory. memory.1) n.cause

-- where it refuses for lack of room it doesn't
pub refused_room : (old new : StoreView) (o : Op) → NotCommitted old o new refusal.JournalFull → fits_in old.disk.room old.end o ≡ false
refused_room old new o n = ⊎_elim (λ full. full.1) (λ memory. let no : refusal.JournalFull ≡ refusal.OutOfMemory = memory.0 in cc) n.cause

pub unlost_for_memory : (old new : StoreView) (why : Reason) (line : Option ℕ) (id : ℕ) (r : Refusal) → line ≡ Some id → NotCommitted old (op.Lost id why) new r → (r ≡ refusal.JournalFull → ⊥)
    → NotLost old new (kept_for old.disk.room old.end why line) loses.OutOfMemory
unlost_for_memory old new why line id r is n other =
    subst (λ (p : Option Op). NotLost old new p loses.OutOfMemory) (sym (kept_fits old.disk.room old.end why line id is (refused_memory old new (op.Lost id why) r n other))) (unlost_in_memory (op.Lost id why) n.same)

pub unlost_for_disk : (old new : StoreView) (why : Reason) (line : Option ℕ) (id : ℕ) → line ≡ Some id → fits_in old.disk.room old.end (op.Lost id why) ≡ true → new.sheet.contents ≡ old.sheet.contents → Rises old.disk.faults new.disk.faults
    → NotLost old new (kept_for old.disk.room old.end why line) loses.Disk
unlost_for_disk old new why line id is fits contents rises =
    subst (λ (p : Option Op). NotLost old new p loses.Disk) (sym (kept_fits old.disk.room old.end why line id is fits)) (unlost_on_disk (op.Lost id why) contents rises)

-- a fault of the end that a piece brings is one of the piece
pub unkept_for_memory : (old new : StoreView) (o : Option Op) → NotLost old new o loses.OutOfMemory → NotKept old new o hosts.OutOfMemory
unkept_for_memory old new o (unlost_in_memory p same) = unkept_in_memory p same

pub unkept_for_disk : (old new : StoreView) (o : Option Op) → NotLost old new o loses.Disk → NotKept old new o hosts.Disk
unkept_for_disk old new o (unlost_on_disk p contents rises) = unkept_on_disk p contents rises
