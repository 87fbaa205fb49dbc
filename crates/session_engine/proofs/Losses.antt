-- What becomes of a host at the end of a life.
use Rattle.std.proofs.Common.{◌≡◌, ℕ, List, refl, ap, sym, ◌∙◌, subst, Bool, true, false, Option, Some, None, Result, Ok, Err}
use Rattle.std.specs.Prelude.{OnOk, IfErr, is_some, ◌||◌}
use Rattle.std.specs.List.{AllByRecursion}
use Rattle.block_tree.specs.declared.reason.Reason.{Reason}
use Rattle.disk_model.specs.Disk.{DiskView, InModel, LeavesOnly, SameDisk}
use Rattle.worksheet.specs.declared.op.Op.{Op}
use Rattle.worksheet.specs.declared.op.Op.TheVariants as op
use Rattle.worksheet.specs.Contents.{Contents}
use Rattle.recovery.specs.Sheets.{StoreView}
use Rattle.session_engine.specs.declared.commits.LoseFault.{LoseFault}
use Rattle.session_engine.specs.declared.commits.LoseFault.TheVariants as loses
use Rattle.host_events.specs.declared.reply.Reply.{Reply}
use Rattle.session_engine.specs.declared.table.Running.{Running}
use Rattle.session_engine.specs.Named.{without_named}
use Rattle.session_engine.specs.World.{World, Going, kept_at_end, life_of, sheet_in, waiting_in, with_number, with_op_if}
use Rattle.session_engine.specs.inside.Words.{with_op}
use Rattle.session_engine.specs.Does.{ends_life}
use Rattle.session_engine.specs.Host.{EngineStandsFor, HaveFields, Lives, OnDisk, life_in, name_of}
use Rattle.session_engine.specs.inside.Commits.{CauseOfLoss, CommittedIf, HasFieldIf, IsEitherIf, NotLost, kept_for, unlost_in_memory, unlost_on_disk}
use Rattle.session_engine.specs.inside.Parts.{without_life}
use Rattle.session_engine.specs.inside.Tables.{has_number, line_in}
use Rattle.session_engine.proofs.Fields.{of_fields, spared_lost}
use Rattle.session_engine.proofs.Losing.{first_has, if_lost, line_allowed}
use Rattle.session_engine.proofs.Standing.{all_at, committed, gone, the_life, unchanged}
use Rattle.session_engine.proofs.Tables.{Found, found}

pub on_ok : {T E : Type 0} (r : Result T E) (P Q : Type 0) → (P → Q) → OnOk r P → OnOk r Q
on_ok (Ok x) P Q f h = f h
on_ok (Err e) P Q f h = tt

pub if_err : {T E : Type 0} (r : Result T E) (P Q : E → Type 0) → ((e : E) → P e → Q e) → IfErr r P → IfErr r Q
if_err (Ok x) P Q f h = tt
if_err (Err e) P Q f h = f e h

-- the first line that waits in the life of a session is that of a field
pub line_has : (sheet : Contents) (w : World) (name : List ℕ) → AllByRecursion (HaveFields sheet) w.lives → HasFieldIf sheet (line_in (life_of w name))
line_has sheet w name fields = go (life_of w name) refl
  where
    go : (k : Option Going) → life_of w name ≡ k → HasFieldIf sheet (line_in k)
    go None e = tt
    go (Some l) e = first_has sheet (waiting_in l) (of_fields sheet l.name (waiting_in l) (all_at (HaveFields sheet) (λ (g : Going). g.name) name l w.lives fields e))

-- what is kept, by what the store says and by what the world says
pub kept_is : (store : StoreView) (rs : List Running) (begun : ℕ) (w : World) (name : List ℕ) (why : Reason) (line : Option ℕ) → EngineStandsFor store rs begun w → line ≡ line_in (life_of w name)
    → kept_for store.disk.room store.end why line ≡ kept_at_end w why (life_of w name)
kept_is store rs begun w name why line h e =
    ap (λ (k : ℕ). kept_for k store.end why line) h.room ∙ ap (λ (k : ℕ). kept_for w.room k why line) h.end ∙ ap (λ (x : Option ℕ). kept_for w.room w.end why x) e ∙ go (life_of w name)
  where
    go : (k : Option Going) → kept_for w.room w.end why (line_in k) ≡ kept_at_end w why k
    go None = refl
    go (Some l) = refl

module _ (store new : StoreView) (rs : List Running) (begun : ℕ) (w : World) (name : List ℕ) (why : Reason) (line : Option ℕ) (h : EngineStandsFor store rs begun w) (e : line ≡ line_in (life_of w name)) where
  abbrev kept : Option Op
  kept = kept_for store.disk.room store.end why line

  -- the line is lost
  pub lost_stands : CommittedIf store w.ops kept new → SameDisk store.disk new.disk → EngineStandsFor new rs begun (with_op_if (kept_at_end w why (life_of w name)) w)
  lost_stands done disk = subst (λ (p : Option Op). EngineStandsFor new rs begun (with_op_if p w)) (kept_is store rs begun w name why line h e) (go done)
    where
      has : HasFieldIf (sheet_in w) line
      has = subst (λ (x : Option ℕ). HasFieldIf (sheet_in w) x) (sym e) (line_has (sheet_in w) w name h.fields)

      go : CommittedIf store w.ops kept new → EngineStandsFor new rs begun (with_op_if kept w)
      go = if_lost (λ p. CommittedIf store w.ops p new → EngineStandsFor new rs begun (with_op_if p w)) store.disk.room store.end why line
          (λ done. unchanged store new rs begun w h done)
          (λ id is done. committed store new rs begun w (op.Lost id why) h done disk (line_allowed (sheet_in w) line id why has is) (spared_lost id why w.lives))

  pub lost_disk : CommittedIf store w.ops kept new → InModel store.disk (LeavesOnly (IsEitherIf w.ops kept) store.disk.history new.disk.history) → OnDisk w.ops false (kept_at_end w why (life_of w name)) store.disk new.disk
  lost_disk done moments = subst (λ (p : Option Op). OnDisk w.ops false p store.disk new.disk) (kept_is store rs begun w name why line h e) (go kept done moments)
    where
      go : (p : Option Op) → CommittedIf store w.ops p new → InModel store.disk (LeavesOnly (IsEitherIf w.ops p) store.disk.history new.disk.history) → OnDisk w.ops false p store.disk new.disk
      go None done moments = done.disk
      go (Some o) done moments = moments

  -- or it can't be
  pub record Unlost (fault : LoseFault) : Type 0 where
    pub lost : Op
    pub is : kept_at_end w why (life_of w name) ≡ Some lost
    pub contents : new.sheet.contents ≡ sheet_in w
    pub cause : CauseOfLoss w.ops lost store.disk new.disk fault
    pub still : fault ≡ loses.OutOfMemory → EngineStandsFor new rs begun w

  pub unlost : (fault : LoseFault) → NotLost store new kept fault → InModel store.disk (LeavesOnly (IsEitherIf w.ops kept) store.disk.history new.disk.history) → Unlost fault
  unlost fault n moments = go kept (kept_is store rs begun w name why line h e) fault n moments
    where
      go : (p : Option Op) → p ≡ kept_at_end w why (life_of w name) → (fault : LoseFault) → NotLost store new p fault → InModel store.disk (LeavesOnly (IsEitherIf w.ops p) store.disk.history new.disk.history) → Unlost fault
      go p is fault (unlost_in_memory o same) moments = record { lost = o; is = sym is; contents = same.contents ∙ h.contents; cause = same.disk; still = λ t. unchanged store new rs begun w h same }
      go p is fault (unlost_on_disk o contents rises) moments = record { lost = o; is = sym is; contents = contents ∙ h.contents; cause = (rises, moments); still = λ t. cc }

-- a life that has lost its line is gone
pub end_stands : (new : StoreView) (rs out : List Running) (begun : ℕ) (w : World) (name : List ℕ) (r : Running) (why : Reason) (f : Found rs w.lives name r)
    → EngineStandsFor new rs begun (with_op_if (kept_at_end w why (life_of w name)) w) → out ≡ without_named name_of name rs
    → EngineStandsFor new out begun (with_op_if (kept_at_end w why (Some f.life)) (without_life f.life.name w))
end_stands new rs out begun w name r why f h is =
    subst (λ (n : List ℕ). EngineStandsFor new out begun (with_op_if (kept_at_end w why (Some f.life)) (without_life n w))) (sym f.named)
    (subst (λ (p : Option Op). EngineStandsFor new out begun (with_op_if p (without_life name w))) (ap (λ (k : Option Going). kept_at_end w why k) f.is)
    (subst (λ (l : List Running). EngineStandsFor new l begun (with_op_if (kept_at_end w why (life_of w name)) (without_life name w))) (sym is) (go (kept_at_end w why (life_of w name)) h)))
  where
    go : (p : Option Op) → EngineStandsFor new rs begun (with_op_if p w) → EngineStandsFor new (without_named name_of name rs) begun (with_op_if p (without_life name w))
    go None h = gone new rs begun w name r h f
    go (Some o) h = gone new rs begun (with_op o w) name r h f

-- where the life of a session has this number, that is the one that goes on
pub its_life : (number : ℕ) (name : List ℕ) (rs : List Running) (w : World) → Lives rs w.lives → has_number number (life_in rs name) ≡ true → with_number number (life_of w name) ≡ life_of w name
its_life number name rs w s h = go (life_in rs name) refl
  where
    go : (k : Option Running) → life_in rs name ≡ k → with_number number (life_of w name) ≡ life_of w name
    go None e = absurd (let no : false ≡ true = sym (ap (λ (k : Option Running). has_number number k) e) ∙ h in cc)
    go (Some r) e = let f = found name rs w.lives r s e in the_life number name rs w r f e h ∙ sym f.is

op_at_end : (w : World) (why : Reason) (killed : Bool) (l : Option Going) (r : Reply) → (ends_life w why killed l r).op ≡ kept_at_end w why l
op_at_end w why killed None r = refl
op_at_end w why killed (Some l) r = refl

again_at_end : (w : World) (why : Reason) (killed : Bool) (l : Option Going) (r : Reply) → (ends_life w why killed l r).again ≡ false
again_at_end w why killed None r = refl
again_at_end w why killed (Some l) r = refl

-- an end that keeps a reason writes
pub end_writes : (w : World) (why : Reason) (killed : Bool) (l : Option Going) (r : Reply) (o : Op) → kept_at_end w why l ≡ Some o
    → ((ends_life w why killed l r).again || is_some (ends_life w why killed l r).op) ≡ true
end_writes w why killed l r o is = rw (again_at_end w why killed l r, op_at_end w why killed l r ∙ is) refl

pub end_on_disk : (w : World) (why : Reason) (killed : Bool) (l : Option Going) (r : Reply) (o : Op) → kept_at_end w why l ≡ Some o → (old new : DiskView) → OnDisk w.ops false (Some o) old new
    → OnDisk w.ops (ends_life w why killed l r).again (ends_life w why killed l r).op old new
end_on_disk w why killed l r o is old new disk =
    subst (λ (b : Bool). OnDisk w.ops b (ends_life w why killed l r).op old new) (sym (again_at_end w why killed l r))
    (subst (λ (p : Option Op). OnDisk w.ops false p old new) (sym (op_at_end w why killed l r ∙ is)) disk)
