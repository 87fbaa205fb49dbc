-- What a piece gives, against the definitions.
use Rattle.std.proofs.Common.{◌≡◌, ℕ, List, [], ◌∷◌, ◌++◌, refl, ap, sym, ◌∙◌, subst, arith, true, false, Option, Some, None}
use Rattle.std.specs.Prelude.{if◌then◌else◌, ◌==◌, is_some, option_map}
use Rattle.std.specs.List.{AllByRecursion}
use Rattle.std.specs.Str.{bytes_eq}
use Rattle.std.proofs.lemmas.Slice.Eq.{bytes_eq-Decides}
use Rattle.std.proofs.lemmas.Bool.Decides.{nat_tests}
use Rattle.disk_model.specs.Disk.{SameDisk, LeavesOnly, InModel}
use Rattle.worksheet.specs.declared.op.Op.{Op}
use Rattle.worksheet.specs.declared.op.Op.TheVariants as op
use Rattle.worksheet.specs.Checks.{first_refusal}
use Rattle.worksheet.specs.Ops.{sheet_of}
use Rattle.meta_format.specs.Faults.{Kind}
use Rattle.recovery.specs.Sheets.{StoreView}
use Rattle.plugin_core.specs.declared.step.Step.{Step}
use Rattle.plugin_core.specs.declared.step.Ended.{Ended}
use Rattle.plugin_core.specs.Past.{received}
use Rattle.plugin_core.specs.Items.{waiting_of}
use Rattle.plugin_core.specs.inside.Words.{ended_by}
use Rattle.plugin_core.specs.Steps.{closed_by as closed_in}
use Rattle.plugin_core.specs.Kept.{InterpreterView, Takes, GoesOn}
use Rattle.plugin_core.specs.Laws.{ShortPrompts}
use Rattle.session_engine.specs.declared.table.Running.{Running}
use Rattle.host_events.specs.declared.outcome.Outcome.{Outcome}
use Rattle.host_events.specs.declared.outcome.HostFault.{HostFault}
use Rattle.host_events.specs.declared.event.Event.TheVariants as event
use Rattle.session_engine.specs.Does.{Does, MayDo, ChildDoes, following, lives_after, steps}
use Rattle.session_engine.specs.Host.{OnDisk}
use Rattle.session_engine.specs.Faults.{CauseOf, is_piece}
use Rattle.host_events.specs.declared.event.ChildEvent.TheVariants as child
use Rattle.session_engine.specs.Named.{without_named, replace_named}
use Rattle.session_engine.specs.Host.{name_of}
use Rattle.session_engine.specs.inside.Tables.{with_life as running_with}
use Rattle.session_engine.specs.World.{World, Going, life_of, with_number, with_op_if, sheet_in}
use Rattle.session_engine.specs.inside.Words.{with_op, fits, with_piece}
use Rattle.session_engine.specs.Does.{op_by, closed_reported, reported_with}
use Rattle.session_engine.specs.inside.Parts.{goes_on}
use Rattle.session_engine.specs.Host.{HasField, HaveFields, EngineStandsFor}
use Rattle.session_engine.specs.inside.Commits.{AllowedIf, Committed, CommittedIf, IsEitherIf, LosesField, NotKept, SparesLife, unkept_in_memory, unkept_in_room, unkept_on_disk}
use Rattle.session_engine.proofs.Tables.{Found, without_replaced}
use Rattle.session_engine.proofs.Fields.{waiting_still, of_fields, allowed_step, spared, spared_lost}
use Rattle.session_engine.proofs.Losing.{first_has, if_pieced, pieced_allowed}
use Rattle.session_engine.proofs.Standing.{all_at, put, gone, committed, fit_in, unchanged}

-- the op of an answer follows the ops, whatever becomes of the life
ops_of : (l : Going) (e : Option Ended) (w : World) → (goes_on l e w).ops ≡ w.ops
ops_of l None w = refl
ops_of l (Some e) w = refl

module _ (store : StoreView) (rs : List Running) (begun : ℕ) (w : World) (name : List ℕ) (number : ℕ) (piece : List ℕ) (r : Running) (life : InterpreterView) (step : Step)
    (h : EngineStandsFor store rs begun w) (f : Found rs w.lives name r) (numbered : r.life.number ≡ number) (same : life.number ≡ r.life.number)
    (takes : Takes f.life.past f.life.blocks piece step life) where
  -- the op that the piece gives
  abbrev pub given : Option Op
  given = op_by w.room w.end step.answered step.ended

  -- the same by what the store says
  pub given_is : op_by store.disk.room store.end step.answered step.ended ≡ given
  given_is = ap (λ (k : ℕ). op_by k store.end step.answered step.ended) h.room ∙ ap (λ (k : ℕ). op_by w.room k step.answered step.ended) h.end

  abbrev pub lead : World
  lead = with_op_if given (goes_on (with_piece f.life piece takes.after) step.ended w)

  abbrev pub outcome : Outcome
  outcome = reported_with name number (closed_reported step.answered) step.default_input step.send step.ended

  there : with_number number (life_of w name) ≡ Some f.life
  there =
      let k : f.life.number ≡ number = sym f.runs.number ∙ numbered in
      let n : (f.life.number == number) ≡ true = grind (arith, nat_tests, k) in
      rw (f.is, n) refl

  abbrev pub did : Does
  did = steps w f.life piece takes.after step

  pub may : MayDo w (event.Child name number (child.Piece piece)) did
  may = subst (λ (x : Option Going). ChildDoes w x (child.Piece piece) did) (sym there) (takes.after, takes.fault, takes.reads, ap (λ (s : Step). steps w f.life piece takes.after s) takes.gives)

  pub reported : outcome ≡ did.reported
  reported =
      let k : f.life.number ≡ number = sym f.runs.number ∙ numbered in
      ap (λ (m : List ℕ). reported_with m number (closed_reported step.answered) step.default_input step.send step.ended) (sym f.named)
      ∙ ap (λ (m : ℕ). reported_with f.life.name m (closed_reported step.answered) step.default_input step.send step.ended) (sym k)

  pub leads : lead ≡ following w did
  leads = go step.ended
    where
      go : (e : Option Ended) → with_op_if given (goes_on (with_piece f.life piece takes.after) e w) ≡ with_op_if given (record w { begun = w.begun; lives = lives_after (with_piece f.life piece takes.after) e w.lives })
      go None = refl
      go (Some e) = refl

  pub fed : is_piece w (event.Child name number (child.Piece piece)) ≡ true
  fed = ap (λ (x : Option Going). is_some x) there

  pub fields : HaveFields (sheet_in w) f.life
  fields = all_at (HaveFields (sheet_in w)) (λ (l : Going). l.name) name f.life w.lives h.fields f.is

  abbrev pub settled : Option Ended → List Running
  settled e = if is_some e then without_named name_of name (replace_named name_of name (running_with r life) rs) else replace_named name_of name (running_with r life) rs

  lives_stand : EngineStandsFor store (settled step.ended) begun (goes_on (with_piece f.life piece takes.after) step.ended w)
  lives_stand = subst (λ (e : Option Ended). EngineStandsFor store (settled e) begun (goes_on (with_piece f.life piece takes.after) e w)) (sym (ap (λ (s : Step). s.ended) takes.gives)) (go takes.fault takes.then)
    where
      go : (fault : Option Kind) → GoesOn life (f.life.past ++ received piece ∷ []) takes.after fault
          → EngineStandsFor store (settled (option_map (ended_by (f.life.past ++ received piece ∷ []) takes.after) fault)) begun (goes_on (with_piece f.life piece takes.after) (option_map (ended_by (f.life.past ++ received piece ∷ []) takes.after) fault) w)
      go None stands = put store rs begun w name r (running_with r life) (with_piece f.life piece takes.after) h f (record { name = f.runs.name; number = same ∙ f.runs.number; stands = stands })
          (waiting_still (HasField (sheet_in w) f.life.name) f.life.past f.life.blocks takes.after piece (closed_in f.life.past f.life.blocks (received piece) takes.after) takes.answers fields) f.named
      go (Some kind) over =
          let e : bytes_eq r.name name ≡ true = (bytes_eq-Decides r.name name).1 (f.runs.name ∙ f.named) in
          subst (λ (l : List Running). EngineStandsFor store l begun (goes_on (with_piece f.life piece takes.after) (Some (ended_by (f.life.past ++ received piece ∷ []) takes.after kind)) w)) (sym (without_replaced name_of name (running_with r life) rs e))
          (subst (λ (n : List ℕ). EngineStandsFor store (without_named name_of name rs) begun (Rattle.session_engine.specs.inside.Parts.without_life n w)) (sym f.named) (gone store rs begun w name r h f))

  -- the line that is lost is that of a field
  pub loses : LosesField (sheet_in w) step.ended
  loses = subst (λ (x : Step). LosesField (sheet_in w) x.ended) (sym takes.gives) (go takes.fault)
    where
      go : (fault : Option Kind) → LosesField (sheet_in w) (option_map (ended_by (f.life.past ++ received piece ∷ []) takes.after) fault)
      go None = tt
      go (Some kind) = first_has (sheet_in w) (waiting_of (f.life.past ++ received piece ∷ []) takes.after) (of_fields (sheet_in w) f.life.name (waiting_of (f.life.past ++ received piece ∷ []) takes.after)
          (waiting_still (HasField (sheet_in w) f.life.name) f.life.past f.life.blocks takes.after piece (closed_in f.life.past f.life.blocks (received piece) takes.after) takes.answers fields))

  pub stands : ShortPrompts → (new : StoreView) → CommittedIf store w.ops given new → SameDisk store.disk new.disk → EngineStandsFor new (settled step.ended) begun lead
  stands short new done disk = go done (pieced_allowed (sheet_in w) w.room w.end step.answered step.ended (allowed_step short (sheet_in w) f.life piece step life fields takes) loses)
    where
      v : World
      v = goes_on (with_piece f.life piece takes.after) step.ended w

      os : v.ops ≡ w.ops
      os = ops_of (with_piece f.life piece takes.after) step.ended w

      one : (o : Op) → AllByRecursion (SparesLife o) v.lives → CommittedIf store w.ops (Some o) new → AllowedIf (sheet_in w) (Some o) → EngineStandsFor new (settled step.ended) begun (with_op o v)
      one o spares done allowed = committed store new (settled step.ended) begun v o lives_stand (subst (λ (l : List Op). Committed store l o new) (sym os) done) disk
          (subst (λ (l : List Op). first_refusal (sheet_of l) o ≡ None) (sym os) allowed) spares

      go : CommittedIf store w.ops given new → AllowedIf (sheet_in w) given → EngineStandsFor new (settled step.ended) begun (with_op_if given v)
      go = if_pieced (λ p. CommittedIf store w.ops p new → AllowedIf (sheet_in w) p → EngineStandsFor new (settled step.ended) begun (with_op_if p v)) w.room w.end step.answered step.ended
          (λ done allowed. unchanged store new (settled step.ended) begun v lives_stand done)
          (λ id prompt out e. one (op.Answer id prompt out) (spared id prompt out v.lives))
          (λ x id e first none. one (op.Lost id x.reason) (spared_lost id x.reason v.lives))

  -- the images of the disk while what the piece gives is kept
  pub on_disk : (new : StoreView) → CommittedIf store w.ops given new → InModel store.disk (LeavesOnly (IsEitherIf w.ops given) store.disk.history new.disk.history) → OnDisk w.ops false given store.disk new.disk
  on_disk new done moments = go given done moments
    where
      go : (a : Option Op) → CommittedIf store w.ops a new → InModel store.disk (LeavesOnly (IsEitherIf w.ops a) store.disk.history new.disk.history) → OnDisk w.ops false a store.disk new.disk
      go None done moments = done.disk
      go (Some o) done moments = moments

  pub contents : (new : StoreView) (fault : HostFault) → NotKept store new given fault → new.sheet.contents ≡ sheet_in w
  contents new fault n = go given fault n ∙ h.contents
    where
      go : (a : Option Op) (fault : HostFault) → NotKept store new a fault → new.sheet.contents ≡ store.sheet.contents
      go a fault (unkept_on_disk o contents rises) = contents
      go a fault (unkept_in_memory o same) = same.contents
      go a fault (unkept_in_room o same full) = same.contents

  pub cause : (new : StoreView) (fault : HostFault) → NotKept store new given fault → InModel store.disk (LeavesOnly (IsEitherIf w.ops given) store.disk.history new.disk.history)
      → CauseOf w (event.Child name number (child.Piece piece)) store.disk new.disk fault
  cause new fault n moments = go given refl fault n moments
    where
      go : (a : Option Op) → given ≡ a → (fault : HostFault) → NotKept store new a fault → InModel store.disk (LeavesOnly (IsEitherIf w.ops a) store.disk.history new.disk.history)
          → CauseOf w (event.Child name number (child.Piece piece)) store.disk new.disk fault
      go a e fault (unkept_on_disk o contents rises) moments = (rises, (record { does = did; may = may; writes = ap (λ (p : Option Op). is_some p) e }, subst (λ (p : Option Op). OnDisk w.ops false p store.disk new.disk) (sym e) moments))
      go a e fault (unkept_in_memory o same) moments = (same.disk, fed)
      go a e fault (unkept_in_room o same full) moments =
          let no : fits w o ≡ false = fit_in store rs begun w o h ∙ full in
          (same.disk, fed, (o, record { does = did; may = may; gives = e }, no))
