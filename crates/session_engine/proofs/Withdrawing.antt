-- Commands that only change the worksheet, taken as a whole or not at all.
use Rattle.std.specs.Prelude.{◌≤◌, ◌+◌, if◌then◌else◌, is_some, length}
use Rattle.std.proofs.Common.{arith, length-append, ◌≡◌, inl, inr, Bool, true, false, ◌||◌, List, [], ◌∷◌, ◌++◌, ℕ, Option, Some, None, refl, sym, ap, ◌∙◌, subst}
use Rattle.std.proofs.lemmas.Bool.{false≢true}
use Rattle.std.specs.List.{list_any}
use Rattle.disk_model.specs.Disk.{DiskView, InModel, Leaves}
use Rattle.worksheet.specs.declared.op.Op.{Op}
use Rattle.worksheet.specs.declared.refusal.Refusal.{Refusal}
use Rattle.worksheet.specs.Contents.{Contents}
use Rattle.worksheet.specs.Checks.{first_of}
use Rattle.recovery.specs.Sheets.{IsSheetImage, StoreView}
use Rattle.host_events.specs.Commands.{op_of}
use Rattle.host_events.specs.declared.command.Command.{Command}
use Rattle.host_events.specs.declared.command.Command.TheVariants as command
use Rattle.host_events.specs.declared.event.Event.{Event}
use Rattle.host_events.specs.declared.event.Event.TheVariants as event
use Rattle.host_events.specs.declared.outcome.Outcome.{Outcome}
use Rattle.host_events.specs.declared.outcome.HostFault.{HostFault}
use Rattle.host_events.specs.declared.outcome.HostFault.TheVariants as hosts
use Rattle.session_engine.specs.World.{Going, World, renewed_if, sheet_in, with_op_if}
use Rattle.session_engine.specs.Refused.{command_refusals}
use Rattle.session_engine.specs.Does.{CommandDoes, Does, Runs, following}
use Rattle.session_engine.specs.Host.{EngineStandsFor, HostView, IsHost, Lives}
use Rattle.session_engine.specs.Crash.{HasPlayed, StoppedAt}
use Rattle.session_engine.specs.Faults.{CauseOf, event_takes_memory, is_piece}
use Rattle.session_engine.specs.Gathers.{NoCheckpoints, is_checkpoint}
use Rattle.session_engine.specs.Groups.{StopsAtRefusal, after_one, is_refusal, nowhere}
use Rattle.session_engine.specs.Whole.{HasAtMost, MadeWhole, OnlyEdits, RefusedAt, is_edit}
use Rattle.session_engine.specs.declared.whole.Whole.{Whole}
use Rattle.session_engine.specs.declared.whole.Whole.TheVariants as whole
use Rattle.session_engine.specs.inside.Until.{PlayedBy}
use Rattle.session_engine.specs.inside.Wholes.{EndsIn, MayWithdraw, WithdrawsTo}

-- Such commands.

edits_more : (es : List Event) (c : Command) → OnlyEdits es → is_some (op_of c) ≡ true → OnlyEdits (es ++ event.Command c ∷ [])
edits_more [] c all is = (is, tt)
edits_more (e ∷ es) c all is = (all.0, edits_more es c all.1 is)

pub edits_pushed : (put : Bool) (old new : List Event) (c : Command) → new ≡ (if put then old ++ event.Command c ∷ [] else old) → OnlyEdits old → is_some (op_of c) ≡ true → OnlyEdits new
edits_pushed true old new c is all edit = subst OnlyEdits (sym is) (edits_more old c all edit)
edits_pushed false old new c is all edit = subst OnlyEdits (sym is) all

edits_front : (a b : List Event) → OnlyEdits (a ++ b) → OnlyEdits a
edits_front [] b all = tt
edits_front (e ∷ a) b all = (all.0, edits_front a b all.1)

edit_at : (a b : List Event) (e : Event) → OnlyEdits (a ++ e ∷ b) → is_edit e ≡ true
edit_at [] b e all = all.0
edit_at (x ∷ a) b e all = edit_at a b e all.1

no_checkpoint : (c : Command) → is_some (op_of c) ≡ true → is_checkpoint (event.Command c) ≡ false
no_checkpoint (command.Session name tab words) edit = refl
no_checkpoint (command.New after session input) edit = refl
no_checkpoint (command.Set id input) edit = refl
no_checkpoint (command.Remove id) edit = refl
no_checkpoint (command.Move id after) edit = refl
no_checkpoint (command.Clear id) edit = refl
no_checkpoint (command.Eval id) edit = refl
no_checkpoint (command.Complete id cursor) edit = refl
no_checkpoint (command.CompleteText id cursor text) edit = refl
no_checkpoint (command.Stop name) edit = refl
no_checkpoint command.Checkpoint edit = absurd (false≢true edit)

pub no_checkpoints : (es : List Event) → OnlyEdits es → NoCheckpoints es
no_checkpoints [] all = tt
no_checkpoints (event.Command c ∷ es) all = (no_checkpoint c all.0, no_checkpoints es all.1)
no_checkpoints (event.Child name number e ∷ es) all = absurd (false≢true all.0)

-- They change no life.

abbrev SameLives : World → List Going → ℕ → Type 0
SameLives w lives begun = (lives ≡ w.lives) × (begun ≡ w.begun)

does_keep : (w : World) (c : Command) (r : Option Refusal) (d : Does) → is_some (op_of c) ≡ true → CommandDoes w c r d → SameLives w d.lives d.begun
does_keep w c (Some r) d edit is = (ap (λ (x : Does). x.lives) is, ap (λ (x : Does). x.begun) is)
does_keep w c None d edit (inr refused) = (ap (λ (x : Does). x.lives) refused.1, ap (λ (x : Does). x.begun) refused.1)
does_keep w (command.Session name tab words) None d edit (inl is) = (ap (λ (x : Does). x.lives) is, ap (λ (x : Does). x.begun) is)
does_keep w (command.New after session input) None d edit (inl is) = (ap (λ (x : Does). x.lives) is, ap (λ (x : Does). x.begun) is)
does_keep w (command.Set id input) None d edit (inl is) = (ap (λ (x : Does). x.lives) is, ap (λ (x : Does). x.begun) is)
does_keep w (command.Remove id) None d edit (inl is) = (ap (λ (x : Does). x.lives) is, ap (λ (x : Does). x.begun) is)
does_keep w (command.Move id after) None d edit (inl is) = (ap (λ (x : Does). x.lives) is, ap (λ (x : Does). x.begun) is)
does_keep w (command.Clear id) None d edit (inl is) = (ap (λ (x : Does). x.lives) is, ap (λ (x : Does). x.begun) is)
does_keep w (command.Eval id) None d edit (inl is) = absurd (false≢true edit)
does_keep w (command.Complete id cursor) None d edit (inl is) = absurd (false≢true edit)
does_keep w (command.CompleteText id cursor text) None d edit (inl is) = absurd (false≢true edit)
does_keep w (command.Stop name) None d edit (inl is) = absurd (false≢true edit)
does_keep w command.Checkpoint None d edit (inl is) = absurd (false≢true edit)

op_keeps : (again : Bool) (o : Option Op) (w : World) → SameLives w (renewed_if again (with_op_if o w)).lives (renewed_if again (with_op_if o w)).begun
op_keeps false None w = (refl, refl)
op_keeps false (Some o) w = (refl, refl)
op_keeps true None w = (refl, refl)
op_keeps true (Some o) w = (refl, refl)

pub runs_keep : (w v : World) (es : List Event) (os : List Outcome) → OnlyEdits es → Runs w es os v → SameLives w v.lives v.begun
runs_keep w v [] [] all run = (ap (λ (x : World). x.lives) run, ap (λ (x : World). x.begun) run)
runs_keep w v [] (o ∷ os) all run = absurd run
runs_keep w v (e ∷ es) [] all run = absurd run
runs_keep w v (event.Child name number e ∷ es) (o ∷ os) all run = absurd (false≢true all.0)
runs_keep w v (event.Command c ∷ es) (o ∷ os) all run =
    let d = run.1.0 in
    let did = does_keep w c (first_of (command_refusals w c)) d all.0 run.1.1 in
    let put = op_keeps d.again d.op (record w { begun = d.begun; lives = d.lives }) in
    let rest = runs_keep run.0 v es os all.1 run.2 in (
      rest.0 ∙ ap (λ (x : World). x.lives) run.1.3 ∙ put.0 ∙ did.0,
      rest.1 ∙ ap (λ (x : World). x.begun) run.1.3 ∙ put.1 ∙ did.1,
    )

-- None has a fault while records are owed.

takes_none : (w : World) (e : Event) → is_edit e ≡ true → event_takes_memory w e ≡ true → ⊥
takes_none w (event.Command c) edit takes = false≢true takes
takes_none w (event.Child name number e) edit takes = false≢true edit

piece_is_none : (w : World) (e : Event) → is_edit e ≡ true → is_piece w e ≡ true → ⊥
piece_is_none w (event.Command c) edit is = false≢true is
piece_is_none w (event.Child name number e) edit is = false≢true edit

no_cause : (w : World) (e : Event) (old new : DiskView) (fault : HostFault) → is_edit e ≡ true → (fault ≡ hosts.Disk → ⊥) → CauseOf w e old new fault → ⊥
no_cause w e old new hosts.Closed edit kept cause = cause
no_cause w e old new hosts.Disk edit kept cause = kept refl
no_cause w e old new hosts.OutOfMemory edit kept cause = takes_none w e edit cause.1
no_cause w e old new hosts.JournalFull edit kept cause = piece_is_none w e edit cause.1

pub never_stops : (w : World) (events : List Event) (old new : HostView) (reported : List Outcome) (fault : HostFault) → OnlyEdits events → StoppedAt w events old new reported fault
    → (fault ≡ hosts.Disk → old.store.gathers ≡ false) → old.store.gathers ≡ true → ⊥
never_stops w events old new reported fault all s at_once gathers =
    no_cause s.played.leads s.at s.before.store.disk new.store.disk fault (edit_at s.played.done s.dropped s.at (subst OnlyEdits s.played.split all))
    (λ disk. false≢true (sym (at_once disk) ∙ gathers)) s.failed.cause

-- Where they end.

refused_after : (before : List Outcome) (last : Outcome) → is_refusal last ≡ true → list_any is_refusal (before ++ last ∷ []) ≡ true
refused_after [] last refused = ap (λ (b : Bool). b || false) refused
refused_after (o ∷ before) last refused = either (is_refusal o) (list_any is_refusal (before ++ last ∷ [])) (refused_after before last refused)
  where
    either : (a b : Bool) → b ≡ true → (a || b) ≡ true
    either true b is = refl
    either false b is = is

last_is : (a b : List Outcome) (x y : Outcome) → a ++ x ∷ [] ≡ b ++ y ∷ [] → (a ≡ b) × (x ≡ y)
last_is [] [] x y is = (refl, cc)
last_is [] (o ∷ []) x y is = absurd cc
last_is [] (o ∷ p ∷ b) x y is = absurd cc
last_is (o ∷ []) [] x y is = absurd cc
last_is (o ∷ p ∷ a) [] x y is = absurd cc
last_is (o ∷ a) (p ∷ b) x y is =
    let first : o ≡ p = cc in
    let following : a ++ x ∷ [] ≡ b ++ y ∷ [] = cc in
    let rest = last_is a b x y following in
    (ap (λ (l : List Outcome). o ∷ l) rest.0 ∙ ap (λ (z : Outcome). z ∷ b) first, rest.1)

module _ (w : World) (events : List Event) (reported : List Outcome) (host : HostView) (p : PlayedBy true w events reported host) where
  pub all_taken : list_any is_refusal reported ≡ false → p.rest ≡ []
  all_taken none = go p.ends
    where
      go : StopsAtRefusal reported p.rest → p.rest ≡ []
      go (nowhere accepted is) = is
      go (after_one before last is accepted refused) =
          absurd (false≢true (sym none ∙ ap (λ (os : List Outcome). list_any is_refusal os) is ∙ refused_after before last refused))

  abbrev pub all_played : list_any is_refusal reported ≡ false → HasPlayed w events [] reported host
  all_played none = record {
    done = p.played.done;
    split = p.played.split ∙ ap (λ (x : List Event). p.played.done ++ x) (all_taken none);
    leads = p.played.leads;
    runs = p.played.runs;
    stands = p.played.stands;
  }

  pub refused_at : list_any is_refusal reported ≡ true → (before : List Outcome) (last : Outcome) → reported ≡ before ++ last ∷ [] → RefusedAt w events before last
  refused_at some before last is = go p.ends
    where
      go : StopsAtRefusal reported p.rest → RefusedAt w events before last
      go (nowhere accepted end) = absurd (false≢true (sym accepted ∙ some))
      go (after_one b l is_so accepted refused) =
          let same = last_is b before l last (sym is_so ∙ is) in
          record {
            done = p.played.done;
            rest = p.rest;
            split = p.played.split;
            leads = p.played.leads;
            runs = subst (λ (os : List Outcome). Runs w p.played.done os p.played.leads) is p.played.runs;
            accepted = subst (λ (os : List Outcome). list_any is_refusal os ≡ false) same.0 accepted;
            refused = subst (λ (o : Outcome). is_refusal o ≡ true) same.1 refused;
          }

  -- And back again.

  pub withdraws : (old : HostView) (before : Contents) → IsHost old w → OnlyEdits events → MayWithdraw old before → host.store.real ≡ old.store.real → host.store.start ≡ old.store.start → WithdrawsTo host before w
  withdraws old before h all m real start =
      let keep = runs_keep w p.played.leads p.played.done reported (edits_front p.played.done p.rest (subst OnlyEdits p.played.split all)) p.played.runs in
      let there = p.played.stands.stands in
      let disk : host.store.real ≡ old.store.disk = real ∙ m.real in
      record {
        works = p.played.stands.works;
        still_open = there.still_open;
        made = m.made;
        contents = m.same ∙ h.stands.contents;
        allowed = h.stands.allowed;
        images = subst (λ (d : DiskView). InModel d (Leaves (IsSheetImage (sheet_in w)) d.history.now)) (sym disk) h.stands.images;
        room = ap (λ (d : DiskView). d.room) disk ∙ h.stands.room;
        end = start ∙ m.start ∙ h.stands.end;
        begun_is = there.begun_is ∙ keep.1;
        bound = h.stands.bound;
        lives_are = subst (λ (ls : List Going). Lives host.lives ls) keep.0 there.lives_are;
        fields = h.stands.fields;
        apart = h.stands.apart;
      }

  -- one of them is a refusal, so none was taken
  pub made_refused : (old new : HostView) (r : Whole) → list_any is_refusal reported ≡ true → EndsIn reported r → IsHost new w → new.store.disk ≡ old.store.disk → MadeWhole w events old new r
  made_refused old new (whole.Taken outcomes) some ends stands disk = absurd ends
  made_refused old new (whole.Refused before last) some ends stands disk = record { at = refused_at some before.items last ends; stands = stands; disk = disk }

pub few_refused : (reported : List Outcome) (count : ℕ) (r : Whole) → EndsIn reported r → length reported ≤ count → HasAtMost count r
few_refused reported count (whole.Taken outcomes) ends few = absurd ends
few_refused reported count (whole.Refused before last) ends few = omega (arith, few, ap (λ (l : List Outcome). length l) ends, length-append before.items (last ∷ []))

pub images_again : (host : HostView) (before : Contents) (w : World) → WithdrawsTo host before w → InModel host.store.real (Leaves (IsSheetImage before) host.store.real.history.now)
images_again host before w back = subst (λ (s : Contents). InModel host.store.real (Leaves (IsSheetImage s) host.store.real.history.now)) (sym back.contents) back.images

pub stands_again : (old : HostView) (store : StoreView) (before : Contents) (w : World) → WithdrawsTo old before w → store.closed ≡ false → store.sheet.contents ≡ before → store.disk ≡ old.store.real → store.end ≡ old.store.start
    → EngineStandsFor store old.lives old.begun w
stands_again old store before w back still_open is disk end = record {
  still_open = still_open;
  contents = is ∙ back.contents;
  allowed = back.allowed;
  images = subst (λ (d : DiskView). InModel d (Leaves (IsSheetImage (sheet_in w)) d.history.now)) (sym disk) back.images;
  room = ap (λ (d : DiskView). d.room) disk ∙ back.room;
  end = end ∙ back.end;
  begun_is = back.begun_is;
  bound = back.bound;
  lives_are = back.lives_are;
  fields = back.fields;
  apart = back.apart;
}
