-- What an op of a command gives, against the definitions.
use Rattle.std.proofs.Common.{◌≡◌, inl, inr, ℕ, List, [], ◌∷◌, ◌++◌, refl, ap, sym, ◌∙◌, subst, arith, Bool, true, false, Option, Some, None, Result, Ok, Err}
use Rattle.std.specs.Prelude.{if◌then◌else◌, ◌==◌, ◌||◌, not, OnErr, IfErr}
use Rattle.std.specs.List.{AllByRecursion, list_any}
use Rattle.std.proofs.lemmas.Bool.Decides.{nat_tests}
use Rattle.disk_model.specs.Disk.{Rises}
use Rattle.worksheet.specs.declared.op.Op.{Op}
use Rattle.worksheet.specs.declared.op.Op.TheVariants as op
use Rattle.worksheet.specs.declared.refusal.Refusal.{Refusal}
use Rattle.worksheet.specs.declared.refusal.Refusal.TheVariants as refusal
use Rattle.worksheet.specs.Checks.{first_of, first_refusal}
use Rattle.worksheet.specs.Checks.{refusals as sheet_refusals}
use Rattle.plugin_core.specs.declared.item.Item.{Item}
use Rattle.plugin_core.specs.declared.item.Item.TheVariants as item
use Rattle.plugin_core.specs.Items.{is_line_of}
use Rattle.host_events.specs.Commands.{op_of}
use Rattle.host_events.specs.declared.command.Command.{Command}
use Rattle.host_events.specs.declared.command.Command.TheVariants as command
use Rattle.host_events.specs.declared.event.Event.TheVariants as event
use Rattle.host_events.specs.declared.outcome.Outcome.{Outcome}
use Rattle.host_events.specs.declared.outcome.HostFault.{HostFault}
use Rattle.host_events.specs.declared.outcome.HostFault.TheVariants as hosts
use Rattle.host_events.specs.declared.reply.Reply.TheVariants as reply
use Rattle.session_engine.specs.declared.table.Running.{Running}
use Rattle.session_engine.proofs.Tables.{numbers_are}
use Rattle.session_engine.specs.World.{World, Going, waiting_in, in_flight, sheet_in}
use Rattle.session_engine.specs.inside.Words.{waits_in, fits, full}
use Rattle.session_engine.specs.Refused.{command_refusals, command_takes_memory, second, refusals_but_room, op_refusals}
use Rattle.session_engine.specs.Does.{changes, does, tells, CommandDoes, MayDo}
use Rattle.session_engine.specs.Faults.{CauseOf, Failed}
use Rattle.session_engine.specs.Host.{HostView, EngineStandsFor, OnDisk, number_in}
use Rattle.session_engine.specs.inside.Commits.{Spares, SparesItem, SparesLife}

-- a command that is this op
pub record IsOp (w : World) (c : Command) (o : Op) : Type 0 where
  pub refusals_are : command_refusals w c ≡ op_refusals w o
  pub does_is : does w c ≡ changes w o
  pub takes : command_takes_memory w c ≡ true

pub as_op : (w : World) (c : Command) (o : Op) → op_of c ≡ Some o → IsOp w c o
as_op w (command.Session name tab words) o e = let is : op.Session name tab words ≡ o = cc in subst (λ (o : Op). IsOp w (command.Session name tab words) o) is (record { refusals_are = refl; does_is = refl; takes = refl })
as_op w (command.New place session input) o e = let is : op.New place session input ≡ o = cc in subst (λ (o : Op). IsOp w (command.New place session input) o) is (record { refusals_are = refl; does_is = refl; takes = refl })
as_op w (command.Set id input) o e = let is : op.Set id input ≡ o = cc in subst (λ (o : Op). IsOp w (command.Set id input) o) is (record { refusals_are = refl; does_is = refl; takes = refl })
as_op w (command.Remove id) o e = let is : op.Remove id ≡ o = cc in subst (λ (o : Op). IsOp w (command.Remove id) o) is (record { refusals_are = refl; does_is = refl; takes = refl })
as_op w (command.Move id place) o e = let is : op.Move id place ≡ o = cc in subst (λ (o : Op). IsOp w (command.Move id place) o) is (record { refusals_are = refl; does_is = refl; takes = refl })
as_op w (command.Clear id) o e = let is : op.Clear id ≡ o = cc in subst (λ (o : Op). IsOp w (command.Clear id) o) is (record { refusals_are = refl; does_is = refl; takes = refl })
as_op w (command.Eval id) o e = cc
as_op w (command.Complete id cursor) o e = cc
as_op w (command.CompleteText id cursor text) o e = cc
as_op w (command.Stop name) o e = cc
as_op w command.Checkpoint o e = cc

pub first_after : (rs qs : List (Refusal × Bool)) → first_of rs ≡ None → first_of (rs ++ qs) ≡ first_of qs
first_after [] qs h = refl
first_after (r ∷ rs) qs h = go r.1 h (first_after rs qs)
  where
    go : (b : Bool) → (if b then Some r.0 else first_of rs) ≡ None → (first_of rs ≡ None → first_of (rs ++ qs) ≡ first_of qs) → (if b then Some r.0 else first_of (rs ++ qs)) ≡ first_of qs
    go true h rest = cc
    go false h rest = rest h

pub first_before : (rs qs : List (Refusal × Bool)) (x : Refusal) → first_of rs ≡ Some x → first_of (rs ++ qs) ≡ Some x
first_before [] qs x h = cc
first_before (r ∷ rs) qs x h = go r.1 h (first_before rs qs x)
  where
    go : (b : Bool) → (if b then Some r.0 else first_of rs) ≡ Some x → (first_of rs ≡ Some x → first_of (rs ++ qs) ≡ Some x) → (if b then Some r.0 else first_of (rs ++ qs)) ≡ Some x
    go true h rest = h
    go false h rest = rest h

none_second : (r : Refusal × Bool) (rs : List (Refusal × Bool)) → first_of (second r rs) ≡ None → (r.1 ≡ false) × (first_of rs ≡ None)
none_second r [] h = go r.1 refl h
  where
    go : (b : Bool) → r.1 ≡ b → (if b then Some r.0 else None) ≡ None → (r.1 ≡ false) × (first_of [] ≡ None)
    go true e h = cc
    go false e h = (e, refl)
none_second r (q ∷ rs) h = go q.1 r.1 refl h
  where
    go : (b d : Bool) → r.1 ≡ d → (if b then Some q.0 else (if d then Some r.0 else first_of rs)) ≡ None → (r.1 ≡ false) × ((if b then Some q.0 else first_of rs) ≡ None)
    go true d e h = cc
    go false true e h = cc
    go false false e h = (e, h)

pub allowed_by : (w : World) (o : Op) → first_of (refusals_but_room w o) ≡ None → first_refusal (sheet_in w) o ≡ None
allowed_by w (op.Session name tab words) h = h
allowed_by w (op.New place session input) h = h
allowed_by w (op.Set id input) h = (none_second (refusal.InFlight, in_flight w id) (sheet_refusals (sheet_in w) (op.Set id input)) h).1
allowed_by w (op.Remove id) h = (none_second (refusal.InFlight, in_flight w id) (sheet_refusals (sheet_in w) (op.Remove id)) h).1
allowed_by w (op.Move id place) h = h
allowed_by w (op.Clear id) h = (none_second (refusal.InFlight, in_flight w id) (sheet_refusals (sheet_in w) (op.Clear id)) h).1
allowed_by w (op.Answer id prompt output) h = h
allowed_by w (op.Lost id why) h = h
allowed_by w (op.Ids number) h = h

-- no line of a field that goes waits

all_items : (P : Item → Type 0) (items : List Item) → ((i : Item) → P i) → AllByRecursion P items
all_items P [] all = tt
all_items P (i ∷ items) all = (all i, all_items P items all)

all_lives : (o : Op) (ls : List Going) → ((i : Item) → SparesItem o i) → AllByRecursion (SparesLife o) ls
all_lives o [] all = tt
all_lives o (l ∷ ls) all = (all_items (SparesItem o) (waiting_in l) all, all_lives o ls all)

spared_here : (id : ℕ) (items : List Item) → list_any (λ i. is_line_of id i) items ≡ false → AllByRecursion (SparesItem (op.Remove id)) items
spared_here id [] h = tt
spared_here id (item.Line other text ∷ items) h = go (other == id) refl h (spared_here id items)
  where
    go : (b : Bool) → (other == id) ≡ b → (b || list_any (λ i. is_line_of id i) items) ≡ false → (list_any (λ i. is_line_of id i) items ≡ false → AllByRecursion (SparesItem (op.Remove id)) items)
        → AllByRecursion (SparesItem (op.Remove id)) (item.Line other text ∷ items)
    go true e h rest = cc
    go false e h rest = (grind (arith, nat_tests, e), rest h)
spared_here id (item.Complete other text cursor ∷ items) h = (tt, spared_here id items h)

spared_in : (id : ℕ) (ls : List Going) → waits_in ls id ≡ false → AllByRecursion (SparesLife (op.Remove id)) ls
spared_in id [] h = tt
spared_in id (l ∷ ls) h = go (list_any (λ i. is_line_of id i) (waiting_in l)) refl h (spared_in id ls)
  where
    go : (b : Bool) → list_any (λ i. is_line_of id i) (waiting_in l) ≡ b → (b || waits_in ls id) ≡ false → (waits_in ls id ≡ false → AllByRecursion (SparesLife (op.Remove id)) ls) → AllByRecursion (SparesLife (op.Remove id)) (l ∷ ls)
    go true e h rest = cc
    go false e h rest = (spared_here id (waiting_in l) e, rest h)

no_matter : (o : Op) → ((id : ℕ) → Spares id o) → (i : Item) → SparesItem o i
no_matter o all (item.Line id text) = all id
no_matter o all (item.Complete id text cursor) = tt

pub spares : (w : World) (o : Op) → first_of (refusals_but_room w o) ≡ None → AllByRecursion (SparesLife o) w.lives
spares w (op.Session name tab words) h = all_lives (op.Session name tab words) w.lives (no_matter (op.Session name tab words) (λ id. tt))
spares w (op.New place session input) h = all_lives (op.New place session input) w.lives (no_matter (op.New place session input) (λ id. tt))
spares w (op.Set other input) h = all_lives (op.Set other input) w.lives (no_matter (op.Set other input) (λ id. tt))
spares w (op.Remove other) h = spared_in other w.lives (none_second (refusal.InFlight, waits_in w.lives other) (sheet_refusals (sheet_in w) (op.Remove other)) h).0
spares w (op.Move other place) h = all_lives (op.Move other place) w.lives (no_matter (op.Move other place) (λ id. tt))
spares w (op.Clear other) h = all_lives (op.Clear other) w.lives (no_matter (op.Clear other) (λ id. tt))
spares w (op.Answer other prompt output) h = all_lives (op.Answer other prompt output) w.lives (no_matter (op.Answer other prompt output) (λ id. tt))
spares w (op.Lost other why) h = all_lives (op.Lost other why) w.lives (no_matter (op.Lost other why) (λ id. tt))
spares w (op.Ids number) h = all_lives (op.Ids number) w.lives (no_matter (op.Ids number) (λ id. tt))

module _ (w : World) (c : Command) (o : Op) (is : op_of c ≡ Some o) where
  pub gives_refusal : (r : Refusal) → first_of (refusals_but_room w o) ≡ Some r → MayDo w (event.Command c) (tells w (reply.Refused r))
  gives_refusal r e =
      let first : first_of (command_refusals w c) ≡ Some r = ap first_of (as_op w c o is).refusals_are ∙ first_before (refusals_but_room w o) (full w o ∷ []) r e in
      subst (λ (x : Option Refusal). CommandDoes w c x (tells w (reply.Refused r))) (sym first) refl

  first_is : first_of (refusals_but_room w o) ≡ None → first_of (command_refusals w c) ≡ (if not (fits w o) then Some refusal.JournalFull else None)
  first_is e = ap first_of (as_op w c o is).refusals_are ∙ first_after (refusals_but_room w o) (full w o ∷ []) e

  pub gives_full : first_of (refusals_but_room w o) ≡ None → fits w o ≡ false → MayDo w (event.Command c) (tells w (reply.Refused refusal.JournalFull))
  gives_full e f =
      let first : first_of (command_refusals w c) ≡ Some refusal.JournalFull = first_is e ∙ ap (λ (b : Bool). if not b then Some refusal.JournalFull else None) f in
      subst (λ (x : Option Refusal). CommandDoes w c x (tells w (reply.Refused refusal.JournalFull))) (sym first) refl

  pub gives_no_memory : first_of (refusals_but_room w o) ≡ None → fits w o ≡ true → MayDo w (event.Command c) (tells w (reply.Refused refusal.OutOfMemory))
  gives_no_memory e f =
      let first : first_of (command_refusals w c) ≡ None = first_is e ∙ ap (λ (b : Bool). if not b then Some refusal.JournalFull else None) f in
      subst (λ (x : Option Refusal). CommandDoes w c x (tells w (reply.Refused refusal.OutOfMemory))) (sym first) (inr ((as_op w c o is).takes, refl))

  pub gives_done : first_of (refusals_but_room w o) ≡ None → fits w o ≡ true → MayDo w (event.Command c) (changes w o)
  gives_done e f =
      let first : first_of (command_refusals w c) ≡ None = first_is e ∙ ap (λ (b : Bool). if not b then Some refusal.JournalFull else None) f in
      subst (λ (x : Option Refusal). CommandDoes w c x (changes w o)) (sym first) (inl (sym (as_op w c o is).does_is))

  -- the disk's fault at a command that only changes the worksheet
  pub change_fails : (old new : HostView) (r : Result Outcome HostFault) → EngineStandsFor old.store old.lives old.begun w → first_of (refusals_but_room w o) ≡ None → new.lives ≡ old.lives
      → IfErr r (λ fault. (fault ≡ hosts.Disk) × (new.store.sheet.contents ≡ old.store.sheet.contents) × Rises old.store.disk.faults new.store.disk.faults)
      → OnErr r (fits w o ≡ true) → OnDisk w.ops false (Some o) old.store.disk new.store.disk → IfErr r (Failed w (event.Command c) old new)
  change_fails old new (Ok x) h none lives fault fit disk = tt
  change_fails old new (Err y) h none lives fault fit disk = record {
    contents = fault.1 ∙ h.contents;
    numbers = λ name. ap (λ (l : List Running). number_in l name) lives ∙ numbers_are old.lives w.lives h.lives_are name;
    cause = subst (λ (x : HostFault). CauseOf w (event.Command c) old.store.disk new.store.disk x) (sym fault.0)
        (fault.2, (record { does = changes w o; may = gives_done none fit; writes = refl }, disk));
  }
