-- Lemmas on an Eval.
use Rattle.std.proofs.Common.{◌≡◌, inl, inr, ⊎_elim, ◌+◌, ℕ, List, [], ◌∷◌, ◌++◌, length, refl, ap, sym, ◌∙◌, subst, arith, Bool, true, false, Option, Some, None}
use Rattle.std.specs.Prelude.{nat_le, is_some, ◌&&◌, ◌||◌, not, if◌then◌else◌}
use Rattle.std.proofs.lemmas.Bool.Decides.{nat_tests}
use Rattle.worksheet.specs.declared.op.Op.{Op}
use Rattle.worksheet.specs.declared.op.Op.TheVariants as op
use Rattle.worksheet.specs.declared.refusal.Refusal.{Refusal}
use Rattle.worksheet.specs.declared.refusal.Refusal.TheVariants as refusal
use Rattle.worksheet.specs.Checks.{first_of}
use Rattle.journal.specs.Kept.{Fits}
use Rattle.journal.specs.Limits.{longest_payload}
use Rattle.recovery.specs.Code.{code_of}
use Rattle.std.specs.List.{AllByRecursion}
use Rattle.worksheet.specs.Checks.{session_named}
use Rattle.recovery.specs.Sheets.{StoreView}
use Rattle.plugin_core.specs.declared.item.Item.{Item}
use Rattle.plugin_core.specs.declared.item.Item.TheVariants as item
use Rattle.session_engine.specs.Limits.{most_lives}
use Rattle.session_engine.specs.declared.table.Running.{Running}
use Rattle.session_engine.specs.inside.Tables.{Joined, Begun, with_life}
use Rattle.session_engine.specs.Host.{Lives, HasField, HaveFields, EngineStandsFor}
use Rattle.session_engine.proofs.Tables.{found, not_found, pushed, numbers_are}
use Rattle.session_engine.proofs.Naming.{differ_after}
use Rattle.session_engine.proofs.Standing.{all_at, put}
use Rattle.session_engine.specs.World.{World, Going, life_of, session_of_field, sheet_in, waiting_in, fits_in}
use Rattle.session_engine.specs.inside.Words.{fits, line_of_field, with_op, starting_words, begun_with, joined_by, full, lives_are_spent, by_field}
use Rattle.session_engine.specs.Refused.{queue_refusals}
use Rattle.session_engine.specs.inside.Parts.{eval_refusals, start_words, asks, with_item}
use Rattle.std.specs.Str.{bytes_eq}
use Rattle.std.proofs.lemmas.Slice.Eq.{bytes_eq-Decides}
use Rattle.std.specs.Prelude.{Result, Ok, Err, OnErr, IfErr}
use Rattle.disk_model.specs.Disk.{DiskView, Rises}
use Rattle.recovery.specs.Sheets.{SameStore}
use Rattle.host_events.specs.declared.outcome.Outcome.{Outcome}
use Rattle.host_events.specs.declared.outcome.HostFault.{HostFault}
use Rattle.host_events.specs.declared.outcome.HostFault.TheVariants as hosts
use Rattle.worksheet.specs.declared.field.Field.{Field}
use Rattle.worksheet.specs.Checks.{field_in, has_field}
use Rattle.worksheet.proofs.Finds.{none_applies}
use Rattle.host_events.specs.declared.command.Command.TheVariants as command
use Rattle.host_events.specs.declared.event.Event.TheVariants as event
use Rattle.session_engine.specs.Named.{first_named, without_named}
use Rattle.session_engine.specs.inside.Tables.{Asked, CanGoBack}
use Rattle.session_engine.specs.Host.{name_of, number_in}
use Rattle.session_engine.proofs.Tables.{numbers_stay}
use Rattle.session_engine.specs.World.{in_flight, with_op_if}
use Rattle.session_engine.specs.Refused.{command_refusals}
use Rattle.session_engine.specs.inside.Commits.{RefusesEval, SparesItem, SparesLife, reported_asked, begun_with_words}
use Rattle.session_engine.specs.Does.{does, asks_item, tells, following, CommandDoes, MayDo}
use Rattle.session_engine.specs.Faults.{CauseOf, Failed}
use Rattle.session_engine.specs.Host.{HostView, OnDisk}
use Rattle.host_events.specs.declared.reply.Reply.TheVariants as reply
use Rattle.session_engine.proofs.Changing.{first_after, first_before}

pub fit : (room end : ℕ) (o : Op) → Fits room end (length (code_of o)) → fits_in room end o ≡ true
fit room end o h = go (nat_le (length (code_of o)) longest_payload) (nat_le (end + 5 + length (code_of o) + 1) room) refl refl
  where
    go : (a b : Bool) → nat_le (length (code_of o)) longest_payload ≡ a → nat_le (end + 5 + length (code_of o) + 1) room ≡ b → (a && b) ≡ true
    go true true e f = refl
    go true false e f = absurd (grind (arith, nat_tests, h.1))
    go false b e f = absurd (grind (arith, nat_tests, h.0))

pub unfit : (room end : ℕ) (o : Op) → (Fits room end (length (code_of o)) → ⊥) → fits_in room end o ≡ false
unfit room end o h = go (nat_le (length (code_of o)) longest_payload) (nat_le (end + 5 + length (code_of o) + 1) room) refl refl
  where
    go : (a b : Bool) → nat_le (length (code_of o)) longest_payload ≡ a → nat_le (end + 5 + length (code_of o) + 1) room ≡ b → (a && b) ≡ false
    go true true e f = absurd (h (grind (arith, nat_tests, e), grind (arith, nat_tests, f)))
    go true false e f = refl
    go false b e f = refl

pub fits_unless : (room end : ℕ) (o : Op) → ((Fits room end (length (code_of o)) → ⊥) → ⊥) → fits_in room end o ≡ true
fits_unless room end o h = go (fits_in room end o) refl
  where
    go : (b : Bool) → fits_in room end o ≡ b → b ≡ true
    go true e = refl
    go false e = absurd (h (λ f. let no : true ≡ false = sym (fit room end o f) ∙ e in cc))

at_session : (w : World) (id : ℕ) (name : List ℕ) → session_of_field w id ≡ name → first_of (queue_refusals w (life_of w (session_of_field w id))) ≡ first_of (queue_refusals w (life_of w name))
at_session w id name is = ap (λ (n : List ℕ). first_of (queue_refusals w (life_of w n))) is

pub refused_queue : (w : World) (id : ℕ) (name : List ℕ) (r : Refusal) → session_of_field w id ≡ name → first_of (queue_refusals w (life_of w name)) ≡ Some r → RefusesEval w id r
refused_queue w id name r is e = inl (first_before (queue_refusals w (life_of w (session_of_field w id))) (full w (op.Clear id) ∷ []) r (at_session w id name is ∙ e))

first_is : (w : World) (id : ℕ) (name : List ℕ) → session_of_field w id ≡ name → first_of (queue_refusals w (life_of w name)) ≡ None → first_of (eval_refusals w id) ≡ (if not (fits w (op.Clear id)) then Some refusal.JournalFull else None)
first_is w id name is e = first_after (queue_refusals w (life_of w (session_of_field w id))) (full w (op.Clear id) ∷ []) (at_session w id name is ∙ e)

pub refused_full : (w : World) (id : ℕ) (name : List ℕ) → session_of_field w id ≡ name → first_of (queue_refusals w (life_of w name)) ≡ None → fits w (op.Clear id) ≡ false → RefusesEval w id refusal.JournalFull
refused_full w id name is e f = inl (first_is w id name is e ∙ ap (λ (b : Bool). if not b then Some refusal.JournalFull else None) f)

pub not_refused : (w : World) (id : ℕ) (name : List ℕ) → session_of_field w id ≡ name → first_of (queue_refusals w (life_of w name)) ≡ None → fits w (op.Clear id) ≡ true → first_of (eval_refusals w id) ≡ None
not_refused w id name is e f = first_is w id name is e ∙ ap (λ (b : Bool). if not b then Some refusal.JournalFull else None) f

-- An item is asked.

all_after : {A : Type 0} (P : A → Type 0) (xs : List A) (x : A) → AllByRecursion P xs → P x → AllByRecursion P (xs ++ x ∷ [])
all_after P [] x all one = (one, tt)
all_after P (y ∷ xs) x all one = (all.0, all_after P xs x all.1 one)

-- the worlds and outcomes of an item that joins a life, and of one that begins one
pub joins : (store : StoreView) (rs new : List Running) (begun next : ℕ) (w : World) (name : List ℕ) (i : Item) (number : ℕ) (sent : Option (List ℕ)) (words : Option (List (List ℕ)))
    → EngineStandsFor store rs begun w → HasField (sheet_in w) name i → Joined name i rs new (record { number = number; sent = sent }) → words ≡ start_words w name (life_of w name)
    → (reported_asked name number words sent ≡ asks w name i (life_of w name)) × EngineStandsFor store new (begun_with_words begun words) (with_item w name i (life_of w name))
joins store rs new begun next w name i number sent words h has j is =
    let f = found name rs w.lives j.before h.lives_are j.found in
    let a = j.accepts f.life.past f.life.blocks f.runs.stands in
    let no_words : words ≡ None = is ∙ ap (λ (o : Option Going). start_words w name o) f.is in
    let n : number ≡ f.life.number = j.reported ∙ j.same ∙ f.runs.number in
    let had = all_at (HaveFields (sheet_in w)) (λ (l : Going). l.name) name f.life w.lives h.fields f.is in
    let have = subst (λ (l : List Item). AllByRecursion (HasField (sheet_in w) f.life.name) l) (sym a.waiting)
    (all_after (HasField (sheet_in w) f.life.name) (waiting_in f.life) i had (subst (λ (n : List ℕ). HasField (sheet_in w) n i) (sym f.named) has)) in
    let reported : reported_asked name number words sent ≡ asks w name i (Some f.life) =
    ap (λ (ws : Option (List (List ℕ))). reported_asked name number ws sent) no_words
    ∙ ap (λ (k : ℕ). reported_asked name k None sent) n
    ∙ ap (λ (s : Option (List ℕ)). reported_asked name f.life.number None s) a.gives in
    let stand = put store rs begun w name j.before (with_life j.before j.life) (joined_by f.life i) h f (record { name = f.runs.name; number = j.same ∙ f.runs.number; stands = a.then }) have f.named in (
      reported ∙ sym (ap (λ (o : Option Going). asks w name i o) f.is),
      subst (λ (o : Option Going). EngineStandsFor store new (begun_with_words begun words) (with_item w name i o)) (sym f.is)
          (subst (λ (ws : Option (List (List ℕ))). EngineStandsFor store new (begun_with_words begun ws) (with_item w name i (Some f.life))) (sym no_words)
          (subst (λ (l : List Running). EngineStandsFor store l begun (with_item w name i (Some f.life))) (sym j.put) stand)),
    )

pub begins : (store : StoreView) (rs new : List Running) (begun : ℕ) (w : World) (name : List ℕ) (i : Item) (number : ℕ) (sent : Option (List ℕ)) (words : Option (List (List ℕ)))
    → EngineStandsFor store rs begun w → HasField (sheet_in w) name i → lives_are_spent w.begun (life_of w name) ≡ false → Begun name (begun + 1) i rs new (record { number = number; sent = sent }) → words ≡ start_words w name (life_of w name)
    → (reported_asked name number words sent ≡ asks w name i (life_of w name)) × EngineStandsFor store new (begun_with_words begun words) (with_item w name i (life_of w name))
begins store rs new begun w name i number sent words h has left b is =
    let e : life_of w name ≡ None = not_found name rs w.lives h.lives_are b.none in
    let ws : words ≡ Some (starting_words (session_named (sheet_in w).sessions name)) = is ∙ ap (λ (o : Option Going). start_words w name o) e in
    let n : number ≡ w.begun + 1 = b.reported ∙ ap (λ (k : ℕ). k + 1) h.begun_is in
    let spare : nat_le most_lives w.begun ≡ false = sym (ap (λ (o : Option Going). lives_are_spent w.begun o) e) ∙ left in
    let life = begun_with w name i in
    let stand : EngineStandsFor store new (begun + 1) (with_item w name i None) = record {
      still_open = h.still_open;
      contents = h.contents;
      allowed = h.allowed;
      images = h.images;
      room = h.room;
      end = h.end;
      begun_is = ap (λ (k : ℕ). k + 1) h.begun_is;
      bound = grind (arith, nat_tests, spare, h.bound);
      lives_are = subst (λ (l : List Running). Lives l (w.lives ++ life ∷ [])) (sym b.put) (pushed rs w.lives (record { name = name; life = b.life }) life h.lives_are (record { name = refl; number = b.is_number ∙ ap (λ (k : ℕ). k + 1) h.begun_is; stands = b.stands }));
      fields = all_after (HaveFields (sheet_in w)) w.lives life h.fields (has, tt);
      apart = differ_after (λ (l : Going). l.name) w.lives life h.apart e;
    } in (
      ap (λ (x : Option (List (List ℕ))). reported_asked name number x sent) ws ∙ ap (λ (k : ℕ). reported_asked name k (Some (starting_words (session_named (sheet_in w).sessions name))) sent) n ∙ sym (ap (λ (o : Option Going). asks w name i o) e),
      subst (λ (o : Option Going). EngineStandsFor store new (begun_with_words begun words) (with_item w name i o)) (sym e)
          (subst (λ (x : Option (List (List ℕ))). EngineStandsFor store new (begun_with_words begun x) (with_item w name i None)) (sym ws) stand),
    )

pub ops_item : (w : World) (name : List ℕ) (i : Item) (l : Option Going) → (with_item w name i l).ops ≡ w.ops
ops_item w name i None = refl
ops_item w name i (Some l) = refl

spared_items : (id : ℕ) (items : List Item) → AllByRecursion (SparesItem (op.Clear id)) items
spared_items id [] = tt
spared_items id (item.Line other text ∷ items) = (tt, spared_items id items)
spared_items id (item.Complete other text cursor ∷ items) = (tt, spared_items id items)

pub spared_clear : (id : ℕ) (ls : List Going) → AllByRecursion (SparesLife (op.Clear id)) ls
spared_clear id [] = tt
spared_clear id (l ∷ ls) = (spared_items id (waiting_in l), spared_clear id ls)

-- An item can be taken back.

without_after : {A : Type 0} (name_of : A → List ℕ) (name : List ℕ) (xs : List A) (x : A) → first_named name_of name xs ≡ None → bytes_eq (name_of x) name ≡ true → without_named name_of name (xs ++ x ∷ []) ≡ xs
without_after name_of name [] x none is = rw is refl
without_after {A} name_of name (y ∷ xs) x none is = go (bytes_eq (name_of y) name) none (without_after name_of name xs x)
  where
    go : (b : Bool) → (if b then Some y else first_named name_of name xs) ≡ None → (first_named name_of name xs ≡ None → bytes_eq (name_of x) name ≡ true → without_named name_of name (xs ++ x ∷ []) ≡ xs)
        → (if b then xs ++ x ∷ [] else y ∷ without_named name_of name (xs ++ x ∷ [])) ≡ y ∷ xs
    go true none rest = cc
    go false none rest = ap (λ (l : List A). y ∷ l) (rest none is)

pub goes_back : (store : StoreView) (rs new : List Running) (begun : ℕ) (w : World) (name : List ℕ) (i : Item) (number : ℕ) (sent : Option (List ℕ)) (words : Option (List (List ℕ)))
    → EngineStandsFor store rs begun w → Asked name (begun + 1) i rs new (record { number = number; sent = sent }) → words ≡ start_words w name (life_of w name) → CanGoBack name rs begun new (begun_with_words begun words)
goes_back store rs new begun w name i number sent words h asked is = ⊎_elim
    (λ j.
    let f = found name rs w.lives j.before h.lives_are j.found in
    let none : words ≡ None = is ∙ ap (λ (o : Option Going). start_words w name o) f.is in
    inl (ap (λ (x : Option (List (List ℕ))). begun_with_words begun x) none, λ other. ap (λ (l : List Running). number_in l other) j.put ∙ numbers_stay name other rs j.before j.life j.found j.same))
    (λ b.
    let e : life_of w name ≡ None = not_found name rs w.lives h.lives_are b.none in
    let some : words ≡ Some (starting_words (session_named (sheet_in w).sessions name)) = is ∙ ap (λ (o : Option Going). start_words w name o) e in
    inr (
      ap (λ (x : Option (List (List ℕ))). begun_with_words begun x) some,
      ap (λ (l : List Running). without_named name_of name l) b.put ∙ without_after name_of name rs (record { name = name; life = b.life }) b.none ((bytes_eq-Decides name name).1 refl),
    ))
    asked

-- An Eval, against the definitions.

pub session_is : (w : World) (id : ℕ) (f : Field) → field_in (sheet_in w).fields id ≡ Some f → session_of_field w id ≡ f.session
session_is w id f e = ap (λ (o : Option Field). by_field o [] (λ g. g.session)) e

pub line_is : (w : World) (id : ℕ) (f : Field) → field_in (sheet_in w).fields id ≡ Some f → line_of_field w id ≡ item.Line id f.input
line_is w id f e = ap (λ (o : Option Field). item.Line id (by_field o [] (λ g. g.input))) e

first_eval : (w : World) (id : ℕ) (f : Field) → field_in (sheet_in w).fields id ≡ Some f → in_flight w id ≡ false → first_of (command_refusals w (command.Eval id)) ≡ first_of (eval_refusals w id)
first_eval w id f e free =
    let has : has_field (sheet_in w) id ≡ true = ap (λ (o : Option Field). is_some o) e in
    ap (λ (b : Bool). if not b then Some refusal.NoField else (if in_flight w id then Some refusal.InFlight else first_of (eval_refusals w id))) has
    ∙ ap (λ (b : Bool). if b then Some refusal.InFlight else first_of (eval_refusals w id)) free

pub not_spent : (w : World) (id : ℕ) → first_of (eval_refusals w id) ≡ None → lives_are_spent w.begun (life_of w (session_of_field w id)) ≡ false
not_spent w id h = (none_applies (eval_refusals w id) h).1.0

pub gives_no_field : (w : World) (id : ℕ) → field_in (sheet_in w).fields id ≡ None → MayDo w (event.Command (command.Eval id)) (tells w (reply.Refused refusal.NoField))
gives_no_field w id e =
    let has : has_field (sheet_in w) id ≡ false = ap (λ (o : Option Field). is_some o) e in
    let first : first_of (command_refusals w (command.Eval id)) ≡ Some refusal.NoField =
    ap (λ (b : Bool). if not b then Some refusal.NoField else (if in_flight w id then Some refusal.InFlight else first_of (eval_refusals w id))) has in
    subst (λ (x : Option Refusal). CommandDoes w (command.Eval id) x (tells w (reply.Refused refusal.NoField))) (sym first) refl

pub gives_in_flight : (w : World) (id : ℕ) (f : Field) → field_in (sheet_in w).fields id ≡ Some f → in_flight w id ≡ true → MayDo w (event.Command (command.Eval id)) (tells w (reply.Refused refusal.InFlight))
gives_in_flight w id f e waits =
    let has : has_field (sheet_in w) id ≡ true = ap (λ (o : Option Field). is_some o) e in
    let first : first_of (command_refusals w (command.Eval id)) ≡ Some refusal.InFlight =
    ap (λ (b : Bool). if not b then Some refusal.NoField else (if in_flight w id then Some refusal.InFlight else first_of (eval_refusals w id))) has
    ∙ ap (λ (b : Bool). if b then Some refusal.InFlight else first_of (eval_refusals w id)) waits in
    subst (λ (x : Option Refusal). CommandDoes w (command.Eval id) x (tells w (reply.Refused refusal.InFlight))) (sym first) refl

-- An evaluation in the parts that a host works on.

pub asked_reported : (w : World) (i : Item) (o : Option Op) (name : List ℕ) (l : Option Going) → (asks_item w i o name l).reported ≡ asks w name i l
asked_reported w i o name None = refl
asked_reported w i o name (Some l) = refl

pub asked_leads : (w : World) (i : Item) (o : Option Op) (name : List ℕ) (l : Option Going) → following w (asks_item w i o name l) ≡ with_op_if o (with_item w name i l)
asked_leads w i o name None = refl
asked_leads w i o name (Some l) = refl

pub asked_on_disk : (w : World) (i : Item) (o : Option Op) (name : List ℕ) (l : Option Going) (old new : DiskView) → OnDisk w.ops false o old new
    → OnDisk w.ops (asks_item w i o name l).again (asks_item w i o name l).op old new
asked_on_disk w i o name None old new disk = disk
asked_on_disk w i o name (Some l) old new disk = disk

asked_writes : (w : World) (i : Item) (o : Op) (name : List ℕ) (l : Option Going) → ((asks_item w i (Some o) name l).again || is_some (asks_item w i (Some o) name l).op) ≡ true
asked_writes w i o name None = refl
asked_writes w i o name (Some l) = refl

module _ (w : World) (id : ℕ) (f : Field) (e : field_in (sheet_in w).fields id ≡ Some f) (free : in_flight w id ≡ false) where
  pub eval_refused : (r : Refusal) → RefusesEval w id r → MayDo w (event.Command (command.Eval id)) (tells w (reply.Refused r))
  eval_refused r why = ⊎_elim
      (λ first. subst (λ (x : Option Refusal). CommandDoes w (command.Eval id) x (tells w (reply.Refused r))) (sym (first_eval w id f e free ∙ first)) refl)
      (λ want. subst (λ (x : Option Refusal). CommandDoes w (command.Eval id) x (tells w (reply.Refused r))) (sym (first_eval w id f e free ∙ want.0)) (inr (refl, ap (λ (x : Refusal). tells w (reply.Refused x)) want.1)))
      why

  pub eval_done : first_of (eval_refusals w id) ≡ None → MayDo w (event.Command (command.Eval id)) (does w (command.Eval id))
  eval_done none = subst (λ (x : Option Refusal). CommandDoes w (command.Eval id) x (does w (command.Eval id))) (sym (first_eval w id f e free ∙ none)) (inl refl)

  pub eval_reported : (line : Item) → line ≡ item.Line id f.input → asks w f.session line (life_of w f.session) ≡ (does w (command.Eval id)).reported
  eval_reported line is =
      let s = sym (session_is w id f e) in
      let l : line ≡ line_of_field w id = is ∙ sym (line_is w id f e) in
      ap (λ (n : List ℕ). asks w n line (life_of w n)) s ∙ ap (λ (i : Item). asks w (session_of_field w id) i (life_of w (session_of_field w id))) l ∙ sym (asked_reported w (line_of_field w id) (Some (op.Clear id)) (session_of_field w id) (life_of w (session_of_field w id)))

  pub eval_leads : (line : Item) → line ≡ item.Line id f.input → with_op (op.Clear id) (with_item w f.session line (life_of w f.session)) ≡ following w (does w (command.Eval id))
  eval_leads line is =
      let s = sym (session_is w id f e) in
      let l : line ≡ line_of_field w id = is ∙ sym (line_is w id f e) in
      ap (λ (n : List ℕ). with_op (op.Clear id) (with_item w n line (life_of w n))) s ∙ ap (λ (i : Item). with_op (op.Clear id) (with_item w (session_of_field w id) i (life_of w (session_of_field w id)))) l
      ∙ sym (asked_leads w (line_of_field w id) (Some (op.Clear id)) (session_of_field w id) (life_of w (session_of_field w id)))

  pub eval_on_disk : (old new : DiskView) → OnDisk w.ops false (Some (op.Clear id)) old new → OnDisk w.ops (does w (command.Eval id)).again (does w (command.Eval id)).op old new
  eval_on_disk old new disk = asked_on_disk w (line_of_field w id) (Some (op.Clear id)) (session_of_field w id) (life_of w (session_of_field w id)) old new disk

  -- the disk's fault at an Eval, after a preparation that changed nothing
  pub eval_fails : (old mid new : HostView) (r : Result Outcome HostFault) → EngineStandsFor old.store old.lives old.begun w → first_of (eval_refusals w id) ≡ None → SameStore old.store mid.store → mid.lives ≡ old.lives
      → OnErr r (new.store.sheet.contents ≡ mid.store.sheet.contents) → ((other : List ℕ) → OnErr r (number_in new.lives other ≡ number_in mid.lives other))
      → IfErr r (λ fault. (fault ≡ hosts.Disk) × Rises mid.store.disk.faults new.store.disk.faults) → OnDisk w.ops false (Some (op.Clear id)) old.store.disk new.store.disk
      → IfErr r (Failed w (event.Command (command.Eval id)) old new)
  eval_fails old mid new (Ok x) h none same lives contents numbers fault disk = tt
  eval_fails old mid new (Err y) h none same lives contents numbers fault disk = record {
    contents = contents ∙ same.contents ∙ h.contents;
    numbers = λ other. numbers other ∙ ap (λ (l : List Running). number_in l other) lives ∙ numbers_are old.lives w.lives h.lives_are other;
    cause = subst (λ (x : HostFault). CauseOf w (event.Command (command.Eval id)) old.store.disk new.store.disk x) (sym fault.0) (
      subst (λ (d : DiskView). Rises d.faults new.store.disk.faults) same.disk fault.1,
      (
        record { does = does w (command.Eval id); may = eval_done none; writes = asked_writes w (line_of_field w id) (op.Clear id) (session_of_field w id) (life_of w (session_of_field w id)) },
        eval_on_disk old.store.disk new.store.disk disk,
      ),
    );
  }
