-- Which lives go on after an event, and their numbers.
use Rattle.std.proofs.Common.{◌≡◌, ◌⊎◌, inl, inr, ⊎_elim, ◌+◌, ◌<◌, ◌≤◌, ℕ, suc, List, [], ◌∷◌, ◌++◌, length, refl, ap, sym, ◌∙◌, subst, arith, append_assoc, append-nil, Bool, true, false, Option, Some, None}
use Rattle.std.specs.Prelude.{if◌then◌else◌, ◌==◌, ◌&&◌, option_map}
use Rattle.std.specs.Str.{bytes_eq}
use Rattle.std.proofs.lemmas.Bool.Decides.{nat_tests}
use Rattle.worksheet.specs.declared.op.Op.{Op}
use Rattle.worksheet.specs.declared.op.Op.TheVariants as op
use Rattle.plugin_core.specs.declared.item.Item.{Item}
use Rattle.plugin_core.specs.declared.item.Item.TheVariants as item
use Rattle.worksheet.specs.declared.refusal.Refusal.{Refusal}
use Rattle.worksheet.specs.Checks.{first_of}
use Rattle.plugin_core.specs.declared.step.Ended.{Ended}
use Rattle.plugin_core.specs.declared.step.Step.{Step}
use Rattle.block_tree.specs.declared.reason.Reason.{Reason}
use Rattle.block_tree.specs.declared.reason.Reason.TheVariants as reason
use Rattle.plugin_core.specs.Past.{accepted}
use Rattle.plugin_core.specs.Steps.{sent_by, step_of}
use Rattle.host_events.specs.declared.command.Command.{Command}
use Rattle.host_events.specs.declared.command.Command.TheVariants as command
use Rattle.host_events.specs.declared.event.ChildEvent.{ChildEvent}
use Rattle.host_events.specs.declared.event.ChildEvent.TheVariants as child
use Rattle.host_events.specs.declared.event.Event.{Event}
use Rattle.host_events.specs.declared.event.Event.TheVariants as event
use Rattle.host_events.specs.declared.outcome.Effect.TheVariants as effect
use Rattle.host_events.specs.declared.outcome.Outcome.{Outcome}
use Rattle.host_events.specs.declared.reply.Closed.{Closed}
use Rattle.host_events.specs.declared.reply.Reply.{Reply}
use Rattle.host_events.specs.declared.reply.Reply.TheVariants as reply
use Rattle.session_engine.specs.Named.{first_named, without_named, replace_named}
use Rattle.session_engine.specs.World.{World, Going, world_at_opening, life_of, session_of_field, with_number, with_op_if, renewed_if}
use Rattle.session_engine.specs.inside.Words.{line_of_field, request_of_field, begun_with, joined_by, reported_of, with_piece}
use Rattle.session_engine.specs.Refused.{command_refusals}
use Rattle.session_engine.specs.Does.{Does, MayDo, ChildDoes, CommandDoes, Gives, Runs, following, closed_reported, does, ends_life, asks_item, sends_or_kills, steps, tells, reported_with}
use Rattle.host_laws.specs.Apart.{named}
use Rattle.host_laws.specs.Laws.{AreNumbered, NumbersAreGivenOnce, all_started, lives_numbered, numbers_to, started_by}
use Rattle.session_engine.proofs.Tables.{first_has_name}
use Rattle.host_laws.proofs.ApartLives.{same_name}
use Rattle.host_laws.proofs.Totals.{total, total-put, total-out, total-push}

-- What becomes of the lives: all stay as they are; one changes, which keeps its name and its number; one ends; or one begins, of
-- a session that has none, and is started by with the next number.
pub data Becomes (w : World) (d : Does) : Type 0 where
  all_stay : d.lives ≡ w.lives → d.begun ≡ w.begun → started_by d.reported.effect ≡ [] → Becomes w d
  one_changes : (l m : Going) → life_of w l.name ≡ Some l → m.name ≡ l.name → m.number ≡ l.number → d.lives ≡ replace_named (λ g. g.name) l.name m w.lives
      → d.begun ≡ w.begun → started_by d.reported.effect ≡ [] → Becomes w d
  one_ends : (l : Going) → life_of w l.name ≡ Some l → d.lives ≡ without_named (λ g. g.name) l.name w.lives → d.begun ≡ w.begun → started_by d.reported.effect ≡ [] → Becomes w d
  one_begins : (m : Going) → life_of w m.name ≡ None → m.number ≡ w.begun + 1 → d.lives ≡ w.lives ++ m ∷ [] → d.begun ≡ w.begun + 1 → started_by d.reported.effect ≡ (w.begun + 1) ∷ []
      → Becomes w d

pub its_own : (w : World) (name : List ℕ) (l : Going) → life_of w name ≡ Some l → life_of w l.name ≡ Some l
its_own w name l h = subst (λ (n : List ℕ). life_of w n ≡ Some l) (sym (first_has_name (λ (g : Going). g.name) name w.lives l h)) h

pub with_its_number : (number : ℕ) (o : Option Going) (l : Going) → with_number number o ≡ Some l → o ≡ Some l
with_its_number number None l h = cc
with_its_number number (Some m) l h = go (m.number == number) h
  where
    go : (b : Bool) → (if b then Some m else None) ≡ Some l → Some m ≡ Some l
    go true h = h
    go false h = cc

starts_none : (name : List ℕ) (number : ℕ) (send : Option (List ℕ)) (e : Option Ended) → started_by (sends_or_kills name number send e) ≡ []
starts_none name number None None = refl
starts_none name number (Some bytes) None = refl
starts_none name number send (Some e) = refl

reported_none : (name : List ℕ) (number : ℕ) (c : Option Closed) (default send : Option (List ℕ)) (e : Option Ended) → started_by (reported_with name number c default send e).effect ≡ []
reported_none name number None default send None = refl
reported_none name number (Some a) default send e = starts_none name number send e
reported_none name number None default send (Some e) = refl

module _ (w : World) where
  by_row : (d row : Does) → d ≡ row → Becomes w row → Becomes w d
  by_row d row is b = subst (Becomes w) (sym is) b

  tells_so : (r : Reply) → Becomes w (tells w r)
  tells_so r = Becomes.all_stay refl refl refl

  ends_so : (why : Reason) (killed : Bool) (o : Option Going) (r : Reply) → ((l : Going) → o ≡ Some l → life_of w l.name ≡ Some l) → Becomes w (ends_life w why killed o r)
  ends_so why killed None r own = Becomes.all_stay refl refl refl
  ends_so why true (Some l) r own = Becomes.one_ends l (own l refl) refl refl refl
  ends_so why false (Some l) r own = Becomes.one_ends l (own l refl) refl refl refl

  steps_so : (l : Going) (piece : List ℕ) (blocks : List _) (s : Step) → life_of w l.name ≡ Some l → Becomes w (steps w l piece blocks s)
  steps_so l piece blocks s own = go s.ended refl
    where
      none : started_by (reported_of l s).effect ≡ []
      none = reported_none l.name l.number (closed_reported s.answered) s.default_input s.send s.ended

      go : (e : Option Ended) → s.ended ≡ e → Becomes w (steps w l piece blocks s)
      go None is = Becomes.one_changes l (with_piece l piece blocks) own refl refl (rw is refl) refl none
      go (Some e) is = Becomes.one_ends l own (rw is refl) refl none

  asks_so : (i : Item) (given : Option Op) (name : List ℕ) (o : Option Going) → life_of w name ≡ o → Becomes w (asks_item w i given name o)
  asks_so i given name None h = Becomes.one_begins (begun_with w name i) h refl refl refl refl
  asks_so i given name (Some l) h = Becomes.one_changes l (joined_by l i) (its_own w name l h) refl refl refl refl (go (sent_by l.past l.blocks (accepted i) l.blocks))
    where
      go : (bytes : Option (List ℕ)) → started_by (option_map (λ bs. effect.Send name l.number bs) bytes) ≡ []
      go None = refl
      go (Some bs) = refl

  does_so : (c : Command) → Becomes w (does w c)
  does_so (command.Session name tab words) = Becomes.all_stay refl refl refl
  does_so (command.New after session input) = Becomes.all_stay refl refl refl
  does_so (command.Set id input) = Becomes.all_stay refl refl refl
  does_so (command.Remove id) = Becomes.all_stay refl refl refl
  does_so (command.Move id after) = Becomes.all_stay refl refl refl
  does_so (command.Clear id) = Becomes.all_stay refl refl refl
  does_so (command.Eval id) = asks_so (line_of_field w id) (Some (op.Clear id)) (session_of_field w id) (life_of w (session_of_field w id)) refl
  does_so (command.Complete id cursor) = asks_so (request_of_field w id cursor) None (session_of_field w id) (life_of w (session_of_field w id)) refl
  does_so (command.CompleteText id cursor text) = asks_so (item.Complete id text cursor) None (session_of_field w id) (life_of w (session_of_field w id)) refl
  does_so (command.Stop name) = ends_so reason.Stopped true (life_of w name) reply.Done (λ l h. its_own w name l h)
  does_so command.Checkpoint = Becomes.all_stay refl refl refl

  command_so : (c : Command) (r : Option Refusal) (d : Does) → CommandDoes w c r d → Becomes w d
  command_so c (Some r) d is = by_row d (tells w (reply.Refused r)) is (tells_so (reply.Refused r))
  command_so c None d (inl is) = by_row d (does w c) is (does_so c)
  command_so c None d (inr is) = by_row d _ is.1 (tells_so _)

  child_so : (o : Option Going) (e : ChildEvent) (d : Does) → ((l : Going) → o ≡ Some l → life_of w l.name ≡ Some l) → ChildDoes w o e d → Becomes w d
  child_so o child.StartRefused d own is = by_row d _ is (ends_so reason.StartRefused false o reply.Nothing own)
  child_so None (child.Piece piece) d own is = by_row d _ is (tells_so reply.Nothing)
  child_so (Some l) (child.Piece piece) d own is = by_row d _ is.3 (steps_so l piece is.0 (step_of l.past l.blocks piece is.0 is.1) (own l refl))
  child_so o child.End d own is = by_row d _ is (ends_so reason.Ended true o reply.Nothing own)
  child_so o child.ReadFault d own is = by_row d _ is (ends_so reason.ReadFault true o reply.Nothing own)
  child_so o child.SendFault d own is = by_row d _ is (ends_so reason.SendFault true o reply.Nothing own)
  child_so o child.Stalled d own is = by_row d _ is (ends_so reason.Stalled true o reply.Nothing own)
  child_so o child.StopFault d own is = by_row d _ is (tells_so reply.Nothing)

  pub becomes : (e : Event) (d : Does) → MayDo w e d → Becomes w d
  becomes (event.Command c) d may = command_so c (first_of (command_refusals w c)) d may
  becomes (event.Child name number e) d may =
      child_so (with_number number (life_of w name)) e d (λ l h. its_own w name l (with_its_number number (life_of w name) l h)) may

-- the lives and the count of a world after an event are those of the row
after_lives : (w : World) (d : Does) → ((following w d).lives ≡ d.lives) × ((following w d).begun ≡ d.begun)
after_lives w d = go d.again d.op
  where
    left : Bool → Option Op → World
    left b o = renewed_if b (with_op_if o (record w { begun = d.begun; lives = d.lives }))

    go : (b : Bool) (o : Option Op) → ((left b o).lives ≡ d.lives) × ((left b o).begun ≡ d.begun)
    go false None = (refl, refl)
    go false (Some o) = (refl, refl)
    go true None = (refl, refl)
    go true (Some o) = (refl, refl)

-- What is counted of the lives.

abbrev pub is_named : List ℕ → Going → ℕ
is_named name l = if bytes_eq l.name name then 1 else 0

abbrev pub is_numbered : ℕ → Going → ℕ
is_numbered number l = if l.number == number then 1 else 0

abbrev pub is_both : List ℕ → ℕ → Going → ℕ
is_both name number l = if bytes_eq l.name name && l.number == number then 1 else 0

-- a sum of what only names and numbers decide
abbrev pub ByIdentity : (Going → ℕ) → Type 0
ByIdentity f = (l m : Going) → m.name ≡ l.name → m.number ≡ l.number → f m ≡ f l

-- it grows where a life begins alone
pub record Counts (f : Going → ℕ) (w v : World) : Type 0 where
  pub bound : w.begun ≤ v.begun
  pub sum : (total f v.lives ≤ total f w.lives)
      ⊎ ((m : Going) × (life_of w m.name ≡ None) × (m.number ≡ w.begun + 1) × (v.begun ≡ w.begun + 1) × (total f v.lives ≡ total f w.lives + f m))

counts_row : (f : Going → ℕ) → ByIdentity f → (w : World) (d : Does) → Becomes w d
    → (w.begun ≤ d.begun) × ((total f d.lives ≤ total f w.lives)
    ⊎ ((m : Going) × (life_of w m.name ≡ None) × (m.number ≡ w.begun + 1) × (d.begun ≡ w.begun + 1) × (total f d.lives ≡ total f w.lives + f m)))
counts_row f by w d (Becomes.all_stay lives begun none) = (omega (arith, begun), inl (let e = ap (total f) lives in omega (arith, e)))
counts_row f by w d (Becomes.one_changes l m own name number lives begun none) =
    let e = ap (total f) lives in
    let t = total-put f l.name l m w.lives own in
    let s = by l m name number in
    (omega (arith, begun), inl (omega (arith, e, t, s)))
counts_row f by w d (Becomes.one_ends l own lives begun none) =
    let e = ap (total f) lives in
    let t = total-out f l.name l w.lives own in
    (omega (arith, begun), inl (omega (arith, e, t)))
counts_row f by w d (Becomes.one_begins m free number lives begun some) = (omega (arith, begun), inr (m, free, number, begun, ap (total f) lives ∙ total-push f w.lives m))

pub counts : (f : Going → ℕ) → ByIdentity f → (w : World) (e : Event) (o : Outcome) (v : World) → Gives w e o v → Counts f w v
counts f by w e o v g = record {
  bound = let h = row.0 in omega (arith, h, begun);
  sum = ⊎_elim
      (λ le. inl (omega (arith, le, lives)))
      (λ new. inr (new.0, new.1, new.2, begun ∙ new.3, lives ∙ new.4))
      row.1;
}
  where
    row : (w.begun ≤ g.0.begun) × ((total f g.0.lives ≤ total f w.lives)
        ⊎ ((m : Going) × (life_of w m.name ≡ None) × (m.number ≡ w.begun + 1) × (g.0.begun ≡ w.begun + 1) × (total f g.0.lives ≡ total f w.lives + f m)))
    row = counts_row f by w g.0 (becomes w e g.0 g.1)

    lives : total f v.lives ≡ total f g.0.lives
    lives = ap (λ (u : World). total f u.lives) g.3 ∙ ap (total f) (after_lives w g.0).0

    begun : v.begun ≡ g.0.begun
    begun = ap (λ (u : World). u.begun) g.3 ∙ (after_lives w g.0).1

named_by : (name : List ℕ) → ByIdentity (is_named name)
named_by name l m s t = ap (λ (n : List ℕ). if bytes_eq n name then 1 else 0) s

numbered_by : (number : ℕ) → ByIdentity (is_numbered number)
numbered_by number l m s t = ap (λ (n : ℕ). if n == number then 1 else 0) t

pub both_by : (name : List ℕ) (number : ℕ) → ByIdentity (is_both name number)
both_by name number l m s t =
    ap (λ (n : List ℕ). if bytes_eq n name && m.number == number then 1 else 0) s
    ∙ ap (λ (n : ℕ). if bytes_eq l.name name && n == number then 1 else 0) t

-- where no life of a session goes on, none is counted
pub none_named : (name : List ℕ) (ls : List Going) → first_named (λ g. g.name) name ls ≡ None → total (is_named name) ls ≡ 0
none_named name [] h = refl
none_named name (l ∷ ls) h = go (bytes_eq l.name name) h (none_named name ls)
  where
    go : (b : Bool) → (if b then Some l else first_named (λ g. g.name) name ls) ≡ None → (first_named (λ g. g.name) name ls ≡ None → total (is_named name) ls ≡ 0)
        → (if b then 1 else 0) + total (is_named name) ls ≡ 0
    go true h rest = cc
    go false h rest = let more = rest h in omega (arith, more)

-- Everywhere at most one life of a session goes on, at most one has a number, and none has a number that wasn't given.
pub record Numbered (w : World) : Type 0 where
  pub names : (name : List ℕ) → total (is_named name) w.lives ≤ 1
  pub numbers : (number : ℕ) → total (is_numbered number) w.lives ≤ 1
  pub given : (number : ℕ) → w.begun < number → total (is_numbered number) w.lives ≡ 0
  pub not_zero : total (is_numbered 0) w.lives ≡ 0

one_named : (name : List ℕ) (w : World) (m : Going) → life_of w m.name ≡ None → total (is_named name) w.lives ≤ 1 → total (is_named name) w.lives + is_named name m ≤ 1
one_named name w m free le = go (bytes_eq m.name name) refl
  where
    go : (b : Bool) → bytes_eq m.name name ≡ b → total (is_named name) w.lives + (if b then 1 else 0) ≤ 1
    go true e =
        let nil = none_named name w.lives (subst (λ (n : List ℕ). life_of w n ≡ None) (same_name m.name name e) free) in
        omega (arith, nil)
    go false e = omega (arith, le)

one_number : (number : ℕ) (w : World) (m : Going) → m.number ≡ w.begun + 1 → Numbered w → total (is_numbered number) w.lives + is_numbered number m ≤ 1
one_number number w m new h = go (m.number == number) refl
  where
    go : (b : Bool) → (m.number == number) ≡ b → total (is_numbered number) w.lives + (if b then 1 else 0) ≤ 1
    go true e =
        let same : m.number ≡ number = grind (arith, nat_tests, e) in
        let nil = h.given number (omega (arith, new, same)) in
        omega (arith, nil)
    go false e = let le = h.numbers number in omega (arith, le)

none_yet : (number : ℕ) (w : World) (m : Going) → m.number ≡ w.begun + 1 → w.begun + 1 < number → Numbered w → total (is_numbered number) w.lives + is_numbered number m ≡ 0
none_yet number w m new lt h = go (m.number == number) refl
  where
    go : (b : Bool) → (m.number == number) ≡ b → total (is_numbered number) w.lives + (if b then 1 else 0) ≡ 0
    go true e = let same : m.number ≡ number = grind (arith, nat_tests, e) in absurd (omega (arith, new, same, lt))
    go false e = let nil = h.given number (omega (arith, lt)) in omega (arith, nil)

no_zero : (w : World) (m : Going) → m.number ≡ w.begun + 1 → is_numbered 0 m ≡ 0
no_zero w m new = let e : (m.number == 0) ≡ false = grind (arith, nat_tests, new) in rw e refl

numbered_step : (w : World) (e : Event) (o : Outcome) (v : World) → Numbered w → Gives w e o v → Numbered v
numbered_step w e o v h g = record {
  names = λ name.
      let c = counts (is_named name) (named_by name) w e o v g in
      let le = h.names name in
      ⊎_elim (λ less. omega (arith, le, less)) (λ new. let one = one_named name w new.0 new.1 le in let eq = new.4 in omega (arith, one, eq)) c.sum;
  numbers = λ number.
      let c = counts (is_numbered number) (numbered_by number) w e o v g in
      let le = h.numbers number in
      ⊎_elim (λ less. omega (arith, le, less)) (λ new. let one = one_number number w new.0 new.2 h in let eq = new.4 in omega (arith, one, eq)) c.sum;
  given = λ number lt.
      let c = counts (is_numbered number) (numbered_by number) w e o v g in
      let bound = c.bound in
      let nil = h.given number (omega (arith, bound, lt)) in
      ⊎_elim (λ less. omega (arith, nil, less))
      (λ new. let none = none_yet number w new.0 new.2 (let more = new.3 in omega (arith, more, lt)) h in let eq = new.4 in omega (arith, none, eq)) c.sum;
  not_zero =
      let c = counts (is_numbered 0) (numbered_by 0) w e o v g in
      let nil = h.not_zero in
      ⊎_elim (λ less. omega (arith, nil, less)) (λ new. let none = no_zero w new.0 new.2 in let eq = new.4 in omega (arith, nil, none, eq)) c.sum;
}

pub numbered_run : (w : World) (es : List Event) (os : List Outcome) (v : World) → Numbered w → Runs w es os v → Numbered v
numbered_run w [] [] v h run = subst Numbered (sym run) h
numbered_run w [] (o ∷ os) v h run = absurd run
numbered_run w (e ∷ es) [] v h run = absurd run
numbered_run w (e ∷ es) (o ∷ os) v h run = numbered_run run.0 es os v (numbered_step w e o run.0 h run.1) run.2

pub numbered_first : (ops : List Op) (room end : ℕ) → Numbered (world_at_opening ops room end)
numbered_first ops room end = record { names = λ name. omega arith; numbers = λ number. omega arith; given = λ number lt. refl; not_zero = refl }

-- The same in the words of the law.

named_are : (name : List ℕ) (ls : List Going) → length (named name ls) ≡ total (is_named name) ls
named_are name [] = refl
named_are name (l ∷ ls) = go (bytes_eq l.name name) (named_are name ls)
  where
    go : (b : Bool) → length (named name ls) ≡ total (is_named name) ls → length (if b then l ∷ named name ls else named name ls) ≡ (if b then 1 else 0) + total (is_named name) ls
    go true rest = omega (arith, rest)
    go false rest = omega (arith, rest)

numbered_are : (number : ℕ) (ls : List Going) → length (lives_numbered number ls) ≡ total (is_numbered number) ls
numbered_are number [] = refl
numbered_are number (l ∷ ls) = go (l.number == number) (numbered_are number ls)
  where
    go : (b : Bool) → length (lives_numbered number ls) ≡ total (is_numbered number) ls → length (if b then l ∷ lives_numbered number ls else lives_numbered number ls) ≡ (if b then 1 else 0) + total (is_numbered number) ls
    go true rest = omega (arith, rest)
    go false rest = omega (arith, rest)

empty : (ls : List Going) → length ls ≡ 0 → ls ≡ []
empty [] h = refl
empty (l ∷ ls) h = absurd (omega (arith, h))

are_numbered : (w : World) → Numbered w → AreNumbered w
are_numbered w h = record {
  names = λ name. let a = h.names name in let e = named_are name w.lives in omega (arith, a, e);
  numbers = λ number. let a = h.numbers number in let e = numbered_are number w.lives in omega (arith, a, e);
  given = λ number not_given. empty (lives_numbered number w.lives) (numbered_are number w.lives ∙ ⊎_elim (λ is. ap (λ (n : ℕ). total (is_numbered n) w.lives) is ∙ h.not_zero) (h.given number) not_given);
}

-- Starts get one number after another.

starts_row : (w : World) (d : Does) → Becomes w d → numbers_to w.begun ++ started_by d.reported.effect ≡ numbers_to d.begun
starts_row w d (Becomes.all_stay lives begun none) = ap (λ (ns : List ℕ). numbers_to w.begun ++ ns) none ∙ append-nil (numbers_to w.begun) ∙ ap numbers_to (sym begun)
starts_row w d (Becomes.one_changes l m own name number lives begun none) = ap (λ (ns : List ℕ). numbers_to w.begun ++ ns) none ∙ append-nil (numbers_to w.begun) ∙ ap numbers_to (sym begun)
starts_row w d (Becomes.one_ends l own lives begun none) = ap (λ (ns : List ℕ). numbers_to w.begun ++ ns) none ∙ append-nil (numbers_to w.begun) ∙ ap numbers_to (sym begun)
starts_row w d (Becomes.one_begins m free number lives begun some) = ap (λ (ns : List ℕ). numbers_to w.begun ++ ns) some ∙ next w.begun ∙ ap numbers_to (sym begun)
  where
    next : (n : ℕ) → numbers_to n ++ (n + 1) ∷ [] ≡ numbers_to (n + 1)
    next n = let e : n + 1 ≡ suc n = omega arith in rw e refl

starts_step : (w : World) (e : Event) (o : Outcome) (v : World) → Gives w e o v → numbers_to w.begun ++ started_by o.effect ≡ numbers_to v.begun
starts_step w e o v g =
    ap (λ (p : Outcome). numbers_to w.begun ++ started_by p.effect) g.2
    ∙ starts_row w g.0 (becomes w e g.0 g.1)
    ∙ ap numbers_to (sym (ap (λ (u : World). u.begun) g.3 ∙ (after_lives w g.0).1))

starts_run : (w : World) (es : List Event) (os : List Outcome) (v : World) → Runs w es os v → numbers_to w.begun ++ all_started os ≡ numbers_to v.begun
starts_run w [] [] v run = append-nil (numbers_to w.begun) ∙ ap (λ (u : World). numbers_to u.begun) (sym run)
starts_run w [] (o ∷ os) v run = absurd run
starts_run w (e ∷ es) [] v run = absurd run
starts_run w (e ∷ es) (o ∷ os) v run =
    sym (append_assoc (numbers_to w.begun) (started_by o.effect) (all_started os))
    ∙ ap (λ (ns : List ℕ). ns ++ all_started os) (starts_step w e o run.0 run.1)
    ∙ starts_run run.0 es os v run.2

pub numbers_are_given_once : NumbersAreGivenOnce
numbers_are_given_once ops room end es os v run = (
  starts_run (world_at_opening ops room end) es os v run,
  are_numbered v (numbered_run (world_at_opening ops room end) es os v (numbered_first ops room end) run),
)
