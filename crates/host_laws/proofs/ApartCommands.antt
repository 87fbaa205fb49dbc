-- One command in two worlds that are alike for a session.
use Rattle.std.proofs.Common.{◌≡◌, ⊎_elim, ◌+◌, ℕ, List, [], ◌∷◌, ◌++◌, length, drop, refl, ap, sym, ◌∙◌, subst, Bool, true, false, Option, Some, None}
use Rattle.std.specs.Str.{bytes_eq}
use Rattle.std.proofs.lemmas.List.{append-nil}
use Rattle.block_tree.specs.declared.reason.Reason.TheVariants as reason
use Rattle.worksheet.specs.declared.op.Op.{Op}
use Rattle.worksheet.specs.declared.op.Op.TheVariants as op
use Rattle.worksheet.specs.declared.refusal.Refusal.{Refusal}
use Rattle.worksheet.specs.declared.refusal.Refusal.TheVariants as refusal
use Rattle.worksheet.specs.declared.field.Session.{Session}
use Rattle.worksheet.specs.Checks.{first_of, session_named}
use Rattle.worksheet.specs.Ops.{sessions_of, next_of}
use Rattle.plugin_core.specs.declared.item.Item.{Item}
use Rattle.plugin_core.specs.declared.item.Item.TheVariants as item
use Rattle.host_events.specs.declared.command.Command.{Command}
use Rattle.host_events.specs.declared.command.Command.TheVariants as command
use Rattle.host_events.specs.declared.event.Event.{Event}
use Rattle.host_events.specs.declared.event.Event.TheVariants as event
use Rattle.host_events.specs.declared.outcome.Outcome.{Outcome}
use Rattle.host_events.specs.declared.outcome.Effect.TheVariants as effect
use Rattle.host_events.specs.declared.reply.Reply.TheVariants as reply
use Rattle.session_engine.specs.Named.{without_named, replace_named}
use Rattle.session_engine.specs.World.{World, Going, kept_at_end, life_of, with_op_if, session_of_field}
use Rattle.session_engine.specs.inside.Words.{with_op, line_of_field, request_of_field, joined_by, begun_with, starting_words}
use Rattle.session_engine.specs.Does.{replies, refused}
use Rattle.host_laws.specs.inside.Given.{Commanded, stops, outcome_of, after, GivesByParts}
use Rattle.session_engine.specs.inside.Parts.{without_life, with_item, asks}
use Rattle.session_engine.specs.Refused.{command_refusals}
use Rattle.host_laws.specs.Apart.{AreAlike, named, commanded, concerns, begins, number_if, is_refusal_reply, added, but_reasons}
use Rattle.host_laws.proofs.ApartLives.{same_name, is_itself, replaced_other, without_other, named-push, first_has}
use Rattle.session_engine.proofs.Losing.{if_stopped, op_if_lives}
use Rattle.host_laws.proofs.ApartOps.{commanded-push, next_alike, sessions_alike, session_of_alike, input_of_alike}
use Rattle.host_laws.proofs.ApartSteps.{alike_back, alike_on, life_alike, push_alike, own_gone, own_put, none_reported, reason_reported, nothing_added, one_added}

-- An accepted command leads to worlds that are alike, and says the same where it concerns the session.
pub record Same (n : List ℕ) (w x : World) (e : Event) (o p : Outcome) (v u : World) : Type 0 where
  pub alike : AreAlike n v u
  pub about : concerns n w e ≡ concerns n x e
  pub says : concerns n w e ≡ true → o ≡ p
  pub adds : added w v ≡ added x u

with_one : (n : List ℕ) (w x : World) (e : Event) (o p : Outcome) (a : Op) → AreAlike n w x → concerns n w e ≡ concerns n x e → o ≡ p → Same n w x e o p (with_op a w) (with_op a x)
with_one n w x e o p a h about says = record { alike = push_alike n w x a h; about = about; says = λ t. says; adds = one_added w x a }

-- An item.

item_ops : (m : List ℕ) (i : Item) (k : Option Going) (w : World) → (with_item w m i k).ops ≡ w.ops
item_ops m i None w = refl
item_ops m i (Some l) w = refl

item_other : (n m : List ℕ) (i : Item) (k : Option Going) (w : World) → ((l : Going) → k ≡ Some l → l.name ≡ m) → bytes_eq m n ≡ false → AreAlike n w (with_item w m i k)
item_other n m i None w s h = record { ops = refl; lives = sym (named-push n w.lives (begun_with w m i) ∙ rw h (append-nil (named n w.lives))) }
item_other n m i (Some l) w s h = record { ops = refl; lives = sym (replaced_other n (joined_by l i) w.lives (ap (λ (j : List ℕ). bytes_eq j n) (s l refl) ∙ h)) }

item_own : (n : List ℕ) (i : Item) (k : Option Going) (w x : World) → ((l : Going) → k ≡ Some l → l.name ≡ n) → AreAlike n w x → number_if true k (w.begun + 1) ≡ number_if true k (x.begun + 1)
    → AreAlike n (with_item w n i k) (with_item x n i k) × (asks w n i k ≡ asks x n i k)
item_own n i None w x s a e =
    let k : w.begun + 1 ≡ x.begun + 1 = cc in
    let t : sessions_of w.ops ≡ sessions_of x.ops = sessions_alike w.ops x.ops a.ops in (
      record { ops = a.ops; lives = named-push n w.lives (begun_with w n i) ∙ rw (a.lives, k) refl ∙ sym (named-push n x.lives (begun_with x n i)) },
      ap (λ (j : ℕ). record { reply = reply.Asked j; effect = Some (effect.Start n j (starting_words (session_named (sessions_of w.ops) n))) }) k
          ∙ ap (λ (ss : List Session). record { reply = reply.Asked (x.begun + 1); effect = Some (effect.Start n (x.begun + 1) (starting_words (session_named ss n))) }) t,
    )
item_own n i (Some l) w x s a e = (
  record {
    ops = a.ops;
    lives = ap (λ (m : List ℕ). named n (replace_named (λ l. l.name) m (joined_by l i) w.lives)) (s l refl)
        ∙ own_put n (joined_by l i) w x (ap (λ (m : List ℕ). bytes_eq m n) (s l refl) ∙ is_itself n) a
        ∙ sym (ap (λ (m : List ℕ). named n (replace_named (λ l. l.name) m (joined_by l i) x.lives)) (s l refl));
  },
  refl,
)

-- an item of a field of the session with this name
abbrev itemed : World → List ℕ → Item → World
itemed w m i = with_item w m i (life_of w m)

abbrev asking : World → List ℕ → Item → Outcome
asking w m i = asks w m i (life_of w m)

items_alike : (n m : List ℕ) (i : Item) (w x : World) → AreAlike n w x
    → number_if (bytes_eq m n) (life_of w n) (w.begun + 1) ≡ number_if (bytes_eq m n) (life_of x n) (x.begun + 1)
    → AreAlike n (itemed w m i) (itemed x m i) × (bytes_eq m n ≡ true → asking w m i ≡ asking x m i)
items_alike n m i w x a e = go (bytes_eq m n) refl e
  where
    go : (b : Bool) → bytes_eq m n ≡ b → number_if b (life_of w n) (w.begun + 1) ≡ number_if b (life_of x n) (x.begun + 1)
        → AreAlike n (itemed w m i) (itemed x m i) × (bytes_eq m n ≡ true → asking w m i ≡ asking x m i)
    go true h k =
        let s : n ≡ m = sym (same_name m n h) in
        let l : life_of w n ≡ life_of x n = life_alike n w x a in
        let q = item_own n i (life_of w n) w x (λ g t. first_has n w.lives g t) a (k ∙ ap (λ (g : Option Going). number_if true g (x.begun + 1)) (sym l)) in
        let r : AreAlike n (itemed w n i) (itemed x n i) × (asking w n i ≡ asking x n i) =
        subst (λ (g : Option Going). AreAlike n (itemed w n i) (with_item x n i g) × (asking w n i ≡ asks x n i g)) l q in
        subst (λ (j : List ℕ). AreAlike n (itemed w j i) (itemed x j i) × (bytes_eq m n ≡ true → asking w j i ≡ asking x j i)) s (r.0, λ t. r.1)
    go false h k = (
      alike_on n (itemed w m i) w (itemed x m i) (alike_back n w (itemed w m i) (item_other n m i (life_of w m) w (λ l t. first_has m w.lives l t) h))
          (alike_on n w x (itemed x m i) a (item_other n m i (life_of x m) x (λ l t. first_has m x.lives l t) h)),
      λ t. cc,
    )

-- and of one that is the same in both
record AskAlike (n : List ℕ) (w x : World) (m j : List ℕ) (i k : Item) : Type 0 where
  alike : AreAlike n (itemed w m i) (itemed x j k)
  about : bytes_eq m n ≡ bytes_eq j n
  says : bytes_eq m n ≡ true → asking w m i ≡ asking x j k

asks_alike : (n : List ℕ) (w x : World) (m j : List ℕ) (i k : Item) → AreAlike n w x → m ≡ j → i ≡ k
    → number_if (bytes_eq m n) (life_of w n) (w.begun + 1) ≡ number_if (bytes_eq j n) (life_of x n) (x.begun + 1) → AskAlike n w x m j i k
asks_alike n w x m j i k a s t e =
    let g = items_alike n m i w x a (e ∙ ap (λ (p : List ℕ). number_if (bytes_eq p n) (life_of x n) (x.begun + 1)) (sym s)) in
    subst (λ (p : List ℕ). AskAlike n w x m p i k) s
    (subst (λ (q : Item). AskAlike n w x m m i q) t (record { alike = g.0; about = refl; says = g.1 }))

eval_adds : (id : ℕ) (m j : List ℕ) (i k : Item) (w x : World) → added w (with_op (op.Clear id) (itemed w m i)) ≡ added x (with_op (op.Clear id) (itemed x j k))
eval_adds id m j i k w x = ap (λ (os : List Op). but_reasons (drop (length w.ops) (os ++ op.Clear id ∷ []))) (item_ops m i (life_of w m) w) ∙ one_added w x (op.Clear id)
    ∙ sym (ap (λ (os : List Op). but_reasons (drop (length x.ops) (os ++ op.Clear id ∷ []))) (item_ops j k (life_of x j) x))

-- A Stop.

-- where a Stop leads
abbrev halted : List ℕ → World → World
halted m w = with_op_if (kept_at_end w reason.Stopped (life_of w m)) (without_life m w)

-- a Stop gives no op that was commanded, and tells of none
record Halts (m : List ℕ) (w : World) : Type 0 where
  ops : commanded (halted m w).ops ≡ commanded w.ops
  lives : (halted m w).lives ≡ without_named (λ l. l.name) m w.lives
  adds : added w (halted m w) ≡ []

halts : (m : List ℕ) (w : World) → Halts m w
halts m w = record {
  ops = if_stopped (λ p. commanded (with_op_if p (without_life m w)).ops ≡ commanded w.ops) w reason.Stopped (life_of w m) refl (λ l id e f. commanded-push w.ops (op.Lost id reason.Stopped) ∙ append-nil (commanded w.ops));
  lives = op_if_lives (kept_at_end w reason.Stopped (life_of w m)) (without_life m w);
  adds = if_stopped (λ p. added w (with_op_if p (without_life m w)) ≡ []) w reason.Stopped (life_of w m) (none_reported w (without_life m w) refl) (λ l id e f. reason_reported w (without_life m w) id reason.Stopped refl);
}

stopped : (n m : List ℕ) (w x : World) → AreAlike n w x → Same n w x (event.Command (command.Stop m)) (stops (life_of w m)) (stops (life_of x m)) (halted m w) (halted m x)
stopped n m w x a = go (bytes_eq m n) refl
  where
    here : Halts m w
    here = halts m w

    there : Halts m x
    there = halts m x

    alike : named n (without_named (λ l. l.name) m w.lives) ≡ named n (without_named (λ l. l.name) m x.lives) → AreAlike n (halted m w) (halted m x)
    alike same = record { ops = here.ops ∙ a.ops ∙ sym there.ops; lives = ap (named n) here.lives ∙ same ∙ sym (ap (named n) there.lives) }

    go : (b : Bool) → bytes_eq m n ≡ b → Same n w x (event.Command (command.Stop m)) (stops (life_of w m)) (stops (life_of x m)) (halted m w) (halted m x)
    go true h =
        let s : n ≡ m = sym (same_name m n h) in
        record {
          alike = alike (subst (λ (j : List ℕ). named n (without_named (λ l. l.name) j w.lives) ≡ named n (without_named (λ l. l.name) j x.lives)) s (own_gone n w x a));
          about = refl;
          says = λ t. ap stops (subst (λ (j : List ℕ). life_of w j ≡ life_of x j) s (life_alike n w x a));
          adds = here.adds ∙ sym there.adds;
        }
    go false h = record {
      alike = alike (without_other n m w.lives h ∙ a.lives ∙ sym (without_other n m x.lives h));
      about = refl;
      says = λ t. cc;
      adds = here.adds ∙ sym there.adds;
    }

-- requests for a field that are the same in both
record RequestAlike (n : List ℕ) (w x : World) (id : ℕ) (i k : Item) : Type 0 where
  alike : AreAlike n (itemed w (session_of_field w id) i) (itemed x (session_of_field x id) k)
  about : bytes_eq (session_of_field w id) n ≡ bytes_eq (session_of_field x id) n
  says : bytes_eq (session_of_field w id) n ≡ true → asking w (session_of_field w id) i ≡ asking x (session_of_field x id) k
  adds : added w (itemed w (session_of_field w id) i) ≡ added x (itemed x (session_of_field x id) k)

requests_alike : (n : List ℕ) (w x : World) (id : ℕ) (i k : Item) → AreAlike n w x → i ≡ k
    → number_if (bytes_eq (session_of_field w id) n) (life_of w n) (w.begun + 1) ≡ number_if (bytes_eq (session_of_field x id) n) (life_of x n) (x.begun + 1) → RequestAlike n w x id i k
requests_alike n w x id i k a t e =
    let m = session_of_field w id in
    let j = session_of_field x id in
    let g = asks_alike n w x m j i k a (session_of_alike w x id a.ops) t e in
    record {
      alike = g.alike;
      about = g.about;
      says = g.says;
      adds = nothing_added w x (itemed w m i).ops (itemed x j k).ops (item_ops m i (life_of w m) w) (item_ops j k (life_of x j) x);
    }

accepted_same : (n : List ℕ) (w x : World) (c : Command) → AreAlike n w x → begins n w (event.Command c) ≡ begins n x (event.Command c)
    → Same n w x (event.Command c) (outcome_of w c) (outcome_of x c) (after w c) (after x c)
accepted_same n w x (command.Session name tab words) a e = with_one n w x (event.Command (command.Session name tab words)) (replies reply.Done) (replies reply.Done) (op.Session name tab words) a refl refl
accepted_same n w x (command.New place session input) a e =
    with_one n w x (event.Command (command.New place session input)) (replies (reply.Field (next_of w.ops))) (replies (reply.Field (next_of x.ops))) (op.New place session input) a refl
    (ap (λ (j : ℕ). replies (reply.Field j)) (next_alike w.ops x.ops a.ops))
accepted_same n w x (command.Set id input) a e = with_one n w x (event.Command (command.Set id input)) (replies reply.Done) (replies reply.Done) (op.Set id input) a refl refl
accepted_same n w x (command.Remove id) a e = with_one n w x (event.Command (command.Remove id)) (replies reply.Done) (replies reply.Done) (op.Remove id) a refl refl
accepted_same n w x (command.Move id place) a e = with_one n w x (event.Command (command.Move id place)) (replies reply.Done) (replies reply.Done) (op.Move id place) a refl refl
accepted_same n w x (command.Clear id) a e = with_one n w x (event.Command (command.Clear id)) (replies reply.Done) (replies reply.Done) (op.Clear id) a refl refl
accepted_same n w x (command.Stop m) a e = stopped n m w x a
accepted_same n w x command.Checkpoint a e = record { alike = record { ops = a.ops; lives = a.lives }; about = refl; says = λ t. refl; adds = nothing_added w x w.ops x.ops refl refl }
accepted_same n w x (command.Eval id) a e =
    let s : session_of_field w id ≡ session_of_field x id = session_of_alike w x id a.ops in
    let t : line_of_field w id ≡ line_of_field x id = ap (λ (text : List ℕ). item.Line id text) (input_of_alike w x id a.ops) in
    let g = asks_alike n w x (session_of_field w id) (session_of_field x id) (line_of_field w id) (line_of_field x id) a s t e in
    record {
      alike = push_alike n (itemed w (session_of_field w id) (line_of_field w id)) (itemed x (session_of_field x id) (line_of_field x id)) (op.Clear id) g.alike;
      about = g.about;
      says = g.says;
      adds = eval_adds id (session_of_field w id) (session_of_field x id) (line_of_field w id) (line_of_field x id) w x;
    }
accepted_same n w x (command.Complete id cursor) a e =
    let t : request_of_field w id cursor ≡ request_of_field x id cursor = ap (λ (text : List ℕ). item.Complete id text cursor) (input_of_alike w x id a.ops) in
    let g = requests_alike n w x id (request_of_field w id cursor) (request_of_field x id cursor) a t e in
    record { alike = g.alike; about = g.about; says = g.says; adds = g.adds }
accepted_same n w x (command.CompleteText id cursor text) a e =
    let g = requests_alike n w x id (item.Complete id text cursor) (item.Complete id text cursor) a refl e in
    record { alike = g.alike; about = g.about; says = g.says; adds = g.adds }

-- what isn't refused is accepted
passed : (w : World) (c : Command) (o : Outcome) (v : World) → GivesByParts w (event.Command c) o v → is_refusal_reply o.reply ≡ false → (o ≡ outcome_of w c) × (v ≡ after w c)
passed w c o v g h = go (first_of (command_refusals w c)) g
  where
    never : (r : Refusal) → o ≡ refused r → (o ≡ outcome_of w c) × (v ≡ after w c)
    never r e = let bad : true ≡ false = sym (ap (λ (q : Outcome). is_refusal_reply q.reply) e) ∙ h in absurd (let f : true ≡ false = bad in cc)

    go : (r : Option Refusal) → Commanded w c r o v → (o ≡ outcome_of w c) × (v ≡ after w c)
    go (Some r) g = never r g.0
    go None g = ⊎_elim (λ done. done) (λ spent. never refusal.OutOfMemory spent.1) g

pub command_same : (n : List ℕ) (w x : World) (c : Command) (o p : Outcome) (v u : World) → AreAlike n w x → GivesByParts w (event.Command c) o v → GivesByParts x (event.Command c) p u
    → is_refusal_reply o.reply ≡ false → is_refusal_reply p.reply ≡ false → begins n w (event.Command c) ≡ begins n x (event.Command c) → Same n w x (event.Command c) o p v u
command_same n w x c o p v u a g h q r e =
    let here = passed w c o v g q in
    let there = passed x c p u h r in
    let s = accepted_same n w x c a e in
    record {
      alike = record {
        ops = ap (λ (z : World). commanded z.ops) here.1 ∙ s.alike.ops ∙ sym (ap (λ (z : World). commanded z.ops) there.1);
        lives = ap (λ (z : World). named n z.lives) here.1 ∙ s.alike.lives ∙ sym (ap (λ (z : World). named n z.lives) there.1);
      };
      about = s.about;
      says = λ t. here.0 ∙ s.says t ∙ sym there.0;
      adds = ap (λ (z : World). added w z) here.1 ∙ s.adds ∙ sym (ap (λ (z : World). added x z) there.1);
    }

-- the number that an item of a field begins with
abbrev item_begins : List ℕ → World → ℕ → List ℕ
item_begins n w id = number_if (bytes_eq (session_of_field w id) n) (life_of w n) (w.begun + 1)

item_begins_alike : (n : List ℕ) (w x : World) (id : ℕ) → AreAlike n w x → (is js : List ℕ) → item_begins n w id ++ is ≡ item_begins n x id ++ js → (item_begins n w id ≡ item_begins n x id) × (is ≡ js)
item_begins_alike n w x id a is js h =
    let s : session_of_field w id ≡ session_of_field x id = session_of_alike w x id a.ops in
    let k : number_if (bytes_eq (session_of_field w id) n) (life_of w n) (x.begun + 1) ≡ number_if (bytes_eq (session_of_field x id) n) (life_of x n) (x.begun + 1) =
    ap (λ (m : List ℕ). number_if (bytes_eq m n) (life_of w n) (x.begun + 1)) s ∙ ap (λ (l : Option Going). number_if (bytes_eq (session_of_field x id) n) l (x.begun + 1)) (life_alike n w x a) in
    let g = go (bytes_eq (session_of_field w id) n) (life_of w n) (h ∙ ap (λ (ks : List ℕ). ks ++ js) (sym k)) in
    (g.0 ∙ k, g.1)
  where
    go : (b : Bool) (l : Option Going) → number_if b l (w.begun + 1) ++ is ≡ number_if b l (x.begun + 1) ++ js → (number_if b l (w.begun + 1) ≡ number_if b l (x.begun + 1)) × (is ≡ js)
    go true None h = let k : w.begun + 1 ≡ x.begun + 1 = cc in (ap (λ (j : ℕ). j ∷ []) k, cc)
    go true (Some l) h = (refl, h)
    go false l h = (refl, h)

-- the numbers that both begin with
pub begins_alike : (n : List ℕ) (w x : World) (e : Event) → AreAlike n w x → (is js : List ℕ) → begins n w e ++ is ≡ begins n x e ++ js → (begins n w e ≡ begins n x e) × (is ≡ js)
begins_alike n w x (event.Command (command.Eval id)) a is js h = item_begins_alike n w x id a is js h
begins_alike n w x (event.Command (command.Complete id cursor)) a is js h = item_begins_alike n w x id a is js h
begins_alike n w x (event.Command (command.CompleteText id cursor text)) a is js h = item_begins_alike n w x id a is js h
begins_alike n w x (event.Command (command.Session name tab words)) a is js h = (refl, h)
begins_alike n w x (event.Command (command.New place session input)) a is js h = (refl, h)
begins_alike n w x (event.Command (command.Set id input)) a is js h = (refl, h)
begins_alike n w x (event.Command (command.Remove id)) a is js h = (refl, h)
begins_alike n w x (event.Command (command.Move id place)) a is js h = (refl, h)
begins_alike n w x (event.Command (command.Clear id)) a is js h = (refl, h)
begins_alike n w x (event.Command (command.Stop name)) a is js h = (refl, h)
begins_alike n w x (event.Command command.Checkpoint) a is js h = (refl, h)
begins_alike n w x (event.Child name number c) a is js h = (refl, h)
