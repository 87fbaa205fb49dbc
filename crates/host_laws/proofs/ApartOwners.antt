-- Lines that wait are those of their own session's fields.
use Rattle.std.proofs.Common.{◌≡◌, ⊎_elim, ◌<◌, ℕ, zero, suc, List, [], ◌∷◌, ◌++◌, length, refl, ap, sym, ◌∙◌, subst, Bool, true, false, Option, Some, None}
use Rattle.std.specs.Prelude.{if◌then◌else◌, ◌==◌, not, slice_get, option_map, option_and_then}
use Rattle.std.specs.Str.{bytes_eq}
use Rattle.std.specs.List.{AllByRecursion}
use Rattle.std.proofs.lemmas.List.{append-nil}
use Rattle.block_tree.specs.Output.{output}
use Rattle.meta_format.specs.Stream.{Outer}
use Rattle.meta_format.specs.Faults.{Kind}
use Rattle.block_tree.specs.declared.reason.Reason.{Reason}
use Rattle.block_tree.specs.declared.reason.Reason.TheVariants as reason
use Rattle.worksheet.specs.declared.op.Op.{Op}
use Rattle.worksheet.specs.declared.op.Op.TheVariants as op
use Rattle.worksheet.specs.declared.refusal.Refusal.{Refusal}
use Rattle.worksheet.specs.Ops.{next_of, field_of}
use Rattle.worksheet.specs.inside.Words.{order_of}
use Rattle.worksheet.specs.Edits.{AllBelow}
use Rattle.worksheet.specs.Checks.{first_of, has_field}
use Rattle.worksheet.proofs.Finds.{true_from_not}
use Rattle.worksheet.proofs.NextLaws.{sound_of}
use Rattle.plugin_core.specs.declared.item.Item.{Item}
use Rattle.plugin_core.specs.declared.item.Item.TheVariants as item
use Rattle.plugin_core.specs.declared.step.Step.{Step}
use Rattle.plugin_core.specs.declared.step.Ended.{Ended}
use Rattle.plugin_core.specs.declared.step.Answered.{Answered}
use Rattle.plugin_core.specs.declared.step.Answered.TheVariants as answered
use Rattle.plugin_core.specs.Past.{received, items_of}
use Rattle.plugin_core.specs.Answers.{answers_of}
use Rattle.plugin_core.specs.Items.{answer_following, answer_to, prompt_of}
use Rattle.plugin_core.specs.Steps.{step_of}
use Rattle.plugin_core.specs.inside.Words.{answered_with}
use Rattle.plugin_core.specs.Steps.{closed_by as closed_in}
use Rattle.plugin_core.proofs.Pasts.{items_of-received, items_of-accepted}
use Rattle.host_events.specs.declared.command.Command.{Command}
use Rattle.host_events.specs.declared.command.Command.TheVariants as command
use Rattle.host_events.specs.declared.event.ChildEvent.{ChildEvent}
use Rattle.host_events.specs.declared.event.ChildEvent.TheVariants as child
use Rattle.host_events.specs.declared.event.Event.{Event}
use Rattle.host_events.specs.declared.event.Event.TheVariants as event
use Rattle.host_events.specs.declared.outcome.Outcome.{Outcome}
use Rattle.session_engine.specs.Named.{without_named, replace_named}
use Rattle.session_engine.specs.World.{World, Going, kept_at_end, life_of, with_number, with_op_if, session_of_field, sheet_in}
use Rattle.session_engine.specs.inside.Words.{with_op, line_of_field, request_of_field, with_piece, joined_by, begun_with}
use Rattle.session_engine.specs.Does.{op_by}
use Rattle.host_laws.specs.inside.Given.{Commanded, Childed, after, GivesByParts}
use Rattle.session_engine.specs.inside.Parts.{with_life, without_life, with_item, goes_on}
use Rattle.session_engine.specs.Refused.{command_refusals}
use Rattle.host_laws.specs.Apart.{IsOpened}
use Rattle.session_engine.proofs.Standing.{all_at}
use Rattle.host_laws.proofs.ApartLives.{first_has}
use Rattle.session_engine.proofs.Losing.{if_stopped, if_pieced}
use Rattle.host_laws.proofs.ApartFields.{HasOwner, MovesOne, owned_still, found_owner, below_push, below_of}

-- a life's items are lines of its session's fields
abbrev pub OwnsItems : List Op → Going → Type 0
OwnsItems os l = AllByRecursion (HasOwner os l.name) (items_of l.past)

pub record Owned (w : World) : Type 0 where
  pub below : AllBelow (next_of w.ops) (order_of w.ops)
  pub lives : AllByRecursion (OwnsItems w.ops) w.lives

pub opened_owned : (w : World) → IsOpened w → Owned w
opened_owned w opened = record {
  below = below_of w.ops (next_of w.ops) (order_of w.ops) (sound_of w.ops opened.1).below;
  lives = subst (λ (ls : List Going). AllByRecursion (OwnsItems w.ops) ls) (sym opened.0) tt;
}

all_mapped : {A : Type 0} (P Q : A → Type 0) → ((a : A) → P a → Q a) → (xs : List A) → AllByRecursion P xs → AllByRecursion Q xs
all_mapped P Q f [] all = tt
all_mapped P Q f (x ∷ xs) all = (f x all.0, all_mapped P Q f xs all.1)

all_push : {A : Type 0} (P : A → Type 0) (xs : List A) (x : A) → AllByRecursion P xs → P x → AllByRecursion P (xs ++ x ∷ [])
all_push P [] x all one = (one, tt)
all_push P (y ∷ xs) x all one = (all.0, all_push P xs x all.1 one)

all_without : (P : Going → Type 0) (m : List ℕ) (ls : List Going) → AllByRecursion P ls → AllByRecursion P (without_named (λ l. l.name) m ls)
all_without P m [] all = tt
all_without P m (l ∷ ls) all = go (bytes_eq l.name m) (all_without P m ls all.1)
  where
    go : (b : Bool) → AllByRecursion P (without_named (λ l. l.name) m ls) → AllByRecursion P (if b then ls else l ∷ without_named (λ l. l.name) m ls)
    go true rest = all.1
    go false rest = (all.0, rest)

all_replaced : (P : Going → Type 0) (m : List ℕ) (y : Going) (ls : List Going) → AllByRecursion P ls → P y → AllByRecursion P (replace_named (λ l. l.name) m y ls)
all_replaced P m y [] all one = tt
all_replaced P m y (l ∷ ls) all one = go (bytes_eq l.name m) (all_replaced P m y ls all.1 one)
  where
    go : (b : Bool) → AllByRecursion P (replace_named (λ l. l.name) m y ls) → AllByRecursion P (if b then y ∷ ls else l ∷ replace_named (λ l. l.name) m y ls)
    go true rest = (one, all.1)
    go false rest = (all.0, rest)

owned_op : (w : World) (o : Op) → MovesOne w.ops o → Owned w → Owned (with_op o w)
owned_op w o m h = record {
  below = below_push w.ops o m h.below;
  lives = all_mapped (OwnsItems w.ops) (OwnsItems (w.ops ++ o ∷ [])) (λ l all. all_mapped (HasOwner w.ops l.name) (HasOwner (w.ops ++ o ∷ []) l.name) (λ i own. owned_still w.ops o l.name i m own) (items_of l.past) all) w.lives h.lives;
}

owned_without : (w : World) (m : List ℕ) → Owned w → Owned (without_life m w)
owned_without w m h = record { below = h.below; lives = all_without (OwnsItems w.ops) m w.lives h.lives }

owned_with : (w : World) (l : Going) → OwnsItems w.ops l → Owned w → Owned (with_life l w)
owned_with w l own h = record { below = h.below; lives = all_replaced (OwnsItems w.ops) l.name l w.lives h.lives own }

owned_item : (w : World) (m : List ℕ) (i : Item) (k : Option Going) → life_of w m ≡ k → HasOwner w.ops m i → Owned w → Owned (with_item w m i k)
owned_item w m i None e own h = record { below = h.below; lives = all_push (OwnsItems w.ops) w.lives (begun_with w m i) h.lives (own, tt) }
owned_item w m i (Some l) e own h =
    let s : l.name ≡ m = first_has m w.lives l e in
    let before : OwnsItems w.ops l = all_at (OwnsItems w.ops) (λ (l : Going). l.name) m l w.lives h.lives e in
    let items : AllByRecursion (HasOwner w.ops l.name) (items_of l.past ++ i ∷ []) = all_push (HasOwner w.ops l.name) (items_of l.past) i before (subst (λ (j : List ℕ). HasOwner w.ops j i) (sym s) own) in
    owned_with w (joined_by l i) (subst (λ (is : List Item). AllByRecursion (HasOwner w.ops l.name) is) (sym (items_of-accepted l.past i)) items) h

-- the first refusal of these doesn't apply
abbrev pub FirstPasses : List (Refusal × Bool) → Type 0
FirstPasses [] = Unit {0}
FirstPasses (r ∷ rs) = r.1 ≡ false

first_passes : (rs : List (Refusal × Bool)) → first_of rs ≡ None → FirstPasses rs
first_passes [] h = tt
first_passes (r ∷ rs) h = go r.1 h
  where
    go : (b : Bool) → (if b then Some r.0 else first_of rs) ≡ None → b ≡ false
    go true h = cc
    go false h = refl

there : (w : World) (id : ℕ) → Owned w → not (has_field (sheet_in w) id) ≡ false → (id < next_of w.ops) × (session_of_field w id ≡ (field_of w.ops id).session)
there w id h passes = found_owner w.ops (next_of w.ops) id (order_of w.ops) h.below (true_from_not (has_field (sheet_in w) id) passes)

accepted_owned : (w : World) (c : Command) → Owned w → first_of (command_refusals w c) ≡ None → Owned (after w c)
accepted_owned w (command.Session name tab words) h none = owned_op w (op.Session name tab words) tt h
accepted_owned w (command.New place session input) h none = owned_op w (op.New place session input) tt h
accepted_owned w (command.Set id input) h none = owned_op w (op.Set id input) tt h
accepted_owned w (command.Remove id) h none = owned_op w (op.Remove id) tt h
accepted_owned w (command.Move id place) h none = owned_op w (op.Move id place) (there w id h (first_passes (command_refusals w (command.Move id place)) none)).0 h
accepted_owned w (command.Clear id) h none = owned_op w (op.Clear id) tt h
accepted_owned w (command.Eval id) h none =
    let t = there w id h (first_passes (command_refusals w (command.Eval id)) none) in
    owned_op (with_item w (session_of_field w id) (line_of_field w id) (life_of w (session_of_field w id))) (op.Clear id) tt
    (owned_item w (session_of_field w id) (line_of_field w id) (life_of w (session_of_field w id)) refl (t.0, sym t.1) h)
accepted_owned w (command.Complete id cursor) h none = owned_item w (session_of_field w id) (request_of_field w id cursor) (life_of w (session_of_field w id)) refl tt h
accepted_owned w (command.CompleteText id cursor text) h none = owned_item w (session_of_field w id) (item.Complete id text cursor) (life_of w (session_of_field w id)) refl tt h
accepted_owned w (command.Stop m) h none =
    if_stopped (λ p. Owned (with_op_if p (without_life m w))) w reason.Stopped (life_of w m) (owned_without w m h) (λ l id e f. owned_op (without_life m w) (op.Lost id reason.Stopped) tt (owned_without w m h))
accepted_owned w command.Checkpoint h none = record { below = h.below; lives = h.lives }

-- What an event adds to the ops, and whether it is an answer of another session.
pub record Grown (w v : World) : Type 0 where
  pub owned : Owned v
  pub more : List Op
  pub ops : v.ops ≡ w.ops ++ more

grown_to : (w v z : World) → v ≡ z → Grown w z → Grown w v
grown_to w v z e g = record { owned = subst Owned (sym e) g.owned; more = g.more; ops = ap (λ (y : World). y.ops) e ∙ g.ops }

grown_not : (w : World) → Owned w → Grown w w
grown_not w h = record { owned = h; more = []; ops = sym (append-nil w.ops) }

item_ops : (m : List ℕ) (i : Item) (k : Option Going) (w : World) → (with_item w m i k).ops ≡ w.ops
item_ops m i None w = refl
item_ops m i (Some l) w = refl

accepted_ops : (w : World) (c : Command) → (more : List Op) × ((after w c).ops ≡ w.ops ++ more)
accepted_ops w (command.Session name tab words) = (op.Session name tab words ∷ [], refl)
accepted_ops w (command.New place session input) = (op.New place session input ∷ [], refl)
accepted_ops w (command.Set id input) = (op.Set id input ∷ [], refl)
accepted_ops w (command.Remove id) = (op.Remove id ∷ [], refl)
accepted_ops w (command.Move id place) = (op.Move id place ∷ [], refl)
accepted_ops w (command.Clear id) = (op.Clear id ∷ [], refl)
accepted_ops w (command.Eval id) = (op.Clear id ∷ [], ap (λ (os : List Op). os ++ op.Clear id ∷ []) (item_ops (session_of_field w id) (line_of_field w id) (life_of w (session_of_field w id)) w))
accepted_ops w (command.Complete id cursor) = ([], item_ops (session_of_field w id) (request_of_field w id cursor) (life_of w (session_of_field w id)) w ∙ sym (append-nil w.ops))
accepted_ops w (command.CompleteText id cursor text) = ([], item_ops (session_of_field w id) (item.Complete id text cursor) (life_of w (session_of_field w id)) w ∙ sym (append-nil w.ops))
accepted_ops w (command.Stop m) =
    if_stopped (λ p. (more : List Op) × ((with_op_if p (without_life m w)).ops ≡ w.ops ++ more)) w reason.Stopped (life_of w m) ([], sym (append-nil w.ops)) (λ l id e f. (op.Lost id reason.Stopped ∷ [], refl))
accepted_ops w command.Checkpoint = ([], sym (append-nil w.ops))

pub command_grows : (w : World) (c : Command) (o : Outcome) (v : World) → Owned w → GivesByParts w (event.Command c) o v → Grown w v
command_grows w c o v h g = go (first_of (command_refusals w c)) refl g
  where
    go : (r : Option Refusal) → first_of (command_refusals w c) ≡ r → Commanded w c r o v → Grown w v
    go (Some r) e g = grown_to w v w g.1 (grown_not w h)
    go None e g = ⊎_elim
        (λ done. grown_to w v (after w c) done.1 (let k = accepted_ops w c in record { owned = accepted_owned w c h e; more = k.0; ops = k.1 }))
        (λ spent. grown_to w v w spent.2 (grown_not w h)) g

-- an answer is that of a field of this session
abbrev pub AnswerOwned : List Op → List ℕ → Option Answered → Type 0
AnswerOwned os name None = Unit {0}
AnswerOwned os name (Some (answered.Banner b)) = Unit {0}
AnswerOwned os name (Some (answered.Line id prompt output)) = (field_of os id).session ≡ name
AnswerOwned os name (Some (answered.Complete id result)) = Unit {0}

item_at : (P : Item → Type 0) (n : ℕ) (items : List Item) (i : Item) → slice_get items n ≡ Some i → AllByRecursion P items → P i
item_at P n [] i h all = cc
item_at P zero (x ∷ items) i h all = let e : x ≡ i = cc in subst P e all.0
item_at P (suc n) (x ∷ items) i h all = item_at P n items i h all.1

answer_owned : (os : List Op) (l : Going) (b : Outer) → OwnsItems os l → AnswerOwned os l.name (answered_with l.past l.blocks b)
answer_owned os l b own = go (answers_of l.past l.blocks)
  where
    line : (k : Option Item) → ((i : Item) → k ≡ Some i → HasOwner os l.name i) → AnswerOwned os l.name (option_map (λ i. answer_to i (prompt_of l.past l.blocks) (output b.block)) k)
    line None has = tt
    line (Some (item.Line id text)) has = (has (item.Line id text) refl).1
    line (Some (item.Complete id text cursor)) has = tt

    go : (answers : List Outer) → AnswerOwned os l.name (answer_following answers (items_of l.past) (prompt_of l.past l.blocks) b.block)
    go [] = tt
    go (a ∷ answers) = line (slice_get (items_of l.past) (length answers)) (λ i e. item_at (HasOwner os l.name) (length answers) (items_of l.past) i e own)

step_owned : (os : List Op) (l : Going) (piece : List ℕ) (blocks : List Outer) (fault : Option Kind) → OwnsItems os l → AnswerOwned os l.name (step_of l.past l.blocks piece blocks fault).answered
step_owned os l piece blocks fault own = go (closed_in l.past l.blocks (received piece) blocks)
  where
    go : (k : Option Outer) → AnswerOwned os l.name (option_and_then (answered_with l.past l.blocks) k)
    go None = tt
    go (Some b) = answer_owned os l b own

-- an op of a child's event: the answer to a field of this session, or a reason
abbrev pub OpOwned : List Op → List ℕ → Option Op → Type 0
OpOwned os name None = Unit {0}
OpOwned os name (Some (op.Session other tab words)) = ⊥
OpOwned os name (Some (op.New after session input)) = ⊥
OpOwned os name (Some (op.Set id input)) = ⊥
OpOwned os name (Some (op.Remove id)) = ⊥
OpOwned os name (Some (op.Move id after)) = ⊥
OpOwned os name (Some (op.Clear id)) = ⊥
OpOwned os name (Some (op.Answer id prompt output)) = (field_of os id).session ≡ name
OpOwned os name (Some (op.Lost id why)) = Unit {0}
OpOwned os name (Some (op.Ids number)) = ⊥

-- An event of a child: what becomes of its life, and then its op, if it gives one.
pub record OfChild (m : List ℕ) (w v : World) : Type 0 where
  pub on : World
  pub kept : on.ops ≡ w.ops
  pub owned : Owned on
  pub given : Option Op
  pub mine : OpOwned w.ops m given
  pub is : v ≡ with_op_if given on

plain : (m : List ℕ) (w v z : World) → v ≡ z → z.ops ≡ w.ops → Owned z → OfChild m w v
plain m w v z e k h = record { on = z; kept = k; owned = h; given = None; mine = tt; is = e }

ended : (w : World) (l : Going) (why : Reason) (v : World) → Owned w → v ≡ with_op_if (kept_at_end w why (Some l)) (without_life l.name w) → OfChild l.name w v
ended w l why v h is = record {
  on = without_life l.name w;
  kept = refl;
  owned = owned_without w l.name h;
  given = kept_at_end w why (Some l);
  mine = if_stopped (OpOwned w.ops l.name) w why (Some l) tt (λ m id e f. tt);
  is = is;
}

on_owned : (w : World) (l : Going) (piece : List ℕ) (blocks : List Outer) (e : Option Ended) → OwnsItems w.ops l → Owned w → Owned (goes_on (with_piece l piece blocks) e w)
on_owned w l piece blocks None own h = owned_with w (with_piece l piece blocks) (subst (λ (is : List Item). AllByRecursion (HasOwner w.ops l.name) is) (sym (items_of-received l.past piece)) own) h
on_owned w l piece blocks (Some e) own h = owned_without w l.name h

ops_kept : (l : Going) (e : Option Ended) (w : World) → (goes_on l e w).ops ≡ w.ops
ops_kept l None w = refl
ops_kept l (Some e) w = refl

life_grows : (w : World) (l : Going) (c : ChildEvent) (o : Outcome) (v : World) → OwnsItems w.ops l → Owned w → Childed w (Some l) c o v → OfChild l.name w v
life_grows w l child.StartRefused o v own h g = ended w l reason.StartRefused v h g.1
life_grows w l (child.Piece piece) o v own h g =
    let s : Step = step_of l.past l.blocks piece g.0 g.1 in
    record {
      on = goes_on (with_piece l piece g.0) s.ended w;
      kept = ops_kept (with_piece l piece g.0) s.ended w;
      owned = on_owned w l piece g.0 s.ended own h;
      given = op_by w.room w.end s.answered s.ended;
      mine = if_pieced (OpOwned w.ops l.name) w.room w.end s.answered s.ended tt
          (λ id prompt out e. subst (AnswerOwned w.ops l.name) e (step_owned w.ops l piece g.0 g.1 own)) (λ x id e f none. tt);
      is = g.2.2;
    }
life_grows w l child.End o v own h g = ended w l reason.Ended v h g.1
life_grows w l child.ReadFault o v own h g = ended w l reason.ReadFault v h g.1
life_grows w l child.SendFault o v own h g = ended w l reason.SendFault v h g.1
life_grows w l child.Stalled o v own h g = ended w l reason.Stalled v h g.1
life_grows w l child.StopFault o v own h g = plain l.name w v w g.1 refl h

none_grows : (m : List ℕ) (w : World) (c : ChildEvent) (o : Outcome) (v : World) → Owned w → Childed w None c o v → OfChild m w v
none_grows m w child.StartRefused o v h g = plain m w v w g.1 refl h
none_grows m w (child.Piece piece) o v h g = plain m w v w g.1 refl h
none_grows m w child.End o v h g = plain m w v w g.1 refl h
none_grows m w child.ReadFault o v h g = plain m w v w g.1 refl h
none_grows m w child.SendFault o v h g = plain m w v w g.1 refl h
none_grows m w child.Stalled o v h g = plain m w v w g.1 refl h
none_grows m w child.StopFault o v h g = plain m w v w g.1 refl h

pub child_grows : (m : List ℕ) (w : World) (number : ℕ) (c : ChildEvent) (o : Outcome) (v : World) → Owned w → GivesByParts w (event.Child m number c) o v → OfChild m w v
child_grows m w number c o v h g = go (life_of w m) refl g
  where
    go : (k : Option Going) → life_of w m ≡ k → Childed w (with_number number k) c o v → OfChild m w v
    go None e g = none_grows m w c o v h g
    go (Some l) e g = here (l.number == number) (first_has m w.lives l e) g
      where
        here : (b : Bool) → l.name ≡ m → Childed w (if b then Some l else None) c o v → OfChild m w v
        here true s g = subst (λ (j : List ℕ). OfChild j w v) s (life_grows w l c o v (all_at (OwnsItems w.ops) (λ (l : Going). l.name) m l w.lives h.lives e) h g)
        here false s g = none_grows m w c o v h g

pub child_grown : (m : List ℕ) (w v : World) → OfChild m w v → Grown w v
child_grown m w v g = grown_to w v (with_op_if g.given g.on) g.is (go g.given g.mine)
  where
    one : (o : Op) → MovesOne g.on.ops o → Grown w (with_op o g.on)
    one o moves = record { owned = owned_op g.on o moves g.owned; more = o ∷ []; ops = ap (λ (os : List Op). os ++ o ∷ []) g.kept }

    go : (o : Option Op) → OpOwned w.ops m o → Grown w (with_op_if o g.on)
    go None mine = record { owned = g.owned; more = []; ops = g.kept ∙ sym (append-nil w.ops) }
    go (Some (op.Session other tab words)) mine = absurd mine
    go (Some (op.New after session input)) mine = absurd mine
    go (Some (op.Set id input)) mine = absurd mine
    go (Some (op.Remove id)) mine = absurd mine
    go (Some (op.Move id after)) mine = absurd mine
    go (Some (op.Clear id)) mine = absurd mine
    go (Some (op.Answer id prompt output)) mine = one (op.Answer id prompt output) tt
    go (Some (op.Lost id why)) mine = one (op.Lost id why) tt
    go (Some (op.Ids number)) mine = absurd mine

-- what holds of the owners holds after each event
pub owned_step : (w : World) (e : Event) (o : Outcome) (v : World) → Owned w → GivesByParts w e o v → Owned v
owned_step w (event.Command c) o v h g = (command_grows w c o v h g).owned
owned_step w (event.Child m number c) o v h g = (child_grown m w v (child_grows m w number c o v h g)).owned
