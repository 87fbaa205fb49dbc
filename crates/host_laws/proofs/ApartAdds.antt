-- What an event adds to the ops: a reason is that of a field that shows no answer.
use Rattle.std.proofs.Common.{◌≡◌, inl, ⊎_elim, ◌<◌, ℕ, List, [], ◌∷◌, ◌++◌, length, drop, refl, ap, sym, ◌∙◌, subst, arith, append-nil, Bool, true, false, Option, Some, None}
use Rattle.std.specs.Prelude.{nat_eq}
use Rattle.std.specs.List.{AllByRecursion}
use Rattle.std.proofs.lemmas.Bool.Decides.{nat_tests}
use Rattle.block_tree.specs.declared.reason.Reason.{Reason}
use Rattle.block_tree.specs.declared.reason.Reason.TheVariants as reason
use Rattle.meta_format.specs.Stream.{Outer}
use Rattle.meta_format.specs.Faults.{Kind}
use Rattle.worksheet.specs.declared.op.Op.{Op}
use Rattle.worksheet.specs.declared.op.Op.TheVariants as op
use Rattle.worksheet.specs.declared.refusal.Refusal.{Refusal}
use Rattle.worksheet.specs.Ops.{field_of}
use Rattle.worksheet.specs.Checks.{first_of}
use Rattle.plugin_core.specs.declared.item.Item.{Item}
use Rattle.plugin_core.specs.declared.item.Item.TheVariants as item
use Rattle.plugin_core.specs.declared.step.Step.{Step}
use Rattle.plugin_core.specs.declared.step.Ended.{Ended}
use Rattle.plugin_core.specs.Past.{received}
use Rattle.plugin_core.specs.Items.{first_line_of, waiting_of}
use Rattle.plugin_core.specs.Steps.{step_of}
use Rattle.plugin_core.specs.inside.Words.{ended_by}
use Rattle.host_events.specs.declared.command.Command.{Command}
use Rattle.host_events.specs.declared.command.Command.TheVariants as command
use Rattle.host_events.specs.declared.event.ChildEvent.{ChildEvent}
use Rattle.host_events.specs.declared.event.ChildEvent.TheVariants as child
use Rattle.host_events.specs.declared.event.Event.{Event}
use Rattle.host_events.specs.declared.event.Event.TheVariants as event
use Rattle.host_events.specs.declared.outcome.Outcome.{Outcome}
use Rattle.session_engine.specs.World.{World, Going, kept_at_end, life_of, session_of_field, waiting_in, with_number, with_op_if}
use Rattle.session_engine.specs.inside.Words.{line_of_field, request_of_field, with_piece}
use Rattle.session_engine.specs.Refused.{command_refusals}
use Rattle.host_laws.specs.Laws.{lines_among}
use Rattle.host_laws.specs.Apart.{IsOpened, is_no_reason}
use Rattle.session_engine.specs.inside.Parts.{goes_on, with_item, without_life}
use Rattle.host_laws.specs.inside.Given.{Childed, Commanded, Ended_by, GivesByParts, Pieced, after}
use Rattle.host_laws.proofs.ApartOps.{drop_length}
use Rattle.host_laws.proofs.ApartOwners.{opened_owned}
use Rattle.host_laws.proofs.InFlight.{Waits, lines_of}
use Rattle.host_laws.proofs.LinesAmong.{after_piece, one_of}
use Rattle.host_laws.proofs.Living.{SoundLife, the_life}
use Rattle.session_engine.proofs.Losing.{if_ended, if_pieced, if_stopped}
use Rattle.host_laws.proofs.Numbers.{its_own, with_its_number}
use Rattle.host_laws.proofs.Totals.{total, total-out}

pub data Adds (w v : World) : Type 0 where
  nothing : v.ops ≡ w.ops → Adds w v
  an_op : (o : Op) → is_no_reason o ≡ true → v.ops ≡ w.ops ++ o ∷ [] → Adds w v
  a_reason : (id : ℕ) (why : Reason) → (field_of w.ops id).answer ≡ None → v.ops ≡ w.ops ++ op.Lost id why ∷ [] → Adds w v

-- the first line waits
first_counts : (id : ℕ) (items : List Item) → first_line_of items ≡ Some id → 0 < lines_among id items
first_counts id [] h = cc
first_counts id (item.Line other text ∷ items) h =
    let same : other ≡ id = cc in
    let one : one_of other id ≡ 1 = (let e : nat_eq other id ≡ true = grind (arith, nat_tests, same) in rw e refl) in
    omega (arith, one)
first_counts id (item.Complete other text cursor ∷ items) h = cc

-- a field of which a line waits shows no answer
shows_none : (w : World) (l : Going) (id : ℕ) → Waits w → life_of w l.name ≡ Some l → 0 < lines_among id (waiting_in l) → (field_of w.ops id).answer ≡ None
shows_none w l id h own some =
    let t = total-out (lines_of id) l.name l w.lives own in
    ⊎_elim (λ nil. absurd (omega (arith, nil, t, some))) (λ one. one.1.0) (h.quiet id)

moved : (w v u : World) → v ≡ u → Adds w u → Adds w v
moved w v u e a = subst (λ (x : World). Adds w x) (sym e) a

at_end : (w : World) (why : Reason) (l : Going) → Waits w → life_of w l.name ≡ Some l → Adds w (with_op_if (kept_at_end w why (Some l)) (without_life l.name w))
at_end w why l h own =
    if_ended (λ p. Adds w (with_op_if p (without_life l.name w))) w why l (Adds.nothing refl)
    (λ id e. Adds.a_reason id why (shows_none w l id h own (first_counts id (waiting_in l) e)) refl)

ended : (w : World) (y : Option Going) (why : Reason) (killed : Bool) (o : Outcome) (v : World) → Waits w → ((l : Going) → y ≡ Some l → life_of w l.name ≡ Some l) → Ended_by w y why killed o v → Adds w v
ended w None why killed o v h own g = Adds.nothing (ap (λ (u : World). u.ops) g.1)
ended w (Some l) why killed o v h own g = moved w v _ g.1 (at_end w why l h (own l refl))

goes_ops : (l : Going) (e : Option Ended) (w : World) → (goes_on l e w).ops ≡ w.ops
goes_ops l None w = refl
goes_ops l (Some e) w = refl

-- what an end by a fault loses waits after the piece
lost_is : (l : Going) (piece : List ℕ) (blocks : List Outer) (fault : Option Kind) (x : Ended) → (step_of l.past l.blocks piece blocks fault).ended ≡ Some x → x.lost ≡ waiting_of (l.past ++ received piece ∷ []) blocks
lost_is l piece blocks None x e = cc
lost_is l piece blocks (Some kind) x e = let same : ended_by (l.past ++ received piece ∷ []) blocks kind ≡ x = cc in ap (λ (z : Ended). z.lost) (sym same)

pieced : (w : World) (y : Option Going) (piece : List ℕ) (o : Outcome) (v : World) → Waits w → ((l : Going) → y ≡ Some l → life_of w l.name ≡ Some l) → Pieced w y piece o v → Adds w v
pieced w None piece o v h own g = Adds.nothing (ap (λ (u : World). u.ops) g.1)
pieced w (Some l) piece o v h own g =
    let s : Step = step_of l.past l.blocks piece g.0 g.1 in
    let m : Going = with_piece l piece g.0 in
    let life : SoundLife w.ops l = the_life l.name l w h.sound_so (own l refl) in
    let kept = goes_ops m s.ended w in
    moved w v _ g.2.2
    (if_pieced (λ p. Adds w (with_op_if p (goes_on m s.ended w))) w.room w.end s.answered s.ended (Adds.nothing kept)
    (λ id prompt out e. Adds.an_op (op.Answer id prompt out) refl (ap (λ (os : List Op). os ++ op.Answer id prompt out ∷ []) kept))
    (λ x id e f none.
    let b = after_piece id l.past l.blocks g.0 piece g.1 life.reads g.2.0 in
    let c = first_counts id x.lost f in
    let d = ap (λ (is : List Item). lines_among id is) (lost_is l piece g.0 g.1 x e) in
    Adds.a_reason id x.reason (shows_none w l id h (own l refl) (omega (arith, b, c, d))) (ap (λ (os : List Op). os ++ op.Lost id x.reason ∷ []) kept)))

item_ops : (m : List ℕ) (i : Item) (k : Option Going) (w : World) → (with_item w m i k).ops ≡ w.ops
item_ops m i None w = refl
item_ops m i (Some l) w = refl

accepted : (w : World) (c : Command) → Waits w → Adds w (after w c)
accepted w (command.Session name tab words) h = Adds.an_op (op.Session name tab words) refl refl
accepted w (command.New place session input) h = Adds.an_op (op.New place session input) refl refl
accepted w (command.Set id input) h = Adds.an_op (op.Set id input) refl refl
accepted w (command.Remove id) h = Adds.an_op (op.Remove id) refl refl
accepted w (command.Move id place) h = Adds.an_op (op.Move id place) refl refl
accepted w (command.Clear id) h = Adds.an_op (op.Clear id) refl refl
accepted w (command.Eval id) h = Adds.an_op (op.Clear id) refl (ap (λ (os : List Op). os ++ op.Clear id ∷ []) (item_ops (session_of_field w id) (line_of_field w id) (life_of w (session_of_field w id)) w))
accepted w (command.Complete id cursor) h = Adds.nothing (item_ops (session_of_field w id) (request_of_field w id cursor) (life_of w (session_of_field w id)) w)
accepted w (command.CompleteText id cursor text) h = Adds.nothing (item_ops (session_of_field w id) (item.Complete id text cursor) (life_of w (session_of_field w id)) w)
accepted w (command.Stop name) h =
    if_stopped (λ p. Adds w (with_op_if p (without_life name w))) w reason.Stopped (life_of w name) (Adds.nothing refl)
    (λ l id e f. Adds.a_reason id reason.Stopped (shows_none w l id h (its_own w name l e) (first_counts id (waiting_in l) f)) refl)
accepted w command.Checkpoint h = Adds.nothing refl

commanded_adds : (w : World) (c : Command) (r : Option Refusal) (o : Outcome) (v : World) → Waits w → Commanded w c r o v → Adds w v
commanded_adds w c (Some r) o v h g = Adds.nothing (ap (λ (u : World). u.ops) g.1)
commanded_adds w c None o v h g = ⊎_elim (λ done. moved w v (after w c) done.1 (accepted w c h)) (λ want. Adds.nothing (ap (λ (u : World). u.ops) want.2)) g

childed_adds : (w : World) (y : Option Going) (e : ChildEvent) (o : Outcome) (v : World) → Waits w → ((l : Going) → y ≡ Some l → life_of w l.name ≡ Some l) → Childed w y e o v → Adds w v
childed_adds w y child.StartRefused o v h own g = ended w y _ _ o v h own g
childed_adds w y (child.Piece piece) o v h own g = pieced w y piece o v h own g
childed_adds w y child.End o v h own g = ended w y _ _ o v h own g
childed_adds w y child.ReadFault o v h own g = ended w y _ _ o v h own g
childed_adds w y child.SendFault o v h own g = ended w y _ _ o v h own g
childed_adds w y child.Stalled o v h own g = ended w y _ _ o v h own g
childed_adds w y child.StopFault o v h own g = Adds.nothing (ap (λ (u : World). u.ops) g.1)

pub adds : (w : World) (e : Event) (o : Outcome) (v : World) → Waits w → GivesByParts w e o v → Adds w v
adds w (event.Command c) o v h g = commanded_adds w c (first_of (command_refusals w c)) o v h g
adds w (event.Child name number e) o v h g = childed_adds w (with_number number (life_of w name)) e o v h (λ l is. its_own w name l (with_its_number number (life_of w name) l is)) g

same_more : (os us vs : List Op) → os ++ us ≡ os ++ vs → us ≡ vs
same_more os us vs e = sym (drop_length os us) ∙ ap (λ (l : List Op). drop (length os) l) e ∙ drop_length os vs

-- a reason that was added is that of a field that shows no answer
pub lost_none : (w v : World) (id : ℕ) (why : Reason) → Adds w v → v.ops ≡ w.ops ++ op.Lost id why ∷ [] → (field_of w.ops id).answer ≡ None
lost_none w v id why (Adds.nothing e) is = let no : [] ≡ op.Lost id why ∷ [] = same_more w.ops [] (op.Lost id why ∷ []) (append-nil w.ops ∙ sym e ∙ is) in absurd cc
lost_none w v id why (Adds.an_op o t e) is =
    let same : o ∷ [] ≡ op.Lost id why ∷ [] = same_more w.ops (o ∷ []) (op.Lost id why ∷ []) (sym e ∙ is) in
    let one : o ≡ op.Lost id why = cc in
    absurd (let no : true ≡ false = sym t ∙ ap is_no_reason one in cc)
lost_none w v id why (Adds.a_reason j other none e) is =
    let same : op.Lost j other ∷ [] ≡ op.Lost id why ∷ [] = same_more w.ops (op.Lost j other ∷ []) (op.Lost id why ∷ []) (sym e ∙ is) in
    let number : j ≡ id = cc in
    ap (λ (k : ℕ). (field_of w.ops k).answer) (sym number) ∙ none

pub opened_waits : (w : World) → IsOpened w → Waits w
opened_waits w opened = record {
  sound_so = record { allowed = opened.1; lives = subst (λ (ls : List Going). AllByRecursion (SoundLife w.ops) ls) (sym opened.0) tt };
  owned = opened_owned w opened;
  quiet = λ id. inl (ap (total (lines_of id)) opened.0);
}
