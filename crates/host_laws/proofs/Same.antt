-- Worlds with one worksheet go on alike.
use Rattle.std.proofs.Common.{◌≡◌, inl, inr, ⊎_elim, ◌+◌, ℕ, List, [], ◌∷◌, ◌++◌, refl, ap, sym, ◌∙◌, subst, Bool, true, false, Option, Some, None}
use Rattle.std.specs.Prelude.{not}
use Rattle.worksheet.specs.declared.op.Op.{Op}
use Rattle.worksheet.specs.declared.op.Op.TheVariants as op
use Rattle.worksheet.specs.declared.refusal.Refusal.{Refusal}
use Rattle.worksheet.specs.declared.refusal.Refusal.TheVariants as refusal
use Rattle.worksheet.specs.Contents.{Contents}
use Rattle.worksheet.specs.Ops.{sheet_of}
use Rattle.worksheet.specs.Checks.{Allowed, field_in, has_field, has_session, is_input, session_named, first_of, first_refusal}
use Rattle.worksheet.specs.Checks.{refusals as sheet_refusals}
use Rattle.worksheet.proofs.Existence.{allowed_goes_on}
use Rattle.worksheet.proofs.NextLaws.{same_next}
use Rattle.journal.specs.Area.{end_of}
use Rattle.plugin_core.specs.declared.item.Item.{Item}
use Rattle.plugin_core.specs.declared.item.Item.TheVariants as item
use Rattle.plugin_core.specs.declared.step.Ended.{Ended}
use Rattle.block_tree.specs.declared.reason.Reason.{Reason}
use Rattle.block_tree.specs.declared.reason.Reason.TheVariants as reason
use Rattle.plugin_core.specs.Steps.{step_of}
use Rattle.host_events.specs.declared.command.Command.{Command}
use Rattle.host_events.specs.declared.command.Command.TheVariants as command
use Rattle.host_events.specs.declared.event.ChildEvent.TheVariants as child
use Rattle.host_events.specs.declared.event.Event.{Event}
use Rattle.host_events.specs.declared.event.Event.TheVariants as event
use Rattle.host_events.specs.declared.outcome.Effect.TheVariants as effect
use Rattle.host_events.specs.declared.outcome.Outcome.{Outcome}
use Rattle.host_events.specs.declared.reply.Reply.TheVariants as reply
use Rattle.host_events.specs.Commands.{op_of}
use Rattle.session_engine.specs.inside.Commits.{AllowedIf}
use Rattle.session_engine.specs.World.{World, Going, kept_at_end, sheet_in, life_of, session_of_field, in_flight, with_number, with_op_if}
use Rattle.session_engine.specs.inside.Words.{by_field, line_of_field, with_op, request_of_field, codes_again, fits_again_in, with_piece, starting_words, full, takes_tab}
use Rattle.session_engine.specs.inside.Parts.{with_item, without_life, goes_on, asks}
use Rattle.session_engine.specs.Does.{op_by, replies, Runs}
use Rattle.session_engine.specs.Refused.{command_refusals, is_cursor, second, refusals_but_room, op_refusals, queue_refusals}
use Rattle.host_laws.specs.inside.Given.{outcome_of, after, Commanded, Ended_by, Pieced, GivesByParts}
use Rattle.host_laws.proofs.ByParts.{by_parts, by_rows, op_after}
use Rattle.session_engine.proofs.Changing.{as_op, allowed_by}
use Rattle.host_laws.proofs.Living.{Sound, SoundLife, the_life}
use Rattle.session_engine.proofs.Losing.{pieced_allowed}
use Rattle.host_laws.proofs.Showing.{first_part, clear_allowed, ops_item, answer_allowed, end_allowed, loses_field, numbered, stepped}

-- the same world, come about by other ops
abbrev pub by_ops : List Op → World → World
by_ops b w = record w { ops = b }

-- the ops with which the other world goes on
pub record Follows (w : World) (b : List Op) (e : Event) (o : Outcome) (v : World) : Type 0 where
  pub ops : List Op
  pub gives : GivesByParts (by_ops b w) e o (by_ops ops v)
  pub same : sheet_of v.ops ≡ sheet_of ops
  pub allowed : Allowed ops

module _ (w : World) (b : List Op) (same : sheet_of w.ops ≡ sheet_of b) where
  x : World
  x = by_ops b w

  checks_same : (o : Op) → refusals_but_room w o ≡ refusals_but_room (by_ops b w) o
  checks_same (op.Session name tab words) = ap (λ (s : Contents). sheet_refusals s (op.Session name tab words)) same
  checks_same (op.New place session input) = ap (λ (s : Contents). sheet_refusals s (op.New place session input)) same
  checks_same (op.Set id input) = ap (λ (s : Contents). second (refusal.InFlight, in_flight w id) (sheet_refusals s (op.Set id input))) same
  checks_same (op.Remove id) = ap (λ (s : Contents). second (refusal.InFlight, in_flight w id) (sheet_refusals s (op.Remove id))) same
  checks_same (op.Move id place) = ap (λ (s : Contents). sheet_refusals s (op.Move id place)) same
  checks_same (op.Clear id) = ap (λ (s : Contents). second (refusal.InFlight, in_flight w id) (sheet_refusals s (op.Clear id))) same
  checks_same (op.Answer id prompt output) = ap (λ (s : Contents). sheet_refusals s (op.Answer id prompt output)) same
  checks_same (op.Lost id why) = ap (λ (s : Contents). sheet_refusals s (op.Lost id why)) same
  checks_same (op.Ids number) = ap (λ (s : Contents). sheet_refusals s (op.Ids number)) same

  session_same : (id : ℕ) → session_of_field w id ≡ session_of_field (by_ops b w) id
  session_same id = ap (λ (s : Contents). by_field (field_in s.fields id) [] (λ f. f.session)) same

  line_same : (id : ℕ) → line_of_field w id ≡ line_of_field (by_ops b w) id
  line_same id = ap (λ (s : Contents). item.Line id (by_field (field_in s.fields id) [] (λ f. f.input))) same

  request_same : (id cursor : ℕ) → request_of_field w id cursor ≡ request_of_field (by_ops b w) id cursor
  request_same id cursor = ap (λ (s : Contents). item.Complete id (by_field (field_in s.fields id) [] (λ f. f.input)) cursor) same

  op_refusals_same : (o : Op) → op_refusals w o ≡ op_refusals (by_ops b w) o
  op_refusals_same o = ap (λ (rs : List (Refusal × Bool)). rs ++ full w o ∷ []) (checks_same o)

  pub refusals_same : (c : Command) → command_refusals w c ≡ command_refusals (by_ops b w) c
  refusals_same (command.Session name tab words) = op_refusals_same (op.Session name tab words)
  refusals_same (command.New place session input) = op_refusals_same (op.New place session input)
  refusals_same (command.Set id input) = op_refusals_same (op.Set id input)
  refusals_same (command.Remove id) = op_refusals_same (op.Remove id)
  refusals_same (command.Move id place) = op_refusals_same (op.Move id place)
  refusals_same (command.Clear id) = op_refusals_same (op.Clear id)
  refusals_same (command.Eval id) =
      ap (λ (s : Contents). (refusal.NoField, not (has_field s id)) ∷ (refusal.InFlight, in_flight w id) ∷ queue_refusals w (life_of w (by_field (field_in s.fields id) [] (λ f. f.session))) ++ full w (op.Clear id) ∷ []) same
  refusals_same (command.Complete id cursor) =
      ap (λ (s : Contents). (refusal.NoField, not (has_field s id))
      ∷ (refusal.NoTab, not (takes_tab (session_named s.sessions (by_field (field_in s.fields id) [] (λ f. f.session)))))
      ∷ (refusal.BadCursor, not (is_cursor (by_field (field_in s.fields id) [] (λ f. f.input)) cursor))
      ∷ queue_refusals w (life_of w (by_field (field_in s.fields id) [] (λ f. f.session)))) same
  refusals_same (command.CompleteText id cursor text) =
      ap (λ (s : Contents). (refusal.NoField, not (has_field s id))
      ∷ (refusal.NoTab, not (takes_tab (session_named s.sessions (by_field (field_in s.fields id) [] (λ f. f.session)))))
      ∷ (refusal.BadInput, not (is_input text))
      ∷ (refusal.BadCursor, not (is_cursor text cursor))
      ∷ queue_refusals w (life_of w (by_field (field_in s.fields id) [] (λ f. f.session)))) same
  refusals_same (command.Stop name) = ap (λ (s : Contents). (refusal.NoSession, not (has_session s name)) ∷ []) same
  refusals_same command.Checkpoint = ap (λ (s : Contents). (refusal.JournalFull, not (fits_again_in w.room s)) ∷ []) same

  asks_same : (name : List ℕ) (i : Item) (l : Option Going) → asks w name i l ≡ asks (by_ops b w) name i l
  asks_same name i None = ap (λ (s : Contents). record { reply = reply.Asked (w.begun + 1); effect = Some (effect.Start name (w.begun + 1) (starting_words (session_named s.sessions name))) }) same
  asks_same name i (Some l) = refl

  pub outcome_same : (c : Command) → outcome_of w c ≡ outcome_of (by_ops b w) c
  outcome_same (command.Session name tab words) = refl
  outcome_same (command.New place session input) = ap (λ (s : Contents). replies (reply.Field s.next)) same
  outcome_same (command.Set id input) = refl
  outcome_same (command.Remove id) = refl
  outcome_same (command.Move id place) = refl
  outcome_same (command.Clear id) = refl
  outcome_same (command.Eval id) =
      asks_same (session_of_field w id) (line_of_field w id) (life_of w (session_of_field w id))
      ∙ ap (λ (n : List ℕ). asks (by_ops b w) n (line_of_field w id) (life_of w n)) (session_same id)
      ∙ ap (λ (i : Item). asks (by_ops b w) (session_of_field (by_ops b w) id) i (life_of w (session_of_field (by_ops b w) id))) (line_same id)
  outcome_same (command.Complete id cursor) =
      asks_same (session_of_field w id) (request_of_field w id cursor) (life_of w (session_of_field w id))
      ∙ ap (λ (n : List ℕ). asks (by_ops b w) n (request_of_field w id cursor) (life_of w n)) (session_same id)
      ∙ ap (λ (i : Item). asks (by_ops b w) (session_of_field (by_ops b w) id) i (life_of w (session_of_field (by_ops b w) id))) (request_same id cursor)
  outcome_same (command.CompleteText id cursor text) =
      asks_same (session_of_field w id) (item.Complete id text cursor) (life_of w (session_of_field w id))
      ∙ ap (λ (n : List ℕ). asks (by_ops b w) n (item.Complete id text cursor) (life_of w n)) (session_same id)
  outcome_same (command.Stop name) = refl
  outcome_same command.Checkpoint = refl

item_same : (w : World) (b : List Op) (name : List ℕ) (i : Item) (l : Option Going) → with_item (by_ops b w) name i l ≡ by_ops b (with_item w name i l)
item_same w b name i None = refl
item_same w b name i (Some l) = refl

-- an op or none

abbrev with_if : List Op → Option Op → List Op
with_if b None = b
with_if b (Some o) = b ++ o ∷ []

if_same : (b : List Op) (p : Option Op) (u : World) → with_op_if p (by_ops b u) ≡ by_ops (with_if b p) (with_op_if p u)
if_same b None u = refl
if_same b (Some o) u = refl

module _ (w : World) (b : List Op) (h : Sound w) (allowed : Allowed b) (same : sheet_of w.ops ≡ sheet_of b) where
  sheet_if : (p : Option Op) (u : World) → u.ops ≡ w.ops → AllowedIf (sheet_in w) p → sheet_of (with_op_if p u).ops ≡ sheet_of (with_if b p)
  sheet_if None u e next = ap sheet_of e ∙ same
  sheet_if (Some o) u e next = ap (λ (os : List Op). sheet_of (os ++ o ∷ [])) e ∙ same_next w.ops b o h.allowed same next

  allowed_if : (p : Option Op) → AllowedIf (sheet_in w) p → Allowed (with_if b p)
  allowed_if None next = allowed
  allowed_if (Some o) next = allowed_goes_on b o allowed (subst (λ (s : Contents). first_refusal s o ≡ None) same next)

-- where an accepted command leads
record LeadsOn (w : World) (b : List Op) (c : Command) : Type 0 where
  ops : List Op
  is : after (by_ops b w) c ≡ by_ops ops (after w c)
  same : sheet_of (after w c).ops ≡ sheet_of ops
  allowed : Allowed ops

module _ (w : World) (b : List Op) (h : Sound w) (allowed : Allowed b) (same : sheet_of w.ops ≡ sheet_of b) where
  by_op : (c : Command) (o : Op) → op_of c ≡ Some o → first_of (command_refusals w c) ≡ None → LeadsOn w b c
  by_op c o is first =
      let a = as_op w c o is in
      let z = as_op (by_ops b w) c o is in
      let next : first_refusal (sheet_in w) o ≡ None = allowed_by w o (first_part (refusals_but_room w o) (full w o ∷ []) (sym (ap first_of a.refusals_are) ∙ first)) in
      record {
        ops = b ++ o ∷ [];
        is = op_after (by_ops b w) c o is ∙ sym (ap (by_ops (b ++ o ∷ [])) (op_after w c o is));
        same = ap (λ (v : World). sheet_of v.ops) (op_after w c o is) ∙ same_next w.ops b o h.allowed same next;
        allowed = allowed_goes_on b o allowed (subst (λ (s : Contents). first_refusal s o ≡ None) same next);
      }

  by_eval : (id : ℕ) → first_of (command_refusals w (command.Eval id)) ≡ None → LeadsOn w b (command.Eval id)
  by_eval id first =
      let o = op.Clear id in
      let next = clear_allowed w id first in
      let name = session_of_field w id in
      let other = session_of_field (by_ops b w) id in
      let i = line_of_field w id in
      record {
        ops = b ++ o ∷ [];
        is = ap (with_op o) (
            sym (ap (λ (n : List ℕ). with_item (by_ops b w) n i (life_of w n)) (session_same w b same id)
            ∙ ap (λ (j : Item). with_item (by_ops b w) other j (life_of w other)) (line_same w b same id))
            ∙ item_same w b name i (life_of w name));
        same = ap (λ (os : List Op). sheet_of (os ++ o ∷ [])) (ops_item w name i (life_of w name)) ∙ same_next w.ops b o h.allowed same next;
        allowed = allowed_goes_on b o allowed (subst (λ (s : Contents). first_refusal s o ≡ None) same next);
      }

  by_complete : (id cursor : ℕ) → LeadsOn w b (command.Complete id cursor)
  by_complete id cursor =
      let name = session_of_field w id in
      let other = session_of_field (by_ops b w) id in
      let i = request_of_field w id cursor in
      record {
        ops = b;
        is = sym (ap (λ (n : List ℕ). with_item (by_ops b w) n i (life_of w n)) (session_same w b same id)
            ∙ ap (λ (j : Item). with_item (by_ops b w) other j (life_of w other)) (request_same w b same id cursor))
            ∙ item_same w b name i (life_of w name);
        same = ap (λ (os : List Op). sheet_of os) (ops_item w name i (life_of w name)) ∙ same;
        allowed = allowed;
      }

  by_text : (id cursor : ℕ) (text : List ℕ) → LeadsOn w b (command.CompleteText id cursor text)
  by_text id cursor text =
      let name = session_of_field w id in
      let i = item.Complete id text cursor in
      record {
        ops = b;
        is = sym (ap (λ (n : List ℕ). with_item (by_ops b w) n i (life_of w n)) (session_same w b same id)) ∙ item_same w b name i (life_of w name);
        same = ap (λ (os : List Op). sheet_of os) (ops_item w name i (life_of w name)) ∙ same;
        allowed = allowed;
      }

  leads_on : (c : Command) → first_of (command_refusals w c) ≡ None → LeadsOn w b c
  leads_on (command.Session name tab words) first = by_op (command.Session name tab words) (op.Session name tab words) refl first
  leads_on (command.New place session input) first = by_op (command.New place session input) (op.New place session input) refl first
  leads_on (command.Set id input) first = by_op (command.Set id input) (op.Set id input) refl first
  leads_on (command.Remove id) first = by_op (command.Remove id) (op.Remove id) refl first
  leads_on (command.Move id place) first = by_op (command.Move id place) (op.Move id place) refl first
  leads_on (command.Clear id) first = by_op (command.Clear id) (op.Clear id) refl first
  leads_on (command.Eval id) first = by_eval id first
  leads_on (command.Complete id cursor) first = by_complete id cursor
  leads_on (command.CompleteText id cursor text) first = by_text id cursor text
  leads_on (command.Stop name) first =
      let p = kept_at_end w reason.Stopped (life_of w name) in
      let u = without_life name w in
      let next = end_allowed w reason.Stopped (life_of w name) (λ l e. the_life name l w h e) in
      record { ops = with_if b p; is = if_same b p u; same = sheet_if w b h allowed same p u refl next; allowed = allowed_if w b h allowed same p next }
  leads_on command.Checkpoint first = record {
    ops = b;
    is = ap (λ (s : Contents). record w { ops = b; end = end_of (codes_again s) }) (sym same);
    same = same;
    allowed = allowed;
  }

  nothing : (e : Event) (o : Outcome) (v : World) → v ≡ w → GivesByParts (by_ops b w) e o (by_ops b w) → Follows w b e o v
  nothing e o v is gives = record {
    ops = b;
    gives = subst (λ (u : World). GivesByParts (by_ops b w) e o (by_ops b u)) (sym is) gives;
    same = subst (λ (u : World). sheet_of u.ops ≡ sheet_of b) (sym is) same;
    allowed = allowed;
  }

  commanded : (c : Command) (o : Outcome) (v : World) (first : Option Refusal) → first_of (command_refusals w c) ≡ first → Commanded w c first o v → Follows w b (event.Command c) o v
  commanded c o v first e done =
      let there : first_of (command_refusals (by_ops b w) c) ≡ first = sym (ap first_of (refusals_same w b same c)) ∙ e in
      go first e there done
    where
      go : (first : Option Refusal) → first_of (command_refusals w c) ≡ first → first_of (command_refusals (by_ops b w) c) ≡ first → Commanded w c first o v → Follows w b (event.Command c) o v
      go (Some r) e there done = nothing (event.Command c) o v done.1 (subst (λ (f : Option Refusal). Commanded (by_ops b w) c f o (by_ops b w)) (sym there) (done.0, refl))
      go None e there done = ⊎_elim
          (λ yes.
          let l = leads_on c e in
          record {
            ops = l.ops;
            gives = subst (λ (f : Option Refusal). Commanded (by_ops b w) c f o (by_ops l.ops v)) (sym there) (inl (yes.0 ∙ outcome_same w b same c, ap (by_ops l.ops) yes.1 ∙ sym l.is));
            same = subst (λ (u : World). sheet_of u.ops ≡ sheet_of l.ops) (sym yes.1) l.same;
            allowed = l.allowed;
          })
          (λ no. nothing (event.Command c) o v no.2 (subst (λ (f : Option Refusal). Commanded (by_ops b w) c f o (by_ops b w)) (sym there) (inr (no.0, no.1, refl))))
          done

-- Events of children.

goes_same : (b : List Op) (l : Going) (e : Option Ended) (w : World) → goes_on l e (by_ops b w) ≡ by_ops b (goes_on l e w)
goes_same b l None w = refl
goes_same b l (Some e) w = refl

goes_ops : (l : Going) (e : Option Ended) (w : World) → (goes_on l e w).ops ≡ w.ops
goes_ops l None w = refl
goes_ops l (Some e) w = refl

module _ (w : World) (b : List Op) (h : Sound w) (allowed : Allowed b) (same : sheet_of w.ops ≡ sheet_of b) where
  ended : (e : Event) (y : Option Going) (why : Reason) (killed : Bool) (o : Outcome) (v : World) → ((l : Going) → y ≡ Some l → SoundLife w.ops l) → ((u : World) → Ended_by (by_ops b w) y why killed o u → GivesByParts (by_ops b w) e o u)
      → Ended_by w y why killed o v → Follows w b e o v
  ended e None why killed o v life gives given = nothing w b h allowed same e o v given.1 (gives (by_ops b w) (given.0, refl))
  ended e (Some l) why killed o v life gives given =
      let p = kept_at_end w why (Some l) in
      let u = without_life l.name w in
      let c = with_if b p in
      let next = end_allowed w why (Some l) life in
      record {
        ops = c;
        gives = gives (by_ops c v) (given.0, ap (by_ops c) given.1 ∙ sym (if_same b p u));
        same = ap (λ (u : World). sheet_of u.ops) given.1 ∙ sheet_if w b h allowed same p u refl next;
        allowed = allowed_if w b h allowed same p next;
      }

  piece_same : (name : List ℕ) (number : ℕ) (y : Option Going) (piece : List ℕ) (o : Outcome) (v : World) → with_number number (life_of w name) ≡ y → Pieced w y piece o v
      → Follows w b (event.Child name number (child.Piece piece)) o v
  piece_same name number None piece o v is given =
      nothing w b h allowed same (event.Child name number (child.Piece piece)) o v given.1
      (subst (λ (z : Option Going). Pieced (by_ops b w) z piece o (by_ops b w)) (sym is) (given.0, refl))
  piece_same name number (Some l) piece o v is given =
      let s = step_of l.past l.blocks piece given.0 given.1 in
      let p = op_by w.room w.end s.answered s.ended in
      let m = with_piece l piece given.0 in
      let u = goes_on m s.ended w in
      let life = the_life name l w h (numbered number (life_of w name) l is) in
      let next = pieced_allowed (sheet_in w) w.room w.end s.answered s.ended (answer_allowed w l piece given.0 given.1 life) (loses_field w l piece given.0 given.1 life given.2.0) in
      let c = with_if b p in
      let leads : by_ops c v ≡ with_op_if p (goes_on m s.ended (by_ops b w)) = ap (by_ops c) given.2.2 ∙ sym (if_same b p u) ∙ sym (ap (with_op_if p) (goes_same b m s.ended w)) in
      record {
        ops = c;
        gives = subst (λ (z : Option Going). Pieced (by_ops b w) z piece o (by_ops c v)) (sym is) (given.0, given.1, (given.2.0, given.2.1, leads));
        same = ap (λ (t : World). sheet_of t.ops) given.2.2 ∙ sheet_if w b h allowed same p u (goes_ops m s.ended w) next;
        allowed = allowed_if w b h allowed same p next;
      }

  pub follows : (e : Event) (o : Outcome) (v : World) → GivesByParts w e o v → Follows w b e o v
  follows (event.Command c) o v given = commanded w b h allowed same c o v (first_of (command_refusals w c)) refl given
  follows (event.Child name number child.StartRefused) o v given = ended (event.Child name number child.StartRefused) (with_number number (life_of w name)) reason.StartRefused false o v (λ l is. the_life name l w h (numbered number (life_of w name) l is)) (λ u g. g) given
  follows (event.Child name number (child.Piece piece)) o v given = piece_same name number (with_number number (life_of w name)) piece o v refl given
  follows (event.Child name number child.End) o v given = ended (event.Child name number child.End) (with_number number (life_of w name)) reason.Ended true o v (λ l is. the_life name l w h (numbered number (life_of w name) l is)) (λ u g. g) given
  follows (event.Child name number child.ReadFault) o v given = ended (event.Child name number child.ReadFault) (with_number number (life_of w name)) reason.ReadFault true o v (λ l is. the_life name l w h (numbered number (life_of w name) l is)) (λ u g. g) given
  follows (event.Child name number child.SendFault) o v given = ended (event.Child name number child.SendFault) (with_number number (life_of w name)) reason.SendFault true o v (λ l is. the_life name l w h (numbered number (life_of w name) l is)) (λ u g. g) given
  follows (event.Child name number child.Stalled) o v given = ended (event.Child name number child.Stalled) (with_number number (life_of w name)) reason.Stalled true o v (λ l is. the_life name l w h (numbered number (life_of w name) l is)) (λ u g. g) given
  follows (event.Child name number child.StopFault) o v given = nothing w b h allowed same (event.Child name number child.StopFault) o v given.1 (given.0, refl)

-- events one after another
pub record RunsAlike (w : World) (b : List Op) (es : List Event) (os : List Outcome) (v : World) : Type 0 where
  pub ops : List Op
  pub run : Runs (by_ops b w) es os (by_ops ops v)
  pub same : sheet_of v.ops ≡ sheet_of ops
  pub allowed : Allowed ops

pub runs : (w : World) (b : List Op) (es : List Event) (os : List Outcome) (v : World) → Sound w → Allowed b → sheet_of w.ops ≡ sheet_of b → Runs w es os v → RunsAlike w b es os v
runs w b [] [] v h allowed same run = record { ops = b; run = ap (by_ops b) run; same = ap (λ (u : World). sheet_of u.ops) run ∙ same; allowed = allowed }
runs w b [] (o ∷ os) v h allowed same run = absurd run
runs w b (e ∷ es) [] v h allowed same run = absurd run
runs w b (e ∷ es) (o ∷ os) v h allowed same run =
    let f = follows w b h allowed same e o run.0 (by_parts w e o run.0 run.1) in
    let s = stepped w e o run.0 h run.1 in
    let more = runs run.0 f.ops es os v s.sound f.allowed f.same run.2 in
    record { ops = more.ops; run = (by_ops f.ops run.0, by_rows (by_ops b w) e o (by_ops f.ops run.0) f.gives, more.run); same = more.same; allowed = more.allowed }
