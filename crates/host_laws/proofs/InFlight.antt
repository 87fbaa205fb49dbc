-- What waits in the lives that go on.
use Rattle.std.proofs.Common.{◌≡◌, ◌⊎◌, inl, inr, ⊎_elim, ◌+◌, ◌<◌, ◌≤◌, ℕ, zero, suc, List, [], ◌∷◌, ◌++◌, length, drop, refl, ap, sym, ◌∙◌, subst, arith, Bool, true, false, Option, Some, None}
use Rattle.std.specs.Prelude.{if◌then◌else◌, ◌==◌, ◌||◌, nat_eq, option_map}
use Rattle.std.specs.List.{AllByRecursion, list_any}
use Rattle.std.proofs.lemmas.Bool.Decides.{nat_tests}
use Rattle.block_tree.specs.Output.{output}
use Rattle.meta_format.specs.Stream.{Outer}
use Rattle.meta_format.specs.Faults.{Kind}
use Rattle.block_tree.specs.declared.reason.Reason.{Reason}
use Rattle.block_tree.specs.declared.reason.Reason.TheVariants as reason
use Rattle.worksheet.specs.declared.op.Op.{Op}
use Rattle.worksheet.specs.declared.op.Op.TheVariants as op
use Rattle.worksheet.specs.declared.refusal.Refusal.{Refusal}
use Rattle.worksheet.specs.declared.field.Field.{Field}
use Rattle.worksheet.specs.Ops.{field_of, is_about, next_of, sheet_of}
use Rattle.worksheet.specs.Checks.{Allowed, first_of}
use Rattle.worksheet.proofs.Finds.{none_applies}
use Rattle.worksheet.proofs.OneMore.{changed, field_of-push}
use Rattle.plugin_core.specs.declared.item.Item.{Item}
use Rattle.plugin_core.specs.declared.item.Item.TheVariants as item
use Rattle.plugin_core.specs.declared.step.Ended.{Ended}
use Rattle.plugin_core.specs.declared.step.Step.{Step}
use Rattle.plugin_core.specs.declared.step.Answered.{Answered}
use Rattle.plugin_core.specs.declared.step.Answered.TheVariants as answered
use Rattle.plugin_core.specs.Past.{stream_of, items_of}
use Rattle.plugin_core.specs.Answers.{answers_of}
use Rattle.plugin_core.specs.Items.{first_line_of, is_line_of, unanswered}
use Rattle.plugin_core.specs.inside.Words.{ended_by}
use Rattle.plugin_core.specs.Steps.{step_of}
use Rattle.plugin_core.proofs.OneMore.{waiting_of-accepted}
use Rattle.plugin_core.proofs.ByAskPoints.{reads_lie}
use Rattle.host_events.specs.declared.command.Command.{Command}
use Rattle.host_events.specs.declared.command.Command.TheVariants as command
use Rattle.host_events.specs.declared.event.ChildEvent.{ChildEvent}
use Rattle.host_events.specs.declared.event.ChildEvent.TheVariants as child
use Rattle.host_events.specs.declared.event.Event.{Event}
use Rattle.host_events.specs.declared.event.Event.TheVariants as event
use Rattle.host_events.specs.declared.outcome.Outcome.{Outcome}
use Rattle.session_engine.specs.World.{World, Going, world_at_opening, kept_at_end, life_of, session_of_field, input_of, waiting_in, with_number, with_op_if}
use Rattle.session_engine.specs.inside.Words.{line_of_field, waits_in, renewed, with_op, begun_with, joined_by, with_piece}
use Rattle.session_engine.specs.Refused.{command_refusals}
use Rattle.session_engine.specs.Does.{Gives, Runs, op_by}
use Rattle.session_engine.specs.inside.Parts.{goes_on, with_item, without_life}
use Rattle.host_laws.specs.inside.Given.{Childed, Commanded, Ended_by, GivesByParts, Pieced, after}
use Rattle.host_laws.specs.Laws.{NothingIsShownInFlight, WaitsForField, lines_among, lines_waiting}
use Rattle.session_engine.specs.inside.Commits.{kept_for}
use Rattle.host_laws.proofs.ByParts.{by_parts}
use Rattle.session_engine.proofs.Losing.{if_lost, if_stopped}
use Rattle.session_engine.proofs.Stopping.{without_none_here}
use Rattle.host_laws.proofs.ApartFields.{HasOwner}
use Rattle.host_laws.proofs.ApartOwners.{Owned, OwnsItems, opened_owned, owned_step}
use Rattle.host_laws.proofs.FieldLaws.{HasInput, is_there}
use Rattle.host_laws.proofs.Living.{HasLine, Sound, SoundLife, the_life}
use Rattle.host_laws.proofs.Showing.{stepped}
use Rattle.host_laws.proofs.Going.{sound}
use Rattle.host_laws.proofs.Totals.{total, total-put, total-out, total-push}
use Rattle.host_laws.proofs.Numbers.{its_own, with_its_number}
use Rattle.host_laws.proofs.LinesAmong.{answers_one, after_piece, first_one, lines-push, none_among, one_of}

-- A field in flight shows no answer and no reason, and one of its lines waits.

abbrev pub lines_of : ℕ → Going → ℕ
lines_of id l = lines_among id (waiting_in l)

abbrev pub Bare : Field → Type 0
Bare f = (f.answer ≡ None) × (f.lost ≡ None)

abbrev pub IsQuiet : ℕ → World → Type 0
IsQuiet id w = (total (lines_of id) w.lives ≡ 0) ⊎ ((total (lines_of id) w.lives ≡ 1) × Bare (field_of w.ops id))

none_waits : (id : ℕ) (ls : List Going) → waits_in ls id ≡ false → total (lines_of id) ls ≡ 0
none_waits id [] h = refl
none_waits id (l ∷ ls) h = go (list_any (λ i. is_line_of id i) (waiting_in l)) refl h (none_waits id ls)
  where
    go : (b : Bool) → list_any (λ i. is_line_of id i) (waiting_in l) ≡ b → (b || waits_in ls id) ≡ false → (waits_in ls id ≡ false → total (lines_of id) ls ≡ 0) → lines_of id l + total (lines_of id) ls ≡ 0
    go true e h rest = cc
    go false e h rest = let one = none_among id (waiting_in l) e in let more = rest h in omega (arith, one, more)

-- an op that gives this field no answer and no reason
abbrev GivesNone : ℕ → Op → Type 0
GivesNone id (op.Session name tab words) = Unit {0}
GivesNone id (op.New after session input) = Unit {0}
GivesNone id (op.Set other input) = Unit {0}
GivesNone id (op.Remove other) = Unit {0}
GivesNone id (op.Move other after) = Unit {0}
GivesNone id (op.Clear other) = Unit {0}
GivesNone id (op.Answer other prompt output) = (other == id) ≡ false
GivesNone id (op.Lost other why) = (other == id) ≡ false
GivesNone id (op.Ids number) = Unit {0}

still_none : (os : List Op) (o : Op) (id : ℕ) → GivesNone id o → Bare (field_of os id) → Bare (field_of (os ++ o ∷ []) id)
still_none os o id h none = subst Bare (sym (field_of-push os o id)) (go o (is_about id (next_of os) o) refl h)
  where
    go : (p : Op) (b : Bool) → is_about id (next_of os) p ≡ b → GivesNone id p → Bare (if b then changed p (field_of os id) else field_of os id)
    go p false e h = none
    go (op.Session name tab words) true e h = none
    go (op.New after session input) true e h = (refl, refl)
    go (op.Set other input) true e h = (refl, refl)
    go (op.Remove other) true e h = none
    go (op.Move other after) true e h = none
    go (op.Clear other) true e h = (refl, refl)
    go (op.Answer other prompt output) true e h = absurd (let no : true ≡ false = sym e ∙ h in cc)
    go (op.Lost other why) true e h = absurd (let no : true ≡ false = sym e ∙ h in cc)
    go (op.Ids number) true e h = none

cleared_none : (os : List Op) (id : ℕ) → Bare (field_of (os ++ op.Clear id ∷ []) id)
cleared_none os id =
    let here : (id == id) ≡ true = grind (arith, nat_tests) in
    subst Bare (sym (field_of-push os (op.Clear id) id)) (subst (λ (b : Bool). Bare (if b then changed (op.Clear id) (field_of os id) else field_of os id)) (sym here) (refl, refl))

module _ (id : ℕ) where
  -- no line more, and no answer
  fewer : (w v : World) → total (lines_of id) v.lives ≤ total (lines_of id) w.lives → (Bare (field_of w.ops id) → Bare (field_of v.ops id)) → IsQuiet id w → IsQuiet id v
  fewer w v le keeps (inl nil) = inl (omega (arith, le, nil))
  fewer w v le keeps (inr one) = go (total (lines_of id) v.lives == 0) refl
    where
      go : (b : Bool) → (total (lines_of id) v.lives == 0) ≡ b → IsQuiet id v
      go true e = inl (grind (arith, nat_tests, e))
      go false e = let some = one.0 in inr (grind (arith, nat_tests, e, le, some), keeps one.1)

  same : (w v : World) → v ≡ w → IsQuiet id w → IsQuiet id v
  same w v e h = subst (λ (u : World). IsQuiet id u) (sym e) h

  with_one : (w : World) (o : Op) → GivesNone id o → IsQuiet id w → IsQuiet id (with_op o w)
  with_one w o none h = fewer w (with_op o w) (omega arith) (still_none w.ops o id none) h

  gone : (w : World) (l : Going) → life_of w l.name ≡ Some l → IsQuiet id w → IsQuiet id (without_life l.name w)
  gone w l own h = fewer w (without_life l.name w) (let t = total-out (lines_of id) l.name l w.lives own in omega (arith, t)) (λ none. none) h

  stopped : (w : World) (name : List ℕ) → IsQuiet id w → IsQuiet id (without_life name w)
  stopped w name h = go (life_of w name) refl
    where
      go : (o : Option Going) → life_of w name ≡ o → IsQuiet id (without_life name w)
      go None e = same w (without_life name w) (without_none_here w name e) h
      go (Some l) e = fewer w (without_life name w) (let t = total-out (lines_of id) name l w.lives e in omega (arith, t)) (λ none. none) h

  -- no answer of a line
  not_answered : (w u : World) → u.ops ≡ w.ops → total (lines_of id) u.lives ≤ total (lines_of id) w.lives → IsQuiet id w → IsQuiet id u
  not_answered w u ops le h = fewer w u le (λ none. subst (λ (os : List Op). Bare (field_of os id)) (sym ops) none) h

  -- a reason of a line that waits no more
  lost_one : (w u : World) (other : ℕ) (why : Reason) → u.ops ≡ w.ops → total (lines_of id) u.lives + one_of other id ≤ total (lines_of id) w.lives → IsQuiet id w → IsQuiet id (with_op (op.Lost other why) u)
  lost_one w u other why ops le h = go (nat_eq other id) refl le
    where
      go : (b : Bool) → nat_eq other id ≡ b → total (lines_of id) u.lives + (if b then 1 else 0) ≤ total (lines_of id) w.lives → IsQuiet id (with_op (op.Lost other why) u)
      go true e le = inl (⊎_elim (λ nil. absurd (omega (arith, nil, le))) (λ one. let some = one.0 in omega (arith, some, le)) h)
      go false e le =
          fewer w (with_op (op.Lost other why) u) (omega (arith, le))
          (λ none. subst (λ (os : List Op). Bare (field_of (os ++ op.Lost other why ∷ []) id)) (sym ops) (still_none w.ops (op.Lost other why) id e none)) h

  -- the same of the first of items that wait no more, where it is kept
  with_lost : (w u : World) (room end : ℕ) (why : Reason) (items : List Item) → u.ops ≡ w.ops → total (lines_of id) u.lives + lines_among id items ≤ total (lines_of id) w.lives
      → IsQuiet id w → IsQuiet id (with_op_if (kept_for room end why (first_line_of items)) u)
  with_lost w u room end why items ops le h = if_lost (λ p. IsQuiet id (with_op_if p u)) room end why (first_line_of items) (not_answered w u ops (omega (arith, le)) h)
      (λ other e. lost_one w u other why ops (let one = first_one id items other e in omega (arith, one, le)) h)

  -- a line more
  line_more : (w : World) (name : List ℕ) (i : Item) (o : Option Going) → life_of w name ≡ o → Sound w
      → total (lines_of id) (with_item w name i o).lives ≡ total (lines_of id) w.lives + (if is_line_of id i then 1 else 0)
  line_more w name i None e h = let t = total-push (lines_of id) w.lives (begun_with w name i) in omega (arith, t)
  line_more w name i (Some l) e h =
      let t = total-put (lines_of id) l.name l (joined_by l i) w.lives (its_own w name l e) in
      let reads = (the_life name l w h e).reads in
      let more : lines_of id (joined_by l i) ≡ lines_of id l + (if is_line_of id i then 1 else 0) =
      ap (lines_among id) (waiting_of-accepted l.past l.blocks i (reads_lie (stream_of l.past) l.blocks None reads)) ∙ lines-push id (waiting_in l) i in
      omega (arith, t, more)

  item_ops : (w : World) (name : List ℕ) (i : Item) (o : Option Going) → (with_item w name i o).ops ≡ w.ops
  item_ops w name i None = refl
  item_ops w name i (Some l) = refl

  evaluated : (w : World) (other : ℕ) → Sound w → first_of (command_refusals w (command.Eval other)) ≡ None → IsQuiet id w → IsQuiet id (after w (command.Eval other))
  evaluated w other s first h = go (nat_eq other id) refl
    where
      u : World
      u = with_item w (session_of_field w other) (line_of_field w other) (life_of w (session_of_field w other))

      more : total (lines_of id) (with_item w (session_of_field w other) (line_of_field w other) (life_of w (session_of_field w other))).lives ≡ total (lines_of id) w.lives + (if nat_eq other id then 1 else 0)
      more = line_more w (session_of_field w other) (line_of_field w other) (life_of w (session_of_field w other)) refl s

      go : (b : Bool) → nat_eq other id ≡ b → IsQuiet id (after w (command.Eval other))
      go true e =
          let is : other ≡ id = grind (arith, nat_tests, e) in
          let free = none_waits other w.lives (none_applies (command_refusals w (command.Eval other)) first).1.0 in
          let nil : total (lines_of id) w.lives ≡ 0 = subst (λ (n : ℕ). total (lines_of n) w.lives ≡ 0) is free in
          let one : one_of other id ≡ 1 = rw e refl in
          inr (
            omega (arith, more, nil, one),
            subst (λ (n : ℕ). Bare (field_of (after w (command.Eval other)).ops n)) is
                (cleared_none (with_item w (session_of_field w other) (line_of_field w other) (life_of w (session_of_field w other))).ops other),
          )
      go false e =
          let none : one_of other id ≡ 0 = rw e refl in
          let ops = item_ops w (session_of_field w other) (line_of_field w other) (life_of w (session_of_field w other)) in
          fewer w (after w (command.Eval other)) (omega (arith, more, none))
          (λ quiet. subst (λ (os : List Op). Bare (field_of (os ++ op.Clear other ∷ []) id)) (sym ops) (still_none w.ops (op.Clear other) id tt quiet)) h

  -- no line more, and the same ops
  completed : (w : World) (other cursor : ℕ) (text : List ℕ) → Sound w → IsQuiet id w → IsQuiet id (after w (command.CompleteText other cursor text))
  completed w other cursor text s h =
      let name = session_of_field w other in
      let i = item.Complete other text cursor in
      let more = line_more w name i (life_of w name) refl s in
      let ops = item_ops w name i (life_of w name) in
      fewer w (after w (command.CompleteText other cursor text)) (omega (arith, more)) (λ quiet. subst (λ (os : List Op). Bare (field_of os id)) (sym ops) quiet) h

  accepted_so : (w : World) (c : Command) → Sound w → first_of (command_refusals w c) ≡ None → IsQuiet id w → IsQuiet id (after w c)
  accepted_so w (command.Session name tab words) s first h = with_one w (op.Session name tab words) tt h
  accepted_so w (command.New place session input) s first h = with_one w (op.New place session input) tt h
  accepted_so w (command.Set other input) s first h = with_one w (op.Set other input) tt h
  accepted_so w (command.Remove other) s first h = with_one w (op.Remove other) tt h
  accepted_so w (command.Move other place) s first h = with_one w (op.Move other place) tt h
  accepted_so w (command.Clear other) s first h = with_one w (op.Clear other) tt h
  accepted_so w (command.Eval other) s first h = evaluated w other s first h
  accepted_so w (command.Complete other cursor) s first h = completed w other cursor (input_of w other) s h
  accepted_so w (command.CompleteText other cursor text) s first h = completed w other cursor text s h
  accepted_so w (command.Stop name) s first h =
      if_stopped (λ p. IsQuiet id (with_op_if p (without_life name w))) w reason.Stopped (life_of w name) (stopped w name h)
      (
      λ l other e f. lost_one w (without_life name w) other reason.Stopped refl
      (let t = total-out (lines_of id) name l w.lives e in let one = first_one id (waiting_in l) other f in omega (arith, t, one)) h
      )
  accepted_so w command.Checkpoint s first h = fewer w (renewed w) (omega arith) (λ none. none) h

  commanded_so : (w : World) (c : Command) (o : Outcome) (v : World) (r : Option Refusal) → first_of (command_refusals w c) ≡ r → Sound w → Commanded w c r o v → IsQuiet id w → IsQuiet id v
  commanded_so w c o v (Some r) first s done h = same w v done.1 h
  commanded_so w c o v None first s (inl done) h = same (after w c) v done.1 (accepted_so w c s first h)
  commanded_so w c o v None first s (inr done) h = same w v done.2 h

  ended_so : (w : World) (x : Option Going) (why : Reason) (killed : Bool) (o : Outcome) (v : World) → ((l : Going) → x ≡ Some l → life_of w l.name ≡ Some l) → Ended_by w x why killed o v
      → IsQuiet id w → IsQuiet id v
  ended_so w None why killed o v own done h = same w v done.1 h
  ended_so w (Some l) why killed o v own done h = same (with_op_if (kept_at_end w why (Some l)) (without_life l.name w)) v done.1
      (
      with_lost w (without_life l.name w) w.room w.end why (waiting_in l) refl (let t = total-out (lines_of id) l.name l w.lives (own l refl) in omega (arith, t)) h
      )

  -- a piece takes the line that it answers out of those that wait
  on_piece : (w : World) (l m : Going) (e : Option Ended) (one : ℕ) → m.name ≡ l.name → life_of w l.name ≡ Some l → lines_of id m + one ≡ lines_of id l
      → total (lines_of id) (goes_on m e w).lives + one ≤ total (lines_of id) w.lives
  on_piece w l m None one name own less =
      let t = total-put (lines_of id) m.name l m w.lives (subst (λ (n : List ℕ). life_of w n ≡ Some l) (sym name) own) in
      omega (arith, t, less)
  on_piece w l m (Some e) one name own less =
      let t = total-out (lines_of id) m.name l w.lives (subst (λ (n : List ℕ). life_of w n ≡ Some l) (sym name) own) in
      omega (arith, t, less)

  piece_ops : (m : Going) (e : Option Ended) (w : World) → (goes_on m e w).ops ≡ w.ops
  piece_ops m None w = refl
  piece_ops m (Some e) w = refl

  -- and where it ends the life, all that waits
  more_lost : (w : World) (l m : Going) (fault : Option Kind) (one : ℕ) → m.name ≡ l.name → life_of w l.name ≡ Some l → lines_of id m + one ≡ lines_of id l
      → (x : Ended) → option_map (ended_by m.past m.blocks) fault ≡ Some x
      → total (lines_of id) (goes_on m (option_map (ended_by m.past m.blocks) fault) w).lives + lines_among id x.lost + one ≤ total (lines_of id) w.lives
  more_lost w l m None one name own less x e = cc
  more_lost w l m (Some kind) one name own less x e =
      let is : ended_by m.past m.blocks kind ≡ x = cc in
      let t = total-out (lines_of id) m.name l w.lives (subst (λ (n : List ℕ). life_of w n ≡ Some l) (sym name) own) in
      subst (λ (y : Ended). total (lines_of id) (goes_on m (Some (ended_by m.past m.blocks kind)) w).lives + lines_among id y.lost + one ≤ total (lines_of id) w.lives) is (omega (arith, t, less))

  answered_so : (w u : World) (room end : ℕ) (a : Option Answered) (e : Option Ended) → u.ops ≡ w.ops → total (lines_of id) u.lives + answers_one id a ≤ total (lines_of id) w.lives
      → ((x : Ended) → e ≡ Some x → total (lines_of id) u.lives + lines_among id x.lost + answers_one id a ≤ total (lines_of id) w.lives) → IsQuiet id w → IsQuiet id (with_op_if (op_by room end a e) u)
  answered_so w u room end None None ops le more h = not_answered w u ops (omega (arith, le)) h
  answered_so w u room end None (Some x) ops le more h = with_lost w u room end x.reason x.lost ops (let m = more x refl in omega (arith, m)) h
  answered_so w u room end (Some (answered.Banner b)) None ops le more h = not_answered w u ops (omega (arith, le)) h
  answered_so w u room end (Some (answered.Banner b)) (Some x) ops le more h = with_lost w u room end x.reason x.lost ops (let m = more x refl in omega (arith, m)) h
  answered_so w u room end (Some (answered.Line other prompt out)) x ops le more h = go (nat_eq other id) refl le
    where
      go : (b : Bool) → nat_eq other id ≡ b → total (lines_of id) u.lives + (if b then 1 else 0) ≤ total (lines_of id) w.lives → IsQuiet id (with_op (op.Answer other prompt out) u)
      go true e le = inl (⊎_elim (λ nil. absurd (omega (arith, nil, le))) (λ one. let some = one.0 in omega (arith, some, le)) h)
      go false e le =
          fewer w (with_op (op.Answer other prompt out) u) (omega (arith, le))
          (λ none. subst (λ (os : List Op). Bare (field_of (os ++ op.Answer other prompt out ∷ []) id)) (sym ops) (still_none w.ops (op.Answer other prompt out) id e none)) h
  answered_so w u room end (Some (answered.Complete other result)) x ops le more h = not_answered w u ops (omega (arith, le)) h

  pieced_so : (w : World) (x : Option Going) (piece : List ℕ) (o : Outcome) (v : World) → Sound w → ((l : Going) → x ≡ Some l → life_of w l.name ≡ Some l) → Pieced w x piece o v → IsQuiet id w → IsQuiet id v
  pieced_so w None piece o v s own done h = same w v done.1 h
  pieced_so w (Some l) piece o v s own done h =
      let t : Step = step_of l.past l.blocks piece done.0 done.1 in
      let m : Going = with_piece l piece done.0 in
      let less = after_piece id l.past l.blocks done.0 piece done.1 (the_life l.name l w s (own l refl)).reads done.2.0 in
      same (with_op_if (op_by w.room w.end t.answered t.ended) (goes_on m t.ended w)) v done.2.2
      (answered_so w (goes_on m t.ended w) w.room w.end t.answered t.ended (piece_ops m t.ended w) (on_piece w l m t.ended (answers_one id t.answered) refl (own l refl) less)
      (more_lost w l m done.1 (answers_one id t.answered) refl (own l refl) less) h)

  childed_so : (w : World) (x : Option Going) (e : ChildEvent) (o : Outcome) (v : World) → Sound w → ((l : Going) → x ≡ Some l → life_of w l.name ≡ Some l) → Childed w x e o v → IsQuiet id w → IsQuiet id v
  childed_so w x child.StartRefused o v s own done h = ended_so w x _ _ o v own done h
  childed_so w x (child.Piece piece) o v s own done h = pieced_so w x piece o v s own done h
  childed_so w x child.End o v s own done h = ended_so w x _ _ o v own done h
  childed_so w x child.ReadFault o v s own done h = ended_so w x _ _ o v own done h
  childed_so w x child.SendFault o v s own done h = ended_so w x _ _ o v own done h
  childed_so w x child.Stalled o v s own done h = ended_so w x _ _ o v own done h
  childed_so w x child.StopFault o v s own done h = same w v done.1 h

  quiet_step : (w : World) (e : Event) (o : Outcome) (v : World) → Sound w → GivesByParts w e o v → IsQuiet id w → IsQuiet id v
  quiet_step w (event.Command c) o v s g h = commanded_so w c o v (first_of (command_refusals w c)) refl s g h
  quiet_step w (event.Child name number e) o v s g h =
      childed_so w (with_number number (life_of w name)) e o v s (λ l is. its_own w name l (with_its_number number (life_of w name) l is)) g h

-- Along a run.

pub record Waits (w : World) : Type 0 where
  pub sound_so : Sound w
  pub owned : Owned w
  pub quiet : (id : ℕ) → IsQuiet id w

pub waits_step : (w : World) (e : Event) (o : Outcome) (v : World) → Waits w → Gives w e o v → Waits v
waits_step w e o v h g = record {
  sound_so = (stepped w e o v h.sound_so g).sound;
  owned = owned_step w e o v h.owned (by_parts w e o v g);
  quiet = λ id. quiet_step id w e o v h.sound_so (by_parts w e o v g) (h.quiet id);
}

waits_run : (w : World) (es : List Event) (os : List Outcome) (v : World) → Waits w → Runs w es os v → Waits v
waits_run w [] [] v h run = subst Waits (sym run) h
waits_run w [] (o ∷ os) v h run = absurd run
waits_run w (e ∷ es) [] v h run = absurd run
waits_run w (e ∷ es) (o ∷ os) v h run = waits_run run.0 es os v (waits_step w e o run.0 h run.1) run.2

-- In the words of the law.

all_drop : (P : Item → Type 0) (k : ℕ) (items : List Item) → AllByRecursion P items → AllByRecursion P (drop k items)
all_drop P zero items all = all
all_drop P (suc k) [] all = tt
all_drop P (suc k) (i ∷ items) all = all_drop P k items all.1

all_waiting : (P : Item → Type 0) (answers : List Outer) (items : List Item) → AllByRecursion P items → AllByRecursion P (unanswered answers items)
all_waiting P [] items all = all
all_waiting P (a ∷ answers) items all = all_drop P (length answers) items all

module _ (os : List Op) (allowed : Allowed os) where
  items_wait : (name : List ℕ) (items : List Item) → ((id : ℕ) → 0 < lines_among id items → Bare (field_of os id)) → AllByRecursion (HasLine os) items → AllByRecursion (HasOwner os name) items
      → AllByRecursion (WaitsForField (sheet_of os) name) items
  items_wait name [] quiet has own = tt
  items_wait name (item.Line id text ∷ items) quiet has own =
      let line : HasInput os id text = has.0 in
      let is : field_of os id ≡ line.field = (is_there os id line.field allowed line.found).is in
      let here : one_of id id ≡ 1 = (let e : nat_eq id id ≡ true = grind (arith, nat_tests) in rw e refl) in (
        (
          line.field,
          line.found,
          ap (λ (f : Field). f.session) (sym is) ∙ own.0.1,
          line.input,
          ap (λ (f : Field). f.answer) (sym is) ∙ (quiet id (omega (arith, here))).0,
          ap (λ (f : Field). f.lost) (sym is) ∙ (quiet id (omega (arith, here))).1,
        ),
        items_wait name items (λ other lt. quiet other (omega (arith, lt))) has.1 own.1,
      )
  items_wait name (item.Complete id text cursor ∷ items) quiet has own = (tt, items_wait name items (λ other lt. quiet other (omega (arith, lt))) has.1 own.1)

  lives_wait : (ls : List Going) → ((id : ℕ) → 0 < total (lines_of id) ls → Bare (field_of os id)) → AllByRecursion (SoundLife os) ls → AllByRecursion (OwnsItems os) ls
      → AllByRecursion (λ l. AllByRecursion (WaitsForField (sheet_of os) l.name) (waiting_in l)) ls
  lives_wait [] quiet lives own = tt
  lives_wait (l ∷ ls) quiet lives own = (
    items_wait l.name (waiting_in l) (λ id lt. quiet id (omega (arith, lt))) lives.0.lines (all_waiting (HasOwner os l.name) (answers_of l.past l.blocks) (items_of l.past) own.0),
    lives_wait ls (λ id lt. quiet id (omega (arith, lt))) lives.1 own.1,
  )

lines_are : (id : ℕ) (ls : List Going) → lines_waiting id ls ≡ total (lines_of id) ls
lines_are id [] = refl
lines_are id (l ∷ ls) = let more = lines_are id ls in omega (arith, more)

pub nothing_is_shown_in_flight : NothingIsShownInFlight
nothing_is_shown_in_flight ops room end es os v allowed run = (
  lives_wait v.ops h.sound_so.allowed v.lives (λ id lt. ⊎_elim (λ nil. absurd (omega (arith, nil, lt))) (λ one. one.1) (h.quiet id)) h.sound_so.lives h.owned.lives,
  λ id. let e = lines_are id v.lives in ⊎_elim (λ nil. omega (arith, e, nil)) (λ one. let some = one.0 in omega (arith, e, some)) (h.quiet id),
)
  where
    h : Waits v
    h = waits_run (world_at_opening ops room end) es os v (record { sound_so = sound ops room end allowed; owned = opened_owned (world_at_opening ops room end) (refl, allowed); quiet = λ id. inl refl }) run
