-- What an event does to what a field shows.
use Rattle.std.proofs.Common.{◌≡◌, ◌⊎◌, inl, inr, ⊎_elim, ℕ, suc, List, [], ◌∷◌, ◌++◌, length, drop, refl, ap, sym, ◌∙◌, subst, Bool, true, false, Option, Some, None}
use Rattle.std.specs.Prelude.{if◌then◌else◌, ◌==◌, is_some, slice_get, option_map, option_and_then}
use Rattle.std.specs.List.{AllByRecursion}
use Rattle.block_tree.specs.Tree.{Tree}
use Rattle.block_tree.specs.Output.{output}
use Rattle.meta_format.specs.Stream.{Outer}
use Rattle.meta_format.specs.Faults.{Kind}
use Rattle.worksheet.specs.declared.op.Op.{Op}
use Rattle.worksheet.specs.declared.op.Op.TheVariants as op
use Rattle.worksheet.specs.declared.refusal.Refusal.{Refusal}
use Rattle.worksheet.specs.declared.field.Field.{Field}
use Rattle.worksheet.specs.declared.field.Answer.{Answer}
use Rattle.worksheet.specs.Ops.{sheet_of, field_of}
use Rattle.worksheet.specs.Checks.{has_field, field_in, first_of, first_refusal, refusals}
use Rattle.worksheet.proofs.Finds.{none_applies, true_from_not}
use Rattle.plugin_core.specs.declared.item.Item.{Item}
use Rattle.plugin_core.specs.declared.item.Item.TheVariants as item
use Rattle.plugin_core.specs.declared.step.Answered.{Answered}
use Rattle.plugin_core.specs.declared.step.Ended.{Ended}
use Rattle.plugin_core.specs.declared.step.Answered.TheVariants as answered
use Rattle.block_tree.specs.declared.reason.Reason.{Reason}
use Rattle.block_tree.specs.declared.reason.Reason.TheVariants as reason
use Rattle.plugin_core.specs.Past.{received, stream_of, items_of}
use Rattle.plugin_core.specs.Past.{Event as LifeEvent}
use Rattle.plugin_core.specs.Answers.{answers_of}
use Rattle.plugin_core.specs.Items.{first_line_of, unanswered, waiting_of, prompt_of, answer_following, answer_to}
use Rattle.plugin_core.specs.Steps.{Reads, step_of}
use Rattle.plugin_core.specs.inside.Words.{answered_with}
use Rattle.plugin_core.specs.Steps.{closed_by as closed_in}
use Rattle.plugin_core.proofs.ByAskPoints.{reads_lie, by_events}
use Rattle.plugin_core.proofs.Prompts.{short_prompts}
use Rattle.host_events.specs.declared.command.Command.{Command}
use Rattle.host_events.specs.declared.command.Command.TheVariants as command
use Rattle.host_events.specs.declared.event.ChildEvent.{ChildEvent}
use Rattle.host_events.specs.declared.event.ChildEvent.TheVariants as child
use Rattle.host_events.specs.declared.event.Event.{Event}
use Rattle.host_events.specs.declared.event.Event.TheVariants as event
use Rattle.host_events.specs.declared.outcome.Outcome.{Outcome}
use Rattle.host_events.specs.Commands.{op_of}
use Rattle.session_engine.specs.World.{World, Going, kept_at_end, sheet_in, waiting_in, life_of, session_of_field, input_of, with_number, with_op_if}
use Rattle.session_engine.specs.inside.Words.{line_of_field, with_op, with_piece, full}
use Rattle.session_engine.specs.inside.Parts.{with_life, without_life, with_item, goes_on}
use Rattle.session_engine.specs.Does.{op_by}
use Rattle.session_engine.specs.Refused.{command_refusals, refusals_but_room}
use Rattle.host_laws.specs.inside.Given.{after, Commanded, Ended_by, Pieced, GivesByParts}
use Rattle.session_engine.specs.inside.Commits.{AllowedIf, HasFieldIf, IsOfField, LosesField, answer_op, kept_for}
use Rattle.session_engine.specs.Does.{Gives}
use Rattle.host_laws.proofs.ByParts.{by_parts, op_after}
use Rattle.session_engine.proofs.Fields.{allowed_answer, waiting_still}
use Rattle.host_laws.proofs.Growing.{Answers, one_answer}
use Rattle.session_engine.proofs.Losing.{first_has, if_lost, kept_allowed, line_allowed}
use Rattle.session_engine.proofs.Changing.{as_op, first_before, allowed_by}
use Rattle.session_engine.proofs.Asking.{line_is}
use Rattle.session_engine.proofs.Standing.{all_at}
use Rattle.session_engine.proofs.Tables.{first_has_name}
use Rattle.host_laws.specs.Turns.{Has, ClosesAnswer}
use Rattle.worksheet.proofs.Existence.{allowed_goes_on}
use Rattle.host_laws.proofs.FieldLaws.{HasInput, AnsweredBy, by_op, is_there, now_answered}
use Rattle.host_laws.proofs.ApartFields.{HasOwner}
use Rattle.host_laws.proofs.ApartOwners.{Owned, OwnsItems}
use Rattle.host_laws.proofs.Living.{HasLine, SoundLife, Sound, gone, put, the_life, asked, pieced, committed, every_line, checked}
use Rattle.host_laws.proofs.Dropped.{drop_at, first_dropped, first_got, last_of}

-- Where an event has led: what holds everywhere holds there, and a field that shows an answer did so before, or the event closed it.
pub record Stepped (w : World) (e : Event) (v : World) : Type 0 where
  pub sound : Sound v
  pub shown : Owned w → (f : Field) (a : Answer) → f.answer ≡ Some a → Has (sheet_in v) f → Has (sheet_in w) f ⊎ ClosesAnswer w e f

pub stays : (w : World) (e : Event) (v : World) → Sound w → v ≡ w → Stepped w e v
stays w e v h is = subst (λ (x : World). Stepped w e x) (sym is) (record { sound = h; shown = λ own f a some has. inl has })

-- Ops of commands.

pub first_part : (rs qs : List (Refusal × Bool)) → first_of (rs ++ qs) ≡ None → first_of rs ≡ None
first_part rs qs h = go (first_of rs) refl
  where
    go : (x : Option Refusal) → first_of rs ≡ x → first_of rs ≡ None
    go None e = e
    go (Some r) e = absurd (let no : Some r ≡ None = sym (first_before rs qs r e) ∙ h in cc)

with_command_op : (w : World) (e : Event) (o : Op) → Sound w → first_of (refusals_but_room w o) ≡ None → ((id : ℕ) (prompt : List ℕ) (out : Tree) → o ≡ op.Answer id prompt out → ⊥) → Stepped w e (with_op o w)
with_command_op w e o h free other = record {
  sound = committed o w h (allowed_by w o free) (checked w o free);
  shown = λ own f a some has. ⊎_elim (λ same. inl same) (λ by. absurd (other f.id by.prompt by.output by.is)) (by_op w.ops f a h.allowed some o (allowed_by w o free) has);
}

-- An answer.

-- an op of an answer is that of a block which is the next answer
pub record IsClosing (os : List Op) (past : List LifeEvent) (before after : List Outer) (piece : List ℕ) (id : ℕ) (prompt : List ℕ) (out : Tree) : Type 0 where
  line : ℕ
  text : List ℕ
  asked : slice_get (items_of past) line ≡ Some (item.Line id text)
  block : Outer
  answers : slice_get (answers_of (past ++ received piece ∷ []) after) (suc line) ≡ Some block
  prompt_is : prompt ≡ prompt_of past before
  out_is : out ≡ output block.block
  waits : HasInput os id text
  first : waiting_of past before ≡ item.Line id text ∷ drop (suc line) (items_of past)
  newest : slice_get (answers_of (past ++ received piece ∷ []) after) (length (answers_of past before)) ≡ Some block

module _ (os : List Op) (past : List LifeEvent) (before after : List Outer) (piece : List ℕ) (id : ℕ) (prompt : List ℕ) (out : Tree) (all : AllByRecursion (HasLine os) (waiting_of past before)) where
  by_item : (a : Outer) (ys : List Outer) (b : Outer) (i : Option Item) → answers_of past before ≡ a ∷ ys → slice_get (answers_of (past ++ received piece ∷ []) after) (suc (length ys)) ≡ Some b → slice_get (items_of past) (length ys) ≡ i
      → option_map (λ i. answer_to i (prompt_of past before) (output b.block)) i ≡ Some (answered.Line id prompt out) → IsClosing os past before after piece id prompt out
  by_item a ys b None e f g h = cc
  by_item a ys b (Some (item.Line other text)) e f g h =
      let same : answered.Line other (prompt_of past before) (output b.block) ≡ answered.Line id prompt out = cc in
      let number : other ≡ id = cc in
      let here : slice_get (items_of past) (length ys) ≡ Some (item.Line id text) = g ∙ ap (λ (n : ℕ). Some (item.Line n text)) number in
      record {
        line = length ys;
        text = text;
        asked = here;
        block = b;
        answers = f;
        prompt_is = cc;
        out_is = cc;
        first = ap (λ (l : List Outer). unanswered l (items_of past)) e ∙ drop_at (length ys) (items_of past) (item.Line id text) here;
        newest = ap (λ (l : List Outer). slice_get (answers_of (past ++ received piece ∷ []) after) (length l)) e ∙ f;
        waits = first_dropped (HasLine os) (length ys) (items_of past) (item.Line id text) here (subst (λ (l : List Outer). AllByRecursion (HasLine os) (unanswered l (items_of past))) e all);
      }
  by_item a ys b (Some (item.Complete other text cursor)) e f g h = cc

  by_answers : (ys : List Outer) (b : Outer) → answers_of past before ≡ ys → slice_get (answers_of (past ++ received piece ∷ []) after) (length ys) ≡ Some b
      → answer_following ys (items_of past) (prompt_of past before) b.block ≡ Some (answered.Line id prompt out) → IsClosing os past before after piece id prompt out
  by_answers [] b e f h = cc
  by_answers (a ∷ ys) b e f h = by_item a ys b (slice_get (items_of past) (length ys)) e f refl h

  by_block : (o : Option Outer) → closed_in past before (received piece) after ≡ o → option_and_then (answered_with past before) o ≡ Some (answered.Line id prompt out) → IsClosing os past before after piece id prompt out
  by_block None e h = cc
  by_block (Some b) e h = by_answers (answers_of past before) b refl e h

  closing : option_and_then (answered_with past before) (closed_in past before (received piece) after) ≡ Some (answered.Line id prompt out) → IsClosing os past before after piece id prompt out
  closing h = by_block (closed_in past before (received piece) after) refl h

-- so it is allowed
has_fields : (os : List Op) (items : List Item) → AllByRecursion (HasLine os) items → AllByRecursion (IsOfField (sheet_of os)) items
has_fields os [] all = tt
has_fields os (item.Line id text ∷ items) all = (ap (λ (f : Option Field). is_some f) all.0.found, has_fields os items all.1)
has_fields os (item.Complete id text cursor ∷ items) all = (tt, has_fields os items all.1)

pub answer_allowed : (w : World) (l : Going) (piece : List ℕ) (after : List Outer) (fault : Option Kind) → SoundLife w.ops l → AllowedIf (sheet_in w) (answer_op (step_of l.past l.blocks piece after fault).answered)
answer_allowed w l piece after fault h = go (closed_in l.past l.blocks (received piece) after)
  where
    go : (o : Option Outer) → AllowedIf (sheet_in w) (answer_op (option_and_then (answered_with l.past l.blocks) o))
    go None = tt
    go (Some b) = allowed_answer short_prompts (sheet_in w) l.past l.blocks b (has_fields w.ops (waiting_in l) h.lines)

-- and so is the line that is lost at an end
pub has_first : (w : World) (l : Going) → SoundLife w.ops l → HasFieldIf (sheet_in w) (first_line_of (waiting_in l))
has_first w l h = first_has (sheet_in w) (waiting_in l) (has_fields w.ops (waiting_in l) h.lines)

pub end_allowed : (w : World) (why : Reason) (k : Option Going) → ((l : Going) → k ≡ Some l → SoundLife w.ops l) → AllowedIf (sheet_in w) (kept_at_end w why k)
end_allowed w why None h = tt
end_allowed w why (Some l) h = kept_allowed (sheet_in w) w.room w.end why (first_line_of (waiting_in l)) (has_first w l (h l refl))

pub loses_field : (w : World) (l : Going) (piece : List ℕ) (blocks : List Outer) (fault : Option Kind) → SoundLife w.ops l → Reads (stream_of (l.past ++ received piece ∷ [])) blocks fault
    → LosesField (sheet_in w) (step_of l.past l.blocks piece blocks fault).ended
loses_field w l piece blocks None h reads = tt
loses_field w l piece blocks (Some kind) h reads =
    let one = one_answer l.past piece l.blocks blocks (Some kind) h.reads reads in
    let left = waiting_of (l.past ++ received piece ∷ []) blocks in
    first_has (sheet_in w) left (has_fields w.ops left (waiting_still (HasLine w.ops) l.past l.blocks blocks piece one.closed one.answers h.lines))

-- a line that is lost shows no answer
lost_step : (w : World) (e : Event) (u : World) (room end : ℕ) (why : Reason) (line : Option ℕ) → Sound w → Sound u → u.ops ≡ w.ops → HasFieldIf (sheet_in w) line → Stepped w e (with_op_if (kept_for room end why line) u)
lost_step w e u room end why line h sound same has = if_lost (λ p. Stepped w e (with_op_if p u)) room end why line
    (record { sound = sound; shown = λ own f a some there. inl (subst (λ (os : List Op). Has (sheet_of os) f) same there) })
    (λ id is.
    let o : Op = op.Lost id why in
    let next : first_refusal (sheet_in w) o ≡ None = line_allowed (sheet_in w) line id why has is in
    record {
      sound = committed o u sound (subst (λ (os : List Op). first_refusal (sheet_of os) o ≡ None) (sym same) next) (every_line o u (λ n. tt));
      shown = λ own f a some there. ⊎_elim (λ before. inl before) (λ by. absurd (let no : op.Lost id why ≡ op.Answer f.id by.prompt by.output = by.is in cc))
          (by_op w.ops f a h.allowed some o next (subst (λ (os : List Op). Has (sheet_of (os ++ o ∷ [])) f) same there));
    })

pub numbered : (number : ℕ) (o : Option Going) (l : Going) → with_number number o ≡ Some l → o ≡ Some l
numbered number None l h = cc
numbered number (Some m) l h = go (m.number == number) h
  where
    go : (b : Bool) → (if b then Some m else None) ≡ Some l → Some m ≡ Some l
    go true h = h
    go false h = cc

module _ (w : World) (name : List ℕ) (number : ℕ) (l : Going) (piece : List ℕ) (blocks : List Outer) (fault : Option Kind) (h : Sound w) (is : with_number number (life_of w name) ≡ Some l)
    (reads : Reads (stream_of (l.past ++ received piece ∷ [])) blocks fault) where
  life : SoundLife w.ops l
  life = the_life name l w h (numbered number (life_of w name) l is)

  one : Answers l.past piece l.blocks blocks
  one = one_answer l.past piece l.blocks blocks fault life.reads reads

  -- the session of the field whose line is answered
  session_is : Owned w → (id : ℕ) (prompt : List ℕ) (out : Tree) → IsClosing w.ops l.past l.blocks blocks piece id prompt out → (f : Field) → AnsweredBy w.ops (op.Answer id prompt out) f → f.session ≡ name
  session_is own id prompt out c f by =
      let same : op.Answer id prompt out ≡ op.Answer f.id by.prompt by.output = by.is in
      let number_is : id ≡ f.id = cc in
      let lives : life_of w name ≡ Some l = numbered number (life_of w name) l is in
      let items : OwnsItems w.ops l = all_at (OwnsItems w.ops) (λ (m : Going). m.name) name l w.lives own.lives lives in
      let owner : HasOwner w.ops l.name (item.Line id c.text) = first_got (HasOwner w.ops l.name) c.line (items_of l.past) (item.Line id c.text) c.asked items in
      let before : field_of w.ops f.id ≡ by.before = (is_there w.ops f.id by.before h.allowed by.found).is in
      ap (λ (g : Field). g.session) by.now ∙ sym (ap (λ (g : Field). g.session) before) ∙ ap (λ (n : ℕ). (field_of w.ops n).session) (sym number_is)
      ∙ owner.1 ∙ first_has_name (λ (g : Going). g.name) name w.lives l lives

  closes : Owned w → (id : ℕ) (prompt : List ℕ) (out : Tree) → IsClosing w.ops l.past l.blocks blocks piece id prompt out → (f : Field) → AnsweredBy w.ops (op.Answer id prompt out) f → ClosesAnswer w (event.Child name number (child.Piece piece)) f
  closes own id prompt out c f by =
      let same : op.Answer id prompt out ≡ op.Answer f.id by.prompt by.output = by.is in
      let number_is : id ≡ f.id = cc in
      let line : HasInput w.ops id c.text = c.waits in
      let there : field_in (sheet_in w).fields f.id ≡ Some line.field = ap (λ (n : ℕ). field_in (sheet_in w).fields n) (sym number_is) ∙ line.found in
      let before : line.field ≡ by.before = let both : Some line.field ≡ Some by.before = sym there ∙ by.found in cc in
      let text_is : c.text ≡ f.input = sym line.input ∙ ap (λ (g : Field). g.input) before ∙ sym (ap (λ (g : Field). g.input) by.now) in
      let p : by.prompt ≡ prompt_of l.past l.blocks = (let q : by.prompt ≡ prompt = cc in q ∙ c.prompt_is) in
      let t : by.output ≡ output c.block.block = (let q : by.output ≡ out = cc in q ∙ c.out_is) in
      record {
        name = name;
        number = number;
        piece = piece;
        is = refl;
        of_session = session_is own id prompt out c f by;
        life = l;
        goes_on = is;
        blocks = blocks;
        fault = fault;
        reads = reads;
        line = c.line;
        asked = c.asked ∙ ap (λ (n : ℕ). Some (item.Line n c.text)) number_is ∙ ap (λ (s : List ℕ). Some (item.Line f.id s)) text_is;
        waits = c.first ∙ ap (λ (n : ℕ). item.Line n c.text ∷ drop (suc c.line) (items_of l.past)) number_is ∙ ap (λ (s : List ℕ). item.Line f.id s ∷ drop (suc c.line) (items_of l.past)) text_is;
        block = c.block;
        answers = by_events (l.past ++ received piece ∷ []) blocks (reads_lie (stream_of (l.past ++ received piece ∷ [])) blocks fault reads) (suc c.line) c.block c.answers;
        closes = one.closes c.block (last_of (answers_of l.past l.blocks) one.closed c.block (ap (λ (xs : List Outer). slice_get xs (length (answers_of l.past l.blocks))) (sym one.answers) ∙ c.newest));
        shows = ap (λ (g : Field). g.answer) by.now ∙ ap (λ (s : List ℕ). Some (record { prompt = s; output = by.output })) p ∙ ap (λ (b : Tree). Some (record { prompt = prompt_of l.past l.blocks; output = b })) t;
      }

  -- where its step answers a line, the field of that line shows it then
  pub answered_now : Owned w → (id : ℕ) (prompt : List ℕ) (out : Tree) → (step_of l.past l.blocks piece blocks fault).answered ≡ Some (answered.Line id prompt out)
      → (f : Field) × (f.id ≡ id) × Has (sheet_of (w.ops ++ op.Answer id prompt out ∷ [])) f × ClosesAnswer w (event.Child name number (child.Piece piece)) f
  answered_now own id prompt out a =
      let o : Op = op.Answer id prompt out in
      let next : first_refusal (sheet_in w) o ≡ None = subst (λ (x : Option Answered). AllowedIf (sheet_in w) (answer_op x)) a (answer_allowed w l piece blocks fault life) in
      let has : has_field (sheet_in w) id ≡ true = true_from_not (has_field (sheet_in w) id) (none_applies (refusals (sheet_in w) o) next).0 in
      let now = now_answered w.ops id prompt out h.allowed (allowed_goes_on w.ops o h.allowed next) has in
      (now.field, now.number, now.has, closes own id prompt out (closing w.ops l.past l.blocks blocks piece id prompt out life.lines a) now.field now.by)

  without_op : (u : World) → u.ops ≡ w.ops → Sound u → Stepped w (event.Child name number (child.Piece piece)) u
  without_op u e sound = record { sound = sound; shown = λ own f answer some has. inl (subst (λ (os : List Op). Has (sheet_of os) f) e has) }

  with_answer : (u : World) → u.ops ≡ w.ops → Sound u → (x : Option Answered) (y : Option Ended) → (step_of l.past l.blocks piece blocks fault).answered ≡ x → LosesField (sheet_in w) y
      → Stepped w (event.Child name number (child.Piece piece)) (with_op_if (op_by w.room w.end x y) u)
  with_answer u e sound None None a has = without_op u e sound
  with_answer u e sound None (Some y) a has = lost_step w (event.Child name number (child.Piece piece)) u w.room w.end y.reason (first_line_of y.lost) h sound e has
  with_answer u e sound (Some (answered.Banner b)) None a has = without_op u e sound
  with_answer u e sound (Some (answered.Banner b)) (Some y) a has = lost_step w (event.Child name number (child.Piece piece)) u w.room w.end y.reason (first_line_of y.lost) h sound e has
  with_answer u e sound (Some (answered.Complete id result)) y a has = without_op u e sound
  with_answer u e sound (Some (answered.Line id prompt out)) y a has =
      let o : Op = op.Answer id prompt out in
      let next : first_refusal (sheet_in w) o ≡ None = subst (λ (x : Option Answered). AllowedIf (sheet_in w) (answer_op x)) a (answer_allowed w l piece blocks fault life) in
      record {
        sound = committed o u sound (subst (λ (os : List Op). first_refusal (sheet_of os) o ≡ None) (sym e) next) (every_line o u (λ n. tt));
        shown = λ own f answer some has. ⊎_elim (λ same. inl same) (λ by. inr (closes own id prompt out (closing w.ops l.past l.blocks blocks piece id prompt out life.lines a) f by))
            (by_op w.ops f answer h.allowed some o next (subst (λ (os : List Op). Has (sheet_of (os ++ o ∷ [])) f) e has));
      }

module _ (w : World) (name : List ℕ) (number : ℕ) (l : Going) (piece : List ℕ) (blocks : List Outer) (h : Sound w) (is : with_number number (life_of w name) ≡ Some l) where
  with_piece_step : (fault : Option Kind) → Reads (stream_of (l.past ++ received piece ∷ [])) blocks fault
      → Stepped w (event.Child name number (child.Piece piece)) (with_op_if (op_by w.room w.end (step_of l.past l.blocks piece blocks fault).answered (step_of l.past l.blocks piece blocks fault).ended) (goes_on (with_piece l piece blocks) (step_of l.past l.blocks piece blocks fault).ended w))
  with_piece_step None reads =
      with_answer w name number l piece blocks None h is reads (with_life (with_piece l piece blocks) w) refl
      (put (with_piece l piece blocks) w h (pieced w.ops l piece blocks (the_life name l w h (numbered number (life_of w name) l is)) reads))
      (step_of l.past l.blocks piece blocks None).answered (step_of l.past l.blocks piece blocks None).ended refl tt
  with_piece_step (Some kind) reads =
      with_answer w name number l piece blocks (Some kind) h is reads (without_life l.name w) refl (gone l.name w h) (step_of l.past l.blocks piece blocks (Some kind)).answered (step_of l.past l.blocks piece blocks (Some kind)).ended refl
      (loses_field w l piece blocks (Some kind) (the_life name l w h (numbered number (life_of w name) l is)) reads)

-- Commands.

no_answer : (c : Command) (o : Op) → op_of c ≡ Some o → (id : ℕ) (prompt : List ℕ) (out : Tree) → o ≡ op.Answer id prompt out → ⊥
no_answer (command.Session name tab words) o e id prompt out is = let no : Some (op.Session name tab words) ≡ Some (op.Answer id prompt out) = e ∙ ap (λ (p : Op). Some p) is in cc
no_answer (command.New place session input) o e id prompt out is = let no : Some (op.New place session input) ≡ Some (op.Answer id prompt out) = e ∙ ap (λ (p : Op). Some p) is in cc
no_answer (command.Set other input) o e id prompt out is = let no : Some (op.Set other input) ≡ Some (op.Answer id prompt out) = e ∙ ap (λ (p : Op). Some p) is in cc
no_answer (command.Remove other) o e id prompt out is = let no : Some (op.Remove other) ≡ Some (op.Answer id prompt out) = e ∙ ap (λ (p : Op). Some p) is in cc
no_answer (command.Move other place) o e id prompt out is = let no : Some (op.Move other place) ≡ Some (op.Answer id prompt out) = e ∙ ap (λ (p : Op). Some p) is in cc
no_answer (command.Clear other) o e id prompt out is = let no : Some (op.Clear other) ≡ Some (op.Answer id prompt out) = e ∙ ap (λ (p : Op). Some p) is in cc
no_answer (command.Eval other) o e id prompt out is = cc
no_answer (command.Complete other cursor) o e id prompt out is = cc
no_answer (command.CompleteText other cursor text) o e id prompt out is = cc
no_answer (command.Stop name) o e id prompt out is = cc
no_answer command.Checkpoint o e id prompt out is = cc

as_done : (w : World) (c : Command) (o : Op) → op_of c ≡ Some o → Sound w → first_of (command_refusals w c) ≡ None → Stepped w (event.Command c) (after w c)
as_done w c o is h first =
    let a = as_op w c o is in
    let free : first_of (refusals_but_room w o) ≡ None = first_part (refusals_but_room w o) (full w o ∷ []) (sym (ap first_of a.refusals_are) ∙ first) in
    subst (λ (v : World). Stepped w (event.Command c) v) (sym (op_after w c o is)) (with_command_op w (event.Command c) o h free (no_answer c o is))

-- the field whose line is asked
record Evaluates (w : World) (id : ℕ) : Type 0 where
  field : Field
  found : field_in (sheet_in w).fields id ≡ Some field
  has : has_field (sheet_in w) id ≡ true

evaluates : (w : World) (id : ℕ) → first_of (command_refusals w (command.Eval id)) ≡ None → Evaluates w id
evaluates w id first = go (field_in (sheet_in w).fields id) refl
  where
    has : has_field (sheet_in w) id ≡ true
    has = true_from_not (has_field (sheet_in w) id) (none_applies (command_refusals w (command.Eval id)) first).0

    go : (f : Option Field) → field_in (sheet_in w).fields id ≡ f → Evaluates w id
    go None e = absurd (let no : false ≡ true = sym (ap (λ (f : Option Field). is_some f) e) ∙ has in cc)
    go (Some f) e = record { field = f; found = e; has = has }

pub clear_allowed : (w : World) (id : ℕ) → first_of (command_refusals w (command.Eval id)) ≡ None → first_refusal (sheet_in w) (op.Clear id) ≡ None
clear_allowed w id first = let has = (evaluates w id first).has in rw has refl

pub ops_item : (w : World) (name : List ℕ) (i : Item) (l : Option Going) → (with_item w name i l).ops ≡ w.ops
ops_item w name i None = refl
ops_item w name i (Some l) = refl

as_evaluated : (w : World) (id : ℕ) → Sound w → first_of (command_refusals w (command.Eval id)) ≡ None → Stepped w (event.Command (command.Eval id)) (after w (command.Eval id))
as_evaluated w id h first =
    let name = session_of_field w id in
    let i = line_of_field w id in
    let life = life_of w name in
    let u = with_item w name i life in
    let o = op.Clear id in
    let e = evaluates w id first in
    let has : HasLine w.ops i = subst (λ (j : Item). HasLine w.ops j) (sym (line_is w id e.field e.found)) (record { field = e.field; found = e.found; input = refl }) in
    let same = ops_item w name i life in
    let next = clear_allowed w id first in
    let sound : Sound u = asked w name i life refl h has in
    record {
      sound = committed o u sound (subst (λ (os : List Op). first_refusal (sheet_of os) o ≡ None) (sym same) next) (every_line o u (λ n. tt));
      shown = λ own f a some shows. ⊎_elim (λ before. inl before) (λ by. absurd (let no : op.Clear id ≡ op.Answer f.id by.prompt by.output = by.is in cc))
          (by_op w.ops f a h.allowed some o next (subst (λ (os : List Op). Has (sheet_of (os ++ o ∷ [])) f) same shows));
    }

as_completed : (w : World) (c : Command) (id cursor : ℕ) (text : List ℕ) → Sound w → Stepped w (event.Command c) (after w (command.CompleteText id cursor text))
as_completed w c id cursor text h =
    let name = session_of_field w id in
    let i = item.Complete id text cursor in
    record {
      sound = asked w name i (life_of w name) refl h tt;
      shown = λ own f a some shows. inl (subst (λ (os : List Op). Has (sheet_of os) f) (ops_item w name i (life_of w name)) shows);
    }

accepted : (w : World) (c : Command) → Sound w → first_of (command_refusals w c) ≡ None → Stepped w (event.Command c) (after w c)
accepted w (command.Session name tab words) h first = as_done w (command.Session name tab words) (op.Session name tab words) refl h first
accepted w (command.New place session input) h first = as_done w (command.New place session input) (op.New place session input) refl h first
accepted w (command.Set id input) h first = as_done w (command.Set id input) (op.Set id input) refl h first
accepted w (command.Remove id) h first = as_done w (command.Remove id) (op.Remove id) refl h first
accepted w (command.Move id place) h first = as_done w (command.Move id place) (op.Move id place) refl h first
accepted w (command.Clear id) h first = as_done w (command.Clear id) (op.Clear id) refl h first
accepted w (command.Eval id) h first = as_evaluated w id h first
accepted w (command.Complete id cursor) h first = as_completed w (command.Complete id cursor) id cursor (input_of w id) h
accepted w (command.CompleteText id cursor text) h first = as_completed w (command.CompleteText id cursor text) id cursor text h
accepted w (command.Stop name) h first = go (life_of w name) refl
  where
    go : (k : Option Going) → life_of w name ≡ k → Stepped w (event.Command (command.Stop name)) (with_op_if (kept_at_end w reason.Stopped k) (without_life name w))
    go None e = record { sound = gone name w h; shown = λ own f a some has. inl has }
    go (Some l) e = lost_step w (event.Command (command.Stop name)) (without_life name w) w.room w.end reason.Stopped (first_line_of (waiting_in l)) h (gone name w h) refl (has_first w l (the_life name l w h e))
accepted w command.Checkpoint h first = record { sound = record { allowed = h.allowed; lives = h.lives }; shown = λ own f a some has. inl has }

-- Events of children.

end : (w : World) (name : List ℕ) (number : ℕ) (c : ChildEvent) (x : Option Going) (why : Reason) (killed : Bool) (o : Outcome) (v : World) → with_number number (life_of w name) ≡ x → Sound w → Ended_by w x why killed o v
    → Stepped w (event.Child name number c) v
end w name number c None why killed o v is h given = stays w (event.Child name number c) v h given.1
end w name number c (Some l) why killed o v is h given =
    subst (λ (x : World). Stepped w (event.Child name number c) x) (sym given.1)
    (lost_step w (event.Child name number c) (without_life l.name w) w.room w.end why (first_line_of (waiting_in l)) h (gone l.name w h) refl (has_first w l (the_life name l w h (numbered number (life_of w name) l is))))

piece_of : (w : World) (name : List ℕ) (number : ℕ) (x : Option Going) (piece : List ℕ) (o : Outcome) (v : World) → with_number number (life_of w name) ≡ x → Sound w → Pieced w x piece o v
    → Stepped w (event.Child name number (child.Piece piece)) v
piece_of w name number None piece o v is h given = stays w (event.Child name number (child.Piece piece)) v h given.1
piece_of w name number (Some l) piece o v is h given =
    subst (λ (x : World). Stepped w (event.Child name number (child.Piece piece)) x) (sym given.2.2) (with_piece_step w name number l piece given.0 h is given.1 given.2.0)

-- Any event.
pub stepped_by_parts : (w : World) (e : Event) (o : Outcome) (v : World) → Sound w → GivesByParts w e o v → Stepped w e v
stepped_by_parts w (event.Command c) o v h given = go (first_of (command_refusals w c)) refl given
  where
    go : (x : Option Refusal) → first_of (command_refusals w c) ≡ x → Commanded w c x o v → Stepped w (event.Command c) v
    go (Some r) first done = stays w (event.Command c) v h done.1
    go None first done = ⊎_elim
        (λ yes. subst (λ (x : World). Stepped w (event.Command c) x) (sym yes.1) (accepted w c h first))
        (λ no. stays w (event.Command c) v h no.2) done
stepped_by_parts w (event.Child name number child.StartRefused) o v h given = end w name number child.StartRefused (with_number number (life_of w name)) reason.StartRefused false o v refl h given
stepped_by_parts w (event.Child name number (child.Piece piece)) o v h given = piece_of w name number (with_number number (life_of w name)) piece o v refl h given
stepped_by_parts w (event.Child name number child.End) o v h given = end w name number child.End (with_number number (life_of w name)) reason.Ended true o v refl h given
stepped_by_parts w (event.Child name number child.ReadFault) o v h given = end w name number child.ReadFault (with_number number (life_of w name)) reason.ReadFault true o v refl h given
stepped_by_parts w (event.Child name number child.SendFault) o v h given = end w name number child.SendFault (with_number number (life_of w name)) reason.SendFault true o v refl h given
stepped_by_parts w (event.Child name number child.Stalled) o v h given = end w name number child.Stalled (with_number number (life_of w name)) reason.Stalled true o v refl h given
stepped_by_parts w (event.Child name number child.StopFault) o v h given = stays w (event.Child name number child.StopFault) v h given.1

pub stepped : (w : World) (e : Event) (o : Outcome) (v : World) → Sound w → Gives w e o v → Stepped w e v
stepped w e o v h g = stepped_by_parts w e o v h (by_parts w e o v g)
