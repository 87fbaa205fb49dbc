-- An answer that was reported is shown as long as its field is left.
use Rattle.std.proofs.Common.{◌≡◌, ⊎_elim, ℕ, List, [], ◌∷◌, ◌++◌, Bool, true, false, Option, Some, None, refl, ap, sym, ◌∙◌, subst}
use Rattle.std.specs.List.{AllByRecursion}
use Rattle.block_tree.specs.Tree.{Tree}
use Rattle.block_tree.specs.declared.reason.Reason.{Reason}
use Rattle.block_tree.specs.declared.reason.Reason.TheVariants as reason
use Rattle.worksheet.specs.declared.op.Op.{Op}
use Rattle.worksheet.specs.declared.op.Op.TheVariants as op
use Rattle.worksheet.specs.declared.field.Field.{Field}
use Rattle.worksheet.specs.declared.refusal.Refusal.{Refusal}
use Rattle.worksheet.specs.declared.refusal.Refusal.TheVariants as refusal
use Rattle.worksheet.specs.Ops.{sheet_of}
use Rattle.worksheet.specs.Checks.{Allowed, first_of}
use Rattle.plugin_core.specs.declared.step.Answered.{Answered}
use Rattle.plugin_core.specs.declared.step.Answered.TheVariants as answered
use Rattle.plugin_core.specs.declared.step.Ended.{Ended}
use Rattle.host_events.specs.declared.command.Command.{Command}
use Rattle.host_events.specs.declared.command.Command.TheVariants as command
use Rattle.host_events.specs.declared.event.ChildEvent.TheVariants as child
use Rattle.host_events.specs.declared.event.Event.{Event}
use Rattle.host_events.specs.declared.event.Event.TheVariants as event
use Rattle.host_events.specs.declared.outcome.Outcome.{Outcome}
use Rattle.host_events.specs.declared.reply.Closed.{Closed}
use Rattle.host_events.specs.declared.reply.Closed.TheVariants as closed
use Rattle.host_events.specs.declared.reply.Reply.{Reply}
use Rattle.host_events.specs.declared.reply.Reply.TheVariants as reply
use Rattle.session_engine.specs.World.{Going, World, life_of, session_of_field, sheet_in, with_number, with_op_if}
use Rattle.session_engine.specs.Does.{closed_reported, op_by, ends, refused, replies, reported_with}
use Rattle.session_engine.specs.Refused.{command_refusals}
use Rattle.session_engine.specs.inside.Parts.{asks, goes_on}
use Rattle.session_engine.specs.inside.Words.{line_of_field, request_of_field, with_piece}
use Rattle.plugin_core.specs.declared.item.Item.{Item}
use Rattle.plugin_core.specs.declared.item.Item.TheVariants as item
use Rattle.host_laws.specs.Turns.{ClosesAnswer, HandedOn, Has, HostStep, HostTurn, KeepField, ReportedAnswersStay, SaysAnswered, StepLeavesField, StepsOf, WentOn, host_first, no_host, no_step, step_first}
use Rattle.host_laws.specs.inside.Given.{Commanded, Ended_by, GivesByParts, Pieced, outcome_of, step_at, stops}
use Rattle.host_laws.proofs.ApartOwners.{Owned, owned_step}
use Rattle.host_laws.proofs.ByParts.{by_parts}
use Rattle.host_laws.proofs.FieldLaws.{field_stays}
use Rattle.host_laws.proofs.Going.{owned, sound}
use Rattle.host_laws.proofs.Living.{Sound}
use Rattle.host_laws.proofs.Showing.{answered_now, stepped}

-- What says that a line was answered.

-- what a life's outcome says is closed
abbrev closed_said : Reply → Option Closed
closed_said (reply.Child one) = one.closed
closed_said reply.Done = None
closed_said (reply.Field id) = None
closed_said (reply.Asked life) = None
closed_said (reply.Refused why) = None
closed_said reply.Nothing = None

says_so : (id : ℕ) (o : Outcome) → SaysAnswered id o → closed_said o.reply ≡ Some (closed.Line id)
says_so id o (r, is, it) = ap closed_said is ∙ it

-- it isn't said by an outcome that closes nothing
silent : (id : ℕ) (o p : Outcome) → SaysAnswered id o → o ≡ p → closed_said p.reply ≡ None → ⊥
silent id o p says is none = let no : None ≡ Some (closed.Line id) = sym none ∙ sym (ap (λ (x : Outcome). closed_said x.reply) is) ∙ says_so id o says in cc

asks_none : (w : World) (name : List ℕ) (i : Item) (l : Option Going) → closed_said (asks w name i l).reply ≡ None
asks_none w name i None = refl
asks_none w name i (Some l) = refl

stops_none : (l : Option Going) → closed_said (stops l).reply ≡ None
stops_none None = refl
stops_none (Some l) = refl

command_silent : (w : World) (c : Command) → closed_said (outcome_of w c).reply ≡ None
command_silent w (command.Session name tab words) = refl
command_silent w (command.New place session input) = refl
command_silent w (command.Set id input) = refl
command_silent w (command.Remove id) = refl
command_silent w (command.Move id place) = refl
command_silent w (command.Clear id) = refl
command_silent w (command.Eval id) = asks_none w (session_of_field w id) (line_of_field w id) (life_of w (session_of_field w id))
command_silent w (command.Complete id cursor) = asks_none w (session_of_field w id) (request_of_field w id cursor) (life_of w (session_of_field w id))
command_silent w (command.CompleteText id cursor text) = asks_none w (session_of_field w id) (item.Complete id text cursor) (life_of w (session_of_field w id))
command_silent w (command.Stop name) = stops_none (life_of w name)
command_silent w command.Checkpoint = refl

ended_silent : (w : World) (x : Option Going) (why : Reason) (killed : Bool) (o : Outcome) (v : World) → Ended_by w x why killed o v → (id : ℕ) → SaysAnswered id o → ⊥
ended_silent w None why killed o v given id says = silent id o (replies reply.Nothing) says given.0 refl
ended_silent w (Some l) why killed o v given id says = silent id o (ends l why killed) says given.0 refl

-- A piece that closes an answer.

-- a field shows the answer that an event closed
record ShowsIt (w : World) (e : Event) (v : World) (id : ℕ) : Type 0 where
  field : Field
  number : field.id ≡ id
  closes : ClosesAnswer w e field
  has : Has (sheet_in v) field

line_of_closed : (a : Option Answered) (id : ℕ) → closed_reported a ≡ Some (closed.Line id) → (prompt : List ℕ) × (out : Tree) × (a ≡ Some (answered.Line id prompt out))
line_of_closed None id is = cc
line_of_closed (Some (answered.Banner b)) id is = cc
line_of_closed (Some (answered.Line other prompt out)) id is = (prompt, out, let same : closed.Line other ≡ closed.Line id = cc in let number : other ≡ id = cc in ap (λ (n : ℕ). Some (answered.Line n prompt out)) number)
line_of_closed (Some (answered.Complete other result)) id is = cc

closed_with : (id : ℕ) (name : List ℕ) (number : ℕ) (answer : Option Closed) (default_input send : Option (List ℕ)) (end : Option Ended)
    → closed_said (reported_with name number answer default_input send end).reply ≡ Some (closed.Line id) → answer ≡ Some (closed.Line id)
closed_with id name number None default_input send None is = is
closed_with id name number None default_input send (Some e) is = is
closed_with id name number (Some one) default_input send None is = is
closed_with id name number (Some one) default_input send (Some e) is = is

same_ops : (l : Going) (e : Option Ended) (w : World) → (goes_on l e w).ops ≡ w.ops
same_ops l None w = refl
same_ops l (Some e) w = refl

piece_shows : (w : World) (name : List ℕ) (number : ℕ) (x : Option Going) (piece : List ℕ) (o : Outcome) (v : World) → with_number number (life_of w name) ≡ x → Sound w → Owned w → Pieced w x piece o v
    → (id : ℕ) → SaysAnswered id o → ShowsIt w (event.Child name number (child.Piece piece)) v id
piece_shows w name number None piece o v is h own given id says = absurd (silent id o (replies reply.Nothing) says given.0 refl)
piece_shows w name number (Some l) piece o v is h own given id says =
    let blocks = given.0 in
    let s = step_at l (record { piece = piece; blocks = blocks; fault = given.1 }) in
    let line = line_of_closed s.answered id (closed_with id l.name l.number (closed_reported s.answered) s.default_input s.send s.ended
    (sym (ap (λ (x : Outcome). closed_said x.reply) given.2.1) ∙ says_so id o says)) in
    let a = answered_now w name number l piece blocks given.1 h is given.2.0 own id line.0 line.1 line.2 in
    let u = goes_on (with_piece l piece blocks) s.ended w in
    record {
      field = a.0;
      number = a.1;
      closes = a.3;
      has = subst (λ (x : World). Has (sheet_in x) a.0) (sym given.2.2)
          (subst (λ (x : Option Answered). Has (sheet_in (with_op_if (op_by w.room w.end x s.ended) u)) a.0) (sym line.2)
          (subst (λ (ops : List Op). Has (sheet_of (ops ++ op.Answer id line.0 line.1 ∷ [])) a.0) (sym (same_ops (with_piece l piece blocks) s.ended w)) a.2));
    }

reported_shows : (w : World) (e : Event) (o : Outcome) (v : World) → Sound w → Owned w → GivesByParts w e o v → (id : ℕ) → SaysAnswered id o → ShowsIt w e v id
reported_shows w (event.Command c) o v h own given id says = absurd (go (first_of (command_refusals w c)) given)
  where
    go : (x : Option Refusal) → Commanded w c x o v → ⊥
    go (Some r) done = silent id o (refused r) says done.0 refl
    go None done = ⊎_elim
        (λ yes. silent id o (outcome_of w c) says yes.0 (command_silent w c))
        (λ no. silent id o (refused refusal.OutOfMemory) says no.1 refl) done
reported_shows w (event.Child name number (child.Piece piece)) o v h own given id says = piece_shows w name number (with_number number (life_of w name)) piece o v refl h own given id says
reported_shows w (event.Child name number child.StartRefused) o v h own given id says = absurd (ended_silent w (with_number number (life_of w name)) reason.StartRefused false o v given id says)
reported_shows w (event.Child name number child.End) o v h own given id says = absurd (ended_silent w (with_number number (life_of w name)) reason.Ended true o v given id says)
reported_shows w (event.Child name number child.ReadFault) o v h own given id says = absurd (ended_silent w (with_number number (life_of w name)) reason.ReadFault true o v given id says)
reported_shows w (event.Child name number child.SendFault) o v h own given id says = absurd (ended_silent w (with_number number (life_of w name)) reason.SendFault true o v given id says)
reported_shows w (event.Child name number child.Stalled) o v h own given id says = absurd (ended_silent w (with_number number (life_of w name)) reason.Stalled true o v given id says)
reported_shows w (event.Child name number child.StopFault) o v h own given id says = absurd (silent id o (replies reply.Nothing) says given.0 refl)

-- Steps one after another, of one host and of the next.

abbrev Chain : List Op → List HostStep → List Op → Type 0
Chain ops [] last = last ≡ ops
Chain ops (s ∷ steps) last = (s.before.ops ≡ ops) × Sound s.before × Owned s.before × Allowed s.following.ops × Chain s.following.ops steps last

chained : {w v : World} {es : List Event} {os : List Outcome} {steps : List HostStep} → StepsOf w es os steps v → Sound w → Owned w → Chain w.ops steps v.ops
chained no_step h own = refl
chained (step_first {w = w} {mid = mid} {e = e} {o = o} gives more) h own =
    let s = (stepped w e o mid h gives).sound in
    (refl, h, own, s.allowed, chained more s (owned_step w e o mid own (by_parts w e o mid gives)))

chain_on : (ops : List Op) (steps : List HostStep) (mid : List Op) (more : List HostStep) (last : List Op) → Chain ops steps mid → Chain mid more last → Chain ops (steps ++ more) last
chain_on ops [] mid more last h k = subst (λ (os : List Op). Chain os more last) h k
chain_on ops (s ∷ steps) mid more last h k = (h.0, h.1, h.2, h.3, chain_on s.following.ops steps mid more last h.4 k)

went_chain : (room : ℕ) {first last : HandedOn} {turns : List HostTurn} {steps : List HostStep} → WentOn room first turns steps last → Chain first.ops steps last.ops
went_chain room no_host = refl
went_chain room (host_first {before = before} {mid = mid} {after = after} {steps = steps} {more = more} t of_turn went) =
    chain_on before.ops steps mid.ops more after.ops
    (subst (λ (os : List Op). Chain before.ops steps os) (sym t.ops) (chained of_turn (sound before.ops room t.end t.allowed) (owned before.ops room t.end t.allowed)))
    (went_chain room went)

-- one of them, and those after it
chain_at : (ops last : List Op) (earlier : List HostStep) (s : HostStep) (later : List HostStep) → Chain ops (earlier ++ s ∷ later) last
    → Sound s.before × Owned s.before × Allowed s.following.ops × Chain s.following.ops later last
chain_at ops last [] s later h = (h.1, h.2, h.3, h.4)
chain_at ops last (x ∷ earlier) s later h = chain_at x.following.ops last earlier s later h.4

chain_stays : (f : Field) (ops last : List Op) (steps : List HostStep) → Allowed ops → Chain ops steps last → Has (sheet_of ops) f → AllByRecursion (StepLeavesField f.id) steps → KeepField f steps × Has (sheet_of last) f
chain_stays f ops last [] allowed h has leaves = (tt, subst (λ (os : List Op). Has (sheet_of os) f) (sym h) has)
chain_stays f ops last (s ∷ steps) allowed h has leaves =
    let now : Has (sheet_of s.following.ops) f = ⊎_elim
    (λ same. subst (λ (os : List Op). Has (sheet_of os) f) (sym (same ∙ h.0)) has)
    (λ one.
    let is : s.following.ops ≡ ops ++ one.0 ∷ [] = one.1 ∙ ap (λ (os : List Op). os ++ one.0 ∷ []) h.0 in
    subst (λ (os : List Op). Has (sheet_of os) f) (sym is) (field_stays ops one.0 f allowed (subst Allowed is h.3) one.2 has))
    leaves.0 in
    let rest = chain_stays f s.following.ops last steps h.3 h.4 now leaves.1 in
    ((now, rest.0), rest.1)

pub reported_answers_stay : ReportedAnswersStay
reported_answers_stay room first before after turns left allowed earlier later s id o split gives says leaves =
    let here = chain_at first left.kept earlier s later (subst (λ (steps : List HostStep). Chain first steps left.kept) split (went_chain room left.went)) in
    let it = reported_shows s.before s.event o s.following here.0 here.1 (by_parts s.before s.event o s.following gives) id says in
    let stays = chain_stays it.field s.following.ops left.kept later here.2 here.3 it.has (subst (λ (n : ℕ). AllByRecursion (StepLeavesField n) later) (sym it.number) leaves) in
    (it.field, it.number, it.closes, (it.has, stays.0), stays.1)
