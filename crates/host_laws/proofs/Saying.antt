-- An event that puts an answer into a field says so.
use Rattle.std.proofs.Common.{◌≡◌, ◌⊎◌, inl, inr, ⊎_elim, ℕ, List, [], ◌∷◌, ◌++◌, Bool, true, false, Option, Some, None, refl, ap, sym, ◌∙◌, subst}
use Rattle.block_tree.specs.Tree.{Tree}
use Rattle.block_tree.specs.declared.reason.Reason.{Reason}
use Rattle.block_tree.specs.declared.reason.Reason.TheVariants as reason
use Rattle.worksheet.specs.declared.op.Op.{Op}
use Rattle.worksheet.specs.declared.op.Op.TheVariants as op
use Rattle.worksheet.specs.declared.refusal.Refusal.{Refusal}
use Rattle.worksheet.specs.Checks.{first_of}
use Rattle.plugin_core.specs.declared.step.Answered.{Answered}
use Rattle.plugin_core.specs.declared.step.Answered.TheVariants as answered
use Rattle.plugin_core.specs.declared.step.Ended.{Ended}
use Rattle.host_events.specs.declared.command.Command.{Command}
use Rattle.host_events.specs.declared.command.Command.TheVariants as command
use Rattle.host_events.specs.declared.event.ChildEvent.TheVariants as child
use Rattle.host_events.specs.declared.event.Event.{Event}
use Rattle.host_events.specs.declared.event.Event.TheVariants as event
use Rattle.host_events.specs.declared.outcome.Outcome.{Outcome}
use Rattle.host_events.specs.declared.reply.Closed.{Closed}
use Rattle.host_events.specs.declared.reply.Closed.TheVariants as closed
use Rattle.session_engine.specs.World.{Going, World, life_of, with_number, with_op_if}
use Rattle.session_engine.specs.Does.{closed_reported, reported_with}
use Rattle.session_engine.specs.Refused.{command_refusals}
use Rattle.session_engine.specs.inside.Parts.{goes_on, without_life}
use Rattle.session_engine.specs.inside.Words.{with_piece}
use Rattle.session_engine.proofs.Losing.{if_ended, if_pieced, if_stopped}
use Rattle.host_laws.specs.Turns.{AnswersAreReported, SaysAnswered}
use Rattle.host_laws.specs.inside.Given.{Commanded, Ended_by, GivesByParts, Pieced, after, step_at}
use Rattle.host_laws.proofs.ByParts.{by_parts}
use Rattle.host_laws.proofs.Showing.{ops_item}

-- What gives no answer.

abbrev IsNoAnswer : Op → Type 0
IsNoAnswer (op.Answer id prompt out) = ⊥
IsNoAnswer _ = Unit {0}

-- no op was given, or one that is no answer
abbrev GaveNone : World → World → Type 0
GaveNone w v = (v.ops ≡ w.ops) ⊎ ((o : Op) × (v.ops ≡ w.ops ++ o ∷ []) × IsNoAnswer o)

-- this answer was given
abbrev GaveAnswer : World → World → ℕ → List ℕ → Tree → Type 0
GaveAnswer w v id prompt out = v.ops ≡ w.ops ++ op.Answer id prompt out ∷ []

same_last : (ops : List Op) (a b : Op) → ops ++ a ∷ [] ≡ ops ++ b ∷ [] → a ≡ b
same_last [] a b is = cc
same_last (o ∷ ops) a b is = let rest : ops ++ a ∷ [] ≡ ops ++ b ∷ [] = cc in same_last ops a b rest

none_more : (ops : List Op) (a : Op) → ops ≡ ops ++ a ∷ [] → ⊥
none_more [] a is = cc
none_more (o ∷ ops) a is = let rest : ops ≡ ops ++ a ∷ [] = cc in none_more ops a rest

not_both : (w v : World) → GaveNone w v → (id : ℕ) (prompt : List ℕ) (out : Tree) → GaveAnswer w v id prompt out → ⊥
not_both w v none id prompt out gave = ⊎_elim
    (λ same. none_more w.ops (op.Answer id prompt out) (sym same ∙ gave))
    (λ one. subst IsNoAnswer (same_last w.ops one.0 (op.Answer id prompt out) (sym one.1 ∙ gave)) one.2) none

stays : (w v : World) → v ≡ w → GaveNone w v
stays w v is = inl (ap (λ (x : World). x.ops) is)

one_op : (w u : World) (o : Op) → u.ops ≡ w.ops → IsNoAnswer o → GaveNone w (with_op_if (Some o) u)
one_op w u o same is_none = inr (o, ap (λ (os : List Op). os ++ o ∷ []) same, is_none)

-- what commands lead to
command_gave : (w : World) (c : Command) → GaveNone w (after w c)
command_gave w (command.Session name tab words) = inr (op.Session name tab words, refl, tt)
command_gave w (command.New place session input) = inr (op.New place session input, refl, tt)
command_gave w (command.Set id input) = inr (op.Set id input, refl, tt)
command_gave w (command.Remove id) = inr (op.Remove id, refl, tt)
command_gave w (command.Move id place) = inr (op.Move id place, refl, tt)
command_gave w (command.Clear id) = inr (op.Clear id, refl, tt)
command_gave w (command.Eval id) = inr (op.Clear id, ap (λ (os : List Op). os ++ op.Clear id ∷ []) (ops_item w _ _ _), tt)
command_gave w (command.Complete id cursor) = inl (ops_item w _ _ _)
command_gave w (command.CompleteText id cursor text) = inl (ops_item w _ _ _)
command_gave w (command.Stop name) =
    if_stopped (λ (p : Option Op). GaveNone w (with_op_if p (without_life name w))) w reason.Stopped (life_of w name) (inl refl)
    (λ l id is first. one_op w (without_life name w) (op.Lost id reason.Stopped) refl tt)
command_gave w command.Checkpoint = inl refl

commanded : (w v : World) (c : Command) (x : Option Refusal) (o : Outcome) → Commanded w c x o v → GaveNone w v
commanded w v c (Some r) o given = stays w v given.1
commanded w v c None o given = ⊎_elim
    (λ yes. subst (GaveNone w) (sym yes.1) (command_gave w c))
    (λ refused. stays w v refused.2) given

-- and the ends of lives
ended : (w v : World) (x : Option Going) (why : Reason) (killed : Bool) (o : Outcome) → Ended_by w x why killed o v → GaveNone w v
ended w v None why killed o given = stays w v given.1
ended w v (Some l) why killed o given =
    subst (GaveNone w) (sym given.1) (if_ended (λ (p : Option Op). GaveNone w (with_op_if p (without_life l.name w))) w why l (inl refl) (λ id is. one_op w (without_life l.name w) (op.Lost id why) refl tt))

-- A piece that closes an answer.

same_ops : (l : Going) (e : Option Ended) (w : World) → (goes_on l e w).ops ≡ w.ops
same_ops l None w = refl
same_ops l (Some e) w = refl

-- what is returned for a piece says what it closes
says_closed : (id : ℕ) (name : List ℕ) (number : ℕ) (default_input send : Option (List ℕ)) (end : Option Ended) → SaysAnswered id (reported_with name number (Some (closed.Line id)) default_input send end)
says_closed id name number default_input send None = (_, refl, refl)
says_closed id name number default_input send (Some e) = (_, refl, refl)

piece_says : (w v : World) (x : Option Going) (piece : List ℕ) (o : Outcome) → Pieced w x piece o v → (id : ℕ) (prompt : List ℕ) (out : Tree) → GaveAnswer w v id prompt out → SaysAnswered id o
piece_says w v None piece o given id prompt out gave = absurd (not_both w v (stays w v given.1) id prompt out gave)
piece_says w v (Some l) piece o given id prompt out gave =
    let s = step_at l (record { piece = piece; blocks = given.0; fault = given.1 }) in
    let u = goes_on (with_piece l piece given.0) s.ended w in
    let same = same_ops (with_piece l piece given.0) s.ended w in
    subst (SaysAnswered id) (sym given.2.1)
    (if_pieced (λ (p : Option Op). GaveAnswer w (with_op_if p u) id prompt out → SaysAnswered id (reported_with l.name l.number (closed_reported s.answered) s.default_input s.send s.ended)) w.room w.end s.answered s.ended
    (λ none. absurd (not_both w u (inl same) id prompt out none))
    (λ other first found is put.
    let last : op.Answer other first found ≡ op.Answer id prompt out = same_last w.ops _ _ (sym (ap (λ (os : List Op). os ++ op.Answer other first found ∷ []) same) ∙ put) in
    let number : other ≡ id = cc in
    subst (λ (a : Option Answered). SaysAnswered id (reported_with l.name l.number (closed_reported a) s.default_input s.send s.ended)) (sym is)
    (subst (λ (n : ℕ). SaysAnswered id (reported_with l.name l.number (Some (closed.Line n)) s.default_input s.send s.ended)) (sym number)
    (says_closed id l.name l.number s.default_input s.send s.ended)))
    (λ e lost is first none put. absurd (not_both w (with_op_if (Some (op.Lost lost e.reason)) u) (one_op w u (op.Lost lost e.reason) same tt) id prompt out put))
    (subst (λ (x : World). GaveAnswer w x id prompt out) given.2.2 gave))

by_event : (w v : World) (e : Event) (o : Outcome) → GivesByParts w e o v → (id : ℕ) (prompt : List ℕ) (out : Tree) → GaveAnswer w v id prompt out → SaysAnswered id o
by_event w v (event.Command c) o given id prompt out gave = absurd (not_both w v (commanded w v c (first_of (command_refusals w c)) o given) id prompt out gave)
by_event w v (event.Child name number (child.Piece piece)) o given id prompt out gave = piece_says w v (with_number number (life_of w name)) piece o given id prompt out gave
by_event w v (event.Child name number child.StartRefused) o given id prompt out gave = absurd (not_both w v (ended w v (with_number number (life_of w name)) reason.StartRefused false o given) id prompt out gave)
by_event w v (event.Child name number child.End) o given id prompt out gave = absurd (not_both w v (ended w v (with_number number (life_of w name)) reason.Ended true o given) id prompt out gave)
by_event w v (event.Child name number child.ReadFault) o given id prompt out gave = absurd (not_both w v (ended w v (with_number number (life_of w name)) reason.ReadFault true o given) id prompt out gave)
by_event w v (event.Child name number child.SendFault) o given id prompt out gave = absurd (not_both w v (ended w v (with_number number (life_of w name)) reason.SendFault true o given) id prompt out gave)
by_event w v (event.Child name number child.Stalled) o given id prompt out gave = absurd (not_both w v (ended w v (with_number number (life_of w name)) reason.Stalled true o given) id prompt out gave)
by_event w v (event.Child name number child.StopFault) o given id prompt out gave = absurd (not_both w v (stays w v given.1) id prompt out gave)

pub answers_are_reported : AnswersAreReported
answers_are_reported w v e o gives id prompt out gave = by_event w v e o (by_parts w e o v gives) id prompt out gave
