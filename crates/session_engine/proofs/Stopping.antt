-- What ends of lives from outside give, against the definitions.
use Rattle.std.proofs.Common.{◌≡◌, inl, inr, ℕ, List, ap, sym, ◌∙◌, refl, subst, Bool, true, false, Option, Some, None}
use Rattle.std.specs.Prelude.{not, is_some, if◌then◌else◌}
use Rattle.worksheet.specs.declared.op.Op.{Op}
use Rattle.worksheet.specs.declared.field.Session.{Session}
use Rattle.worksheet.specs.declared.refusal.Refusal.{Refusal}
use Rattle.worksheet.specs.declared.refusal.Refusal.TheVariants as refusal
use Rattle.worksheet.specs.Checks.{session_named, first_of}
use Rattle.block_tree.specs.declared.reason.Reason.{Reason}
use Rattle.block_tree.specs.declared.reason.Reason.TheVariants as reason
use Rattle.host_events.specs.declared.command.Command.TheVariants as command
use Rattle.host_events.specs.declared.event.ChildEvent.{ChildEvent}
use Rattle.host_events.specs.declared.event.ChildEvent.TheVariants as child
use Rattle.host_events.specs.declared.event.Event.TheVariants as event
use Rattle.host_events.specs.declared.reply.Reply.TheVariants as reply
use Rattle.session_engine.specs.World.{World, Going, kept_at_end, life_of, sheet_in, with_number}
use Rattle.session_engine.specs.Refused.{command_refusals}
use Rattle.session_engine.specs.Does.{ends_life, tells, ChildDoes, CommandDoes, MayDo}
use Rattle.session_engine.specs.Faults.{event_takes_memory}
use Rattle.session_engine.specs.inside.Parts.{end_by, without_life}
use Rattle.session_engine.proofs.Tables.{without_none}

-- a Stop of a session that there is, where this life of it goes on
pub gives_stop : (w : World) (name : List ℕ) (s : Session) (l : Option Going) → session_named (sheet_in w).sessions name ≡ Some s → life_of w name ≡ l
    → MayDo w (event.Command (command.Stop name)) (ends_life w reason.Stopped true l reply.Done)
gives_stop w name s l named is =
    let first : first_of (command_refusals w (command.Stop name)) ≡ None = ap (λ (o : Option Session). if not (is_some o) then Some refusal.NoSession else None) named in
    subst (λ (x : Option Refusal). CommandDoes w (command.Stop name) x (ends_life w reason.Stopped true l reply.Done)) (sym first)
    (inl (ap (λ (o : Option Going). ends_life w reason.Stopped true o reply.Done) (sym is)))

-- it may want memory where it gives an op
pub gives_stop_none : (w : World) (name : List ℕ) (s : Session) (o : Op) → session_named (sheet_in w).sessions name ≡ Some s → kept_at_end w reason.Stopped (life_of w name) ≡ Some o
    → MayDo w (event.Command (command.Stop name)) (tells w (reply.Refused refusal.OutOfMemory))
gives_stop_none w name s o named is =
    let first : first_of (command_refusals w (command.Stop name)) ≡ None = ap (λ (o : Option Session). if not (is_some o) then Some refusal.NoSession else None) named in
    subst (λ (x : Option Refusal). CommandDoes w (command.Stop name) x (tells w (reply.Refused refusal.OutOfMemory))) (sym first)
    (inr (ap (λ (p : Option Op). is_some p) is, refl))

-- what an end wants memory for
pub wants_at_end : (w : World) (name : List ℕ) (number : ℕ) (e : ChildEvent) (why : Reason) (killed : Bool) (o : Op) → end_by e ≡ Some (why, killed) → kept_at_end w why (with_number number (life_of w name)) ≡ Some o
    → event_takes_memory w (event.Child name number e) ≡ true
wants_at_end w name number child.StartRefused why killed o by is = let same : (reason.StartRefused, false) ≡ (why, killed) = cc in ap (λ (p : Option Op). is_some p) (ap (λ (p : Reason × Bool). kept_at_end w p.0 (with_number number (life_of w name))) same ∙ is)
wants_at_end w name number (child.Piece piece) why killed o by is = cc
wants_at_end w name number child.End why killed o by is = let same : (reason.Ended, true) ≡ (why, killed) = cc in ap (λ (p : Option Op). is_some p) (ap (λ (p : Reason × Bool). kept_at_end w p.0 (with_number number (life_of w name))) same ∙ is)
wants_at_end w name number child.ReadFault why killed o by is = let same : (reason.ReadFault, true) ≡ (why, killed) = cc in ap (λ (p : Option Op). is_some p) (ap (λ (p : Reason × Bool). kept_at_end w p.0 (with_number number (life_of w name))) same ∙ is)
wants_at_end w name number child.SendFault why killed o by is = let same : (reason.SendFault, true) ≡ (why, killed) = cc in ap (λ (p : Option Op). is_some p) (ap (λ (p : Reason × Bool). kept_at_end w p.0 (with_number number (life_of w name))) same ∙ is)
wants_at_end w name number child.Stalled why killed o by is = let same : (reason.Stalled, true) ≡ (why, killed) = cc in ap (λ (p : Option Op). is_some p) (ap (λ (p : Reason × Bool). kept_at_end w p.0 (with_number number (life_of w name))) same ∙ is)
wants_at_end w name number child.StopFault why killed o by is = cc

-- an event of a child at which a life ends
pub gives_end : (w : World) (l : Option Going) (e : ChildEvent) (why : Reason) (killed : Bool) → end_by e ≡ Some (why, killed) → ChildDoes w l e (ends_life w why killed l reply.Nothing)
gives_end w l child.StartRefused why killed is = let same : (reason.StartRefused, false) ≡ (why, killed) = cc in subst (λ (p : Reason × Bool). ChildDoes w l child.StartRefused (ends_life w p.0 p.1 l reply.Nothing)) same refl
gives_end w l (child.Piece piece) why killed is = cc
gives_end w l child.End why killed is = let same : (reason.Ended, true) ≡ (why, killed) = cc in subst (λ (p : Reason × Bool). ChildDoes w l child.End (ends_life w p.0 p.1 l reply.Nothing)) same refl
gives_end w l child.ReadFault why killed is = let same : (reason.ReadFault, true) ≡ (why, killed) = cc in subst (λ (p : Reason × Bool). ChildDoes w l child.ReadFault (ends_life w p.0 p.1 l reply.Nothing)) same refl
gives_end w l child.SendFault why killed is = let same : (reason.SendFault, true) ≡ (why, killed) = cc in subst (λ (p : Reason × Bool). ChildDoes w l child.SendFault (ends_life w p.0 p.1 l reply.Nothing)) same refl
gives_end w l child.Stalled why killed is = let same : (reason.Stalled, true) ≡ (why, killed) = cc in subst (λ (p : Reason × Bool). ChildDoes w l child.Stalled (ends_life w p.0 p.1 l reply.Nothing)) same refl
gives_end w l child.StopFault why killed is = cc

-- a Stop of no session
pub gives_no_session : (w : World) (name : List ℕ) → session_named (sheet_in w).sessions name ≡ None → MayDo w (event.Command (command.Stop name)) (tells w (reply.Refused refusal.NoSession))
gives_no_session w name named =
    let first : first_of (command_refusals w (command.Stop name)) ≡ Some refusal.NoSession = ap (λ (o : Option Session). if not (is_some o) then Some refusal.NoSession else None) named in
    subst (λ (x : Option Refusal). CommandDoes w (command.Stop name) x (tells w (reply.Refused refusal.NoSession))) (sym first) refl

pub without_none_here : (w : World) (name : List ℕ) → life_of w name ≡ None → without_life name w ≡ w
without_none_here w name h = ap (λ (ls : List Going). record w { lives = ls }) (without_none (λ (l : Going). l.name) name w.lives h)
