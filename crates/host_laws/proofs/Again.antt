-- An accepted evaluation, and what hosts after it show.
use Rattle.std.proofs.Common.{◌≡◌, ◌⊎◌, inl, inr, ⊎_elim, ℕ, List, [], ◌∷◌, ◌++◌, ap, sym, ◌∙◌, subst, Some, None}
use Rattle.std.specs.List.{AllByRecursion}
use Rattle.worksheet.specs.declared.op.Op.{Op}
use Rattle.worksheet.specs.declared.op.Op.TheVariants as op
use Rattle.worksheet.specs.declared.field.Field.{Field}
use Rattle.worksheet.specs.Ops.{sheet_of}
use Rattle.worksheet.specs.Checks.{Allowed, field_in}
use Rattle.host_events.specs.declared.event.Event.{Event}
use Rattle.host_events.specs.declared.outcome.Outcome.{Outcome}
use Rattle.session_engine.specs.World.{World, sheet_in}
use Rattle.host_laws.specs.Turns.{AnsweredIn, EvaluatedAgainInTurn, HandedOn, Has, HostStep, HostTurn, KeepField, StepsOf, WentOn, host_first, no_host, no_step, step_first}
use Rattle.host_laws.proofs.FieldLaws.{cleared}
use Rattle.host_laws.proofs.Going.{sound}
use Rattle.host_laws.proofs.Living.{Sound}
use Rattle.host_laws.proofs.Showing.{stepped}

-- Worlds of allowed ops.

abbrev IsAllowed : HostStep → Type 0
IsAllowed s = Allowed s.following.ops

both_allowed : (steps more : List HostStep) → AllByRecursion IsAllowed steps → AllByRecursion IsAllowed more → AllByRecursion IsAllowed (steps ++ more)
both_allowed [] more h k = k
both_allowed (s ∷ steps) more h k = (h.0, both_allowed steps more h.1 k)

steps_allowed : {w v : World} {es : List Event} {os : List Outcome} {steps : List HostStep} → StepsOf w es os steps v → Sound w → AllByRecursion IsAllowed steps
steps_allowed no_step h = tt
steps_allowed (step_first {w = w} {mid = mid} {e = e} {o = o} gives steps) h =
    let s = (stepped w e o mid h gives).sound in
    (s.allowed, steps_allowed steps s)

went_allowed : (room : ℕ) {first last : HandedOn} {turns : List HostTurn} {steps : List HostStep} → WentOn room first turns steps last → AllByRecursion IsAllowed steps
went_allowed room no_host = tt
went_allowed room (host_first {before = before} {steps = steps} {more = more} t of_turn went) =
    both_allowed steps more (steps_allowed of_turn (sound before.ops room t.end t.allowed)) (went_allowed room went)

allowed_at : (earlier : List HostStep) (s : HostStep) (later : List HostStep) → AllByRecursion IsAllowed (earlier ++ s ∷ later) → IsAllowed s
allowed_at [] s later h = h.0
allowed_at (x ∷ earlier) s later h = allowed_at earlier s later h.1

-- One step of a list, and another one.

head_is : (x y : HostStep) (xs ys : List HostStep) → x ∷ xs ≡ y ∷ ys → x ≡ y
head_is x y xs ys same = cc

tail_is : (x y : HostStep) (xs ys : List HostStep) → x ∷ xs ≡ y ∷ ys → xs ≡ ys
tail_is x y xs ys same = cc

kept_at : (f : Field) (earlier : List HostStep) (s : HostStep) (later : List HostStep) → KeepField f (earlier ++ s ∷ later) → Has (sheet_in s.following) f
kept_at f [] s later h = h.0
kept_at f (x ∷ earlier) s later h = kept_at f earlier s later h.1

-- the step y stands after the step x, or what stays from y on stays at x
after_or_at : (f : Field) (xs : List HostStep) (x : HostStep) (more : List HostStep) (ys : List HostStep) (y : HostStep) (rest : List HostStep) → xs ++ x ∷ more ≡ ys ++ y ∷ rest
    → ((mid : List HostStep) × (more ≡ mid ++ y ∷ rest)) ⊎ (KeepField f (y ∷ rest) → Has (sheet_in x.following) f)
after_or_at f [] x more [] y rest same = inr (λ stays. subst (λ (s : HostStep). Has (sheet_in s.following) f) (sym (head_is x y more rest same)) stays.0)
after_or_at f [] x more (z ∷ ys) y rest same = inl (ys, tail_is x z more (ys ++ y ∷ rest) same)
after_or_at f (z ∷ xs) x more [] y rest same =
    inr (λ stays. kept_at f xs x more (subst (KeepField f) (sym (tail_is z y (xs ++ x ∷ more) rest same)) stays.1))
after_or_at f (z ∷ xs) x more (u ∷ ys) y rest same = after_or_at f xs x more ys y rest (tail_is z u (xs ++ x ∷ more) (ys ++ y ∷ rest) same)

pub evaluated_again_in_turn : EvaluatedAgainInTurn
evaluated_again_in_turn room first before after turns left allowed earlier later s id split asks clears f answer number has some =
    let all = subst (AllByRecursion IsAllowed) split (went_allowed room left.went) in
    let here = allowed_at earlier s later all in
    let no : Has (sheet_in s.following) f → AnsweredIn later f = λ there.
    let now : field_in (sheet_of (s.before.ops ++ op.Clear id ∷ [])).fields id ≡ Some f =
    ap (λ (n : ℕ). field_in (sheet_of (s.before.ops ++ op.Clear id ∷ [])).fields n) (sym number)
    ∙ subst (λ (ops : List Op). Has (sheet_of ops) f) clears there in
    let none = cleared s.before.ops id f (subst Allowed clears here) now in
    absurd (let never : None ≡ Some answer = sym none ∙ some in cc) in
    ⊎_elim
    (λ stays. no (kept_at f earlier s later (subst (KeepField f) split stays.1)))
    (λ answered. ⊎_elim
    (λ found. record { earlier = found.0; step = answered.step; later = answered.later; split = found.1; closes = answered.closes; stays = answered.stays })
    (λ at. no (at answered.stays))
    (after_or_at f earlier s later answered.earlier answered.step answered.later (sym split ∙ answered.split)))
    (left.shows f answer has some)
