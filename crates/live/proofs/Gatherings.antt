-- Lines that were there together, and were gathered.
use Rattle.std.proofs.Common.{◌≡◌, ◌⊎◌, ◌≤◌, inl, inr, ℕ, true, List, [], ◌∷◌, ◌++◌, refl, ap, sym, ◌∙◌, subst, length, length-append, arith, append-nil, append_assoc, map}
use Rattle.std.specs.List.{AllByRecursion}
use Rattle.host_events.specs.declared.event.Event.{Event}
use Rattle.host_events.specs.declared.event.Event.TheVariants as event
use Rattle.arrivals.specs.Lines.{InputLine, whole}
use Rattle.arrivals.specs.Held.{GivesLine, Held, IsNextLine, Readiness, left_with}
use Rattle.arrivals.specs.declared.buffer.NextLine.{NextLine}
use Rattle.arrivals.proofs.Peeking.{peeked_is_given}
use Rattle.sheet_text.specs.Script.{line_of}
use Rattle.live.specs.LineEvents.{line_events, lines_events}
use Rattle.live.specs.Saying.{SaysGrouped}
use Rattle.live.specs.Gathering.{Gathered, GathersOne}

-- Commands that may be in a group.

one-event : (l : List ℕ) (edit : SaysGrouped l) → line_events (line_of l) ≡ event.Command edit.0 ∷ []
one-event l edit = ap line_events edit.1

pub grouped_count : (lines : List (List ℕ)) → AllByRecursion SaysGrouped lines → length (lines_events lines) ≡ length lines
grouped_count [] all = refl
grouped_count (l ∷ ls) all =
    let one = ap (λ (es : List Event). length (es ++ lines_events ls)) (one-event l all.0) in
    let rest = grouped_count ls all.1 in
    omega (arith, one, rest)

events-more : (ls : List (List ℕ)) (l : List ℕ) → lines_events (ls ++ l ∷ []) ≡ lines_events ls ++ line_events (line_of l)
events-more [] l = append-nil (line_events (line_of l))
events-more (x ∷ xs) l = ap (λ (y : List Event). line_events (line_of x) ++ y) (events-more xs l) ∙ sym (append_assoc (line_events (line_of x)) (lines_events xs) (line_events (line_of l)))

grouped-more : (ls : List (List ℕ)) (l : List ℕ) → AllByRecursion SaysGrouped ls → SaysGrouped l → AllByRecursion SaysGrouped (ls ++ l ∷ [])
grouped-more [] l all edit = (edit, tt)
grouped-more (x ∷ xs) l all edit = (all.0, grouped-more xs l all.1 edit)

-- Gathering.

pub gathers_one : (h k : Held) (r : NextLine) (l : List ℕ) (before following : List Event) → IsNextLine h l → SaysGrouped l × (following ≡ before ++ line_events (line_of l)) → GivesLine h r k → GathersOne h k before following
gathers_one h k r l before following comes said gives =
    let is = peeked_is_given h k r l comes gives in
    let given : (more : List ℕ) → left_with h more ≡ whole k.line ∷ left_with k more = subst (λ (x : NextLine). GivesLine h x k) is.0 gives in
    (l, said.0, said.1, inr comes.0, λ more. subst (λ (x : List ℕ). left_with h more ≡ whole x ∷ left_with k more) is.1 (given more))

pub none_gathered : (h : Held) (events : List Event) → events ≡ [] → Gathered h h events
none_gathered h events none = record { given = []; each = tt; are = none; gives = λ more. refl; begins = inl (refl, refl) }

lines-more : (ls : List (List ℕ)) (l : List ℕ) (rest : List InputLine) → map whole (ls ++ l ∷ []) ++ rest ≡ map whole ls ++ whole l ∷ rest
lines-more [] l rest = refl
lines-more (x ∷ xs) l rest = ap (λ (y : List InputLine). whole x ∷ y) (lines-more xs l rest)

pub one_gathered : (h k m : Held) (es fs : List Event) → Gathered h k es → GathersOne k m es fs → Gathered h m fs
one_gathered h k m es fs g one = record {
  given = g.given ++ one.0 ∷ [];
  each = grouped-more g.given one.0 g.each one.1;
  are = one.2 ∙ ap (λ (y : List Event). y ++ line_events (line_of one.0)) g.are ∙ sym (events-more g.given one.0);
  gives = λ more. g.gives more ∙ ap (λ (y : List InputLine). map whole g.given ++ y) (one.4 more) ∙ sym (lines-more g.given one.0 (left_with m more));
  begins = inr (omega (arith, length-append g.given (one.0 ∷ [])), ready g.begins);
}
  where
    ready : ((g.given ≡ []) × (k ≡ h)) ⊎ ((1 ≤ length g.given) × Readiness h true) → Readiness h true
    ready (inl none) = subst (λ (x : Held). Readiness x true) none.1 one.3
    ready (inr some) = some.1

-- where no event was gathered all stands as it did
pub nothing_gathered : (h k : Held) (events : List Event) (g : Gathered h k events) → length events ≤ 0 → k ≡ h
nothing_gathered h k events g none = go g.begins
  where
    go : ((g.given ≡ []) × (k ≡ h)) ⊎ ((1 ≤ length g.given) × Readiness h true) → k ≡ h
    go (inl same) = same.1
    go (inr some) = let same = ap length g.are in absurd (omega (arith, none, some.0, same, grouped_count g.given g.each))

-- where one was, something was there
pub some_gathered : (h k : Held) (events : List Event) (g : Gathered h k events) → 1 ≤ length events → (1 ≤ length g.given) × Readiness h true
some_gathered h k events g some = go g.begins
  where
    go : ((g.given ≡ []) × (k ≡ h)) ⊎ ((1 ≤ length g.given) × Readiness h true) → (1 ≤ length g.given) × Readiness h true
    go (inl none) = let same = ap length g.are in let no = ap (λ (ls : List (List ℕ)). length ls) none.0 in absurd (omega (arith, some, no, same, grouped_count g.given g.each))
    go (inr there) = there
