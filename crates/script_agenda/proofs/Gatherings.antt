-- Lines that are taken as one group, one after another.
use Rattle.std.proofs.Common.{◌≡◌, ◌∙◌, ◌≤◌, ℕ, true, List, [], ◌∷◌, ◌++◌, ap, arith, length, length-append, refl, sym, append_assoc, append-nil}
use Rattle.std.specs.Prelude.{Bool}
use Rattle.std.specs.List.{AllByRecursion}
use Rattle.host_events.specs.declared.event.Event.{Event}
use Rattle.sheet_text.specs.Script.{line_of}
use Rattle.live.specs.LineEvents.{line_events, lines_events}
use Rattle.script_agenda.specs.Gathering.{Gathers, may_be_grouped}

pub none_gathered : (strict : Bool) (lines : List (List ℕ)) (events : List Event) → events ≡ [] → Gathers strict lines lines events
none_gathered strict lines events none = record { given = []; split = refl; each = tt; are = none }

each_more : (strict : Bool) (ls : List (List ℕ)) (l : List ℕ) → AllByRecursion (λ x. may_be_grouped strict (line_of x) ≡ true) ls → may_be_grouped strict (line_of l) ≡ true
    → AllByRecursion (λ x. may_be_grouped strict (line_of x) ≡ true) (ls ++ l ∷ [])
each_more strict [] l all may = (may, tt)
each_more strict (x ∷ xs) l all may = (all.0, each_more strict xs l all.1 may)

events_more : (ls : List (List ℕ)) (l : List ℕ) → lines_events (ls ++ l ∷ []) ≡ lines_events ls ++ line_events (line_of l)
events_more [] l = append-nil (line_events (line_of l))
events_more (x ∷ xs) l = ap (λ (es : List Event). line_events (line_of x) ++ es) (events_more xs l) ∙ sym (append_assoc (line_events (line_of x)) (lines_events xs) (line_events (line_of l)))

pub one_gathered : (strict : Bool) (lines left rest : List (List ℕ)) (l : List ℕ) (old new : List Event) → Gathers strict lines left old → left ≡ l ∷ rest → may_be_grouped strict (line_of l) ≡ true
    → new ≡ old ++ line_events (line_of l) → Gathers strict lines rest new
one_gathered strict lines left rest l old new so next may adds = record {
  given = so.given ++ l ∷ [];
  split = so.split ∙ ap (λ (x : List (List ℕ)). so.given ++ x) next ∙ sym (append_assoc so.given (l ∷ []) rest);
  each = each_more strict so.given l so.each may;
  are = adds ∙ ap (λ (es : List Event). es ++ line_events (line_of l)) so.are ∙ sym (events_more so.given l);
}

-- no more lines are left than there were
pub none_more : (strict : Bool) (lines left : List (List ℕ)) (events : List Event) → Gathers strict lines left events → length left ≤ length lines
none_more strict lines left events so = omega (arith, ap length so.split, length-append so.given left)

-- as many lines are left, so none was taken
pub none_given : (strict : Bool) (lines left : List (List ℕ)) (events : List Event) → Gathers strict lines left events → length left ≡ length lines → left ≡ lines
none_given strict lines left events so same = go so.given so.split
  where
    go : (given : List (List ℕ)) → lines ≡ given ++ left → left ≡ lines
    go [] split = sym split
    go (x ∷ xs) split = absurd (omega (arith, same, ap length split, length-append xs left))
