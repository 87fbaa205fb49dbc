-- A life that has ended doesn't go on again.
use Rattle.std.proofs.Common.{◌≡◌, ⊎_elim, ◌+◌, ◌≤◌, ℕ, List, [], ◌∷◌, refl, ap, sym, ◌∙◌, subst, arith, Bool, true, false, Option, Some, None}
use Rattle.std.specs.Prelude.{if◌then◌else◌, ◌==◌, ◌&&◌}
use Rattle.std.specs.Str.{bytes_eq}
use Rattle.std.proofs.lemmas.Bool.Decides.{nat_tests}
use Rattle.host_events.specs.declared.event.ChildEvent.{ChildEvent}
use Rattle.host_events.specs.declared.event.ChildEvent.TheVariants as child
use Rattle.host_events.specs.declared.event.Event.{Event}
use Rattle.host_events.specs.declared.outcome.Outcome.{Outcome}
use Rattle.host_events.specs.declared.reply.Reply.TheVariants as reply
use Rattle.session_engine.specs.Named.{first_named, without_named}
use Rattle.session_engine.specs.World.{World, Going, world_at_opening, life_of, with_number}
use Rattle.session_engine.specs.Does.{Does, ChildDoes, Gives, Runs, tells}
use Rattle.host_laws.specs.Laws.{NothingOfAnEndedLife}
use Rattle.session_engine.proofs.Tables.{first_has_name}
use Rattle.host_laws.proofs.ApartLives.{is_itself}
use Rattle.host_laws.proofs.Totals.{total, total-out, total-below}
use Rattle.host_laws.proofs.Numbers.{Counts, Numbered, both_by, counts, is_both, is_named, none_named, numbered_first, numbered_run}

module _ (name : List ℕ) (number : ℕ) where
  both_le : (l : Going) → is_both name number l ≤ is_named name l
  both_le l = go (bytes_eq l.name name) (l.number == number)
    where
      go : (a b : Bool) → (if a && b then 1 else 0) ≤ (if a then 1 else 0)
      go true true = omega arith
      go true false = omega arith
      go false b = omega arith

  none_left : (w : World) → Numbered w → with_number number (life_of w name) ≡ None → total (is_both name number) w.lives ≡ 0
  none_left w h ended = go (life_of w name) refl ended
    where
      below : (ls : List Going) → total (is_both name number) ls ≤ total (is_named name) ls
      below ls = total-below (is_both name number) (is_named name) ls both_le

      go : (o : Option Going) → life_of w name ≡ o → with_number number o ≡ None → total (is_both name number) w.lives ≡ 0
      go None e ended = let nil = none_named name w.lives e in let le = below w.lives in omega (arith, nil, le)
      go (Some l) e ended = at (bytes_eq l.name name) (l.number == number) refl refl ended
        where
          mine : l.name ≡ name
          mine = first_has_name (λ (g : Going). g.name) name w.lives l e

          at : (a b : Bool) → bytes_eq l.name name ≡ a → (l.number == number) ≡ b → (if b then Some l else None) ≡ None → total (is_both name number) w.lives ≡ 0
          at a true s t ended = cc
          at false false s t ended = let no : true ≡ false = sym (ap (λ (n : List ℕ). bytes_eq n name) mine ∙ is_itself name) ∙ s in cc
          at true false s t ended =
              let one : is_named name l ≡ 1 = rw s refl in
              let none : is_both name number l ≡ 0 = rw (s, t) refl in
              let most = h.names name in
              let rest = total-out (is_named name) name l w.lives e in
              let both = total-out (is_both name number) name l w.lives e in
              let le = below (without_named (λ g. g.name) name w.lives) in
              omega (arith, one, none, most, rest, both, le)

  stays_ended : (w : World) (e : Event) (o : Outcome) (v : World) → Gives w e o v → number ≤ w.begun → total (is_both name number) w.lives ≡ 0
      → (number ≤ v.begun) × (total (is_both name number) v.lives ≡ 0)
  stays_ended w e o v g le nil = (let bound = c.bound in omega (arith, bound, le), ⊎_elim (λ less. omega (arith, less, nil)) (λ new. other new.0 new.2 new.4) c.sum)
    where
      c : Counts (is_both name number) w v
      c = counts (is_both name number) (both_by name number) w e o v g

      other : (m : Going) → m.number ≡ w.begun + 1 → total (is_both name number) v.lives ≡ total (is_both name number) w.lives + is_both name number m → total (is_both name number) v.lives ≡ 0
      other m new sum = go (bytes_eq m.name name) (m.number == number) refl refl
        where
          go : (a b : Bool) → bytes_eq m.name name ≡ a → (m.number == number) ≡ b → total (is_both name number) v.lives ≡ 0
          go a true s t = let same : m.number ≡ number = grind (arith, nat_tests, t) in absurd (omega (arith, new, same, le))
          go true false s t = let none : is_both name number m ≡ 0 = rw (s, t) refl in omega (arith, sum, nil, none)
          go false false s t = let none : is_both name number m ≡ 0 = rw s refl in omega (arith, sum, nil, none)

  ended_run : (w : World) (es : List Event) (os : List Outcome) (v : World) → Runs w es os v → number ≤ w.begun → total (is_both name number) w.lives ≡ 0 → total (is_both name number) v.lives ≡ 0
  ended_run w [] [] v run le nil = ap (λ (u : World). total (is_both name number) u.lives) run ∙ nil
  ended_run w [] (o ∷ os) v run le nil = absurd run
  ended_run w (e ∷ es) [] v run le nil = absurd run
  ended_run w (e ∷ es) (o ∷ os) v run le nil = let s = stays_ended w e o run.0 run.1 le nil in ended_run run.0 es os v run.2 s.0 s.1

  not_on : (ls : List Going) → total (is_both name number) ls ≡ 0 → with_number number (first_named (λ g. g.name) name ls) ≡ None
  not_on [] nil = refl
  not_on (l ∷ ls) nil = go (bytes_eq l.name name) (l.number == number) refl nil (not_on ls)
    where
      go : (a b : Bool) → (l.number == number) ≡ b → (if a && b then 1 else 0) + total (is_both name number) ls ≡ 0 → (total (is_both name number) ls ≡ 0 → with_number number (first_named (λ g. g.name) name ls) ≡ None)
          → with_number number (if a then Some l else first_named (λ g. g.name) name ls) ≡ None
      go true true t nil rest = absurd (omega (arith, nil))
      go true false t nil rest = rw t refl
      go false b t nil rest = rest (omega (arith, nil))

-- an event of no life
pub of_no_life : (w : World) (e : ChildEvent) (d : Does) → ChildDoes w None e d → d ≡ tells w reply.Nothing
of_no_life w child.StartRefused d is = is
of_no_life w (child.Piece piece) d is = is
of_no_life w child.End d is = is
of_no_life w child.ReadFault d is = is
of_no_life w child.SendFault d is = is
of_no_life w child.Stalled d is = is
of_no_life w child.StopFault d is = is

pub nothing_of_an_ended_life : NothingOfAnEndedLife
nothing_of_an_ended_life ops room end es os w run name number le ended later reported v more e d may =
    let nil = none_left name number w (numbered_run (world_at_opening ops room end) es os w (numbered_first ops room end) run) ended in
    let none = not_on name number v.lives (ended_run name number w later reported v more le nil) in
    of_no_life v e d (subst (λ (o : Option Going). ChildDoes v o e d) none may)
