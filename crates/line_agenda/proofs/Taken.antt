-- What is taken of an input.
use Rattle.std.proofs.Common.{◌≡◌, ◌≤◌, ◌∙◌, ap, arith, subst, ℕ, Option, List, [], ◌∷◌, ◌++◌, length, take, drop}
use Rattle.std.specs.Prelude.{slice_index_or}
use Rattle.host_events.specs.declared.event.Event.{Event}
use Rattle.arrivals.specs.Held.{Held}
use Rattle.live.specs.Gathering.{Gathered}
use Rattle.live.proofs.Gatherings.{grouped_count}
use Rattle.session_engine.specs.World.{World}
use Rattle.live.specs.declared.live_line.LiveLine.{LiveLine}
use Rattle.live.specs.declared.manner.Manner.{Manner}
use Rattle.line_agenda.specs.declared.doing.LineChoice.{LineChoice}
use Rattle.line_agenda.specs.Alone.{AsksAlone}

-- the events are as many as the lines
pub as_many : (h k : Held) (events : List Event) (g : Gathered h k events) → length events ≡ length g.given
as_many h k events g = ap length g.are ∙ grouped_count g.given g.each

-- what is taken off at the front is the first
pub first_taken : {A : Type 0} (xs ys : List A) (x : A) → 1 ≤ length xs → x ≡ slice_index_or xs 0 x → ys ≡ take 0 xs ++ drop 1 xs → xs ≡ x ∷ ys
first_taken [] ys x some is rest = absurd (omega (arith, some))
first_taken (z ∷ zs) ys x some is rest =
    let head : x ≡ z = is in
    let tail : ys ≡ zs = rest in
    cc

-- the same is asked for where all of these are equal
pub asks_same : (m n : Manner) (k j : ℕ) (w : World) (now then_now : ℕ) (l p : Option LiveLine) (c : LineChoice) → m ≡ n → k ≡ j → now ≡ then_now → l ≡ p
    → AsksAlone m k w now l c → AsksAlone n j w then_now p c
asks_same m n k j w now then_now l p c em ek en el asks =
    subst (λ (x : Manner). AsksAlone x j w then_now p c) em
    (subst (λ (x : ℕ). AsksAlone m x w then_now p c) ek
    (subst (λ (x : ℕ). AsksAlone m k w x p c) en
    (subst (λ (x : Option LiveLine). AsksAlone m k w now x c) el asks)))
