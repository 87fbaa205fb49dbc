-- Runs one after the other, and what the driver's calls did.
use Rattle.std.proofs.Common.{◌≡◌, ℕ, List, [], ◌∷◌, ◌++◌, refl, subst, Ok, Err}
use Rattle.std.specs.Prelude.{Result}
use Rattle.session_engine.specs.World.{World}
use Rattle.child_edge.specs.Faithful.{Entry}
use Rattle.offline_programs.specs.declared.fault.RunFault.{RunFault}
use Rattle.driver.specs.Items.{Item, RunStep, broke}
use Rattle.driver.specs.Place.{RunPlace, Rules}
use Rattle.driver.specs.Steps.{Fails, Goes, Run, breaks}
use Rattle.driver.specs.Runs.{DidSteps, Parts, Stands, StandsBy, left_by_answer, seen}

pub run_join : {A C K : Type 0} (R : Rules A C K) (p m q : RunPlace A C K) (todo mid left : List Item) (xs ys : List RunStep)
    → Run R p todo xs mid m → Run R m mid ys left q → Run R p todo (xs ++ ys) left q
run_join R p m q todo mid left [] ys (is, here) r =
    subst (λ (t : List Item). Run R p t ys left q) is (subst (λ (s : RunPlace _ _ _). Run R s mid ys left q) here r)
run_join R p m q todo mid left (x ∷ xs) ys (next, at, goes, more) r = (next, at, goes, run_join R at m q next mid left xs ys more r)

module _ {A C K : Type 0} (R : Rules A C K) (p : RunPlace A C K) (todo : List Item) where
  -- one step
  pub did_one : {T : Type 0} (s : RunStep) (left : Result T RunFault → List Item) (answer : Result T RunFault) (w : World) (now : ℕ × Parts A C K)
      → Goes R p todo s (left answer) (seen now.0 w now.1) → StandsBy answer now.1.host w → DidSteps R p todo left answer now
  did_one s left answer w now goes stands = record { steps = s ∷ []; world = w; ran = (left answer, seen now.0 w now.1, goes, (refl, refl)); stands = stands }

  -- one step, and then more
  pub did_more : {T : Type 0} (s : RunStep) (next : List Item) (mid : RunPlace A C K) (left : Result T RunFault → List Item) (answer : Result T RunFault) (now : ℕ × Parts A C K)
      → Goes R p todo s next mid → DidSteps R mid next left answer now → DidSteps R p todo left answer now
  did_more s next mid left answer now goes d = record { steps = s ∷ d.steps; world = d.world; ran = (next, mid, goes, d.ran); stands = d.stands }

  -- one call after another that was done
  pub did_then : {T U : Type 0} (mid : T → List Item) (done : T) (n : ℕ) (x : Parts A C K) (left : Result U RunFault → List Item) (answer : Result U RunFault) (now : ℕ × Parts A C K)
      → (first : DidSteps R p todo (left_by_answer mid) (Ok done) (n, x)) → DidSteps R (seen n first.world x) (mid done) left answer now → DidSteps R p todo left answer now
  did_then mid done n x left answer now first last = record {
    steps = first.steps ++ last.steps;
    world = last.world;
    ran = run_join R p (seen n first.world x) (seen now.0 last.world now.1) todo (mid done) (left answer) first.steps last.steps first.ran last.ran;
    stands = last.stands;
  }

  -- a call that failed
  pub did_fail : {T U : Type 0} (f : T → List Item) (g : U → List Item) (why : RunFault) (now : ℕ × Parts A C K)
      → DidSteps R p todo (left_by_answer f) (Err why) now → DidSteps R p todo (left_by_answer g) (Err why) now
  did_fail f g why now d = record { steps = d.steps; world = d.world; ran = d.ran; stands = d.stands }

-- the first item failed
pub did_break : {A C K T : Type 0} (R : Rules A C K) (p : RunPlace A C K) (i : Item) (rest : List Item) (entries : List Entry) (f : T → List Item) (why : RunFault) (w : World) (now : ℕ × Parts A C K)
    → Fails R p i entries why (seen now.0 w now.1) → Stands now.1.host w → DidSteps R p (i ∷ rest) (left_by_answer f) (Err why) now
did_break R p i rest entries f why w now fails stands =
    did_one R p (i ∷ rest) (broke entries why) (left_by_answer f) (Err why) w now (breaks i entries why (seen now.0 w now.1) rest fails) stands

-- nothing was to be done
pub did_none : {A C K T : Type 0} (R : Rules A C K) (w : World) (x : Parts A C K) (n : ℕ) (todo : List Item) (left : Result T RunFault → List Item) (answer : Result T RunFault) → left answer ≡ todo → StandsBy answer x.host w
    → DidSteps R (seen n w x) todo left answer (n, x)
did_none R w x n todo left answer is stands = record { steps = []; world = w; ran = (is, refl); stands = stands }
