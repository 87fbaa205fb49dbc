-- A play of a group that may stop at a refusal.
use Rattle.std.proofs.Common.{◌≡◌, ◌&&◌, ◌||◌, Bool, true, false, List, [], ◌∷◌, ◌++◌, refl, sym, ap, ◌∙◌, append-nil, arith, ℕ, option_map, length}
use Rattle.std.proofs.lemmas.Bool.{false≢true}
use Rattle.std.proofs.lemmas.List.Folds.{list_any-append}
use Rattle.std.specs.List.{list_any}
use Rattle.disk_model.specs.Disk.{Rises, SameDisk}
use Rattle.host_events.specs.declared.event.Event.{Event}
use Rattle.host_events.specs.declared.outcome.Outcome.{Outcome}
use Rattle.session_engine.specs.declared.play.GroupFault.{GroupFault}
use Rattle.session_engine.specs.declared.play.GroupFault.TheVariants as halt
use Rattle.session_engine.specs.World.{World, life_of, sheet_in}
use Rattle.session_engine.specs.Host.{HostView, IsHost, number_in}
use Rattle.session_engine.specs.Crash.{HasPlayed}
use Rattle.session_engine.specs.Gathers.{FlushesTo, IsFlushed}
use Rattle.session_engine.specs.Groups.{HaltsGroup, LastRefused, StopsAtRefusal, after_one, is_refusal, nowhere}
use Rattle.session_engine.specs.inside.Until.{EndsWith, HaltsBy, PlayedBy, TookBy}
use Rattle.session_engine.proofs.Gathering.{failed_group, flushes_after}

-- Where it ends.

pub empty_of : {A : Type 0} (xs : List A) → length xs ≡ 0 → xs ≡ []
empty_of [] is = refl
empty_of (x ∷ xs) is = absurd (omega (arith, is))

neither : (x y : Bool) → x ≡ false → y ≡ false → (x || y) ≡ false
neither x y e f = ap (λ b. b || y) e ∙ f

-- one outcome more that isn't a refusal
pub none_more : (os : List Outcome) (o : Outcome) → list_any is_refusal os ≡ false → is_refusal o ≡ false → list_any is_refusal (os ++ o ∷ []) ≡ false
none_more os o none accepted = list_any-append is_refusal os (o ∷ []) ∙ neither (list_any is_refusal os) (list_any is_refusal (o ∷ [])) none (neither (is_refusal o) false accepted refl)

pub goes_on : (up_to b r : Bool) → r ≡ (up_to && b) → r ≡ false → up_to ≡ true → b ≡ false
goes_on false b r is went on = absurd (false≢true on)
goes_on true b r is went on = sym is ∙ went

pub ends_after : (up_to : Bool) (os : List Outcome) (o : Outcome) (rest : List Event) (r : Bool) → r ≡ (up_to && is_refusal o) → r ≡ true → (up_to ≡ true → list_any is_refusal os ≡ false) → EndsWith up_to (os ++ o ∷ []) rest
ends_after false os o rest r is stopped right = absurd (false≢true (sym is ∙ stopped))
ends_after true os o rest r is stopped right = after_one os o refl (right refl) (sym is ∙ stopped)

pub ends_nowhere : (up_to : Bool) (os : List Outcome) → (up_to ≡ true → list_any is_refusal os ≡ false) → EndsWith up_to os []
ends_nowhere false os right = refl
ends_nowhere true os right = nowhere (right refl) refl

pub none_refused : (os : List Outcome) → list_any is_refusal os ≡ false → LastRefused os
none_refused os none = record { before = os; last = []; split = sym (append-nil os); one = omega arith; accepted = none }

last_refused : (os : List Outcome) (rest : List Event) → StopsAtRefusal os rest → LastRefused os
last_refused os rest (nowhere none is) = none_refused os none
last_refused os rest (after_one before last is none refused) = record { before = before; last = last ∷ []; split = is; one = omega arith; accepted = none }

pub ends_refused : (up_to : Bool) (os : List Outcome) (rest : List Event) → EndsWith up_to os rest → up_to ≡ true → LastRefused os
ends_refused false os rest ends on = absurd (false≢true on)
ends_refused true os rest ends on = last_refused os rest ends

-- A host before events, after them, and after what they owe was flushed.

module _ (w : World) (events : List Event) (old mid new : HostView) (real : mid.store.real ≡ old.store.real) (same : SameDisk old.store.disk mid.store.disk)
    (flushes : FlushesTo mid.store.sheet.contents mid.store new.store) where
  pub took_by : (up_to : Bool) (reported : List Outcome) (p : PlayedBy up_to w events reported mid) → IsHost new p.played.leads → IsFlushed new → TookBy up_to w events reported old new
  took_by false reported p stands flushed = record {
    played = record { done = p.played.done; split = p.played.split ∙ ap (λ (x : List Event). p.played.done ++ x) p.ends; leads = p.played.leads; runs = p.played.runs; stands = stands };
    flushed = flushed;
    moments = flushes_after old.store mid.store new.store (sheet_in p.played.leads) real same p.played.stands.stands.contents flushes;
  }
  took_by true reported p stands flushed = record {
    rest = p.rest;
    played = record { done = p.played.done; split = p.played.split; leads = p.played.leads; runs = p.played.runs; stands = stands };
    stops = p.ends;
    flushed = flushed;
    moments = flushes_after old.store mid.store new.store (sheet_in p.played.leads) real same p.played.stands.stands.contents flushes;
  }

  pub failed_by : (up_to : Bool) (rest : List Event) (withheld : List Outcome) (before : HostView) (p : HasPlayed w events rest withheld before) → (up_to ≡ true → LastRefused withheld) → mid.store.sheet.contents ≡ sheet_in p.leads
      → ((name : List ℕ) → number_in mid.lives name ≡ option_map (λ l. l.number) (life_of p.leads name)) → new.store.sheet ≡ mid.store.sheet → new.lives ≡ mid.lives
      → new.closed ≡ true → Rises mid.store.real.faults new.store.real.faults → HaltsBy up_to w events old new halt.Disk
  failed_by false rest withheld before p right is numbers sheet lives closed broke = failed_group w events old mid new real same flushes rest withheld before p is numbers sheet lives closed broke
  failed_by true rest withheld before p right is numbers sheet lives closed broke = (failed_group w events old mid new real same flushes rest withheld before p is numbers sheet lives closed broke, right refl)

-- Why not all were taken.

-- of the outcomes before a fault that isn't the disk's none is a refusal
abbrev pub StaysRight : GroupFault → Type 0
StaysRight (halt.Checkpoint back) = Unit {0}
StaysRight (halt.NoRoom back) = Unit {0}
StaysRight (halt.Stopped outcomes fault) = list_any is_refusal outcomes.items ≡ false
StaysRight halt.Disk = ⊥

pub halts_by : (up_to : Bool) (w : World) (events : List Event) (old new : HostView) (fault : GroupFault) → HaltsGroup w events old new fault → (up_to ≡ true → StaysRight fault) → HaltsBy up_to w events old new fault
halts_by false w events old new fault p right = p
halts_by true w events old new (halt.Checkpoint back) p right = p
halts_by true w events old new (halt.NoRoom back) p right = p
halts_by true w events old new (halt.Stopped outcomes fault) p right = (p, right refl)
halts_by true w events old new halt.Disk p right = absurd (right refl)
