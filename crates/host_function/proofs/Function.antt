-- The function gives what the relation has, and all of it.
use Rattle.std.proofs.Common.{◌≡◌, inl, inr, ℕ, List, [], ◌∷◌, ◌++◌, refl, ap, sym, ◌∙◌, subst, Bool, true, false, Option, Some, None}
use Rattle.std.specs.Prelude.{◌&&◌}
use Rattle.meta_format.specs.Limits.{limits}
use Rattle.meta_format.specs.Stream.{Outer}
use Rattle.meta_format.specs.Faults.{Kind}
use Rattle.meta_format.specs.inside.Machine.{Mode, outside, tag_of, body_of, escape_of, broken, IsAlive}
use Rattle.meta_format.proofs.Feeds.{roomy}
use Rattle.meta_format.proofs.Sound.{alive_read, broken_stopped}
use Rattle.worksheet.specs.declared.refusal.Refusal.{Refusal}
use Rattle.worksheet.specs.Checks.{first_of}
use Rattle.plugin_core.specs.Laws.{OneReading}
use Rattle.plugin_core.specs.Past.{received, stream_of}
use Rattle.plugin_core.specs.Steps.{Reads, step_of}
use Rattle.host_events.specs.declared.command.Command.{Command}
use Rattle.host_events.specs.declared.event.ChildEvent.{ChildEvent}
use Rattle.host_events.specs.declared.event.ChildEvent.TheVariants as child
use Rattle.host_events.specs.declared.event.Event.{Event}
use Rattle.host_events.specs.declared.event.Event.TheVariants as event
use Rattle.host_events.specs.declared.outcome.Outcome.{Outcome}
use Rattle.session_engine.specs.World.{World, Going, life_of, with_number}
use Rattle.session_engine.specs.Refused.{command_refusals, command_takes_memory}
use Rattle.session_engine.specs.Does.{Does, ChildDoes, CommandDoes, MayDo, Gives, Runs, following, steps}
use Rattle.host_function.specs.Function.{reader_after, machine_fault, child_done, accepted_done, command_done, event_done, given, all_given, is_lack, ReadingIsAFunction, GivesIsAFunction, RunsIsAFunction, MemoryIsTheOnlyChoice}

-- What the machine has read is a reading of the stream.

alive_reads : (s : List ℕ) → IsAlive (reader_after s).mode → Reads s (reader_after s).out None
alive_reads s alive = let r = alive_read limits roomy s alive in ((r.tail, r.stream), r.sound)

reads : (s : List ℕ) → Reads s (reader_after s).out (machine_fault (reader_after s).mode)
reads s = by_mode (reader_after s).mode refl
  where
    alive_so : (mode : Mode) → (reader_after s).mode ≡ mode → IsAlive mode → Reads s (reader_after s).out None
    alive_so mode is alive = alive_reads s (subst IsAlive (sym is) alive)

    by_mode : (mode : Mode) → (reader_after s).mode ≡ mode → Reads s (reader_after s).out (machine_fault mode)
    by_mode outside is = alive_so outside is tt
    by_mode (tag_of start marks levels name) is = alive_so (tag_of start marks levels name) is tt
    by_mode (body_of start marks levels) is = alive_so (body_of start marks levels) is tt
    by_mode (escape_of start marks levels) is = alive_so (escape_of start marks levels) is tt
    by_mode (broken kind at) is =
        let q = reader_after s in
        let r = broken_stopped limits roomy s at q.at q.out kind (ap (λ (mode : Mode). record { at = q.at; out = q.out; mode = mode }) is) in
        (at, record { first = r.first; front = r.front; rest = r.rest; is = r.is; at_is = r.at_is; tail = r.tail; stream = r.stream })

pub reading_is_a_function : OneReading → ReadingIsAFunction
reading_is_a_function one s blocks fault = (
  λ r.
      let same = one s (reader_after s).out blocks (machine_fault (reader_after s).mode) fault (reads s) r in
      ap (λ (bs : List Outer). (bs, machine_fault (reader_after s).mode)) same.0 ∙ ap (λ (k : Option Kind). (blocks, k)) same.1,
  λ is. subst (λ (p : List Outer × Option Kind). Reads s p.0 p.1) is (reads s),
)

-- What is computed is in the relation.

module _ (w : World) where
  child_may : (l : Option Going) (e : ChildEvent) → ChildDoes w l e (child_done w l e)
  child_may l child.StartRefused = refl
  child_may None (child.Piece piece) = refl
  child_may (Some l) (child.Piece piece) =
      let s = stream_of (l.past ++ received piece ∷ []) in
      ((reader_after s).out, machine_fault (reader_after s).mode, reads s, refl)
  child_may l child.End = refl
  child_may l child.ReadFault = refl
  child_may l child.SendFault = refl
  child_may l child.Stalled = refl
  child_may l child.StopFault = refl

  accepted_may : (c : Command) (refuses takes : Bool) → command_takes_memory w c ≡ takes → CommandDoes w c None (accepted_done (refuses && takes) w c)
  accepted_may c true true is = inr (is, refl)
  accepted_may c true false is = inl refl
  accepted_may c false true is = inl refl
  accepted_may c false false is = inl refl

  command_may : (refuses : Bool) (c : Command) (r : Option Refusal) → CommandDoes w c r (command_done refuses w c r)
  command_may refuses c (Some r) = refl
  command_may refuses c None = accepted_may c refuses (command_takes_memory w c) refl

  may : (refuses : Bool) (e : Event) → MayDo w e (event_done refuses w e)
  may refuses (event.Command c) = command_may refuses c (first_of (command_refusals w c))
  may refuses (event.Child name number e) = child_may (with_number number (life_of w name)) e

-- What is in the relation is computed.

module _ (one : OneReading) (w : World) where
  child_is : (l : Option Going) (e : ChildEvent) (d : Does) → ChildDoes w l e d → d ≡ child_done w l e
  child_is l child.StartRefused d is = is
  child_is None (child.Piece piece) d is = is
  child_is (Some l) (child.Piece piece) d is =
      let s = stream_of (l.past ++ received piece ∷ []) in
      let r = one s is.0 (reader_after s).out is.1 (machine_fault (reader_after s).mode) is.2 (reads s) in
      is.3
      ∙ ap (λ (bs : List Outer). steps w l piece bs (step_of l.past l.blocks piece bs is.1)) r.0
      ∙ ap (λ (k : Option Kind). steps w l piece (reader_after s).out (step_of l.past l.blocks piece (reader_after s).out k)) r.1
  child_is l child.End d is = is
  child_is l child.ReadFault d is = is
  child_is l child.SendFault d is = is
  child_is l child.Stalled d is = is
  child_is l child.StopFault d is = is

  command_is : (c : Command) (r : Option Refusal) (d : Does) → CommandDoes w c r d → (refuses : Bool) × (d ≡ command_done refuses w c r)
  command_is c (Some r) d is = (false, is)
  command_is c None d (inl is) = (false, is)
  command_is c None d (inr is) = (true, is.1 ∙ ap (λ (takes : Bool). accepted_done takes w c) (sym is.0))

  done_is : (e : Event) (d : Does) → MayDo w e d → (refuses : Bool) × (d ≡ event_done refuses w e)
  done_is (event.Command c) d is = command_is c (first_of (command_refusals w c)) d is
  done_is (event.Child name number e) d is = (false, child_is (with_number number (life_of w name)) e d is)

  given_is : (e : Event) (o : Outcome) (v : World) → Gives w e o v → (refuses : Bool) × (given refuses w e ≡ (o, v))
  given_is e o v gives =
      let r = done_is e gives.0 gives.1 in
      (r.0, ap (λ (d : Does). (d.reported, following w d)) (sym r.1) ∙ ap (λ (p : Outcome). (p, following w gives.0)) (sym gives.2) ∙ ap (λ (u : World). (o, u)) (sym gives.3))

gives_so : (refuses : Bool) (w : World) (e : Event) (o : Outcome) (v : World) → given refuses w e ≡ (o, v) → Gives w e o v
gives_so refuses w e o v is = (event_done refuses w e, may w refuses e, ap (λ p. p.0) (sym is), ap (λ p. p.1) (sym is))

pub gives_is_a_function : OneReading → GivesIsAFunction
gives_is_a_function one w e o v = (given_is one w e o v, λ p. gives_so p.0 w e o v p.1)

-- Events one after another.

runs_so : (choices : List Bool) (w : World) (es : List Event) → Runs w es (all_given choices w es).0 (all_given choices w es).1
runs_so choices w [] = refl
runs_so [] w (e ∷ es) = ((given false w e).1, gives_so false w e _ _ refl, runs_so [] (given false w e).1 es)
runs_so (refuses ∷ choices) w (e ∷ es) = ((given refuses w e).1, gives_so refuses w e _ _ refl, runs_so choices (given refuses w e).1 es)

module _ (one : OneReading) where
  runs_is : (w : World) (es : List Event) (os : List Outcome) (v : World) → Runs w es os v → (choices : List Bool) × (all_given choices w es ≡ (os, v))
  runs_is w [] [] v is = ([], ap (λ (u : World). ([], u)) (sym is))
  runs_is w (e ∷ es) (o ∷ os) v (mid, gives, later) =
      let first = given_is one w e o mid gives in
      let rest = runs_is mid es os v later in (
        first.0 ∷ rest.0,
        ap (λ (p : Outcome × World). (p.0 ∷ (all_given rest.0 p.1 es).0, (all_given rest.0 p.1 es).1)) first.1 ∙ ap (λ (p : List Outcome × World). (o ∷ p.0, p.1)) rest.1,
      )
  runs_is w [] (o ∷ os) v is = absurd is
  runs_is w (e ∷ es) [] v is = absurd is

pub runs_is_a_function : OneReading → RunsIsAFunction
runs_is_a_function one w es os v = (
  runs_is one w es os v,
  λ p. subst (λ (r : List Outcome × World). Runs w es r.0 r.1) p.1 (runs_so p.0 w es),
)

-- Where nothing is refused for lack of memory.

never_both : (b : Bool) → b ≡ true → b ≡ false → ⊥
never_both b here gone = cc

module _ (one : OneReading) (w : World) where
  command_settled : (c : Command) (r : Option Refusal) (d : Does) → CommandDoes w c r d → is_lack d.reported.reply ≡ false → d ≡ command_done false w c r
  command_settled c (Some r) d is none = is
  command_settled c None d (inl is) none = is
  command_settled c None d (inr is) none = absurd (never_both (is_lack d.reported.reply) (ap (λ (f : Does). is_lack f.reported.reply) is.1) none)

  settled : (e : Event) (d : Does) → MayDo w e d → is_lack d.reported.reply ≡ false → d ≡ event_done false w e
  settled (event.Command c) d is none = command_settled c (first_of (command_refusals w c)) d is none
  settled (event.Child name number e) d is none = child_is one w (with_number number (life_of w name)) e d is

  given_settled : (e : Event) (o : Outcome) (v : World) → Gives w e o v → is_lack o.reply ≡ false → given false w e ≡ (o, v)
  given_settled e o v gives none =
      let r = settled e gives.0 gives.1 (subst (λ (p : Outcome). is_lack p.reply ≡ false) gives.2 none) in
      ap (λ (d : Does). (d.reported, following w d)) (sym r) ∙ ap (λ (p : Outcome). (p, following w gives.0)) (sym gives.2) ∙ ap (λ (u : World). (o, u)) (sym gives.3)

pub memory_is_the_only_choice : OneReading → MemoryIsTheOnlyChoice
memory_is_the_only_choice one w [] [] v is none = ap (λ (u : World). ([], u)) (sym is)
memory_is_the_only_choice one w (e ∷ es) (o ∷ os) v (mid, gives, later) none =
    let first = given_settled one w e o mid gives none.0 in
    let rest = memory_is_the_only_choice one mid es os v later none.1 in
    ap (λ (p : Outcome × World). (p.0 ∷ (all_given [] p.1 es).0, (all_given [] p.1 es).1)) first ∙ ap (λ (p : List Outcome × World). (o ∷ p.0, p.1)) rest
memory_is_the_only_choice one w [] (o ∷ os) v is none = absurd is
memory_is_the_only_choice one w (e ∷ es) [] v is none = absurd is
