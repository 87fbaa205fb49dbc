-- Interrupts, of which no event comes.
use Rattle.std.specs.Prelude.{◌≡◌, List, [], ◌∷◌, ℕ, Option, Some, None, option_map}
use Rattle.worksheet.specs.Checks.{session_named}
use Rattle.worksheet.specs.declared.field.Session.{Session}
use Rattle.session_engine.specs.World.{World, life_of, sheet_in}
use Rattle.child_calls.specs.declared.seat.Seat.{Seat}
use Rattle.child_calls.specs.Calls.{interrupt, Answer, done, fault, piece, end, no_memory}
use Rattle.child_edge.specs.Faithful.{Relation}
use Rattle.child_edge.specs.Seats.{life_view, seat_of}
use Rattle.child_edge.specs.declared.interrupting.Interrupted.{Interrupted}
use Rattle.child_edge.specs.declared.interrupting.Interrupted.TheVariants as interrupted

-- what is reported of an interrupt, by what its call gave
abbrev pub interrupt_reported : Answer → Interrupted
interrupt_reported done = interrupted.Sent
interrupt_reported fault = interrupted.Failed
interrupt_reported (piece bytes) = interrupted.Failed
interrupt_reported end = interrupted.Failed
interrupt_reported no_memory = interrupted.Failed

-- the first of these lives is interrupted by one call, and where there is none nothing is done
abbrev pub InterruptsFirst : {C : Type 0} → Relation C → List Seat → C → Interrupted → C → Type 0
InterruptsFirst R [] c reported d = (reported ≡ interrupted.Idle) × (d ≡ c)
InterruptsFirst R (seat ∷ seats) c reported d = (a : Answer) × R c (interrupt seat.name seat.life) a d × (reported ≡ interrupt_reported a)

-- this session, where there is one, which has these lives
abbrev pub InterruptsOf : {C : Type 0} → Relation C → Option Session → List Seat → C → Interrupted → C → Type 0
InterruptsOf R None seats c reported d = (reported ≡ interrupted.NoSession) × (d ≡ c)
InterruptsOf R (Some session) seats c reported d = InterruptsFirst R seats c reported d

-- the life of the session with this name is interrupted where an item waits in it
abbrev pub Interrupts : {C : Type 0} → Relation C → World → List ℕ → C → Interrupted → C → Type 0
Interrupts R w name c reported d = InterruptsOf R (session_named (sheet_in w).sessions name) (seat_of name (option_map life_view (life_of w name))) c reported d
