-- What is printed at once, and its text.
use Rattle.std.specs.Prelude.{ℕ, List, [], ◌∷◌, ◌++◌, Option, Some, None}
use Rattle.std.specs.List.{flat_map}
use Rattle.host_events.specs.declared.outcome.Outcome.{Outcome}
use Rattle.host_events.specs.declared.reply.Reply.{Reply}
use Rattle.session_engine.specs.World.{World, sheet_in}
use Rattle.child_edge.specs.Reported.{spoken}
use Rattle.child_edge.specs.declared.interrupting.Interrupted.{Interrupted}
use Rattle.tellings.specs.Voice.{Voice, lives_text, numbered_text}
use Rattle.driver.specs.declared.report.Show.{Show}
use Rattle.driver.specs.declared.report.Show.TheVariants as show
use Rattle.driver.specs.declared.report.Came.{Came as GivenCame}
use Rattle.driver.specs.declared.report.Came.TheVariants as given

-- what is printed at once
pub data Report : Type 0 where
  -- what commands gave that were taken as one group, one of each line from the one with this number on
  lines : ℕ → List Outcome → Report
  -- what events gave whose lines have no number: those of lives, and of a script
  lives : List Outcome → Report
  -- the replies to what followed effects
  followed : List Reply → Report
  -- what a line asks to be shown, or what is noted of it
  shown : Show → Report

-- what those gave: the replies but Nothing, in order
abbrev pub lives_report : Voice → World → List Outcome → List ℕ
lives_report V w outcomes = flat_map (λ o. lives_text V w (spoken o.reply)) outcomes

-- its text, where events led to this world
abbrev pub printed_text : Voice → World → Report → List ℕ
printed_text V w (lines first outcomes) = numbered_text V first (sheet_in w) outcomes
printed_text V w (lives outcomes) = lives_report V w outcomes
printed_text V w (followed replies) = lives_text V w replies
printed_text V w (shown (show.Note n)) = V.note n
printed_text V w (shown (show.Sheet line)) = V.sheet line w
printed_text V w (shown (show.Field line id)) = V.field line id w
printed_text V w (shown (show.Export line format)) = V.exported line format (sheet_in w)

-- What came of an action: the outcomes of its events, the replies to what followed, and what came of an interrupt, where it was one.
pub record TurnCame : Type 0 where
  pub outcomes : List Outcome
  pub replies : List Reply
  pub interrupted : Option Interrupted

-- of events that were taken
abbrev pub came : List Outcome → List Reply → TurnCame
came outcomes replies = record { outcomes = outcomes; replies = replies; interrupted = None }

abbrev pub interrupt_came : Interrupted → TurnCame
interrupt_came result = record { outcomes = []; replies = []; interrupted = Some result }

-- as the code has it
abbrev pub came_of : GivenCame → TurnCame
came_of (given.Gave gave) = came gave.outcomes.items gave.replies.items
came_of (given.Joined gave) = came (gave.outcomes.items ++ gave.later.items) gave.replies.items
came_of (given.Alone o) = came (o ∷ []) []
came_of (given.Interrupted result) = interrupt_came result
came_of given.Shown = came [] []
