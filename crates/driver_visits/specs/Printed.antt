-- What a run prints of events is of events that it has taken, or the refusal of commands that go together: in their order, and nothing twice.
-- (docs/trust/PROGRAMS.md, "A6".)
use Rattle.std.specs.Prelude.{List, [], ◌∷◌, ◌++◌, map}
use Rattle.std.specs.List.{flat_map}
use Rattle.host_events.specs.declared.outcome.Outcome.{Outcome}
use Rattle.host_events.specs.declared.reply.Reply.{Reply}
use Rattle.child_edge.specs.Reported.{reported}
use Rattle.child_edge.specs.Together.{entries_after}
use Rattle.driver.specs.Items.{RunStep, printed, refused_whole, rewrote, took, took_alone}
use Rattle.driver.specs.Reports.{Report}
use Rattle.driver.specs.Reports as report

-- these stand in that list in their order, each at a place of its own
pub data InOrder {A : Type 0} : List A → List A → Type 0 where
  no_more : {all : List A} → InOrder [] all
  here : {x : A} {some all : List A} → InOrder some all → InOrder (x ∷ some) (x ∷ all)
  later : {x : A} {some all : List A} → InOrder some all → InOrder some (x ∷ all)

-- what is printed of one event: its outcome, or its reply, where it followed another
pub data Reportable : Type 0 where
  outcome : Outcome → Reportable
  reply : Reply → Reportable

-- What a report has. Notes, and what a line asks to be shown, are of no event.
abbrev pub in_report : Report → List Reportable
in_report (report.lines first outcomes) = map outcome outcomes
in_report (report.lives outcomes) = map outcome outcomes
in_report (report.followed replies) = map reply replies
in_report (report.shown one) = []

-- What there is to report of a step: what the events gave that it took, and then the replies to those that followed; or the outcome by which commands that go
-- together were refused. Of a step that broke off there is nothing to report, also of events that it took.
abbrev pub to_report : RunStep → List Reportable
to_report (took events outcomes followed) = map outcome outcomes ++ map reply (reported (entries_after followed))
to_report (refused_whole events one) = outcome one ∷ []
to_report (took_alone event one) = outcome one ∷ []
to_report (rewrote entry) = outcome entry.outcome ∷ []
to_report _ = []

-- what a step reported
abbrev pub was_reported : RunStep → List Reportable
was_reported (printed r) = in_report r
was_reported _ = []

-- After what these steps reported, the report has more of what there is to report of them: in order, and nothing twice. That all of it is reported this doesn't say,
-- nor by which number of a line.
abbrev pub IsReportOf : List RunStep → Report → Type 0
IsReportOf steps r = InOrder (flat_map was_reported steps ++ in_report r) (flat_map to_report steps)
