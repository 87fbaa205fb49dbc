-- Where an evaluation begins, and what it needs. (docs/use/EVAL.md.)
use Rattle.std.specs.Prelude.{ℕ, false, List, []}
use Rattle.worksheet.specs.Contents.{Contents}
use Rattle.live.specs.declared.holding.Hold.TheVariants as hold
use Rattle.evaluation.specs.declared.plan.Plan.{Plan}
use Rattle.evaluation.specs.declared.plan.Stand.{Stand}
use Rattle.evaluation.specs.Programs.{Finds, HaveAll, IsFirstLacking}
use Rattle.evaluation.specs.Rounds.{asking_order}

-- nothing was asked yet
abbrev pub not_begun : Stand
not_begun = record { taken = 0; first = 0; field = 0; held = hold.Free; warned = false; at_once = false; asked = 0; overs = 0; lasts = [] }

-- The program of each session that has a field which is to be evaluated was found.
abbrev pub AreReady : Finds → Plan → Contents → Type 0
AreReady finds plan sheet = HaveAll finds sheet.fields (asking_order plan sheet) sheet.sessions

-- The session of this name is the first whose program wasn't found of those that have a field which is to be evaluated.
abbrev pub IsUnfound : Finds → Plan → Contents → List ℕ → Type 0
IsUnfound finds plan sheet name = IsFirstLacking finds sheet.fields (asking_order plan sheet) sheet.sessions name
