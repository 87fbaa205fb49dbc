-- What is printed of a life. (docs/use/SCRIPT.md, "What is written".)
use Rattle.std.specs.Prelude.{ℕ, List, [], ◌∷◌, ◌++◌, length, Option, Some, None, Result, Ok, Err, codes}
use Rattle.std.specs.List.{flat_map}
use Rattle.std.specs.Fmt.{decimal}
use Rattle.block_tree.specs.declared.reason.Reason.{Reason}
use Rattle.block_tree.specs.declared.reason.Reason.TheVariants as reason
use Rattle.plugin_core.specs.declared.step.Ended.{Ended}
use Rattle.host_events.specs.declared.reply.ChildReply.{ChildReply}
use Rattle.host_events.specs.declared.reply.Closed.{Closed}
use Rattle.host_events.specs.declared.reply.Closed.TheVariants as closed
use Rattle.scheme_text.specs.declared.answer.Completions.{Completions}
use Rattle.scheme_text.specs.declared.answer.BadCompletion.{BadCompletion}
use Rattle.sheet_text.specs.Escape.{on_line, in_quotes}

-- why a life ended
abbrev pub reason_name : Reason → List ℕ
reason_name reason.StartRefused = codes "StartRefused"
reason_name reason.Ended = codes "Ended"
reason_name reason.ReadFault = codes "ReadFault"
reason_name reason.SendFault = codes "SendFault"
reason_name reason.Stalled = codes "Stalled"
reason_name reason.BadTag = codes "BadTag"
reason_name reason.TooDeep = codes "TooDeep"
reason_name reason.TooLong = codes "TooLong"
reason_name reason.Stopped = codes "Stopped"

abbrev pub banner_line : List ℕ → List ℕ
banner_line name = codes "banner " ++ name ++ 10 ∷ []

-- each of these texts between quotes, after a space
abbrev pub spaced_texts : List (List ℕ) → List ℕ
spaced_texts texts = flat_map (λ text. 32 ∷ in_quotes text) texts

-- 'completed', the field, and the root and the completions; or 'bad' where the answer tells none
abbrev pub completed_line : ℕ → Result Completions BadCompletion → List ℕ
completed_line id (Ok reported) = codes "completed " ++ decimal id ++ spaced_texts (reported.root ∷ reported.rest) ++ 10 ∷ []
completed_line id (Err bad) = codes "completed " ++ decimal id ++ codes " bad" ++ 10 ∷ []

-- the answer that closed: 'banner' and the session, or 'answered' or 'completed' and the field
abbrev pub closed_line : List ℕ → Option Closed → List ℕ
closed_line name None = []
closed_line name (Some (closed.Banner block)) = banner_line name
closed_line name (Some (closed.Line id)) = codes "answered " ++ decimal id ++ 10 ∷ []
closed_line name (Some (closed.Complete id reported)) = completed_line id reported

-- 'default', the session, and the default input on one line
abbrev pub default_line : List ℕ → Option (List ℕ) → List ℕ
default_line name None = []
default_line name (Some text) = codes "default " ++ name ++ codes " " ++ on_line text ++ 10 ∷ []

-- 'ended', the session, why, and how many items were lost
abbrev pub ended_line : List ℕ → Option Ended → List ℕ
ended_line name None = []
ended_line name (Some ended) = codes "ended " ++ name ++ codes " " ++ reason_name ended.reason ++ codes " lost " ++ decimal (length ended.lost) ++ 10 ∷ []

-- the lines of these that are there
abbrev pub child_text : ChildReply → List ℕ
child_text reported = closed_line reported.name reported.closed ++ default_line reported.name reported.default_input ++ ended_line reported.name reported.ended
