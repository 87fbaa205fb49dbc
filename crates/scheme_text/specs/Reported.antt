-- What an output tells, as a value, for definitions that keep it. `inside/Scan` computes it byte by byte; what it means is said by
-- `IsReportedBy`, and the law `reported_as_a_value` says that it is this.
use Rattle.std.specs.Prelude.{ℕ, List, Option, Some, None, Result, Ok, Err}
use Rattle.block_tree.specs.Tree.{Tree}
use Rattle.scheme_text.specs.Outputs.{answer_text}
use Rattle.scheme_text.specs.Answers.{rooted}
use Rattle.scheme_text.specs.inside.Scan.{read_strings}
use Rattle.scheme_text.specs.declared.answer.Completions.{Completions}
use Rattle.scheme_text.specs.declared.answer.BadCompletion.{BadCompletion}

abbrev pub no_completion : BadCompletion
no_completion = record {}

abbrev pub reported_by_strings : Option (List (List ℕ)) → Result Completions BadCompletion
reported_by_strings None = Err no_completion
reported_by_strings (Some ts) = Ok (rooted ts)

abbrev pub reported_by_text : Option (List ℕ) → Result Completions BadCompletion
reported_by_text None = Err no_completion
reported_by_text (Some t) = reported_by_strings (read_strings t)

-- the completions that an output tells, or that it tells none
abbrev pub reported_by : Tree → Result Completions BadCompletion
reported_by b = reported_by_text (answer_text b)
