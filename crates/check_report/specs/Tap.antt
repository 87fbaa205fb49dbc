-- A report as TAP, version 13: the Test Anything Protocol.
use Rattle.std.specs.Prelude.{ℕ, ◌+◌, ◌==◌, Bool, true, false, List, [], ◌∷◌, ◌++◌, Option, Some, None, codes, cond, length}
use Rattle.std.specs.Fmt.{decimal}
use Rattle.check_report.specs.declared.verdict.Verdict.{Verdict}
use Rattle.check_report.specs.declared.verdict.Verdict.TheVariants as verdict
use Rattle.check_report.specs.Points.{Point}
use Rattle.sheet_json.specs.declared.checks.Took.{Took}

abbrev pub version_line : List ℕ
version_line = codes "TAP version 13\n"

-- whether the point is passed
abbrev pub result_words : Verdict → List ℕ
result_words verdict.Same = codes "ok "
result_words verdict.Differs = codes "not ok "
result_words verdict.Unanswered = codes "not ok "
result_words verdict.LeftOut = codes "ok "
result_words verdict.New = codes "ok "

-- the number of a field and its session
abbrev pub description : ℕ → List ℕ → List ℕ
description id session = codes " - field " ++ decimal id ++ codes " of " ++ session

-- what a parser is to do with the point, where that is anything, and the end of the line
abbrev pub directive : Verdict → List ℕ
directive verdict.Same = 10 ∷ []
directive verdict.Differs = 10 ∷ []
directive verdict.Unanswered = 10 ∷ []
directive verdict.LeftOut = codes " # SKIP left out\n"
directive verdict.New = codes " # SKIP new\n"

-- the line of the point with this number, of a field and its session
abbrev pub point_line : ℕ → ℕ → List ℕ → Verdict → List ℕ
point_line number id session v = result_words v ++ decimal number ++ description id session ++ directive v

-- what the evaluation took: how many milliseconds, and whether an interpreter was started for it
abbrev pub duration_line : ℕ → List ℕ
duration_line millis = codes "  duration_ms: " ++ decimal millis ++ codes "\n"

abbrev pub started_line : Bool → List ℕ
started_line true = codes "  started: true\n"
started_line false = codes "  started: false\n"

-- both as a block of YAML
abbrev pub yaml_block : Took → List ℕ
yaml_block took = codes "  ---\n" ++ duration_line took.millis ++ started_line took.started ++ codes "  ...\n"

-- where they are known
abbrev pub took_block : Option Took → List ℕ
took_block None = []
took_block (Some took) = yaml_block took

-- a byte of comments: `# ` stands in front of the first one of each line
abbrev pub comment_byte : Bool → ℕ → List ℕ
comment_byte begins byte = cond begins (35 ∷ 32 ∷ byte ∷ []) (byte ∷ [])

-- a line that isn't ended is ended
abbrev pub comments_end : Bool → List ℕ
comments_end begins = cond begins [] (10 ∷ [])

-- the comments of what is left of a text, by whether a line begins there
unfoldable pub comments_after : Bool → List ℕ → List ℕ
comments_after begins [] = comments_end begins
comments_after begins (byte ∷ rest) = comment_byte begins byte ++ comments_after (byte == 10) rest

-- each line of a text as a comment
abbrev pub comments : List ℕ → List ℕ
comments text = comments_after true text

-- a point, what it took, and what is reported of it
abbrev pub tap_point : ℕ → Point → List ℕ
tap_point number p = point_line number p.id p.session p.verdict ++ took_block p.took ++ comments p.reported

-- points, of which the first has this number
abbrev pub tap_points : ℕ → List Point → List ℕ
tap_points number [] = []
tap_points number (p ∷ points) = tap_point number p ++ tap_points (number + 1) points

abbrev pub plan_line : ℕ → List ℕ
plan_line count = codes "1.." ++ decimal count ++ 10 ∷ []

-- A whole report. The plan stands last, so one that was cut has none.
abbrev pub tap_text : List Point → List ℕ
tap_text points = version_line ++ tap_points 1 points ++ plan_line (length points)
