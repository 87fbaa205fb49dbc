-- The end of a report as JSON, as it is written, part by part. No public contract names this.
use Rattle.std.specs.Prelude.{ℕ, List, ◌++◌, codes}
use Rattle.std.specs.Fmt.{decimal}
use Rattle.check_report.specs.declared.verdict.VerdictCounts.{VerdictCounts}

-- how many differ, are errors and were left out, and then the other counts and what stands last
abbrev pub first_part : VerdictCounts → List ℕ
first_part counts = codes "{\"differ\":" ++ decimal counts.differ ++ codes ",\"errors\":" ++ decimal counts.errors ++ codes ",\"left_out\":" ++ decimal counts.left_out

abbrev pub second_part : VerdictCounts → List ℕ
second_part counts = codes ",\"new\":" ++ decimal counts.new ++ codes ",\"same\":" ++ decimal counts.same ++ codes ",\"type\":\"compared\",\"unanswered\":" ++ decimal counts.unanswered ++ codes "}\n{\"type\":\"end\"}\n"
