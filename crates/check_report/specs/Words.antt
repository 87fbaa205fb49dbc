-- A report in words, with outputs as `Brief` has them. (docs/use/CHECK.md has the same in words.)
use Rattle.std.specs.Prelude.{ℕ, List, [], ◌∷◌, ◌++◌, Option, codes, nat_eq, if◌then◌else◌}
use Rattle.std.specs.Fmt.{decimal}
use Rattle.std.specs.List.{flat_map}
use Rattle.std.specs.Str.{bytes_eq}
use Rattle.bstr.specs.Text.{lines_of}
use Rattle.block_tree.specs.declared.reason.Reason.{Reason}
use Rattle.worksheet.specs.declared.field.Answer.{Answer}
use Rattle.worksheet.specs.declared.field.Field.{Field}
use Rattle.sheet_text.specs.Texts.{input_line, number_line}
use Rattle.check_report.specs.declared.hunks.Hunk.{Hunk}
use Rattle.check_report.specs.declared.verdict.VerdictCounts.{VerdictCounts}
use Rattle.check_report.specs.declared.verdict.Verdict.{Verdict}
use Rattle.check_report.specs.declared.verdict.Verdict.TheVariants as verdict
use Rattle.check_report.specs.Brief.{brief_lines}
use Rattle.check_report.specs.Hunks.{hunk_of, hunk_text}

-- each line of a text with a mark in front
abbrev pub marked : List ℕ → List ℕ → List ℕ
marked mark text = flat_map (λ line. mark ++ line) (lines_of text)

-- the lines of a field, and those of two outputs with their marks
abbrev pub difference_of : Field → List ℕ → List ℕ → List ℕ
difference_of field shown came = number_line field ++ (input_line field ++ (marked (codes "- ") shown ++ marked (codes "+ ") came))

-- A field, and how the answer that came differs from the one that it shows: its lines as `print` has them, but those of the output
-- with `- ` in front, each picture on one line, and after them those of the output that came with `+ `. Where none came that is `+ ?`,
-- and the reason that the field then shows, if it shows one.
abbrev pub difference_text : Field → Option Answer → Option Reason → List ℕ
difference_text field came lost = difference_of field (brief_lines field.answer field.lost) (brief_lines came lost)

-- how the output of a field became another: that both are the same in print, or where they differ
abbrev pub changed_lines : Hunk → List ℕ → List ℕ → List ℕ
changed_lines h shown came = if bytes_eq shown came then codes "= the same in print\n" else hunk_text h shown came

abbrev pub change_of : Hunk → Field → List ℕ → List ℕ → List ℕ
change_of h field shown came = number_line field ++ (input_line field ++ changed_lines h shown came)

-- between two texts
abbrev pub change_between : Field → List ℕ → List ℕ → List ℕ
change_between field shown came = change_of (hunk_of (lines_of shown) (lines_of came)) field shown came

-- A field, and where the answer that came differs from the one that it shows: its lines as `print` has them, but in place of its output
-- the hunk that turns it into the output that came.
abbrev pub change_text : Field → Option Answer → Option Reason → List ℕ
change_text field came lost = change_between field (brief_lines field.answer field.lost) (brief_lines came lost)

-- the lines of a field, and those of an output with their mark
abbrev pub addition_of : Field → List ℕ → List ℕ
addition_of field came = number_line field ++ (input_line field ++ marked (codes "+ ") came)

-- A field that shows no answer, and the one that came: its lines as `print` has them, but those of the output with `+ ` in front.
abbrev pub new_text : Field → Option Answer → Option Reason → List ℕ
new_text field came lost = addition_of field (brief_lines came lost)

-- what is written of a field that came to this, with whole outputs
abbrev pub whole_text : Field → Option Answer → Option Reason → Verdict → List ℕ
whole_text field came lost verdict.Same = []
whole_text field came lost verdict.Differs = difference_text field came lost
whole_text field came lost verdict.Unanswered = difference_text field came lost
whole_text field came lost verdict.LeftOut = []
whole_text field came lost verdict.New = new_text field came lost

-- what is written of a field that came to this
abbrev pub verdict_text : Field → Option Answer → Option Reason → Verdict → List ℕ
verdict_text field came lost verdict.Same = []
verdict_text field came lost verdict.Differs = change_text field came lost
verdict_text field came lost verdict.Unanswered = difference_text field came lost
verdict_text field came lost verdict.LeftOut = []
verdict_text field came lost verdict.New = new_text field came lost

-- the line that says that the answer which came to this field is accepted
abbrev pub accepted_line : ℕ → List ℕ
accepted_line id = codes "accepted " ++ decimal id ++ 10 ∷ []

-- what is written of a field that came to this, where answers that differ are accepted
abbrev pub acceptance_text : Field → Option Answer → Option Reason → Verdict → List ℕ
acceptance_text field came lost verdict.Same = []
acceptance_text field came lost verdict.Differs = change_text field came lost ++ accepted_line field.id
acceptance_text field came lost verdict.Unanswered = difference_text field came lost
acceptance_text field came lost verdict.LeftOut = []
acceptance_text field came lost verdict.New = new_text field came lost ++ accepted_line field.id

-- how many were left out, where some were
abbrev pub left_out_part : ℕ → List ℕ
left_out_part n = if nat_eq n 0 then [] else codes " left out " ++ decimal n

-- how many answers are errors, where some are
abbrev pub errors_part : ℕ → List ℕ
errors_part n = if nat_eq n 0 then [] else codes " errors " ++ decimal n

-- how many answers came to fields that show none, where some did
abbrev pub new_part : ℕ → List ℕ
new_part n = if nat_eq n 0 then [] else codes " new " ++ decimal n

-- how many were compared, by what they came to
abbrev pub compared_part : VerdictCounts → List ℕ
compared_part counts = codes "same " ++ decimal counts.same ++ codes " differ " ++ decimal counts.differ ++ codes " unanswered " ++ decimal counts.unanswered

-- the same, where those that differ were accepted
abbrev pub accepted_part : VerdictCounts → List ℕ
accepted_part counts = codes "same " ++ decimal counts.same ++ codes " accepted " ++ decimal counts.differ ++ codes " unanswered " ++ decimal counts.unanswered

-- the last line
abbrev pub counts_text : VerdictCounts → List ℕ
counts_text counts = compared_part counts ++ left_out_part counts.left_out ++ errors_part counts.errors ++ new_part counts.new ++ 10 ∷ []

abbrev pub accepted_counts_text : VerdictCounts → List ℕ
accepted_counts_text counts = accepted_part counts ++ left_out_part counts.left_out ++ errors_part counts.errors ++ new_part counts.new ++ 10 ∷ []
