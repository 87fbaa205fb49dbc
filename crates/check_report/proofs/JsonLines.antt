-- A report as lines of JSON.
use Rattle.std.proofs.Common.{◌≡◌, ◌+◌, ◌<◌, ◌^◌, ℕ, List, [], ◌∷◌, ◌++◌, codes, map, refl, ap, sym, ◌∙◌, append_assoc, append-nil, arith}
use Rattle.std.specs.Fmt.{decimal, digits}
use Rattle.std.specs.List.{AllByRecursion}
use Rattle.json.specs.Print.{escape_byte}
use Rattle.serde_json.specs.Written.{compact_text}
use Rattle.sheet_json.specs.Lines.{IsOneLine}
use Rattle.sheet_json.specs.Objects.{telling_data}
use Rattle.sheet_json.specs.Plain.{IsSoundTelling}
use Rattle.sheet_json.specs.Sheets.{telling_line, tellings_text}
use Rattle.sheet_json.specs.Tellings.{Telling}
use Rattle.sheet_json.specs.Tellings as reported
use Rattle.sheet_json.proofs.PlainValues.{tellings_are_plain}
use Rattle.sheet_json.proofs.Within.{text_within}
use Rattle.check_report.specs.declared.report.ReportFormat.TheVariants as format
use Rattle.check_report.specs.declared.verdict.VerdictCounts.{VerdictCounts}
use Rattle.check_report.specs.Json.{counts_reported, json_head, json_tail}
use Rattle.check_report.specs.Laws.{JsonIsItsLines, report_tellings}
use Rattle.check_report.specs.Reports.{Case, cases_text, report_text, telling_of, judgements_of}
use Rattle.check_report.specs.Verdicts.{counts_of, total}
use Rattle.check_report.specs.inside.Closing.{first_part, second_part}
use Rattle.check_report.proofs.Totals.{errors-of, total-of}

-- What is written without memory is the text of the values.

pub hello_is : json_head ≡ codes "{\"format\":1,\"program\":\"tmhost\",\"protocol\":2,\"type\":\"hello\",\"version\":\"0.1.0\"}\n"
unfolding escape_byte digits
hello_is = refl

-- a part, and what follows it, with more after it
part : (x y more all : List ℕ) → y ++ more ≡ all → (x ++ y) ++ more ≡ x ++ all
part x y more all e = append_assoc x y more ∙ ap (λ t. x ++ t) e

-- in front of the counts, between them, and after the last one
abbrev first : List ℕ
first = codes "{\"differ\":"

abbrev erring : List ℕ
erring = codes ",\"errors\":"

abbrev second : List ℕ
second = codes ",\"left_out\":"

abbrev adding : List ℕ
adding = codes ",\"new\":"

abbrev third : List ℕ
third = codes ",\"same\":"

abbrev fourth : List ℕ
fourth = codes ",\"type\":\"compared\",\"unanswered\":"

abbrev following : List ℕ
following = codes "}\n{\"type\":\"end\"}\n"

-- the parts, each with all that follows it
abbrev row : (a e b n c d rest : List ℕ) → List ℕ
row a e b n c d rest = first ++ (a ++ (erring ++ (e ++ (second ++ (b ++ (adding ++ (n ++ (third ++ (c ++ (fourth ++ (d ++ rest)))))))))))

to_the_right : (p a q b more : List ℕ) → p ++ a ++ q ++ b ++ more ≡ p ++ (a ++ (q ++ (b ++ more)))
to_the_right p a q b more = append_assoc (p ++ a ++ q) b more ∙ append_assoc (p ++ a) q (b ++ more) ∙ append_assoc p a (q ++ (b ++ more))

three_to_the_right : (p a q b r c more : List ℕ) → p ++ a ++ q ++ b ++ r ++ c ++ more ≡ p ++ (a ++ (q ++ (b ++ (r ++ (c ++ more)))))
three_to_the_right p a q b r c more = append_assoc (p ++ a ++ q ++ b ++ r) c more ∙ append_assoc (p ++ a ++ q ++ b) r (c ++ more) ∙ to_the_right p a q b (r ++ (c ++ more))

-- a row of parts with more after it
further : (a e b n c d x more : List ℕ) → row a e b n c d x ++ more ≡ row a e b n c d (x ++ more)
further a e b n c d x more =
    let last = fourth ++ (d ++ x) in
    let longer = fourth ++ (d ++ (x ++ more)) in
    ap (λ t. first ++ t) (part a (erring ++ (e ++ (second ++ (b ++ (adding ++ (n ++ (third ++ (c ++ last)))))))) more (erring ++ (e ++ (second ++ (b ++ (adding ++ (n ++ (third ++ (c ++ longer))))))))
    (ap (λ t. erring ++ t) (part e (second ++ (b ++ (adding ++ (n ++ (third ++ (c ++ last)))))) more (second ++ (b ++ (adding ++ (n ++ (third ++ (c ++ longer))))))
    (ap (λ t. second ++ t) (part b (adding ++ (n ++ (third ++ (c ++ last)))) more (adding ++ (n ++ (third ++ (c ++ longer))))
    (ap (λ t. adding ++ t) (part n (third ++ (c ++ last)) more (third ++ (c ++ longer))
    (ap (λ t. third ++ t) (part c last more longer
    (ap (λ t. fourth ++ t) (part d x more (x ++ more) refl)))))))))))

counts_are : (counts : VerdictCounts) → compact_text (telling_data (counts_reported counts))
    ≡ row (decimal counts.differ) (decimal counts.errors) (decimal counts.left_out) (decimal counts.new) (decimal counts.same) (decimal counts.unanswered) (125 ∷ [])
unfolding escape_byte
counts_are counts = refl

end_is : telling_line reported.end ≡ codes "{\"type\":\"end\"}\n"
unfolding escape_byte
end_is = refl

pub closing_is : (counts : VerdictCounts) → first_part counts ++ second_part counts ≡ json_tail counts
closing_is counts =
    let a = decimal counts.differ in
    let e = decimal counts.errors in
    let b = decimal counts.left_out in
    let n = decimal counts.new in
    let c = decimal counts.same in
    let d = decimal counts.unanswered in
    let last = codes "{\"type\":\"end\"}\n" in
    three_to_the_right first a erring e second b (second_part counts) ∙ ap (λ t. first ++ (a ++ (erring ++ (e ++ (second ++ (b ++ t)))))) (three_to_the_right adding n third c fourth d following)
    ∙ sym (ap (λ t. (t ++ 10 ∷ []) ++ telling_line reported.end) (counts_are counts) ∙ ap (λ t. (row a e b n c d (125 ∷ []) ++ 10 ∷ []) ++ t) end_is
    ∙ ap (λ t. t ++ last) (further a e b n c d (125 ∷ []) (10 ∷ [])) ∙ further a e b n c d (125 ∷ 10 ∷ []) last)

-- The report is the lines of its tellings.

tellings-append : (xs ys : List Telling) → tellings_text (xs ++ ys) ≡ tellings_text xs ++ tellings_text ys
tellings-append [] ys = refl
tellings-append (x ∷ xs) ys = ap (λ t. telling_line x ++ t) (tellings-append xs ys) ∙ sym (append_assoc (telling_line x) (tellings_text xs) (tellings_text ys))

jsons : (number : ℕ) (cases : List Case) → cases_text format.Json number cases ≡ tellings_text (map telling_of cases)
jsons number [] = refl
jsons number (c ∷ cases) = ap (λ t. telling_line (telling_of c) ++ t) (jsons (number + 1) cases)

pub json_report : (cases : List Case) → report_text format.Json cases ≡ tellings_text (report_tellings cases)
json_report cases =
    let last = counts_reported (counts_of (judgements_of cases)) in
    append_assoc json_head (cases_text format.Json 1 cases) (telling_line last ++ telling_line reported.end)
    ∙ ap (λ t. json_head ++ t) (ap (λ t. t ++ (telling_line last ++ telling_line reported.end)) (jsons 1 cases)
    ∙ ap (λ t. tellings_text (map telling_of cases) ++ (telling_line last ++ t)) (sym (append-nil (telling_line reported.end))) ∙ sym (tellings-append (map telling_of cases) (last ∷ reported.end ∷ [])))

-- Each of them is one line.

one_line : (t : Telling) → IsSoundTelling t → IsOneLine (telling_line t)
one_line t s = (compact_text (telling_data t), refl, text_within (telling_data t) (tellings_are_plain t s).counts)

within : (n : ℕ) → n < 2 ^ 32 → n < 2 ^ 64
within n h = omega (arith, h)

counts_sound : (counts : VerdictCounts) → total counts < 2 ^ 32 → counts.errors < 2 ^ 32 → IsSoundTelling (counts_reported counts)
counts_sound counts h e = (omega (arith, h), omega (arith, h), omega (arith, h), omega (arith, h), within counts.errors e, omega (arith, h))

each_line : (cases : List Case) (more : List Telling) → AllByRecursion (λ c. IsSoundTelling (telling_of c)) cases → AllByRecursion (λ t. IsOneLine (telling_line t)) more
    → AllByRecursion (λ t. IsOneLine (telling_line t)) (map telling_of cases ++ more)
each_line [] more sound lines = lines
each_line (c ∷ cases) more sound lines = (one_line (telling_of c) sound.0, each_line cases more sound.1 lines)

pub json_is_its_lines : JsonIsItsLines
json_is_its_lines cases sound few =
    let counts = counts_of (judgements_of cases) in
    let fits : total counts < 2 ^ 32 = omega (arith, total-of cases, few) in
    let errors : counts.errors < 2 ^ 32 = omega (arith, errors-of cases, few) in (
      one_line reported.hello tt,
      each_line cases (counts_reported counts ∷ reported.end ∷ []) sound (one_line (counts_reported counts) (counts_sound counts fits errors), (one_line reported.end tt, tt)),
    )
