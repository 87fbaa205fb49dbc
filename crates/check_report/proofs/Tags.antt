-- The tags of a report in JUnit's XML.
use Rattle.std.proofs.Common.{◌≡◌, ℕ, Bool, true, false, cond, List, [], ◌∷◌, ◌++◌, map, flat_map, refl, ap, sym, ◌∙◌, append-nil}
use Rattle.std.specs.Prelude.{◌==◌, ◌||◌, codes}
use Rattle.std.specs.List.{list_all}
use Rattle.check_report.specs.declared.verdict.Verdict.{Verdict}
use Rattle.check_report.specs.declared.verdict.Verdict.TheVariants as verdict
use Rattle.check_report.specs.Points.{Point}
use Rattle.check_report.specs.Xml.{xml_text}
use Rattle.check_report.specs.Junit.{case_names, case_start, head, junit_case, junit_text, result_end, result_start, tail, time_part}
use Rattle.check_report.specs.Laws.{TextsAreNoTags, tag_after, tags, withheld}
use Rattle.check_report.proofs.Lines.{both-first, both-second}
use Rattle.check_report.proofs.NoMarks.{no_marks, passes}

-- whether a tag is open after bytes
abbrev open_after : Bool → List ℕ → Bool
open_after inside [] = inside
open_after inside (byte ∷ rest) = open_after (tag_after inside byte) rest

open-append : (inside : Bool) (xs ys : List ℕ) → open_after inside (xs ++ ys) ≡ open_after (open_after inside xs) ys
open-append inside [] ys = refl
open-append inside (x ∷ xs) ys = open-append (tag_after inside x) xs ys

kept-append : (keeps : Bool) (x : ℕ) (xs ys : List ℕ) → cond keeps (x ∷ (xs ++ ys)) (xs ++ ys) ≡ cond keeps (x ∷ xs) xs ++ ys
kept-append true x xs ys = refl
kept-append false x xs ys = refl

tags-append : (inside : Bool) (xs ys : List ℕ) → tags inside (xs ++ ys) ≡ tags inside xs ++ tags (open_after inside xs) ys
tags-append inside [] ys = refl
tags-append inside (x ∷ xs) ys =
    let following_first = tag_after inside x in
    ap (λ t. cond (inside || x == 60) (x ∷ t) t) (tags-append following_first xs ys) ∙ kept-append (inside || x == 60) x (tags following_first xs) (tags (open_after following_first xs) ys)

-- a byte that passes opens no tag
opens-none : (byte : ℕ) → passes byte ≡ true → (byte == 60) ≡ false
opens-none byte h = go (byte == 60) refl h
  where
    go : (t : Bool) → (byte == 60) ≡ t → passes byte ≡ true → t ≡ false
    go false e p = refl
    go true e p = let wrong : false ≡ true = rw e at p in sym wrong

text-tags : (text : List ℕ) → list_all passes text ≡ true → tags false text ≡ []
text-tags [] h = refl
text-tags (byte ∷ text) h =
    let none = opens-none byte (both-first (passes byte) (list_all passes text) h) in
    ap (λ b. cond b (byte ∷ tags b text) (tags b text)) none ∙ text-tags text (both-second (passes byte) (list_all passes text) h)

text-opens : (text : List ℕ) → list_all passes text ≡ true → open_after false text ≡ false
text-opens [] h = refl
text-opens (byte ∷ text) h =
    let none = opens-none byte (both-first (passes byte) (list_all passes text) h) in
    ap (λ b. open_after b text) none ∙ text-opens text (both-second (passes byte) (list_all passes text) h)

closed : (inside : Bool) → open_after inside (codes ">") ≡ false
closed true = refl
closed false = refl

start-closed : (p : Point) → open_after false (case_start p.id p.session p.input p.took) ≡ false
start-closed p =
    let front = case_names p.id p.session p.input ++ time_part p.took in
    open-append false front (codes ">") ∙ closed (open_after false front)

result_start-closed : (v : Verdict) → open_after false (result_start v) ≡ false
result_start-closed verdict.Same = refl
result_start-closed verdict.Differs = refl
result_start-closed verdict.Unanswered = refl
result_start-closed verdict.LeftOut = refl
result_start-closed verdict.New = refl

result_end-closed : (v : Verdict) → open_after false (result_end v) ≡ false
result_end-closed verdict.Same = refl
result_end-closed verdict.Differs = refl
result_end-closed verdict.Unanswered = refl
result_end-closed verdict.LeftOut = refl
result_end-closed verdict.New = refl

front-closed : (p : Point) → open_after false (case_start p.id p.session p.input p.took ++ result_start p.verdict) ≡ false
front-closed p =
    open-append false (case_start p.id p.session p.input p.took) (result_start p.verdict) ∙ ap (λ b. open_after b (result_start p.verdict)) (start-closed p)
    ∙ result_start-closed p.verdict

reported-closed : (p : Point) → open_after false (case_start p.id p.session p.input p.took ++ result_start p.verdict ++ xml_text p.reported) ≡ false
reported-closed p =
    open-append false (case_start p.id p.session p.input p.took ++ result_start p.verdict) (xml_text p.reported) ∙ ap (λ b. open_after b (xml_text p.reported)) (front-closed p)
    ∙ text-opens (xml_text p.reported) (no_marks p.reported).0

case-closed : (p : Point) → open_after false (junit_case p) ≡ false
case-closed p =
    open-append false (case_start p.id p.session p.input p.took ++ result_start p.verdict ++ xml_text p.reported) (result_end p.verdict)
    ∙ ap (λ b. open_after b (result_end p.verdict)) (reported-closed p) ∙ result_end-closed p.verdict

-- the tags of a case, without what is reported
case-tags : (p : Point) → tags false (junit_case p) ≡ tags false (case_start p.id p.session p.input p.took ++ result_start p.verdict) ++ tags false (result_end p.verdict)
case-tags p =
    let front = case_start p.id p.session p.input p.took ++ result_start p.verdict in
    tags-append false (front ++ xml_text p.reported) (result_end p.verdict)
    ∙ ap (λ b. tags false (front ++ xml_text p.reported) ++ tags b (result_end p.verdict)) (reported-closed p)
    ∙ ap (λ t. t ++ tags false (result_end p.verdict)) (tags-append false front (xml_text p.reported)
    ∙ ap (λ b. tags false front ++ tags b (xml_text p.reported)) (front-closed p) ∙ ap (λ t. tags false front ++ t) (text-tags (xml_text p.reported) (no_marks p.reported).0)
    ∙ append-nil (tags false front))

case-withheld : (p : Point) → tags false (junit_case p) ≡ tags false (junit_case (withheld p))
case-withheld p = case-tags p ∙ sym (case-tags (withheld p))

cases-closed : (points : List Point) → open_after false (flat_map junit_case points) ≡ false
cases-closed [] = refl
cases-closed (p ∷ points) =
    open-append false (junit_case p) (flat_map junit_case points) ∙ ap (λ b. open_after b (flat_map junit_case points)) (case-closed p) ∙ cases-closed points

cases-withheld : (points : List Point) → tags false (flat_map junit_case points) ≡ tags false (flat_map junit_case (map withheld points))
cases-withheld [] = refl
cases-withheld (p ∷ points) =
    first p (flat_map junit_case points) ∙ ap (λ t. tags false (junit_case p) ++ t) (cases-withheld points)
    ∙ ap (λ t. t ++ tags false (flat_map junit_case (map withheld points))) (case-withheld p) ∙ sym (first (withheld p) (flat_map junit_case (map withheld points)))
  where
    first : (q : Point) (rest : List ℕ) → tags false (junit_case q ++ rest) ≡ tags false (junit_case q) ++ tags false rest
    first q rest = tags-append false (junit_case q) rest ∙ ap (λ b. tags false (junit_case q) ++ tags b rest) (case-closed q)

report-tags : (points : List Point) → tags false (junit_text points) ≡ tags false head ++ tags false (flat_map junit_case points) ++ tags false tail
report-tags points =
    let cases = flat_map junit_case points in
    let begun : open_after false (head ++ cases) ≡ false = open-append false head cases ∙ cases-closed points in
    tags-append false (head ++ cases) tail ∙ ap (λ b. tags false (head ++ cases) ++ tags b tail) begun
    ∙ ap (λ t. t ++ tags false tail) (tags-append false head cases)

pub no_tags : TextsAreNoTags
no_tags points =
    report-tags points ∙ ap (λ t. tags false head ++ t ++ tags false tail) (cases-withheld points) ∙ sym (report-tags (map withheld points))
