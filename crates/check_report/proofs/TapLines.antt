-- The lines of a report as TAP.
use Rattle.std.proofs.Common.{◌≡◌, ℕ, ◌+◌, ◌%◌, ◌<◌, ◌≤◌, ◌^◌, Bool, true, false, List, [], ◌∷◌, ◌++◌, length, refl, ap, sym, subst, ◌∙◌, arith, append_assoc, append-nil, Option, Some, None}
use Rattle.std.specs.Prelude.{◌==◌, ◌&&◌, ◌||◌, codes, nat_le, not}
use Rattle.std.specs.Fmt.{decimal}
use Rattle.std.specs.List.{filter, list_all}
use Rattle.std.proofs.lemmas.Bool.{false≢true, eqb-true}
use Rattle.std.proofs.lemmas.Bool.Decides.{nat_tests}
use Rattle.std.proofs.lemmas.Fmt.{decimal_by_steps}
use Rattle.std.proofs.lemmas.List.Folds.{list_all-append}
use Rattle.bstr.proofs.lemmas.LineLemmas.{lines-nil}
use Rattle.worksheet.specs.Limits.{longest_name}
use Rattle.worksheet.specs.Names.{is_name}
use Rattle.check_report.specs.declared.verdict.Verdict.{Verdict}
use Rattle.check_report.specs.declared.verdict.Verdict.TheVariants as verdict
use Rattle.check_report.specs.Points.{Point}
use Rattle.check_report.specs.Tap.{comments, comments_after, description, directive, duration_line, plan_line, point_line, result_words, started_line, tap_point, tap_points, took_block, version_line}
use Rattle.check_report.specs.Laws.{ArePoints, IsPoint, IsTook, TapIsItsPoints, is_tap_line, point_lines}
use Rattle.sheet_json.specs.declared.checks.Took.{Took}
use Rattle.check_report.proofs.Lines.{both-first, both-second, comment-first, stays, reported, reported-first}

all : (xs ys : List ℕ) → list_all stays xs ≡ true → list_all stays ys ≡ true → list_all stays (xs ++ ys) ≡ true
all xs ys p q = list_all-append stays xs ys ∙ (rw (p, q) refl)

-- Comments are no lines that are reported.

-- what is left of a text, where a line begins or after a front of a comment
record Unheard (bytes : List ℕ) : Type 0 where
  at_start : (rest : List ℕ) → reported (comments_after true bytes ++ rest) ≡ reported rest
  inside : (front rest : List ℕ) → list_all stays front ≡ true → reported ((35 ∷ front) ++ (comments_after false bytes ++ rest)) ≡ reported rest

ended : (front bytes rest : List ℕ) → list_all stays front ≡ true → reported ((35 ∷ front) ++ (10 ∷ (bytes ++ rest))) ≡ reported (bytes ++ rest)
ended front bytes rest h = ap reported (sym (append_assoc (35 ∷ front) (10 ∷ []) (bytes ++ rest))) ∙ comment-first (35 ∷ front) (bytes ++ rest) h refl

byte-unheard : (byte : ℕ) (bytes : List ℕ) → Unheard bytes → (feed : Bool) → (byte == 10) ≡ feed → Unheard (byte ∷ bytes)
unfolding comments_after
byte-unheard byte bytes u true e =
    let is : byte ≡ 10 = eqb-true byte 10 e in
    record {
      at_start = λ rest.
          ap (λ f. reported (35 ∷ 32 ∷ byte ∷ (comments_after f bytes ++ rest))) e ∙ ap (λ b. reported (35 ∷ 32 ∷ b ∷ (comments_after true bytes ++ rest))) is
          ∙ ended (32 ∷ []) (comments_after true bytes) rest refl ∙ u.at_start rest;
      inside = λ front rest h.
          ap (λ f. reported ((35 ∷ front) ++ (byte ∷ (comments_after f bytes ++ rest)))) e ∙ ap (λ b. reported ((35 ∷ front) ++ (b ∷ (comments_after true bytes ++ rest)))) is
          ∙ ended front (comments_after true bytes) rest h ∙ u.at_start rest;
    }
byte-unheard byte bytes u false e =
    let one : list_all stays (byte ∷ []) ≡ true = rw e refl in
    record {
      at_start = λ rest.
          ap (λ f. reported (35 ∷ 32 ∷ byte ∷ (comments_after f bytes ++ rest))) e ∙ u.inside (32 ∷ byte ∷ []) rest one;
      inside = λ front rest h.
          ap (λ f. reported ((35 ∷ front) ++ (byte ∷ (comments_after f bytes ++ rest)))) e
          ∙ ap (λ t. reported (35 ∷ t)) (sym (append_assoc front (byte ∷ []) (comments_after false bytes ++ rest)))
          ∙ u.inside (front ++ byte ∷ []) rest (all front (byte ∷ []) h one);
    }

unheard : (bytes : List ℕ) → Unheard bytes
unfolding comments_after
unheard [] = record { at_start = λ rest. refl; inside = λ front rest h. ended front [] rest h }
unheard (byte ∷ bytes) = byte-unheard byte bytes (unheard bytes) (byte == 10) refl

pub comments-unheard : (text rest : List ℕ) → reported (comments text ++ rest) ≡ reported rest
comments-unheard text rest = (unheard text).at_start rest

-- The lines of points.

decimal-stays : (n : ℕ) → n < 2 ^ 64 → list_all stays (decimal n) ≡ true
decimal-stays = decimal_by_steps (λ n ds. list_all stays ds ≡ true) one more
  where
    digit : (d : ℕ) → d < 10 → list_all stays ((48 + d) ∷ []) ≡ true
    digit d low =
        let other : (48 + d == 10) ≡ false = grind (arith, nat_tests) in
        rw other refl

    one : (n : ℕ) → n < 10 → list_all stays ((48 + n) ∷ []) ≡ true
    one = digit

    more : (n : ℕ) (ds : List ℕ) → 10 ≤ n → list_all stays ds ≡ true → list_all stays (ds ++ ((48 + n % 10) ∷ [])) ≡ true
    more n ds h p = all ds ((48 + n % 10) ∷ []) p (digit (n % 10) (omega arith))

-- What an evaluation took is no line that is reported.

-- a line that begins with a space
passed-over : (line rest : List ℕ) → list_all stays line ≡ true → reported (((32 ∷ line) ++ 10 ∷ []) ++ rest) ≡ reported rest
passed-over line rest h = comment-first (32 ∷ line) rest h refl

duration-unheard : (millis : ℕ) (rest : List ℕ) → millis < 2 ^ 64 → reported (duration_line millis ++ rest) ≡ reported rest
duration-unheard millis rest low = passed-over (codes " duration_ms: " ++ decimal millis) rest (all (codes " duration_ms: ") (decimal millis) refl (decimal-stays millis low))

started-unheard : (started : Bool) (rest : List ℕ) → reported (started_line started ++ rest) ≡ reported rest
started-unheard true rest = passed-over (codes " started: true") rest refl
started-unheard false rest = passed-over (codes " started: false") rest refl

took-unheard : (took : Option Took) (rest : List ℕ) → IsTook took → reported (took_block took ++ rest) ≡ reported rest
took-unheard None rest fits = refl
took-unheard (Some took) rest fits =
    let opening = codes "  ---\n" in
    let duration = duration_line took.millis in
    let started = started_line took.started in
    let closing = codes "  ...\n" in
    ap reported (append_assoc (opening ++ duration ++ started) closing rest ∙ append_assoc (opening ++ duration) started (closing ++ rest) ∙ append_assoc opening duration (started ++ (closing ++ rest)))
    ∙ passed-over (codes " ---") (duration ++ (started ++ (closing ++ rest))) refl
    ∙ duration-unheard took.millis (started ++ (closing ++ rest)) fits
    ∙ started-unheard took.started (closing ++ rest)
    ∙ passed-over (codes " ...") rest refl

-- a byte of a name
abbrev of_name : ℕ → Bool
of_name byte = (nat_le 48 byte && nat_le byte 57) || (nat_le 65 byte && nat_le byte 90) || (nat_le 97 byte && nat_le byte 122) || (byte == 95) || (byte == 45)

of_name-stays : (byte : ℕ) → of_name byte ≡ true → stays byte ≡ true
of_name-stays byte h = go (byte == 10) refl
  where
    go : (t : Bool) → (byte == 10) ≡ t → stays byte ≡ true
    go false e = ap not e
    go true e = absurd (false≢true (subst (λ b. of_name b ≡ true) (eqb-true byte 10 e) h))

of_names-stay : (bytes : List ℕ) → list_all of_name bytes ≡ true → list_all stays bytes ≡ true
of_names-stay [] h = refl
of_names-stay (byte ∷ bytes) h =
    let first = of_name-stays byte (both-first (of_name byte) (list_all of_name bytes) h) in
    let others = of_names-stay bytes (both-second (of_name byte) (list_all of_name bytes) h) in
    rw (first, others) refl

name-stays : (name : List ℕ) → is_name name ≡ true → list_all stays name ≡ true
name-stays name h = of_names-stay name (both-second (nat_le 1 (length name) && nat_le (length name) longest_name) (list_all of_name name) h)

-- a directive without the end of its line
directive_words : Verdict → List ℕ
directive_words verdict.Same = []
directive_words verdict.Differs = []
directive_words verdict.Unanswered = []
directive_words verdict.LeftOut = codes " # SKIP left out"
directive_words verdict.New = codes " # SKIP new"

directive-is : (v : Verdict) → directive v ≡ directive_words v ++ 10 ∷ []
unfolding directive_words
directive-is verdict.Same = refl
directive-is verdict.Differs = refl
directive-is verdict.Unanswered = refl
directive-is verdict.LeftOut = refl
directive-is verdict.New = refl

directive-stays : (v : Verdict) → list_all stays (directive_words v) ≡ true
unfolding directive_words
directive-stays verdict.Same = refl
directive-stays verdict.Differs = refl
directive-stays verdict.Unanswered = refl
directive-stays verdict.LeftOut = refl
directive-stays verdict.New = refl

result-stays : (v : Verdict) → list_all stays (result_words v) ≡ true
result-stays verdict.Same = refl
result-stays verdict.Differs = refl
result-stays verdict.Unanswered = refl
result-stays verdict.LeftOut = refl
result-stays verdict.New = refl

result-reported : (v : Verdict) (more : List ℕ) → is_tap_line (result_words v ++ more) ≡ true
result-reported verdict.Same more = refl
result-reported verdict.Differs more = refl
result-reported verdict.Unanswered more = refl
result-reported verdict.LeftOut more = refl
result-reported verdict.New more = refl

module _ (number : ℕ) (p : Point) (is : IsPoint p) (low : number < 2 ^ 64) where
  named : List ℕ
  named = decimal number ++ description p.id p.session ++ directive_words p.verdict

  named-stays : list_all stays named ≡ true
  unfolding named
  named-stays =
      let id : p.id < 2 ^ 64 = omega (arith, is.id) in
      all (decimal number ++ description p.id p.session) (directive_words p.verdict)
      (all (decimal number) (description p.id p.session) (decimal-stays number low)
      (all (codes " - field " ++ decimal p.id ++ codes " of ") p.session
      (all (codes " - field " ++ decimal p.id) (codes " of ") (all (codes " - field ") (decimal p.id) refl (decimal-stays p.id id)) refl)
      (name-stays p.session is.session)))
      (directive-stays p.verdict)

  point_line-is : point_line number p.id p.session p.verdict ≡ (result_words p.verdict ++ named) ++ 10 ∷ []
  unfolding named
  point_line-is =
      let r = result_words p.verdict in
      let n = decimal number in
      let d = description p.id p.session in
      let w = directive_words p.verdict in
      ap (λ t. r ++ n ++ d ++ t) (directive-is p.verdict) ∙ sym (append_assoc (r ++ n ++ d) w (10 ∷ []))
      ∙ ap (λ t. (t ++ w) ++ 10 ∷ []) (append_assoc r n d) ∙ ap (λ t. t ++ 10 ∷ []) (append_assoc r (n ++ d) w)

  point-reported : (rest : List ℕ) → reported (tap_point number p ++ rest) ≡ point_line number p.id p.session p.verdict ∷ reported rest
  point-reported rest =
      let line = result_words p.verdict ++ named in
      let all_stay = all (result_words p.verdict) named (result-stays p.verdict) named-stays in
      let heard : is_tap_line (line ++ 10 ∷ []) ≡ true = ap is_tap_line (append_assoc (result_words p.verdict) named (10 ∷ [])) ∙ result-reported p.verdict (named ++ 10 ∷ []) in
      let point = point_line number p.id p.session p.verdict in
      let further = took_block p.took ++ (comments p.reported ++ rest) in
      ap reported (append_assoc (point ++ took_block p.took) (comments p.reported) rest ∙ append_assoc point (took_block p.took) (comments p.reported ++ rest))
      ∙ ap (λ l. reported (l ++ further)) point_line-is
      ∙ reported-first line further all_stay heard
      ∙ ap (λ t. (line ++ 10 ∷ []) ∷ t) (took-unheard p.took (comments p.reported ++ rest) is.took ∙ comments-unheard p.reported rest)
      ∙ ap (λ l. l ∷ reported rest) (sym point_line-is)

points-reported : (points : List Point) (number : ℕ) (rest : List ℕ) → ArePoints points → number + length points < 2 ^ 64 → reported (tap_points number points ++ rest) ≡ point_lines number points ++ reported rest
points-reported [] number rest are few = refl
points-reported (p ∷ points) number rest are few =
    ap reported (append_assoc (tap_point number p) (tap_points (number + 1) points) rest)
    ∙ point-reported number p are.0 (omega (arith, few)) (tap_points (number + 1) points ++ rest)
    ∙ ap (λ t. point_line number p.id p.session p.verdict ∷ t) (points-reported points (number + 1) rest are.1 (omega (arith, few)))

plan-reported : (count : ℕ) → count < 2 ^ 64 → reported (plan_line count) ≡ plan_line count ∷ []
plan-reported count low =
    let line = codes "1.." ++ decimal count in
    ap reported (sym (append-nil (line ++ 10 ∷ []))) ∙ reported-first line [] (all (codes "1..") (decimal count) refl (decimal-stays count low)) refl
    ∙ ap (λ t. plan_line count ∷ t) (ap (λ ls. filter is_tap_line ls) lines-nil)

pub tap_is_points : TapIsItsPoints
tap_is_points points are few =
    let plan = plan_line (length points) in
    ap reported (append_assoc version_line (tap_points 1 points) plan)
    ∙ reported-first (codes "TAP version 13") (tap_points 1 points ++ plan) refl refl
    ∙ ap (λ t. version_line ∷ t) (points-reported points 1 plan are (omega (arith, few)))
    ∙ ap (λ t. version_line ∷ (point_lines 1 points ++ t)) (plan-reported (length points) (omega (arith, few)))
