-- Lines of a text, and those of them that are no comments.
use Rattle.std.proofs.Common.{◌≡◌, ◌≢◌, ℕ, zero, suc, ◌+◌, ◌-◌, ◌<◌, Bool, true, false, cond, List, [], ◌∷◌, ◌++◌, length, length-append, slice_index, refl, ap, sym, subst, ◌∙◌, arith, inr}
use Rattle.std.specs.Prelude.{◌==◌, ◌&&◌, not}
use Rattle.std.specs.List.{filter, list_all}
use Rattle.std.proofs.lemmas.Bool.{false≢true}
use Rattle.std.proofs.lemmas.List.{get_or_append_left}
use Rattle.std.proofs.Math.Seq.{get_or-append_seam}
use Rattle.bstr.specs.Text.{lines_of}
use Rattle.bstr.proofs.lemmas.LineLemmas.{lines-append, lines-one}
use Rattle.check_report.specs.Laws.{is_tap_line}

-- no line feed
abbrev pub stays : ℕ → Bool
stays byte = not (byte == 10)

pub both-first : (a b : Bool) → (a && b) ≡ true → a ≡ true
both-first true b h = refl
both-first false b h = absurd (false≢true h)

pub both-second : (a b : Bool) → (a && b) ≡ true → b ≡ true
both-second true b h = h
both-second false b h = absurd (false≢true h)

no-feed : (byte : ℕ) → stays byte ≡ true → byte ≢ 10
no-feed byte h is = false≢true (subst (λ b. stays b ≡ true) is h)

at-stays : (bytes : List ℕ) (k : ℕ) → list_all stays bytes ≡ true → k < length bytes → slice_index bytes k ≢ 10
at-stays [] k h l = absurd (omega (arith, l))
at-stays (byte ∷ bytes) zero h l = no-feed byte (both-first (stays byte) (list_all stays bytes) h)
at-stays (byte ∷ bytes) (suc k) h l = at-stays bytes k (both-second (stays byte) (list_all stays bytes) h) (omega (arith, l))

-- a line stands in front of what follows it
pub line-first : (line rest : List ℕ) → list_all stays line ≡ true → lines_of ((line ++ 10 ∷ []) ++ rest) ≡ (line ++ 10 ∷ []) ∷ lines_of rest
line-first line rest h =
    let whole = line ++ 10 ∷ [] in
    let long : length whole ≡ length line + 1 = length-append line (10 ∷ []) in
    let place : length whole - 1 ≡ length line = omega (arith, long) in
    let last : slice_index whole (length whole - 1) ≡ 10 = ap (slice_index whole) place ∙ get_or-append_seam line 10 [] 0 in
    let before : (k : ℕ) → k + 1 < length whole → slice_index whole k ≢ 10 =
    λ k a. subst (λ v. v ≢ 10) (sym (get_or_append_left line (10 ∷ []) 0 k (omega (arith, long, a)))) (at-stays line k h (omega (arith, long, a))) in
    lines-append (length whole) whole rest (omega arith) (inr last) ∙ ap (λ t. t ++ lines_of rest) (lines-one whole (omega (arith, long)) before)

-- the lines of a text that are no comments
abbrev pub reported : List ℕ → List (List ℕ)
reported text = filter is_tap_line (lines_of text)

pub reported-first : (line rest : List ℕ) → list_all stays line ≡ true → is_tap_line (line ++ 10 ∷ []) ≡ true → reported ((line ++ 10 ∷ []) ++ rest) ≡ (line ++ 10 ∷ []) ∷ reported rest
reported-first line rest h t = ap (filter is_tap_line) (line-first line rest h) ∙ ap (λ b. cond b ((line ++ 10 ∷ []) ∷ reported rest) (reported rest)) t

pub comment-first : (line rest : List ℕ) → list_all stays line ≡ true → is_tap_line (line ++ 10 ∷ []) ≡ false → reported ((line ++ 10 ∷ []) ++ rest) ≡ reported rest
comment-first line rest h t = ap (filter is_tap_line) (line-first line rest h) ∙ ap (λ b. cond b ((line ++ 10 ∷ []) ∷ reported rest) (reported rest)) t
