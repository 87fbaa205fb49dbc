-- What a line that is given leaves.
use Rattle.std.proofs.Common.{◌≡◌, ◌+◌, ◌<◌, ◌≤◌, ℕ, Bool, true, false, nat_le, List, [], ◌∷◌, ◌++◌, length, take, drop, refl, sym, ap, subst, ◌∙◌, arith, append-nil, ⊎_elim}
use Rattle.std.proofs.lemmas.Bool.{cases_Bool, cond-true, cond-false, leb-true, leb-false}
use Rattle.bstr.specs.Text.{line_len}
use Rattle.bstr.proofs.lemmas.LineLemmas.{line_len-none}
use Rattle.arrivals.specs.Lines.{whole, too_long, longest_line, input_lines}
use Rattle.arrivals.specs.Held.{Held, GivesLine, HasFeed, IsNextLine, IsUnended, if_read, left_with, lines_from}
use Rattle.arrivals.specs.inside.Buffers.{Tells, dropping_of, first_line, kept_of}
use Rattle.arrivals.specs.declared.buffer.NextLine.{NextLine}
use Rattle.arrivals.specs.declared.buffer.NextLine.TheVariants as next
use Rattle.arrivals.proofs.Splitting.{input-nil, line_off, lines-dropped}

-- so many bytes were taken as a line
pub record Took (h k : Held) (r : NextLine) (n : ℕ) : Type 0 where
  pub rest : k.bytes ≡ drop n h.bytes
  pub dropping : k.dropping ≡ false
  pub ended : k.ended ≡ h.ended
  pub reported : Tells r k (first_line h.dropping (take n h.bytes))

left-following : (h k : Held) (r : NextLine) (n : ℕ) → Took h k r n → (more : List ℕ) → left_with k more ≡ input_lines (drop n h.bytes ++ if_read h.ended more)
unfolding left_with
left-following h k r n t more =
    ap (λ d. lines_from d (k.bytes ++ if_read k.ended more)) t.dropping ∙ ap (λ b. input_lines (b ++ if_read k.ended more)) t.rest
    ∙ ap (λ e. input_lines (drop n h.bytes ++ if_read e more)) t.ended

-- they were the first line
pub took-gives : (h k : Held) (r : NextLine) (n : ℕ) → Took h k r n → n ≤ length h.bytes → (h.dropping ≡ false → 0 < n)
    → ((more : List ℕ) → line_len (h.bytes ++ if_read h.ended more) ≡ n) → GivesLine h r k
unfolding left_with
took-gives h k next.Line n t fits some is = λ more.
    line_off h.dropping h.bytes (if_read h.ended more) n (is more) fits some ∙ ap (λ l. l ∷ input_lines (drop n h.bytes ++ if_read h.ended more)) t.reported
    ∙ ap (λ ls. whole k.line ∷ ls) (sym (left-following h k next.Line n t more))
took-gives h k next.TooLong n t fits some is = λ more.
    line_off h.dropping h.bytes (if_read h.ended more) n (is more) fits some ∙ ap (λ l. l ∷ input_lines (drop n h.bytes ++ if_read h.ended more)) t.reported
    ∙ ap (λ ls. too_long ∷ ls) (sym (left-following h k next.TooLong n t more))
took-gives h k next.More n t fits some is = absurd t.reported
took-gives h k next.End n t fits some is = absurd t.reported

-- they are the first line, which isn't given yet
pub next-line : (h : Held) (line : List ℕ) (n : ℕ) → first_line h.dropping (take n h.bytes) ≡ whole line → n ≤ length h.bytes → 0 < n → HasFeed h.bytes
    → ((more : List ℕ) → line_len (h.bytes ++ if_read h.ended more) ≡ n) → IsNextLine h line
next-line h line n reported fits some feed is =
    let k : Held = record { bytes = drop n h.bytes; line = line; dropping = false; ended = h.ended } in
    (feed, λ more. (left_with k more, took-gives h k next.Line n (record { rest = refl; dropping = refl; ended = refl; reported = reported }) fits (λ no. some) is more))

-- all bytes are the last line
pub line_len-last : (bytes : List ℕ) (ended : Bool) → IsUnended bytes → ended ≡ true → (more : List ℕ) → line_len (bytes ++ if_read ended more) ≡ length bytes
line_len-last bytes ended none is more =
    ap (λ e. line_len (bytes ++ if_read e more)) is ∙ ap line_len (append-nil bytes) ∙ line_len-none bytes none

-- nothing is left
pub end-gives : (h : Held) → h.ended ≡ true → h.dropping ≡ false → h.bytes ≡ [] → GivesLine h next.End h
unfolding left_with
end-gives h ended dropping none = (
  ended,
  λ more.
      let all : lines_from h.dropping (h.bytes ++ if_read h.ended more) ≡ [] =
      ap (λ d. lines_from d (h.bytes ++ if_read h.ended more)) dropping ∙ ap (λ b. input_lines (b ++ if_read h.ended more)) none ∙ ap (λ e. input_lines (if_read e more)) ended ∙ input-nil in
      (all, all),
)

-- more is asked for
pub more-gives : (h k : Held) → h.ended ≡ false → IsUnended h.bytes → k.bytes ≡ kept_of h.bytes → k.dropping ≡ dropping_of h.dropping h.bytes → k.ended ≡ h.ended → GivesLine h next.More k
unfolding left_with
more-gives h k ended none kept dropping still =
    ⊎_elim
    (λ few.
    let bytes : k.bytes ≡ h.bytes = kept ∙ cond-true _ _ _ few in
    let drops : k.dropping ≡ h.dropping = dropping ∙ cond-true _ _ _ few in
    let size : length k.bytes ≤ longest_line + 2 = subst (λ b. length b ≤ longest_line + 2) (sym bytes) (leb-true _ _ few) in (
      ended,
      none,
      size,
      λ more.
          ap (λ d. lines_from d (k.bytes ++ if_read k.ended more)) drops ∙ ap (λ b. lines_from h.dropping (b ++ if_read k.ended more)) bytes
          ∙ ap (λ e. lines_from h.dropping (h.bytes ++ if_read e more)) still,
    ))
    (λ many.
    let bytes : k.bytes ≡ [] = kept ∙ cond-false _ _ _ many in
    let drops : k.dropping ≡ true = dropping ∙ cond-false _ _ _ many in
    let size : length k.bytes ≤ longest_line + 2 = subst (λ b. length b ≤ longest_line + 2) (sym bytes) (omega arith) in
    let long : longest_line + 2 < length h.bytes = leb-false _ _ many in (
      ended,
      none,
      size,
      λ more.
          ap (λ d. lines_from d (k.bytes ++ if_read k.ended more)) drops ∙ ap (λ b. lines_from true (b ++ if_read k.ended more)) bytes
          ∙ ap (λ e. lines_from true (if_read e more)) still ∙ sym (lines-dropped h.dropping h.bytes (if_read h.ended more) none long),
    ))
    (cases_Bool (nat_le (length h.bytes) (longest_line + 2)))
