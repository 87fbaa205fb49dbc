-- What is put one after the other.
use Rattle.std.proofs.Common.{◌≡◌, ◌≤◌, ◌+◌, ◌-◌, ℕ, false, List, [], ◌++◌, length, take, drop, refl, sym, ap, ◌∙◌, subst, append_assoc, append-nil, arith}
use Rattle.std.proofs.lemmas.List.{length-take-le}
use lib.Seq.{take-append-add, take-append-le, take-append_seam, take-take}
use borrow.Rule.Slice.PartMut.{put_mid, post_of}
use Rattle.sheet_text.specs.Escape.{is_plain}
use Rattle.sheet_text.specs.inside.PlainRuns.{AllPassBetween}
use Rattle.sheet_text.specs.inside.Spelled.{PrintsTo}
use Rattle.sheet_text.proofs.Spellings.{prints_more, prints_run}
use Rattle.line_room.specs.inside.Puts.{Puts}

pub puts_none : (bytes : List ℕ) (at : ℕ) (room : List ℕ) (used : ℕ) → Puts bytes at at room used room used
puts_none bytes at room used = ([], sym (append-nil (take used room)), refl)

pub puts_more : (bytes : List ℕ) (from at to : ℕ) (old : List ℕ) (used : ℕ) (mid : List ℕ) (m : ℕ) (new : List ℕ) (n : ℕ)
    → Puts bytes from at old used mid m → Puts bytes at to mid m new n → Puts bytes from to old used new n
puts_more bytes from at to old used mid m new n p q =
    (p.0 ++ q.0, q.1 ∙ ap (λ t. t ++ q.0) p.1 ∙ append_assoc (take used old) p.0 q.0, prints_more bytes from at to p.0 q.0 p.2 q.2)

pub ruleset putting = (puts_none, puts_more)

-- fewer of the bytes that were put
pub shorter : (used s n : ℕ) (old new text : List ℕ) → used ≤ length old → s ≤ n → take (used + n) new ≡ take used old ++ text → take (used + s) new ≡ take used old ++ take s text
shorter used s n old new text low few put =
    sym (take-take (used + s) (used + n) new (omega (arith, few))) ∙ ap (take (used + s)) put
    ∙ ap (λ m. take (m + s) (take used old ++ text)) (sym (length-take-le used old low)) ∙ take-append-add (take used old) text s

-- what a list begins with
pub front : (k : ℕ) (l text rest : List ℕ) → k ≡ length text → l ≡ text ++ rest → take k l ≡ text
front k l text rest size is = ap (take k) is ∙ ap (λ j. take j (text ++ rest)) size ∙ take-append_seam text rest

-- a front of what was written to a part
pub put_part : (a k : ℕ) (xs ys : List ℕ) (n : ℕ) → a ≤ length xs → n ≤ length ys → take (a + n) (put_mid a k xs ys) ≡ take a xs ++ take n ys
put_part a k xs ys n low short =
    ap (λ m. take (m + n) (put_mid a k xs ys)) (sym (length-take-le a xs low)) ∙ take-append-add (take a xs) (ys ++ post_of a k xs) n
    ∙ ap (λ t. take a xs ++ t) (take-append-le n ys (post_of a k xs) short)

-- the front of sixteen bytes that are printed as themselves
pub puts_run : (bytes : List ℕ) (at run : ℕ) (old : List ℕ) (used : ℕ) (new : List ℕ) → at + 16 ≤ length bytes → used ≤ length old → run ≤ 16
    → AllPassBetween (is_plain false) bytes at (at + run) → take (used + 16) new ≡ take used old ++ take 16 (drop at bytes) → Puts bytes at (at + run) old used new (used + run)
puts_run bytes at run old used new there low few pass put =
    let front : at + run - at ≡ run = omega arith in (
      take run (drop at bytes),
      shorter used run 16 old new (take 16 (drop at bytes)) low few put ∙ ap (λ t. take used old ++ t) (take-take run 16 (drop at bytes) few),
      subst (λ m. PrintsTo bytes at (at + run) (take m (drop at bytes))) front (prints_run bytes at (at + run) (omega arith) (omega (arith, there, few)) pass),
    )
