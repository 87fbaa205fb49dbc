-- The lines of an input, taken one at a time.
use Rattle.std.proofs.KnownBytes.{Appends-trans, Appends-nil}
use Rattle.std.proofs.Common.{◌≡◌, ◌≤◌, ◌<◌, ◌+◌, ℕ, zero, suc, Decides, Bool, true, false, cond, List, [], ◌∷◌, ◌++◌, length, take, drop, flat_map, bytes_eq, refl, ap, sym, ◌∙◌, subst, append_assoc, append-nil, Option, Some, None, arith}
use Rattle.std.specs.List.{onto_first}
use Rattle.std.specs.Str.Pattern.{FindsText, LacksTextAt, SplitsAroundMatch}
use Rattle.std.proofs.lemmas.Slice.Eq.{bytes_eq-Decides}
use Rattle.std.proofs.lemmas.List.{take-append-drop}
use Rattle.std.specs.Io.KnownBytes.{Appends}
use Rattle.sheet_text.specs.InputLines.{further_line, lines_of_input, line_end, lines_after, text_of_lines}

-- what is made of the lines that are done, and of those that are still to come
abbrev pub Makes : (List ℕ → List ℕ) → List ℕ → List (List ℕ) → List ℕ → Type 0
Makes f made lines all = made ++ flat_map f lines ≡ all

-- how far a loop over lines has to go: no byte is left where nothing comes after a line
abbrev pub left_beyond : Option (List ℕ) → ℕ
left_beyond None = 0
left_beyond (Some rest) = length rest + 1

pub first_made : (f : List ℕ → List ℕ) (between : List ℕ) (lines others : List (List ℕ)) (line : List ℕ) → lines ≡ line ∷ others → Makes (further_line f between) (f line) others (text_of_lines f between lines)
first_made f between lines others line e = rw e refl

pub next_made : (f : List ℕ → List ℕ) (between made : List ℕ) (lines others : List (List ℕ)) (line all : List ℕ) → lines ≡ line ∷ others → Makes (further_line f between) made lines all
    → Makes (further_line f between) (made ++ (between ++ f line)) others all
next_made f between made lines others line all e so =
    append_assoc made (between ++ f line) (flat_map (further_line f between) others) ∙ ap (λ ls. made ++ flat_map (further_line f between) ls) (sym e) ∙ so

pub last_made : (f : List ℕ → List ℕ) (made : List ℕ) (lines : List (List ℕ)) (all : List ℕ) → lines ≡ [] → Makes f made lines all → made ≡ all
last_made f made lines all e so = sym (append-nil made) ∙ ap (λ ls. made ++ flat_map f ls) (sym e) ∙ so

-- these lines are written, and others are still to come
pub record Written (f : List ℕ → List ℕ) (a b : Option (List ℕ)) (lines : List (List ℕ)) (all : List ℕ) : Type 0 where
  pub made : List ℕ
  pub wrote : Appends a b made
  pub whole : Makes f made lines all

pub none_written : (f : List ℕ → List ℕ) (a : Option (List ℕ)) (lines : List (List ℕ)) → Written f a a lines (flat_map f lines)
none_written f a lines = record { made = []; wrote = Appends-nil a; whole = refl }

pub next_written : (f : List ℕ → List ℕ) (between : List ℕ) (a b c d : Option (List ℕ)) (lines others : List (List ℕ)) (line all : List ℕ) → lines ≡ line ∷ others
    → Written (further_line f between) a b lines all → Appends b c between → Appends c d (f line) → Written (further_line f between) a d others all
next_written f between a b c d lines others line all e w p q = record {
  made = w.made ++ (between ++ f line);
  wrote = Appends-trans a b d w.made (between ++ f line) w.wrote (Appends-trans b c d between (f line) p q);
  whole = next_made f between w.made lines others line all e w.whole;
}

pub all_written : (f : List ℕ → List ℕ) (between : List ℕ) (a b c : Option (List ℕ)) (lines others all : List (List ℕ)) (line : List ℕ) → all ≡ line ∷ others → lines ≡ [] → Appends a b (f line)
    → Written (further_line f between) b c lines (flat_map (further_line f between) others) → Appends a c (text_of_lines f between all)
all_written f between a b c lines others all line e none p w =
    subst (Appends a c) (ap (λ t. f line ++ t) (last_made (further_line f between) w.made lines _ none w.whole) ∙ ap (text_of_lines f between) (sym e))
    (Appends-trans a b c (f line) w.made p w.wrote)

-- an end of a line
ends_here : (rest : List ℕ) → lines_of_input (line_end ++ rest) ≡ [] ∷ lines_of_input rest
unfolding lines_after
ends_here rest = refl

no_end_here : (byte : ℕ) (rest : List ℕ) → LacksTextAt line_end (byte ∷ rest) 0 → lines_of_input (byte ∷ rest) ≡ onto_first byte (lines_of_input rest)
unfolding lines_after
no_end_here byte rest lacks = go (bytes_eq (take 3 (byte ∷ rest)) line_end) (bytes_eq-Decides (take 3 (byte ∷ rest)) line_end)
  where
    go : (b : Bool) → Decides b (take 3 (byte ∷ rest) ≡ line_end) → cond b ([] ∷ lines_after 2 rest) (onto_first byte (lines_of_input rest)) ≡ onto_first byte (lines_of_input rest)
    go true is = absurd (lacks (drop 3 (byte ∷ rest)) (sym (take-append-drop 3 (byte ∷ rest)) ∙ ap (λ front. front ++ drop 3 (byte ∷ rest)) (is.0 refl)))
    go false is = refl

no_end : (input : List ℕ) → ((i : ℕ) → i ≤ length input → LacksTextAt line_end input i) → lines_of_input input ≡ input ∷ []
unfolding lines_after
no_end [] lacks = refl
no_end (byte ∷ rest) lacks = no_end_here byte rest (lacks 0 (omega arith)) ∙ ap (onto_first byte) (no_end rest (λ i low. lacks (suc i) (omega arith)))

first_end : (i : ℕ) (input following : List ℕ) → ((k : ℕ) → k < i → LacksTextAt line_end input k) → drop i input ≡ line_end ++ following → lines_of_input input ≡ take i input ∷ lines_of_input following
first_end zero input following lacks at = ap lines_of_input at ∙ ends_here following
first_end (suc i) [] following lacks at = cc
first_end (suc i) (byte ∷ rest) following lacks at =
    no_end_here byte rest (lacks 0 (omega arith)) ∙ ap (onto_first byte) (first_end i rest following (λ k low. lacks (suc k) (omega arith)) at)

-- what `split_once` gives
pub line_alone : (input : List ℕ) → FindsText line_end input None → lines_of_input input ≡ input ∷ []
line_alone input none = no_end input none

pub line_cut : (input line following : List ℕ) → SplitsAroundMatch (FindsText line_end) input line following → (lines_of_input input ≡ line ∷ lines_of_input following) × (length following < length input)
line_cut input line following cut =
    let i = cut.0 in
    let found = cut.2 in (
      first_end i input following found.0 (found.1.split ∙ ap (λ b. line_end ++ b) (sym cut.4)) ∙ ap (λ l. l ∷ lines_of_input following) (sym cut.3),
      omega (arith, found.1.ends, cut.7),
    )

pub ruleset line_steps = (none_written, next_written, all_written)

pub ruleset text_steps = (first_made, next_made, last_made)
