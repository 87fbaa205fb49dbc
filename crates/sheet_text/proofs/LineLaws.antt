-- Laws of the lines of an input.
use Rattle.std.proofs.Common.{◌≡◌, ℕ, zero, suc, ◌==◌, not, Decides, Bool, true, false, cond, List, [], ◌∷◌, ◌++◌, take, drop, flat_map, bytes_eq, refl, ap, ap₂, sym, ◌∙◌, subst, append_assoc}
use Rattle.std.specs.List.{AllByRecursion, list_all, onto_first}
use Rattle.std.proofs.lemmas.Bool.{and_parts}
use Rattle.std.proofs.lemmas.Grind.{flat_map-append}
use Rattle.std.proofs.lemmas.List.{take-append-drop}
use Rattle.std.proofs.lemmas.Slice.Eq.{bytes_eq-Decides}
use Rattle.sheet_text.specs.InputLines.{folded, folded_byte, further_line, lines_of_input, line_end, lines_after, text_of_lines}
use Rattle.sheet_text.specs.Laws.{HasNoEnd, InputsComeBack, LinesAreTheInput}

abbrev pub itself : List ℕ → List ℕ
itself line = line

-- there is a first line
record HasFirst (lines : List (List ℕ)) : Type 0 where
  line : List ℕ
  others : List (List ℕ)
  is : lines ≡ line ∷ others

first_onto : (byte : ℕ) (lines : List (List ℕ)) → HasFirst (onto_first byte lines)
first_onto byte [] = record { line = byte ∷ []; others = []; is = refl }
first_onto byte (line ∷ others) = record { line = byte ∷ line; others = others; is = refl }

has_first : (left : ℕ) (input : List ℕ) → HasFirst (lines_after left input)
unfolding lines_after
has_first left [] = record { line = []; others = []; is = refl }
has_first (suc left) (byte ∷ rest) = has_first left rest
has_first zero (byte ∷ rest) = go (bytes_eq (take 3 (byte ∷ rest)) line_end)
  where
    go : (b : Bool) → HasFirst (cond b ([] ∷ lines_after 2 rest) (onto_first byte (lines_after 0 rest)))
    go true = record { line = []; others = lines_after 2 rest; is = refl }
    go false = first_onto byte (lines_after 0 rest)

after_between : (f : List ℕ → List ℕ) (between : List ℕ) (lines : List (List ℕ)) → HasFirst lines → flat_map (further_line f between) lines ≡ between ++ text_of_lines f between lines
after_between f between lines first =
    ap (flat_map (further_line f between)) first.is ∙ append_assoc between (f first.line) (flat_map (further_line f between) first.others) ∙ ap (λ ls. between ++ text_of_lines f between ls) (sym first.is)

onto_text : (byte : ℕ) (lines : List (List ℕ)) → HasFirst lines → text_of_lines itself line_end (onto_first byte lines) ≡ byte ∷ text_of_lines itself line_end lines
onto_text byte lines first = rw first.is refl

joined_after : (left : ℕ) (input : List ℕ) → text_of_lines itself line_end (lines_after left input) ≡ drop left input
unfolding lines_after
joined_after zero [] = refl
joined_after (suc left) [] = refl
joined_after (suc left) (byte ∷ rest) = joined_after left rest
joined_after zero (byte ∷ rest) = go (bytes_eq (take 3 (byte ∷ rest)) line_end) (bytes_eq-Decides (take 3 (byte ∷ rest)) line_end) (joined_after 2 rest) (joined_after 0 rest)
  where
    go : (b : Bool) → Decides b (take 3 (byte ∷ rest) ≡ line_end) → text_of_lines itself line_end (lines_after 2 rest) ≡ drop 2 rest → text_of_lines itself line_end (lines_after 0 rest) ≡ rest
        → text_of_lines itself line_end (cond b ([] ∷ lines_after 2 rest) (onto_first byte (lines_after 0 rest))) ≡ byte ∷ rest
    go true is two one =
        after_between itself line_end (lines_after 2 rest) (has_first 2 rest) ∙ ap (λ t. line_end ++ t) two
        ∙ ap (λ front. front ++ drop 3 (byte ∷ rest)) (sym (is.0 refl)) ∙ take-append-drop 3 (byte ∷ rest)
    go false is two one = onto_text byte (lines_after 0 rest) (has_first 0 rest) ∙ ap (λ t. byte ∷ t) one

nothing_ends : HasNoEnd []
nothing_ends [] following e = cc
nothing_ends (x ∷ front) following e = cc

-- a line with a byte in front of it
no_end_onto : (byte : ℕ) (line rest : List ℕ) → (take 3 (byte ∷ (line ++ rest)) ≡ line_end → ⊥) → HasNoEnd line → HasNoEnd (byte ∷ line)
no_end_onto byte line rest isnt none [] following e = isnt (ap (λ t. take 3 (t ++ rest)) e)
no_end_onto byte line rest isnt none (x ∷ front) following e = none front following cc

none_ends : (left : ℕ) (input : List ℕ) → AllByRecursion HasNoEnd (lines_after left input)
unfolding lines_after
none_ends left [] = (nothing_ends, tt)
none_ends (suc left) (byte ∷ rest) = none_ends left rest
none_ends zero (byte ∷ rest) = go (bytes_eq (take 3 (byte ∷ rest)) line_end) (bytes_eq-Decides (take 3 (byte ∷ rest)) line_end) (none_ends 2 rest) (none_ends 0 rest)
  where
    first : HasFirst (lines_after 0 rest)
    first = has_first 0 rest

    rest_is : rest ≡ first.line ++ flat_map (further_line itself line_end) first.others
    rest_is = sym (joined_after 0 rest) ∙ ap (text_of_lines itself line_end) first.is

    go : (b : Bool) → Decides b (take 3 (byte ∷ rest) ≡ line_end) → AllByRecursion HasNoEnd (lines_after 2 rest) → AllByRecursion HasNoEnd (lines_after 0 rest)
        → AllByRecursion HasNoEnd (cond b ([] ∷ lines_after 2 rest) (onto_first byte (lines_after 0 rest)))
    go true is two one = (nothing_ends, two)
    go false is two one =
        let all = subst (AllByRecursion HasNoEnd) first.is one in
        let isnt : take 3 (byte ∷ rest) ≡ line_end → ⊥ = λ e. let wrong : false ≡ true = is.1 e in cc in
        subst (λ ls. AllByRecursion HasNoEnd (onto_first byte ls)) (sym first.is)
        (no_end_onto byte first.line (flat_map (further_line itself line_end) first.others) (subst (λ t. take 3 (byte ∷ t) ≡ line_end → ⊥) rest_is isnt) all.0, all.1)

pub lines_are_input : LinesAreTheInput
lines_are_input input = (joined_after 0 input, none_ends 0 input)

-- line feeds

abbrev pub no_feed : ℕ → Bool
no_feed byte = not (byte == 10)

feeds_onto : (byte : ℕ) (lines : List (List ℕ)) → no_feed byte ≡ true → list_all (list_all no_feed) lines ≡ true → list_all (list_all no_feed) (onto_first byte lines) ≡ true
feeds_onto byte [] h all = rw h refl
feeds_onto byte (line ∷ lines) h all = rw h all

no_feeds : (left : ℕ) (input : List ℕ) → list_all no_feed input ≡ true → list_all (list_all no_feed) (lines_after left input) ≡ true
unfolding lines_after
no_feeds left [] h = refl
no_feeds (suc left) (byte ∷ rest) h = no_feeds left rest (and_parts (no_feed byte) (list_all no_feed rest) h).1
no_feeds zero (byte ∷ rest) h =
    let p = and_parts (no_feed byte) (list_all no_feed rest) h in
    go (bytes_eq (take 3 (byte ∷ rest)) line_end) (no_feeds 2 rest p.1) (feeds_onto byte (lines_after 0 rest) p.0 (no_feeds 0 rest p.1))
  where
    go : (b : Bool) → list_all (list_all no_feed) (lines_after 2 rest) ≡ true → list_all (list_all no_feed) (onto_first byte (lines_after 0 rest)) ≡ true → list_all (list_all no_feed) (cond b ([] ∷ lines_after 2 rest) (onto_first byte (lines_after 0 rest))) ≡ true
    go true two one = two
    go false two one = one

stays : (byte : ℕ) → no_feed byte ≡ true → folded_byte byte ≡ byte ∷ []
stays byte h = go (byte == 10) h
  where
    go : (b : Bool) → not b ≡ true → cond b line_end (byte ∷ []) ≡ byte ∷ []
    go true wrong = cc
    go false wrong = refl

line_stays : (line : List ℕ) → list_all no_feed line ≡ true → folded line ≡ line
line_stays [] h = refl
line_stays (byte ∷ line) h =
    let p = and_parts (no_feed byte) (list_all no_feed line) h in
    ap₂ (λ a b. a ++ b) (stays byte p.0) (line_stays line p.1)

further_folded : (lines : List (List ℕ)) → list_all (list_all no_feed) lines ≡ true → folded (flat_map (further_line itself (10 ∷ [])) lines) ≡ flat_map (further_line itself line_end) lines
further_folded [] h = refl
further_folded (line ∷ lines) h =
    let p = and_parts (list_all no_feed line) (list_all (list_all no_feed) lines) h in
    flat_map-append folded_byte (10 ∷ line) (flat_map (further_line itself (10 ∷ [])) lines)
    ∙ ap₂ (λ a b. (line_end ++ a) ++ b) (line_stays line p.0) (further_folded lines p.1)

text_folded : (lines : List (List ℕ)) → list_all (list_all no_feed) lines ≡ true → folded (text_of_lines itself (10 ∷ []) lines) ≡ text_of_lines itself line_end lines
text_folded [] h = refl
text_folded (line ∷ lines) h =
    let p = and_parts (list_all no_feed line) (list_all (list_all no_feed) lines) h in
    flat_map-append folded_byte line (flat_map (further_line itself (10 ∷ [])) lines) ∙ ap₂ (λ a b. a ++ b) (line_stays line p.0) (further_folded lines p.1)

pub inputs_back : InputsComeBack
inputs_back input h = text_folded (lines_of_input input) (no_feeds 0 input h) ∙ joined_after 0 input
