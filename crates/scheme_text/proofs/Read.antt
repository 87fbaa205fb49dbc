-- Each form of an answer is read.
use Rattle.std.proofs.Common.{◌≡◌, ℕ, Bool, true, false, List, [], ◌∷◌, ◌++◌, refl, ap, sym, ◌∙◌, append_assoc, Option, Some, None}
use Rattle.std.specs.Prelude.{◌==◌, ◌||◌, codes, if◌then◌else◌}
use Rattle.std.specs.List.{list_all}
use Rattle.std.proofs.lemmas.Bool.{and_parts, true≢false, false≢true}
use Rattle.scheme_text.specs.Quoting.{Quotes, nothing, itself, after_slash}
use Rattle.scheme_text.specs.inside.Words.{slashed}
use Rattle.scheme_text.specs.Outputs.{is_white}
use Rattle.scheme_text.specs.Answers.{Strings, no_string, white_first, string_first, Form, empty, empty_string, tuple, Says}
use Rattle.scheme_text.specs.inside.Scan.{outside, inside, slash, in_front, add_first, closed, read_from, without_white, read_tuple, read_form, read_strings}

pub chosen : {A : Type 0} (b : Bool) (x y : A) → b ≡ true → (if b then x else y) ≡ x
chosen true x y h = refl
chosen false x y h = absurd (false≢true h)

pub other : {A : Type 0} (b : Bool) (x y : A) → b ≡ false → (if b then x else y) ≡ y
other true x y h = absurd (true≢false h)
other false x y h = refl

pub neither : (a b : Bool) → (a || b) ≡ false → (a ≡ false) × (b ≡ false)
neither false false h = (refl, refl)
neither false true h = absurd (true≢false h)
neither true b h = absurd (true≢false h)

front_first : (u t : List ℕ) (o : Option (List (List ℕ))) → in_front u (add_first t o) ≡ add_first (u ++ t) o
front_first u t None = refl
front_first u t (Some ts) = refl

quotes_read : {q t : List ℕ} → Quotes q t → (r : List ℕ) → read_from inside (q ++ 34 ∷ r) ≡ add_first t (read_from outside r)
quotes_read nothing r = refl
quotes_read (itself {c} {s} {t} h p) r =
    let n = neither (c == 34) (c == 92) h in
    other (c == 34) (add_first [] (read_from outside (s ++ 34 ∷ r))) (if c == 92 then read_from slash (s ++ 34 ∷ r) else in_front (c ∷ []) (read_from inside (s ++ 34 ∷ r))) n.0
    ∙ other (c == 92) (read_from slash (s ++ 34 ∷ r)) (in_front (c ∷ []) (read_from inside (s ++ 34 ∷ r))) n.1
    ∙ ap (in_front (c ∷ [])) (quotes_read p r) ∙ front_first (c ∷ []) t (read_from outside r)
quotes_read (after_slash {c} {s} {t} p) r = ap (in_front (slashed c)) (quotes_read p r) ∙ front_first (slashed c) t (read_from outside r)

strings_read : {s : List ℕ} {ts : List (List ℕ)} → Strings s ts → (w : List ℕ) → list_all is_white w ≡ true → read_from outside (s ++ 41 ∷ w) ≡ Some ts
strings_read no_string w h = chosen (list_all is_white w) (Some []) None h
strings_read (white_first {c} {s} {ts} e p) w h =
    chosen (is_white c) (read_from outside (s ++ 41 ∷ w)) (if c == 34 then read_from inside (s ++ 41 ∷ w) else if c == 41 then closed (s ++ 41 ∷ w) else None) e ∙ strings_read p w h
strings_read (string_first {q} {t} {s} {ts} quotes p) w h =
    ap (read_from inside) (append_assoc q (34 ∷ s) (41 ∷ w)) ∙ quotes_read quotes (s ++ 41 ∷ w) ∙ ap (add_first t) (strings_read p w h)

white_dropped : (w r : List ℕ) → list_all is_white w ≡ true → without_white (w ++ r) ≡ without_white r
white_dropped [] r h = refl
white_dropped (c ∷ w) r h =
    let p = and_parts (is_white c) (list_all is_white w) h in
    chosen (is_white c) (without_white (w ++ r)) (c ∷ (w ++ r)) p.0 ∙ white_dropped w r p.1

all_dropped : (w : List ℕ) → list_all is_white w ≡ true → without_white w ≡ []
all_dropped [] h = refl
all_dropped (c ∷ w) h =
    let p = and_parts (is_white c) (list_all is_white w) h in
    chosen (is_white c) (without_white w) (c ∷ w) p.0 ∙ all_dropped w p.1

form_read : {s : List ℕ} {ts : List (List ℕ)} → Form s ts → (w : List ℕ) → list_all is_white w ≡ true → read_form (without_white (s ++ w)) ≡ Some ts
form_read empty w h = ap read_form (all_dropped w h)
form_read empty_string w h = chosen (list_all is_white w) (Some []) None h
form_read (tuple v s {ts} white strings) w h =
    ap (λ x. read_tuple (without_white x)) (append_assoc v (codes "tuple" ++ (s ++ 41 ∷ [])) w)
    ∙ ap read_tuple (white_dropped v ((codes "tuple" ++ (s ++ 41 ∷ [])) ++ w) white)
    ∙ ap (read_from outside) (append_assoc s (41 ∷ []) w)
    ∙ strings_read strings w h

pub says_read : (s : List ℕ) (ts : List (List ℕ)) → Says s ts → read_strings s ≡ Some ts
says_read s ts p = ap read_strings p.is ∙ ap read_form (white_dropped p.before (p.inside ++ p.following) p.white_before) ∙ form_read p.form p.following p.white_after

unsome : Option (List (List ℕ)) → List (List ℕ)
unsome None = []
unsome (Some ts) = ts

pub same_strings : (a b : List (List ℕ)) → Some a ≡ Some b → a ≡ b
unfolding unsome
same_strings a b h = ap unsome h

pub says_one_list : (s : List ℕ) (ts us : List (List ℕ)) → Says s ts → Says s us → ts ≡ us
says_one_list s ts us p q = same_strings ts us (sym (says_read s ts p) ∙ says_read s us q)

first_text : List (List ℕ) → List ℕ
first_text [] = []
first_text (t ∷ ts) = t

-- The bytes are read as a string that a bracket follows.
pub quotes_one_text : (s t u : List ℕ) → Quotes s t → Quotes s u → t ≡ u
unfolding first_text
quotes_one_text s t u p q = ap first_text (same_strings (t ∷ []) (u ∷ []) (sym (quotes_read p (41 ∷ [])) ∙ quotes_read q (41 ∷ [])))
