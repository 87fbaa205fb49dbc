-- What is read has one of the forms of an answer.
use Rattle.std.proofs.Common.{◌≡◌, ℕ, Bool, true, false, List, [], ◌∷◌, ◌++◌, take, drop, refl, ap, sym, ◌∙◌, subst, append_assoc, Option, Some, None}
use Rattle.std.specs.Prelude.{◌==◌, ◌||◌, codes, if◌then◌else◌, is_some}
use Rattle.std.specs.List.{list_all}
use Rattle.std.specs.Str.{bytes_eq}
use Rattle.std.proofs.lemmas.List.{take-append-drop}
use Rattle.std.proofs.lemmas.Bool.{and_from, true≢false, false≢true, eqb-true}
use Rattle.std.proofs.lemmas.Slice.Eq.{bytes_eq-Decides}
use Rattle.scheme_text.specs.Quoting.{is_marked, Quotes, nothing, itself, after_slash}
use Rattle.scheme_text.specs.inside.Words.{slashed}
use Rattle.scheme_text.specs.Outputs.{is_white}
use Rattle.scheme_text.specs.Answers.{Strings, no_string, white_first, string_first, Form, empty, empty_string, tuple, Says}
use Rattle.scheme_text.specs.inside.Scan.{Place, outside, inside, slash, in_front, add_first, closed, read_from, without_white, read_tuple, read_empty_string, read_form, read_strings}
use Rattle.scheme_text.proofs.Read.{same_strings}

no_some : (ts : List (List ℕ)) → None ≡ Some ts → ⊥
no_some ts h = false≢true (ap is_some h)

-- a row of strings, the bracket after it, and white space
record Ends (s : List ℕ) (ts : List (List ℕ)) : Type 0 where
  body : List ℕ
  following : List ℕ
  is : s ≡ body ++ 41 ∷ following
  strings : Strings body ts
  white : list_all is_white following ≡ true

-- the rest of a string, and such a row
record Opened (s : List ℕ) (ts : List (List ℕ)) : Type 0 where
  bytes : List ℕ
  text : List ℕ
  rest : List ℕ
  others : List (List ℕ)
  is : s ≡ bytes ++ 34 ∷ rest
  quotes : Quotes bytes text
  are : ts ≡ text ∷ others
  ends : Ends rest others

abbrev Means : Place → List ℕ → List (List ℕ) → Type 0
Means outside s ts = Ends s ts
Means inside s ts = Opened s ts
Means slash s ts = Opened (92 ∷ s) ts

first_some : (t : List ℕ) (o : Option (List (List ℕ))) (ts : List (List ℕ)) → add_first t o ≡ Some ts → (us : List (List ℕ)) × (o ≡ Some us) × (ts ≡ t ∷ us)
first_some t None ts h = absurd (no_some ts h)
first_some t (Some us) ts h = (us, refl, sym (same_strings (t ∷ us) ts h))

front_some : (u : List ℕ) (o : Option (List (List ℕ))) (ts : List (List ℕ)) → in_front u o ≡ Some ts
    → (t : List ℕ) × (us : List (List ℕ)) × (o ≡ Some (t ∷ us)) × (ts ≡ (u ++ t) ∷ us)
front_some u None ts h = absurd (no_some ts h)
front_some u (Some []) ts h = absurd (no_some ts h)
front_some u (Some (t ∷ us)) ts h = (t, us, refl, sym (same_strings ((u ++ t) ∷ us) ts h))

closed_some : (s : List ℕ) (b : Bool) (ts : List (List ℕ)) → list_all is_white s ≡ b → (if b then Some [] else None) ≡ Some ts → (list_all is_white s ≡ true) × (ts ≡ [])
closed_some s true ts e h = (e, sym (same_strings [] ts h))
closed_some s false ts e h = absurd (no_some ts h)

put_in_front : List ℕ → List (List ℕ) → List (List ℕ)
put_in_front u [] = []
put_in_front u (t ∷ ts) = (u ++ t) ∷ ts

-- more bytes of a string
longer : (c : ℕ) (s u : List ℕ) (t : List ℕ) (us ts : List (List ℕ)) → ts ≡ (u ++ t) ∷ us
    → (p : Opened s (t ∷ us)) → (bytes : List ℕ) → (c ∷ s ≡ bytes ++ 34 ∷ p.rest) → Quotes bytes (u ++ p.text) → Opened (c ∷ s) ts
unfolding put_in_front
longer c s u t us ts e p bytes is quotes = record {
  bytes = bytes;
  text = u ++ p.text;
  rest = p.rest;
  others = p.others;
  is = is;
  quotes = quotes;
  are = e ∙ ap (put_in_front u) p.are;
  ends = p.ends;
}

out_step : (c : ℕ) (s : List ℕ) (ts : List (List ℕ)) → (read_from outside s ≡ Some ts → Ends s ts) → (read_from inside s ≡ Some ts → Opened s ts)
    → (w q b : Bool) → is_white c ≡ w → (c == 34) ≡ q → (c == 41) ≡ b
    → (if w then read_from outside s else if q then read_from inside s else if b then closed s else None) ≡ Some ts → Ends (c ∷ s) ts
out_step c s ts out in_string true q b hw hq hb h =
    let p = out h in record { body = c ∷ p.body; following = p.following; is = ap (λ r. c ∷ r) p.is; strings = white_first hw p.strings; white = p.white }
out_step c s ts out in_string false true b hw hq hb h =
    let p = in_string h in
    let first : c ≡ 34 = eqb-true c 34 hq in
    record {
      body = 34 ∷ (p.bytes ++ 34 ∷ p.ends.body);
      following = p.ends.following;
      is = ap (λ d. d ∷ s) first ∙ ap (λ r. 34 ∷ r) (p.is ∙ ap (λ r. p.bytes ++ 34 ∷ r) p.ends.is ∙ sym (append_assoc p.bytes (34 ∷ p.ends.body) (41 ∷ p.ends.following)));
      strings = subst (Strings (34 ∷ (p.bytes ++ 34 ∷ p.ends.body))) (sym p.are) (string_first p.quotes p.ends.strings);
      white = p.ends.white;
    }
out_step c s ts out in_string false false true hw hq hb h =
    let p = closed_some s (list_all is_white s) ts refl h in
    record { body = []; following = s; is = ap (λ d. d ∷ s) (eqb-true c 41 hb); strings = subst (Strings []) (sym p.1) no_string; white = p.0 }
out_step c s ts out in_string false false false hw hq hb h = absurd (no_some ts h)

in_step : (c : ℕ) (s : List ℕ) (ts : List (List ℕ)) → ((us : List (List ℕ)) → read_from outside s ≡ Some us → Ends s us)
    → ((us : List (List ℕ)) → read_from inside s ≡ Some us → Opened s us) → (read_from slash s ≡ Some ts → Opened (92 ∷ s) ts)
    → (q b : Bool) → (c == 34) ≡ q → (c == 92) ≡ b
    → (if q then add_first [] (read_from outside s) else if b then read_from slash s else in_front (c ∷ []) (read_from inside s)) ≡ Some ts → Opened (c ∷ s) ts
in_step c s ts out in_string escaped true b hq hb h =
    let p = first_some [] (read_from outside s) ts h in
    record { bytes = []; text = []; rest = s; others = p.0; is = ap (λ d. d ∷ s) (eqb-true c 34 hq); quotes = nothing; are = p.2; ends = out p.0 p.1 }
in_step c s ts out in_string escaped false true hq hb h = subst (λ d. Opened (d ∷ s) ts) (sym (eqb-true c 92 hb)) (escaped h)
in_step c s ts out in_string escaped false false hq hb h =
    let f = front_some (c ∷ []) (read_from inside s) ts h in
    let p = in_string (f.0 ∷ f.1) f.2 in
    let unmarked : is_marked c ≡ false = ap (λ a. a || c == 92) hq ∙ hb in
    longer c s (c ∷ []) f.0 f.1 ts f.3 p (c ∷ p.bytes) (ap (λ r. c ∷ r) p.is) (itself unmarked p.quotes)

slash_step : (c : ℕ) (s : List ℕ) (ts : List (List ℕ)) → ((us : List (List ℕ)) → read_from inside s ≡ Some us → Opened s us)
    → in_front (slashed c) (read_from inside s) ≡ Some ts → Opened (92 ∷ c ∷ s) ts
unfolding put_in_front
slash_step c s ts in_string h =
    let f = front_some (slashed c) (read_from inside s) ts h in
    let p = in_string (f.0 ∷ f.1) f.2 in
    record {
      bytes = 92 ∷ c ∷ p.bytes;
      text = slashed c ++ p.text;
      rest = p.rest;
      others = p.others;
      is = ap (λ r. 92 ∷ c ∷ r) p.is;
      quotes = after_slash p.quotes;
      are = f.3 ∙ ap (put_in_front (slashed c)) p.are;
      ends = p.ends;
    }

sound : (p : Place) (s : List ℕ) (ts : List (List ℕ)) → read_from p s ≡ Some ts → Means p s ts
sound outside [] ts h = absurd (no_some ts h)
sound outside (c ∷ s) ts h = out_step c s ts (sound outside s ts) (sound inside s ts) (is_white c) (c == 34) (c == 41) refl refl refl h
sound inside [] ts h = absurd (no_some ts h)
sound inside (c ∷ s) ts h = in_step c s ts (sound outside s) (sound inside s) (sound slash s ts) (c == 34) (c == 92) refl refl h
sound slash [] ts h = absurd (no_some ts h)
sound slash (c ∷ s) ts h = slash_step c s ts (sound inside s) h

no_first : (ts : List (List ℕ)) → ts ≡ [] → (t : List ℕ) (us : List (List ℕ)) → ts ≡ t ∷ us → ⊥
no_first ts e t us h = true≢false (ap some_first (sym h ∙ e))
  where
    some_first : List (List ℕ) → Bool
    some_first [] = false
    some_first (t ∷ us) = true

same_after : (s : List ℕ) (o : Option (List (List ℕ))) → read_from inside s ≡ o → in_front [] o ≡ o
same_after s None h = refl
same_after s (Some []) h = let p = sound inside s [] h in absurd (no_first [] refl p.text p.others p.are)
same_after s (Some (t ∷ ts)) h = refl

pub front_empty : (s : List ℕ) → in_front [] (read_from inside s) ≡ read_from inside s
front_empty s = same_after s (read_from inside s) refl

-- white space in front, and the rest
record Split (s : List ℕ) : Type 0 where
  white : List ℕ
  is : s ≡ white ++ without_white s
  all : list_all is_white white ≡ true

split_step : (c : ℕ) (s : List ℕ) → Split s → (b : Bool) → is_white c ≡ b → (w : List ℕ) × (c ∷ s ≡ w ++ (if b then without_white s else c ∷ s)) × (list_all is_white w ≡ true)
split_step c s p true h = (c ∷ p.white, ap (λ r. c ∷ r) p.is, and_from (is_white c) (list_all is_white p.white) h p.all)
split_step c s p false h = ([], refl, refl)

split : (s : List ℕ) → Split s
split [] = record { white = []; is = refl; all = refl }
split (c ∷ s) = let p = split_step c s (split s) (is_white c) refl in record { white = p.0; is = p.1; all = p.2 }

record Formed (s : List ℕ) (ts : List (List ℕ)) : Type 0 where
  inner : List ℕ
  following : List ℕ
  is : s ≡ inner ++ following
  white : list_all is_white following ≡ true
  form : Form inner ts

tuple_step : (s x : List ℕ) (w : List ℕ) (ts : List (List ℕ)) (b : Bool) → s ≡ w ++ x → list_all is_white w ≡ true → bytes_eq (take 5 x) (codes "tuple") ≡ b
    → (if b then read_from outside (drop 5 x) else None) ≡ Some ts → Formed (40 ∷ s) ts
tuple_step s x w ts true e white eq h =
    let p : Ends (drop 5 x) ts = sound outside (drop 5 x) ts h in
    let word : x ≡ codes "tuple" ++ drop 5 x = sym (take-append-drop 5 x) ∙ ap (λ r. r ++ drop 5 x) ((bytes_eq-Decides (take 5 x) (codes "tuple")).0 eq) in
    record {
      inner = 40 ∷ (w ++ (codes "tuple" ++ (p.body ++ 41 ∷ [])));
      following = p.following;
      is = ap (λ r. 40 ∷ r) (e ∙ ap (λ r. w ++ r) (word ∙ ap (λ r. codes "tuple" ++ r) (p.is ∙ sym (append_assoc p.body (41 ∷ []) p.following)))
          ∙ sym (append_assoc w (codes "tuple" ++ (p.body ++ 41 ∷ [])) p.following));
      white = p.white;
      form = tuple w p.body white p.strings;
    }
tuple_step s x w ts false e white eq h = absurd (no_some ts h)

quote_step : (d : ℕ) (s : List ℕ) (ts : List (List ℕ)) (b : Bool) → (d == 34) ≡ b → (if b then closed s else None) ≡ Some ts → Formed (34 ∷ d ∷ s) ts
quote_step d s ts true e h =
    let p = closed_some s (list_all is_white s) ts refl h in
    record { inner = 34 ∷ 34 ∷ []; following = s; is = ap (λ x. 34 ∷ x ∷ s) (eqb-true d 34 e); white = p.0; form = subst (Form (34 ∷ 34 ∷ [])) (sym p.1) empty_string }
quote_step d s ts false e h = absurd (no_some ts h)

quote_form : (s : List ℕ) (ts : List (List ℕ)) → read_empty_string s ≡ Some ts → Formed (34 ∷ s) ts
quote_form [] ts h = absurd (no_some ts h)
quote_form (d ∷ s) ts h = quote_step d s ts (d == 34) refl h

form_step : (c : ℕ) (s : List ℕ) (ts : List (List ℕ)) (q b : Bool) → (c == 34) ≡ q → (c == 40) ≡ b
    → (if q then read_empty_string s else if b then read_tuple (without_white s) else None) ≡ Some ts → Formed (c ∷ s) ts
form_step c s ts true b hq hb h = subst (λ d. Formed (d ∷ s) ts) (sym (eqb-true c 34 hq)) (quote_form s ts h)
form_step c s ts false true hq hb h =
    let p = split s in
    subst (λ d. Formed (d ∷ s) ts) (sym (eqb-true c 40 hb)) (tuple_step s (without_white s) p.white ts (bytes_eq (take 5 (without_white s)) (codes "tuple")) p.is p.all refl h)
form_step c s ts false false hq hb h = absurd (no_some ts h)

formed : (s : List ℕ) (ts : List (List ℕ)) → read_form s ≡ Some ts → Formed s ts
formed [] ts h = record { inner = []; following = []; is = refl; white = refl; form = subst (Form []) (same_strings [] ts h) empty }
formed (c ∷ s) ts h = form_step c s ts (c == 34) (c == 40) refl refl h

pub read_says : (s : List ℕ) (ts : List (List ℕ)) → read_strings s ≡ Some ts → Says s ts
read_says s ts h =
    let w = split s in
    let p = formed (without_white s) ts h in
    record { before = w.white; inside = p.inner; following = p.following; is = w.is ∙ ap (λ r. w.white ++ r) p.is; white_before = w.all; white_after = p.white; form = p.form }
