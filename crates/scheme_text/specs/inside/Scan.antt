-- How a text is read, byte by byte. Public contracts cite it through `Reported` alone.
use Rattle.std.specs.Prelude.{ℕ, ◌==◌, List, [], ◌∷◌, ◌++◌, take, drop, codes, Option, Some, None, if◌then◌else◌}
use Rattle.std.specs.List.{list_all}
use Rattle.std.specs.Str.{bytes_eq}
use Rattle.scheme_text.specs.inside.Words.{slashed}
use Rattle.scheme_text.specs.Outputs.{is_white}

-- outside a string, in one, and after a backslash in one
pub data Place : Type 0 where
  outside : Place
  inside : Place
  slash : Place

-- bytes in front of the first text
abbrev pub in_front : List ℕ → Option (List (List ℕ)) → Option (List (List ℕ))
in_front u None = None
in_front u (Some []) = None
in_front u (Some (t ∷ ts)) = Some ((u ++ t) ∷ ts)

-- a text in front of the others
abbrev pub add_first : List ℕ → Option (List (List ℕ)) → Option (List (List ℕ))
add_first t None = None
add_first t (Some ts) = Some (t ∷ ts)

-- texts in front of the others
abbrev pub add_before : List (List ℕ) → Option (List (List ℕ)) → Option (List (List ℕ))
add_before us None = None
add_before us (Some ts) = Some (us ++ ts)

-- nothing but white space after a form
abbrev pub closed : List ℕ → Option (List (List ℕ))
closed s = if list_all is_white s then Some [] else None

-- the texts up to the end of the tuple, from this place on
abbrev pub read_from : Place → List ℕ → Option (List (List ℕ))
read_from outside [] = None
read_from outside (c ∷ s) =
    if is_white c then read_from outside s else if c == 34 then read_from inside s else if c == 41 then closed s else None
read_from inside [] = None
read_from inside (c ∷ s) =
    if c == 34 then add_first [] (read_from outside s) else if c == 92 then read_from slash s else in_front (c ∷ []) (read_from inside s)
read_from slash [] = None
read_from slash (c ∷ s) = in_front (slashed c) (read_from inside s)

abbrev pub without_white : List ℕ → List ℕ
without_white [] = []
without_white (c ∷ s) = if is_white c then without_white s else c ∷ s

-- after the first bracket and white space
abbrev pub read_tuple : List ℕ → Option (List (List ℕ))
read_tuple s = if bytes_eq (take 5 s) (codes "tuple") then read_from outside (drop 5 s) else None

-- after the first quote
abbrev pub read_empty_string : List ℕ → Option (List (List ℕ))
read_empty_string [] = None
read_empty_string (c ∷ s) = if c == 34 then closed s else None

abbrev pub read_form : List ℕ → Option (List (List ℕ))
read_form [] = Some []
read_form (c ∷ s) = if c == 34 then read_empty_string s else if c == 40 then read_tuple (without_white s) else None

-- the strings of a text
abbrev pub read_strings : List ℕ → Option (List (List ℕ))
read_strings s = read_form (without_white s)
