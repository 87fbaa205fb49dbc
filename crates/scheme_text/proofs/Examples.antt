-- Worked examples of the definitions.
use Rattle.std.proofs.Common.{◌≡◌, ℕ, List, [], ◌∷◌, ◌++◌, refl, ap, arith, true, false}
use Rattle.std.specs.Prelude.{codes, Result, Ok, Err}
use Rattle.std.proofs.lemmas.Fmt.{decimal_digit}
use Rattle.block_tree.specs.Tree.{Items, Tree, end, text, block}
use Rattle.scheme_text.specs.Requests.{request}
use Rattle.scheme_text.specs.Reported.{reported_by, no_completion}
use Rattle.scheme_text.specs.declared.answer.Completions.{Completions}
use Rattle.scheme_text.specs.declared.answer.BadCompletion.{BadCompletion}

-- the request of 18 bytes, with the 16 and the line feed
request_of_a_letter : request (codes "h") 1 ≡ 16 ∷ 40 ∷ 99 ∷ 111 ∷ 109 ∷ 112 ∷ 108 ∷ 101 ∷ 116 ∷ 101 ∷ 32 ∷ 34 ∷ 104 ∷ 34 ∷ 32 ∷ 49 ∷ 41 ∷ 10 ∷ []
request_of_a_letter = ap (λ (d : List ℕ). 16 ∷ (codes "(complete \"h\" " ++ (d ++ codes ")\n"))) (decimal_digit 1 (omega arith))

-- a quote and a backslash, each after a backslash
request_with_escapes : request (34 ∷ 92 ∷ []) 0 ≡ 16 ∷ (codes "(complete " ++ (34 ∷ 92 ∷ 34 ∷ 92 ∷ 92 ∷ 34 ∷ codes " 0)\n"))
request_with_escapes = ap (λ (d : List ℕ). 16 ∷ (codes "(complete " ++ (34 ∷ 92 ∷ 34 ∷ 92 ∷ 92 ∷ 34 ∷ 32 ∷ (d ++ codes ")\n")))) (decimal_digit 0 (omega arith))

abbrev Reported : Type 0
Reported = Result Completions BadCompletion

abbrev none : Reported
none = Ok (record { root = []; rest = [] })

abbrev bad : Reported
bad = Err no_completion

abbrev scheme : List ℕ → Tree
scheme t = record { channel = false; name = codes "scheme"; items = text t end }

abbrev verbatim : Items → Tree
verbatim items = record { channel = false; name = codes "verbatim"; items = items }

abbrev inner : List ℕ → Items → Items
inner t rest = block false (codes "scheme") (text t end) rest

four_completions : reported_by (scheme (codes "(tuple \"h\" \"ello\" \"i there\" \"ola\" \"opsakee\")")) ≡ Ok (record { root = codes "h"; rest = codes "ello" ∷ codes "i there" ∷ codes "ola" ∷ codes "opsakee" ∷ [] })
four_completions = refl

-- no completions

empty_string : reported_by (scheme (codes "\"\"")) ≡ none
empty_string = refl

no_text : reported_by (record { channel = false; name = codes "scheme"; items = end }) ≡ none
no_text = refl

tuple_of_none : reported_by (scheme (codes "(tuple)")) ≡ none
tuple_of_none = refl

-- an empty root is none too
tuple_of_an_empty_root : reported_by (scheme (codes "(tuple \"\")")) ≡ none
tuple_of_an_empty_root = refl

empty_verbatim : reported_by (verbatim end) ≡ none
empty_verbatim = refl

white_verbatim : reported_by (verbatim (text (9 ∷ 10 ∷ 12 ∷ 13 ∷ 32 ∷ []) end)) ≡ none
white_verbatim = refl

-- white space, and none

white_everywhere : reported_by (scheme (codes " \n( \ttuple \"a\" \"b\" ) \n")) ≡ Ok (record { root = codes "a"; rest = codes "b" ∷ [] })
white_everywhere = refl

white_nowhere : reported_by (scheme (codes "(tuple\"a\"\"b\")")) ≡ Ok (record { root = codes "a"; rest = codes "b" ∷ [] })
white_nowhere = refl

no_white_byte : reported_by (scheme (11 ∷ [])) ≡ bad
no_white_byte = refl

-- a quote, a backslash, and a backslash before another byte
escapes : reported_by (scheme (codes "(tuple \"a\\\"b\\\\c\\nd\")")) ≡ Ok (record { root = 97 ∷ 34 ∷ 98 ∷ 92 ∷ 99 ∷ 92 ∷ 110 ∷ 100 ∷ []; rest = [] })
escapes = refl

-- blocks

block_among_white : reported_by (verbatim (text (codes " ") (inner (codes "(tuple \"a\")") (text (codes "\n") end)))) ≡ Ok (record { root = codes "a"; rest = [] })
block_among_white = refl

two_blocks : reported_by (verbatim (inner (codes "(tuple \"a\")") (inner [] end))) ≡ bad
two_blocks = refl

text_beside_a_block : reported_by (verbatim (inner (codes "(tuple \"a\")") (text (codes "b") end))) ≡ bad
text_beside_a_block = refl

text_alone : reported_by (verbatim (text (codes "h") end)) ≡ bad
text_alone = refl

a_channel : reported_by (record { channel = true; name = codes "scheme"; items = end }) ≡ bad
a_channel = refl

another_format : reported_by (record { channel = false; name = codes "latex"; items = end }) ≡ bad
another_format = refl

block_in_the_answer : reported_by (record { channel = false; name = codes "scheme"; items = block false (codes "verbatim") end end }) ≡ bad
block_in_the_answer = refl

-- texts of no form

a_number : reported_by (scheme (codes "(tuple 3)")) ≡ bad
a_number = refl

a_symbol : reported_by (scheme (codes "(tuple a)")) ≡ bad
a_symbol = refl

a_quoted_word : reported_by (scheme (codes "(\"tuple\")")) ≡ bad
a_quoted_word = refl

a_nested_list : reported_by (scheme (codes "(tuple (\"a\"))")) ≡ bad
a_nested_list = refl

an_unclosed_string : reported_by (scheme (codes "(tuple \"a)")) ≡ bad
an_unclosed_string = refl

an_unclosed_tuple : reported_by (scheme (codes "(tuple \"a\"")) ≡ bad
an_unclosed_tuple = refl

a_string_alone : reported_by (scheme (codes "\"a\"")) ≡ bad
a_string_alone = refl

text_after_a_tuple : reported_by (scheme (codes "(tuple) b")) ≡ bad
text_after_a_tuple = refl
