-- Strings between quotes. (R5RS 6.3.5, which leaves open what a backslash before a byte other than a quote and a backslash means:
-- docs/use/PROTOCOL.md, completion, has what is chosen.)
use Rattle.std.specs.Prelude.{◌≡◌, ℕ, ◌==◌, ◌||◌, Bool, false, cond, List, [], ◌∷◌, ◌++◌}
use Rattle.std.specs.List.{flat_map}

-- 34 is a quote and 92 a backslash: the two bytes that follow a backslash in a string
abbrev pub is_marked : ℕ → Bool
is_marked c = c == 34 || c == 92

-- The bytes, which stand between two quotes, stand for the text. A backslash and the byte after it stand for that byte alone where it
-- is a quote or a backslash, and else for both.
pub data Quotes : List ℕ → List ℕ → Type 0 where
  nothing : Quotes [] []
  itself : {c : ℕ} {s t : List ℕ} → is_marked c ≡ false → Quotes s t → Quotes (c ∷ s) (c ∷ t)
  after_slash : {c : ℕ} {s t : List ℕ} → Quotes s t → Quotes (92 ∷ c ∷ s) (cond (is_marked c) (c ∷ []) (92 ∷ c ∷ []) ++ t)

-- a text as it is written between quotes: with a backslash before each quote and each backslash
abbrev pub quoted : List ℕ → List ℕ
quoted = flat_map (λ c. cond (is_marked c) (92 ∷ c ∷ []) (c ∷ []))
