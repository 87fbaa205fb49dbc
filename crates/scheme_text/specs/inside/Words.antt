-- Names for parts of definitions, which proofs and private clauses use.
use Rattle.std.specs.Prelude.{ℕ, cond, List, [], ◌∷◌}
use Rattle.scheme_text.specs.Quoting.{is_marked}

-- what a backslash and the byte after it stand for: that byte alone where it is a quote or a backslash, and else both
abbrev pub slashed : ℕ → List ℕ
slashed c = cond (is_marked c) (c ∷ []) (92 ∷ c ∷ [])
