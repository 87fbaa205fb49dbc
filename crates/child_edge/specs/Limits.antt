-- The limit of a wait.
use Rattle.std.specs.Prelude.{ℕ}

-- the rounds of one wait in which children are received from
abbrev pub most_rounds : ℕ
most_rounds = 100000
