-- Payloads that are made when they are written.
use Rattle.std.specs.Prelude.{ℕ, ◌+◌, ◌<◌, ◌≤◌, List, [], get_or, length}
use Rattle.journal.specs.Limits.{batch_len}

-- so many bytes hold a batch that isn't full, the record of any of these payloads after it, and a gate
abbrev pub HoldsEach : ℕ → List (List ℕ) → Type 0
HoldsEach capacity payloads = (i : ℕ) → i < length payloads → batch_len + 6 + length (get_or payloads i []) ≤ capacity
