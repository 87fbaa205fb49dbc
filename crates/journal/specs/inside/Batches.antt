-- Records that are written together. No public clause speaks of them.
use Rattle.std.specs.Prelude.{◌≡◌, ℕ, List, ◌++◌, take}
use Rattle.journal.specs.Area.{ArePayloads, records}
use Rattle.journal.specs.Limits.{longest_payload}

-- the bytes are the records of these payloads from one place up to another
pub record IsBatch (payloads : List (List ℕ)) (from next : ℕ) (bytes : List ℕ) : Type 0 where
  pub those : List (List ℕ)
  pub split : take next payloads ≡ take from payloads ++ those
  pub are : bytes ≡ records those
  pub each : ArePayloads longest_payload those
