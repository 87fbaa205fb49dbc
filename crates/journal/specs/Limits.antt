-- The limit of a journal (docs/trust/FORMAT.md, "The journal").
use Rattle.std.specs.Prelude.{ℕ}

-- the most bytes of a payload
abbrev pub longest_payload : ℕ
longest_payload = 33554432

-- the length at which records that are written together are written
abbrev pub batch_len : ℕ
batch_len = 65536
