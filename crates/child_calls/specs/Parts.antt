-- Children that answer by their parts.
use Rattle.std.specs.Prelude.{◌≡◌, ℕ, ◌==◌, ◌&&◌, Bool, true, false, List, ◌⊎◌, drop, Option, Some, None, position, slice_get, slice_set}
use Rattle.std.specs.Str.{bytes_eq}
use Rattle.child_calls.specs.declared.scripted.Part.{Part}
use Rattle.child_calls.specs.declared.scripted.Got.{Got}
use Rattle.child_calls.specs.declared.scripted.Got.TheVariants as got
use Rattle.child_calls.specs.Calls.{Call, start, send, receive, interrupt, stop, Answer, done, fault, piece, end, no_memory}

abbrev pub is_of : List ℕ → ℕ → Part → Bool
is_of name life p = bytes_eq p.name name && (p.life == life)

-- by what stands at this place, where something does
abbrev pub ByFirst : {P : Type 0} → Option ℕ → List P → Type 0 → (ℕ → P → Type 0) → Type 0
ByFirst None ps none some = none
ByFirst {P = P} (Some i) ps none some = (p : P) × (slice_get ps i ≡ Some p) × some i p

abbrev pub done_if : Bool → Answer
done_if true = done
done_if false = fault

-- past the end a send succeeds
abbrev pub sends_of : Option Bool → Answer
sends_of None = done
sends_of (Some b) = done_if b

abbrev pub sends : List Bool → Answer
sends bs = sends_of (slice_get bs 0)

-- past the end a receive gives the end
abbrev pub gives_of : Option Got → Answer
gives_of None = end
gives_of (Some (got.Piece bytes)) = piece bytes
gives_of (Some got.End) = end
gives_of (Some got.Fault) = fault

abbrev pub gives : List Got → Answer
gives gs = gives_of (slice_get gs 0)

abbrev pub after_send : Part → Part
after_send p = record p { sends = drop 1 p.sends }

abbrev pub after_receive : List Got → Part → Part
after_receive gs p = record p { receives = gs }

-- of two parts with one name and life the first counts, and to a life without a part every call is a fault
abbrev pub ByParts : List Part → Call → Answer → List Part → Type 0
ByParts ps (start name life words) a qs = (qs ≡ ps) × ByFirst (position (is_of name life) ps) ps (a ≡ fault) (λ i p. a ≡ done_if p.start)
ByParts ps (send name life bytes) a qs =
    ByFirst (position (is_of name life) ps) ps ((a ≡ fault) × (qs ≡ ps)) (λ i p. (a ≡ sends p.sends) × (qs ≡ slice_set ps i (after_send p)))
ByParts ps (receive name life) a qs =
    ByFirst (position (is_of name life) ps) ps ((a ≡ fault) × (qs ≡ ps)) (λ i p. ((a ≡ gives p.receives) × (qs ≡ slice_set ps i (after_receive (drop 1 p.receives) p))) ⊎ ((a ≡ no_memory) × (qs ≡ ps)))
ByParts ps (interrupt name life) a qs = (qs ≡ ps) × ByFirst (position (is_of name life) ps) ps (a ≡ fault) (λ i p. a ≡ done_if p.interrupt)
ByParts ps (stop name life) a qs = (qs ≡ ps) × ByFirst (position (is_of name life) ps) ps (a ≡ fault) (λ i p. a ≡ done_if p.stop)
