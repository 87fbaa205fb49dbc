-- Which block of a stream answers which item. (docs/use/PROTOCOL.md, ask points.)
use Rattle.std.specs.Prelude.{ℕ, max, nat_le, List, [], ◌∷◌, Option, Some, None, if◌then◌else◌}
use Rattle.meta_format.specs.Stream.{Outer}
use Rattle.plugin_core.specs.Past.{Event, places_from, ends_from}

-- the first of these blocks that starts at or after the ask point
abbrev pub first_from : ℕ → List Outer → Option Outer
first_from ask [] = None
first_from ask (b ∷ bs) = if nat_le ask b.start then Some b else first_from ask bs

-- The length of the stream after the piece with the last byte of a block, where the pieces end there: the first of these ends that
-- is not before its stop. A block of the stream has one; the first line is for a stop that lies past them all.
abbrev pub end_after : List ℕ → ℕ → ℕ
end_after [] stop = stop
end_after (e ∷ ends) stop = if nat_le stop e then e else end_after ends stop

-- by cases on a block
abbrev pub if_found : {T : Type 0} → Option Outer → T → (Outer → T) → T
if_found None none some = none
if_found (Some b) none some = some b

-- The answers, where `places` has the length of the stream at which each item was accepted, `closed` is its length after the
-- event that closed the answer before the first of them, and `ends` are its lengths after each piece. The ask point is the
-- later of `place` and `closed`, and the answer is the first block that starts at or after it.
abbrev pub answers_from : List ℕ → List Outer → ℕ → List ℕ → List Outer
answers_from ends blocks closed [] = []
answers_from ends blocks closed (place ∷ places) =
    if_found (first_from (max closed place) blocks) [] (λ b. b ∷ answers_from ends blocks (end_after ends b.stop) places)

-- Answer 0 is the banner: the first block of the stream, as if it were asked where the stream begins.
abbrev pub asked_places : List Event → List ℕ
asked_places past = 0 ∷ places_from 0 past

-- the answers so far, the banner first, where the stream has these blocks
abbrev pub answers_of : List Event → List Outer → List Outer
answers_of past blocks = answers_from (ends_from 0 past) blocks 0 (asked_places past)

-- the ask point of the first item without an answer, where there is one
abbrev pub ask_from : List ℕ → List Outer → ℕ → List ℕ → Option ℕ
ask_from ends blocks closed [] = None
ask_from ends blocks closed (place ∷ places) =
    if_found (first_from (max closed place) blocks) (Some (max closed place)) (λ b. ask_from ends blocks (end_after ends b.stop) places)

abbrev pub ask_of : List Event → List Outer → Option ℕ
ask_of past blocks = ask_from (ends_from 0 past) blocks 0 (asked_places past)
