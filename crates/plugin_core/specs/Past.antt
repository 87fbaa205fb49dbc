-- What happens to one life of an interpreter, and its stream. (docs/use/PROTOCOL.md, one life.)
use Rattle.std.specs.Prelude.{ℕ, ◌+◌, List, [], ◌∷◌, ◌++◌, length}
use Rattle.plugin_core.specs.declared.item.Item.{Item}

-- An event of a life. The past of a life is the list of its events in order, and the first of them accepts the item
-- that it begins with.
pub data Event : Type 0 where
  -- an item is accepted
  accepted : Item → Event
  -- a piece of what the interpreter writes is received
  received : List ℕ → Event

-- the stream: the pieces, joined
abbrev pub stream_of : List Event → List ℕ
stream_of [] = []
stream_of (accepted item ∷ past) = stream_of past
stream_of (received piece ∷ past) = piece ++ stream_of past

-- the items, in order
abbrev pub items_of : List Event → List Item
items_of [] = []
items_of (accepted item ∷ past) = item ∷ items_of past
items_of (received piece ∷ past) = items_of past

-- the length of the stream where each item is accepted, from a length on
abbrev pub places_from : ℕ → List Event → List ℕ
places_from at [] = []
places_from at (accepted item ∷ past) = at ∷ places_from at past
places_from at (received piece ∷ past) = places_from (at + length piece) past

-- the length of the stream after each piece, from a length on
abbrev pub ends_from : ℕ → List Event → List ℕ
ends_from at [] = []
ends_from at (accepted item ∷ past) = ends_from at past
ends_from at (received piece ∷ past) = (at + length piece) ∷ ends_from (at + length piece) past
