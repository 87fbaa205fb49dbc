-- Ask points and answers by the events of a past, in the words of docs/use/PROTOCOL.md, ask points: what `answers_of` lists.
use Rattle.std.specs.Prelude.{◌≡◌, ◌<◌, ◌≤◌, ◌↔◌, ℕ, suc, max, List, [], ◌∷◌, ◌++◌, length, take, Option, Some, None, slice_get}
use Rattle.meta_format.specs.Stream.{Outer}
use Rattle.meta_format.specs.Faults.{Kind}
use Rattle.meta_format.specs.Reader.{CloseWithin}
use Rattle.plugin_core.specs.declared.item.Item.{Item}
use Rattle.plugin_core.specs.Past.{Event, accepted, stream_of, items_of}
use Rattle.plugin_core.specs.Answers.{first_from, answers_of}
use Rattle.plugin_core.specs.Items.{bytes_of}
use Rattle.plugin_core.specs.Steps.{Reads, sent_by}

-- the length of the stream after the first so many events
abbrev pub length_after : List Event → ℕ → ℕ
length_after past n = length (stream_of (take n past))

-- The event at this place, counted from 0, closes the block: its piece has the last byte of it.
abbrev pub ClosesIn : List Event → ℕ → Outer → Type 0
ClosesIn past event b = (length_after past event < b.stop) × (b.stop ≤ length_after past (suc event))

-- The event at this place accepts the item with this number, counted from 1.
abbrev pub AcceptsIn : List Event → ℕ → ℕ → Type 0
AcceptsIn past event k = (item : Item) × (slice_get past event ≡ Some (accepted item)) × (suc (length (items_of (take event past))) ≡ k)

-- Answer 0, the banner, is the first block of the stream. The ask point of an item is the length of the stream after the later
-- of two events: the one in which the answer before it closes, and the one that accepts the item. Its answer is the first
-- block that starts at or after the ask point.
pub data IsAnswer (past : List Event) (blocks : List Outer) : ℕ → Outer → Type 0 where
  banner : (answer : Outer) → first_from 0 blocks ≡ Some answer → IsAnswer past blocks 0 answer
  next : (k closing accepting : ℕ) (before answer : Outer) → IsAnswer past blocks k before → ClosesIn past closing before → AcceptsIn past accepting (suc k)
      → first_from (length_after past (suc (max closing accepting))) blocks ≡ Some answer → IsAnswer past blocks (suc k) answer

-- The list of a past's answers has them and no others, each at its number.
abbrev pub AnswersByAskPoints : Type 0
AnswersByAskPoints = (past : List Event) (blocks : List Outer) (fault : Option Kind) → Reads (stream_of past) blocks fault
    → (k : ℕ) (b : Outer) → IsAnswer past blocks k b ↔ (slice_get (answers_of past blocks) k ≡ Some b)

-- An item is asked in the event at this place: the later of the two that give its ask point.
pub record IsAskedIn (past : List Event) (blocks : List Outer) (event : ℕ) (item : Item) : Type 0 where
  -- the answer before it, and its number
  pub number : ℕ
  pub before : Outer
  pub answer : IsAnswer past blocks number before
  pub closing : ℕ
  pub closes : ClosesIn past closing before
  pub accepting : ℕ
  pub accepts : AcceptsIn past accepting (suc number)
  pub is : accepts.0 ≡ item
  pub later : event ≡ max closing accepting

-- Where an event brings these further blocks and doesn't end the life, what is sent in it are the bytes of the item that is
-- asked in it, and nothing is sent where none is.
abbrev pub SendsWhatIsAsked : Type 0
SendsWhatIsAsked = (past : List Event) (event : Event) (before more : List Outer) (fault : Option Kind)
    → Reads (stream_of past) before None → Reads (stream_of (past ++ event ∷ [])) (before ++ more) fault
    → CloseWithin (length (stream_of past)) (length (stream_of (past ++ event ∷ []))) more
    → (bytes : List ℕ) → (sent_by past before event (before ++ more) ≡ Some bytes)
    ↔ ((item : Item) × IsAskedIn (past ++ event ∷ []) (before ++ more) (length past) item × (bytes ≡ bytes_of item))
