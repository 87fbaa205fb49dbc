-- The items of a life: which wait, which are asked, and what is sent for them. (docs/use/PROTOCOL.md, one life.)
use Rattle.std.specs.Prelude.{ℕ, nat_eq, Bool, false, List, [], ◌∷◌, ◌++◌, length, take, drop, Option, Some, None, option_map, slice_get, codes}
use Rattle.std.specs.Str.{IsCharBoundary}
use Rattle.block_tree.specs.Tree.{Tree}
use Rattle.block_tree.specs.Output.{output}
use Rattle.meta_format.specs.Stream.{Outer}
use Rattle.scheme_text.specs.Requests.{request}
use Rattle.scheme_text.specs.Reported.{reported_by}
use Rattle.plugin_core.specs.declared.item.Item.{Item}
use Rattle.plugin_core.specs.declared.item.Item.TheVariants as item
use Rattle.plugin_core.specs.declared.step.Answered.{Answered}
use Rattle.plugin_core.specs.declared.step.Answered.TheVariants as answered
use Rattle.plugin_core.specs.Past.{Event, items_of}
use Rattle.plugin_core.specs.Answers.{answers_of}
use Rattle.plugin_core.specs.Blocks.{prompt_after}

-- the items after those that have one of these answers: the first answer is the banner, and the others answer an item each
abbrev pub unanswered : List Outer → List Item → List Item
unanswered [] items = items
unanswered (banner ∷ answers) items = drop (length answers) items

-- the items that wait: those without an answer
abbrev pub waiting_of : List Event → List Outer → List Item
waiting_of past blocks = unanswered (answers_of past blocks) (items_of past)

-- The items that are asked so far: each where the answer before it has closed, the banner before the first.
abbrev pub asked_of : List Event → List Outer → List Item
asked_of past blocks = take (length (answers_of past blocks)) (items_of past)

-- what is sent for an item: the text of a line and a line feed, or the request of completions
abbrev pub bytes_of : Item → List ℕ
bytes_of (item.Line id text) = text ++ 10 ∷ []
bytes_of (item.Complete id text cursor) = request text cursor

-- the prompt of an item that has these answers before it: "> " where none of them has one
abbrev pub prompt_of : List Event → List Outer → List ℕ
prompt_of past blocks = prompt_after (codes "> ") (answers_of past blocks)

-- what is returned for an answer with this output to an item; for a request of completions, what the
-- output says
abbrev pub answer_to : Item → List ℕ → Tree → Answered
answer_to (item.Line id text) prompt out = answered.Line id prompt out
answer_to (item.Complete id text cursor) prompt out = answered.Complete id (reported_by out)

-- What is returned for an answer that comes after these: the first is the banner, and each other one answers an
-- item.
abbrev pub answer_following : List Outer → List Item → List ℕ → Tree → Option Answered
answer_following [] items prompt b = Some (answered.Banner (output b))
answer_following (banner ∷ answers) items prompt b = option_map (λ i. answer_to i prompt (output b)) (slice_get items (length answers))

-- the item is a line of this field
abbrev pub is_line_of : ℕ → Item → Bool
is_line_of id (item.Line other text) = nat_eq other id
is_line_of id _ = false

-- the field of the first of these items, where that is a line
abbrev pub first_line_of : List Item → Option ℕ
first_line_of (item.Line id text ∷ items) = Some id
first_line_of _ = None

-- An item that may be accepted: the cursor of a request of completions stands in front of a character of its text, or at the end.
abbrev pub IsAskable : Item → Type 0
IsAskable (item.Line id text) = Unit {0}
IsAskable (item.Complete id text cursor) = IsCharBoundary text cursor
