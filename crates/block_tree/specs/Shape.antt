-- Which trees are blocks.
use Rattle.std.specs.Prelude.{ℕ, ◌+◌, max, Bool, true, false, ◌&&◌, nat_le, nat_eq, not, List, length}
use Rattle.std.specs.List.{list_all}
use Rattle.block_tree.specs.Tree.{Items, Tree, end, text, block}

-- the most bytes of a tag's name
abbrev pub longest_tag : ℕ
longest_tag = 64

-- the most blocks in one another, the outer one among them
abbrev pub most_levels : ℕ
most_levels = 32

-- a byte of a tag: no control character, no ':' and no '#'
abbrev pub is_tag_byte : ℕ → Bool
is_tag_byte c = nat_le 32 c && not (nat_eq c 58) && not (nat_eq c 35)

-- the name of a tag, where so many bytes are the most
abbrev pub is_tag_name : ℕ → List ℕ → Bool
is_tag_name most name = nat_le 1 (length name) && nat_le (length name) most && list_all is_tag_byte name

-- a text stands first
abbrev pub begins_with_text : Items → Bool
begins_with_text (text t rest) = true
begins_with_text _ = false

-- At any depth each tag is right, no text is empty, and no two texts stand side by side.
abbrev pub is_proper : ℕ → Items → Bool
is_proper most end = true
is_proper most (text t rest) = nat_le 1 (length t) && not (begins_with_text rest) && is_proper most rest
is_proper most (block channel name inside rest) = is_tag_name most name && is_proper most inside && is_proper most rest

-- how many blocks stand in one another
abbrev pub levels : Items → ℕ
levels end = 0
levels (text t rest) = levels rest
levels (block channel name inside rest) = max (1 + levels inside) (levels rest)

-- the depth of a block: one where no block stands in it
abbrev pub depth : Tree → ℕ
depth b = 1 + levels b.items

-- a block whose tags have so many bytes at most, and which is at most so deep
abbrev pub is_block_within : ℕ → ℕ → Tree → Bool
is_block_within tag deep b = is_tag_name tag b.name && is_proper tag b.items && nat_le (1 + levels b.items) deep

-- a block within the limits of all streams
abbrev pub is_block : Tree → Bool
is_block = is_block_within longest_tag most_levels
