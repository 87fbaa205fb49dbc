-- The text, the output and the channels of a block.
-- (TeXmacs manual, interfacing: channels, prompts and default input.)
use Rattle.std.specs.Prelude.{ℕ, Bool, false, ◌&&◌, ◌||◌, cond, List, [], ◌++◌, codes, Option, Some, None}
use Rattle.std.specs.Option.{option_or}
use Rattle.std.specs.Str.{bytes_eq}
use Rattle.block_tree.specs.Tree.{Items, Tree, end, text, block}

-- the texts at any depth, in reading order, without the tags
abbrev pub text_of : Items → List ℕ
text_of end = []
text_of (text t rest) = t ++ text_of rest
text_of (block channel name inside rest) = text_of inside ++ text_of rest

-- the channels 'prompt' and 'input', which are no part of an output
abbrev pub is_aside : Bool → List ℕ → Bool
is_aside channel name = channel && (bytes_eq name (codes "prompt") || bytes_eq name (codes "input"))

-- a text in front of others, one with the text that it comes to stand beside
abbrev pub join : List ℕ → Items → Items
join t end = text t end
join t (text u rest) = text (t ++ u) rest
join t (block channel name inside rest) = text t (block channel name inside rest)

-- what is left without prompts and default inputs at any depth, with neighbouring texts joined
abbrev pub output_items : Items → Items
output_items end = end
output_items (text t rest) = join t (output_items rest)
output_items (block channel name inside rest) =
    cond (is_aside channel name) (output_items rest) (block channel name (output_items inside) (output_items rest))

-- the output of a block: an empty block of the format 'verbatim' where the block is itself a prompt or a default input
abbrev pub output : Tree → Tree
output b = cond (is_aside b.channel b.name) (record { channel = false; name = codes "verbatim"; items = end }) (record { channel = b.channel; name = b.name; items = output_items b.items })

-- the text of a block, where it is the channel that is asked for
abbrev pub own_text : List ℕ → Bool → List ℕ → Items → Option (List ℕ)
own_text wanted channel name inside = cond (channel && bytes_eq name wanted) (Some (text_of inside)) None

-- The text of the last to open among the blocks of this channel. Those after a block open later than
-- those in it, and these open later than the block itself.
abbrev pub last_text : List ℕ → Items → Option (List ℕ)
last_text wanted end = None
last_text wanted (text t rest) = last_text wanted rest
last_text wanted (block channel name inside rest) =
    option_or (last_text wanted rest) (option_or (last_text wanted inside) (own_text wanted channel name inside))

-- the text of the channel in a block, itself included
abbrev pub text_on_channel : List ℕ → Tree → Option (List ℕ)
text_on_channel wanted b = option_or (last_text wanted b.items) (own_text wanted b.channel b.name b.items)
