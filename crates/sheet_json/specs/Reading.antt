-- What bytes and blocks as JSON read as: the way back of `Bytes` and `Blocks`.
use Rattle.std.specs.Prelude.{ℕ, Bool, true, false, ◌&&◌, List, cond, codes, Option, Some, None, option_map, option_and_then}
use Rattle.std.specs.Result.{result_ok}
use Rattle.std.specs.Str.{bytes_eq}
use Rattle.base64.specs.Engines.{standard}
use Rattle.base64.specs.GeneralPurpose.{decode_of, IsBytes}
use Rattle.block_tree.specs.Tree.{Tree, Piece, end, text, block, text_piece, block_piece, put}
use Rattle.block_tree.specs.Tree as tree
use Rattle.serde_json.specs.Data.{Data, Items, Members, string, array, object, item, no_items, member, no_members}

-- the value of the member `base64`
abbrev pub base64_in : List ℕ → Data → Option (List ℕ)
base64_in name (string s) = cond (bytes_eq name (codes "base64")) (result_ok (decode_of standard s)) None
base64_in name _ = None

abbrev pub only_base64_in : Members → Option (List ℕ)
only_base64_in (member name value no_members) = base64_in name value
only_base64_in _ = None

-- bytes: a string, or the base64 of them
abbrev pub bytes_in : Data → Option (List ℕ)
bytes_in (string s) = Some s
bytes_in (object members) = only_base64_in members
bytes_in _ = None

-- whether a block is a channel
abbrev pub kind_in : List ℕ → Option Bool
kind_in kind = cond (bytes_eq kind (codes "channel")) (Some true) (cond (bytes_eq kind (codes "format")) (Some false) None)

abbrev pub block_with : Option tree.Items → Option Bool → Option (List ℕ) → Option Piece
block_with (Some items) (Some channel) (Some name) = Some (block_piece (record { channel = channel; name = name; items = items }))
block_with _ _ _ = None

-- a block, by the names and values of its members
abbrev pub block_in : List ℕ → Option tree.Items → List ℕ → List ℕ → List ℕ → Data → Option Piece
block_in a items b kind c tag = cond (bytes_eq a (codes "items") && bytes_eq b (codes "kind") && bytes_eq c (codes "tag")) (block_with items (kind_in kind) (bytes_in tag)) None

abbrev mutual
  -- what stands in a block
  pub items_in : Items → Option tree.Items
  items_in no_items = Some end
  items_in (item d ds) = option_and_then (λ p. option_map (put p) (items_in ds)) (piece_in d)

  -- a text, or a block
  pub piece_in : Data → Option Piece
  piece_in (string s) = Some (text_piece s)
  piece_in (object members) = members_piece members
  piece_in _ = None

  pub members_piece : Members → Option Piece
  members_piece (member name value no_members) = option_map text_piece (base64_in name value)
  members_piece (member a (array ds) (member b (string kind) (member c tag no_members))) = block_in a (items_in ds) b kind c tag
  members_piece _ = None

abbrev pub tree_of_piece : Piece → Option Tree
tree_of_piece (text_piece t) = None
tree_of_piece (block_piece b) = Some b

-- a block
abbrev pub tree_in : Data → Option Tree
tree_in d = option_and_then tree_of_piece (piece_in d)

-- what a program's bytes are: each is below 256, in the names and the texts of a block
abbrev pub HaveBytes : tree.Items → Type 0
HaveBytes end = Unit {0}
HaveBytes (text t rest) = IsBytes t × HaveBytes rest
HaveBytes (block channel name inside rest) = IsBytes name × HaveBytes inside × HaveBytes rest

abbrev pub HasBytes : Tree → Type 0
HasBytes b = IsBytes b.name × HaveBytes b.items
