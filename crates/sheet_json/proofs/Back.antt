-- Bytes and blocks read back.
use Rattle.std.proofs.Common.{◌≡◌, ℕ, Bool, true, false, List, cond, Some, option_map, option_and_then, refl, ap, ◌∙◌}
use Rattle.std.specs.Result.{result_ok}
use Rattle.std.specs.Str.{is_utf8}
use Rattle.base64.specs.Engines.{standard}
use Rattle.base64.specs.GeneralPurpose.{IsBytes, IsConsistent}
use Rattle.base64.proofs.EngineFacts.{decode_of-encode_of}
use Rattle.block_tree.specs.Tree.{Piece, Items, end, text, block, text_piece, block_piece, put}
use Rattle.serde_json.specs.Data as json
use Rattle.sheet_json.specs.Bytes.{base64_data, bytes_data}
use Rattle.sheet_json.specs.Blocks.{block_object, items_data, kind_name}
use Rattle.sheet_json.specs.Reading.{bytes_in, block_with, items_in, kind_in, piece_in, tree_of_piece, HaveBytes}
use Rattle.sheet_json.specs.Laws.{BytesReadBack, BlocksReadBack}

consistent : IsConsistent standard
consistent = refl

pub base64_back : (bytes : List ℕ) → IsBytes bytes → bytes_in (base64_data bytes) ≡ Some bytes
base64_back bytes are = ap result_ok (decode_of-encode_of standard bytes consistent are)

pub bytes_back : (bytes : List ℕ) → IsBytes bytes → bytes_in (bytes_data bytes) ≡ Some bytes
bytes_back bytes are = elim (is_utf8 bytes) as (λ b. bytes_in (cond b (json.string bytes) (base64_data bytes)) ≡ Some bytes) [ true ↦ refl | false ↦ base64_back bytes are ]

text_back : (bytes : List ℕ) → IsBytes bytes → piece_in (bytes_data bytes) ≡ Some (text_piece bytes)
text_back bytes are = elim (is_utf8 bytes) as (λ b. piece_in (cond b (json.string bytes) (base64_data bytes)) ≡ Some (text_piece bytes))
    [ true ↦ refl | false ↦ ap (option_map text_piece) (base64_back bytes are) ]

kind_back : (channel : Bool) → kind_in (kind_name channel) ≡ Some channel
kind_back true = refl
kind_back false = refl

framed_back : (channel : Bool) (name : List ℕ) (inside : Items) (ds : json.Items) → IsBytes name → items_in ds ≡ Some inside
    → piece_in (block_object channel name ds) ≡ Some (block_piece (record { channel = channel; name = name; items = inside }))
framed_back channel name inside ds are is =
    ap (λ i. block_with i (kind_in (kind_name channel)) (bytes_in (bytes_data name))) is
    ∙ ap (λ k. block_with (Some inside) k (bytes_in (bytes_data name))) (kind_back channel)
    ∙ ap (λ n. block_with (Some inside) (Some channel) n) (bytes_back name are)

in_front : (p : Piece) (rest : Items) (d : json.Data) (ds : json.Items) → piece_in d ≡ Some p → items_in ds ≡ Some rest → items_in (json.item d ds) ≡ Some (put p rest)
in_front p rest d ds first others = ap (option_and_then (λ q. option_map (put q) (items_in ds))) first ∙ ap (option_map (put p)) others

items_back : (items : Items) → HaveBytes items → items_in (items_data items) ≡ Some items
items_back end have = refl
items_back (text t rest) have = in_front (text_piece t) rest (bytes_data t) (items_data rest) (text_back t have.0) (items_back rest have.1)
items_back (block channel name inside rest) have =
    in_front (block_piece (record { channel = channel; name = name; items = inside })) rest (block_object channel name (items_data inside)) (items_data rest)
    (framed_back channel name inside (items_data inside) have.0 (items_back inside have.1)) (items_back rest have.2)

pub bytes_read_back : BytesReadBack
bytes_read_back = bytes_back

pub blocks_read_back : BlocksReadBack
blocks_read_back b have = ap (option_and_then tree_of_piece) (framed_back b.channel b.name b.items (items_data b.items) have.0 (items_back b.items have.1))
