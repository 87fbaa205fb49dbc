-- The length of a fence, byte by byte.
use Rattle.std.proofs.Common.{◌≡◌, ◌≤◌, ◌<◌, ◌+◌, ◌/◌, ◌%◌, ℕ, Bool, true, false, cond, List, [], ◌∷◌, ◌++◌, flat_map, refl, ap, sym, ◌∙◌, append-nil, arith, max, length, take, get_or}
use Rattle.std.specs.Prelude.{◌==◌, nat_lt, if◌then◌else◌}
use Rattle.std.proofs.lemmas.Bool.{eqb-true}
use Rattle.std.proofs.lemmas.Bool.Decides.{nat_tests}
use Rattle.std.proofs.lemmas.List.{take_more, take_all}
use Rattle.block_tree.specs.View.{piece_of, tree_of}
use Rattle.block_tree.specs.declared.tree.Item.{Item}
use Rattle.block_tree.specs.declared.tree.Node.{Node, out-Node}
use Rattle.std.proofs.lemmas.Grind.{flat_map-append}
use Rattle.sheet_text.proofs.Appending.{block_text_out}
use Rattle.sheet_text.proofs.LineLaws.{lines_are_input}
use Rattle.sheet_text.specs.Blocks.{block_text, framed, is_bare, piece_block_text, sign}
use Rattle.sheet_text.specs.Escape.{escaped_byte, hex, is_plain, on_line, on_lines, printed_byte}
use Rattle.sheet_text.specs.InputLines.{further_line, lines_of_input, line_end, text_of_lines}
use Rattle.sheet_text.specs.Texts.{ends_line, in_lines}
use Rattle.sheet_export.specs.declared.fences.Fence.{Fence}
use Rattle.sheet_export.specs.Markdown.{input_code}
use Rattle.sheet_export.specs.Fences.{fence_length, longest_run, run_at_start}
use Rattle.sheet_export.specs.inside.Scan.{shortest, with_byte, with_bytes}

pub with_bytes-append : (fence : Fence) (a b : List ℕ) → with_bytes fence (a ++ b) ≡ with_bytes (with_bytes fence a) b
with_bytes-append fence [] b = refl
with_bytes-append fence (x ∷ a) b = with_bytes-append (with_byte fence x) a b

-- What is printed for a byte has a backquote only where the byte is one.

abbrev cut : Fence → Fence
cut fence = record { ending = 1; length = fence.length }

hex_other : (n : ℕ) → (hex n == 96) ≡ false
hex_other n = go (nat_lt n 10) refl
  where
    go : (b : Bool) → nat_lt n 10 ≡ b → (hex n == 96) ≡ false
    go true e = ap (λ t. cond t (48 + n) (87 + n) == 96) e ∙ grind (arith, nat_tests)
    go false e = ap (λ t. cond t (48 + n) (87 + n) == 96) e ∙ grind (arith, nat_tests)

escaped_cuts : (fence : Fence) (b : ℕ) → with_bytes fence (escaped_byte b) ≡ cut fence
escaped_cuts fence b = rw (hex_other (b / 16), hex_other (b % 16)) refl

pub printed_scan : (keeps_lines : Bool) (fence : Fence) (b : ℕ) → with_bytes fence (printed_byte keeps_lines b) ≡ with_byte fence b
printed_scan keeps_lines fence b = go (b == 96) refl
  where
    other : (b == 96) ≡ false → (t : Bool) → with_bytes fence (cond t (b ∷ []) (escaped_byte b)) ≡ with_byte fence b
    other e true = refl
    other e false = escaped_cuts fence b ∙ (rw e refl)

    go : (t : Bool) → (b == 96) ≡ t → with_bytes fence (printed_byte keeps_lines b) ≡ with_byte fence b
    go true e = let is : b ≡ 96 = eqb-true b 96 e in rw is refl
    go false e = other e (is_plain keeps_lines b)

pub text_scan : (keeps_lines : Bool) (fence : Fence) (bytes : List ℕ) → with_bytes fence (flat_map (printed_byte keeps_lines) bytes) ≡ with_bytes fence bytes
text_scan keeps_lines fence [] = refl
text_scan keeps_lines fence (b ∷ bytes) =
    with_bytes-append fence (printed_byte keeps_lines b) (flat_map (printed_byte keeps_lines) bytes)
    ∙ ap (λ f. with_bytes f (flat_map (printed_byte keeps_lines) bytes)) (printed_scan keeps_lines fence b)
    ∙ text_scan keeps_lines (with_byte fence b) bytes

-- What the bytes come to.

short_start : (bytes : List ℕ) → run_at_start bytes ≤ longest_run bytes
unfolding run_at_start longest_run
short_start [] = omega arith
short_start (b ∷ bytes) = omega arith

scan_is : (fence : Fence) (bytes : List ℕ) → 1 ≤ fence.ending → fence.ending ≤ fence.length
    → (with_bytes fence bytes).length ≡ max fence.length (max (fence.ending + run_at_start bytes) (longest_run bytes + 1))
unfolding run_at_start longest_run
scan_is fence [] low high = omega arith
scan_is fence (b ∷ bytes) low high = go (λ f l h. scan_is f bytes l h) (b == 96) refl
  where
    go : ((f : Fence) → 1 ≤ f.ending → f.ending ≤ f.length → (with_bytes f bytes).length ≡ max f.length (max (f.ending + run_at_start bytes) (longest_run bytes + 1))) → (t : Bool) → (b == 96) ≡ t
        → (with_bytes fence (b ∷ bytes)).length ≡ max fence.length (max (fence.ending + run_at_start (b ∷ bytes)) (longest_run (b ∷ bytes) + 1))
    go again true e =
        let step : with_byte fence b ≡ record { ending = fence.ending + 1; length = max fence.length (fence.ending + 1) } = rw e refl in
        let run : run_at_start (b ∷ bytes) ≡ run_at_start bytes + 1 = rw e refl in
        let so = again (record { ending = fence.ending + 1; length = max fence.length (fence.ending + 1) }) (omega arith) (omega arith) in
        ap (λ f. (with_bytes f bytes).length) step ∙ so ∙ omega (arith, run, low, high)
    go again false e =
        let step : with_byte fence b ≡ cut fence = rw e refl in
        let run : run_at_start (b ∷ bytes) ≡ 0 = rw e refl in
        let short = short_start bytes in
        let so = again (cut fence) (omega arith) (omega (arith, low, high)) in
        ap (λ f. (with_bytes f bytes).length) step ∙ so ∙ omega (arith, run, short, low, high)

pub scanned : (bytes : List ℕ) → (with_bytes shortest bytes).length ≡ fence_length bytes
scanned bytes = let short = short_start bytes in scan_is shortest bytes (omega arith) (omega arith) ∙ omega (arith, short)

-- A line feed after a text changes nothing.

pub line_scan : (fence : Fence) (bytes : List ℕ) → (with_bytes fence (bytes ++ 10 ∷ [])).length ≡ (with_bytes fence bytes).length
line_scan fence bytes = ap (λ f. f.length) (with_bytes-append fence bytes (10 ∷ []))

-- a line feed cuts a run of backquotes as U+2028 does
further_scan : (fence : Fence) (lines : List (List ℕ)) → with_bytes fence (flat_map (further_line on_line (10 ∷ [])) lines) ≡ with_bytes fence (flat_map (further_line (λ line. line) line_end) lines)
further_scan fence [] = refl
further_scan fence (line ∷ lines) =
    with_bytes-append (cut fence) (on_line line) (flat_map (further_line on_line (10 ∷ [])) lines)
    ∙ ap (λ f. with_bytes f (flat_map (further_line on_line (10 ∷ [])) lines)) (text_scan false (cut fence) line)
    ∙ further_scan (with_bytes (cut fence) line) lines
    ∙ sym (with_bytes-append (cut fence) line (flat_map (further_line (λ line. line) line_end) lines))

lines_scan : (fence : Fence) (lines : List (List ℕ)) → with_bytes fence (text_of_lines on_line (10 ∷ []) lines) ≡ with_bytes fence (text_of_lines (λ line. line) line_end lines)
lines_scan fence [] = refl
lines_scan fence (line ∷ lines) =
    with_bytes-append fence (on_line line) (flat_map (further_line on_line (10 ∷ [])) lines)
    ∙ ap (λ f. with_bytes f (flat_map (further_line on_line (10 ∷ [])) lines)) (text_scan false fence line)
    ∙ further_scan (with_bytes fence line) lines
    ∙ sym (with_bytes-append fence line (flat_map (further_line (λ line. line) line_end) lines))

input_scan : (fence : Fence) (input : List ℕ) → with_bytes fence (input_code input) ≡ with_bytes fence input
input_scan fence input = lines_scan fence (lines_of_input input) ∙ ap (with_bytes fence) (lines_are_input input).0

pub line_length : (bytes : List ℕ) → (with_bytes shortest bytes).length ≡ fence_length (input_code bytes ++ 10 ∷ [])
line_length bytes = sym (sym (scanned (input_code bytes ++ 10 ∷ [])) ∙ line_scan shortest (input_code bytes) ∙ ap (λ f. f.length) (input_scan shortest bytes))

pub lines_length : (text : List ℕ) → (with_bytes shortest text).length ≡ fence_length (in_lines text)
lines_length text = go (ends_line text)
  where
    go : (t : Bool) → (with_bytes shortest text).length ≡ fence_length (if t then text else text ++ 10 ∷ [])
    go true = scanned text
    go false = sym (line_scan shortest text) ∙ scanned (text ++ 10 ∷ [])

pub text_length : (text : List ℕ) → (with_bytes shortest text).length ≡ fence_length (in_lines (on_lines text))
text_length text = ap (λ f. f.length) (sym (text_scan true shortest text)) ∙ lines_length (on_lines text)

-- One byte more of a text is read.
pub byte_more : (fence : Fence) (bytes : List ℕ) (i d : ℕ) → i < length bytes → with_bytes fence (take (i + 1) bytes) ≡ with_byte (with_bytes fence (take i bytes)) (get_or bytes i d)
byte_more fence bytes i d h = ap (with_bytes fence) (take_more bytes i d h) ∙ with_bytes-append fence (take i bytes) (get_or bytes i d ∷ [])

pub ruleset byte_steps = (byte_more)

-- A tag, and what comes after it.

pub tag_scan : (before opened named signed : Fence) (name given : List ℕ) (mark of : ℕ) → opened ≡ with_byte before 123 → given ≡ name → named ≡ with_bytes opened given → mark ≡ of → signed ≡ with_byte named mark
    → signed ≡ with_bytes before (123 ∷ (on_line name ++ of ∷ []))
tag_scan before opened named signed name given mark of first same second is last =
    last ∙ ap (with_byte named) is
    ∙ ap (λ f. with_byte f of) (second ∙ ap (with_bytes opened) same ∙ sym (text_scan false opened name) ∙ ap (λ f. with_bytes f (on_line name)) first)
    ∙ sym (with_bytes-append (with_byte before 123) (on_line name) (of ∷ []))

pub next_fence : (f : Item → List ℕ) (xs : List Item) (i : ℕ) (x : Item) (ys : List ℕ) (o e d : Fence) → i < length xs → x ≡ get_or xs i x → f x ≡ ys
    → e ≡ with_bytes o (flat_map f (take i xs)) → d ≡ with_bytes e ys → d ≡ with_bytes o (flat_map f (take (i + 1) xs))
next_fence f xs i x ys o e d h at is so now =
    let more : flat_map f (take (i + 1) xs) ≡ flat_map f (take i xs) ++ ys =
    ap (flat_map f) (take_more xs i x h ∙ ap (λ y. take i xs ++ y ∷ []) (sym at)) ∙ flat_map-append f (take i xs) (x ∷ []) ∙ ap (λ t. flat_map f (take i xs) ++ t) (append-nil (f x) ∙ is) in
    now ∙ ap (λ k. with_bytes k ys) so ∙ sym (with_bytes-append o (flat_map f (take i xs)) ys) ∙ ap (with_bytes o) (sym more)

framed_scan : (before : Fence) (channel : Bool) (name inside : List ℕ)
    → with_bytes before (framed channel name inside) ≡ with_byte (with_bytes (with_bytes before (123 ∷ (on_line name ++ sign channel ∷ []))) inside) 125
framed_scan before channel name inside =
    let opened = with_byte before 123 in
    with_bytes-append opened (on_line name) (sign channel ∷ (inside ++ 125 ∷ []))
    ∙ with_bytes-append (with_byte (with_bytes opened (on_line name)) (sign channel)) inside (125 ∷ [])
    ∙ ap (λ f. with_byte (with_bytes f inside) 125) (sym (with_bytes-append opened (on_line name) (sign channel ∷ [])))

pub framed_fence : (n : Node) (xs : List Item) (i : ℕ) (bare : Bool) (before opened middle last : Fence) → bare ≡ is_bare (out-Node n).tag.channel (out-Node n).tag.name → bare ≡ false → length xs ≤ i → xs ≡ (out-Node n).items.items
    → opened ≡ with_bytes before (123 ∷ (on_line (out-Node n).tag.name ++ sign (out-Node n).tag.channel ∷ [])) → middle ≡ with_bytes opened (flat_map (λ x. piece_block_text (piece_of x)) (take i xs)) → last ≡ with_byte middle 125
    → last ≡ with_bytes before (block_text (tree_of n))
framed_fence n xs i bare before opened middle last is shut h e p q r =
    let inside = flat_map (λ x. piece_block_text (piece_of x)) (out-Node n).items.items in
    let channel = (out-Node n).tag.channel in
    let name = (out-Node n).tag.name in
    let all : flat_map (λ x. piece_block_text (piece_of x)) (take i xs) ≡ inside = ap (flat_map (λ x. piece_block_text (piece_of x))) (take_all i xs h ∙ e) in
    r ∙ ap (λ f. with_byte f 125) (q ∙ ap (with_bytes opened) all ∙ ap (λ f. with_bytes f inside) p) ∙ sym (framed_scan before channel name inside)
    ∙ sym (ap (with_bytes before) (block_text_out n ∙ ap (λ s. cond s inside (framed channel name inside)) (sym is ∙ shut)))

pub bare_fence : (n : Node) (xs : List Item) (i : ℕ) (bare : Bool) (before last : Fence) → bare ≡ is_bare (out-Node n).tag.channel (out-Node n).tag.name → bare ≡ true → length xs ≤ i → xs ≡ (out-Node n).items.items
    → last ≡ with_bytes before (flat_map (λ x. piece_block_text (piece_of x)) (take i xs)) → last ≡ with_bytes before (block_text (tree_of n))
bare_fence n xs i bare before last is whole h e q =
    let inside = flat_map (λ x. piece_block_text (piece_of x)) (out-Node n).items.items in
    let channel = (out-Node n).tag.channel in
    let name = (out-Node n).tag.name in
    q ∙ ap (λ items. with_bytes before (flat_map (λ x. piece_block_text (piece_of x)) items)) (take_all i xs h ∙ e)
    ∙ sym (ap (with_bytes before) (block_text_out n ∙ ap (λ s. cond s inside (framed channel name inside)) (sym is ∙ whole)))
