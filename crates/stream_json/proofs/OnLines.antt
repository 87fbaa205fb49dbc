-- The objects of a stream are plain, each is one line, and those of outer blocks read back.
use Rattle.std.proofs.Common.{◌≡◌, ℕ, suc, max, ◌≤◌, ◌<◌, ◌^◌, ◌||◌, ◌++◌, ◌∷◌, Bool, true, false, List, [], Option, Some, None, codes, map, arith, refl, ap, ap₂}
use Rattle.std.specs.List.{AllByRecursion}
use Rattle.block_tree.specs.Output.{output, text_on_channel}
use Rattle.block_tree.specs.Shape.{is_block}
use Rattle.block_tree.specs.Tree.{Tree}
use Rattle.block_tree.proofs.Outputs.{output_is_block}
use Rattle.meta_format.specs.Faults.{bad_tag, too_deep, too_long}
use Rattle.meta_format.specs.Stream.{Outer}
use Rattle.serde_json.specs.Data.{Data, Members, string, object, member, no_members}
use Rattle.serde_json.specs.Written.{compact_text, has_float}
use Rattle.sheet_json.specs.Blocks.{tree_data}
use Rattle.sheet_json.specs.Bytes.{bytes_data}
use Rattle.sheet_json.specs.Lines.{IsOneLine, json_line}
use Rattle.sheet_json.specs.Objects.{count, shown_data, text_or_null}
use Rattle.sheet_json.specs.Plain.{HasPlain, Is64, IsPlain}
use Rattle.sheet_json.specs.Tellings as reported
use Rattle.sheet_json.specs.Reported.{of}
use Rattle.sheet_json.proofs.Back.{blocks_read_back}
use Rattle.sheet_json.proofs.NoFloats.{none_reported}
use Rattle.sheet_json.proofs.PlainValues.{tellings_are_plain}
use Rattle.sheet_json.proofs.Within.{text_within}
use Rattle.stream_json.specs.Laws.{IsSoundEnd, IsSoundOuter, OutersReadBack, StreamsAreLines}
use Rattle.stream_json.specs.StreamObjects.{end_data, outer_data, unfinished_data}
use Rattle.stream_json.specs.Streams.{StreamEnd, broken, inside, outside}

first_false : (x y : Bool) → (x || y) ≡ false → x ≡ false
first_false false y e = refl
first_false true y e = e

-- bytes and trees have no float, since the events that have them have none
bytes_none : (bytes : List ℕ) → has_float (bytes_data bytes) ≡ false
bytes_none bytes = first_false (has_float (bytes_data bytes)) _ (none_reported (reported.event bytes 0 (reported.input [])))

tree_none : (b : Tree) → has_float (tree_data b) ≡ false
tree_none b = first_false (has_float (tree_data b)) _ (none_reported (reported.event [] 0 (reported.banner b None)))

channel_none : (text : Option (List ℕ)) → has_float (text_or_null text) ≡ false
channel_none None = refl
channel_none (Some text) = bytes_none text

none_of_five : (a b c d e : Bool) → a ≡ false → b ≡ false → c ≡ false → d ≡ false → e ≡ false → (a || (b || (c || (d || (e || false))))) ≡ false
none_of_five a b c d e p q r s t = ap₂ (λ x y. x || y) p (ap₂ (λ x y. x || y) q (ap₂ (λ x y. x || y) r (ap₂ (λ x y. x || y) s (ap₂ (λ x y. x || y) t refl))))

pub outer_none : (o : Outer) → has_float (outer_data o) ≡ false
outer_none o =
    none_of_five (has_float (tree_data o.block)) (has_float (text_or_null (text_on_channel (codes "input") o.block))) (has_float (tree_data (output o.block)))
    (has_float (text_or_null (text_on_channel (codes "prompt") o.block))) (has_float (shown_data (output o.block))) (tree_none o.block) (channel_none _) (tree_none (output o.block)) (channel_none _) (bytes_none _)

-- the same of their depth and their numbers
second_within : (a b c n : ℕ) → suc (max a (max b c)) ≤ suc n → b ≤ n
second_within a b c n h = omega (arith, h)

third_within : (a b c d n : ℕ) → suc (max a (max b (max c d))) ≤ suc n → c ≤ n
third_within a b c d n h = omega (arith, h)

max_within : (a b n : ℕ) → a ≤ n → b ≤ n → max a b ≤ n
max_within a b n p q = omega (arith, p, q)

none_fits : 0 < 2 ^ 64
none_fits = omega arith

plain_bytes : (bytes : List ℕ) → IsPlain 66 (bytes_data bytes)
plain_bytes bytes =
    let p = tellings_are_plain (reported.event bytes 0 (reported.input [])) (none_fits, tt) in
    record { floats = bytes_none bytes; nests = second_within _ _ _ 66 p.nests; counts = p.counts.1.0 }

plain_tree : (b : Tree) → is_block b ≡ true → IsPlain 66 (tree_data b)
plain_tree b is =
    let p = tellings_are_plain (reported.event [] 0 (reported.banner b None)) (none_fits, is) in
    record { floats = tree_none b; nests = third_within _ _ _ _ 66 p.nests; counts = p.counts.1.1.0 }

plain_text : {s : List ℕ} → IsPlain 66 (string s)
plain_text = record { floats = refl; nests = omega arith; counts = tt }

plain_count : {n : ℕ} → Is64 n → IsPlain 66 (count n)
plain_count h = record { floats = refl; nests = omega arith; counts = h }

plain_channel : (text : Option (List ℕ)) → IsPlain 66 (text_or_null text)
plain_channel None = record { floats = refl; nests = omega arith; counts = tt }
plain_channel (Some text) = plain_bytes text

no_more : HasPlain 66 no_members
no_more = record { floats = refl; nest = omega arith; counts = tt }

a_member : {k : List ℕ} {d : Data} {ms : Members} → IsPlain 66 d → HasPlain 66 ms → HasPlain 66 (member k d ms)
a_member p q = record { floats = ap₂ (λ a b. a || b) p.floats q.floats; nest = max_within _ _ _ p.nests q.nest; counts = (p.counts, q.counts) }

an_object : {ms : Members} → HasPlain 66 ms → IsPlain 67 (object ms)
an_object p = record { floats = p.floats; nests = omega (arith, p.nest); counts = p.counts }

plain_outer : (o : Outer) → IsSoundOuter o → IsPlain 67 (outer_data o)
plain_outer o s =
    an_object (a_member (plain_tree o.block s.2) (a_member (plain_channel _) (a_member (plain_tree (output o.block) (output_is_block o.block s.2)) (a_member (plain_channel _) (a_member (plain_bytes _)
    (a_member (plain_count s.0) (a_member (plain_count s.1) (a_member plain_text no_more))))))))

abbrev OnLine : Data → Type 0
OnLine d = IsPlain 67 d × IsOneLine (json_line d)

on_line : (d : Data) → IsPlain 67 d → OnLine d
on_line d p = (p, (compact_text d, refl, text_within d p.counts))

ends_on_lines : (end : StreamEnd) → IsSoundEnd end → AllByRecursion OnLine (end_data end)
ends_on_lines outside s = (on_line _ (tellings_are_plain reported.end tt), tt)
ends_on_lines (inside start) s = (on_line (unfinished_data start) (an_object (a_member (plain_count s) (a_member plain_text no_more))), (on_line _ (tellings_are_plain reported.end tt), tt))
ends_on_lines (broken bad_tag at) s = (on_line _ (tellings_are_plain (reported.fault 1 (codes "BadTag") (Some at)) (omega arith, s)), tt)
ends_on_lines (broken too_deep at) s = (on_line _ (tellings_are_plain (reported.fault 2 (codes "TooDeep") (Some at)) (omega arith, s)), tt)
ends_on_lines (broken too_long at) s = (on_line _ (tellings_are_plain (reported.fault 3 (codes "TooLong") (Some at)) (omega arith, s)), tt)

outers_on_lines : (blocks : List Outer) (more : List Data) → AllByRecursion IsSoundOuter blocks → AllByRecursion OnLine more → AllByRecursion OnLine (map outer_data blocks ++ more)
outers_on_lines [] more s lines = lines
outers_on_lines (o ∷ blocks) more s lines = (on_line (outer_data o) (plain_outer o s.0), outers_on_lines blocks more s.1 lines)

pub streams_are_lines : StreamsAreLines
streams_are_lines blocks end s e = (on_line _ (tellings_are_plain reported.hello tt), outers_on_lines blocks (end_data end) s (ends_on_lines end e))

pub outers_read_back : OutersReadBack
outers_read_back o good = ap (of (Some (λ (b : Tree). let it : Outer = record { start = o.start; stop = o.stop; block = b } in it))) (blocks_read_back o.block good)
