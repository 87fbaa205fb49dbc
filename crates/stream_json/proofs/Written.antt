-- What comes next in a stream is what is written.
use Rattle.std.proofs.KnownBytes.{Appends-trans}
use Rattle.std.proofs.Common.{ℕ, List, [], ◌∷◌, ◌++◌, Option, Some, Bool, true, false, length, map, refl, sym, ap, ◌≡◌, ◌∙◌, subst, arith, append_assoc, append-nil, length-append, inl, flat_map}
use Rattle.std.proofs.lemmas.Grind.{flat_map-append}
use Rattle.std.specs.Io.KnownBytes.{Appends}
use Rattle.meta_format.specs.Limits.{Limits}
use Rattle.meta_format.specs.Stream.{Outer, none}
use Rattle.meta_format.specs.Faults.{Kind, IsSound}
use Rattle.meta_format.specs.Reader.{Faults}
use Rattle.meta_format.specs.Ahead.{IsReadTo, ComesNext}
use Rattle.meta_format.specs.declared.ahead.Seen.TheVariants as seen
use Rattle.sheet_json.specs.Lines.{json_line}
use Rattle.sheet_json.specs.Sheets.{telling_line}
use Rattle.sheet_json.specs.Tellings as reported
use Rattle.stream_json.specs.StreamObjects.{end_data, kind_named, kind_number, later_objects, outer_data, unfinished_data}
use Rattle.stream_json.specs.Streams.{StreamEnd, StreamHas, broken, faulty, inside, is_whole, outside, unfinished, whole}

no_fault_at_all : (most : Limits) → IsSound most []
no_fault_at_all most at kind h =
    let size = ap length h.is ∙ length-append h.front (h.byte ∷ h.more) in
    absurd (omega arith)

-- before the first byte
pub nothing_read : (most : Limits) (s : List ℕ) → IsReadTo most s 0 []
nothing_read most s = record {
  within = omega arith;
  stream = record { before = []; noise = []; is = refl; chain = none; silent = refl; rest = inl refl };
  sound = no_fault_at_all most;
}

abbrev pub outers_text : List Outer → List ℕ
outers_text blocks = flat_map json_line (map outer_data blocks)

outers-more : (blocks : List Outer) (o : Outer) → outers_text (blocks ++ o ∷ []) ≡ outers_text blocks ++ json_line (outer_data o)
outers-more [] o = append-nil (json_line (outer_data o))
outers-more (b ∷ blocks) o = ap (λ t. json_line (outer_data b) ++ t) (outers-more blocks o) ∙ sym (append_assoc (json_line (outer_data b)) (outers_text blocks) (json_line (outer_data o)))

-- the object of one block more
pub object_more : (blocks : List Outer) (o : Outer) (a b c : Option (List ℕ)) → Appends a b (outers_text blocks) → Appends b c (json_line (outer_data o)) → Appends a c (outers_text (blocks ++ o ∷ []))
object_more blocks o a b c p q =
    subst (Appends a c) (sym (outers-more blocks o)) (Appends-trans a b c (outers_text blocks) (json_line (outer_data o)) p q)

-- the objects of a stream after the first one
abbrev pub Later : Limits → List ℕ → Option (List ℕ) → Option (List ℕ) → Bool → Type 0
Later most s a b is = (blocks : List Outer) × (end : StreamEnd) × StreamHas most s blocks end × Appends a b (flat_map json_line (later_objects blocks end)) × (is ≡ is_whole end)

with_end : (most : Limits) (s : List ℕ) (blocks : List Outer) (end : StreamEnd) (a b c : Option (List ℕ)) → StreamHas most s blocks end → Appends a b (outers_text blocks) → Appends b c (flat_map json_line (end_data end))
    → Later most s a c (is_whole end)
with_end most s blocks end a b c has p q =
    (blocks, end, has, subst (Appends a c) (sym (flat_map-append json_line (map outer_data blocks) (end_data end))) (Appends-trans a b c (outers_text blocks) (flat_map json_line (end_data end)) p q), refl)

alone : (a b : Option (List ℕ)) (line : List ℕ) → Appends a b line → Appends a b (line ++ [])
alone a b line p = subst (Appends a b) (sym (append-nil line)) p

pub end_written : (most : Limits) (s : List ℕ) (blocks : List Outer) (a b c : Option (List ℕ)) → ComesNext most s blocks seen.End → Appends a b (outers_text blocks) → Appends b c (telling_line reported.end) → Later most s a c true
end_written most s blocks a b c next p q = with_end most s blocks outside a b c (whole next.1 next.0) p (alone b c (telling_line reported.end) q)

pub open_written : (most : Limits) (s : List ℕ) (blocks : List Outer) (start : ℕ) (a b c : Option (List ℕ)) → ComesNext most s blocks (seen.Open start) → Appends a b (outers_text blocks)
    → Appends b c (json_line (unfinished_data start) ++ telling_line reported.end) → Later most s a c false
open_written most s blocks start a b c (tail, stream, sound, (some, size)) p q =
    with_end most s blocks (inside start) a b c (unfinished tail start sound stream some size) p (subst (Appends b c) (ap (λ t. json_line (unfinished_data start) ++ t) (sym (append-nil (telling_line reported.end)))) q)

pub fault_written : (most : Limits) (s : List ℕ) (at : ℕ) (kind : Kind) (blocks : List Outer) (a b c : Option (List ℕ)) → Faults most s at kind blocks → Appends a b (outers_text blocks)
    → Appends b c (telling_line (reported.fault (kind_number kind) (kind_named kind) (Some at))) → Later most s a c false
fault_written most s at kind blocks a b c h p q =
    with_end most s blocks (broken kind at) a b c (faulty kind at h.front h.rest h.tail h.first h.is h.at_is h.stream) p (alone b c (telling_line (reported.fault (kind_number kind) (kind_named kind) (Some at))) q)
