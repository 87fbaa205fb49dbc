-- Blocks and open levels, and the rows of their marks.
use Rattle.std.proofs.Common.{◌≡◌, ℕ, zero, suc, ◌+◌, ◌-◌, ◌<◌, ◌≤◌, Bool, true, not, ◌&&◌, nat_le, List, [], ◌∷◌, ◌++◌, length, map, refl, sym, ap, ◌∙◌, subst, arith, append_assoc, append-nil}
use Rattle.std.proofs.lemmas.Bool.{and_parts, and_from, le-leb, leb-true}
use Rattle.block_tree.specs.Tree.{Items, Tree, end, text, block}
use Rattle.block_tree.specs.inside.Growing.{text_after, block_after}
use Rattle.block_tree.specs.Shape.{is_proper, is_tag_name, begins_with_text, is_block_within, levels, depth}
use Rattle.block_tree.specs.inside.Marks.{Mark, open_mark, letter, close_mark, marks_of, marks}
use Rattle.meta_format.specs.Limits.{Limits}
use Rattle.meta_format.specs.Spelling as spelling
use Rattle.meta_format.specs.Spelling.{SpellsText, SpellsItems, no_item, text_first, block_first, with_body, separator, Spells}
use Rattle.meta_format.specs.Faults.{OpenLevels, no_level, one_more}
use Rattle.meta_format.specs.inside.Rows.{SpellsMarks, nothing, plain, escaped, both, opened, closed, Leads, Begins, IsOpen}
use Rattle.meta_format.proofs.Spelled.{Spells-append}
use Rattle.meta_format.proofs.Leading.{Leads-append, Begins-append, open_more, IsOpen-from_Begins}
use Rattle.meta_format.proofs.Grown.{spelled_text, spelled_block, proper_text, levels_text, proper_block, levels_block}

-- what a tree within limits has
record Within (tag deep : ℕ) (b : Tree) : Type 0 where
  pub name : is_tag_name tag b.name ≡ true
  pub proper : is_proper tag b.items ≡ true
  pub few : depth b ≤ deep

within : (tag deep : ℕ) (b : Tree) → is_block_within tag deep b ≡ true → Within tag deep b
within tag deep b h =
    let p = and_parts (is_tag_name tag b.name && is_proper tag b.items) (nat_le (depth b) deep) h in
    let q = and_parts (is_tag_name tag b.name) (is_proper tag b.items) p.0 in
    record { name = q.0; proper = q.1; few = leb-true (depth b) deep p.1 }

from_within : (tag deep : ℕ) (b : Tree) → is_tag_name tag b.name ≡ true → is_proper tag b.items ≡ true → depth b ≤ deep → is_block_within tag deep b ≡ true
from_within tag deep b h k m = and_from (is_tag_name tag b.name && is_proper tag b.items) (nat_le (depth b) deep) (and_from (is_tag_name tag b.name) (is_proper tag b.items) h k) (le-leb (depth b) deep m)

-- from trees to marks

text_marks : {tag : ℕ} {t s : List ℕ} → SpellsText t s → SpellsMarks tag (map letter t) s
text_marks spelling.nothing = nothing
text_marks (spelling.plain h p) = plain h (text_marks p)
text_marks (spelling.escaped h p) = escaped h (text_marks p)
text_marks (spelling.both h p) = both h (text_marks p)

body_more : (channel : Bool) (name u v : List ℕ) → with_body channel name u ++ v ≡ 2 ∷ (name ++ separator channel ∷ (u ++ 5 ∷ v))
body_more channel name u v =
    ap (λ z. 2 ∷ z) (append_assoc name (separator channel ∷ (u ++ 5 ∷ [])) v ∙ ap (λ z. name ++ separator channel ∷ z) (append_assoc u (5 ∷ []) v))

items_marks : {tag : ℕ} {x : Items} {s : List ℕ} → is_proper tag x ≡ true → SpellsItems x s → SpellsMarks tag (marks_of x) s
items_marks h no_item = nothing
items_marks {tag} h (text_first {t} {rest} u v p r) =
    let k = and_parts (nat_le 1 (length t) && not (begins_with_text rest)) (is_proper tag rest) h in
    Spells-append (text_marks p) (items_marks k.1 r)
items_marks {tag} h (block_first {channel} {name} {inside} {rest} u v p r) =
    let k = and_parts (is_tag_name tag name && is_proper tag inside) (is_proper tag rest) h in
    let m = and_parts (is_tag_name tag name) (is_proper tag inside) k.0 in
    subst (λ z. SpellsMarks tag (marks_of (block channel name inside rest)) z) (sym (body_more channel name u v))
    (opened {channel = channel} {name = name} m.0 (Spells-append (items_marks m.1 p) (closed (items_marks k.1 r))))

letters_lead : (most d : ℕ) (t : List ℕ) → Leads most (suc d) (map letter t) (suc d)
letters_lead most d [] = refl
letters_lead most d (c ∷ t) = letters_lead most d t

items_lead : (most : ℕ) (x : Items) (d : ℕ) → levels x + suc d ≤ most → Leads most (suc d) (marks_of x) (suc d)
items_lead most end d h = refl
items_lead most (text t rest) d h = Leads-append most (suc d) (suc d) (suc d) (map letter t) (marks_of rest) (letters_lead most d t) (items_lead most rest d h)
items_lead most (block c n i rest) d h =
    (omega arith, Leads-append most (suc (suc d)) (suc (suc d)) (suc d) (marks_of i) (close_mark ∷ marks_of rest) (items_lead most i (suc d) (omega arith)) (items_lead most rest d (omega arith)))

pub spelled_marks : (most : Limits) (b : Tree) (s : List ℕ) → Spells most b s → SpellsMarks most.tag (marks b) s
spelled_marks most b s p =
    let w = within most.tag most.levels b p.within in
    subst (λ z. SpellsMarks most.tag (marks b) z) (sym p.is) (opened {channel = b.channel} {name = b.name} w.name (Spells-append (items_marks w.proper p.inside) (closed nothing)))

pub whole_marks : (most : Limits) (b : Tree) (s : List ℕ) → Spells most b s → Begins most.levels (marks b) 0
whole_marks most b s p =
    let w = within most.tag most.levels b p.within in
    let few = w.few in
    (omega arith, Leads-append most.levels 1 1 0 (marks_of b.items) (close_mark ∷ []) (items_lead most.levels b.items 0 (omega arith)) refl)

-- open levels as a row
pub record RowOf (most : Limits) (n : ℕ) (s : List ℕ) : Type 0 where
  pub row : List Mark
  pub open_row : IsOpen most.levels row n
  pub spelled : SpellsMarks most.tag row s

pub levels_row : (most : Limits) {n : ℕ} {s : List ℕ} → OpenLevels most n s → RowOf most n s
levels_row most no_level = record { row = []; open_row = refl; spelled = nothing }
levels_row most (one_more {n} b outer body o h p) =
    let r = levels_row most o in
    let w = within most.tag (most.levels - n) b h in
    let few = w.few in
    let opens = open_more most.levels n b.channel b.name r.row r.open_row (omega arith) in
    let grown = Begins-append most.levels (suc n) (suc n) (r.row ++ open_mark b.channel b.name ∷ []) (marks_of b.items) opens (items_lead most.levels b.items n (omega arith)) in
    record {
      row = (r.row ++ open_mark b.channel b.name ∷ []) ++ marks_of b.items;
      open_row = IsOpen-from_Begins most.levels n ((r.row ++ open_mark b.channel b.name ∷ []) ++ marks_of b.items) grown;
      spelled = subst (λ ms. SpellsMarks most.tag ms (outer ++ 2 ∷ (b.name ++ separator b.channel ∷ body))) (sym (append_assoc r.row (open_mark b.channel b.name ∷ []) (marks_of b.items)))
          (Spells-append r.spelled (opened {channel = b.channel} {name = b.name} w.name (items_marks w.proper p)));
    }

-- from marks to trees

level_more : (outer name body more : List ℕ) (k : ℕ) → outer ++ 2 ∷ (name ++ k ∷ (body ++ more)) ≡ (outer ++ 2 ∷ (name ++ k ∷ body)) ++ more
level_more outer name body more k =
    ap (λ z. outer ++ 2 ∷ z) (sym (append_assoc name (k ∷ body) more)) ∙ sym (append_assoc outer (2 ∷ (name ++ k ∷ body)) more)

open_text : (most : Limits) {n : ℕ} {s t u : List ℕ} → OpenLevels most (suc n) s → SpellsText t u → 1 ≤ length t → OpenLevels most (suc n) (s ++ u)
open_text most {n} {t} {u} (one_more b outer body o h p) q some =
    let w = within most.tag (most.levels - n) b h in
    let few = w.few in
    let same = levels_text b.items t in
    let c : Tree = record { channel = b.channel; name = b.name; items = text_after b.items t } in
    subst (λ z. OpenLevels most (suc n) z) (level_more outer b.name body u (separator b.channel))
    (one_more c outer (body ++ u) o (from_within most.tag (most.levels - n) c w.name (proper_text most.tag b.items t w.proper some) (omega arith)) (spelled_text p q))

open_tag : (most : Limits) {n : ℕ} {s : List ℕ} → OpenLevels most n s → (channel : Bool) (name : List ℕ) → n < most.levels → is_tag_name most.tag name ≡ true
    → OpenLevels most (suc n) (s ++ 2 ∷ (name ++ separator channel ∷ []))
open_tag most {n} {s} o channel name h k =
    let c : Tree = record { channel = channel; name = name; items = end } in
    one_more c s [] o (from_within most.tag (most.levels - n) c k refl (omega arith)) no_item

open_close : (most : Limits) {n : ℕ} {s : List ℕ} → OpenLevels most (suc (suc n)) s → OpenLevels most (suc n) (s ++ 5 ∷ [])
open_close most {n} (one_more a _ inner (one_more b outer body o h p) k q) =
    let w = within most.tag (most.levels - n) b h in
    let v = within most.tag (most.levels - suc n) a k in
    let few = w.few in
    let fewer = v.few in
    let same = levels_block b.items a in
    let c : Tree = record { channel = b.channel; name = b.name; items = block_after b.items a } in
    let made = one_more c outer (body ++ with_body a.channel a.name inner) o
    (from_within most.tag (most.levels - n) c w.name (proper_block most.tag b.items a w.proper v.name v.proper) (omega arith)) (spelled_block p a inner q) in
    subst (λ z. OpenLevels most (suc n) z)
    (level_more outer b.name body (with_body a.channel a.name inner) (separator b.channel)
    ∙ ap (λ z. (outer ++ 2 ∷ (b.name ++ separator b.channel ∷ body)) ++ 2 ∷ z) (sym (append_assoc a.name (separator a.channel ∷ inner) (5 ∷ [])))
    ∙ sym (append_assoc (outer ++ 2 ∷ (b.name ++ separator b.channel ∷ body)) (2 ∷ (a.name ++ separator a.channel ∷ inner)) (5 ∷ [])))
    made

open_whole : (most : Limits) {s : List ℕ} → OpenLevels most 1 s → (b : Tree) × Spells most b (s ++ 5 ∷ [])
open_whole most (one_more b _ body no_level h p) =
    let all : most.levels - 0 ≡ most.levels = omega arith in
    (b, record { within = subst (λ k. is_block_within most.tag k b ≡ true) all h; body = body; inside = p; is = ap (λ z. 2 ∷ z) (append_assoc b.name (separator b.channel ∷ body) (5 ∷ [])) })

-- what marks that lead to so many levels are: a block where it is none
abbrev pub Ended : Limits → ℕ → List ℕ → Type 0
Ended most zero s = (b : Tree) × Spells most b s
Ended most (suc e) s = OpenLevels most (suc e) s

follow : (most : Limits) {ms : List Mark} {s : List ℕ} → SpellsMarks most.tag ms s → (pre : List ℕ) (d e : ℕ) → OpenLevels most (suc d) pre → Leads most.levels (suc d) ms e → Ended most e (pre ++ s)
follow most nothing pre d e o l = subst (λ k. Ended most k (pre ++ [])) l (subst (λ z. OpenLevels most (suc d) z) (sym (append-nil pre)) o)
follow most (plain {c} {ms} {s} h p) pre d e o l =
    subst (λ z. Ended most e z) (append_assoc pre (c ∷ []) s) (follow most p (pre ++ c ∷ []) d e (open_text most o (spelling.plain h spelling.nothing) (omega arith)) l)
follow most (escaped {c} {ms} {s} h p) pre d e o l =
    subst (λ z. Ended most e z) (append_assoc pre (27 ∷ c ∷ []) s) (follow most p (pre ++ 27 ∷ c ∷ []) d e (open_text most o (spelling.escaped h spelling.nothing) (omega arith)) l)
follow most (both {c} {ms} {s} h p) pre d e o l =
    subst (λ z. Ended most e z) (append_assoc pre (27 ∷ c ∷ []) s) (follow most p (pre ++ 27 ∷ c ∷ []) d e (open_text most o (spelling.both h spelling.nothing) (omega arith)) l)
follow most (opened {channel} {name} {ms} {s} h p) pre d e o l =
    subst (λ z. Ended most e z) (append_assoc pre (2 ∷ (name ++ separator channel ∷ [])) s ∙ ap (λ z. pre ++ 2 ∷ z) (append_assoc name (separator channel ∷ []) s))
    (follow most p (pre ++ 2 ∷ (name ++ separator channel ∷ [])) (suc d) e (open_tag most o channel name l.0 h) l.1)
follow most (closed {ms} {s} p) pre (suc d) e o l =
    subst (λ z. Ended most e z) (append_assoc pre (5 ∷ []) s) (follow most p (pre ++ 5 ∷ []) d e (open_close most o) l)
follow most (closed nothing) pre zero e o l = subst (λ k. Ended most k (pre ++ 5 ∷ [])) l (open_whole most o)
follow most (closed (plain h p)) pre zero e o l = absurd l
follow most (closed (escaped h p)) pre zero e o l = absurd l
follow most (closed (both h p)) pre zero e o l = absurd l
follow most (closed (opened h p)) pre zero e o l = absurd l
follow most (closed (closed p)) pre zero e o l = absurd l

pub begun_ended : (most : Limits) {ms : List Mark} {s : List ℕ} → SpellsMarks most.tag ms s → (e : ℕ) → Begins most.levels ms e → Ended most e s
begun_ended most nothing e o = absurd o
begun_ended most (plain h p) e o = absurd o
begun_ended most (escaped h p) e o = absurd o
begun_ended most (both h p) e o = absurd o
begun_ended most (closed p) e o = absurd o
begun_ended most (opened {channel} {name} {ms} {s} h p) e o =
    subst (λ z. Ended most e z) (ap (λ z. 2 ∷ z) (append_assoc name (separator channel ∷ []) s))
    (follow most p (2 ∷ (name ++ separator channel ∷ [])) 0 e (open_tag most no_level channel name o.0 h) o.1)

no_bytes : {tag : ℕ} {s : List ℕ} → SpellsMarks tag [] s → s ≡ []
no_bytes nothing = refl

pub row_levels : (most : Limits) (ms : List Mark) (s : List ℕ) (n : ℕ) → SpellsMarks most.tag ms s → IsOpen most.levels ms n → OpenLevels most n s
row_levels most [] s n p o = subst (λ k. OpenLevels most k s) (sym o) (subst (λ z. OpenLevels most 0 z) (sym (no_bytes p)) no_level)
row_levels most (m ∷ ms) s zero p o = absurd (omega (arith, o.0))
row_levels most (m ∷ ms) s (suc n) p o = begun_ended most p (suc n) o.1
