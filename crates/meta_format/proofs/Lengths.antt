-- How long canonical spellings are.
use Rattle.std.proofs.Common.{◌≡◌, ℕ, suc, max, ◌+◌, ◌*◌, ◌≤◌, Bool, true, false, cond, List, [], ◌∷◌, ◌++◌, length, refl, sym, ap, ◌∙◌, subst, append_assoc, arith, length-append}
use Rattle.std.specs.List.{flat_map}
use Rattle.std.proofs.lemmas.Grind.{flat_map-append}
use Rattle.block_tree.specs.Tree.{Items, Tree, end, text, block}
use Rattle.block_tree.specs.Output.{is_aside, join, output_items, output}
use Rattle.block_tree.specs.inside.Words.{no_output}
use Rattle.meta_format.specs.Limits.{Limits}
use Rattle.meta_format.specs.Spelling.{is_special, SpellsText, nothing, plain, escaped, both, SpellsItems, no_item, text_first, block_first, Spells, separator, with_body}
use Rattle.meta_format.specs.Canonical.{escape, canonical_items, canonical}

-- A spelling grows to at most one and a half times its length.

escape_plain : (c : ℕ) → is_special c ≡ false → escape c ≡ c ∷ []
escape_plain c e = ap (λ b. cond b (27 ∷ c ∷ []) (c ∷ [])) e

escape_special : (c : ℕ) → is_special c ≡ true → escape c ≡ 27 ∷ c ∷ []
escape_special c e = ap (λ b. cond b (27 ∷ c ∷ []) (c ∷ [])) e

grown_text : {t s : List ℕ} → SpellsText t s → 2 * length (flat_map escape t) ≤ 3 * length s
grown_text nothing = omega arith
grown_text (plain {c} {t} {s} e h) =
    subst (λ n. 2 * n ≤ 3 * suc (length s)) (sym (ap (λ u. length (u ++ flat_map escape t)) (escape_plain c e))) (omega (arith, grown_text h))
grown_text (escaped {c} {t} {s} e h) =
    subst (λ n. 2 * n ≤ 3 * suc (suc (length s))) (sym (ap (λ u. length (u ++ flat_map escape t)) (escape_special c e))) (omega (arith, grown_text h))
grown_text (both {c} {t} {s} e h) =
    subst (λ n. 2 * n ≤ 3 * suc (suc (length s))) (sym (ap (λ u. length (27 ∷ 27 ∷ (u ++ flat_map escape t))) (escape_plain c e))) (omega (arith, grown_text h))

body_length : (channel : Bool) (name body : List ℕ) → length (with_body channel name body) ≡ length name + length body + 3
body_length channel name body = omega (arith, length-append name (separator channel ∷ (body ++ 5 ∷ [])), length-append body (5 ∷ []))

grown_items : {x : Items} {s : List ℕ} → SpellsItems x s → 2 * length (canonical_items x) ≤ 3 * length s
grown_items no_item = omega arith
grown_items (text_first {t} {rest} u v h k) = omega (arith, length-append (flat_map escape t) (canonical_items rest), length-append u v, grown_text h, grown_items k)
grown_items (block_first {channel} {name} {inside} {rest} u v h k) =
    omega (arith, length-append (with_body channel name (canonical_items inside)) (canonical_items rest), length-append (with_body channel name u) v, body_length channel name (canonical_items inside), body_length channel name u, grown_items h, grown_items k)

pub grown : (most : Limits) (b : Tree) (s : List ℕ) → Spells most b s → 2 * length (canonical b) ≤ 3 * length s
grown most b s h =
    let whole : length s ≡ length (with_body b.channel b.name h.body) = ap length h.is in
    omega (arith, whole, body_length b.channel b.name (canonical_items b.items), body_length b.channel b.name h.body, grown_items h.inside)

-- An output is no longer than its block.

joined : (t : List ℕ) (x : Items) → canonical_items (join t x) ≡ flat_map escape t ++ canonical_items x
joined t end = refl
joined t (text u rest) = ap (λ v. v ++ canonical_items rest) (flat_map-append escape t u) ∙ append_assoc (flat_map escape t) (flat_map escape u) (canonical_items rest)
joined t (block channel name inside rest) = refl

no_longer : (x : Items) → length (canonical_items (output_items x)) ≤ length (canonical_items x)
no_longer end = omega arith
no_longer (text t rest) =
    subst (λ (u : List ℕ). length u ≤ length (flat_map escape t ++ canonical_items rest)) (sym (joined t (output_items rest)))
    (omega (arith, length-append (flat_map escape t) (canonical_items (output_items rest)), length-append (flat_map escape t) (canonical_items rest), no_longer rest))
no_longer (block channel name inside rest) = go (is_aside channel name) (no_longer inside) (no_longer rest)
  where
    all : length (with_body channel name (canonical_items inside) ++ canonical_items rest) ≡ length name + length (canonical_items inside) + 3 + length (canonical_items rest)
    all = omega (arith, length-append (with_body channel name (canonical_items inside)) (canonical_items rest), body_length channel name (canonical_items inside))

    go : (aside : Bool) → length (canonical_items (output_items inside)) ≤ length (canonical_items inside) → length (canonical_items (output_items rest)) ≤ length (canonical_items rest)
        → length (canonical_items (cond aside (output_items rest) (block channel name (output_items inside) (output_items rest)))) ≤ length (with_body channel name (canonical_items inside) ++ canonical_items rest)
    go true in_it after_it = omega (arith, all, after_it)
    go false in_it after_it = omega (arith, all, length-append (with_body channel name (canonical_items (output_items inside))) (canonical_items (output_items rest)), body_length channel name (canonical_items (output_items inside)), in_it, after_it)

pub output_length : (b : Tree) → length (canonical (output b)) ≤ max 11 (length (canonical b))
output_length b = go (is_aside b.channel b.name)
  where
    go : (aside : Bool) → length (canonical (cond aside no_output (record { channel = b.channel; name = b.name; items = output_items b.items }))) ≤ max 11 (length (canonical b))
    go true = omega arith
    go false = omega (arith, body_length b.channel b.name (canonical_items (output_items b.items)), body_length b.channel b.name (canonical_items b.items), no_longer b.items)
