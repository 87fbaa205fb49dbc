-- A cursor in the name of a tag.
use Rattle.std.proofs.Common.{◌≡◌, ℕ, ◌+◌, ◌-◌, ◌<◌, true, false, nat_eq, List, [], ◌∷◌, ◌++◌, length, drop, get_or, refl, sym, ap, ◌∙◌, arith, append_assoc, add-zero, length-append}
use Rattle.std.proofs.lemmas.List.{at_drop_more}
use Rattle.meta_format.specs.Spelling.{is_separator}
use Rattle.meta_format.specs.inside.Machine.{is_bad_tag}
use Rattle.meta_format.specs.inside.Flat.{NameUpTo, TagUpTo}
use Rattle.meta_format.proofs.Tags.{name_done, name_more, name_short, tag_some}
use Rattle.meta_format.proofs.Tails.{separator_at}

pub name_none : (most : ℕ) (s : List ℕ) (at : ℕ) → NameUpTo most s at at
name_none most s at = ([], refl, omega arith, refl, add-zero at)

-- the byte goes on with the name
pub named_more : (most : ℕ) (s : List ℕ) (at i : ℕ) (so : NameUpTo most s at i) → i < length s → is_bad_tag most so.0 (get_or s i 0) ≡ false → is_separator (get_or s i 0) ≡ false → NameUpTo most s at (i + 1)
named_more most s at i (name, each, few, split, size) some good apart =
    let c = get_or s i 0 in
    let longer = length-append name (c ∷ []) in (
      name ++ c ∷ [],
      name_more most name c good apart each,
      name_short most name c good apart few,
      split ∙ at_drop_more (λ r. name ++ r) s i 0 some ∙ sym (append_assoc name (c ∷ []) (drop (i + 1) s)),
      omega (arith, size, longer),
    )

-- the byte ends it
pub named_tag : (most : ℕ) (s : List ℕ) (at i : ℕ) (so : NameUpTo most s at i) → i < length s → is_bad_tag most so.0 (get_or s i 0) ≡ false → is_separator (get_or s i 0) ≡ true → TagUpTo most s at (i + 1)
named_tag most s at i (name, each, few, split, size) some good ends =
    let c = get_or s i 0 in
    let right = name_done most name c good ends each few in (
      name,
      nat_eq c 35,
      each,
      tag_some most name right,
      few,
      split ∙ at_drop_more (λ r. name ++ r) s i 0 some ∙ ap (λ b. name ++ b ∷ drop (i + 1) s) (separator_at (nat_eq c 35) c refl ends),
      omega (arith, size),
    )

pub name_size : (most : ℕ) (s : List ℕ) (at i : ℕ) (so : NameUpTo most s at i) → length so.0 ≡ i - at
name_size most s at i (name, each, few, split, size) = omega (arith, size)

pub ruleset name_rules = (name_none, named_more, named_tag, name_size)
