-- A write that left part of its bytes is a torn write.
use Rattle.std.proofs.Common.{◌≡◌, ℕ, ◌+◌, ◌-◌, ◌≤◌, max, Bool, true, false, List, [], ◌++◌, length, take, drop, refl, sym, ◌∙◌, ap, arith, length-append}
use Rattle.std.specs.Prelude.{nat_le, replicate}
use Rattle.std.proofs.lemmas.List.{append-nil, drop-drop, drop_all, length-replicate, length-take, take-append-le, take-take, take_all, drop-take}
use Rattle.std.proofs.lemmas.Bool.Decides.{nat_tests}
use Rattle.disk_model.specs.Disk.{Torn, Written}
use Rattle.disk_model.specs.Crash.{left_by, laid}
use Rattle.disk_model.specs.inside.Replay.{torn_by_write}
use Rattle.disk_model.specs.inside.Moments.{length-overwritten}
use Rattle.disk_model.specs.declared.crash.Fill.{Fill}
use Rattle.disk_model.specs.declared.crash.Fill.TheVariants as fills

left_fits : (fill : Fill) (bytes : List ℕ) → length (left_by fill bytes) ≤ length bytes
left_fits fills.Old bytes = omega arith
left_fits fills.New bytes = omega arith
left_fits (fills.Torn n) bytes = omega (arith, length-take n bytes)
left_fits (fills.Byte b) bytes = omega (arith, length-replicate (length bytes) b)

module _ (fill : Fill) (w : Written) (old : List ℕ) (inside : w.at ≤ length old) where
  abbrev end : ℕ
  end = w.at + length w.bytes

  abbrev zeros : List ℕ
  zeros = replicate (end - length old) 0

  abbrev padded : List ℕ
  padded = old ++ zeros

  abbrev left : List ℕ
  left = left_by fill w.bytes

  length-padded : length padded ≡ max (length old) end
  length-padded = omega (arith, length-append old zeros, length-replicate {A = ℕ} (end - length old) 0)

  pub length-laid : length (laid fill w old) ≡ max (length old) end
  length-laid = length-overwritten padded w.at left (omega (arith, inside, length-padded)) ∙ omega (arith, length-padded, left_fits fill w.bytes)

  past_end : drop end padded ≡ drop end old
  past_end = go (nat_le end (length old)) refl
    where
      go : (b : Bool) → nat_le end (length old) ≡ b → drop end padded ≡ drop end old
      go true is =
          let within : end ≤ length old = grind (arith, nat_tests, is) in
          let no : end - length old ≡ 0 = omega (arith, within) in
          let none : zeros ≡ [] = ap (λ (n : ℕ). replicate {A = ℕ} n 0) no in
          ap (λ (l : List ℕ). drop end (old ++ l)) none ∙ ap (λ (l : List ℕ). drop end l) (append-nil old)
      go false is =
          let past : length old ≤ end = grind (arith, nat_tests, is) in
          drop_all end padded (omega (arith, past, length-padded)) ∙ sym (drop_all end old past)

  following : drop end (laid fill w old) ≡ drop end padded
  following =
      let fits = left_fits fill w.bytes in
      let torn = torn_by_write padded w.at left (omega (arith, inside, length-padded)) in
      let on : w.at + length left + (length w.bytes - length left) ≡ end = omega (arith, fits) in
      let more = length w.bytes - length left in
      sym (ap (λ (n : ℕ). drop n (laid fill w old)) on) ∙ sym (drop-drop more (w.at + length left) (laid fill w old)) ∙ ap (λ (l : List ℕ). drop more l) torn.after
      ∙ drop-drop more (w.at + length left) padded ∙ ap (λ (n : ℕ). drop n padded) on

  pub torn_by_fill : Torn w.at (length w.bytes) old (laid fill w old)
  torn_by_fill = record {
    before = (torn_by_write padded w.at left (omega (arith, inside, length-padded))).before ∙ take-append-le w.at old zeros inside;
    after = following ∙ past_end;
    no_shorter = omega (arith, length-laid);
    no_longer = omega (arith, length-laid);
  }

take_cut : (at len : ℕ) (old new : List ℕ) → take at new ≡ take at old → len ≤ length old → length old ≤ length new → take at (take len new) ≡ take at (take len old)
take_cut at len old new same le longer = go (nat_le at len) refl
  where
    go : (b : Bool) → nat_le at len ≡ b → take at (take len new) ≡ take at (take len old)
    go true is = let short : at ≤ len = grind (arith, nat_tests, is) in take-take at len new short ∙ same ∙ sym (take-take at len old short)
    go false is = let short : len ≤ at = grind (arith, nat_tests, is) in
        take_all at (take len new) (omega (arith, short, length-take len new)) ∙ sym (take-take len at new short) ∙ ap (λ (l : List ℕ). take len l) same ∙ take-take len at old short ∙ sym (take_all at (take len old) (omega (arith, short, length-take len old)))

drop_cut : (at len : ℕ) (old new : List ℕ) → drop at new ≡ drop at old → drop at (take len new) ≡ drop at (take len old)
drop_cut at len old new same = go (nat_le at len) refl
  where
    go : (b : Bool) → nat_le at len ≡ b → drop at (take len new) ≡ drop at (take len old)
    go true is =
        let short : len ≡ at + (len - at) = grind (arith, nat_tests, is) in
        ap (λ (k : ℕ). drop at (take k new)) short ∙ drop-take at (len - at) new ∙ ap (λ (l : List ℕ). take (len - at) l) same ∙ sym (drop-take at (len - at) old) ∙ sym (ap (λ (k : ℕ). drop at (take k old)) short)
    go false is = let short : len ≤ at = grind (arith, nat_tests, is) in
        drop_all at (take len new) (omega (arith, short, length-take len new)) ∙ sym (drop_all at (take len old) (omega (arith, short, length-take len old)))

-- cut to a length that both have, a torn write is a torn write
pub torn_cut : (at n len : ℕ) (old new : List ℕ) → len ≤ length old → Torn at n old new → Torn at n (take len old) (take len new)
torn_cut at n len old new le torn = record {
  before = take_cut at len old new torn.before le torn.no_shorter;
  after = drop_cut (at + n) len old new torn.after;
  no_shorter = omega (arith, le, torn.no_shorter, length-take len old, length-take len new);
  no_longer = omega (arith, le, torn.no_shorter, length-take len old, length-take len new);
}
