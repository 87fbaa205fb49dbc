use Rattle.std.proofs.Common.{◌≡◌, ◌++◌, ◌≤◌, ℕ, List, length, take, drop, ap, sym, ◌∙◌, subst, arith, true, refl, length-append, length-drop}
use Rattle.std.specs.Prelude.{replicate, IsTrue}
use Rattle.std.proofs.lemmas.List.{drop-replicate, drop_at, take_at}
use Rattle.worksheet.specs.Limits.{longest_name}
use Rattle.worksheet.specs.Names.{is_name}
use Rattle.worksheet.proofs.NameLaws.{short_name}
use Rattle.worksheet.proofs.name.Name.new.Goals as goal

pub invariant_of-result : goal.invariant_of-result
invariant_of-result c =
    let bs : List ℕ = c.args.bytes.now in
    let n = length bs in
    let rest : List ℕ = drop n (replicate {A = ℕ} longest_name 0) in
    let e : c.copy_from_slice.new.self ++ rest ≡ bs ++ rest = ap (λ (xs : List ℕ). xs ++ rest) c.copy_from_slice.ensures.after in
    let named : is_name bs ≡ true = sym c.is_name.ensures ∙ c.if-not-is_name.false in
    let short : n ≤ longest_name = short_name bs named in
    record {
      whole = omega (arith, ap length e, length-append bs rest, length-drop n (replicate {A = ℕ} longest_name 0), short);
      short = short;
      following = ap (drop n) e ∙ drop_at bs rest n refl ∙ drop-replicate n longest_name 0;
      named = subst (λ (xs : List ℕ). IsTrue (is_name xs)) (sym (ap (take n) e ∙ take_at bs rest n refl)) named;
    }
