use Rattle.std.proofs.Common.{◌≡◌, List, ℕ, refl, sym, subst, ◌∙◌, ap}
use Rattle.std.specs.Prelude.{string_bytes}
use Rattle.sheet_files.specs.Names.{Opened, second_name}
use Rattle.sheet_files.proofs.openings.AnyOpenings.open_pair.Goals as goal

pub returns : goal.returns
returns g c =
    let found = string_bytes c.in_ok-path.path in (
      c.in_ok-first.second,
      refl,
      (
        found,
        (
          c.found_paths.new.names,
          c.in_ok-path.ensures.found,
          subst (λ (alt : List ℕ). Opened g.N.Names found alt (c.in_ok-first.first, c.in_ok-first.second) c.found_paths.new.names c.open.new.names) (c.as_str-2.ensures.value ∙ c.in_ok-path.ensures.second)
              (subst (λ (path : List ℕ). Opened g.N.Names path c.as_str-2.result.now (c.in_ok-first.first, c.in_ok-first.second) c.found_paths.new.names c.open.new.names) c.as_str.ensures.value c.in_ok-first.ensures),
        ),
      ),
    )
