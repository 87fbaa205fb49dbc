-- What follows a 2. Private contracts cite this.
use Rattle.std.specs.Prelude.{◌≡◌, ◌≤◌, ◌<◌, ℕ, true, List, slice_index}
use Rattle.block_tree.specs.Tree.{Tree}
use Rattle.meta_format.specs.Limits.{Limits}
use Rattle.meta_format.specs.Faults.{bad_tag, too_deep}
use Rattle.meta_format.specs.inside.Machine.{is_bad_tag}
use Rattle.meta_format.specs.inside.Flat.{Takes, closed_at, Breaks, AtTag, InBody, InEscape, NameUpTo, TagUpTo}
use Rattle.meta_format.specs.declared.outer.Met.{Met}
use Rattle.meta_format.specs.declared.outer.Met.TheVariants as met
use Rattle.meta_format.specs.declared.outer.Named.{Named}
use Rattle.meta_format.specs.declared.outer.Named.TheVariants as named

-- From at on, and before the limit, a tag, or a part of its name up to a wrong byte; or a part of its name up to the limit.
abbrev pub Names : ℕ → List ℕ → ℕ → ℕ → Named → Type 0
Names most s at limit (named.Whole end) = TagUpTo most s at end × (end ≤ limit)
Names most s at limit (named.Bad i) = (so : NameUpTo most s at i) × (i < limit) × (is_bad_tag most so.0 (slice_index s i) ≡ true)
Names most s at limit named.Cut = NameUpTo most s at limit

-- What came of the block that starts there, up to the limit.
abbrev pub Meets : Limits → List ℕ → ℕ → ℕ → Met → Type 0
Meets most s start limit (met.Whole stop) = (start < stop) × (stop ≤ limit) × (b : Tree) × Takes most s start stop (closed_at start stop b)
Meets most s start limit (met.BadTag at) = Breaks most s start at bad_tag
Meets most s start limit (met.TooDeep at) = Breaks most s start at too_deep
Meets most s start limit (met.InName name) = (levels : ℕ) × AtTag most s start name levels × NameUpTo most.tag s name limit
Meets most s start limit (met.InBody d) = InBody most s start limit d
Meets most s start limit met.InEscape = (d : ℕ) × InEscape most s start limit d
