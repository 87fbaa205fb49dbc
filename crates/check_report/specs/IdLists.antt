-- Numbers of fields in a word of a command line: `3,7-9`.
use Rattle.std.specs.Prelude.{ℕ, ◌+◌, ◌==◌, Bool, List, [], ◌∷◌, ◌++◌, Option, Some, None, drop, nat_le, if◌then◌else◌}
use Rattle.std.specs.List.{before_first, position, slice_split}
use Rattle.std.specs.Option.{option_map}
use Rattle.sheet_text.specs.Script.{number_written}
use Rattle.check_report.specs.declared.chosen.Ids.{Ids}

abbrev pub is_comma : ℕ → Bool
is_comma byte = byte == 44

abbrev pub is_dash : ℕ → Bool
is_dash byte = byte == 45

-- what stands after the first of these bytes, where there is one
abbrev pub following_first : (ℕ → Bool) → List ℕ → Option (List ℕ)
following_first p bytes = option_map (λ at. drop (at + 1) bytes) (position p bytes)

abbrev pub from_to : ℕ → ℕ → Ids
from_to first last = record { first = first; last = last }

-- from one number to another that is no smaller
abbrev pub range_of : Option ℕ → Option ℕ → Option Ids
range_of None last = None
range_of (Some first) None = None
range_of (Some first) (Some last) = if nat_le first last then Some (from_to first last) else None

-- one number, or two with a dash between them
abbrev pub part_after : List ℕ → Option (List ℕ) → Option Ids
part_after front None = option_map (λ id. from_to id id) (number_written front)
part_after front (Some rest) = range_of (number_written front) (number_written rest)

abbrev pub part_of : List ℕ → Option Ids
part_of part = part_after (before_first is_dash part) (following_first is_dash part)

-- after others
abbrev pub with_others : List Ids → Option (List Ids) → Option (List Ids)
with_others front None = None
with_others front (Some ids) = Some (front ++ ids)

abbrev pub with_part : Option Ids → Option (List Ids) → Option (List Ids)
with_part None others = None
with_part (Some ids) others = with_others (ids ∷ []) others

-- all parts, where each is one
abbrev pub id_parts_of : List (List ℕ) → Option (List Ids)
id_parts_of [] = Some []
id_parts_of (part ∷ parts) = with_part (part_of part) (id_parts_of parts)

-- parts with a comma between each two
abbrev pub ids_named : List ℕ → Option (List Ids)
ids_named text = id_parts_of (slice_split is_comma text)
