-- A value on a line of its own.
use Rattle.std.specs.Prelude.{◌≡◌, ℕ, ◌≤◌, ◌<◌, ◌^◌, List, [], ◌∷◌, ◌++◌, Some}
use Rattle.std.specs.List.{AllByRecursion}
use Rattle.serde_json.specs.Data.{Data, Items, Members, Num, unsigned, negative, float, null, boolean, number, string, array, object, item, no_items, member, no_members}
use Rattle.serde_json.specs.Read.{read}
use Rattle.serde_json.specs.Written.{compact_text}

-- the value without a space, and a line feed
abbrev pub json_line : Data → List ℕ
json_line d = compact_text d ++ 10 ∷ []

-- no byte of it ends a line, or is another control character
abbrev pub IsWithinLine : List ℕ → Type 0
IsWithinLine bytes = AllByRecursion (λ byte. 32 ≤ byte) bytes

-- these bytes are one line, and their only line feed is the last byte
abbrev pub IsOneLine : List ℕ → Type 0
IsOneLine bytes = (front : List ℕ) × (bytes ≡ front ++ 10 ∷ []) × IsWithinLine front

-- what stands in front of the line feed reads as this value
abbrev pub ReadsAs : List ℕ → Data → Type 0
ReadsAs bytes d = (front : List ℕ) × (bytes ≡ front ++ 10 ∷ []) × (read front ≡ Some d)

-- a number of 64 bits
abbrev pub IsCount : Num → Type 0
IsCount (unsigned n) = n < 2 ^ 64
IsCount (negative z) = ⊥
IsCount (float x) = ⊥

abbrev mutual
  -- all numbers in it are such
  pub HasCounts : Data → Type 0
  HasCounts null = Unit {0}
  HasCounts (boolean b) = Unit {0}
  HasCounts (number n) = IsCount n
  HasCounts (string s) = Unit {0}
  HasCounts (array ds) = ItemsHaveCounts ds
  HasCounts (object ms) = MembersHaveCounts ms

  pub ItemsHaveCounts : Items → Type 0
  ItemsHaveCounts no_items = Unit {0}
  ItemsHaveCounts (item d ds) = HasCounts d × ItemsHaveCounts ds

  pub MembersHaveCounts : Members → Type 0
  MembersHaveCounts no_members = Unit {0}
  MembersHaveCounts (member k d ms) = HasCounts d × MembersHaveCounts ms
