-- The payload of an op (docs/trust/FORMAT.md, "Payloads").
use Rattle.std.specs.Prelude.{◌≡◌, ℕ, ◌<◌, ◌^◌, Bool, true, false, List, [], ◌∷◌, ◌++◌, length}
use Rattle.std.specs.Int.{to_be_bytes, w16, w32}
use Rattle.std.specs.List.{flat_map, AllByRecursion}
use Rattle.block_tree.specs.Shape.{is_block}
use Rattle.block_tree.specs.Reasons.{reason_number}
use Rattle.meta_format.specs.Canonical.{canonical}
use Rattle.worksheet.specs.declared.op.Op.{Op}
use Rattle.worksheet.specs.declared.op.Op.TheVariants as op

-- the first byte
abbrev pub kind_of : Op → ℕ
kind_of (op.Session name tab words) = 1
kind_of (op.New after session input) = 2
kind_of (op.Set id input) = 3
kind_of (op.Remove id) = 4
kind_of (op.Move id after) = 5
kind_of (op.Clear id) = 6
kind_of (op.Answer id prompt output) = 7
kind_of (op.Lost id reason) = 8
kind_of (op.Ids next) = 9

-- a number, in four bytes
abbrev pub number : ℕ → List ℕ
number n = to_be_bytes w32 n

-- bytes after their length, which has one byte
abbrev pub short : List ℕ → List ℕ
short bytes = length bytes ∷ bytes

-- bytes after their length, which has two bytes
abbrev pub long : List ℕ → List ℕ
long bytes = to_be_bytes w16 (length bytes) ++ bytes

abbrev pub flag : Bool → ℕ
flag false = 0
flag true = 1

-- what follows the first byte
abbrev pub parts_of : Op → List ℕ
parts_of (op.Session name tab words) = short name ++ flag tab ∷ length words ∷ flat_map long words
parts_of (op.New after session input) = number after ++ (short session ++ long input)
parts_of (op.Set id input) = number id ++ long input
parts_of (op.Remove id) = number id
parts_of (op.Move id after) = number id ++ number after
parts_of (op.Clear id) = number id
parts_of (op.Answer id prompt output) = number id ++ (long prompt ++ canonical output)
parts_of (op.Lost id reason) = number id ++ reason_number reason ∷ []
parts_of (op.Ids next) = number next

-- the payload of an op
abbrev pub code_of : Op → List ℕ
code_of o = kind_of o ∷ parts_of o

-- the lengths that fit a length field of one byte, and of two
abbrev pub IsShort : List ℕ → Type 0
IsShort bytes = length bytes < 2 ^ 8

abbrev pub IsLong : List ℕ → Type 0
IsLong bytes = length bytes < 2 ^ 16

-- the greatest length that `code_len` tells, for a longer payload too
abbrev pub longest_reported : ℕ
longest_reported = 4294967295

-- each length in the payload fits its field
abbrev pub HasCode : Op → Type 0
HasCode (op.Session name tab words) =
    IsShort name × (length words < 2 ^ 8) × AllByRecursion IsLong words
HasCode (op.New after session input) = IsShort session × IsLong input
HasCode (op.Set id input) = IsLong input
HasCode (op.Remove id) = Unit {0}
HasCode (op.Move id after) = Unit {0}
HasCode (op.Clear id) = Unit {0}
HasCode (op.Answer id prompt output) = IsLong prompt
HasCode (op.Lost id reason) = Unit {0}
HasCode (op.Ids next) = Unit {0}

-- a number of four bytes
abbrev pub IsNumber : ℕ → Type 0
IsNumber n = n < 2 ^ 32

-- what the types of an op's parts say of it, and each op of a program meets: its numbers have four
-- bytes, and its output is a block
abbrev pub IsTyped : Op → Type 0
IsTyped (op.Session name tab words) = Unit {0}
IsTyped (op.New after session input) = IsNumber after
IsTyped (op.Set id input) = IsNumber id
IsTyped (op.Remove id) = IsNumber id
IsTyped (op.Move id after) = IsNumber id × IsNumber after
IsTyped (op.Clear id) = IsNumber id
IsTyped (op.Answer id prompt output) = IsNumber id × (is_block output ≡ true)
IsTyped (op.Lost id reason) = IsNumber id
IsTyped (op.Ids next) = IsNumber next

-- these bytes are the payload of the op
pub record IsPayloadOf (o : Op) (bytes : List ℕ) : Type 0 where
  pub typed : IsTyped o
  pub fits : HasCode o
  pub is : bytes ≡ code_of o
