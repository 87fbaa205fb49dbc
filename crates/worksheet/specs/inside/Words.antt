-- Names for parts of definitions, which proofs and private clauses use.
use Rattle.std.specs.Prelude.{ℕ, ◌==◌, ◌||◌, ◌&&◌, nat_le, Bool, List, [], filter, not, None}
use Rattle.worksheet.specs.declared.op.Op.{Op}
use Rattle.worksheet.specs.declared.field.Field.{Field}
use Rattle.worksheet.specs.Ops.{about_from, session_by, input_by, outcome_by, last_given, order_from}
use Rattle.worksheet.specs.Checks.{in_front, is_number}

-- the ops about a field, in order
abbrev pub about : ℕ → List Op → List Op
about id os = about_from id 1 os

-- a field by the ops about it
abbrev pub field_by : ℕ → List Op → Field
field_by id os = record {
  id = id;
  session = last_given session_by [] os;
  input = last_given input_by [] os;
  answer = (last_given outcome_by (None, None) os).0;
  lost = (last_given outcome_by (None, None) os).1;
}

abbrev pub without : ℕ → List ℕ → List ℕ
without id ids = filter (λ other. not (other == id)) ids

abbrev pub order_of : List Op → List ℕ
order_of os = order_from 1 [] os

-- a byte of a name: a digit, an ASCII letter, `_` or `-`
abbrev pub is_name_byte : ℕ → Bool
is_name_byte byte = (nat_le 48 byte && nat_le byte 57) || (nat_le 65 byte && nat_le byte 90) || (nat_le 97 byte && nat_le byte 122) || (byte == 95) || (byte == 45)

-- a byte of a word: none below 32
abbrev pub is_no_low_byte : ℕ → Bool
is_no_low_byte byte = nat_le 32 byte

-- a byte of an input: the same, or TAB
abbrev pub is_input_byte : ℕ → Bool
is_input_byte byte = is_no_low_byte byte || (byte == 9)

-- whether a number stands directly after another, first for 0
abbrev pub stands_after : ℕ → ℕ → List ℕ → Bool
stands_after after id ids = is_number (in_front 0 id ids) after
