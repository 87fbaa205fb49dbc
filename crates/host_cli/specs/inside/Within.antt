-- A number from 1 to a limit.
use Rattle.std.specs.Prelude.{◌&&◌, ℕ, Bool, true, false, Option, Some, None, nat_le}

abbrev pub within_by : Bool → ℕ → Option ℕ
within_by true number = Some number
within_by false number = None

-- the number, where it is one of these
abbrev pub within : ℕ → Option ℕ → Option ℕ
within most None = None
within most (Some number) = within_by (nat_le 1 number && nat_le number most) number
