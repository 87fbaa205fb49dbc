-- The lines of fields.
use Rattle.std.specs.Prelude.{ℕ, ◌*◌, ◌-◌, ◌^◌, min}
use Rattle.tellings.specs.Voice.{Voice}

-- The number of the line that asks for the field which is the nth of those that are evaluated, as far as it is counted; that of its wait is the next one.
abbrev pub line_of_field : ℕ → ℕ
line_of_field n = min (2 * n) (2 ^ 64 - 1) - 1

-- what is printed of a line is printed of a field's
abbrev pub by_field_lines : Voice → Voice
by_field_lines V = record V {
  reply = λ n. V.reply (line_of_field n);
  sheet = λ n. V.sheet (line_of_field n);
  field = λ n. V.field (line_of_field n);
  exported = λ n. V.exported (line_of_field n);
}
