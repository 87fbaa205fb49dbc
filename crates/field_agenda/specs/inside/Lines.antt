-- What is printed of fields is whole lines where the voice writes in lines. No public clause speaks of it: `FieldLines` cites it where it meets `Tells`.
use Rattle.tellings.specs.Voice.{KeepsToLines, Voice}
use Rattle.field_agenda.specs.FieldLines.{by_field_lines, line_of_field}

pub fields_keep_to_lines : (V : Voice) → KeepsToLines V → KeepsToLines (by_field_lines V)
fields_keep_to_lines V keeps = record { reply = λ so n sheet r. keeps.reply so (line_of_field n) sheet r; came = keeps.came }
