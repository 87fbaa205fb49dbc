-- A worksheet in its maps.
use Rattle.worksheet.specs.declared.sheet.Sheet.TheInside.{Inside}
use Rattle.worksheet.specs.Contents.{Contents, SheetView}
use Rattle.worksheet.specs.Edits.{HasNumbersApart, contents_with}
use Rattle.worksheet.specs.inside.Entries.{AreFields, AreSessions, shown, reserved}

abbrev pub contents_of : Inside → Contents
contents_of sheet = contents_with (shown sheet.fields.entries) (shown sheet.sessions.entries) sheet.next

abbrev pub held_of : Inside → SheetView
held_of sheet = record {
  contents = contents_of sheet;
  field_room = reserved sheet.fields.entries;
  session_room = reserved sheet.sessions.entries;
}

pub record IsSoundInside (sheet : Inside) : Type 0 where
  pub sound : HasNumbersApart (contents_of sheet)
  pub fields : AreFields sheet.fields.entries
  pub sessions : AreSessions sheet.sessions.entries
