-- Lists of a worksheet, as loops make them. Private contracts cite this.
use Rattle.std.specs.Prelude.{List, map}
use Rattle.serde_json.specs.Data.{Data, array}
use Rattle.serde_json.specs.View.{items_of}
use Rattle.worksheet.specs.declared.field.Field.{Field}
use Rattle.worksheet.specs.declared.field.Session.{Session}
use Rattle.sheet_json.specs.Objects.{count, session_data}
use Rattle.sheet_json.specs.Shown.{still_session}

abbrev pub id_data : Field → Data
id_data field = count field.id

abbrev pub ids_row : List Field → Data
ids_row fields = array (items_of (map id_data fields))

abbrev pub still_data : Session → Data
still_data s = session_data (still_session s)

abbrev pub sessions_row : List Session → Data
sessions_row sessions = array (items_of (map still_data sessions))
