-- What an agenda of fields may do.
use Rattle.driver.specs.Place.{AgendaRules, ActionRules, agenda_rules, action_rules}
use Rattle.evaluation.specs.Programs.{Finds}
use Rattle.field_agenda.specs.declared.by_fields.ByFields.{ByFields}
use Rattle.field_agenda.specs.Says.{FieldsSay, FieldsWoken}
use Rattle.field_agenda.specs.Heeds.{FieldsHeed}
use Rattle.field_agenda.specs.Joins.{FieldsJoin}

-- It says what is next, is given whose turn it is, and heeds what came. Its programs may be found so.
abbrev pub fields_actions : {P : Type 0} → (P → Finds) → ActionRules (ByFields P)
fields_actions finds = action_rules (FieldsSay finds) FieldsWoken FieldsHeed

-- It says too which fields join what lives gave.
abbrev pub fields_rules : {P : Type 0} → (P → Finds) → AgendaRules (ByFields P)
fields_rules finds = agenda_rules (fields_actions finds) FieldsJoin
