-- The lines that make a worksheet again: its sessions, and then its fields, each after the one before it.
use Rattle.std.specs.Prelude.{ℕ, ◌+◌, ◌==◌, ◌&&◌, not, Bool, true, false, List, [], ◌∷◌, ◌++◌, length, map, nat_le, codes}
use Rattle.std.specs.Fmt.{decimal}
use Rattle.std.specs.List.{flat_map, list_all}
use Rattle.worksheet.specs.Contents.{Contents}
use Rattle.worksheet.specs.Limits.{most_fields}
use Rattle.worksheet.specs.declared.field.Field.{Field}
use Rattle.worksheet.specs.declared.field.Session.{Session}

abbrev pub flag_text : Bool → List ℕ
flag_text true = codes "tab"
flag_text false = codes "plain"

-- each word after a space
abbrev pub words_text : List (List ℕ) → List ℕ
words_text words = flat_map (λ word. 32 ∷ word) words

-- 'session', the name, the flag and the words
abbrev pub session_line : Session → List ℕ
session_line session = codes "session " ++ session.name ++ codes " " ++ flag_text session.tab ++ words_text session.words

-- 'new', the number of fields in front of it, which is the number that the one before it gets, the session and the input
abbrev pub field_line : ℕ → Field → List ℕ
field_line place field = codes "new " ++ decimal place ++ codes " " ++ field.session ++ codes " " ++ field.input

-- the lines of these fields, in front of which stand so many others
abbrev pub field_lines : ℕ → List Field → List (List ℕ)
field_lines place [] = []
field_lines place (field ∷ fields) = field_line place field ∷ field_lines (place + 1) fields

-- all lines
abbrev pub script_of : Contents → List (List ℕ)
script_of sheet = map session_line sheet.sessions ++ field_lines 0 sheet.fields

-- lines, each with its line feed
abbrev pub lines_text : List (List ℕ) → List ℕ
lines_text = flat_map (λ line. line ++ 10 ∷ [])

abbrev pub script_text : Contents → List ℕ
script_text sheet = lines_text (script_of sheet)

-- words are separated by a space, so none in a line has one
abbrev pub has_no_space : List ℕ → Bool
has_no_space word = list_all (λ byte. not (byte == 32)) word

-- whether there are as few fields as a worksheet may have
abbrev pub has_few_fields : Contents → Bool
has_few_fields sheet = nat_le (length sheet.fields) most_fields

-- whether each session has a line that makes it
abbrev pub have_lines : List Session → Bool
have_lines sessions = list_all (λ session. list_all has_no_space session.words) sessions

-- whether there are lines that make this worksheet again
abbrev pub has_script : Contents → Bool
has_script sheet = have_lines sheet.sessions && has_few_fields sheet
