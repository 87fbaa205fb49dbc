-- The lines of a script are read as the commands that give its ops.
use Rattle.std.proofs.Common.{◌≡◌, ℕ, ◌+◌, ◌≤◌, Bool, true, false, List, [], ◌∷◌, ◌++◌, map, length, refl, subst, arith}
use Rattle.std.specs.Prelude.{is_some}
use Rattle.std.specs.List.{AllByRecursion, list_all}
use Rattle.std.specs.Str.{bytes_eq}
use Rattle.std.proofs.lemmas.Bool.{false≢true}
use Rattle.std.proofs.lemmas.Slice.Eq.{bytes_eq-Decides}
use Rattle.host_events.specs.declared.command.Command.TheVariants as command
use Rattle.sheet_text.specs.Laws.{NumbersAreDecimals}
use Rattle.worksheet.specs.Checks.{has_session, session_named}
use Rattle.worksheet.specs.Contents.{Contents}
use Rattle.worksheet.specs.Laws.{IsSession}
use Rattle.worksheet.specs.Limits.{most_fields}
use Rattle.worksheet.specs.Names.{is_name}
use Rattle.worksheet.specs.Rewrite.{session_op}
use Rattle.worksheet.specs.declared.field.Field.{Field}
use Rattle.worksheet.specs.declared.field.Session.{Session}
use Rattle.worksheet.specs.declared.op.Op.{Op}
use Rattle.worksheet.specs.declared.op.Op.TheVariants as op
use Rattle.sheet_export.specs.Laws.{FieldLinesAreRead}
use Rattle.sheet_export.specs.Replay.{more, new_ops, none, SayOps, ScriptsSayTheirOps}
use Rattle.sheet_export.specs.Script.{field_line, field_lines, has_few_fields, has_no_space, have_lines, session_line}
use Rattle.sheet_export.proofs.ReadLines.{both_of, field_lines_read, session_lines}

say_sessions : (ss : List Session) (lines : List (List ℕ)) (ops : List Op) → AllByRecursion IsSession ss → have_lines ss ≡ true → SayOps lines ops → SayOps (map session_line ss ++ lines) (map session_op ss ++ ops)
say_sessions [] lines ops is h so = so
say_sessions (s ∷ ss) lines ops is h so =
    let parts = both_of (list_all has_no_space s.words) (have_lines ss) h in
    more (session_line s) (session_op s) (map session_line ss ++ lines) (map session_op ss ++ ops) (command.Session s.name s.tab s.words, session_lines s is.0 parts.0, refl) (say_sessions ss lines ops is.1 parts.1 so)

-- the name of a session that there is is right
named_so : (ss : List Session) (name : List ℕ) → AllByRecursion IsSession ss → is_some (session_named ss name) ≡ true → is_name name ≡ true
named_so [] name is h = absurd (false≢true h)
named_so (s ∷ ss) name is h = go (bytes_eq s.name name) refl (named_so ss name is.1)
  where
    go : (t : Bool) → bytes_eq s.name name ≡ t → (is_some (session_named ss name) ≡ true → is_name name ≡ true) → is_name name ≡ true
    go true e again = subst (λ (n : List ℕ). is_name n ≡ true) ((bytes_eq-Decides s.name name).0 e) is.0.named
    go false e again = let rest : is_some (session_named ss name) ≡ true = rw e at h in again rest

say_fields : FieldLinesAreRead → (sheet : Contents) → AllByRecursion IsSession sheet.sessions → (place : ℕ) (fs : List Field) → place + length fs ≤ most_fields
    → AllByRecursion (λ field. has_session sheet field.session ≡ true) fs → SayOps (field_lines place fs) (new_ops place fs)
say_fields read sheet is place [] few belong = none
say_fields read sheet is place (f ∷ fs) few belong =
    let named = named_so sheet.sessions f.session is belong.0 in
    more (field_line place f) (op.New place f.session f.input) (field_lines (place + 1) fs) (new_ops (place + 1) fs) (command.New place f.session f.input, read place f (omega (arith, few)) named, refl) (say_fields read sheet is (place + 1) fs (omega (arith, few)) belong.1)

pub scripts_say : NumbersAreDecimals → ScriptsSayTheirOps
scripts_say decimals sheet is has =
    let lines = (both_of (have_lines sheet.sessions) (has_few_fields sheet) has).0 in
    let few = is.few_fields in
    say_sessions sheet.sessions (field_lines 0 sheet.fields) (new_ops 0 sheet.fields) is.sessions lines
    (say_fields (field_lines_read decimals) sheet is.sessions 0 sheet.fields (omega (arith, few)) is.belongs)
