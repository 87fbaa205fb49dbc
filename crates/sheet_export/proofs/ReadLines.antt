-- The lines of a script are read as what they are written for.
use Rattle.std.proofs.Common.{◌≡◌, ◌+◌, ℕ, Bool, true, false, List, [], ◌∷◌, ◌++◌, length, length-append, refl, ap, ap₂, sym, ◌∙◌, append_assoc, arith, Some, None, drop}
use Rattle.std.specs.Prelude.{◌&&◌, ◌||◌, ◌==◌, not, nat_le, nat_lt, cond, codes, if◌then◌else◌}
use Rattle.std.specs.Fmt.{decimal}
use Rattle.std.specs.List.{list_all, position_or_len, slice_split, onto_first}
use Rattle.std.specs.Option.{option_map}
use Rattle.std.specs.Str.Parse.{digits_value}
use Rattle.std.proofs.lemmas.Bool.{eqb-true, false≢true}
use Rattle.std.proofs.lemmas.Bool.Decides.{nat_tests}
use Rattle.std.proofs.lemmas.List.{take_at, drop_at}
use Rattle.host_events.specs.declared.command.Command.TheVariants as command
use Rattle.sheet_text.specs.Laws.{NumbersAreDecimals}
use Rattle.sheet_text.specs.Script.{is_space, is_digit, is_numeral, before_space, after_space, command_named, flag_of, greatest_number, line_of, most_digits, number_written, session_of, starts_with_zero}
use Rattle.sheet_text.specs.declared.script.ScriptLine.TheVariants as line
use Rattle.worksheet.specs.Checks.{are_words}
use Rattle.worksheet.specs.Limits.{longest_name}
use Rattle.worksheet.specs.Names.{is_name}
use Rattle.worksheet.specs.inside.Words.{is_name_byte}
use Rattle.worksheet.specs.declared.field.Field.{Field}
use Rattle.worksheet.specs.declared.field.Session.{Session}
use Rattle.sheet_export.specs.Laws.{FieldLinesAreRead, SessionLinesAreRead}
use Rattle.sheet_export.specs.Script.{field_line, flag_text, has_no_space, session_line, words_text}

-- Bytes without a space, up to one.

pub both_of : (a b : Bool) → (a && b) ≡ true → (a ≡ true) × (b ≡ true)
both_of true true h = (refl, refl)
both_of true false h = cc
both_of false b h = cc

not_of : (a : Bool) → not a ≡ true → a ≡ false
not_of true h = cc
not_of false h = refl

up_to_space : (bytes rest : List ℕ) → has_no_space bytes ≡ true → position_or_len is_space (bytes ++ 32 ∷ rest) ≡ length bytes
up_to_space [] rest h = refl
up_to_space (b ∷ bytes) rest h =
    let parts = both_of (not (b == 32)) (has_no_space bytes) h in
    let other : (b == 32) ≡ false = not_of (b == 32) parts.0 in
    let more : position_or_len is_space (b ∷ (bytes ++ 32 ∷ rest)) ≡ 1 + position_or_len is_space (bytes ++ 32 ∷ rest) = rw other refl in
    let so = up_to_space bytes rest parts.1 in
    omega (arith, more, so)

pub part_before : (bytes rest : List ℕ) → has_no_space bytes ≡ true → before_space (bytes ++ 32 ∷ rest) ≡ bytes
part_before bytes rest h = take_at bytes (32 ∷ rest) (position_or_len is_space (bytes ++ 32 ∷ rest)) (sym (up_to_space bytes rest h))

pub part_after : (bytes rest : List ℕ) → has_no_space bytes ≡ true → after_space (bytes ++ 32 ∷ rest) ≡ Some rest
part_after bytes rest h =
    let at = up_to_space bytes rest h in
    let size = length-append bytes (32 ∷ rest) in
    let within : nat_lt (position_or_len is_space (bytes ++ 32 ∷ rest)) (length (bytes ++ 32 ∷ rest)) ≡ true = grind (arith, nat_tests, at, size) in
    let front = append_assoc bytes (32 ∷ []) rest in
    let ends : drop (position_or_len is_space (bytes ++ 32 ∷ rest) + 1) (bytes ++ 32 ∷ rest) ≡ rest =
    ap (drop (position_or_len is_space (bytes ++ 32 ∷ rest) + 1)) (sym front) ∙ drop_at (bytes ++ 32 ∷ []) rest (position_or_len is_space (bytes ++ 32 ∷ rest) + 1) (length-append bytes (32 ∷ []) ∙ omega (arith, at)) in
    ap (λ t. option_map (λ n. drop (n + 1) (bytes ++ 32 ∷ rest)) (cond t (Some (position_or_len is_space (bytes ++ 32 ∷ rest))) None)) within ∙ ap Some ends

-- The words of a session.

words_split : (word : List ℕ) (words : List (List ℕ)) → has_no_space word ≡ true → slice_split is_space (words_text words) ≡ [] ∷ words → slice_split is_space (word ++ words_text words) ≡ word ∷ words
words_split [] words h e = e
words_split (b ∷ word) words h e =
    let parts = both_of (not (b == 32)) (has_no_space word) h in
    let other : (b == 32) ≡ false = not_of (b == 32) parts.0 in
    let cut : slice_split is_space (b ∷ (word ++ words_text words)) ≡ onto_first b (slice_split is_space (word ++ words_text words)) = rw other refl in
    cut ∙ ap (onto_first b) (words_split word words parts.1 e)

after_words : (words : List (List ℕ)) → list_all has_no_space words ≡ true → slice_split is_space (words_text words) ≡ [] ∷ words
after_words [] h = refl
after_words (word ∷ words) h =
    let parts = both_of (has_no_space word) (list_all has_no_space words) h in
    ap (λ ws. [] ∷ ws) (words_split word words parts.0 (after_words words parts.1))

-- Names and numbers have no space.

name_byte : (b : ℕ) → is_name_byte b ≡ true → not (b == 32) ≡ true
name_byte b h = go (b == 32) refl
  where
    go : (t : Bool) → (b == 32) ≡ t → not (b == 32) ≡ true
    go true e = let is : b ≡ 32 = eqb-true b 32 e in let wrong : false ≡ true = rw is at h in absurd (false≢true wrong)
    go false e = rw e refl

digit_byte : (b : ℕ) → is_digit b ≡ true → not (b == 32) ≡ true
digit_byte b h = go (b == 32) refl
  where
    go : (t : Bool) → (b == 32) ≡ t → not (b == 32) ≡ true
    go true e = let is : b ≡ 32 = eqb-true b 32 e in let wrong : false ≡ true = rw is at h in absurd (false≢true wrong)
    go false e = rw e refl

bytes_all : (p : ℕ → Bool) → ((b : ℕ) → p b ≡ true → not (b == 32) ≡ true) → (bytes : List ℕ) → list_all p bytes ≡ true → has_no_space bytes ≡ true
bytes_all p f [] h = refl
bytes_all p f (b ∷ bytes) h =
    let parts = both_of (p b) (list_all p bytes) h in
    rw (f b parts.0, bytes_all p f bytes parts.1) refl

pub name_has_no_space : (name : List ℕ) → is_name name ≡ true → has_no_space name ≡ true
name_has_no_space name h =
    let parts = both_of (nat_le 1 (length name) && nat_le (length name) longest_name) (list_all is_name_byte name) (sym (regroup (nat_le 1 (length name)) (nat_le (length name) longest_name) (list_all is_name_byte name)) ∙ h) in
    bytes_all is_name_byte name_byte name parts.1
  where
    regroup : (a b c : Bool) → (a && b && c) ≡ ((a && b) && c)
    regroup true b c = refl
    regroup false b c = refl

numeral_digits : (bytes : List ℕ) → is_numeral bytes ≡ true → list_all is_digit bytes ≡ true
numeral_digits bytes h = go (nat_le 1 (length bytes)) (nat_le (length bytes) most_digits) (list_all is_digit bytes) (not (starts_with_zero bytes) || (length bytes == 1)) h
  where
    go : (a b c d : Bool) → (a && b && c && d) ≡ true → c ≡ true
    go true true true d e = refl
    go true true false d e = cc
    go true false c d e = cc
    go false b c d e = cc

written_digits : (bytes : List ℕ) (n : ℕ) → number_written bytes ≡ Some n → list_all is_digit bytes ≡ true
written_digits bytes n h = go (is_numeral bytes) (nat_le (digits_value 10 bytes) greatest_number) refl h
  where
    go : (a b : Bool) → is_numeral bytes ≡ a → (if a && b then Some (digits_value 10 bytes) else None) ≡ Some n → list_all is_digit bytes ≡ true
    go true b e k = numeral_digits bytes e
    go false b e k = cc

-- The line of a session.

flag_has_no_space : (tab : Bool) → has_no_space (flag_text tab) ≡ true
flag_has_no_space true = refl
flag_has_no_space false = refl

flag_is_read : (tab : Bool) → flag_of (flag_text tab) ≡ Some tab
flag_is_read true = refl
flag_is_read false = refl

session_grouped : (session : Session) → session_line session ≡ codes "session" ++ 32 ∷ (session.name ++ 32 ∷ (flag_text session.tab ++ words_text session.words))
session_grouped session =
    let name = session.name in
    let flag = flag_text session.tab in
    let words = words_text session.words in
    ap (λ t. codes "session " ++ t) (ap (λ t. t ++ words) (append_assoc name (32 ∷ []) flag) ∙ append_assoc name (32 ∷ flag) words)

session_after : (name : List ℕ) (tab : Bool) (word : List ℕ) (words : List (List ℕ)) → has_no_space name ≡ true → list_all has_no_space (word ∷ words) ≡ true
    → session_of (name ++ 32 ∷ (flag_text tab ++ words_text (word ∷ words))) ≡ Some (command.Session name tab (word ∷ words))
session_after name tab word words named h =
    let parts = both_of (has_no_space word) (list_all has_no_space words) h in
    let given = word ++ words_text words in
    let split = words_split word words parts.0 (after_words words parts.1) in
    let flag = flag_has_no_space tab in
    rw (part_before name (flag_text tab ++ 32 ∷ given) named, part_after name (flag_text tab ++ 32 ∷ given) named, part_before (flag_text tab) given flag, part_after (flag_text tab) given flag, flag_is_read tab, split) refl

some_words : (name : List ℕ) (tab : Bool) (words : List (List ℕ)) → has_no_space name ≡ true → are_words words ≡ true → list_all has_no_space words ≡ true
    → session_of (name ++ 32 ∷ (flag_text tab ++ words_text words)) ≡ Some (command.Session name tab words)
some_words name tab [] named h e = absurd (false≢true h)
some_words name tab (word ∷ words) named h e = session_after name tab word words named e

pub session_lines : SessionLinesAreRead
session_lines session is words =
    let named = name_has_no_space session.name is.named in
    let rest = session.name ++ 32 ∷ (flag_text session.tab ++ words_text session.words) in
    ap line_of (session_grouped session)
    ∙ ap₂ (λ name following. option_map (λ reported. line.Command reported) (command_named name following)) (part_before (codes "session") rest refl) (part_after (codes "session") rest refl)
    ∙ ap (option_map (λ reported. line.Command reported)) (some_words session.name session.tab session.words named is.words words)

-- The line of a field.

field_grouped : (place : ℕ) (field : Field) → field_line place field ≡ codes "new" ++ 32 ∷ (decimal place ++ 32 ∷ (field.session ++ 32 ∷ field.input))
field_grouped place field =
    let number = decimal place in
    let name = field.session in
    ap (λ t. codes "new " ++ t)
    (ap (λ t. t ++ 32 ∷ [] ++ field.input) (append_assoc number (32 ∷ []) name)
    ∙ append_assoc (number ++ 32 ∷ name) (32 ∷ []) field.input ∙ append_assoc number (32 ∷ name) (32 ∷ field.input))

pub field_lines_read : NumbersAreDecimals → FieldLinesAreRead
field_lines_read decimals place field small is =
    let named = name_has_no_space field.session is in
    let written : number_written (decimal place) ≡ Some place = (decimals (decimal place) place).1 (small, refl) in
    let digits = bytes_all is_digit digit_byte (decimal place) (written_digits (decimal place) place written) in
    let given = field.session ++ 32 ∷ field.input in
    let rest = decimal place ++ 32 ∷ given in
    ap line_of (field_grouped place field)
    ∙ ap₂ (λ name following. option_map (λ reported. line.Command reported) (command_named name following)) (part_before (codes "new") rest refl) (part_after (codes "new") rest refl)
    ∙ (rw (part_before (decimal place) given digits, part_after (decimal place) given digits, written, part_before field.session field.input named, part_after field.session field.input named) refl)
