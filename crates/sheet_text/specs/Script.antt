-- What a line of a script says, by docs/use/SCRIPT.md. Parts of a line are separated by exactly one space.
use Rattle.std.specs.Prelude.{ℕ, ◌+◌, ◌==◌, ◌&&◌, ◌||◌, not, Bool, true, false, List, [], ◌∷◌, Option, Some, None, length, drop, nat_le, codes, if◌then◌else◌}
use Rattle.std.specs.List.{before_first, position, slice_split, list_all}
use Rattle.std.specs.Option.{option_map}
use Rattle.std.specs.Str.{bytes_eq}
use Rattle.std.specs.Str.Parse.{digits_value}
use Rattle.host_events.specs.declared.command.Command.{Command}
use Rattle.host_events.specs.declared.command.Command.TheVariants as command
use Rattle.sheet_text.specs.declared.script.ScriptLine.{ScriptLine}
use Rattle.sheet_text.specs.declared.script.ScriptLine.TheVariants as line

-- Parts of a line.

abbrev pub is_space : ℕ → Bool
is_space byte = byte == 32

-- the bytes up to the next space, or all
abbrev pub before_space : List ℕ → List ℕ
before_space bytes = before_first is_space bytes

-- the bytes after that space, where there is one
abbrev pub after_space : List ℕ → Option (List ℕ)
after_space bytes = option_map (λ at. drop (at + 1) bytes) (position is_space bytes)

-- a text is all that follows its space, and empty where the space is missing
abbrev pub text_given : Option (List ℕ) → List ℕ
text_given None = []
text_given (Some bytes) = bytes

-- words are split at each space, and there is none where the space in front of them is missing
abbrev pub words_of : Option (List ℕ) → List (List ℕ)
words_of None = []
words_of (Some bytes) = slice_split is_space bytes

-- Numbers.

abbrev pub is_digit : ℕ → Bool
is_digit byte = nat_le 48 byte && nat_le byte 57

abbrev pub starts_with_zero : List ℕ → Bool
starts_with_zero [] = false
starts_with_zero (byte ∷ bytes) = byte == 48

-- the most digits of a number, and the greatest one
abbrev pub most_digits : ℕ
most_digits = 10

abbrev pub greatest_number : ℕ
greatest_number = 4294967295

-- `0`, or 1 to 10 digits without a leading zero
abbrev pub is_numeral : List ℕ → Bool
is_numeral bytes = nat_le 1 (length bytes) && nat_le (length bytes) most_digits && list_all is_digit bytes && (not (starts_with_zero bytes) || (length bytes == 1))

-- the number that these bytes write, where it is at most 4,294,967,295
abbrev pub number_written : List ℕ → Option ℕ
number_written bytes = if is_numeral bytes && nat_le (digits_value 10 bytes) greatest_number then Some (digits_value 10 bytes) else None

-- Commands: what comes after the space that ends the name of one.

-- the flag of a session, whether it is `tab`
abbrev pub flag_of : List ℕ → Option Bool
flag_of bytes = if bytes_eq bytes (codes "tab") then Some true else if bytes_eq bytes (codes "plain") then Some false else None

abbrev pub session_with : List ℕ → Option Bool → List (List ℕ) → Option Command
session_with name None words = None
session_with name (Some tab) words = Some (command.Session name tab words)

-- FLAG WORDS
abbrev pub session_flagged : List ℕ → Option (List ℕ) → Option Command
session_flagged name None = None
session_flagged name (Some rest) = session_with name (flag_of (before_space rest)) (words_of (after_space rest))

-- NAME FLAG WORDS
abbrev pub session_of : List ℕ → Option Command
session_of rest = session_flagged (before_space rest) (after_space rest)

-- NAME TEXT
abbrev pub new_after : Option ℕ → Option (List ℕ) → Option Command
new_after None rest = None
new_after (Some after) None = None
new_after (Some after) (Some rest) = Some (command.New after (before_space rest) (text_given (after_space rest)))

-- AFTER NAME TEXT
abbrev pub new_of : List ℕ → Option Command
new_of rest = new_after (number_written (before_space rest)) (after_space rest)

-- ID TEXT
abbrev pub set_of : List ℕ → Option Command
set_of rest = option_map (λ id. command.Set id (text_given (after_space rest))) (number_written (before_space rest))

-- two numbers, the second after the space that ends the first
abbrev pub numbers_after : Option ℕ → Option (List ℕ) → Option (ℕ × ℕ)
numbers_after None rest = None
numbers_after (Some first) None = None
numbers_after (Some first) (Some rest) = option_map (λ second. (first, second)) (number_written rest)

abbrev pub two_numbers : List ℕ → Option (ℕ × ℕ)
two_numbers rest = numbers_after (number_written (before_space rest)) (after_space rest)

-- ID AFTER
abbrev pub move_of : List ℕ → Option Command
move_of rest = option_map (λ numbers. command.Move numbers.0 numbers.1) (two_numbers rest)

-- the text after the space that ends a cursor; where that space is missing, the input of the field is meant
abbrev pub complete_at : ℕ → Option ℕ → Option (List ℕ) → Option Command
complete_at id None text = None
complete_at id (Some cursor) None = Some (command.Complete id cursor)
complete_at id (Some cursor) (Some text) = Some (command.CompleteText id cursor text)

-- CURSOR, or CURSOR TEXT
abbrev pub complete_after : Option ℕ → Option (List ℕ) → Option Command
complete_after None rest = None
complete_after (Some id) None = None
complete_after (Some id) (Some rest) = complete_at id (number_written (before_space rest)) (after_space rest)

-- ID CURSOR, or ID CURSOR TEXT
abbrev pub complete_of : List ℕ → Option Command
complete_of rest = complete_after (number_written (before_space rest)) (after_space rest)

-- the command of this name, with what comes after the space that ends the name
abbrev pub command_of : List ℕ → List ℕ → Option Command
command_of name rest =
    if bytes_eq name (codes "session") then session_of rest
    else if bytes_eq name (codes "new") then new_of rest
    else if bytes_eq name (codes "set") then set_of rest
    else if bytes_eq name (codes "remove") then option_map (λ id. command.Remove id) (number_written rest)
    else if bytes_eq name (codes "move") then move_of rest
    else if bytes_eq name (codes "clear") then option_map (λ id. command.Clear id) (number_written rest)
    else if bytes_eq name (codes "eval") then option_map (λ id. command.Eval id) (number_written rest)
    else if bytes_eq name (codes "complete") then complete_of rest
    else if bytes_eq name (codes "stop") then Some (command.Stop rest)
    else None

abbrev pub command_named : List ℕ → Option (List ℕ) → Option Command
command_named name None = None
command_named name (Some rest) = command_of name rest

-- Lines.

-- an empty line, and a remark, which begins with '#'
abbrev pub is_skipped : List ℕ → Bool
is_skipped [] = true
is_skipped (byte ∷ bytes) = byte == 35

-- what the line says, and nothing where it has no such form
abbrev pub line_of : List ℕ → Option ScriptLine
line_of bytes =
    if is_skipped bytes then Some line.Skip
    else if bytes_eq bytes (codes "wait") then Some line.Wait
    else if bytes_eq bytes (codes "print") then Some line.Print
    else if bytes_eq bytes (codes "checkpoint") then Some (line.Command command.Checkpoint)
    else option_map (λ reported. line.Command reported) (command_named (before_space bytes) (after_space bytes))

-- Memory.

-- a command with bytes of its own, which have to be kept
abbrev pub keeps_bytes : Command → Bool
keeps_bytes (command.Session name tab words) = true
keeps_bytes (command.New after session input) = true
keeps_bytes (command.Set id input) = true
keeps_bytes (command.Remove id) = false
keeps_bytes (command.Move id after) = false
keeps_bytes (command.Clear id) = false
keeps_bytes (command.Eval id) = false
keeps_bytes (command.Complete id cursor) = false
keeps_bytes (command.CompleteText id cursor text) = true
keeps_bytes (command.Stop name) = true
keeps_bytes command.Checkpoint = false

abbrev pub wants_memory_for : Option Command → Bool
wants_memory_for None = false
wants_memory_for (Some reported) = keeps_bytes reported

-- a line that says such a command
abbrev pub wants_memory : Option ScriptLine → Bool
wants_memory (Some (line.Command reported)) = keeps_bytes reported
wants_memory _ = false
