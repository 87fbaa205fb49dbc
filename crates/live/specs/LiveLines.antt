-- What a line says that comes while interpreters work: a line of a script, or one of six forms more. (docs/use/SCRIPT.md, "Live".)
use Rattle.std.specs.Prelude.{ℕ, ◌&&◌, List, Option, Some, None, nat_le, codes, if◌then◌else◌}
use Rattle.std.specs.Option.{option_map}
use Rattle.std.specs.Str.{bytes_eq}
use Rattle.worksheet.specs.Names.{is_name}
use Rattle.sheet_text.specs.Script.{before_space, after_space, line_of, number_written}
use Rattle.live.specs.declared.live_line.LiveLine.{LiveLine}
use Rattle.live.specs.declared.live_line.LiveLine.TheVariants as live
use Rattle.sheet_text.specs.declared.script.ScriptLine.{ScriptLine}
use Rattle.sheet_export.specs.Formats.{format_named}

-- the most seconds of a wait
abbrev pub most_seconds : ℕ
most_seconds = 1000000

-- a wait of 1 to 1,000,000 seconds
abbrev pub wait_of : Option ℕ → Option LiveLine
wait_of None = None
wait_of (Some seconds) = if nat_le 1 seconds && nat_le seconds most_seconds then Some (live.WaitFor seconds) else None

-- an interrupt of a session with a name that a session may have
abbrev pub interrupt_of : List ℕ → Option LiveLine
interrupt_of name = if is_name name then Some (live.Interrupt name) else None

-- `print ID`, `wait SECONDS`, `interrupt NAME` and `export FORMAT`
abbrev pub form_named : List ℕ → List ℕ → Option LiveLine
form_named name rest =
    if bytes_eq name (codes "print") then option_map (λ id. live.PrintField id) (number_written rest)
    else if bytes_eq name (codes "wait") then wait_of (number_written rest)
    else if bytes_eq name (codes "interrupt") then interrupt_of rest
    else if bytes_eq name (codes "export") then option_map (λ format. live.Export format) (format_named rest)
    else None

-- `begin` and `end`
abbrev pub word_of : List ℕ → Option LiveLine
word_of word =
    if bytes_eq word (codes "begin") then Some live.Begin
    else if bytes_eq word (codes "end") then Some live.End
    else None

abbrev pub form_of : List ℕ → Option (List ℕ) → Option LiveLine
form_of name None = word_of name
form_of name (Some rest) = form_named name rest

abbrev pub script_or_form : Option ScriptLine → List ℕ → Option LiveLine
script_or_form (Some said) bytes = Some (live.Script said)
script_or_form None bytes = form_of (before_space bytes) (after_space bytes)

-- what the line says, and nothing where it has no such form
abbrev pub live_line_of : List ℕ → Option LiveLine
live_line_of bytes = script_or_form (line_of bytes) bytes
