-- What is written of a worksheet in each format, and what a fault tells.
use Rattle.std.specs.Prelude.{◌≡◌, ◌==◌, ℕ, Bool, true, false, List, [], ◌∷◌, Option, Some, None, IsUtf8, codes, if◌then◌else◌}
use Rattle.std.specs.Str.{bytes_eq}
use Rattle.disk_model.specs.Disk.{DiskView}
use Rattle.journal.specs.declared.opening.OpenCause.{OpenCause}
use Rattle.serde_json.specs.Read.{read}
use Rattle.sheet_json.specs.Sheets.{sheet_lines}
use Rattle.sheet_notebook.specs.Notebook.{notebook, notebook_text}
use Rattle.offline_programs.specs.Faults.{TellsShow, fault_text}
use Rattle.offline_programs.specs.declared.fault.RunFault.{RunFault}
use Rattle.offline_programs.specs.declared.fault.RunFault.TheVariants as run
use Rattle.worksheet.specs.Contents.{Contents}
use Rattle.sheet_export.specs.Html.{page}
use Rattle.sheet_export.specs.Markdown.{markdown}
use Rattle.sheet_export.specs.Script.{has_script, script_text}
use Rattle.sheet_export.specs.declared.fault.ExportFault.{ExportFault}
use Rattle.sheet_export.specs.declared.fault.ExportFault.TheVariants as fault
use Rattle.sheet_export.specs.declared.formats.Format.{Format}
use Rattle.sheet_export.specs.declared.formats.Format.TheVariants as format

-- whether a worksheet has a text in this format
abbrev pub has_text : Format → Contents → Bool
has_text format.Script sheet = has_script sheet
has_text format.Markdown sheet = true
has_text format.Html sheet = true
has_text format.Notebook sheet = true
has_text format.Json sheet = true

-- its text, with this title where the format has one
abbrev pub text_in : Format → List ℕ → Contents → List ℕ
text_in format.Script title sheet = script_text sheet
text_in format.Markdown title sheet = markdown sheet
text_in format.Html title sheet = page title sheet
text_in format.Notebook title sheet = notebook_text sheet
text_in format.Json title sheet = sheet_lines sheet

-- what the text of this format reads as, where a reader of the kit's knows it: a notebook's is UTF-8, and reads as the notebook
abbrev pub ReadsBack : Format → Contents → Type 0
ReadsBack format.Script sheet = Unit {0}
ReadsBack format.Markdown sheet = Unit {0}
ReadsBack format.Html sheet = Unit {0}
ReadsBack format.Json sheet = Unit {0}
ReadsBack format.Notebook sheet = IsUtf8 (notebook_text sheet) × (read (notebook_text sheet) ≡ Some (notebook sheet))

-- whether the whole text is made before its first byte is written, which takes memory
abbrev pub is_made_whole : Format → Bool
is_made_whole format.Script = false
is_made_whole format.Markdown = false
is_made_whole format.Html = false
is_made_whole format.Notebook = true
is_made_whole format.Json = true

-- the format of this name
abbrev pub format_named : List ℕ → Option Format
format_named name = if bytes_eq name (codes "script") then Some format.Script
    else (if bytes_eq name (codes "markdown") then Some format.Markdown
    else (if bytes_eq name (codes "html") then Some format.Html
    else (if bytes_eq name (codes "notebook") then Some format.Notebook
    else (if bytes_eq name (codes "json") then Some format.Json else None))))

-- its name
abbrev pub format_name : Format → List ℕ
format_name format.Script = codes "script"
format_name format.Markdown = codes "markdown"
format_name format.Html = codes "html"
format_name format.Notebook = codes "notebook"
format_name format.Json = codes "json"

-- what comes after the last slash of these bytes, and this part where they have none
abbrev pub after_slash : List ℕ → List ℕ → List ℕ
after_slash part [] = part
after_slash part (byte ∷ rest) = if byte == 47 then after_slash rest rest else after_slash part rest

-- the last part of a path
abbrev pub last_part : List ℕ → List ℕ
last_part path = after_slash path path

-- the line that tells a fault
abbrev pub export_fault_text : ExportFault → List ℕ
export_fault_text fault.NoScript = codes "fault 36 NoScript\n"
export_fault_text (fault.Run why) = fault_text why

-- What a fault of the program tells of writing a text: that the writer failed, or that there was no memory for the text, where its
-- format takes some, and nothing was written.
pub data TellsWriting (format : Format) (nothing : Type 0) : RunFault → Type 0 where
  unwritten : TellsWriting format nothing run.Output
  no_memory : nothing → is_made_whole format ≡ true → TellsWriting format nothing run.OutOfMemory

-- What a fault of writing a worksheet tells: that, or that it has no text, and nothing was written.
abbrev pub TellsText : Format → Contents → Type 0 → ExportFault → Type 0
TellsText format sheet nothing fault.NoScript = nothing × (has_text format sheet ≡ false)
TellsText format sheet nothing (fault.Run why) = TellsWriting format nothing why

-- What a fault of the program tells of an export: that of writing, or of opening the disk, as of `show`.
pub data TellsProgramFault (format : Format) (disk : DiskView) (nothing : Type 0) : RunFault → Type 0 where
  writing : (why : RunFault) → TellsWriting format nothing why → TellsProgramFault format disk nothing why
  opening : (why : OpenCause) → TellsShow disk nothing (run.Open why) → TellsProgramFault format disk nothing (run.Open why)

-- What a fault of an export tells: that, or that nothing was written of a worksheet without a text.
abbrev pub TellsExport : Format → DiskView → Type 0 → ExportFault → Type 0
TellsExport format disk nothing fault.NoScript = nothing
TellsExport format disk nothing (fault.Run why) = TellsProgramFault format disk nothing why
