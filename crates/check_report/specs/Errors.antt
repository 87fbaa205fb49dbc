-- Whether an output is an error, or has one in it. (docs/use/PROTOCOL.md, "Errors".)
use Rattle.std.specs.Prelude.{◌||◌, Bool, false, Option, Some, None}
use Rattle.block_tree.specs.Tree.{Items, Tree, end, text, block}
use Rattle.worksheet.specs.declared.field.Answer.{Answer}
use Rattle.sheet_notebook.specs.Pictures.{is_error_tag, is_output_tag}

-- whether an error stands among items, at any depth, which are in a block of the channel `output` or not
abbrev pub has_error : Bool → Items → Bool
has_error in_output end = false
has_error in_output (text t rest) = has_error in_output rest
has_error in_output (block channel name inside rest) = is_error_tag in_output channel name || has_error (is_output_tag channel name) inside || has_error in_output rest

-- whether a block is an error, or has one in it
abbrev pub tells_error : Tree → Bool
tells_error b = is_error_tag false b.channel b.name || has_error (is_output_tag b.channel b.name) b.items

-- whether an answer came that is an error, or has one in it
abbrev pub brings_error : Option Answer → Bool
brings_error None = false
brings_error (Some answer) = tells_error answer.output
