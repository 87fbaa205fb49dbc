-- The command line of the table's rows.
use Rattle.std.specs.Prelude.{ℕ, zero, suc}
use Rattle.clap.specs.Words.{App, Text, new_app, with_subcommand}
use Rattle.command_words.specs.Asked.{help_alone, with_check, with_eval, with_export, with_live, with_path, with_paths, with_restore, with_run, with_show, with_stream}
use Rattle.command_words.specs.declared.table.Shape.{Shape}
use Rattle.command_words.specs.declared.table.Shape.TheVariants as shape
use Rattle.command_words.specs.inside.Rows.{listed_at}

-- the subcommand of a row
abbrev pub app_for : Shape → Text → App
app_for shape.Stream name = with_stream name
app_for shape.Path name = with_path name
app_for shape.Run name = with_run name
app_for shape.Live name = with_live name
app_for shape.Show name = with_show name
app_for shape.Eval name = with_eval name
app_for shape.Check name = with_check name
app_for shape.Paths name = with_paths name
app_for shape.Format name = with_export name
app_for shape.Earlier name = with_restore name
app_for shape.Help name = help_alone name

abbrev pub app_at : ℕ → App
app_at n = app_for (listed_at n).1 (listed_at n).0

-- with the subcommands of the first rows
abbrev pub with_rows : App → ℕ → App
with_rows a zero = a
with_rows a (suc n) = with_subcommand (with_rows a n) (app_at n).top
