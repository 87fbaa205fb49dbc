-- What the words of a command line ask for.
use Rattle.std.specs.Prelude.{Bool, true, false, List, [], Option, Some, None, codes, if◌then◌else◌, map, unwrap_or}
use Rattle.std.specs.Option.{option_map}
use Rattle.std.specs.Str.{bytes_eq}
use Rattle.clap.specs.Words.{App, Row, Rule, Text, all_of, first_of, new_app, new_rule, subcommand_of, with_rule, with_subcommand}
use Rattle.clap.specs.declared.builder.action.ArgAction.TheVariants.{Append, SetTrue}
use Rattle.command_words.specs.declared.words.CheckWords.{CheckWords}
use Rattle.command_words.specs.declared.words.EvalWords.{EvalWords}
use Rattle.command_words.specs.declared.words.Flags.{Flags}
use Rattle.command_words.specs.declared.words.RunWords.{RunWords}
use Rattle.command_words.specs.declared.words.Task.{Task}
use Rattle.command_words.specs.declared.words.Task.TheVariants as task

-- what the words of `run` ask for beside its path, as contracts see it
pub record RunView : Type 0 where
  pub strict : Bool
  pub json : Bool
  pub timeout : Option Text

abbrev pub run_view : RunWords → RunView
run_view words = record { strict = words.strict; json = words.json; timeout = option_map (λ text. text.now) words.timeout }

-- what the words of `check` name, as contracts see it
pub record CheckView : Type 0 where
  pub paths : List Text
  pub json : Bool
  pub format : Option Text
  pub only : Option Text
  pub leave_out : Option Text
  pub compare : Option Text
  pub timeout : Option Text
  pub accept : Bool
  pub whole : Bool
  pub all : Bool
  pub jobs : Option Text

abbrev pub check_view : CheckWords → CheckView
check_view words = record {
  paths = map (λ text. text.now) words.paths.items;
  json = words.json;
  format = option_map (λ text. text.now) words.format;
  only = option_map (λ text. text.now) words.only;
  leave_out = option_map (λ text. text.now) words.leave_out;
  compare = option_map (λ text. text.now) words.compare;
  timeout = option_map (λ text. text.now) words.timeout;
  accept = words.accept;
  whole = words.whole;
  all = words.all;
  jobs = option_map (λ text. text.now) words.jobs;
}

-- what the words of `eval` ask for beside its path, as contracts see it
pub record EvalView : Type 0 where
  pub strict : Bool
  pub unanswered : Bool
  pub changed : Bool
  pub json : Bool
  pub keep_going : Bool
  pub stop_at_error : Bool
  pub timeout : Option Text
  pub from : Option Text
  pub jobs : Option Text
  pub ids : List Text

abbrev pub eval_view : EvalWords → EvalView
eval_view words = record {
  strict = words.strict;
  unanswered = words.unanswered;
  changed = words.changed;
  json = words.json;
  keep_going = words.keep_going;
  stop_at_error = words.stop_at_error;
  timeout = option_map (λ text. text.now) words.timeout;
  from = option_map (λ text. text.now) words.from;
  jobs = option_map (λ text. text.now) words.jobs;
  ids = map (λ text. text.now) words.ids.items;
}

-- a task as contracts see it: a path is its bytes
pub data TaskView : Type 0 where
  blocks : TaskView
  blocks_json : TaskView
  create : Text → TaskView
  run : Text → RunView → TaskView
  live : Text → TaskView
  live_json : Text → TaskView
  live_partial : Text → TaskView
  eval : Text → EvalView → TaskView
  show : Text → TaskView
  show_json : Text → TaskView
  check : Text → CheckView → TaskView
  rescue : Text → Text → TaskView
  export : Text → Text → TaskView
  history : Text → TaskView
  show_at : Text → Text → TaskView
  show_json_at : Text → Text → TaskView
  export_at : Text → Text → Text → TaskView
  restore : Text → Text → Text → TaskView

abbrev pub task_view : Task → TaskView
task_view task.Blocks = blocks
task_view task.BlocksJson = blocks_json
task_view (task.Create path) = create path.now
task_view (task.Run path words) = run path.now (run_view words)
task_view (task.Live path) = live path.now
task_view (task.LiveJson path) = live_json path.now
task_view (task.LivePartial path) = live_partial path.now
task_view (task.Eval path words) = eval path.now (eval_view words)
task_view (task.Show path) = show path.now
task_view (task.ShowJson path) = show_json path.now
task_view (task.Check path words) = check path.now (check_view words)
task_view (task.Rescue path new) = rescue path.now new.now
task_view (task.Export format path) = export format.now path.now
task_view (task.History path) = history path.now
task_view (task.ShowAt path changes) = show_at path.now changes.now
task_view (task.ShowJsonAt path changes) = show_json_at path.now changes.now
task_view (task.ExportAt format path changes) = export_at format.now path.now changes.now
task_view (task.Restore path changes new) = restore path.now changes.now new.now

-- the one argument of a subcommand that has one
abbrev pub path_rule : Rule
path_rule = record (new_rule (codes "PATH")) { required = true }

abbrev pub with_path : Text → App
with_path name = with_rule (new_app name) path_rule

-- and of those with a flag before it or after it
abbrev pub strict_rule : Rule
strict_rule = record (new_rule (codes "strict")) { long = Some (codes "strict"); action = Some SetTrue }

abbrev pub with_strict : Text → App
with_strict name = with_rule (with_path name) strict_rule

abbrev pub json_rule : Rule
json_rule = record (new_rule (codes "json")) { long = Some (codes "json"); action = Some SetTrue }

abbrev pub with_run_json : Text → App
with_run_json name = with_rule (with_strict name) json_rule

abbrev pub timeout_rule : Rule
timeout_rule = record (new_rule (codes "timeout")) { long = Some (codes "timeout"); value_names = 1 }

abbrev pub with_run : Text → App
with_run name = with_rule (with_run_json name) timeout_rule

abbrev pub with_stream : Text → App
with_stream name = with_rule (new_app name) json_rule

abbrev pub with_json : Text → App
with_json name = with_rule (with_path name) json_rule

-- and of `live`, with another flag after these
abbrev pub partial_rule : Rule
partial_rule = record (new_rule (codes "partial")) { long = Some (codes "partial"); action = Some SetTrue }

abbrev pub with_live : Text → App
with_live name = with_rule (with_json name) partial_rule

-- and of `show`, and of `export`, with the number of a change after the others
abbrev pub at_rule : Rule
at_rule = record (new_rule (codes "at")) { long = Some (codes "at"); value_names = 1 }

abbrev pub with_show : Text → App
with_show name = with_rule (with_json name) at_rule

-- and of the one with as many paths as there are, and with options: whether it writes JSON, the format of its report, the session that it is about, the fields
-- that aren't compared, those that alone are, the time that a field may take, whether answers that differ are accepted, whether outputs are whole, whether fields that show no answer are checked too, and how many sessions go side by side
abbrev pub paths_rule : Rule
paths_rule = record (new_rule (codes "PATH")) { required = true; action = Some Append }

abbrev pub with_worksheets : Text → App
with_worksheets name = with_rule (new_app name) paths_rule

abbrev pub with_check_json : Text → App
with_check_json name = with_rule (with_worksheets name) json_rule

abbrev pub report_rule : Rule
report_rule = record (new_rule (codes "format")) { long = Some (codes "format"); value_names = 1 }

abbrev pub with_report : Text → App
with_report name = with_rule (with_check_json name) report_rule

abbrev pub session_rule : Rule
session_rule = record (new_rule (codes "only")) { long = Some (codes "only"); value_names = 1 }

abbrev pub with_session : Text → App
with_session name = with_rule (with_report name) session_rule

abbrev pub left_out_rule : Rule
left_out_rule = record (new_rule (codes "leave-out")) { long = Some (codes "leave-out"); value_names = 1 }

abbrev pub with_left_out : Text → App
with_left_out name = with_rule (with_session name) left_out_rule

abbrev pub compared_rule : Rule
compared_rule = record (new_rule (codes "compare")) { long = Some (codes "compare"); value_names = 1 }

abbrev pub with_compared : Text → App
with_compared name = with_rule (with_left_out name) compared_rule

abbrev pub with_check_timeout : Text → App
with_check_timeout name = with_rule (with_compared name) timeout_rule

abbrev pub accept_rule : Rule
accept_rule = record (new_rule (codes "accept")) { long = Some (codes "accept"); action = Some SetTrue }

abbrev pub with_accept : Text → App
with_accept name = with_rule (with_check_timeout name) accept_rule

abbrev pub jobs_rule : Rule
jobs_rule = record (new_rule (codes "jobs")) { long = Some (codes "jobs"); value_names = 1 }

abbrev pub whole_rule : Rule
whole_rule = record (new_rule (codes "whole")) { long = Some (codes "whole"); action = Some SetTrue }

abbrev pub with_whole : Text → App
with_whole name = with_rule (with_accept name) whole_rule

abbrev pub all_rule : Rule
all_rule = record (new_rule (codes "all")) { long = Some (codes "all"); action = Some SetTrue }

abbrev pub with_all : Text → App
with_all name = with_rule (with_whole name) all_rule

abbrev pub with_check : Text → App
with_check name = with_rule (with_all name) jobs_rule

-- and of `eval`, with flags, the time that a field may take, the number of the first field, how many sessions go side by side, and numbers of
-- fields after the path
abbrev pub unanswered_rule : Rule
unanswered_rule = record (new_rule (codes "unanswered")) { long = Some (codes "unanswered"); action = Some SetTrue }

abbrev pub with_unanswered : Text → App
with_unanswered name = with_rule (with_strict name) unanswered_rule

abbrev pub changed_rule : Rule
changed_rule = record (new_rule (codes "changed")) { long = Some (codes "changed"); action = Some SetTrue }

abbrev pub with_changed : Text → App
with_changed name = with_rule (with_unanswered name) changed_rule

abbrev pub with_eval_json : Text → App
with_eval_json name = with_rule (with_changed name) json_rule

abbrev pub with_timeout : Text → App
with_timeout name = with_rule (with_eval_json name) timeout_rule

abbrev pub keep_going_rule : Rule
keep_going_rule = record (new_rule (codes "keep-going")) { long = Some (codes "keep-going"); action = Some SetTrue }

abbrev pub with_keep_going : Text → App
with_keep_going name = with_rule (with_timeout name) keep_going_rule

abbrev pub stop_at_error_rule : Rule
stop_at_error_rule = record (new_rule (codes "stop-at-error")) { long = Some (codes "stop-at-error"); action = Some SetTrue }

abbrev pub with_stop_at_error : Text → App
with_stop_at_error name = with_rule (with_keep_going name) stop_at_error_rule

abbrev pub from_rule : Rule
from_rule = record (new_rule (codes "from")) { long = Some (codes "from"); value_names = 1 }

abbrev pub with_from : Text → App
with_from name = with_rule (with_stop_at_error name) from_rule

abbrev pub with_jobs : Text → App
with_jobs name = with_rule (with_from name) jobs_rule

abbrev pub ids_rule : Rule
ids_rule = record (new_rule (codes "ID")) { action = Some Append }

abbrev pub with_eval : Text → App
with_eval name = with_rule (with_jobs name) ids_rule

-- and of the one with a second path after the first
abbrev pub second_rule : Rule
second_rule = record (new_rule (codes "NEW")) { required = true }

abbrev pub with_paths : Text → App
with_paths name = with_rule (with_path name) second_rule

-- and of the one with a format before its path
abbrev pub format_rule : Rule
format_rule = record (new_rule (codes "FORMAT")) { required = true }

abbrev pub with_format : Text → App
with_format name = with_rule (new_app name) format_rule

abbrev pub with_format_and_path : Text → App
with_format_and_path name = with_rule (with_format name) path_rule

abbrev pub with_export : Text → App
with_export name = with_rule (with_format_and_path name) at_rule

-- and of the one with the number of a change between its two paths
abbrev pub changes_rule : Rule
changes_rule = record (new_rule (codes "N")) { required = true }

abbrev pub with_changes : Text → App
with_changes name = with_rule (with_path name) changes_rule

abbrev pub with_restore : Text → App
with_restore name = with_rule (with_changes name) second_rule

-- a subcommand that shows its help alone
abbrev pub help_alone : Text → App
help_alone name =
    let a = new_app name in record a { top = record a.top { arg_required_else_help = true } }

-- the command line before its subcommands: it has a version
abbrev pub bare_tmhost : App
bare_tmhost = let a = new_app (codes "tmhost") in record a { top = record a.top { has_version = true } }

-- the command line of `tmhost`: subcommands, six of them with a path, `run`, `live` and `show` with flags or options beside it, `blocks` with a flag alone, `eval` with flags, options and numbers, `check` with as many paths as there are and with options, two with two, and one with a format and a path
abbrev pub tmhost : App
tmhost = with_subcommand (with_subcommand (with_subcommand (with_subcommand (with_subcommand (with_subcommand (with_subcommand (with_subcommand (with_subcommand (with_subcommand (with_subcommand
    (with_subcommand bare_tmhost (with_stream (codes "blocks")).top)
    (with_path (codes "create")).top) (with_run (codes "run")).top) (with_live (codes "live")).top) (with_eval (codes "eval")).top)
    (with_show (codes "show")).top) (with_check (codes "check")).top) (with_paths (codes "rescue")).top) (with_export (codes "export")).top)
    (with_path (codes "history")).top) (with_restore (codes "restore")).top) (help_alone (codes "faults")).top

-- a flag is given where its value is `true`
abbrev pub is_set : Option Text → Bool
is_set None = false
is_set (Some value) = bytes_eq value (codes "true")

-- the flags and options, as contracts see them
pub record FlagsView : Type 0 where
  pub json : Bool
  pub partial : Bool
  pub at : Option Text
  pub changes : Option Text
  pub run : RunView
  pub eval : EvalView
  pub check : CheckView

abbrev pub flags_view : Flags → FlagsView
flags_view flags = record { json = flags.json; partial = flags.partial; at = option_map (λ text. text.now) flags.at; changes = option_map (λ text. text.now) flags.changes; run = run_view flags.run; eval = eval_view flags.eval; check = check_view flags.check }

-- what the words of `run` ask for among these words
abbrev pub run_in : List Row → RunView
run_in rows = record { strict = is_set (first_of (codes "strict") rows); json = is_set (first_of (codes "json") rows); timeout = first_of (codes "timeout") rows }

-- the paths that the words of `check` name among these words
abbrev pub paths_in : List Row → List Text
paths_in rows = unwrap_or (all_of (codes "PATH") rows) []

-- what they name
abbrev pub check_in : List Row → CheckView
check_in rows = record {
  paths = paths_in rows;
  json = is_set (first_of (codes "json") rows);
  format = first_of (codes "format") rows;
  only = first_of (codes "only") rows;
  leave_out = first_of (codes "leave-out") rows;
  compare = first_of (codes "compare") rows;
  timeout = first_of (codes "timeout") rows;
  accept = is_set (first_of (codes "accept") rows);
  whole = is_set (first_of (codes "whole") rows);
  all = is_set (first_of (codes "all") rows);
  jobs = first_of (codes "jobs") rows;
}

-- the numbers of fields that those of `eval` name
abbrev pub ids_in : List Row → List Text
ids_in rows = unwrap_or (all_of (codes "ID") rows) []

-- what those of `eval` ask for
abbrev pub eval_in : List Row → EvalView
eval_in rows = record {
  strict = is_set (first_of (codes "strict") rows);
  unanswered = is_set (first_of (codes "unanswered") rows);
  changed = is_set (first_of (codes "changed") rows);
  json = is_set (first_of (codes "json") rows);
  keep_going = is_set (first_of (codes "keep-going") rows);
  stop_at_error = is_set (first_of (codes "stop-at-error") rows);
  timeout = first_of (codes "timeout") rows;
  from = first_of (codes "from") rows;
  jobs = first_of (codes "jobs") rows;
  ids = ids_in rows;
}

abbrev pub flags_in : List Row → FlagsView
flags_in rows = record { json = is_set (first_of (codes "json") rows); partial = is_set (first_of (codes "partial") rows); at = first_of (codes "at") rows; changes = first_of (codes "N") rows; run = run_in rows; eval = eval_in rows; check = check_in rows }

abbrev pub blocks_by : Bool → TaskView
blocks_by true = blocks_json
blocks_by false = blocks

-- by whether it writes JSON, and whether also what is no answer yet, which is JSON too
abbrev pub live_by : Bool → Bool → Text → TaskView
live_by json true path = live_partial path
live_by true false path = live_json path
live_by false false path = live path

abbrev pub show_by : Bool → Option Text → Text → TaskView
show_by true None path = show_json path
show_by false None path = show path
show_by true (Some changes) path = show_json_at path changes
show_by false (Some changes) path = show_at path changes

abbrev pub export_by : Text → Option Text → Text → TaskView
export_by format None path = export format path
export_by format (Some changes) path = export_at format path changes

-- without a number, `clap` refuses the words
abbrev pub restore_by : Text → Option Text → Text → TaskView
restore_by path None new = blocks
restore_by path (Some changes) new = restore path changes new

-- the task of a subcommand with a path, by its flags
abbrev pub by_path : Text → Text → FlagsView → TaskView
by_path name path flags = if bytes_eq name (codes "create") then create path
    else (if bytes_eq name (codes "run") then run path flags.run
    else (if bytes_eq name (codes "live") then live_by flags.json flags.partial path
    else (if bytes_eq name (codes "eval") then eval path flags.eval
    else (if bytes_eq name (codes "show") then show_by flags.json flags.at path
    else (if bytes_eq name (codes "check") then check path flags.check
    else (if bytes_eq name (codes "history") then history path else blocks))))))

-- The task of a subcommand with two paths, or with one path, or with a format and a path.
abbrev pub by_words : Text → Text → Option Text → Option Text → FlagsView → TaskView
by_words name path None None flags = by_path name path flags
by_words name path None (Some format) flags = if bytes_eq name (codes "export") then export_by format flags.at path else blocks
by_words name path (Some new) format flags = if bytes_eq name (codes "rescue") then rescue path new
    else (if bytes_eq name (codes "restore") then restore_by path flags.changes new else blocks)

-- The task of a subcommand with its words; `blocks` has no path. Where another has none, `clap` refuses
-- the words.
abbrev pub by_paths : Text → Option Text → Option Text → Option Text → FlagsView → TaskView
by_paths name None new format flags = blocks_by flags.json
by_paths name (Some path) new format flags = by_words name path new format flags

-- the task of a subcommand, and `blocks` where there is none
abbrev pub by_subcommand : Option (Text × List Row) → TaskView
by_subcommand None = blocks
by_subcommand (Some subcommand) = by_paths subcommand.0 (first_of (codes "PATH") subcommand.1)
    (first_of (codes "NEW") subcommand.1) (first_of (codes "FORMAT") subcommand.1) (flags_in subcommand.1)

-- the task that the words ask for, of which the first is the program's own name
abbrev pub asked_by : List Text → TaskView
asked_by words = by_subcommand (subcommand_of tmhost words)
