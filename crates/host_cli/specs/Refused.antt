-- What is printed where the words ask for nothing that there is.
use Rattle.std.specs.Prelude.{◌≡◌, ◌⊎◌, ℕ, Bool, true, false, List, None, Err, codes}
use Rattle.check_report.specs.declared.request.RequestFault.{RequestFault}
use Rattle.check_report.specs.declared.request.RequestFault.TheVariants as request
use Rattle.offline_programs.specs.Saying.{IsSaid, Saying}
use Rattle.offline_programs.specs.declared.fault.RunFault.TheVariants as fault
use Rattle.host_cli.specs.declared.plans.JobsFault.{JobsFault}
use Rattle.host_cli.specs.declared.plans.JobsFault.TheVariants as jobs_fault
use Rattle.host_cli.specs.declared.plans.PlanFault.{PlanFault}
use Rattle.host_cli.specs.declared.plans.PlanFault.TheVariants as plans
use Rattle.host_cli.specs.declared.plans.SeveralFault.{SeveralFault}
use Rattle.host_cli.specs.declared.plans.SeveralFault.TheVariants as several_fault
use Rattle.program_endings.specs.Ending.{TellsFault}
use Rattle.program_endings.specs.declared.ending.Ending.{Ending}
use Rattle.clap.specs.declared.error.kind.ErrorKind.{ErrorKind}
use Rattle.clap.specs.declared.error.kind.ErrorKind.TheVariants as kind

-- `clap` shows a text that was asked for
abbrev pub ShowsText : ErrorKind → Type 0
ShowsText k = (k ≡ kind.DisplayHelp) ⊎ (k ≡ kind.DisplayVersion)

-- what is printed of a format that there isn't
abbrev pub no_format_text : List ℕ
no_format_text = codes "error: there is no such format: FORMAT is script, markdown, html, notebook or json\n\nFor more information, try 'tmhost export --help'.\n"

-- and of words that name no number of changes
abbrev pub no_changes_text : List ℕ
no_changes_text = codes "error: this is no number of changes: N is a number, as `tmhost history` lists them\n\nFor more information, try 'tmhost history --help'.\n"

-- what is printed of words that ask for no evaluation: that name no time, or no number of a field, or numbers of fields and one to begin with,
-- or no number of sessions that go side by side, or one where it is strict
abbrev pub no_seconds_text : List ℕ
no_seconds_text = codes "error: this is no time: SECONDS is a number from 1 to 1000000\n\nFor more information, try 'tmhost eval --help'.\n"

abbrev pub no_id_text : List ℕ
no_id_text = codes "error: this is no field: ID is a number, as 3\n\nFor more information, try 'tmhost eval --help'.\n"

abbrev pub no_both_text : List ℕ
no_both_text = codes "error: --from goes with no ID after PATH\n\nFor more information, try 'tmhost eval --help'.\n"

abbrev pub no_jobs_text : List ℕ
no_jobs_text = codes "error: this is no number of jobs: N is a number from 1 to 64\n\nFor more information, try 'tmhost eval --help'.\n"

abbrev pub strict_jobs_text : List ℕ
strict_jobs_text = codes "error: --jobs goes with no --strict and no --stop-at-error\n\nFor more information, try 'tmhost eval --help'.\n"

-- and of `--changed` beside another choice of fields
abbrev pub changed_alone_text : List ℕ
changed_alone_text = codes "error: --changed goes with no ID after PATH, no --from and no --unanswered\n\nFor more information, try 'tmhost eval --help'.\n"

-- what is printed of words that ask for no run, since they name no time
abbrev pub no_run_seconds_text : List ℕ
no_run_seconds_text = codes "error: this is no time: SECONDS is a number from 1 to 1000000\n\nFor more information, try 'tmhost run --help'.\n"

-- what is printed of words that ask for no check: of a time, of a format, of two of them, of the name of a session, of numbers of fields, and
-- of a format in which nothing is accepted
abbrev pub no_check_seconds_text : List ℕ
no_check_seconds_text = codes "error: this is no time: SECONDS is a number from 1 to 1000000\n\nFor more information, try 'tmhost check --help'.\n"

abbrev pub no_report_text : List ℕ
no_report_text = codes "error: there is no such format: FORMAT is text, tap, junit or json\n\nFor more information, try 'tmhost check --help'.\n"

abbrev pub two_formats_text : List ℕ
two_formats_text = codes "error: --json goes with no --format\n\nFor more information, try 'tmhost check --help'.\n"

abbrev pub no_session_text : List ℕ
no_session_text = codes "error: no session can have this name: NAME is 1 to 32 letters, digits, `_` and `-`\n\nFor more information, try 'tmhost check --help'.\n"

abbrev pub no_ids_text : List ℕ
no_ids_text = codes "error: these are no fields: IDS are numbers and ranges of them, as 3,7-9\n\nFor more information, try 'tmhost check --help'.\n"

abbrev pub no_acceptance_text : List ℕ
no_acceptance_text = codes "error: --accept goes with no FORMAT but text\n\nFor more information, try 'tmhost check --help'.\n"

abbrev pub no_whole_text : List ℕ
no_whole_text = codes "error: --whole goes with no FORMAT but text, and with no --accept\n\nFor more information, try 'tmhost check --help'.\n"

-- and of a number of sessions that go side by side, or of one where answers are accepted
abbrev pub no_check_jobs_text : List ℕ
no_check_jobs_text = codes "error: this is no number of jobs: N is a number from 1 to 64\n\nFor more information, try 'tmhost check --help'.\n"

abbrev pub accept_jobs_text : List ℕ
accept_jobs_text = codes "error: --jobs goes with no --accept\n\nFor more information, try 'tmhost check --help'.\n"

-- and of several worksheets in another format than in words, with answers that are accepted, and with fields that are left out or compared by their numbers
abbrev pub several_formats_text : List ℕ
several_formats_text = codes "error: several PATHs go with no FORMAT but text\n\nFor more information, try 'tmhost check --help'.\n"

abbrev pub several_accept_text : List ℕ
several_accept_text = codes "error: --accept goes with one PATH alone\n\nFor more information, try 'tmhost check --help'.\n"

abbrev pub several_compared_text : List ℕ
several_compared_text = codes "error: --compare goes with one PATH alone\n\nFor more information, try 'tmhost check --help'.\n"

abbrev pub several_left_out_text : List ℕ
several_left_out_text = codes "error: --leave-out goes with one PATH alone\n\nFor more information, try 'tmhost check --help'.\n"

-- the words are refused with this text
abbrev pub RefusesWith : {E : Type 0} → List ℕ → Saying E → Ending → Type 0
RefusesWith text errors ending = (ending.status ≡ 2) × IsSaid errors text ending.reported

-- A message of `clap` was tried on a stream, and whether it went out. No contract of `clap` knows its text.
abbrev pub IsTried : {E : Type 0} → Saying E → Bool → Type 0
IsTried stream went = stream.tried stream.old None went stream.new

-- Help, or the version, was said on the output, or that failed, which is the fault.
abbrev pub ShowsHelp : {W E : Type 0} → Saying W → Saying E → Ending → Type 0
ShowsHelp output errors ending = (IsTried output true × (ending.status ≡ 0) × (errors.new ≡ errors.old))
    ⊎ (IsTried output false × (ending.status ≡ 1) × TellsFault errors ending.reported (Err fault.Output))

-- Why the words are refused was said on the stream of errors, whatever became of it.
abbrev pub RefusesWords : {E : Type 0} → Saying E → Ending → Type 0
RefusesWords errors ending = (ending.status ≡ 2) × ((went : Bool) × IsTried errors went)

-- how the program ends where the words of `eval` ask for nothing that there is, or where there was no memory for them
abbrev pub RefusesPlan : {E : Type 0} → PlanFault → Saying E → Ending → Type 0
RefusesPlan plans.Seconds errors ending = RefusesWith no_seconds_text errors ending
RefusesPlan plans.Id errors ending = RefusesWith no_id_text errors ending
RefusesPlan plans.Both errors ending = RefusesWith no_both_text errors ending
RefusesPlan plans.Jobs errors ending = RefusesWith no_jobs_text errors ending
RefusesPlan plans.Strict errors ending = RefusesWith strict_jobs_text errors ending
RefusesPlan plans.Changed errors ending = RefusesWith changed_alone_text errors ending
RefusesPlan plans.OutOfMemory errors ending = (ending.status ≡ 1) × TellsFault errors ending.reported (Err fault.OutOfMemory)

-- how the program ends where the words of `check` ask for none, or where there was no memory for them
abbrev pub RefusesRequest : {E : Type 0} → RequestFault → Saying E → Ending → Type 0
RefusesRequest request.Format errors ending = RefusesWith no_report_text errors ending
RefusesRequest request.Session errors ending = RefusesWith no_session_text errors ending
RefusesRequest request.Ids errors ending = RefusesWith no_ids_text errors ending
RefusesRequest request.Accepting errors ending = RefusesWith no_acceptance_text errors ending
RefusesRequest request.Whole errors ending = RefusesWith no_whole_text errors ending
RefusesRequest request.Both errors ending = RefusesWith two_formats_text errors ending
RefusesRequest request.OutOfMemory errors ending = (ending.status ≡ 1) × TellsFault errors ending.reported (Err fault.OutOfMemory)

-- how the program ends where they name no number of sessions
abbrev pub RefusesJobs : {E : Type 0} → JobsFault → Saying E → Ending → Type 0
RefusesJobs jobs_fault.Number errors ending = RefusesWith no_check_jobs_text errors ending
RefusesJobs jobs_fault.Accepting errors ending = RefusesWith accept_jobs_text errors ending

-- how the program ends where several worksheets aren't checked so
abbrev pub RefusesSeveral : {E : Type 0} → SeveralFault → Saying E → Ending → Type 0
RefusesSeveral several_fault.Format errors ending = RefusesWith several_formats_text errors ending
RefusesSeveral several_fault.Accepting errors ending = RefusesWith several_accept_text errors ending
RefusesSeveral several_fault.LeftOut errors ending = RefusesWith several_left_out_text errors ending
RefusesSeveral several_fault.Compared errors ending = RefusesWith several_compared_text errors ending
