-- What each task does, over all that is outside.
use Rattle.std.specs.Prelude.{◌≡◌, ◌⊎◌, ◌||◌, ℕ, true, false, Bool, List, [], Option, is_some, nat_le, Result, Ok, Err, IfOk, IfErr, MatchOption, MatchResult, ◌∷◌, ◌++◌}
use Rattle.std.specs.Bool.{MatchBool}
use Rattle.std.specs.Io.KnownBytes.{Appends}
use Rattle.clap.specs.Words.{Text}
use Rattle.check_report.specs.Requests.{Asks, AsksNone, field_words, report_words}
use Rattle.check_report.specs.declared.report.ReportFormat.{ReportFormat as Report}
use Rattle.check_report.specs.declared.report.ReportFormat.TheVariants as report
use Rattle.check_report.specs.declared.request.Request.{Request}
use Rattle.check_report.specs.declared.request.RequestFault.{RequestFault}
use Rattle.command_words.specs.Asked.{CheckView, EvalView, RunView}
use Rattle.host_cli.specs.Plans.{AsksNoPlan, AsksPlan, check_jobs_asked, limit_asked, CheckBounds, CheckPlan, are_several, check_bounds, check_plan, several_refused}
use Rattle.host_cli.specs.Refused.{RefusesJobs, RefusesPlan, RefusesRequest, RefusesSeveral, RefusesWith, no_changes_text, no_check_seconds_text, no_format_text, no_run_seconds_text}
use Rattle.host_cli.specs.declared.outside.Outside.{Outside}
use Rattle.host_cli.specs.Outside.{OutsideView}
use Rattle.host_cli.specs.declared.plans.JobsFault.{JobsFault}
use Rattle.host_cli.specs.declared.plans.PlanFault.{PlanFault}
use Rattle.live.specs.Records.{as_it_comes, line_by_line}
use Rattle.live.specs.declared.manner.Manner.{Manner}
use Rattle.host_cli.specs.declared.plans.SeveralFault.{SeveralFault}
use Rattle.offline_programs.specs.Saying.{Saying, saying}
use Rattle.offline_programs.specs.declared.fault.RunFault.{RunFault}
use Rattle.offline_programs.specs.declared.fault.RunFault.TheVariants as fault
use Rattle.program_endings.specs.AcceptProgram.{AcceptEnds, accept_setting}
use Rattle.program_endings.specs.CheckProgram.{CheckEnds}
use Rattle.program_endings.specs.SeveralProgram.{TotalEnds, ending_of, is_unwritten, total_of, worksheet_line}
use Rattle.program_endings.specs.TogetherProgram.{TogetherEnds}
use Rattle.program_endings.specs.Ending.{EndsAs, ProgramAnswer}
use Rattle.program_endings.specs.BlocksProgram.{BlocksEnd, ObjectsEnd}
use Rattle.program_endings.specs.EvalProgram.{EvaluationOpened, eval_setting}
use Rattle.program_endings.specs.ExportProgram.{ExportEnds}
use Rattle.program_endings.specs.PastProgram.{EndsPast, FilesArePast, HistoryEnds, PastExported, PastShown}
use Rattle.past.specs.declared.fault.PastFault.{PastFault}
use Rattle.program_endings.specs.Faults.{no_place}
use Rattle.program_endings.specs.Programs.{CreateEnds, EndsUnopened, ShowEnds, TellsMake}
use Rattle.program_endings.specs.Records.{ProgramPassage, Streams, calling, given_disk, passage_of, streams, writing}
use Rattle.program_endings.specs.LiveProgram.{LiveOpened, LiveUnopened, live_setting}
use Rattle.tellings.specs.Json.{in_json}
use Rattle.tellings.specs.Voice.{Voice}
use Rattle.tellings.specs.Words.{in_words}
use Rattle.program_endings.specs.RescueProgram.{FilesAreRead, RescueEnds, said_streams}
use Rattle.program_endings.specs.ScriptProgram.{ScriptOpened, script_setting}
use Rattle.program_endings.specs.declared.check_program.CheckEnding.{CheckEnding}
use Rattle.program_endings.specs.declared.ending.Ending.{Ending}
use Rattle.recovery.specs.declared.rescuing.Rescued.{Rescued}
use Rattle.sheet_export.specs.Formats.{format_named, last_part}
use Rattle.sheet_export.specs.declared.formats.Format.{Format}
use Rattle.sheet_text.specs.Script.{number_written}
use Rattle.sheet_files.specs.declared.files_fault.FilesFault.{FilesFault}
use Rattle.sheet_files.specs.declared.files_fault.HoldFault.{HoldFault}
use Rattle.sheet_files.specs.declared.files_fault.MakeFault.{MakeFault}
use Rattle.sheet_check.specs.declared.named.CheckFault.TheVariants as checks
use Rattle.evaluation.specs.declared.plan.Plan.{Plan}

abbrev pub voice_by : Bool → Voice
voice_by true = in_json
voice_by false = in_words

-- what a run by lines does, or one of a script
abbrev pub EitherRuns : Bool → Type 0 → Type 0 → Type 0
EitherRuns true lines script = lines
EitherRuns false lines script = script

module _ {Y D P S I W E Q : Type 0} where
  -- nothing but the places and the stream of errors was touched
  abbrev pub OnlyHeld : Outside Y D P S I W E Q → Outside Y D P S I W E Q → Type 0
  OnlyHeld old new = (new.sources ≡ old.sources) × (new.input ≡ old.input) × (new.output ≡ old.output) × (new.progress ≡ old.progress)

  -- nothing but the output and the stream of errors was touched
  abbrev pub OnlyWritten : Outside Y D P S I W E Q → Outside Y D P S I W E Q → Type 0
  OnlyWritten old new = (new.places ≡ old.places) × (new.sources ≡ old.sources) × (new.input ≡ old.input) × (new.progress ≡ old.progress)

module _ {Y D P S I W E Q : Type 0} (o : OutsideView D P S I W E) where
  -- what is said on the stream of errors, and on the output
  abbrev pub errors_of : Outside Y D P S I W E Q → Outside Y D P S I W E Q → Saying E
  errors_of old new = saying o.streams.said o.streams.tried old.errors new.errors

  abbrev pub output_of : Outside Y D P S I W E Q → Outside Y D P S I W E Q → Saying W
  output_of old new = saying o.streams.written o.streams.shown old.output new.output

  -- the output and the stream of errors, before and after
  abbrev pub streams_of : Outside Y D P S I W E Q → Outside Y D P S I W E Q → Streams W E
  streams_of old new = streams (writing o.streams.written old.output new.output) (errors_of old new)

  -- the sources, the interpreters among them, and the output, before and after, as a program has them beside a disk
  abbrev pub passed_of : Outside Y D P S I W E Q → Outside Y D P S I W E Q → ProgramPassage D S W
  passed_of old new = passage_of o.disks o.sources (calling old.sources new.sources) (writing o.streams.written old.output new.output)

  -- how a program with this answer ends, and what it says on the stream of errors
  abbrev pub EndsWith : Outside Y D P S I W E Q → Outside Y D P S I W E Q → Ending → ProgramAnswer → Type 0
  EndsWith old new ending answer = EndsAs (errors_of old new) ending answer

  -- The places of the standard streams are held before anything else is done. Where they can't be, that is the fault.
  abbrev pub HeldFirst : Outside Y D P S I W E Q → Outside Y D P S I W E Q → (RunFault → Type 0) → (P → Type 0) → Type 0
  HeldFirst old new faulted then =
      ((f : HoldFault) × o.places.holds old.places (Err f) new.places × OnlyHeld old new × faulted (no_place f)) ⊎ ((held : P) × o.places.holds old.places (Ok tt) held × then held)

  -- `blocks`
  abbrev pub DoesBlocks : Outside Y D P S I W E Q → Outside Y D P S I W E Q → Ending → Type 0
  DoesBlocks old new ending = BlocksEnd (o.streams.stream old.input) (streams_of old new) ending

  -- `blocks --json`, which has a fault of its own last
  abbrev pub DoesBlocksInJson : Outside Y D P S I W E Q → Outside Y D P S I W E Q → Ending → Type 0
  DoesBlocksInJson old new ending = ObjectsEnd (o.streams.stream old.input) (streams_of old new) ending

  -- `create` of what the places make at a path, or of why they don't
  abbrev pub DoesCreate : Outside Y D P S I W E Q → Outside Y D P S I W E Q → Ending → Text → Type 0
  DoesCreate old new ending path =
      HeldFirst old new (λ why. EndsWith old new ending (Err why)) (λ held. (files : Result D MakeFault) × o.places.creates held path files new.places
      × IfErr files (λ why. (ending.status ≡ 1) × TellsMake (errors_of old new) ending.reported why)
      × IfOk files (λ disk. CreateEnds (given_disk o.disks disk) (errors_of old new) ending))

  -- `show` of what they open to read at a path
  abbrev pub DoesShow : Outside Y D P S I W E Q → Outside Y D P S I W E Q → Ending → Text → Type 0
  DoesShow old new ending path =
      HeldFirst old new (λ why. EndsWith old new ending (Err why)) (λ held. (files : Result D FilesFault) × o.places.reads held path files new.places
      × ShowEnds o.disks files (streams_of old new) ending)

  -- `check` of the same, of one field after another
  abbrev pub ChecksAs : Outside Y D P S I W E Q → Outside Y D P S I W E Q → CheckEnding → Text → CheckPlan → Type 0
  ChecksAs old new end path c = (files : Result D FilesFault) × o.places.reads old.places path files new.places
      × CheckEnds c.request files (passed_of old new) (errors_of old new) end

  -- the same, of fields of so many sessions side by side
  abbrev pub TogetherAs : Outside Y D P S I W E Q → Outside Y D P S I W E Q → CheckEnding → Text → CheckPlan → Type 0
  TogetherAs old new end path c = (files : Result D FilesFault) × o.places.reads old.places path files new.places
      × TogetherEnds c.jobs c.request files (passed_of old new) (errors_of old new) end

  -- the one or the other, once the places are held
  abbrev pub Compares : Outside Y D P S I W E Q → Outside Y D P S I W E Q → CheckEnding → Text → CheckPlan → Type 0
  Compares old new end path c = MatchBool (nat_le c.jobs 1) (ChecksAs old new end path c) (TogetherAs old new end path c)

  -- `check` of the worksheet at one path
  abbrev pub ComparesBy : Outside Y D P S I W E Q → Outside Y D P S I W E Q → Ending → Text → CheckPlan → Type 0
  ComparesBy old new ending path c =
      HeldFirst old new (λ why. (new.sources ≡ old.sources) × EndsWith old new ending (Err why)) (λ held. (end : CheckEnding)
      × Compares (record old { places = held }) new end path c × (ending ≡ end.ending))

  -- `check --accept` of what they open to write
  abbrev pub AcceptsHeld : Outside Y D P S I W E Q → Outside Y D P S I W E Q → Ending → Text → Request → Type 0
  AcceptsHeld old new ending path request = (files : Result D FilesFault) × o.places.opens old.places path files new.places
      × AcceptEnds (accept_setting request o.streams.held) files (passed_of old new) (errors_of old new) ending

  abbrev pub AcceptsAs : Outside Y D P S I W E Q → Outside Y D P S I W E Q → Ending → Text → Request → Type 0
  AcceptsAs old new ending path request =
      HeldFirst old new (λ why. (new.sources ≡ old.sources) × EndsWith old new ending (Err why)) (λ held. AcceptsHeld (record old { places = held }) new ending path request)

  -- the one or the other
  abbrev pub ChecksIn : Report → Outside Y D P S I W E Q → Outside Y D P S I W E Q → Ending → Text → CheckPlan → Type 0
  ChecksIn report.Text old new ending path c = ComparesBy old new ending path c
  ChecksIn report.Whole old new ending path c = ComparesBy old new ending path c
  ChecksIn report.Tap old new ending path c = ComparesBy old new ending path c
  ChecksIn report.Junit old new ending path c = ComparesBy old new ending path c
  ChecksIn report.Json old new ending path c = ComparesBy old new ending path c
  ChecksIn report.Accepting old new ending path c = AcceptsAs old new ending path c.request

  abbrev pub ChecksBy : Outside Y D P S I W E Q → Outside Y D P S I W E Q → Ending → Text → CheckPlan → Type 0
  ChecksBy old new ending path c = ChecksIn c.request.format old new ending path c

  -- One worksheet of several: a line with its path, and then its check, which is that of this path alone. Where the line can't be written
  -- nothing is done, and that is the fault.
  abbrev pub ComparesNext : Outside Y D P S I W E Q → Outside Y D P S I W E Q → CheckEnding → Text → CheckPlan → Type 0
  ComparesNext old new end path c =
      ((headed : W) × Appends (o.streams.written old.output) (o.streams.written headed) (worksheet_line path) × Compares (record old { output = headed }) new end path c)
      ⊎ (OnlyWritten old new × (end.answer ≡ Err (checks.Run fault.Output)) × EndsWith old new end.ending (Err fault.Output))

  -- Worksheets are checked one after another, each over what the one before it left, after others that ended so; then the total of all is
  -- written. Where the output fails at one of them nothing comes after it.
  abbrev pub ComparesEach : CheckPlan → List CheckEnding → List Text → Outside Y D P S I W E Q → Outside Y D P S I W E Q → Ending → Type 0
  ComparesEach c ends [] old new ending = OnlyWritten old new × TotalEnds (total_of ends) (streams_of old new) ending
  ComparesEach c ends (path ∷ paths) old new ending = (end : CheckEnding) × (mid : Outside Y D P S I W E Q) × ComparesNext old mid end path c
      × MatchBool (is_unwritten end.answer) ((new ≡ mid) × (ending ≡ ending_of (total_of (ends ++ end ∷ [])))) (ComparesEach c (ends ++ end ∷ []) paths mid new ending)

  -- `check` of several worksheets
  abbrev pub ComparesAll : Outside Y D P S I W E Q → Outside Y D P S I W E Q → Ending → List Text → CheckPlan → Type 0
  ComparesAll old new ending paths c =
      HeldFirst old new (λ why. (new.sources ≡ old.sources) × EndsWith old new ending (Err why)) (λ held. ComparesEach c [] paths (record old { places = held }) new ending)

  -- where the words ask for no check they are refused, and nothing is done
  abbrev pub ChecksNone : Outside Y D P S I W E Q → Outside Y D P S I W E Q → Ending → RequestFault → Type 0
  ChecksNone old new ending why = (new.places ≡ old.places) × (new.sources ≡ old.sources) × (new.output ≡ old.output) × (new.progress ≡ old.progress)
      × RefusesRequest why (errors_of old new) ending

  -- where they name no time
  abbrev pub ChecksNoTime : Outside Y D P S I W E Q → Outside Y D P S I W E Q → Ending → Type 0
  ChecksNoTime old new ending = (new.places ≡ old.places) × (new.sources ≡ old.sources) × (new.output ≡ old.output) × (new.progress ≡ old.progress)
      × RefusesWith no_check_seconds_text (errors_of old new) ending

  -- where they name no number of sessions
  abbrev pub ChecksNoJobs : Outside Y D P S I W E Q → Outside Y D P S I W E Q → Ending → JobsFault → Type 0
  ChecksNoJobs old new ending why = (new.places ≡ old.places) × (new.sources ≡ old.sources) × (new.output ≡ old.output) × (new.progress ≡ old.progress)
      × RefusesJobs why (errors_of old new) ending

  -- where several worksheets aren't checked so
  abbrev pub ChecksNoSeveral : Outside Y D P S I W E Q → Outside Y D P S I W E Q → Ending → SeveralFault → Type 0
  ChecksNoSeveral old new ending why = (new.places ≡ old.places) × (new.sources ≡ old.sources) × (new.output ≡ old.output) × (new.progress ≡ old.progress)
      × RefusesSeveral why (errors_of old new) ending

  -- several, or why they aren't
  abbrev pub ChecksSeveral : Outside Y D P S I W E Q → Outside Y D P S I W E Q → Ending → CheckView → CheckPlan → Type 0
  ChecksSeveral old new ending words c = MatchOption (several_refused c.request.format words.leave_out words.compare) (ComparesAll old new ending words.paths c) (ChecksNoSeveral old new ending)

  -- several or one, as this is asked for
  abbrev pub ChecksPaths : Outside Y D P S I W E Q → Outside Y D P S I W E Q → Ending → Text → CheckView → CheckPlan → Type 0
  ChecksPaths old new ending path words c = MatchBool (are_several words.paths) (ChecksSeveral old new ending words c) (ChecksBy old new ending path c)

  -- `check` by what its words name, within these bounds
  abbrev pub ChecksWithin : Outside Y D P S I W E Q → Outside Y D P S I W E Q → Ending → Text → CheckView → CheckBounds → Type 0
  ChecksWithin old new ending path words b = (read : Result Request RequestFault) × IfOk read (Asks (report_words words.accept words.whole words.json words.format) (field_words words.only words.leave_out words.compare words.all))
      × IfOk read (λ request. request.limit ≡ b.limit)
      × IfErr read (AsksNone (report_words words.accept words.whole words.json words.format) (field_words words.only words.leave_out words.compare words.all))
      × MatchResult read (λ request. ChecksPaths old new ending path words (check_plan request b.jobs)) (ChecksNone old new ending)

  abbrev pub ChecksJobs : Outside Y D P S I W E Q → Outside Y D P S I W E Q → Ending → Text → CheckView → Option ℕ → Type 0
  ChecksJobs old new ending path words limit = MatchResult (check_jobs_asked words.jobs words.accept words.timeout) (λ jobs. ChecksWithin old new ending path words (check_bounds limit jobs)) (ChecksNoJobs old new ending)

  -- `check` as its words ask for it
  abbrev pub DoesCheck : Outside Y D P S I W E Q → Outside Y D P S I W E Q → Ending → Text → CheckView → Type 0
  DoesCheck old new ending path words = MatchOption (limit_asked words.timeout) (ChecksNoTime old new ending) (ChecksJobs old new ending path words)

  -- files that weren't opened: nothing is read or written, and no child is called
  abbrev pub Unopened : Outside Y D P S I W E Q → Outside Y D P S I W E Q → Ending → FilesFault → Type 0
  Unopened old new ending why = (new.input ≡ old.input) × EndsUnopened (passed_of old new) (errors_of old new) ending why

  -- `run` of a script on a disk, in words, strict or not
  abbrev pub RunsOn : Bool → Outside Y D P S I W E Q → Outside Y D P S I W E Q → Ending → D → Type 0
  RunsOn strict old new ending disk =
      ScriptOpened (script_setting strict o.streams.held) (o.streams.stream old.input) (passed_of old new) (errors_of old new) ending disk

  -- `run` in words over what the places open at a path, strict or not
  abbrev pub RunsScript : Bool → Outside Y D P S I W E Q → Outside Y D P S I W E Q → Ending → Text → Type 0
  RunsScript strict old new ending path =
      HeldFirst old new (λ why. (new.sources ≡ old.sources) × EndsWith old new ending (Err why)) (λ held. (files : Result D FilesFault) × o.places.opens held path files new.places
      × IfErr files (Unopened old new ending) × IfOk files (RunsOn strict old new ending))

  -- `eval` on a disk, printed in a voice
  abbrev pub EvaluatesOn : Voice → Plan → Outside Y D P S I W E Q → Outside Y D P S I W E Q → Ending → D → Type 0
  EvaluatesOn V plan old new ending disk =
      EvaluationOpened (eval_setting plan new.places o.places.finds V o.streams.held) (passed_of old new) (errors_of old new) ending disk

  -- `eval` over what the places open at a path, by a plan
  abbrev pub EvaluatesAs : Voice → Plan → Outside Y D P S I W E Q → Outside Y D P S I W E Q → Ending → Text → Type 0
  EvaluatesAs V plan old new ending path =
      HeldFirst old new (λ why. (new.sources ≡ old.sources) × EndsWith old new ending (Err why)) (λ held. (files : Result D FilesFault) × o.places.opens held path files new.places
      × IfErr files (LiveUnopened V (passed_of old new) (errors_of old new) ending) × IfOk files (EvaluatesOn V plan old new ending))

  -- where the words ask for nothing that there is they are refused, and nothing is done
  abbrev pub EvaluatesNothing : Outside Y D P S I W E Q → Outside Y D P S I W E Q → Ending → PlanFault → Type 0
  EvaluatesNothing old new ending why = (new.places ≡ old.places) × (new.output ≡ old.output) × (new.sources ≡ old.sources) × RefusesPlan why (errors_of old new) ending

  -- as the words of `eval` ask for it
  abbrev pub DoesEval : Outside Y D P S I W E Q → Outside Y D P S I W E Q → Ending → Text → EvalView → Type 0
  DoesEval old new ending path words = (read : Result Plan PlanFault) × IfOk read (AsksPlan words) × IfErr read (AsksNoPlan words)
      × MatchResult read (λ plan. EvaluatesAs (voice_by words.json) plan old new ending path) (EvaluatesNothing old new ending)

  -- lines of the input over the same, taken in a manner and printed in a voice
  abbrev pub LivesAs : Manner → Voice → Outside Y D P S I W E Q → Outside Y D P S I W E Q → Ending → Text → Type 0
  LivesAs manner V old new ending path =
      HeldFirst old new (λ why. (new.sources ≡ old.sources) × EndsWith old new ending (Err why)) (λ held. (files : Result D FilesFault) × o.places.opens held path files new.places
      × IfErr files (λ why. (new.input ≡ old.input) × LiveUnopened V (passed_of old new) (errors_of old new) ending why)
      × IfOk files (LiveOpened (live_setting manner V o.streams.held) (o.streams.stream old.input) (passed_of old new) (errors_of old new) ending))

  -- `live` in a voice
  abbrev pub DoesLive : Voice → Outside Y D P S I W E Q → Outside Y D P S I W E Q → Ending → Text → Type 0
  DoesLive V old new ending path = LivesAs as_it_comes V old new ending path

  -- `live --json --partial`: the sources begin to write out what is no answer yet, and then it is `live --json`
  abbrev pub LivesPartial : Outside Y D P S I W E Q → Outside Y D P S I W E Q → Ending → Text → Type 0
  LivesPartial old new ending path = (begun : S) × o.begins old.sources begun × DoesLive in_json (record old { sources = begun }) new ending path

  -- where the words of `run` ask for nothing that there is they are refused with this text, and nothing is done
  abbrev pub RunsNothing : List ℕ → Outside Y D P S I W E Q → Outside Y D P S I W E Q → Ending → Type 0
  RunsNothing text old new ending = (new.places ≡ old.places) × (new.sources ≡ old.sources) × (new.input ≡ old.input) × (new.output ≡ old.output)
      × RefusesWith text (errors_of old new) ending

  -- `run --json`, or with a limit of time, or both, strict or not: what `live` does where lines come first
  abbrev pub RunsByLines : Outside Y D P S I W E Q → Outside Y D P S I W E Q → Ending → Text → RunView → Option ℕ → Type 0
  RunsByLines old new ending path words limit = LivesAs (line_by_line limit words.strict) (voice_by words.json) old new ending path

  -- `run` as its words ask for it, within this limit of time, where there is one
  abbrev pub RunsWithin : Outside Y D P S I W E Q → Outside Y D P S I W E Q → Ending → Text → RunView → Option ℕ → Type 0
  RunsWithin old new ending path words limit = EitherRuns (words.json || is_some limit) (RunsByLines old new ending path words limit) (RunsScript words.strict old new ending path)

  abbrev pub DoesRun : Outside Y D P S I W E Q → Outside Y D P S I W E Q → Ending → Text → RunView → Type 0
  DoesRun old new ending path words = MatchOption (limit_asked words.timeout) (RunsNothing no_run_seconds_text old new ending) (RunsWithin old new ending path words)

  -- `rescue` of what was found, to what the places make at a new path
  abbrev pub RescuesTo : Rescued D → Outside Y D P S I W E Q → Outside Y D P S I W E Q → Ending → Text → Type 0
  RescuesTo found old new ending to = (made : Result D MakeFault) × o.places.creates old.places to made new.places
      × RescueEnds o.disks.closed o.disks made found (said_streams (output_of old new) (errors_of old new)) ending

  -- `rescue` of files, or of why they weren't opened; nothing is made where nothing was found
  abbrev pub RescuesFrom : Result D FilesFault → Outside Y D P S I W E Q → Outside Y D P S I W E Q → Ending → Text → Type 0
  RescuesFrom files old new ending to = (answer : Result (Rescued D) RunFault) × FilesAreRead o.disks files answer × MatchResult answer
      (λ found. RescuesTo found old new ending to) (λ why. (new.places ≡ old.places) × EndsWith old new ending (Err why))

  -- `rescue` of what the places open to read at a path, to a new one
  abbrev pub DoesRescue : Outside Y D P S I W E Q → Outside Y D P S I W E Q → Ending → Text → Text → Type 0
  DoesRescue old new ending path to =
      HeldFirst old new (λ why. EndsWith old new ending (Err why)) (λ held. (files : Result D FilesFault) × (opened : P) × o.places.reads held path files opened
      × RescuesFrom files (record old { places = opened }) new ending to)

  -- `export` of what the places open to read at a path, whose last part is the title
  abbrev pub ExportsAs : Outside Y D P S I W E Q → Outside Y D P S I W E Q → Ending → Text → Format → Type 0
  ExportsAs old new ending path format =
      HeldFirst old new (λ why. EndsWith old new ending (Err why)) (λ held. (files : Result D FilesFault) × o.places.reads held path files new.places
      × ExportEnds o.disks files format (last_part path) (streams_of old new) ending)

  -- where there is no format of that name the words are refused, and nothing is done
  abbrev pub RefusesFormat : Outside Y D P S I W E Q → Outside Y D P S I W E Q → Ending → Type 0
  RefusesFormat old new ending = (new.places ≡ old.places) × (new.output ≡ old.output) × RefusesWith no_format_text (errors_of old new) ending

  -- `export` in the format of this name
  abbrev pub DoesExport : Outside Y D P S I W E Q → Outside Y D P S I W E Q → Ending → Text → Text → Type 0
  DoesExport old new ending name path = MatchOption (format_named name) (RefusesFormat old new ending) (ExportsAs old new ending path)

  -- `history` of what the places open to read at a path
  abbrev pub DoesHistory : Outside Y D P S I W E Q → Outside Y D P S I W E Q → Ending → Text → Type 0
  DoesHistory old new ending path =
      HeldFirst old new (λ why. EndsWith old new ending (Err why)) (λ held. (files : Result D FilesFault) × o.places.reads held path files new.places
      × HistoryEnds o.disks files (streams_of old new) ending)

  -- What a program does with the worksheet after its first n changes, where the places opened it to read. Else why it can't be had is
  -- reported, and nothing else is done.
  abbrev pub ReadsPast : ℕ → Outside Y D P S I W E Q → Outside Y D P S I W E Q → Ending → Text → (P → Rescued D → Type 0) → Type 0
  ReadsPast n old new ending path with_it =
      HeldFirst old new (λ why. EndsWith old new ending (Err why)) (λ held. (files : Result D FilesFault) × (opened : P) × o.places.reads held path files opened
      × ((answer : Result (Rescued D) PastFault) × FilesArePast o.disks n files answer × MatchResult answer
      (with_it opened) (λ why. (new.places ≡ opened) × (new.output ≡ old.output) × EndsPast (errors_of old new) ending why)))

  -- words that name no number of changes are refused, and nothing is done
  abbrev pub RefusesChanges : Outside Y D P S I W E Q → Outside Y D P S I W E Q → Ending → Type 0
  RefusesChanges old new ending = (new.places ≡ old.places) × (new.output ≡ old.output) × RefusesWith no_changes_text (errors_of old new) ending

  -- `show --at`
  abbrev pub ShowsAfter : Outside Y D P S I W E Q → Outside Y D P S I W E Q → Ending → Text → ℕ → Type 0
  ShowsAfter old new ending path n = ReadsPast n old new ending path (λ opened found. (new.places ≡ opened) × PastShown o.disks.closed found (streams_of old new) ending)

  abbrev pub DoesShowAt : Outside Y D P S I W E Q → Outside Y D P S I W E Q → Ending → Text → Text → Type 0
  DoesShowAt old new ending path changes = MatchOption (number_written changes) (RefusesChanges old new ending) (ShowsAfter old new ending path)

  -- `export --at`, in a format
  abbrev pub ExportsAfter : Outside Y D P S I W E Q → Outside Y D P S I W E Q → Ending → Text → Format → ℕ → Type 0
  ExportsAfter old new ending path format n =
      ReadsPast n old new ending path (λ opened found. (new.places ≡ opened) × PastExported o.disks.closed found format (last_part path) (streams_of old new) ending)

  abbrev pub ExportsPast : Outside Y D P S I W E Q → Outside Y D P S I W E Q → Ending → Text → Text → Format → Type 0
  ExportsPast old new ending path changes format = MatchOption (number_written changes) (RefusesChanges old new ending) (ExportsAfter old new ending path format)

  abbrev pub DoesExportAt : Outside Y D P S I W E Q → Outside Y D P S I W E Q → Ending → Text → Text → Text → Type 0
  DoesExportAt old new ending name path changes = MatchOption (format_named name) (RefusesFormat old new ending) (ExportsPast old new ending path changes)

  -- `restore`, to what the places make at a new path
  abbrev pub RestoresTo : P → Rescued D → Outside Y D P S I W E Q → Outside Y D P S I W E Q → Ending → Text → Type 0
  RestoresTo opened found old new ending to = (made : Result D MakeFault) × o.places.creates opened to made new.places
      × RescueEnds o.disks.closed o.disks made found (said_streams (output_of old new) (errors_of old new)) ending

  abbrev pub RestoresAfter : Outside Y D P S I W E Q → Outside Y D P S I W E Q → Ending → Text → Text → ℕ → Type 0
  RestoresAfter old new ending path to n = ReadsPast n old new ending path (λ opened found. RestoresTo opened found old new ending to)

  abbrev pub DoesRestore : Outside Y D P S I W E Q → Outside Y D P S I W E Q → Ending → Text → Text → Text → Type 0
  DoesRestore old new ending path changes to = MatchOption (number_written changes) (RefusesChanges old new ending) (RestoresAfter old new ending path to)
