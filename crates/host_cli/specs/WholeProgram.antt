-- The whole program: which task its words ask for, what that task does and leaves alone, and how the program ends.
use Rattle.std.specs.Prelude.{◌≡◌, ◌≢◌, true, false, Bool, List, Result, Err, IfOk, IfErr, MatchResult}
use Rattle.std.specs.Io.KnownBytes.{Keeps}
use Rattle.std.specs.declared.io.ErrorKind.{ErrorKind as IoKind}
use Rattle.std.specs.declared.io.ErrorKind.TheVariants as io_kind
use Rattle.clap.specs.Words.{FailsBy, Text, fault_of, kind_of}
use Rattle.clap.specs.declared.error.Error.{Error}
use Rattle.clap.specs.declared.error.kind.ErrorKind.{ErrorKind}
use Rattle.clap.specs.declared.error.kind.ErrorKind.TheVariants as kind
use Rattle.command_words.specs.Asked.{TaskView, asked_by, task_view, tmhost}
use Rattle.command_words.specs.declared.words.Task.{Task}
use Rattle.command_words.specs.Asked as asked
use Rattle.host_cli.specs.Refused.{RefusesWords, ShowsHelp, ShowsText}
use Rattle.host_cli.specs.declared.outside.Outside.{Outside}
use Rattle.host_cli.specs.Outside.{OutsideView}
use Rattle.offline_programs.specs.declared.fault.RunFault.TheVariants as fault
use Rattle.tellings.specs.Json.{in_json}
use Rattle.tellings.specs.Words.{in_words}
use Rattle.program_endings.specs.declared.ending.Ending.{Ending}
use Rattle.sheet_export.specs.declared.formats.Format.TheVariants as formats
use Rattle.host_cli.specs.Tasks.{DoesBlocks, DoesBlocksInJson, DoesCheck, DoesCreate, DoesEval, DoesExport, DoesExportAt, DoesHistory, DoesLive, DoesRescue, DoesRestore, DoesRun, DoesShow, DoesShowAt, EndsWith, ExportsAs, ExportsPast, LivesPartial, OnlyWritten, errors_of, output_of}

module _ {Y D P S I W E Q : Type 0} where
  -- What a task isn't given stays as it was.
  abbrev pub LeavesAlone : Outside Y D P S I W E Q → Outside Y D P S I W E Q → TaskView → Type 0
  LeavesAlone old new asked.blocks = (new.places ≡ old.places) × (new.sources ≡ old.sources) × (new.progress ≡ old.progress)
  LeavesAlone old new asked.blocks_json = (new.places ≡ old.places) × (new.sources ≡ old.sources) × (new.progress ≡ old.progress)
  LeavesAlone old new (asked.create path) = (new.sources ≡ old.sources) × (new.input ≡ old.input) × (new.output ≡ old.output) × (new.progress ≡ old.progress)
  LeavesAlone old new (asked.run path words) = new.progress ≡ old.progress
  LeavesAlone old new (asked.live path) = new.progress ≡ old.progress
  LeavesAlone old new (asked.live_json path) = new.progress ≡ old.progress
  LeavesAlone old new (asked.live_partial path) = new.progress ≡ old.progress
  LeavesAlone old new (asked.eval path words) = (new.input ≡ old.input) × (new.progress ≡ old.progress)
  LeavesAlone old new (asked.show path) = (new.sources ≡ old.sources) × (new.input ≡ old.input) × (new.progress ≡ old.progress)
  LeavesAlone old new (asked.show_json path) = (new.sources ≡ old.sources) × (new.input ≡ old.input) × (new.progress ≡ old.progress)
  LeavesAlone old new (asked.check path words) = new.input ≡ old.input
  LeavesAlone old new (asked.rescue path new_path) = (new.sources ≡ old.sources) × (new.input ≡ old.input) × (new.progress ≡ old.progress)
  LeavesAlone old new (asked.export format path) = (new.sources ≡ old.sources) × (new.input ≡ old.input) × (new.progress ≡ old.progress)
  LeavesAlone old new (asked.history path) = (new.sources ≡ old.sources) × (new.input ≡ old.input) × (new.progress ≡ old.progress)
  LeavesAlone old new (asked.show_at path changes) = (new.sources ≡ old.sources) × (new.input ≡ old.input) × (new.progress ≡ old.progress)
  LeavesAlone old new (asked.show_json_at path changes) = (new.sources ≡ old.sources) × (new.input ≡ old.input) × (new.progress ≡ old.progress)
  LeavesAlone old new (asked.export_at format path changes) = (new.sources ≡ old.sources) × (new.input ≡ old.input) × (new.progress ≡ old.progress)
  LeavesAlone old new (asked.restore path changes new_path) = (new.sources ≡ old.sources) × (new.input ≡ old.input) × (new.progress ≡ old.progress)

module _ {Y D P S I W E Q : Type 0} (o : OutsideView D P S I W E) where
  -- What is done, by the task.
  abbrev pub DoesTask : Outside Y D P S I W E Q → Outside Y D P S I W E Q → Ending → TaskView → Type 0
  DoesTask old new ending asked.blocks = DoesBlocks o old new ending
  DoesTask old new ending asked.blocks_json = DoesBlocksInJson o old new ending
  DoesTask old new ending (asked.create path) = DoesCreate o old new ending path
  DoesTask old new ending (asked.run path words) = DoesRun o old new ending path words
  DoesTask old new ending (asked.live path) = DoesLive o in_words old new ending path
  DoesTask old new ending (asked.live_json path) = DoesLive o in_json old new ending path
  DoesTask old new ending (asked.live_partial path) = LivesPartial o old new ending path
  DoesTask old new ending (asked.eval path words) = DoesEval o old new ending path words
  DoesTask old new ending (asked.show path) = DoesShow o old new ending path
  DoesTask old new ending (asked.show_json path) = ExportsAs o old new ending path formats.Json
  DoesTask old new ending (asked.check path words) = DoesCheck o old new ending path words
  DoesTask old new ending (asked.rescue path new_path) = DoesRescue o old new ending path new_path
  DoesTask old new ending (asked.export format path) = DoesExport o old new ending format path
  DoesTask old new ending (asked.history path) = DoesHistory o old new ending path
  DoesTask old new ending (asked.show_at path changes) = DoesShowAt o old new ending path changes
  DoesTask old new ending (asked.show_json_at path changes) = ExportsPast o old new ending path changes formats.Json
  DoesTask old new ending (asked.export_at format path changes) = DoesExportAt o old new ending format path changes
  DoesTask old new ending (asked.restore path changes new_path) = DoesRestore o old new ending path changes new_path

  -- How the program ends where `clap` gave no task, by the kind of its error.
  pub record Refuses (old new : Outside Y D P S I W E Q) (ending : Ending) (k : ErrorKind) : Type 0 where
    pub memory : k ≡ kind.OutOfMemory → (new.output ≡ old.output) × EndsWith o old new ending (Err fault.OutOfMemory)
    pub shown : ShowsText k → ShowsHelp (output_of o old new) (errors_of o old new) ending
    pub refused : k ≢ kind.OutOfMemory → (ShowsText k → ⊥) → (new.output ≡ old.output) × RefusesWords (errors_of o old new) ending

  -- the words ask for a task, which is done, or they are refused
  abbrev pub DoesAsked : List Text → Outside Y D P S I W E Q → Outside Y D P S I W E Q → Ending → Type 0
  DoesAsked texts old new ending = (read : Result Task Error) × FailsBy (fault_of tmhost texts) read
      × IfOk read (λ task. task_view task ≡ asked_by texts)
      × MatchResult read (λ task. DoesTask old new ending (task_view task) × LeavesAlone old new (task_view task))
      (λ error. Refuses old new ending (kind_of error) × OnlyWritten old new)

  -- How the program ends by its words, before its output is flushed. Words that can't be had are no text, or there was no memory for them.
  pub record EndsWithin {T : Type 0} (texts : T → List Text) (words : Result T IoKind) (old new : Outside Y D P S I W E Q) (ending : Ending) : Type 0 where
    pub no_memory : IfErr words (λ k. k ≡ io_kind.OutOfMemory → EndsWith o old new ending (Err fault.OutOfMemory))
    pub no_text : IfErr words (λ k. k ≢ io_kind.OutOfMemory → (new.errors ≡ old.errors) × (ending.status ≡ 2))
    pub no_words : IfErr words (λ k. OnlyWritten old new × (new.output ≡ old.output))
    pub asked : IfOk words (λ all. DoesAsked (texts all) old new ending)

  -- how the program ends where all that it wrote was flushed, or not: then that is the fault, but where its status is 1 already
  abbrev pub EndsBrought : Bool → Outside Y D P S I W E Q → Outside Y D P S I W E Q → Ending → Ending → Type 0
  EndsBrought true old new alone ending = (ending ≡ alone) × (new.errors ≡ old.errors)
  EndsBrought false old new alone ending = (alone.status ≡ 1 → (ending ≡ alone) × (new.errors ≡ old.errors))
      × (alone.status ≢ 1 → EndsWith o old new ending (Err fault.Output))

  -- Last of all the output is flushed, after what the program came to, and nothing else is written.
  abbrev pub FlushesOutput : Outside Y D P S I W E Q → Outside Y D P S I W E Q → Ending → Ending → Type 0
  FlushesOutput old new alone ending = OnlyWritten old new × Keeps (o.streams.written old.output) (o.streams.written new.output)
      × ((all : Bool) × o.streams.flushed old.output all new.output × EndsBrought all old new alone ending)

  -- the whole program: it ends by its words, and then its output is flushed
  abbrev pub Performs : {T : Type 0} → (T → List Text) → Result T IoKind → Outside Y D P S I W E Q → Outside Y D P S I W E Q → Ending → Type 0
  Performs texts words old new ending = (mid : Outside Y D P S I W E Q) × (alone : Ending) × EndsWithin texts words old mid alone × FlushesOutput mid new alone ending
