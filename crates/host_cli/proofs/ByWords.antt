-- How the program ends by its words, by what came of these.
use Rattle.std.proofs.Common.{◌≡◌, ◌≢◌, List, Result, Ok, Err, subst, sym}
use Rattle.std.specs.declared.io.ErrorKind.{ErrorKind as IoKind}
use Rattle.std.specs.declared.io.ErrorKind.TheVariants as io_kind
use Rattle.clap.specs.Words.{Text}
use Rattle.host_cli.specs.Outside.{OutsideView}
use Rattle.host_cli.specs.Tasks.{EndsWith, OnlyWritten}
use Rattle.host_cli.specs.WholeProgram.{DoesAsked, EndsWithin}
use Rattle.host_cli.specs.declared.outside.Outside.{Outside}
use Rattle.offline_programs.specs.declared.fault.RunFault.TheVariants as fault
use Rattle.program_endings.specs.declared.ending.Ending.{Ending}

module _ {Y D P S I W E Q T : Type 0} (o : OutsideView D P S I W E) (texts : T → List Text) (words : Result T IoKind) (old mid new : Outside Y D P S I W E Q) (alone ending : Ending)
    (at : new ≡ mid) (ends : ending ≡ alone) where
  moved : EndsWithin o texts words old mid alone → EndsWithin o texts words old new ending
  moved p = subst (λ (s : Outside Y D P S I W E Q). EndsWithin o texts words old s ending) (sym at) (subst (λ (e : Ending). EndsWithin o texts words old mid e) (sym ends) p)

  -- they were read
  pub by_words : (all : T) → words ≡ Ok all → DoesAsked o (texts all) old mid alone → EndsWithin o texts words old new ending
  by_words all is asked = moved (subst (λ (read : Result T IoKind). EndsWithin o texts read old mid alone) (sym is) (record { no_memory = tt; no_text = tt; no_words = tt; asked = asked }))

  -- they can't be had
  pub without_words : (k : IoKind) → words ≡ Err k → (k ≡ io_kind.OutOfMemory → EndsWith o old mid alone (Err fault.OutOfMemory))
      → (k ≢ io_kind.OutOfMemory → (mid.errors ≡ old.errors) × (alone.status ≡ 2)) → OnlyWritten old mid × (mid.output ≡ old.output) → EndsWithin o texts words old new ending
  without_words k is memory text only =
      moved (subst (λ (read : Result T IoKind). EndsWithin o texts read old mid alone) (sym is) (record { no_memory = memory; no_text = text; no_words = only; asked = tt }))
