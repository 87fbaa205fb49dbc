use Rattle.std.proofs.Common.{List, refl, subst, sym}
use Rattle.disk_model.specs.Calls.{after_sync}
use Rattle.sheet_files.specs.MemoryFile.{NotesCall}
use Rattle.sheet_files.specs.declared.memory_file.FileCall.{FileCall}
use Rattle.sheet_files.specs.declared.memory_file.Deed.TheVariants.{Sync}
use Rattle.sheet_files.proofs.Replayed.{noted}
use Rattle.sheet_files.proofs.memory_file.note_sync.Goals as goal

pub returns-clause-noted : goal.returns-clause-noted
returns-clause-noted c =
    subst (λ (l : List FileCall). NotesCall c.args.moment after_sync c.args.calls.now.items l) (sym c.in_ok-push.ensures.items)
    (noted c.args.calls.now.items (record { moment = c.args.moment; deed = Sync }) c.args.moment refl)
