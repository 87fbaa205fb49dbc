use Rattle.std.proofs.Common.{List, ℕ, ◌++◌, ◌∷◌, [], ◌∙◌, ap, refl, subst, sym}
use Rattle.disk_model.specs.Calls.{after_write}
use Rattle.sheet_files.specs.MemoryFile.{NotesCall}
use Rattle.sheet_files.specs.declared.memory_file.FileCall.{FileCall}
use Rattle.sheet_files.specs.declared.memory_file.Deed.TheVariants.{Write}
use Rattle.sheet_files.proofs.Replayed.{noted}
use Rattle.sheet_files.proofs.memory_file.write.Goals as goal

pub returns-clause-noted : goal.returns-clause-noted
returns-clause-noted c =
    let call : FileCall = record { moment = c.args.moment; deed = Write c.args.offset c.in_ok-copy.copy } in
    subst (λ (b : List ℕ). NotesCall c.args.moment (after_write c.args.offset b) c.args.calls.now.items c.push.new.self.items) c.in_ok-copy.ensures.items
    (subst (λ (l : List FileCall). NotesCall c.args.moment (after_write c.args.offset c.in_ok-copy.copy.items) c.args.calls.now.items l)
    (sym (c.in-Ok.ensures.items ∙ ap (λ (l : List FileCall). l ++ call ∷ []) c.reserve.ensures.items))
    (noted c.args.calls.now.items call c.args.moment refl))
