use Rattle.std.proofs.Common.{◌+◌, ◌≤◌, ℕ, List, min, sym, subst, vec_capacity}
use Rattle.journal.specs.Limits.{batch_len, longest_payload}
use Rattle.journal.specs.Sources.{HoldsEach}
use Rattle.worksheet.specs.Rewrite.{rewrite_of}
use Rattle.recovery.specs.Sheets.{codes_of}
use Rattle.recovery.proofs.Lengths.{next_some, numbers_apart, records_again, rewrites_are_short}
use Rattle.recovery.proofs.Saves.{saved_answer, saved_moments}
use Rattle.recovery.proofs.Sourcing.{holds_each}
use Rattle.recovery.proofs.saving.save.Goals as goal

pub len_again-requires-clause-some : goal.len_again-requires-clause-some
len_again-requires-clause-some g c = next_some c.requires.made.0 c.args.sheet.now.contents c.requires.made.1

pub len_again-requires-clause-records : goal.len_again-requires-clause-records
len_again-requires-clause-records g c = records_again c.requires.made.0 c.args.sheet.now.contents c.requires.made.1

pub again_of-requires-clause-some : goal.again_of-requires-clause-some
again_of-requires-clause-some g c = next_some c.requires.made.0 c.args.sheet.now.contents c.requires.made.1

pub again_of-requires-clause-apart : goal.again_of-requires-clause-apart
again_of-requires-clause-apart g c = numbers_apart c.requires.made.0 c.args.sheet.now.contents c.requires.made.1

pub again_of-requires-clause-records : goal.again_of-requires-clause-records
again_of-requires-clause-records g c = records_again c.requires.made.0 c.args.sheet.now.contents c.requires.made.1

pub lay_again-requires-clause-memory : goal.lay_again-requires-clause-memory
lay_again-requires-clause-memory g c =
    let sheet = c.args.sheet.now.contents in
    let capacity = vec_capacity c.in-Ok-batch_of.batch in
    subst (λ (l : List (List ℕ)). HoldsEach capacity l) (sym c.in-Ok.ensures.ok)
    (holds_each capacity (codes_of (rewrite_of sheet)) (rewrites_are_short c.requires.made.0 sheet c.requires.made.1)
    (subst (λ (n : ℕ). batch_len + 6 + min n longest_payload ≤ capacity) c.in-Some.ensures.len c.in-Ok-batch_of.ensures))

pub returns-clause-saved : goal.returns-clause-saved
returns-clause-saved g c = λ model.
    saved_answer c.requires.made.0 c.args.sheet.now.contents c.requires.made.1 c.in-Ok.ensures.typed g.D.Disk.view _ c.in-Ok.again c.lay_again.result
    c.in-Ok.ensures.ok (c.lay_again.ensures.ok model)

pub returns-clause-any_moment : goal.returns-clause-any_moment
returns-clause-any_moment g c = λ model.
    saved_moments c.requires.made.0 c.args.sheet.now.contents c.requires.made.1 c.in-Ok.ensures.typed c.in-Ok.again (g.D.Disk.view c.args.disk).history.now _ _
    c.in-Ok.ensures.ok (c.lay_again.ensures.any_moment model)
