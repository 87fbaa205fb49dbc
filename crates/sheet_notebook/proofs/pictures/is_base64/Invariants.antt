use Rattle.std.proofs.Common.{◌≡◌, ◌≤◌, false, length}
use Rattle.sheet_notebook.specs.Pictures as picture
use Rattle.sheet_notebook.proofs.pictures.is_base64.Given as goal

abbrev pub invariant-loop-byte : goal.invariant-loop-byte
invariant-loop-byte l = (picture.are_groups l.place l.padded l.rest ≡ picture.are_groups 0 false l.text) × (l.place ≤ 3)

abbrev pub decreases-loop-byte : goal.decreases-loop-byte
decreases-loop-byte l = length l.rest
