-- Lengths of spellings, part by part.
use Rattle.std.proofs.Common.{◌≡◌, ◌≤◌, ℕ, ◌+◌, ◌*◌, max, min, List, length, length-append, append_assoc, append-nil, arith}
use Rattle.block_tree.specs.Tree.{Tree}
use Rattle.block_tree.specs.Output.{output}
use Rattle.meta_format.specs.Limits.{Limits, limits}
use Rattle.meta_format.specs.Spelling.{Spells}
use Rattle.meta_format.specs.Canonical.{canonical}
use Rattle.recovery.specs.Laws.{ReceivedAnswersFit}
use Rattle.block_tree.specs.View.{piece_text, piece_block, tree_out}

-- a part that is added to a capped sum
pub capped : (most a b c : ℕ) → min (min (a + b) most + c) most ≡ min (a + (b + c)) most
capped most a b c = omega arith

-- an answer's payload, where spellings grow and outputs don't
pub answers_fit : ((most : Limits) (b : Tree) (s : List ℕ) → Spells most b s → 2 * length (canonical b) ≤ 3 * length s)
    → ((b : Tree) → length (canonical (output b)) ≤ max 11 (length (canonical b))) → ReceivedAnswersFit
answers_fit grows shrinks id prompt block received spelled small short =
    omega (arith, grows limits block received spelled, shrinks block, small, short, length-append prompt (canonical (output block)))

pub ruleset size_rules = (length-append, append_assoc, append-nil, tree_out, piece_text, piece_block)
