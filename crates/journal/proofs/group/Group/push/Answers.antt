use Rattle.std.proofs.Common.{◌≡◌, ◌+◌, ◌-◌, ◌++◌, ◌∷◌, [], List, ℕ, length, arith, ◌∙◌, ap}
use Rattle.std.specs.Prelude.{set}
use Rattle.journal.specs.Area.{open_gate}
use Rattle.journal.specs.Owed.{GroupView}
use Rattle.journal.specs.inside.Group.{group_of}
use Rattle.journal.proofs.Groups.{group_is, group_more, length_of, seen}
use Rattle.journal.proofs.group.Group.push.Goals as goal

pub invariant_of-self-2 : goal.invariant_of-self-2
invariant_of-self-2 c =
    let before = c.self.inside.bytes.items in
    let last = c.len-last.result - 1 in
    let whole : last + 1 ≡ length before = omega (arith, c.len-last.ensures, length_of before (group_of before) c.self.invariant) in
    seen _ (group_of before ++ c.args.frame.now ∷ [])
    (group_more before _ (group_of before) c.args.frame.now c.bytes.result.now last c.self.invariant c.bytes.ensures.payload c.bytes.ensures.bytes whole (ap (λ (l : List ℕ). set l last open_gate) c.in_ok-extend_from_slice.ensures.items))

pub returns-clause-ok : goal.returns-clause-ok
returns-clause-ok c =
    let before = c.self.inside.bytes.items in
    let last = c.len-last.result - 1 in
    let whole : last + 1 ≡ length before = omega (arith, c.len-last.ensures, length_of before (group_of before) c.self.invariant) in
    group_is _ (group_of before ++ c.args.frame.now ∷ [])
    (group_more before _ (group_of before) c.args.frame.now c.bytes.result.now last c.self.invariant c.bytes.ensures.payload c.bytes.ensures.bytes whole (ap (λ (l : List ℕ). set l last open_gate) c.in_ok-extend_from_slice.ensures.items))
    ∙ ap (λ (g : GroupView). g.payloads ++ c.args.frame.now ∷ []) c.self.view_is
