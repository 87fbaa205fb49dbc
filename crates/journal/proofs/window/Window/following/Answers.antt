use Rattle.std.proofs.Common.{◌∙◌, ◌-◌, ap, arith, drop, List, ℕ, sym, subst}
use Rattle.journal.specs.inside.Reads.{Begins}
use Rattle.journal.proofs.Windows.{shown_after}
use Rattle.journal.proofs.window.Window.following.Goals as goal

pub returns-clause-shows : goal.returns-clause-shows
returns-clause-shows c = λ area shows.
    let w = c.args.self.now in
    let same = c.split_at.ensures.back ∙ ap (λ (l : List ℕ). drop (c.args.at - w.start) l) c.deref.ensures.value in
    subst (λ (l : List ℕ). Begins l (drop c.args.at area)) (sym same) (shown_after w area c.args.at c.requires.from (omega (arith, c.requires.to, w.bytes.ok.0)) shows)
