use Rattle.std.proofs.Common.{◌++◌, ap, sym, List, ℕ}
use Rattle.journal.proofs.window.Window.new.Goals as goal

pub returns-clause-shows : goal.returns-clause-shows
returns-clause-shows c = λ area is. record {
  limit = is;
  bytes = (area, ap (λ (l : List ℕ). l ++ area) (sym c.new.ensures.items));
}
