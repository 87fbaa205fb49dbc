use Rattle.std.proofs.Common.{◌≡◌, Bool, true, false, not, sym, ◌∙◌}
use Rattle.std.proofs.lemmas.Slice.Eq.{bytes_eq-Decides}
use Rattle.recovery.proofs.reading.as_written.Goals as goal

is_not : (b : Bool) → not b ≡ false → b ≡ true
is_not true h = cc
is_not false h = absurd cc

pub returns-clause-op : goal.returns-clause-op
returns-clause-op c = record {
  typed = c.in_ok-payload.ensures.typed;
  fits = rw c.in_ok-op.was at c.requires;
  is = sym ((bytes_eq-Decides c.as_slice.result.now c.args.bytes.now).0 (is_not _ (sym c.ne.ensures ∙ c.if-ne.false))) ∙ c.as_slice.ensures.value ∙ c.in_ok-payload.ensures.code;
}
