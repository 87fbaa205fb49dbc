use Rattle.std.proofs.Common.{◌+◌, ◌∙◌, [], ap, get_or, refl, sym}
use Rattle.std.specs.Borrow.{Bor}
use Rattle.clap.specs.Words.{Text}
use Rattle.std.proofs.lemmas.List.{drop_more, drop_all}
use Rattle.host_cli.proofs.EachChecked.{all_checked, one_broke, one_checked}
use Rattle.host_cli.proofs.checks.compare_each.Goals as goal

pub loop-path-preserved : goal.loop-path-preserved
loop-path-preserved g c =
    let so = c.loop-path.invariant in
    let paths = c.args.paths.now in
    let none : Bor Text = record { ref_ptr = (0, 0); now = [] } in (
      one_checked _ _ paths _ (get_or paths c.loop-path.path-index none) _ _ _ _ _ _ _ (drop_more paths c.loop-path.path-index none c.loop-path-test.true) so.0
          c.compare_next-left.ensures.does (sym c.is_unwritten.ensures ∙ c.if-is_unwritten.false) c.with-total.ensures.total,
      c.with-total.ensures.bounded,
      c.with-total.ensures.number ∙ ap (λ n. n + 1) so.2,
      c.compare_next-left.ensures.leaves ∙ so.3,
    )

pub returns-clause-does : goal.returns-clause-does
returns-clause-does g c =
    let so = c.loop-path.invariant in
    all_checked _ _ c.args.paths.now _ _ _ _ _ _ (drop_all c.loop-path.path-index c.args.paths.now c.loop-path-test.false) so.0 (refl, refl, refl, refl) c.end_total.ensures

pub returns-then-is_unwritten-clause-does : goal.returns-then-is_unwritten-clause-does
returns-then-is_unwritten-clause-does g c =
    let so = c.loop-path.invariant in
    let paths = c.args.paths.now in
    let none : Bor Text = record { ref_ptr = (0, 0); now = [] } in
    one_broke _ _ paths _ (get_or paths c.loop-path.path-index none) _ _ _ _ _ _ _ _ (drop_more paths c.loop-path.path-index none c.loop-path-test.true) so.0
    c.compare_next-left.ensures.does (sym c.is_unwritten.ensures ∙ c.if-is_unwritten.true) c.with-total.ensures.total c.ending.ensures
