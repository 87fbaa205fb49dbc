use Rattle.std.proofs.Common.{◌≡◌, ◌∙◌, ◌≤◌, ap, arith, subst, ℕ}
use native.Mathlib.Numerals.{unary_clauses}
use Rattle.clap.specs.Words.{App, app_of, with_subcommand}
use Rattle.command_words.specs.inside.Table as asked
use Rattle.command_words.proofs.commands.with_all.Goals as goal

pub loop-at-preserved : goal.loop-at-preserved
loop-at-preserved c =
    simp unary_clauses (c.in_ok-command.ensures ∙ ap (λ (a : App). with_subcommand a (asked.app_at c.loop-at.at).top) c.loop-at.invariant)

twelve : (n : ℕ) → n ≤ 12 → 12 ≤ n → n ≡ 12
twelve n a b = omega arith

pub returns : goal.returns
returns c =
    subst (λ (n : ℕ). app_of c.loop-at.command ≡ asked.with_rows (app_of c.args.command) n) (twelve c.loop-at.at c.loop-at.auto.at-end c.loop-at-test.false) c.loop-at.invariant
