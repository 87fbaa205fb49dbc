use Rattle.std.proofs.Common.{◌≡◌, ℕ, List, sym, ◌∙◌, subst, true, false}
use Rattle.std.specs.Str.{IsCharBoundary}
use Rattle.session_engine.proofs.Completing.{bad_cursor, good_cursor}
use Rattle.session_engine.proofs.engine.Engine.check_cursor.Goals as goal

pub returns-then-not-is_char_boundary-clause-refuses : goal.returns-then-not-is_char_boundary-clause-refuses
returns-then-not-is_char_boundary-clause-refuses g c = λ w h.
    let bad : IsCharBoundary c.args.text.now c.args.cursor → ⊥ = λ good.
    let no : false ≡ true = sym c.if-not-is_char_boundary.true ∙ c.is_char_boundary.ensures.test.1 (subst (λ (t : List ℕ). IsCharBoundary t c.args.cursor) (sym c.as_str.ensures) good) in cc in
    sym (bad_cursor w c.args.name c.args.text.now c.args.cursor bad)

pub returns-clause-refuses : goal.returns-clause-refuses
returns-clause-refuses g c = λ w h.
    let good : IsCharBoundary c.args.text.now c.args.cursor = subst (λ (t : List ℕ). IsCharBoundary t c.args.cursor) c.as_str.ensures (c.is_char_boundary.ensures.test.0 c.if-not-is_char_boundary.false) in
    c.queue.ensures w h ∙ sym (good_cursor w c.args.name c.args.text.now c.args.cursor good)
