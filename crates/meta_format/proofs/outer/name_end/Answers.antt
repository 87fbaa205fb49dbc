use Rattle.std.proofs.Common.{sym, ◌∙◌, arith}
use Rattle.block_tree.specs.Shape.{longest_tag}
use Rattle.meta_format.proofs.Cursor.{named_more, named_tag, name_size}
use Rattle.meta_format.proofs.outer.name_end.Goals as goal

pub returns-then-is_bad : goal.returns-then-is_bad
returns-then-is_bad c =
    let so = c.loop-i.invariant.2 in
    (so, c.loop-i-test.true, sym (c.is_bad.ensures so.0 (name_size longest_tag _ _ _ so)) ∙ c.if-is_bad.true)

pub returns-then-is_separator : goal.returns-then-is_separator
returns-then-is_separator c =
    let so = c.loop-i.invariant.2 in
    let within = c.requires.high in
    let on = c.loop-i-test.true in
    (named_tag longest_tag _ _ _ so (omega (arith, within, on)) (sym (c.is_bad.ensures so.0 (name_size longest_tag _ _ _ so)) ∙ c.if-is_bad.false) (sym c.is_separator.ensures ∙ c.if-is_separator.true), omega (arith, on))

pub loop-i-preserved : goal.loop-i-preserved
loop-i-preserved c =
    let so = c.loop-i.invariant.2 in
    let low = c.loop-i.invariant.0 in
    let within = c.requires.high in
    let on = c.loop-i-test.true in
    (omega (arith, low), omega (arith, on), named_more longest_tag _ _ _ so (omega (arith, within, on)) (sym (c.is_bad.ensures so.0 (name_size longest_tag _ _ _ so)) ∙ c.if-is_bad.false) (sym c.is_separator.ensures ∙ c.if-is_separator.false))
