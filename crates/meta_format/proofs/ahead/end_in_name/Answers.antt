use Rattle.std.proofs.Common.{◌≡◌, length, sym, ◌∙◌, subst, arith}
use Rattle.block_tree.specs.Shape.{longest_tag}
use Rattle.meta_format.specs.Limits.{limits}
use Rattle.meta_format.specs.inside.Flat.{NameUpTo}
use Rattle.meta_format.proofs.Cursor.{name_size}
use Rattle.meta_format.proofs.Finding.{open_in_name, bad_in_name, late_in_name}
use Rattle.meta_format.proofs.ahead.end_in_name.Goals as goal

pub returns-then-limit-stream-clause-found : goal.returns-then-limit-stream-clause-found
returns-then-limit-stream-clause-found c =
    let short = c.requires.limit.short in
    let end : c.args.limit ≡ length c.args.stream.now = c.if-limit-stream.true in
    open_in_name limits _ _ c.args.name c.requires.there.0 (omega (arith, short, end)) c.requires.limit.early c.requires.there.1
    (subst (NameUpTo limits.tag c.args.stream.now c.args.name) end c.requires.there.2)

pub returns-then-is_bad-clause-found : goal.returns-then-is_bad-clause-found
returns-then-is_bad-clause-found c =
    let high = c.requires.limit.high in
    let inside = c.if-limit-stream.false in
    let so = c.requires.there.2 in
    bad_in_name limits _ _ c.args.name c.requires.there.0 _ c.requires.limit (omega (arith, high, inside)) c.requires.there.1 so
    (sym (c.is_bad.ensures so.0 (name_size longest_tag _ _ _ so)) ∙ c.if-is_bad.true)

pub returns-clause-found : goal.returns-clause-found
returns-clause-found c =
    let high = c.requires.limit.high in
    let inside = c.if-limit-stream.false in
    let so = c.requires.there.2 in
    late_in_name limits _ _ c.args.name c.requires.there.0 _ c.requires.limit (omega (arith, high, inside)) c.requires.there.1 so
    (sym (c.is_bad.ensures so.0 (name_size longest_tag _ _ _ so)) ∙ c.if-is_bad.false)
