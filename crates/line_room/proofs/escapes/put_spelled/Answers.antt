use Rattle.std.proofs.Common.{[], ◌+◌, ◌++◌, ◌∙◌, get_or, take, ap, arith}
use Rattle.line_room.specs.declared.table.TheConstants.{SPELLED}
use Rattle.line_room.specs.inside.Puts.{size_of}
use Rattle.line_room.proofs.Putting.{shorter}
use Rattle.line_room.proofs.Entries.{size_few, spelled_entry}
use Rattle.line_room.proofs.escapes.put_spelled.Goals as goal

pub returns-clause-text : goal.returns-clause-text
returns-clause-text c =
    let old = c.args.room.now in
    let new = c.put_four.new.room in
    let used = c.args.used in
    let text = get_or SPELLED c.args.byte [] in
    ap (λ s. take (used + s) new) c.size_of.ensures ∙ shorter used (size_of text) 4 old new text (omega (arith, c.requires)) (size_few text) c.put_four.ensures.text
    ∙ ap (λ t. take used old ++ t) (spelled_entry c.args.byte (omega arith))
