use Rattle.std.proofs.Common.{rules, ◌∷◌, ◌++◌, []}
use Rattle.std.specs.Io.KnownBytes.{Appends, append_known}
use Rattle.std.specs.Fmt.{decimal}
use Rattle.block_tree.specs.Tree.{Tree}
use Rattle.meta_format.specs.Limits.{limits}
use Rattle.meta_format.specs.Spelling.{Spells}
use Rattle.sheet_text.specs.Blocks.{tree_text}
use Rattle.program_endings.proofs.Lines.{line_of}
use Rattle.program_endings.proofs.block_lines.write_outer.Goals as goal

pub returns-clause-ok : goal.returns-clause-ok
returns-clause-ok g c b spelled =
    let before = append_known (g.W.Write.contents c.args.out.now) c.args.room.now in
    let named = append_known (g.W.Write.contents c.put_numbers.new.out) c.put_numbers.new.self in
    let put = append_known (g.W.Write.contents c.put_spelled.new.out) c.put_spelled.new.self in
    let after = append_known (g.W.Write.contents c.end_line.new.out) c.end_line.new.self in
    let numbers : Appends before named ((decimal c.args.start ++ 32 ∷ []) ++ (decimal c.args.stop ++ 32 ∷ [])) = search rules in
    let block : (t : Tree) → Spells limits t c.args.spelling.now → Appends named put (tree_text t) = search rules in
    let end : Appends put after (10 ∷ []) = search rules in
    line_of c.args.start c.args.stop b _ _ _ _ numbers (block b spelled) end
