use Rattle.std.proofs.Common.{rules, refl, length, ◌≡◌, ◌+◌}
use Rattle.meta_format.specs.inside.Scan.{most_of}
use Rattle.meta_format.specs.declared.scan.Scanner.{Scanner}
use Rattle.meta_format.proofs.Letters.{took_text, placed_text}
use Rattle.meta_format.proofs.scan.Scanner.take_run.Goals as goal

pub returns-clause-runs : goal.returns-clause-runs
returns-clause-runs c =
    let old = c.args.self.now in
    let t = c.args.text.now in
    let new : Scanner = record { at = old.at + length t; start = old.start; place = old.place; name = old.name; levels = c.add_letters.new.levels } in
    let made = c.in_ok-add_letters.ensures in
    let count : length c.add_letters.new.levels.items ≡ length old.levels.items = search (rules, made) in
    took_text (most_of c.args.bounds) old new t c.requires.plain c.requires.body refl refl refl made.marks count c.requires.short c.requires.early

pub returns-clause-placed : goal.returns-clause-placed
returns-clause-placed c =
    let old = c.args.self.now in
    let t = c.args.text.now in
    let new : Scanner = record { at = old.at + length t; start = old.start; place = old.place; name = old.name; levels = c.add_letters.new.levels } in
    let made = c.in_ok-add_letters.ensures in
    let count : length c.add_letters.new.levels.items ≡ length old.levels.items = search (rules, made) in
    placed_text c.args.bounds.block old new t c.requires.placed c.requires.body refl refl refl refl made.marks count made.right c.requires.short
