use Rattle.std.proofs.Common.{ap, refl, ◌∙◌}
use Rattle.meta_format.specs.Limits.{limits}
use Rattle.meta_format.specs.Faults.{bad_tag, too_deep, too_long}
use Rattle.meta_format.specs.inside.Machine.{broken}
use Rattle.meta_format.specs.inside.Scan.{mode_of, scan_state}
use Rattle.meta_format.specs.Found.{outers}
use Rattle.meta_format.proofs.Feeds.{roomy, mode_alive, scan_start, fed_stands, fed_faults, fed_closes}
use Rattle.meta_format.proofs.reader.Reader.feed.Goals as goal

pub returns-in-Ok-clause-ok : goal.returns-in-Ok-clause-ok
returns-in-Ok-clause-ok c s blocks h =
    let k = c.args.self.now in
    let inside = c.self.inside in
    let after = c.scan_piece.new.scanner in
    let works = c.if-self.false in
    let ran = scan_start limits inside.scanner k c.new-found.result.items c.args.piece.now (scan_state after (outers c.scan_piece.new.found.items))
    (c.self.invariant.2 works ∙ ap (λ q. q.offset) c.self.view_is) (ap (λ q. q.mode) c.self.view_is) c.new-found.ensures.items c.in-Ok.ensures.scans in
    fed_stands limits roomy k s c.args.piece.now blocks after.at (outers c.scan_piece.new.found.items) (mode_of after) h ran _ (mode_alive after.place after.start after.levels.items after.name.items) works refl refl
    (c.begin_of.ensures after.levels.items after.name.items)

pub returns-in-Ok-clause-closes : goal.returns-in-Ok-clause-closes
returns-in-Ok-clause-closes c s blocks h =
    let k = c.args.self.now in
    let inside = c.self.inside in
    let after = c.scan_piece.new.scanner in
    let works = c.if-self.false in
    let ran = scan_start limits inside.scanner k c.new-found.result.items c.args.piece.now (scan_state after (outers c.scan_piece.new.found.items))
    (c.self.invariant.2 works ∙ ap (λ q. q.offset) c.self.view_is) (ap (λ q. q.mode) c.self.view_is) c.new-found.ensures.items c.in-Ok.ensures.scans in
    fed_closes limits k s c.args.piece.now blocks (scan_state after (outers c.scan_piece.new.found.items)) h ran

pub returns-in-Err-BadTag-clause-fault : goal.returns-in-Err-BadTag-clause-fault
returns-in-Err-BadTag-clause-fault c s blocks h =
    let k = c.args.self.now in
    let inside = c.self.inside in
    let after = c.scan_piece.new.scanner in
    let works = c.if-self.false in
    let ran = scan_start limits inside.scanner k c.new-found.result.items c.args.piece.now record { at = after.at; out = outers c.scan_piece.new.found.items; mode = broken bad_tag after.at }
    (c.self.invariant.2 works ∙ ap (λ q. q.offset) c.self.view_is) (ap (λ q. q.mode) c.self.view_is) c.new-found.ensures.items (rw c.in-Err-BadTag.field-0-is at c.in-Err-BadTag.ensures.scans) in
    fed_faults limits roomy k s c.args.piece.now blocks after.at after.at (outers c.scan_piece.new.found.items) bad_tag h ran

pub returns-in-Err-BadTag-clause-closes_before : goal.returns-in-Err-BadTag-clause-closes_before
returns-in-Err-BadTag-clause-closes_before c s blocks h =
    let k = c.args.self.now in
    let inside = c.self.inside in
    let after = c.scan_piece.new.scanner in
    let works = c.if-self.false in
    let ran = scan_start limits inside.scanner k c.new-found.result.items c.args.piece.now record { at = after.at; out = outers c.scan_piece.new.found.items; mode = broken bad_tag after.at }
    (c.self.invariant.2 works ∙ ap (λ q. q.offset) c.self.view_is) (ap (λ q. q.mode) c.self.view_is) c.new-found.ensures.items (rw c.in-Err-BadTag.field-0-is at c.in-Err-BadTag.ensures.scans) in
    fed_closes limits k s c.args.piece.now blocks record { at = after.at; out = outers c.scan_piece.new.found.items; mode = broken bad_tag after.at } h ran

pub returns-in-Err-TooDeep-clause-fault : goal.returns-in-Err-TooDeep-clause-fault
returns-in-Err-TooDeep-clause-fault c s blocks h =
    let k = c.args.self.now in
    let inside = c.self.inside in
    let after = c.scan_piece.new.scanner in
    let works = c.if-self.false in
    let ran = scan_start limits inside.scanner k c.new-found.result.items c.args.piece.now record { at = after.at; out = outers c.scan_piece.new.found.items; mode = broken too_deep after.at }
    (c.self.invariant.2 works ∙ ap (λ q. q.offset) c.self.view_is) (ap (λ q. q.mode) c.self.view_is) c.new-found.ensures.items (rw c.in-Err-TooDeep.field-0-is at c.in-Err-TooDeep.ensures.scans) in
    fed_faults limits roomy k s c.args.piece.now blocks after.at after.at (outers c.scan_piece.new.found.items) too_deep h ran

pub returns-in-Err-TooDeep-clause-closes_before : goal.returns-in-Err-TooDeep-clause-closes_before
returns-in-Err-TooDeep-clause-closes_before c s blocks h =
    let k = c.args.self.now in
    let inside = c.self.inside in
    let after = c.scan_piece.new.scanner in
    let works = c.if-self.false in
    let ran = scan_start limits inside.scanner k c.new-found.result.items c.args.piece.now record { at = after.at; out = outers c.scan_piece.new.found.items; mode = broken too_deep after.at }
    (c.self.invariant.2 works ∙ ap (λ q. q.offset) c.self.view_is) (ap (λ q. q.mode) c.self.view_is) c.new-found.ensures.items (rw c.in-Err-TooDeep.field-0-is at c.in-Err-TooDeep.ensures.scans) in
    fed_closes limits k s c.args.piece.now blocks record { at = after.at; out = outers c.scan_piece.new.found.items; mode = broken too_deep after.at } h ran

pub returns-in-Err-TooLong-clause-fault : goal.returns-in-Err-TooLong-clause-fault
returns-in-Err-TooLong-clause-fault c s blocks h =
    let k = c.args.self.now in
    let inside = c.self.inside in
    let after = c.scan_piece.new.scanner in
    let works = c.if-self.false in
    let ran = scan_start limits inside.scanner k c.new-found.result.items c.args.piece.now record { at = after.at; out = outers c.scan_piece.new.found.items; mode = broken too_long after.at }
    (c.self.invariant.2 works ∙ ap (λ q. q.offset) c.self.view_is) (ap (λ q. q.mode) c.self.view_is) c.new-found.ensures.items (rw c.in-Err-TooLong.field-0-is at c.in-Err-TooLong.ensures.scans) in
    fed_faults limits roomy k s c.args.piece.now blocks after.at after.at (outers c.scan_piece.new.found.items) too_long h ran

pub returns-in-Err-TooLong-clause-closes_before : goal.returns-in-Err-TooLong-clause-closes_before
returns-in-Err-TooLong-clause-closes_before c s blocks h =
    let k = c.args.self.now in
    let inside = c.self.inside in
    let after = c.scan_piece.new.scanner in
    let works = c.if-self.false in
    let ran = scan_start limits inside.scanner k c.new-found.result.items c.args.piece.now record { at = after.at; out = outers c.scan_piece.new.found.items; mode = broken too_long after.at }
    (c.self.invariant.2 works ∙ ap (λ q. q.offset) c.self.view_is) (ap (λ q. q.mode) c.self.view_is) c.new-found.ensures.items (rw c.in-Err-TooLong.field-0-is at c.in-Err-TooLong.ensures.scans) in
    fed_closes limits k s c.args.piece.now blocks record { at = after.at; out = outers c.scan_piece.new.found.items; mode = broken too_long after.at } h ran
