use Rattle.std.proofs.Common.{◌≡◌, ◌+◌, ◌≤◌, ◌<◌, length, take, drop, sym, ap, subst, ◌∙◌, arith}
use Rattle.std.specs.Prelude.{slice_range}
use Rattle.bstr.specs.Text.{without_terminator}
use Rattle.arrivals.specs.Lines.{longest_line}
use Rattle.arrivals.proofs.Rooms.{range-front, range-len, range-rest, reported-long, reported-whole}
use Rattle.arrivals.proofs.buffer.LineBuffer.give.Goals as goal

pub returns-then-is_rest-clause-rest : goal.returns-then-is_rest-clause-rest
returns-then-is_rest-clause-rest c =
    let bytes = ap (λ h. h.bytes) c.self.view_is in
    let size = range-len c.self.inside.room.items c.self.inside.start c.self.inside.end (omega arith) (omega arith) in
    let same = ap length bytes in
    range-rest c.self.inside.room.items c.self.inside.start c.self.inside.end c.args.len (omega arith) ∙ ap (drop c.args.len) bytes

pub returns-then-own-gt-LONGEST_LINE-clause-rest : goal.returns-then-own-gt-LONGEST_LINE-clause-rest
returns-then-own-gt-LONGEST_LINE-clause-rest c =
    let bytes = ap (λ h. h.bytes) c.self.view_is in
    let size = range-len c.self.inside.room.items c.self.inside.start c.self.inside.end (omega arith) (omega arith) in
    let same = ap length bytes in
    range-rest c.self.inside.room.items c.self.inside.start c.self.inside.end c.args.len (omega arith) ∙ ap (drop c.args.len) bytes

pub returns-clause-rest : goal.returns-clause-rest
returns-clause-rest c =
    let bytes = ap (λ h. h.bytes) c.self.view_is in
    let size = range-len c.self.inside.room.items c.self.inside.start c.self.inside.end (omega arith) (omega arith) in
    let same = ap length bytes in
    range-rest c.self.inside.room.items c.self.inside.start c.self.inside.end c.args.len (omega arith) ∙ ap (drop c.args.len) bytes

pub returns-then-own-gt-LONGEST_LINE-clause-reported : goal.returns-then-own-gt-LONGEST_LINE-clause-reported
returns-then-own-gt-LONGEST_LINE-clause-reported c =
    let room = c.self.inside.room.items in
    let start = c.self.inside.start in
    let len = c.args.len in
    let bytes = ap (λ h. h.bytes) c.self.view_is in
    let size = range-len room start c.self.inside.end (omega arith) (omega arith) in
    let same = ap length bytes in
    let raw = slice_range room start (start + len) in
    let front : take len c.args.self.now.bytes ≡ raw = sym (ap (take len) bytes) ∙ sym (range-front room start c.self.inside.end len (omega arith)) in
    let own : c.own_bytes-own.result ≡ length (without_terminator raw) = subst (λ r. c.own_bytes-own.result ≡ length (without_terminator (slice_range r start (start + len)))) c.deref.ensures.value c.own_bytes-own.ensures.len in
    reported-long c.args.self.now.dropping (take len c.args.self.now.bytes) raw (sym (ap (λ h. h.dropping) c.self.view_is) ∙ c.if-is_rest.false) front
    (subst (λ n. longest_line < n) own c.if-own-gt-LONGEST_LINE.true)

pub returns-clause-reported : goal.returns-clause-reported
returns-clause-reported c =
    let room = c.self.inside.room.items in
    let start = c.self.inside.start in
    let len = c.args.len in
    let bytes = ap (λ h. h.bytes) c.self.view_is in
    let size = range-len room start c.self.inside.end (omega arith) (omega arith) in
    let same = ap length bytes in
    let raw = slice_range room start (start + len) in
    let front : take len c.args.self.now.bytes ≡ raw = sym (ap (take len) bytes) ∙ sym (range-front room start c.self.inside.end len (omega arith)) in
    let own : c.own_bytes-own.result ≡ length (without_terminator raw) = subst (λ r. c.own_bytes-own.result ≡ length (without_terminator (slice_range r start (start + len)))) c.deref.ensures.value c.own_bytes-own.ensures.len in
    let value : take c.own_bytes-own.result raw ≡ without_terminator raw = subst (λ r. take c.own_bytes-own.result (slice_range r start (start + len)) ≡ without_terminator (slice_range r start (start + len))) c.deref.ensures.value c.own_bytes-own.ensures.value in
    let few : c.own_bytes-own.result ≤ length raw = subst (λ r. c.own_bytes-own.result ≤ length (slice_range r start (start + len))) c.deref.ensures.value c.own_bytes-own.ensures.few in
    let raw_size = range-len room start (start + len) (omega arith) (omega arith) in
    reported-whole c.args.self.now.dropping (take len c.args.self.now.bytes) raw (slice_range room start (start + c.own_bytes-own.result)) (sym (ap (λ h. h.dropping) c.self.view_is) ∙ c.if-is_rest.false) front
    (subst (λ n. n ≤ longest_line) own c.if-own-gt-LONGEST_LINE.false) (range-front room start (start + len) c.own_bytes-own.result (omega arith) ∙ value)
