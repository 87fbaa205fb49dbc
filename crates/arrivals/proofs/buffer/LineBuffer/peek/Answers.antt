use Rattle.std.proofs.Common.{◌≡◌, ◌+◌, ◌≤◌, length, take, sym, ap, subst, ◌∙◌, arith}
use Rattle.std.specs.Prelude.{slice_range}
use Rattle.bstr.specs.Text.{without_terminator}
use Rattle.arrivals.specs.Lines.{longest_line}
use Rattle.arrivals.specs.Held.{if_read}
use Rattle.arrivals.proofs.Giving.{next-line}
use Rattle.arrivals.proofs.Rooms.{first-feed, range-front, range-len, reported-whole}
use Rattle.arrivals.proofs.Splitting.{line_len-feed}
use Rattle.arrivals.proofs.buffer.LineBuffer.peek.Goals as goal

pub returns : goal.returns
returns c =
    let room = c.self.inside.room.items in
    let start = c.self.inside.start in
    let held = c.args.self.now in
    let at = c.in-Some.at in
    let len = at + 1 in
    let bytes = ap (λ h. h.bytes) c.self.view_is in
    let size = range-len room start c.self.inside.end (omega arith) (omega arith) in
    let same = ap length bytes in
    let feed = first-feed _ held.bytes at (ap (λ r. slice_range r start c.self.inside.end) c.deref.ensures.value ∙ bytes) c.in-Some.ensures in
    let raw = slice_range room start (start + len) in
    let front : take len held.bytes ≡ raw = sym (ap (take len) bytes) ∙ sym (range-front room start c.self.inside.end len (omega (arith, feed.within))) in
    let own : c.own_bytes-own.result ≡ length (without_terminator raw) = subst (λ r. c.own_bytes-own.result ≡ length (without_terminator (slice_range r start (start + len)))) c.deref-2.ensures.value c.own_bytes-own.ensures.len in
    let value : take c.own_bytes-own.result raw ≡ without_terminator raw = subst (λ r. take c.own_bytes-own.result (slice_range r start (start + len)) ≡ without_terminator (slice_range r start (start + len))) c.deref-2.ensures.value c.own_bytes-own.ensures.value in
    let few : c.own_bytes-own.result ≤ length raw = subst (λ r. c.own_bytes-own.result ≤ length (slice_range r start (start + len))) c.deref-2.ensures.value c.own_bytes-own.ensures.few in
    let raw_size = range-len room start (start + len) (omega arith) (omega (arith, feed.within)) in
    let line = slice_range c.deref-3.result.now start (start + c.own_bytes-own.result) in
    let reported = reported-whole held.dropping (take len held.bytes) raw line (sym (ap (λ h. h.dropping) c.self.view_is) ∙ c.if-self.false) front
    (subst (λ n. n ≤ longest_line) own c.if-own-gt-LONGEST_LINE.false)
    (ap (λ r. slice_range r start (start + c.own_bytes-own.result)) c.deref-3.ensures.value ∙ range-front room start (start + len) c.own_bytes-own.result (omega arith) ∙ value) in
    next-line held line len reported (omega (arith, feed.within)) (omega arith) (at, feed.within, feed.feed)
    (λ more. line_len-feed held.bytes (if_read held.ended more) at feed.within feed.feed feed.before)
