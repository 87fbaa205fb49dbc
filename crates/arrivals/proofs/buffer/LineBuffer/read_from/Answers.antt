use Rattle.std.proofs.Common.{◌≡◌, ◌+◌, ◌-◌, ◌++◌, true, false, length-drop, take, drop, sym, ap, ◌∙◌, arith, eqb-true}
use Rattle.std.proofs.lemmas.Slice.{between_from_start}
use Rattle.arrivals.proofs.Filling.{kept-lines, none-taken, read-lines, same-lines, take-both}
use Rattle.arrivals.proofs.buffer.LineBuffer.read_from.Goals as goal

pub returns-then-self-ge-ROOM-clause-lines : goal.returns-then-self-ge-ROOM-clause-lines
returns-then-self-ge-ROOM-clause-lines g c =
    let bytes = c.slide.ensures.front ∙ ap (λ h. h.bytes) c.self.view_is in
    same-lines c.args.self.now _ (g.R.Read.remaining c.args.reader.now)
    (between_from_start c.slide.new.room.items (c.self.inside.end - c.self.inside.start) ∙ bytes, ap (λ h. h.dropping) c.self.view_is, ap (λ h. h.ended) c.self.view_is)

pub returns-in-Ok-clause-ok : goal.returns-in-Ok-clause-ok
returns-in-Ok-clause-ok g c =
    let at = c.self.inside.end - c.self.inside.start in
    let room = c.read_after.new.room.items in
    let bytes = c.in-Ok.ensures.front ∙ c.slide.ensures.front ∙ ap (λ h. h.bytes) c.self.view_is in (
      take c.in-Ok.len (drop at room),
      record {
        added = between_from_start room (at + c.in-Ok.len) ∙ take-both room at c.in-Ok.len ∙ ap (λ b. b ++ take c.in-Ok.len (drop at room)) bytes;
        dropping = ap (λ h. h.dropping) c.self.view_is;
        still = λ ended. (let wrong : true ≡ false = sym ended ∙ sym (ap (λ h. h.ended) c.self.view_is) ∙ c.if-self.false in absurd cc);
        reads = λ few none. none-taken room at c.in-Ok.len c.in-Ok.ensures.few none;
      },
    )

pub returns-in-Ok-clause-lines : goal.returns-in-Ok-clause-lines
returns-in-Ok-clause-lines g c =
    let at = c.self.inside.end - c.self.inside.start in
    let room = c.read_after.new.room.items in
    let left = length-drop at room in
    let bytes = c.in-Ok.ensures.front ∙ c.slide.ensures.front ∙ ap (λ h. h.bytes) c.self.view_is in
    read-lines c.args.self.now _ (g.R.Read.remaining c.args.reader.now) (g.R.Read.remaining c.read_after.new.reader) (take c.in-Ok.len (drop at room))
    (between_from_start room (at + c.in-Ok.len) ∙ take-both room at c.in-Ok.len ∙ ap (λ b. b ++ take c.in-Ok.len (drop at room)) bytes)
    (ap (λ h. h.dropping) c.self.view_is)
    (sym (ap (λ h. h.ended) c.self.view_is) ∙ c.if-self.false)
    c.in-Ok.ensures.bytes.0
    (λ ended. c.in-Ok.ensures.bytes.1 (eqb-true _ _ ended) (omega arith))

pub returns-in-Err-clause-lines : goal.returns-in-Err-clause-lines
returns-in-Err-clause-lines g c =
    let bytes = c.in-Err.ensures.front ∙ c.slide.ensures.front ∙ ap (λ h. h.bytes) c.self.view_is in
    kept-lines c.args.self.now _ (g.R.Read.remaining c.args.reader.now) (g.R.Read.remaining c.read_after.new.reader)
    (between_from_start c.read_after.new.room.items (c.self.inside.end - c.self.inside.start) ∙ bytes, ap (λ h. h.dropping) c.self.view_is, ap (λ h. h.ended) c.self.view_is)
    c.in-Err.ensures.bytes
