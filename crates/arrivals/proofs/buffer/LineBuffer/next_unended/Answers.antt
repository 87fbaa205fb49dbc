use Rattle.std.proofs.Common.{◌≡◌, ◌-◌, true, false, length, sym, ap, ◌∙◌, arith}
use Rattle.std.proofs.lemmas.List.{nil_from_length}
use Rattle.arrivals.proofs.Rooms.{range-len}
use Rattle.arrivals.proofs.Giving.{end-gives, line_len-last, more-gives, took-gives}
use Rattle.arrivals.proofs.buffer.LineBuffer.next_unended.Goals.{else-len-eq0-via-then-len-eq0+else-not-self-2, else-len-eq0-via-else-len-eq0}
use Rattle.arrivals.proofs.buffer.LineBuffer.next_unended.Goals as goal

pub returns-then-not-self-clause-gives : goal.returns-then-not-self-clause-gives
returns-then-not-self-clause-gives c =
    more-gives c.args.self.now c.ask.new.self (sym (ap (λ h. h.ended) c.self.view_is) ∙ c.if-not-self.true) c.requires c.ask.ensures.kept c.ask.ensures.dropping c.ask.ensures.ended

pub returns-then-not-self-2-clause-gives : goal.returns-then-not-self-2-clause-gives
returns-then-not-self-2-clause-gives c =
    let size = range-len c.self.inside.room.items c.self.inside.start c.self.inside.end (omega arith) (omega arith) in
    end-gives c.args.self.now (sym (ap (λ h. h.ended) c.self.view_is) ∙ c.if-not-self.false) (sym (ap (λ h. h.dropping) c.self.view_is) ∙ c.if-not-self-2.true)
    (nil_from_length c.args.self.now.bytes (sym (ap (λ h. length h.bytes) c.self.view_is) ∙ size ∙ c.if-len-eq0.true))

pub returns-clause-gives : goal.returns-clause-gives
returns-clause-gives c =
    let n = c.self.inside.end - c.self.inside.start in
    let size = range-len c.self.inside.room.items c.self.inside.start c.self.inside.end (omega arith) (omega arith) in
    let all : length c.args.self.now.bytes ≡ n = sym (ap (λ h. length h.bytes) c.self.view_is) ∙ size in
    let drops = sym (ap (λ h. h.dropping) c.self.view_is) in
    took-gives c.args.self.now c.give.new.self c.give.result n
    (record { rest = c.give.ensures.rest; dropping = c.give.ensures.dropping; ended = c.give.ensures.ended; reported = c.give.ensures.reported })
    (omega arith)
    (λ no. elim c.else-len-eq0.branch [
      | else-len-eq0-via-then-len-eq0+else-not-self-2 w ↦ (let wrong : true ≡ false = sym w.if-not-self-2.false ∙ sym drops ∙ no in absurd cc)
      | else-len-eq0-via-else-len-eq0 w ↦ omega arith
    ])
    (λ more. line_len-last c.args.self.now.bytes c.args.self.now.ended c.requires (sym (ap (λ h. h.ended) c.self.view_is) ∙ c.if-not-self.false) more ∙ all)
