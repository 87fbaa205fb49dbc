use Rattle.std.proofs.Common.{sym, subst}
use Rattle.std.specs.Prelude.{OnOk}
use Rattle.std.specs.Io.KnownBytes.{Appends}
use Rattle.tellings.specs.Words.{interrupt_text}
use Rattle.tellings.proofs.in_words.show_interrupt.Goals as goal

pub returns-in-Sent-clause-ok : goal.returns-in-Sent-clause-ok
returns-in-Sent-clause-ok g c =
    subst
    (λ t. OnOk c.write_named-in-Sent.result (Appends (g.W.Write.contents c.args.writer.now) (g.W.Write.contents c.write_named-in-Sent.new.writer) (interrupt_text c.args.name t)))
    (sym c.in-Sent.is) c.write_named-in-Sent.ensures.ok
