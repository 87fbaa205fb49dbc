use Rattle.sheet_text.specs.Texts.{reply_text}
use Rattle.tellings.proofs.Voices.{came_on}
use Rattle.tellings.proofs.in_words.write_events.Goals as goal

pub loop-reply-preserved : goal.loop-reply-preserved
loop-reply-preserved g c =
    came_on reply_text c.args.replies.now c.loop-reply.reply-index c.reply-item.result (g.W.Write.contents c.args.writer.now)
    (g.W.Write.contents c.loop-reply.writer) (g.W.Write.contents c.write_event.new.writer)
    c.loop-reply-test.true c.reply-item.is c.loop-reply.invariant c.in_ok-write_event.ensures.ok
