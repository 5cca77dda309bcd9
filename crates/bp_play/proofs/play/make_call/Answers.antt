use Rattle.bp_script.specs.Texts.LineReply.{answered}
use Rattle.bp_session.proofs.ActingLaws.{does_call}
use Rattle.bp_play.proofs.play.make_call.Goals as goal

pub returns : goal.returns
returns g c =
    let applied = rw c.with_bytes-asked.ensures at c.apply.ensures.calls in
    let done = does_call g.V.FileSystem.behaviour g.met.V.FileSystem.lawful (g.V.FileSystem.state c.args.system.now) (g.V.FileSystem.state c.apply.new.self) _ _ applied in
    record {
      reply = answered c.apply.new.reply.answer;
      line = done.line;
      counted = rw c.answer.ensures.seen at c.count_answer.ensures;
      capacity = done.capacity;
    }
