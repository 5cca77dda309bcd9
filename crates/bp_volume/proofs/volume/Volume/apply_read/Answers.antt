use Rattle.std.proofs.Common.{◌∙◌, length, ap}
use Rattle.bp_volume.specs.Seen.{read_answer_of}
use Rattle.bp_volume.proofs.ReplyLaws.{refill-whole}
use Rattle.bp_volume.proofs.volume.Volume.apply_read.Goals as goal

pub returns : goal.returns
returns g c =
    rw (c.report_read.ensures ∙ ap (read_answer_of c.read_prefix-reported.result) (refill-whole c.args.reply.now.buffer c.read_prefix-reported.new.buffer (c.read_prefix-reported.auto.buffer ∙ ap length c.buffer.ensures.bytes)))
    c.read_prefix-reported.ensures.called
