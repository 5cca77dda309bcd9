use Rattle.std.proofs.Common.{◌+◌, get_or, sym, ◌∙◌, arith}
use Rattle.pm_region.specs.Memory.{current_words}
use Rattle.bp_layout.specs.Words.{byte_of}
use Rattle.bp_append.proofs.LaidLaws.{laid-given}
use Rattle.bp_append.proofs.lay.laid_word.Goals as goal

pub returns-then-layer-start : goal.returns-then-layer-start
returns-then-layer-start g c = λ i few.
    c.given_in.ensures i few
    ∙ sym (laid-given c.args.layer.now.low c.args.layer.now.from c.args.layer.now.bytes.now (byte_of (get_or (current_words (g.R.Region.memory c.args.region.now)) c.args.place 0) i) (c.args.start + i) (omega (arith, c.if-layer-start.true)))
