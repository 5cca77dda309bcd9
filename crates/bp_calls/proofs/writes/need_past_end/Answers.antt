use Rattle.std.proofs.Common.{◌+◌, length, sym, ◌∙◌, arith}
use Rattle.bp_append.proofs.FewNeeded.{few_needed}
use Rattle.bp_calls.proofs.WritePastEnd.{past_end_needs}
use Rattle.pm_region.specs.Memory.{current_words}
use Rattle.bp_calls.proofs.writes.need_past_end.Goals as goal

pub returns-clause-need : goal.returns-clause-need
returns-clause-need g c =
    let image = current_words (g.R.Region.memory c.args.parts.now.region) in
    c.need_prep.ensures
    ∙ sym (past_end_needs image c.requires.mounted.well_formed c.args.ino c.args.offset (length c.args.bytes.now) c.args.tree.root c.args.tree.size c.requires.can.reached c.requires.can.file c.requires.past_end c.requires.can.some c.requires.root c.requires.size)

pub returns-clause-few : goal.returns-clause-few
returns-clause-few g c =
    let image = current_words (g.R.Region.memory c.args.parts.now.region) in
    let few = few_needed image c.args.tree.root c.args.tree.size c.args.offset (c.args.offset + length c.args.bytes.now) 256 (omega arith) (omega (arith, c.requires.can.short)) (omega (arith, c.requires.size, c.requires.past_end))
    (rw (c.requires.root, c.requires.size) (c.requires.mounted.well_formed.sound c.args.ino c.requires.can.reached).low) in
    omega (arith, few, c.need_prep.ensures)
