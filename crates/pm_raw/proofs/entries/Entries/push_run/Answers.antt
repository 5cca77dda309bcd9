use Rattle.std.proofs.Common.{◌∙◌, ap, arith, length}
use Rattle.std.specs.List.{range_with_len}
use Rattle.std.proofs.lemmas.List.{length-append}
use Rattle.std.proofs.lemmas.List.FromFn.{length-range_with_len}
use Rattle.pm_raw.proofs.entries.Entries.push_run.Goals as goal

pub invariant_of-self : goal.invariant_of-self
invariant_of-self c =
    let entries = c.self.inside in
    let step = c.self.invariant in
    let many = length c.args.saved.now in
    let size = ap length c.extend.ensures.words ∙ length-append entries.words.words (range_with_len c.args.first many) in
    let run = length-range_with_len c.args.first many in
    record {
      counted = omega (arith, size, run, step.counted, ap length c.add.ensures.items, length-append entries.saved.items c.args.saved.now);
      has_room = omega (arith, c.add.ensures.room, step.has_room, c.extend.ensures.room);
    }
