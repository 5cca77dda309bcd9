use Rattle.std.proofs.Common.{length, ap, arith, ◌∙◌, sym}
use Rattle.pm_region.specs.Memory.{current_words}
use Rattle.bp_second.specs.Shown.{shown_memory}
use Rattle.bp_second.proofs.SnapshotLaws.{length-second, second-run}
use Rattle.bp_second.proofs.shown.ShownRegion.load_words.Goals as goal

pub load_words-requires-in-Snapshot-clause-in_range : goal.load_words-requires-in-Snapshot-clause-in_range
load_words-requires-in-Snapshot-clause-in_range g c =
    let size = ap (λ shown. length (shown_memory g.R.Region.memory shown).base) c.in-Snapshot.is in
    omega (arith, c.requires.in_range, size, length-second (g.R.Region.memory c.in-Snapshot.second.region.now))

pub returns-in-Snapshot : goal.returns-in-Snapshot
returns-in-Snapshot g c =
    let image = current_words (g.R.Region.memory c.in-Snapshot.second.region.now) in
    rw c.in-Snapshot.is (c.load_words-in-Snapshot.ensures ∙ sym (second-run image c.args.first c.args.count c.requires.after_head))
