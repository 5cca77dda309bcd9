use Rattle.std.proofs.Common.{length, ap, arith}
use Rattle.bp_second.specs.Shown.{shown_memory}
use Rattle.bp_second.proofs.SnapshotLaws.{length-second}
use Rattle.bp_second.proofs.shown.ShownRegion.word_at.Goals as goal

pub load-requires : goal.load-requires
load-requires g c =
    let size = ap (λ shown. length (shown_memory g.R.Region.memory shown).base) c.in-Snapshot.is in
    omega (arith, c.requires.in_range, size, length-second (g.R.Region.memory c.in-Snapshot.second.region.now))
