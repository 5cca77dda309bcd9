use Rattle.std.proofs.Common.{◌∙◌, ◌<◌, ◌^◌, sym, subst}
use Rattle.bp_second.proofs.SnapshotLaws.{length-second}
use Rattle.bp_second.proofs.shown.ShownRegion.words.Goals as goal

pub returns-in-Snapshot-clause-count : goal.returns-in-Snapshot-clause-count
returns-in-Snapshot-clause-count g c =
    rw c.in-Snapshot.is (c.words-in-Snapshot.ensures.count ∙ sym (length-second (g.R.Region.memory c.in-Snapshot.second.region.now)))

pub returns-in-Snapshot-clause-few : goal.returns-in-Snapshot-clause-few
returns-in-Snapshot-clause-few g c =
    rw c.in-Snapshot.is (subst (λ n. n < 2 ^ 41) (sym (length-second (g.R.Region.memory c.in-Snapshot.second.region.now))) c.words-in-Snapshot.ensures.few)
