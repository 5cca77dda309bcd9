use Rattle.std.proofs.Common.{◌*◌, sym, subst, ◌∙◌, ap, arith}
use Rattle.bp_free.specs.Set.{has}
use Rattle.bp_layout.specs.Formatted.{IsSized}
use Rattle.bp_layout.specs.Free.{AreFreeBlocks}
use Rattle.bp_layout.specs.Thaw.{none_in_snapshot}
use Rattle.bp_layout.specs.WellFormed.{IsWellFormed}
use Rattle.bp_layout.specs.Words.{Image}
use Rattle.bp_layout.proofs.TreeImages.{snapshot-sized}
use Rattle.bp_scan.specs.Faults.{IsFault, IsScanFault, IsTreeFault}
use Rattle.bp_scan.specs.Scanned.{AreOthersLive}
use Rattle.bp_scan.proofs.BothScans.{snapshot_others, second_count, snapshot_words}
use Rattle.bp_scan.proofs.FaultLaws.{second_scan_faults}
use Rattle.bp_read.proofs.RegionWords.{length_now}
use Rattle.pm_region.specs.Memory.{current_words}
use Rattle.bp_scan.proofs.whole.scan_snapshot.Goals as goal

pub second-second-requires : goal.second-second-requires
second-second-requires g c = omega (arith, c.requires.sized.at_least, length_now (g.R.Region.memory c.args.region.now))

pub scan-requires : goal.scan-requires
scan-requires g c =
    let memory = g.R.Region.memory c.args.region.now in
    let count = second_count _ memory c.second-second.ensures in
    record {
      sized = subst IsSized (sym (snapshot_words _ memory c.second-second.ensures)) (snapshot-sized (current_words memory) c.requires.sized);
      blocks = c.requires.blocks ∙ sym count;
      inodes = c.requires.inodes ∙ ap (λ n. 64 * n) (sym count);
      pending = c.requires.pending ∙ ap (λ n. 64 * n) (sym count);
      counts = c.requires.counts ∙ ap (λ n. 64 * n) (sym count);
      known = λ is. subst IsWellFormed (sym (snapshot_words _ memory c.second-second.ensures)) ((c.requires.known is).second c.requires.there);
    }

pub returns-in-Ok-clause-well_formed : goal.returns-in-Ok-clause-well_formed
returns-in-Ok-clause-well_formed g c = subst IsWellFormed (snapshot_words _ (g.R.Region.memory c.args.region.now) c.second-second.ensures) c.in-Ok.ensures.well_formed

pub returns-in-Ok-clause-snapshot_blocks : goal.returns-in-Ok-clause-snapshot_blocks
returns-in-Ok-clause-snapshot_blocks g c =
    let memory = g.R.Region.memory c.args.region.now in
    let words = snapshot_words _ memory c.second-second.ensures in
    snapshot_others (current_words memory) c.scan.new.blocks c.fill_others.new.others c.requires.there
    (subst IsWellFormed words c.in-Ok.ensures.well_formed)
    (c.scan.ensures.block_room ∙ c.requires.blocks)
    (subst (λ (image : Image). AreFreeBlocks image none_in_snapshot (has c.scan.new.blocks)) words c.in-Ok.ensures.blocks)
    (subst (λ (image : Image). AreOthersLive image (has c.scan.new.blocks)) words c.in-Ok.ensures.others)
    c.fill_others.ensures

pub returns-in-Err-clause-fault : goal.returns-in-Err-clause-fault
returns-in-Err-clause-fault g c =
    let memory = g.R.Region.memory c.args.region.now in
    let words = snapshot_words _ memory c.second-second.ensures in
    let known = g.N.NameCheck.known in
    subst (IsScanFault known (IsFault (current_words memory))) (sym c.fault_of_snapshot.ensures)
    (second_scan_faults (current_words memory) c.requires.there known c.in-Err.fault (subst (λ (image : Image). IsScanFault known (IsTreeFault image) c.in-Err.fault) words c.in-Err.ensures.fault))
