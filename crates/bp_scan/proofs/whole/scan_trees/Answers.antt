use Rattle.std.proofs.Common.{◌≡◌, ◌+◌, ◌-◌, ◌<◌, length, refl, ◌∙◌, arith}
use Rattle.bp_free.specs.Set.{has, members}
use Rattle.bp_layout.specs.Free.{AreFreeBlocks}
use Rattle.bp_layout.specs.Words.{block_count}
use Rattle.bp_scan.proofs.BothScans.{free_without}
use Rattle.bp_scan.proofs.Counting.{few_free, has_live, with_live}
use Rattle.bp_scan.proofs.FaultLaws.{first_scan_faults}
use Rattle.pm_region.specs.Memory.{current_words}
use Rattle.bp_scan.proofs.whole.scan_trees.Goals as goal

pub overflow_sub-live-in-Ok : goal.overflow_sub-live-in-Ok
overflow_sub-live-in-Ok g c =
    let image = current_words (g.R.Region.memory c.args.region.now) in
    let room : length c.take_out.new.blocks ≡ block_count image = c.take_out.ensures.room ∙ c.scan.ensures.block_room ∙ c.find_snapshot.ensures.block_room ∙ c.requires.blocks in
    let free : AreFreeBlocks image (has c.find_snapshot.new.snapshot_blocks) (has c.take_out.new.blocks) =
    free_without image c.find_snapshot.new.snapshot_blocks c.scan.new.blocks c.take_out.new.blocks c.in-Ok.ensures.blocks c.take_out.ensures in
    let few : length (members c.take_out.new.blocks) < length c.take_out.new.blocks =
    few_free image (has c.find_snapshot.new.snapshot_blocks) c.take_out.new.blocks free (omega (arith, room, c.requires.sized.at_least)) in
    omega (arith, few, c.room.ensures, c.count.ensures)

pub returns-in-Ok-clause-blocks : goal.returns-in-Ok-clause-blocks
returns-in-Ok-clause-blocks g c =
    free_without (current_words (g.R.Region.memory c.args.region.now)) c.find_snapshot.new.snapshot_blocks c.scan.new.blocks c.take_out.new.blocks c.in-Ok.ensures.blocks c.take_out.ensures

pub returns-in-Ok-clause-totals : goal.returns-in-Ok-clause-totals
returns-in-Ok-clause-totals g c =
    let image = current_words (g.R.Region.memory c.args.region.now) in
    let blocks = c.take_out.new.blocks in
    let snapshot_blocks = c.find_snapshot.new.snapshot_blocks in
    let room : length blocks ≡ block_count image = c.take_out.ensures.room ∙ c.scan.ensures.block_room ∙ c.find_snapshot.ensures.block_room ∙ c.requires.blocks in
    let free : AreFreeBlocks image (has snapshot_blocks) (has blocks) = free_without image snapshot_blocks c.scan.new.blocks blocks c.in-Ok.ensures.blocks c.take_out.ensures in
    let few : length (members blocks) < length blocks = few_free image (has snapshot_blocks) blocks free (omega (arith, room, c.requires.sized.at_least)) in
    let sum : c.room.result - 1 - c.count.result + length (members blocks) + 1 ≡ block_count image = omega (arith, few, room, c.room.ensures, c.count.ensures) in
    with_live image c.in-Ok.totals _ c.in-Ok.ensures.totals refl refl refl
    (has_live image snapshot_blocks blocks (c.room.result - 1 - c.count.result) c.in_ok-find_snapshot.ensures.snapshot_blocks free room sum)

pub returns-in-Err-clause-fault : goal.returns-in-Err-clause-fault
returns-in-Err-clause-fault g c =
    first_scan_faults (current_words (g.R.Region.memory c.args.region.now)) g.N.NameCheck.known c.in-Err.fault c.in-Err.ensures.fault
