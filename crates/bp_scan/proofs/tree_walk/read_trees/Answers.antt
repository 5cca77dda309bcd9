use Rattle.std.proofs.Common.{◌≡◌, ◌+◌, length, ◌∙◌, arith}
use Rattle.bp_free.specs.Set.{members}
use Rattle.bp_layout.specs.Words.{block_count}
use Rattle.pm_region.specs.Memory.{current_words}
use Rattle.bp_scan.proofs.Closing.{all_well_formed, all_free_blocks, all_others_live, all_free_inodes, all_counts, all_reached}
use Rattle.bp_scan.proofs.Counting.{few_free, has_totals}
use Rattle.bp_layout.specs.Thaw.{none_in_snapshot}
use Rattle.bp_scan.proofs.tree_walk.read_trees.Goals as goal

pub all_totals-requires : goal.all_totals-requires
all_totals-requires g c =
    let image = current_words (g.R.Region.memory c.args.region.now) in
    let reading = c.in_ok-read_directories.ensures.reading in
    let none = c.in_ok-read_directories.ensures.none_left in
    few_free image none_in_snapshot c.read_directories.new.work.blocks (all_free_blocks image c.read_directories.new.work reading none) (omega (arith, reading.room.blocks, reading.ready.formatted.sized.at_least))

pub returns-clause-well_formed : goal.returns-clause-well_formed
returns-clause-well_formed g c =
    all_well_formed (current_words (g.R.Region.memory c.args.region.now)) c.read_directories.new.work c.in_ok-read_directories.ensures.reading c.in_ok-read_directories.ensures.none_left

pub returns-clause-blocks : goal.returns-clause-blocks
returns-clause-blocks g c =
    all_free_blocks (current_words (g.R.Region.memory c.args.region.now)) c.read_directories.new.work c.in_ok-read_directories.ensures.reading c.in_ok-read_directories.ensures.none_left

pub returns-clause-others : goal.returns-clause-others
returns-clause-others g c =
    all_others_live (current_words (g.R.Region.memory c.args.region.now)) c.read_directories.new.work c.in_ok-read_directories.ensures.reading c.in_ok-read_directories.ensures.none_left

pub returns-clause-inodes : goal.returns-clause-inodes
returns-clause-inodes g c =
    all_free_inodes (current_words (g.R.Region.memory c.args.region.now)) c.read_directories.new.work c.in_ok-read_directories.ensures.reading c.in_ok-read_directories.ensures.none_left

pub returns-clause-counts : goal.returns-clause-counts
returns-clause-counts g c =
    all_counts (current_words (g.R.Region.memory c.args.region.now)) c.read_directories.new.work c.in_ok-read_directories.ensures.reading c.in_ok-read_directories.ensures.none_left

pub returns-clause-totals : goal.returns-clause-totals
returns-clause-totals g c =
    let image = current_words (g.R.Region.memory c.args.region.now) in
    let work = c.read_directories.new.work in
    let reading = c.in_ok-read_directories.ensures.reading in
    let none = c.in_ok-read_directories.ensures.none_left in
    let live : c.all_totals.result.live + length (members work.blocks) + 1 ≡ block_count image = c.all_totals.ensures.live ∙ reading.room.blocks in
    has_totals image work.blocks work.inodes work.totals c.all_totals.result (all_well_formed image work reading none) (all_free_blocks image work reading none) (all_free_inodes image work reading none)
    (all_reached image work reading none) reading.room.blocks live reading.counted c.all_totals.ensures.files c.all_totals.ensures.dirs c.all_totals.ensures.bytes
