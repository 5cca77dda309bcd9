use Rattle.std.proofs.Common.{◌+◌, ◌*◌, ◌/◌, ◌<◌, ◌≤◌, refl, sym, subst, arith}
use Rattle.bp_layout.specs.Words.{block_count}
use Rattle.bp_layout.specs.Inode.{size_of}
use Rattle.pm_region.specs.Memory.{current_words}
use Rattle.bp_walk.proofs.Pointers.{on_ok_then}
use Rattle.bp_scan.specs.Scanned.{HasAllBlocks}
use Rattle.bp_scan.proofs.InodeFaults.{err_then}
use Rattle.bp_scan.proofs.Starting.{file_sound, file_full, file_few, file_not_first, root_fails, reading_starts, all_blocks, filled_inodes}
use Rattle.bp_scan.proofs.tree_walk.start.Goals.{After-inode_file-count}
use Rattle.bp_scan.proofs.tree_walk.start.Given as given
use Rattle.bp_scan.proofs.tree_walk.start.Goals as goal

-- the set that was filled has all blocks but the first
all_there : (g : given.Over) (c : goal.After-inode_file-count g) → HasAllBlocks (current_words (g.R.Region.memory c.args.region.now)) c.fill.new.self
all_there g c =
    all_blocks (current_words (g.R.Region.memory c.args.region.now)) c.args.work.now.blocks c.fill.new.self c.room-room.result
    (omega (arith, c.requires.formatted.sized.at_least)) c.requires.unread.blocks c.room-room.ensures c.fill.ensures

-- there are no more inodes than the blocks after the first could hold
count_fits : (g : given.Over) (c : goal.After-inode_file-count g) →
    c.inode_file-count.result.size / 64 + 64 ≤ 64 * block_count (current_words (g.R.Region.memory c.args.region.now))
count_fits g c =
    let image = current_words (g.R.Region.memory c.args.region.now) in
    let few : size_of image 0 / 64 + 64 ≤ 64 * block_count image =
    file_few image c.in_ok-enter_inode_file.ensures.ready c.fill.new.self c.enter_inode_file.new.blocks (all_there g c) c.in_ok-enter_inode_file.ensures.entered in
    subst (λ x. x / 64 + 64 ≤ 64 * block_count image) (sym c.inode_file-count.ensures.size) few

pub fill-requires-2-clause-in_range : goal.fill-requires-2-clause-in_range
fill-requires-2-clause-in_range g c =
    omega (arith, count_fits g (goal.at.fill-requires-2-clause-in_range g c).After-inode_file-count, c.requires.unread.room.inodes)

pub enter-requires-clause-sound : goal.enter-requires-clause-sound
enter-requires-clause-sound g c =
    let image = current_words (g.R.Region.memory c.args.region.now) in
    let whole = all_there g (goal.at.enter-requires-clause-sound g c).After-inode_file-count in
    file_sound image c.in_ok-enter_inode_file.ensures.ready c.fill.new.self c.enter_inode_file.new.blocks whole c.in_ok-enter_inode_file.ensures.entered

pub enter-requires-clause-full : goal.enter-requires-clause-full
enter-requires-clause-full g c =
    let image = current_words (g.R.Region.memory c.args.region.now) in
    let whole = all_there g (goal.at.enter-requires-clause-full g c).After-inode_file-count in
    file_full image c.in_ok-enter_inode_file.ensures.ready c.fill.new.self c.enter_inode_file.new.blocks whole c.in_ok-enter_inode_file.ensures.entered

pub enter-requires-clause-not_first : goal.enter-requires-clause-not_first
enter-requires-clause-not_first g c =
    let image = current_words (g.R.Region.memory c.args.region.now) in
    let whole = all_there g (goal.at.enter-requires-clause-not_first g c).After-inode_file-count in
    file_not_first image c.in_ok-enter_inode_file.ensures.ready c.fill.new.self c.enter_inode_file.new.blocks whole c.in_ok-enter_inode_file.ensures.entered

pub returns-clause-started : goal.returns-clause-started
returns-clause-started g c =
    let image = current_words (g.R.Region.memory c.args.region.now) in
    let whole = all_there g (goal.at.returns-clause-started g c).After-inode_file-count in
    on_ok_then c.enter.result (λ enters.
    reading_starts image c.in_ok-enter_inode_file.ensures.ready c.fill.new.self c.enter_inode_file.new.blocks whole c.in_ok-enter_inode_file.ensures.entered
    c.args.work.now.inodes _ c.enter.new.work c.enter.ensures.room c.requires.unread.inodes
    (filled_inodes image c.inode_file-count.result.size c.args.work.now.inodes c.fill-2.new.self c.inode_file-count.ensures.size c.fill-2.ensures) c.requires.unread.todo c.requires.unread.counts c.requires.unread.totals refl enters) c.enter.ensures.ok

pub returns-clause-fault : goal.returns-clause-fault
returns-clause-fault g c =
    let image = current_words (g.R.Region.memory c.args.region.now) in
    let whole = all_there g (goal.at.returns-clause-fault g c).After-inode_file-count in
    err_then c.enter.result (λ f fails.
    root_fails image c.in_ok-enter_inode_file.ensures.ready c.fill.new.self c.enter_inode_file.new.blocks whole c.in_ok-enter_inode_file.ensures.entered f.check f.place fails) c.enter.ensures.err
