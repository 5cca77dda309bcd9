use Rattle.std.proofs.Common.{◌≡◌, length, refl, sym, ◌∙◌, ap, subst, arith}
use Rattle.bp_free.specs.Set.{Set, has, members}
use Rattle.bp_layout.specs.Directory.{ino_in}
use Rattle.bp_changes.specs.Sets.{in_snapshot_of}
use Rattle.pm_region.specs.Memory.{Memory, current_words}
use Rattle.bp_cow.specs.Commit.{CanCommitIn, CommitsTouched}
use Rattle.bp_calls.proofs.SizesWith.{sizes_with}
use Rattle.bp_calls.specs.Entries.{PutsPastEnd}
use Rattle.bp_rename.specs.CanRename.{moved_inode}
use Rattle.bp_rename.proofs.PastEndMoved.{past_end_can, past_end_counts, past_end_exact, past_end_fits, past_end_formed, past_end_loose, past_end_performs, past_end_room, past_end_some, past_end_ways, past_end_whole_image, can_put, moved_few}
use Rattle.bp_rename.proofs.KeptCounts.{exact_kept}
use Rattle.bp_rename.proofs.RenameTargets.{end_loose}
use Rattle.bp_rename.proofs.past_end.move_past_end.Goals as goal

pub entry_ino-ino-requires-clause-live : goal.entry_ino-ino-requires-clause-live
entry_ino-ino-requires-clause-live g c = rw c.tree_of-source.ensures.size c.requires.can.entry.in_size

pub overflow_cast-ino : goal.overflow_cast-ino
overflow_cast-ino g c =
    let old : Memory = g.R.Region.memory c.args.parts.now.region in
    let move = c.args.to_move.now in
    let named : c.entry_ino-ino.result ≡ moved_inode (current_words old) move =
    c.entry_ino-ino.ensures ∙ ap (λ root. ino_in (current_words old) root move.from_slot) c.tree_of-source.ensures.root in
    let few = moved_few (current_words old) move c.requires.can in
    omega (arith, named, few)

pub append_entry-requires-clause-can : goal.append_entry-requires-clause-can
append_entry-requires-clause-can g c =
    let touches = c.requires.touches in
    can_put (g.R.Region.memory c.args.parts.now.region) c.args.to_move.now c.args.parts.now.free_blocks c.args.parts.now.free_inodes c.requires.can c.requires.other c.requires.new c.requires.none
    c.args.touched.now touches c.requires.exact.sets c.requires.thawed.enough c.requires.thawed.room
    (end_loose (current_words (g.R.Region.memory c.args.parts.now.region)) c.args.to_move.now c.requires.can c.requires.none (in_snapshot_of c.args.parts.now) c.requires.thawed.clear)

pub commit_at-requires : goal.commit_at-requires
commit_at-requires g c κs inside =
    let touches = c.requires.touches in
    let old : Memory = g.R.Region.memory c.args.parts.now.region in
    let mid : Memory = g.R.Region.memory c.append_entry.new.parts.region in
    let move = c.args.to_move.now in
    let named : c.entry_ino-ino.result ≡ moved_inode (current_words old) move =
    c.entry_ino-ino.ensures ∙ ap (λ root. ino_in (current_words old) root move.from_slot) c.tree_of-source.ensures.root in
    let puts = subst (λ x. PutsPastEnd (in_snapshot_of c.args.parts.now) old mid (members c.args.parts.now.free_blocks) (members c.append_entry.new.parts.free_blocks) move.to_dir x move.name.now) named c.append_entry.ensures.puts in
    let formed = past_end_formed old mid move c.args.parts.now.free_blocks c.args.parts.now.free_inodes c.append_entry.new.parts.free_blocks c.requires.can c.requires.new c.requires.other c.requires.none c.requires.exact.sets c.requires.thawed.room puts c.append_entry.ensures.keeps.block_room
    c.args.touched.now touches in
    let can = past_end_can old mid move c.args.parts.now.free_blocks c.args.parts.now.free_inodes c.append_entry.new.parts.free_blocks c.requires.can c.requires.new c.requires.other c.requires.none c.requires.exact.sets c.requires.thawed.room puts c.append_entry.ensures.keeps.block_room
    c.args.touched.now touches in
    let loose = past_end_loose old mid move c.args.parts.now.free_blocks c.args.parts.now.free_inodes c.append_entry.new.parts.free_blocks c.requires.can c.requires.new c.requires.other c.requires.none c.requires.exact.sets c.requires.thawed.room puts c.append_entry.ensures.keeps.block_room
    c.args.touched.now touches c.requires.thawed.clear in
    let fits = past_end_fits old mid move c.args.parts.now.free_blocks c.args.parts.now.free_inodes c.append_entry.new.parts.free_blocks c.requires.can c.requires.new c.requires.other c.requires.none c.requires.exact.sets c.requires.thawed.room puts c.append_entry.ensures.keeps.block_room
    c.args.touched.now touches in
    let some = past_end_some old mid move c.args.parts.now.free_blocks c.args.parts.now.free_inodes c.append_entry.new.parts.free_blocks c.requires.can c.requires.new c.requires.other c.requires.none c.requires.exact.sets c.requires.thawed.room puts c.append_entry.ensures.keeps.block_room
    c.args.touched.now touches c.requires.thawed.enough in
    let room = past_end_room old mid move c.args.parts.now.free_blocks c.args.parts.now.free_inodes c.append_entry.new.parts.free_blocks c.requires.can c.requires.new c.requires.other c.requires.none c.requires.exact.sets c.requires.thawed.room puts c.append_entry.ensures.keeps.block_room
    c.args.touched.now touches in
    let whole = puts.prepared.ready.meaning.trees.whole in
    let ways = past_end_ways old mid move c.args.parts.now.free_blocks c.args.parts.now.free_inodes c.append_entry.new.parts.free_blocks c.requires.can c.requires.new c.requires.other c.requires.none c.requires.exact.sets c.requires.thawed.room puts c.append_entry.ensures.keeps.block_room
    c.args.touched.now touches c.args.found.now c.requires.found in
    let known = ap (λ (snapshot_blocks : Set). length snapshot_blocks) c.append_entry.ensures.keeps.snapshot_blocks in (
      inside,
      (
        subst (λ (snapshot_blocks : Set). CanCommitIn (sizes_with (current_words mid) c.args.touched.now) (has snapshot_blocks) mid c.args.touched.now c.append_entry.new.parts.free_blocks) (sym c.append_entry.ensures.keeps.snapshot_blocks)
            (record { well_formed = formed; can = can; loose = loose; fits = fits; some = some; room = room }),
        (ways, record { room = omega (arith, c.requires.exact.snapshot_room, whole, known); same = λ b. refl }),
      ),
    )

pub returns : goal.returns
returns g c =
    let touches = c.requires.touches in
    let old : Memory = g.R.Region.memory c.args.parts.now.region in
    let mid : Memory = g.R.Region.memory c.append_entry.new.parts.region in
    let move = c.args.to_move.now in
    let named : c.entry_ino-ino.result ≡ moved_inode (current_words old) move =
    c.entry_ino-ino.ensures ∙ ap (λ root. ino_in (current_words old) root move.from_slot) c.tree_of-source.ensures.root in
    let puts = subst (λ x. PutsPastEnd (in_snapshot_of c.args.parts.now) old mid (members c.args.parts.now.free_blocks) (members c.append_entry.new.parts.free_blocks) move.to_dir x move.name.now) named c.append_entry.ensures.puts in
    let commits = subst (λ (snapshot_blocks : Set). CommitsTouched (sizes_with (current_words mid) c.args.touched.now) (has snapshot_blocks) c.args.touched.now mid (g.R.Region.memory c.commit_at.new.parts.region) c.append_entry.new.parts.free_blocks c.commit_at.new.parts.free_blocks)
    c.append_entry.ensures.keeps.snapshot_blocks c.commit_at.ensures.commits in
    record {
      performs = past_end_performs old mid move c.args.parts.now.free_blocks c.args.parts.now.free_inodes c.append_entry.new.parts.free_blocks c.requires.can c.requires.new c.requires.other c.requires.none c.requires.exact.sets c.requires.thawed.room puts c.append_entry.ensures.keeps.block_room
          c.args.touched.now touches
          (g.R.Region.memory c.commit_at.new.parts.region) c.commit_at.new.parts.free_blocks commits;
      snapshot_blocks = c.commit_at.ensures.keeps.snapshot_blocks ∙ c.append_entry.ensures.keeps.snapshot_blocks;
      exact = exact_kept _ _ c.args.parts.now _ c.requires.exact
          (rw (c.commit_at.ensures.keeps.free_inodes, c.append_entry.ensures.keeps.free_inodes)
          (past_end_exact old mid move c.args.parts.now.free_blocks c.args.parts.now.free_inodes c.append_entry.new.parts.free_blocks c.requires.can c.requires.new c.requires.other c.requires.none c.requires.exact.sets c.requires.thawed.room puts c.append_entry.ensures.keeps.block_room
          c.args.touched.now touches
          (g.R.Region.memory c.commit_at.new.parts.region) c.commit_at.new.parts.free_blocks commits c.commit_at.ensures.keeps.block_room))
          (c.commit_at.ensures.keeps.snapshot_blocks ∙ c.append_entry.ensures.keeps.snapshot_blocks) (c.commit_at.ensures.keeps.link_counts ∙ c.append_entry.ensures.keeps.link_counts)
          (past_end_whole_image old mid move c.args.parts.now.free_blocks c.args.parts.now.free_inodes c.append_entry.new.parts.free_blocks c.requires.can c.requires.new c.requires.other c.requires.none c.requires.exact.sets c.requires.thawed.room puts c.append_entry.ensures.keeps.block_room
          c.args.touched.now touches
          (g.R.Region.memory c.commit_at.new.parts.region) c.commit_at.new.parts.free_blocks commits)
          (past_end_counts old mid move c.args.parts.now.free_blocks c.args.parts.now.free_inodes c.append_entry.new.parts.free_blocks c.requires.can c.requires.new c.requires.other c.requires.none c.requires.exact.sets c.requires.thawed.room puts c.append_entry.ensures.keeps.block_room
          c.args.touched.now touches
          (g.R.Region.memory c.commit_at.new.parts.region) c.commit_at.new.parts.free_blocks commits c.args.parts.now.link_counts c.requires.exact.counts);
    }
