use Rattle.std.proofs.Common.{◌/◌, length, refl, sym, ◌∙◌, ap, subst, arith}
use Rattle.bp_calls.proofs.SizesWith.{sizes_with}
use Rattle.bp_cow.specs.Commit.{CanCommitIn, CommitsTouched}
use Rattle.pm_region.specs.Memory.{current_words}
use Rattle.bp_calls.proofs.AcrossCalls.{at_commit, at_done, at_prepare, at_prepared, at_ways}
use Rattle.bp_calls.proofs.CountLaws.{exact_file}
use Rattle.bp_free.specs.Set.{Set, has}
use Rattle.bp_calls.proofs.writes.across.write_planned.Goals as goal

pub stage_append-requires : goal.stage_append-requires
stage_append-requires g c =
    let plan = c.args.plan.now in
    record {
      can = (
        plan.inode,
        at_prepare plan.inode plan.tree.size plan.run.root.items c.requires.across c.requires.clear c.requires.room c.requires.enough
            c.requires.size c.requires.root,
      );
    }

pub commit_at-requires : goal.commit_at-requires
commit_at-requires g c κs within =
    let middle = g.R.Region.memory c.stage_append.new.parts.region in
    let after = c.stage_append.new.parts.free_blocks in
    let plan = c.args.plan.now in
    let ready = at_prepare plan.inode plan.tree.size plan.run.root.items c.requires.across c.requires.clear c.requires.room c.requires.enough
    c.requires.size c.requires.root in
    let prepared = at_prepared c.args.parts.now.free_blocks after plan.offset plan.bytes.now (c.stage_append.ensures.prepares plan.inode ready)
    c.requires.size c.split_at.ensures.back in
    let bound = sizes_with (current_words middle) c.args.touched.now in (
      within,
      (
        subst (λ (snapshot_blocks : Set). CanCommitIn bound (has snapshot_blocks) middle c.args.touched.now after) (sym c.stage_append.ensures.keeps.snapshot_blocks)
            (at_commit middle after plan.inode c.requires.across c.requires.clear c.requires.room c.requires.enough prepared c.stage_append.ensures.keeps.block_room),
        (
          at_ways middle after plan.inode c.requires.across prepared c.args.found.now c.requires.found,
          record {
            room =
                let whole = ap (λ words. words / 512) prepared.ready.meaning.trees.whole in
                omega (arith, whole, c.requires.exact.snapshot_room, ap (λ (set : Set). length set) c.stage_append.ensures.keeps.snapshot_blocks);
            same = λ b. refl;
          },
        ),
      ),
    )

pub returns : goal.returns
returns g c =
    let memory = g.R.Region.memory in
    let middle = memory c.stage_append.new.parts.region in
    let after = c.stage_append.new.parts.free_blocks in
    let new = c.commit_at.new.parts in
    let plan = c.args.plan.now in
    let ready = at_prepare plan.inode plan.tree.size plan.run.root.items c.requires.across c.requires.clear c.requires.room c.requires.enough
    c.requires.size c.requires.root in
    let prepared = at_prepared c.args.parts.now.free_blocks after plan.offset plan.bytes.now (c.stage_append.ensures.prepares plan.inode ready)
    c.requires.size c.split_at.ensures.back in
    let bound = sizes_with (current_words middle) c.args.touched.now in
    let commits = subst (λ (snapshot_blocks : Set). CommitsTouched bound (has snapshot_blocks) c.args.touched.now middle (memory new.region) after new.free_blocks)
    c.stage_append.ensures.keeps.snapshot_blocks c.commit_at.ensures.commits in
    let done = at_done middle after (memory new.region) new.free_blocks plan.inode c.requires.across prepared c.requires.small commits
    c.commit_at.ensures.keeps.block_room c.stage_append.ensures.keeps.block_room in
    record {
      performs = done.0;
      snapshot_blocks = c.commit_at.ensures.keeps.snapshot_blocks ∙ c.stage_append.ensures.keeps.snapshot_blocks;
      exact = exact_file _ _ c.args.parts.now _ c.requires.exact (rw (c.commit_at.ensures.keeps.free_inodes, c.stage_append.ensures.keeps.free_inodes) done.1)
          (c.commit_at.ensures.keeps.snapshot_blocks ∙ c.stage_append.ensures.keeps.snapshot_blocks) (c.commit_at.ensures.keeps.link_counts ∙ c.stage_append.ensures.keeps.link_counts) plan.inode
          c.requires.across.into.well_formed done.0.effect.changes;
    }
