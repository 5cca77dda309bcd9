use Rattle.std.proofs.Common.{◌≡◌, ◌≤◌, ℕ, length, Bool, refl, ◌∙◌, arith}
use Rattle.bp_changes.specs.Sets.{in_snapshot_of}
use Rattle.pm_region.specs.Memory.{current_words}
use Rattle.bp_free.specs.Set.{has, members}
use Rattle.bp_layout.specs.Inode.{size_of}
use Rattle.bp_layout.specs.WellFormed.{IsWellFormed}
use Rattle.bp_layout.specs.Words.{Image}
use Rattle.bp_cow.specs.CanCommit.{CanCommit}
use Rattle.bp_cow.specs.Cover.{CoverHas, copied_count}
use Rattle.bp_cow.specs.Job.{copies_at}
use Rattle.bp_cow.specs.Touched.{job_of}
use Rattle.bp_cow.specs.declared.touched.Touched.{Touched}
use Rattle.bp_cow.proofs.CopiesNeed.{none-begins}
use Rattle.bp_cow.proofs.CoverOf.{count_is}
use Rattle.bp_calls.proofs.commit.commit_found.Goals as goal

-- as many blocks are copied
counted : (image : Image) (in_snapshot free : ℕ → Bool) (touched : Touched) (from copies : ℕ) → IsWellFormed image → CanCommit image (size_of image) in_snapshot touched free → CoverHas image touched from →
    copies ≡ copies_at (job_of touched) from → copies ≡ copied_count image touched
counted image in_snapshot free touched from copies wf can has is = is ∙ count_is touched can.shape image (none-begins image (size_of image) touched free wf can) from has

pub returns-then-free-copies : goal.returns-then-free-copies
returns-then-free-copies g c =
    record {
      commits = tt;
      size = refl;
      inodes = refl;
      counts = refl;
      snapshot_blocks = refl;
      need = counted _ (in_snapshot_of c.args.parts.now) (has c.args.parts.now.free_blocks) c.args.touched.now c.args.found.now.cover.len c.copies_below-copies.result c.requires.well_formed c.requires.can c.requires.found.cover.has c.copies_below-copies.ensures;
      free = c.count-free.ensures;
      fewer = c.if-free-copies.true;
      same = refl;
    }

pub commit_at-requires : goal.commit_at-requires
commit_at-requires g c κs within =
    let image = current_words (g.R.Region.memory c.args.parts.now.region) in
    let count = counted image (in_snapshot_of c.args.parts.now) (has c.args.parts.now.free_blocks) c.args.touched.now c.args.found.now.cover.len c.copies_below-copies.result c.requires.well_formed c.requires.can c.requires.found.cover.has c.copies_below-copies.ensures in
    let some : copied_count image c.args.touched.now ≤ length (members c.args.parts.now.free_blocks) = omega (arith, count, c.count-free.ensures, c.if-free-copies.false) in
    (within, (record { well_formed = c.requires.well_formed; can = c.requires.can; loose = c.requires.loose; fits = c.requires.fits; some = some; room = c.requires.room some }, (c.requires.found, record { room = c.requires.known; same = λ b. refl })))

pub returns : goal.returns
returns g c =
    record {
      commits = c.commit_at.ensures.commits;
      size = c.commit_at.ensures.keeps.block_room;
      inodes = c.commit_at.ensures.keeps.free_inodes;
      counts = c.commit_at.ensures.keeps.link_counts;
      snapshot_blocks = c.commit_at.ensures.keeps.snapshot_blocks;
      need = tt;
      free = tt;
      fewer = tt;
      same = tt;
    }
