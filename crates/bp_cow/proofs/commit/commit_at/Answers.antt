use Rattle.std.proofs.Common.{◌≡◌, ℕ, ◌<◌, ◌≤◌, length, refl, sym, ◌∙◌, subst, arith}
use Rattle.bp_free.specs.Set.{has}
use Rattle.pm_region.specs.Memory.{current_words}
use Rattle.bp_cow.specs.Cover.{copied_count}
use Rattle.bp_cow.specs.Job.{copies}
use Rattle.bp_cow.specs.Touched.{job_of}
use Rattle.bp_cow.proofs.CommitEnd.{copied-some, commits_one, commits_turned}
use Rattle.bp_cow.proofs.CommitTaking.{commits_touched}
use Rattle.bp_cow.proofs.CopiesNeed.{none-begins}
use Rattle.bp_cow.proofs.CoverLaws.{at-past_head}
use Rattle.bp_cow.proofs.CoverOf.{count_is}
use Rattle.bp_cow.proofs.WaysAlike.{can_build}
use Rattle.bp_cow.proofs.commit.commit_at.Goals as goal

pub way_len-requires-clause-touched : goal.way_len-requires-clause-touched
way_len-requires-clause-touched g c =
    c.requires.1.0.can.shape

pub way_len-requires-clause-i : goal.way_len-requires-clause-i
way_len-requires-clause-i g c =
    c.requires.1.0.can.shape.some

pub way_len-requires-clause-shared : goal.way_len-requires-clause-shared
way_len-requires-clause-shared g c =
    c.requires.1.1.0.shared

pub commit_one-requires-clause-touched : goal.commit_one-requires-clause-touched
commit_one-requires-clause-touched g c =
    c.requires.1.0.can.shape

pub commit_one-requires-clause-after_head : goal.commit_one-requires-clause-after_head
commit_one-requires-clause-after_head g c =
    let past = subst (λ (n : ℕ). n < c.args.found.now.cover.len) c.way_len.ensures c.if-way_len-cover.true in
    omega (arith, at-past_head c.requires.1.1.0.cover.at (omega (arith, past)))

pub commit_one-requires-clause-place : goal.commit_one-requires-clause-place
commit_one-requires-clause-place g c =
    c.requires.1.1.0.cover.at.low

pub commit_one-requires-clause-room : goal.commit_one-requires-clause-room
commit_one-requires-clause-room g c =
    omega (arith, c.requires.1.0.room)

pub commit_copies-requires : goal.commit_copies-requires
commit_copies-requires g c κs within =
    let image = current_words (g.R.Region.memory c.args.parts.now.region) in
    let touched = c.args.touched.now in
    let from = c.args.found.now.cover.len in
    let all = c.requires.1.0 in
    let cover = c.requires.1.1.0.cover in
    let short : from ≤ length ((job_of touched).way 0) = omega (arith, c.way_len.ensures, c.if-way_len-cover.false) in
    let apart = none-begins image g.bound touched (has c.args.parts.now.free_blocks) all.well_formed all.can in
    let count : copies (job_of touched) from ≡ copied_count image touched =
    sym (copied-some (job_of touched) from short) ∙ count_is touched all.can.shape image apart from cover.has in (
      within,
      (
        all.can.shape,
        (
          record {
            can = can_build all.can from cover.at.alike short all.well_formed c.args.found.now.cover.place cover.at.exists cover.at.place;
            old = refl;
            free = refl;
            at = refl;
            well = all.well_formed;
            sizes = all.can.sizes;
            some = rw count all.some;
            room = rw count (omega (arith, all.room));
          },
          (all.fits, (c.requires.1.1.1, c.requires.1.1.0.shared)),
        ),
      ),
    )

pub returns-then-way_len-cover-clause-commits : goal.returns-then-way_len-cover-clause-commits
returns-then-way_len-cover-clause-commits g c =
    let all = c.requires.1.0 in
    let cover = c.requires.1.1.0.cover in
    let past = subst (λ (n : ℕ). n < c.args.found.now.cover.len) c.way_len.ensures c.if-way_len-cover.true in
    commits_touched all.well_formed all.can all.loose all.fits (commits_one (g.R.Region.memory c.args.parts.now.region) c.args.parts.now.free_blocks all.well_formed all.can cover.at cover.has past c.commit_one.ensures)

pub returns-else-way_len-cover-clause-commits : goal.returns-else-way_len-cover-clause-commits
returns-else-way_len-cover-clause-commits g c =
    let all = c.requires.1.0 in
    let cover = c.requires.1.1.0.cover in
    let short : c.args.found.now.cover.len ≤ length ((job_of c.args.touched.now).way 0) = omega (arith, c.way_len.ensures, c.if-way_len-cover.false) in
    let done = c.commit_copies.ensures in
    commits_touched all.well_formed all.can all.loose all.fits
    (commits_turned all.well_formed all.can cover.at cover.has short 0 (has c.args.parts.now.free_blocks) done.done.1 done.exact)
