use Rattle.std.proofs.Common.{◌≡◌, ◌+◌, ◌<◌, ◌≤◌, ℕ, List, [], length, slice_index, ◌∙◌, ap, arith, rules}
use Rattle.pm_region.specs.Memory.{current_words}
use Rattle.bp_changes.specs.Sets.{in_snapshot_of}
use Rattle.bp_cow.proofs.CoverOf.{cover_length}
use Rattle.bp_layout.specs.Inode.{size_of}
use Rattle.bp_layout.specs.Need.Change.{writes}
use Rattle.bp_layout.specs.Thaw.{cover_now, thawed}
use Rattle.bp_calls.specs.CanWrite.{CanWrite}
use Rattle.bp_calls.specs.WritesFile.{WritesFile}
use Rattle.bp_calls.proofs.CommitLaws.{commits_at_once}
use Rattle.bp_calls.proofs.NothingInSnapshot.{room_at_once}
use Rattle.bp_calls.proofs.SameWrites.{WritesIn, writes_in}
use Rattle.bp_calls.proofs.WriteBelow.{from_run, of_run, write_can, write_cover, write_inside, write_loose, write_room}
use Rattle.bp_calls.proofs.WriteCommits.{write_commits}
use Rattle.bp_calls.proofs.writes.write_within.Given.{Over}
use Rattle.bp_calls.proofs.writes.write_within.Goals.{After-touched_by-touched, Then-is_clear_below}
use Rattle.bp_calls.proofs.writes.write_within.Goals as goal

-- the run of the bytes is all that is touched
write : (g : Over) (c : After-touched_by-touched g)
    → WritesIn g.R.Region.memory c.args.parts.now c.args.ino c.args.offset c.args.bytes.now c.touched_by-touched.result
write g c =
    let is = c.touched_by-touched.ensures in
    writes_in g.R.Region.memory c.args.parts.now c.args.ino c.args.offset c.args.bytes.now c.touched_by-touched.result c.run_for.result c.requires.mounted
    c.requires.can c.requires.below is.runs is.words is.trees c.run_for.ensures

pub find_ways-found-requires : goal.find_ways-found-requires
find_ways-found-requires g c =
    let below = write g (goal.at.find_ways-found-requires g c).After-touched_by-touched in
    record { touched = (write_can below).shape; some = search rules; in_range = write_inside below }

pub is_clear_below-requires : goal.is_clear_below-requires
is_clear_below-requires g c =
    let image = current_words (g.R.Region.memory c.args.parts.now.region) in
    let here = write g (goal.at.is_clear_below-requires g c).After-touched_by-touched in
    let cover = c.find_ways-found.result.cover.len in
    record {
      root = c.requires.root;
      mounted = c.requires.mounted;
      can = of_run c.run_for.ensures (λ o (bs : List ℕ). CanWrite image c.args.ino o bs) c.requires.can;
      below = of_run c.run_for.ensures (λ o (bs : List ℕ). o + length bs ≤ size_of image c.args.ino) c.requires.below;
      cover = of_run c.run_for.ensures (λ o (bs : List ℕ). cover ≡ length (cover_now image (writes c.args.ino o (length bs))))
          (cover_length c.touched_by-touched.result (write_can here).shape image cover c.find_ways-found.ensures.cover.has
          ∙ ap (λ (p : List ℕ). length p) (write_cover here));
    }

-- where the test says so, nothing has to be thawed
clear : (g : Over) (c : Then-is_clear_below g)
    → thawed (current_words (g.R.Region.memory c.args.parts.now.region)) (in_snapshot_of c.args.parts.now) (writes c.args.ino c.args.offset (length c.args.bytes.now)) ≡ []
clear g c =
    let image = current_words (g.R.Region.memory c.args.parts.now.region) in
    from_run c.run_for.ensures (λ o (bs : List ℕ). thawed image (in_snapshot_of c.args.parts.now) (writes c.args.ino o (length bs)) ≡ [])
    (c.is_clear_below.ensures c.if-is_clear_below.true)

pub commit_found-requires : goal.commit_found-requires
commit_found-requires g c =
    let at = goal.at.commit_found-requires g c in
    let here = write g at.After-touched_by-touched in
    let none = clear g at.Then-is_clear_below in
    let mounted = c.requires.mounted in
    let change = writes c.args.ino c.args.offset (length c.args.bytes.now) in
    record {
      well_formed = mounted.well_formed;
      can = write_can here;
      loose = write_loose here none;
      known = omega (arith, mounted.exact.snapshot_room);
      fits = omega (arith, mounted.exact.sets.block_room);
      room = write_room here (room_at_once g.R.Region.memory change c.args.parts.now mounted none c.requires.room);
      found = c.find_ways-found.ensures;
    }

pub returns-then-is_clear_below : goal.returns-then-is_clear_below
returns-then-is_clear_below g c =
    let at = goal.at.returns-then-is_clear_below g c in
    let old = c.args.parts.now in
    let new = c.commit_found.new.parts in
    let bytes = c.args.bytes.now in
    let small : (k : ℕ) → slice_index bytes k < 256 = λ k. omega (arith, c.type_inv.bytes k) in
    commits_at_once g.R.Region.memory (writes c.args.ino c.args.offset (length bytes)) (WritesFile c.args.ino c.args.offset bytes) old new c.requires.mounted
    (clear g at.Then-is_clear_below) c.commit_found.result
    (write_commits g.R.Region.memory old new c.args.ino c.args.offset bytes c.touched_by-touched.result c.requires.mounted.exact
    (write g at.After-touched_by-touched) small c.commit_found.result c.commit_found.ensures)
