use Rattle.std.proofs.Common.{◌≡◌, ◌<◌, ◌≤◌, ℕ, [], List, arith, rules, slice_index, length, sym, ◌∙◌, ap, subst}
use Rattle.bp_calls.specs.TouchedAcross.{WritesAcross}
use Rattle.bp_calls.proofs.AcrossCalls.{across_planned, at_inside, at_shape, from_plan, of_plan, planned_across, root_planned, size_planned}
use Rattle.bp_calls.proofs.CommitLaws.{committed, lacking_blocks}
use Rattle.bp_calls.specs.Commits.{CommitsChange}
use Rattle.bp_calls.specs.Space.{HasRoomThawed, LacksBlocks}
use Rattle.bp_calls.specs.WritesFile.{WritesFile}
use Rattle.bp_free.specs.Set.{members}
use Rattle.bp_layout.specs.Inode.{root_of}
use Rattle.bp_layout.specs.Need.{need}
use Rattle.bp_layout.specs.Need.Change.{writes}
use Rattle.bp_layout.specs.Thaw.{thawed}
use Rattle.bp_layout.specs.WordPaths.{inode_path}
use Rattle.bp_layout.specs.Words.{height_of}
use Rattle.bp_changes.specs.Sets.{in_snapshot_of}
use Rattle.pm_region.specs.Memory.{current_words}
use Rattle.bp_calls.proofs.writes.across.write_across.Given.{Over}
use Rattle.bp_calls.proofs.writes.across.write_across.Goals.{After-touched_across-touched}
use Rattle.bp_calls.proofs.writes.across.write_across.Goals as goal

-- what is touched is that of the write
across : (g : Over) (c : After-touched_across-touched g) → WritesAcross (in_snapshot_of c.args.parts.now) (g.R.Region.memory c.args.parts.now.region)
    c.args.parts.now.free_blocks c.args.parts.now.free_inodes c.args.ino c.args.offset c.args.bytes.now c.touched_across-touched.result
across g c =
    let touches = c.touched_across-touched.ensures in
    planned_across c.args.ino c.plan_write-plan.result c.plan_write-plan.ensures c.requires.can.into c.requires.below c.requires.past
    touches.words touches.runs touches.trees

pub find_ways-found-requires : goal.find_ways-found-requires
find_ways-found-requires g c =
    let write = across g (goal.at.find_ways-found-requires g c).After-touched_across-touched in
    record { touched = at_shape c.args.ino write; some = search rules; in_range = at_inside c.args.ino write }

pub need_found-need-requires : goal.need_found-need-requires
need_found-need-requires g c =
    let planned = c.plan_write-plan.ensures in
    let write = across g (goal.at.need_found-need-requires g c).After-touched_across-touched in
    record { across = across_planned planned write; root = root_planned planned; size = size_planned planned; found = c.find_ways-found.ensures }

pub write_planned-requires : goal.write_planned-requires
write_planned-requires g c =
    let old = g.R.Region.memory c.args.parts.now.region in
    let parts = c.args.parts.now in
    let planned = c.plan_write-plan.ensures in
    record {
      exact = c.requires.exact;
      across = across_planned planned (across g (goal.at.write_planned-requires g c).After-touched_across-touched);
      size = size_planned planned;
      root = planned.run.root ∙ ap (λ j. inode_path (height_of (root_of (current_words old) 0)) j 1) (sym planned.inode);
      small = subst (λ (bs : List ℕ). (k : ℕ) → slice_index bs k < 256) (sym planned.bytes_are) (λ k. omega (arith, c.type_inv.bytes k));
      clear = of_plan planned (λ i offset (bytes : List ℕ). thawed (current_words old) (in_snapshot_of parts) (writes i offset (length bytes)) ≡ []) c.requires.can.clear;
      room = of_plan planned (λ i offset (bytes : List ℕ). HasRoomThawed old parts.free_blocks (writes i offset (length bytes))) c.requires.can.room;
      enough = subst (λ n. n ≤ length (members parts.free_blocks)) c.need_found-need.ensures.need c.in-Ok.ensures.enough;
      found = c.find_ways-found.ensures;
    }

pub returns-in-Ok : goal.returns-in-Ok
returns-in-Ok g c =
    committed
    (from_plan c.plan_write-plan.ensures
    (λ i offset (bytes : List ℕ).
    CommitsChange g.R.Region.memory c.args.parts.now c.write_planned.new.parts (writes i offset (length bytes)) (WritesFile i offset bytes))
    c.write_planned.ensures)

pub returns-in-Err : goal.returns-in-Err
returns-in-Err g c =
    let image = current_words (g.R.Region.memory c.args.parts.now.region) in
    let needs : c.need_found-need.result ≡ need image (writes c.args.ino c.args.offset (length c.args.bytes.now)) =
    from_plan c.plan_write-plan.ensures (λ i offset (bytes : List ℕ). c.need_found-need.result ≡ need image (writes i offset (length bytes)))
    c.need_found-need.ensures.need in
    lacking_blocks g.R.Region.memory c.args.parts.now c.requires.exact
    (subst (λ n. LacksBlocks image (in_snapshot_of c.args.parts.now) n c.in-Err.lacks) needs c.in-Err.ensures.refused) c.in-Err.ensures.free
