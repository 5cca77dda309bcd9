use Rattle.std.proofs.Common.{◌≡◌, ℕ, List, length, rules}
use Rattle.bp_calls.specs.TouchedAcross.{WritesAcross}
use Rattle.bp_calls.proofs.AcrossCalls.{across_planned, at_inside, at_shape, from_plan, planned_across, root_planned, size_planned}
use Rattle.bp_calls.proofs.SameWrites.{write_mounted}
use Rattle.bp_layout.specs.Need.{need}
use Rattle.bp_layout.specs.Need.Change.{writes}
use Rattle.bp_changes.specs.Sets.{in_snapshot_of}
use Rattle.pm_region.specs.Memory.{current_words}
use Rattle.bp_calls.proofs.writes.across.need_across.Given.{Over}
use Rattle.bp_calls.proofs.writes.across.need_across.Goals.{After-touched_across-touched}
use Rattle.bp_calls.proofs.writes.across.need_across.Goals as goal

-- what is touched is that of the write
across : (g : Over) (c : After-touched_across-touched g) → WritesAcross (in_snapshot_of c.args.parts.now) (g.R.Region.memory c.args.parts.now.region)
    c.args.parts.now.free_blocks c.args.parts.now.free_inodes c.args.ino c.args.offset c.args.bytes.now c.touched_across-touched.result
across g c =
    let parts = c.args.parts.now in
    let touches = c.touched_across-touched.ensures in
    planned_across c.args.ino c.plan_write-plan.result c.plan_write-plan.ensures
    (write_mounted (current_words (g.R.Region.memory parts.region)) parts c.args.ino c.args.offset c.args.bytes.now c.requires.mounted c.requires.can)
    c.requires.below c.requires.past touches.words touches.runs touches.trees

pub find_ways-found-requires : goal.find_ways-found-requires
find_ways-found-requires g c =
    let write = across g (goal.at.find_ways-found-requires g c).After-touched_across-touched in
    record { touched = at_shape c.args.ino write; some = search rules; in_range = at_inside c.args.ino write }

pub need_found-requires : goal.need_found-requires
need_found-requires g c =
    let planned = c.plan_write-plan.ensures in
    let write = across g (goal.at.need_found-requires g c).After-touched_across-touched in
    record { across = across_planned planned write; root = root_planned planned; size = size_planned planned; found = c.find_ways-found.ensures }

pub returns-clause-need : goal.returns-clause-need
returns-clause-need g c =
    let image = current_words (g.R.Region.memory c.args.parts.now.region) in
    from_plan c.plan_write-plan.ensures (λ i offset (bytes : List ℕ). c.need_found.result ≡ need image (writes i offset (length bytes))) c.need_found.ensures.need
