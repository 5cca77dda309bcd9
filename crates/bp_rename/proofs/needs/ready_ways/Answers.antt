use Rattle.std.proofs.Common.{◌≡◌, ◌≤◌, length, refl, sym, ◌∙◌, subst, arith}
use Rattle.bp_free.specs.Set.{members}
use Rattle.bp_layout.specs.Free.{HasFree}
use Rattle.bp_layout.specs.Need.{need}
use Rattle.bp_changes.specs.Sets.{in_snapshot_of}
use Rattle.bp_calls.specs.Mounted.{IsMounted}
use Rattle.pm_region.specs.Memory.{current_words}
use Rattle.bp_calls.proofs.FreeCounts.{free_members}
use Rattle.bp_calls.proofs.NothingInSnapshot.{lacks_at_once, performed_at_once, room_at_once, shape_self}
use Rattle.bp_cow.specs.Cover.{copied_count}
use Rattle.bp_cow.proofs.CoverOf.{count_is}
use Rattle.bp_rename.specs.CanRename.{change_of}
use Rattle.bp_rename.specs.RenamesEntry.{RenamesEntry}
use Rattle.bp_rename.proofs.needs.ready_ways.Given.{Over}
use Rattle.bp_rename.proofs.needs.ready_ways.Goals.{After-copies_below}
use Rattle.bp_rename.proofs.needs.ready_ways.Goals as goal

-- as many blocks are counted as are copied
counted : (g : Over) (c : After-copies_below g)
    → c.copies_below.result ≡ copied_count (current_words (g.R.Region.memory c.args.parts.now.region)) c.args.touched.now
counted g c =
    let image = current_words (g.R.Region.memory c.args.parts.now.region) in
    let planned = c.requires.planned in
    c.copies_below.ensures ∙ count_is c.args.touched.now planned.shape image planned.apart c.find_ways-found.result.cover.len c.find_ways-found.ensures.cover.has

pub find_ways-found-requires-clause-touched : goal.find_ways-found-requires-clause-touched
find_ways-found-requires-clause-touched g c = c.requires.planned.shape

pub find_ways-found-requires-clause-in_range : goal.find_ways-found-requires-clause-in_range
find_ways-found-requires-clause-in_range g c =
    let image = current_words (g.R.Region.memory c.args.parts.now.region) in
    c.requires.planned.inside image (shape_self image c.requires.can.well_formed)

pub overflow_add-need : goal.overflow_add-need
overflow_add-need g c =
    let count = counted g (goal.at.overflow_add-need g c).After-copies_below in
    omega (arith, count, c.requires.needs.few)

pub thaw_ways-requires-clause-need : goal.thaw_ways-requires-clause-need
thaw_ways-requires-clause-need g c =
    let count = counted g (goal.at.thaw_ways-requires-clause-need g c).After-copies_below in
    omega (arith, count, c.requires.needs.all)

pub thaw_ways-requires-clause-few : goal.thaw_ways-requires-clause-few
thaw_ways-requires-clause-few g c =
    let count = counted g (goal.at.thaw_ways-requires-clause-few g c).After-copies_below in
    omega (arith, count, c.requires.needs.few)

pub returns-then-free-need-clause-refused : goal.returns-then-free-need-clause-refused
returns-then-free-need-clause-refused g c =
    let image = current_words (g.R.Region.memory c.args.parts.now.region) in
    let count = counted g (goal.at.returns-then-free-need-clause-refused g c).After-copies_below in
    lacks_at_once g.R.Region.memory (change_of c.args.to_move.now) c.args.parts.now (record { well_formed = c.requires.can.well_formed; exact = c.requires.exact }) (c.is_clear.ensures c.if-not-is_clear.false) _
    (record {
      needed = omega (arith, count, c.requires.needs.all);
      free = subst (HasFree image (in_snapshot_of c.args.parts.now)) (sym c.count-free.ensures) (free_members image (in_snapshot_of c.args.parts.now) c.args.parts.now.free_blocks c.requires.exact.sets.free_blocks c.requires.exact.sets.block_room);
      fewer = c.if-free-need.true;
    })

pub returns-clause-ready : goal.returns-clause-ready
returns-clause-ready g c =
    let memory = g.R.Region.memory in
    let image = current_words (memory c.args.parts.now.region) in
    let move = c.args.to_move.now in
    let mounted : IsMounted image c.args.parts.now = record { well_formed = c.requires.can.well_formed; exact = c.requires.exact } in
    let count = counted g (goal.at.returns-clause-ready g c).After-copies_below in
    let enough : need image (change_of c.args.to_move.now) ≤ length (members c.args.parts.now.free_blocks) = omega (arith, count, c.requires.needs.all, c.count-free.ensures, c.if-free-need.false) in
    let clear = c.is_clear.ensures c.if-not-is_clear.false in
    record {
      shape = shape_self image c.requires.can.well_formed;
      can = c.requires.can;
      exact = c.requires.exact;
      snapshot_blocks = refl;
      thawed = record { clear = clear; enough = enough; room = room_at_once memory (change_of move) c.args.parts.now mounted clear c.requires.room enough };
      ways = c.find_ways-found.ensures;
      performs = λ last rest. performed_at_once memory (change_of move) c.args.parts.now mounted clear (memory last.region) (RenamesEntry move) rest;
    }
