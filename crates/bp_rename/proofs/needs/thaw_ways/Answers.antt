use Rattle.std.proofs.Common.{◌+◌, ◌≤◌, List, length, sym, subst}
use Rattle.bp_free.specs.Set.{members}
use Rattle.bp_layout.specs.Members.{Has}
use Rattle.bp_layout.specs.Thaw.{targets}
use Rattle.bp_layout.specs.WordPaths.{WordPath}
use Rattle.bp_changes.specs.Sets.{in_snapshot_of}
use Rattle.bp_calls.specs.Mounted.{IsMounted}
use Rattle.bp_calls.specs.Space.{LacksBlocks}
use Rattle.bp_calls.specs.ThawsFor.{HasRoomToThaw, ThawsFor, thaw_count}
use Rattle.pm_region.specs.Memory.{current_words}
use Rattle.bp_calls.proofs.ThawedNeed.{has_enough, has_room}
use Rattle.bp_calls.proofs.ThawedParts.{performed_thawed, thawed_clear}
use Rattle.bp_calls.proofs.ThawedRoom.{lacks_all, room_to_thaw}
use Rattle.bp_rename.specs.CanRename.{change_of}
use Rattle.bp_rename.specs.RenamesEntry.{RenamesEntry}
use Rattle.bp_rename.proofs.RenameTargets.{rename_ways}
use Rattle.bp_rename.proofs.Renames.{rename_of}
use Rattle.bp_rename.proofs.RenameThawed.{rename_on}
use Rattle.bp_rename.proofs.needs.thaw_ways.Goals as goal

pub thaw_before-requires-clause-mounted : goal.thaw_before-requires-clause-mounted
thaw_before-requires-clause-mounted g c = record { well_formed = c.requires.can.well_formed; exact = c.requires.exact }

pub thaw_before-requires-clause-ways : goal.thaw_before-requires-clause-ways
thaw_before-requires-clause-ways g c =
    λ path has. rename_ways (current_words (g.R.Region.memory c.args.parts.now.region)) c.args.to_move.now c.requires.can path (subst (λ (ps : List WordPath). Has ps path) c.targets_of-targets.ensures has)

pub thaw_before-requires-clause-room : goal.thaw_before-requires-clause-room
thaw_before-requires-clause-room g c =
    subst (λ (ps : List WordPath). HasRoomToThaw g.R.Region.memory ps c.args.parts.now c.args.more) (sym c.targets_of-targets.ensures)
    (room_to_thaw g.R.Region.memory (change_of c.args.to_move.now) c.args.more c.args.parts.now (sym c.requires.need) c.requires.room)

pub find_ways-requires-clause-touched : goal.find_ways-requires-clause-touched
find_ways-requires-clause-touched g c = c.requires.planned.shape

pub find_ways-requires-clause-in_range : goal.find_ways-requires-clause-in_range
find_ways-requires-clause-in_range g c = c.requires.planned.inside (current_words (g.R.Region.memory c.thaw_before.new.parts.region)) c.in-Ok.ensures.thaws.thaws.shape

pub returns-in-Ok-clause-ready : goal.returns-in-Ok-clause-ready
returns-in-Ok-clause-ready g c =
    let memory = g.R.Region.memory in
    let old = c.args.parts.now in
    let new = c.thaw_before.new.parts in
    let image = current_words (memory old.region) in
    let move = c.args.to_move.now in
    let change = change_of move in
    let of = rename_of image move c.requires.can in
    let mounted : IsMounted image old = record { well_formed = c.requires.can.well_formed; exact = c.requires.exact } in
    let done : ThawsFor memory (targets image (change_of c.args.to_move.now)) c.args.parts.now c.thaw_before.new.parts =
    subst (λ (ps : List WordPath). ThawsFor memory ps c.args.parts.now c.thaw_before.new.parts) c.targets_of-targets.ensures c.in-Ok.ensures.thaws in
    let enough : thaw_count memory (targets image (change_of c.args.to_move.now)) c.args.parts.now + c.args.more ≤ length (members c.args.parts.now.free_blocks) =
    subst (λ (ps : List WordPath). thaw_count memory ps c.args.parts.now + c.args.more ≤ length (members c.args.parts.now.free_blocks)) c.targets_of-targets.ensures c.in-Ok.ensures.enough in
    let left = has_enough memory change c.args.more old (sym c.requires.need) c.requires.room mounted of new done enough in
    record {
      shape = done.thaws.shape;
      can = rename_on image (current_words (memory new.region)) move c.requires.can done.thaws.shape;
      exact = done.exact;
      snapshot_blocks = done.snapshot_blocks;
      thawed = record {
        clear = thawed_clear memory change old new mounted of done;
        enough = left;
        room = has_room memory change c.args.more old (sym c.requires.need) c.requires.room mounted of new done enough left;
      };
      ways = c.find_ways.ensures;
      performs = λ last rest. performed_thawed memory change old new mounted of done last (RenamesEntry move) rest;
    }

pub returns-in-Err-clause-refused : goal.returns-in-Err-clause-refused
returns-in-Err-clause-refused g c =
    let image = current_words (g.R.Region.memory c.args.parts.now.region) in
    lacks_all g.R.Region.memory (change_of c.args.to_move.now) c.args.more c.args.parts.now (sym c.requires.need) c.requires.room c.in-Err.lacks
    (subst (λ (ps : List WordPath). LacksBlocks image (in_snapshot_of c.args.parts.now) (thaw_count g.R.Region.memory ps c.args.parts.now + c.args.more) c.in-Err.lacks) c.targets_of-targets.ensures c.in-Err.ensures.refused)
