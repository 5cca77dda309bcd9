use Rattle.std.proofs.Common.{length, sym}
use Rattle.bp_calls.proofs.CommitResults.{by_one, ok_both}
use Rattle.bp_calls.proofs.ThawedNeed.{IsPlanned, lacks_both, leads_in, ready_after, room_for_both}
use Rattle.bp_calls.proofs.WriteTargets.{file_some, write_ways_at}
use Rattle.bp_layout.specs.Need.Change.{writes}
use Rattle.pm_region.specs.Memory.{current_words}
use Rattle.bp_calls.proofs.writes.thaw_write.Given.{Over}
use Rattle.bp_calls.proofs.writes.thaw_write.Goals.{After-need_write-need}
use Rattle.bp_calls.proofs.writes.thaw_write.Goals as goal

-- the write may be made, and takes as many blocks as were counted
plan : (g : Over) (c : After-need_write-need g)
    → IsPlanned g.R.Region.memory (writes c.args.ino c.args.offset (length c.args.bytes.now)) c.need_write-need.result c.args.parts.now
plan g c =
    let image = current_words (g.R.Region.memory c.args.parts.now.region) in
    let can = c.requires.can in
    record {
      mounted = c.requires.mounted;
      reached = can.reached;
      leads = write_ways_at image c.requires.mounted.well_formed c.args.ino c.args.offset (length c.args.bytes.now)
          (file_some image c.args.ino can.file) can.reached can.some;
      needs = sym c.need_write-need.ensures.need;
      room = c.requires.room;
    }

pub thaw_before-requires-clause-ways : goal.thaw_before-requires-clause-ways
thaw_before-requires-clause-ways g c = leads_in (plan g (goal.at.thaw_before-requires-clause-ways g c).After-need_write-need) c.writing-targets.ensures

pub thaw_before-requires-clause-room : goal.thaw_before-requires-clause-room
thaw_before-requires-clause-room g c =
    room_for_both (plan g (goal.at.thaw_before-requires-clause-room g c).After-need_write-need) c.writing-targets.ensures

pub returns-clause-room : goal.returns-clause-room
returns-clause-room g c =
    let planned = plan g (goal.at.returns-clause-room g c).After-need_write-need in
    ok_both c.thaw_before.result c.thaw_before.ensures.thaws c.thaw_before.ensures.enough
    (λ thaws enough _. (ready_after planned c.writing-targets.ensures thaws enough).room)

pub returns-clause-enough : goal.returns-clause-enough
returns-clause-enough g c =
    let planned = plan g (goal.at.returns-clause-enough g c).After-need_write-need in
    ok_both c.thaw_before.result c.thaw_before.ensures.thaws c.thaw_before.ensures.enough
    (λ thaws enough. (ready_after planned c.writing-targets.ensures thaws enough).enough)

pub returns-clause-refused : goal.returns-clause-refused
returns-clause-refused g c =
    let planned = plan g (goal.at.returns-clause-refused g c).After-need_write-need in
    by_one c.thaw_before.result c.thaw_before.ensures.refused (lacks_both planned c.writing-targets.ensures)
