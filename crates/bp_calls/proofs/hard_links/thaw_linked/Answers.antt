use Rattle.std.proofs.Common.{sym, ◌∙◌, arith}
use Rattle.bp_layout.specs.Need.Change.{enters}
use Rattle.bp_layout.specs.Need.Entrant.{linked}
use Rattle.pm_region.specs.Memory.{current_words}
use Rattle.bp_calls.proofs.CommitResults.{by_one, ok_both, ok_one}
use Rattle.bp_calls.proofs.EnterTargets.{enter_ways}
use Rattle.bp_calls.proofs.ThawedNeed.{IsPlanned, few_unthawed, lacks_both, leads_in, ready_after, ready_unthawed, room_for_both, thaws_before, thaws_unthawed}
use Rattle.bp_calls.proofs.hard_links.thaw_linked.Given.{Over}
use Rattle.bp_calls.proofs.hard_links.thaw_linked.Goals.{After-entry_need-need}
use Rattle.bp_calls.proofs.hard_links.thaw_linked.Goals as goal

-- the name may come in, and takes as many blocks as were counted
plan : (g : Over) (c : After-entry_need-need g) → IsPlanned g.R.Region.memory (enters c.args.dir linked) c.entry_need-need.result c.args.parts.now
plan g c =
    let image = current_words (g.R.Region.memory c.args.parts.now.region) in
    record {
      mounted = c.requires.mounted;
      reached = (c.requires.reached, c.requires.directory);
      leads = enter_ways image c.requires.mounted.well_formed c.args.dir c.requires.reached c.requires.directory linked tt;
      needs = sym c.entry_need-need.ensures.need;
      room = c.requires.room;
    }

pub returns-then-free-need-clause-refused : goal.returns-then-free-need-clause-refused
returns-then-free-need-clause-refused g c =
    let planned = plan g (goal.at.returns-then-free-need-clause-refused g c).After-entry_need-need in
    few_unthawed planned (sym c.count.ensures ∙ c.if-count-eq0.true) c.count-free.result c.count-free.ensures c.if-free-need.true

pub returns-then-count-eq0-clause-thaws : goal.returns-then-count-eq0-clause-thaws
returns-then-count-eq0-clause-thaws g c =
    let planned = plan g (goal.at.returns-then-count-eq0-clause-thaws g c).After-entry_need-need in
    thaws_unthawed planned (sym c.count.ensures ∙ c.if-count-eq0.true) (omega (arith, c.count-free.ensures, c.if-free-need.false))

pub returns-then-count-eq0-clause-thawed : goal.returns-then-count-eq0-clause-thawed
returns-then-count-eq0-clause-thawed g c =
    let planned = plan g (goal.at.returns-then-count-eq0-clause-thawed g c).After-entry_need-need in
    ready_unthawed planned (sym c.count.ensures ∙ c.if-count-eq0.true) (omega (arith, c.count-free.ensures, c.if-free-need.false))

pub thaw_before-requires-clause-ways : goal.thaw_before-requires-clause-ways
thaw_before-requires-clause-ways g c =
    leads_in (plan g (goal.at.thaw_before-requires-clause-ways g c).After-entry_need-need) c.entering-targets.ensures.paths

pub thaw_before-requires-clause-room : goal.thaw_before-requires-clause-room
thaw_before-requires-clause-room g c =
    room_for_both (plan g (goal.at.thaw_before-requires-clause-room g c).After-entry_need-need) c.entering-targets.ensures.paths

pub returns-clause-thaws : goal.returns-clause-thaws
returns-clause-thaws g c =
    let planned = plan g (goal.at.returns-clause-thaws g c).After-entry_need-need in
    ok_one c.thaw_before.result c.thaw_before.ensures.thaws (thaws_before planned c.entering-targets.ensures.paths)

pub returns-clause-thawed : goal.returns-clause-thawed
returns-clause-thawed g c =
    let planned = plan g (goal.at.returns-clause-thawed g c).After-entry_need-need in
    ok_both c.thaw_before.result c.thaw_before.ensures.thaws c.thaw_before.ensures.enough (ready_after planned c.entering-targets.ensures.paths)

pub returns-clause-refused : goal.returns-clause-refused
returns-clause-refused g c =
    let planned = plan g (goal.at.returns-clause-refused g c).After-entry_need-need in
    by_one c.thaw_before.result c.thaw_before.ensures.refused (lacks_both planned c.entering-targets.ensures.paths)

pub entry_need-need-requires-clause-slot : goal.entry_need-need-requires-clause-slot
entry_need-need-requires-clause-slot g c = c.requires.slot
