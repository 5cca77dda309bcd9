use Rattle.std.proofs.Common.{sym, ◌∙◌, arith, rules}
use Rattle.std.proofs.lemmas.Result.{on_ok_weaker}
use Rattle.bp_append.proofs.FewNeeded.{few_needed}
use Rattle.bp_calls.proofs.CommitResults.{by_one, ok_both, ok_one}
use Rattle.bp_calls.proofs.Longer.{growing_needs}
use Rattle.bp_calls.proofs.ThawedNeed.{IsPlanned, lacks_both, lacks_unthawed, leads_in, ready_after, ready_unthawed, room_for_both}
use Rattle.bp_calls.proofs.ThawedNeed.{thaws_before, thaws_unthawed}
use Rattle.bp_calls.proofs.WriteTargets.{file_some, growing_ways_at}
use Rattle.bp_layout.specs.Need.Change.{resizes}
use Rattle.pm_region.specs.Memory.{current_words}
use Rattle.bp_calls.proofs.resize.thaw_end.Given.{Over}
use Rattle.bp_calls.proofs.resize.thaw_end.Goals.{After-need_prep-need}
use Rattle.bp_calls.proofs.resize.thaw_end.Goals as goal

-- the file may get longer, and takes as many blocks as were counted
plan : (g : Over) (c : After-need_prep-need g) → IsPlanned g.R.Region.memory (resizes c.args.ino c.args.size) c.need_prep-need.result c.args.parts.now
plan g c =
    let image = current_words (g.R.Region.memory c.args.parts.now.region) in
    let tree = c.tree_of-tree in
    let well_formed = c.requires.mounted.well_formed in
    record {
      mounted = c.requires.mounted;
      reached = c.requires.reached;
      leads = growing_ways_at image well_formed c.args.ino c.args.size (file_some image c.args.ino c.requires.file) c.requires.reached c.requires.longer;
      needs =
          growing_needs image well_formed c.args.ino c.args.size tree.result.root tree.result.size c.requires.reached c.requires.file c.requires.longer
          tree.ensures.root tree.ensures.size
          ∙ sym c.need_prep-need.ensures;
      room = c.requires.room;
    }

pub need_prep-need-requires-clause-sound : goal.need_prep-need-requires-clause-sound
need_prep-need-requires-clause-sound g c =
    rw (c.tree_of-tree.ensures.root, c.tree_of-tree.ensures.size) (c.requires.mounted.well_formed.sound c.args.ino c.requires.reached)

pub returns-then-count-eq0 : goal.returns-then-count-eq0
returns-then-count-eq0 g c =
    let planned = plan g (goal.at.returns-then-count-eq0 g c).After-need_prep-need in
    let none = sym c.count.ensures ∙ c.if-count-eq0.true in
    let free = c.enough_free in
    record {
      thaws = on_ok_weaker free.result (thaws_unthawed planned none) free.ensures.enough;
      room = on_ok_weaker free.result (λ enough _. (ready_unthawed planned none enough).room) free.ensures.enough;
      enough = on_ok_weaker free.result (λ enough. (ready_unthawed planned none enough).enough) free.ensures.enough;
      refused = by_one free.result free.ensures.refused (lacks_unthawed planned none);
      same = search rules;
    }

pub thaw_before-requires : goal.thaw_before-requires
thaw_before-requires g c =
    let planned = plan g (goal.at.thaw_before-requires g c).After-need_prep-need in
    let are = c.lengthening-targets.ensures.resizes c.args.size c.requires.longer in
    let tree = c.tree_of-tree in
    let few = few_needed (current_words (g.R.Region.memory c.args.parts.now.region)) tree.result.root tree.result.size c.args.size c.args.size 0
    (omega arith) (omega arith) (omega (arith, c.requires.longer, tree.ensures.size))
    (rw (tree.ensures.root, tree.ensures.size) (c.requires.mounted.well_formed.sound c.args.ino c.requires.reached).low) in
    record {
      mounted = c.requires.mounted;
      ways = leads_in planned are;
      few = omega (arith, few, c.need_prep-need.ensures);
      room = room_for_both planned are;
    }

pub returns : goal.returns
returns g c =
    let planned = plan g (goal.at.returns g c).After-need_prep-need in
    let are = c.lengthening-targets.ensures.resizes c.args.size c.requires.longer in
    let thaw = c.thaw_before in
    record {
      thaws = ok_one thaw.result thaw.ensures.thaws (thaws_before planned are);
      room = ok_both thaw.result thaw.ensures.thaws thaw.ensures.enough (λ thaws enough _. (ready_after planned are thaws enough).room);
      enough = ok_both thaw.result thaw.ensures.thaws thaw.ensures.enough (λ thaws enough. (ready_after planned are thaws enough).enough);
      refused = by_one thaw.result thaw.ensures.refused (lacks_both planned are);
      same = thaw.ensures.same;
    }
