use Rattle.std.proofs.Common.{sym, ◌∙◌, arith, rules}
use Rattle.bp_layout.specs.Need.Change.{sets}
use Rattle.pm_region.specs.Memory.{current_words}
use Rattle.bp_calls.proofs.AttributeWords.{none_setting, setting_ways}
use Rattle.bp_calls.proofs.CommitResults.{by_one, ok_both, ok_one}
use Rattle.bp_calls.proofs.ThawedNeed.{IsPlanned, lacks_both, leads_in, room_past_end, room_for_both, room_outside_snapshot, thaws_before, thaws_unthawed}
use Rattle.bp_calls.proofs.attributes.thaw_attribute.Given.{Over}
use Rattle.bp_calls.proofs.attributes.thaw_attribute.Goals.{Start}
use Rattle.bp_calls.proofs.attributes.thaw_attribute.Goals as goal

-- the attribute may be set, and that takes no block
plan : (g : Over) (c : Start g) → IsPlanned g.R.Region.memory (sets c.args.ino c.args.number) 0 c.args.parts.now
plan g c =
    let image = current_words (g.R.Region.memory c.args.parts.now.region) in
    record {
      mounted = c.requires.mounted;
      reached = c.requires.reached;
      leads = setting_ways image c.requires.mounted.well_formed c.args.ino c.args.number c.requires.reached c.requires.number;
      needs = none_setting image c.requires.mounted.well_formed c.args.ino c.args.number c.requires.reached c.requires.number;
      room = c.requires.room;
    }

pub returns-then-count-eq0 : goal.returns-then-count-eq0
returns-then-count-eq0 g c =
    let planned = plan g (goal.at.returns-then-count-eq0 g c).Start in
    let none = sym c.count.ensures ∙ c.if-count-eq0.true in
    let room = room_outside_snapshot planned none (omega arith) in
    record { thaws = thaws_unthawed planned none (omega arith); room = omega (arith, room); refused = search rules; same = search rules }

pub thaw_before-requires : goal.thaw_before-requires
thaw_before-requires g c =
    let planned = plan g (goal.at.thaw_before-requires g c).Start in
    let are = c.setting-targets.ensures in
    record { mounted = c.requires.mounted; ways = leads_in planned are; few = omega arith; room = room_for_both planned are }

pub returns : goal.returns
returns g c =
    let planned = plan g (goal.at.returns g c).Start in
    let are = c.setting-targets.ensures in
    let thaw = c.thaw_before in
    record {
      thaws = ok_one thaw.result thaw.ensures.thaws (thaws_before planned are);
      room = ok_both thaw.result thaw.ensures.thaws thaw.ensures.enough
          (λ thaws enough. let room = room_past_end planned are thaws enough in omega (arith, room));
      refused = by_one thaw.result thaw.ensures.refused (lacks_both planned are);
      same = thaw.ensures.same;
    }
