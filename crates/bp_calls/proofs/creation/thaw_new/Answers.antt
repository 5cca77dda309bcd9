use Rattle.std.proofs.Common.{◌≡◌, ◌+◌, ◌≤◌, ℕ, Option, length, sym, ◌∙◌, subst, arith, rules}
use Rattle.std.specs.Prelude.{OnErr}
use Rattle.bp_layout.specs.Free.{IsLeastFree}
use Rattle.bp_layout.specs.Need.Change.{enters}
use Rattle.bp_free.specs.Set.{members}
use Rattle.bp_changes.specs.Entrant.{entrant_of}
use Rattle.bp_calls.specs.ThawsFor.{HasRoomToThaw, LacksBlocksToThaw, ThawsFor, thaw_count}
use Rattle.bp_thaw.specs.Prefixes.{IsWayIn}
use Rattle.bp_thaw.specs.Thaws.{paths_in}
use Rattle.pm_region.specs.Memory.{current_words}
use Rattle.bp_calls.proofs.CommitResults.{by_one, ok_both, ok_one}
use Rattle.bp_calls.proofs.EnterTargets.{enter_ways}
use Rattle.bp_calls.proofs.NewNames.{entrant_inside, is_reported}
use Rattle.bp_calls.proofs.ThawedNeed.{IsPlanned, few_unthawed, lacks_both, leads_in, ready_after, ready_unthawed, room_for_both, thaws_before, thaws_unthawed}
use Rattle.bp_calls.proofs.creation.thaw_new.Given.{Over}
use Rattle.bp_calls.proofs.creation.thaw_new.Goals.{After-new_need-need}
use Rattle.bp_calls.proofs.creation.thaw_new.Goals as goal

-- with the least free inode a name may come in, and takes as many blocks as were counted
plan : (g : Over) (c : After-new_need-need g) (free : Option ℕ) → IsLeastFree (current_words (g.R.Region.memory c.args.parts.now.region)) free
    → IsPlanned g.R.Region.memory (enters c.args.dir (entrant_of free)) c.new_need-need.result c.args.parts.now
plan g c free least =
    let image = current_words (g.R.Region.memory c.args.parts.now.region) in
    let parts = c.args.parts.now in
    let mounted = c.requires.mounted in
    record {
      mounted = mounted;
      reached = (c.requires.reached, c.requires.directory);
      leads = enter_ways image mounted.well_formed c.args.dir c.requires.reached c.requires.directory (entrant_of free)
          (entrant_inside image mounted.well_formed parts.free_blocks parts.free_inodes mounted.exact.sets c.args.dir c.requires.reached c.requires.directory free least);
      needs = c.new_need-need.ensures.need free least;
      room = c.requires.room free least;
    }

pub returns-then-free-need-clause-refused : goal.returns-then-free-need-clause-refused
returns-then-free-need-clause-refused g c free least =
    let planned = plan g (goal.at.returns-then-free-need-clause-refused g c).After-new_need-need free least in
    few_unthawed planned (sym c.count.ensures ∙ c.if-count-eq0.true) c.count-free.result c.count-free.ensures c.if-free-need.true

pub returns-then-count-eq0 : goal.returns-then-count-eq0
returns-then-count-eq0 g c =
    let planned = plan g (goal.at.returns-then-count-eq0 g c).After-new_need-need in
    let none = sym c.count.ensures ∙ c.if-count-eq0.true in
    let enough : c.new_need-need.result ≤ length (members c.args.parts.now.free_blocks) = omega (arith, c.count-free.ensures, c.if-free-need.false) in
    record {
      thaws = λ free least. thaws_unthawed (planned free least) none enough;
      thawed = λ free least. ready_unthawed (planned free least) none enough;
      refused = search rules;
      same = search rules;
    }

-- ## The ways were found by a call that leaves the parts as they were

-- some inode is the least free one, or none is free
reported : (g : Over) (c : After-new_need-need g) → (free : Option ℕ) × IsLeastFree (current_words (g.R.Region.memory c.args.parts.now.region)) free
reported g c =
    let parts = c.args.parts.now in
    let mounted = c.requires.mounted in
    is_reported (current_words (g.R.Region.memory parts.region)) mounted.well_formed parts.free_blocks parts.free_inodes mounted.exact.sets c.args.dir
    c.requires.reached c.requires.directory

pub thaw_before-requires-clause-ways : goal.thaw_before-requires-clause-ways
thaw_before-requires-clause-ways g c =
    let at = (goal.at.thaw_before-requires-clause-ways g c).After-new_need-need in
    let found = c.entering_new-targets.ensures in
    let least = reported g at in
    λ path has. subst (λ p. IsWayIn (current_words (g.R.Region.memory p.region)) path) (sym found.same)
    (leads_in (plan g at least.0 least.1) (found.paths least.0 least.1) path has)

pub thaw_before-requires-clause-room : goal.thaw_before-requires-clause-room
thaw_before-requires-clause-room g c =
    let at = (goal.at.thaw_before-requires-clause-room g c).After-new_need-need in
    let found = c.entering_new-targets.ensures in
    let least = reported g at in
    subst (λ p. HasRoomToThaw g.R.Region.memory (paths_in c.entering_new-targets.result) p c.new_need-need.result) (sym found.same)
    (room_for_both (plan g at least.0 least.1) (found.paths least.0 least.1))

pub returns : goal.returns
returns g c =
    let planned = plan g (goal.at.returns g c).After-new_need-need in
    let found = c.entering_new-targets.ensures in
    let ways = paths_in c.entering_new-targets.result in
    let more = c.new_need-need.result in
    let before = subst (λ p. ThawsFor g.R.Region.memory ways p c.thaw_before.new.parts) found.same in
    let fits = subst (λ p. thaw_count g.R.Region.memory ways p + more ≤ length (members p.free_blocks)) found.same in
    let thaw = c.thaw_before in
    record {
      thaws = ok_one thaw.result thaw.ensures.thaws (λ thaws free least. thaws_before (planned free least) (found.paths free least) (before thaws));
      thawed = ok_both thaw.result thaw.ensures.thaws thaw.ensures.enough
          (λ thaws enough free least. ready_after (planned free least) (found.paths free least) (before thaws) (fits enough));
      refused = by_one thaw.result thaw.ensures.refused
          (λ lacks has free least. lacks_both (planned free least) (found.paths free least) lacks
          (subst (λ p. LacksBlocksToThaw g.R.Region.memory ways p more lacks) found.same has));
      same = subst (λ p. OnErr thaw.result (thaw.new.parts ≡ p)) found.same thaw.ensures.same;
    }
