use Rattle.std.proofs.Common.{◌≡◌, arith}
use Rattle.bp_calls.proofs.AcrossCalls.{at_copied, at_few, at_needs, at_shape}
use Rattle.bp_cow.specs.Cover.{copied_count}
use Rattle.pm_region.specs.Memory.{current_words}
use Rattle.bp_calls.proofs.writes.across.need_found.Given.{Over}
use Rattle.bp_calls.proofs.writes.across.need_found.Goals.{After-copies_below-copied}
use Rattle.bp_calls.proofs.writes.across.need_found.Goals as goal

-- as many blocks are copied as the definition counts
copied : (g : Over) (c : After-copies_below-copied g)
    → c.copies_below-copied.result ≡ copied_count (current_words (g.R.Region.memory c.args.parts.now.region)) c.args.touched.now
copied g c = at_copied c.args.plan.now.inode c.copies_below-copied.result c.args.found.now c.requires.across c.requires.found c.copies_below-copied.ensures

pub copies_below-copied-requires-clause-touched : goal.copies_below-copied-requires-clause-touched
copies_below-copied-requires-clause-touched g c = at_shape c.args.plan.now.inode c.requires.across

pub overflow_add-result : goal.overflow_add-result
overflow_add-result g c =
    let plan = c.args.plan.now in
    let few = at_few plan.inode plan.tree.root plan.tree.size c.requires.across c.requires.root c.requires.size in
    omega (arith, few, c.need_prep.ensures, copied g (goal.at.overflow_add-result g c).After-copies_below-copied)

pub returns-clause-need : goal.returns-clause-need
returns-clause-need g c =
    let plan = c.args.plan.now in
    at_needs plan.inode plan.tree.root plan.tree.size c.need_prep.result c.copies_below-copied.result c.requires.across c.requires.root c.requires.size
    c.need_prep.ensures (copied g (goal.at.returns-clause-need g c).After-copies_below-copied)

pub returns-clause-few : goal.returns-clause-few
returns-clause-few g c =
    let plan = c.args.plan.now in
    let few = at_few plan.inode plan.tree.root plan.tree.size c.requires.across c.requires.root c.requires.size in
    omega (arith, few, c.need_prep.ensures, copied g (goal.at.returns-clause-few g c).After-copies_below-copied)
