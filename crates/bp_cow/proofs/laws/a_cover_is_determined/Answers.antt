use Rattle.bp_cow.proofs.CoverOf.{is_cover, cover_determined}
use Rattle.bp_cow.proofs.laws.a_cover_is_determined.Goals as goal

pub returns-clause-is : goal.returns-clause-is
returns-clause-is c = is_cover c.args.touched.now c.requires c.args.image.now

pub returns-clause-only : goal.returns-clause-only
returns-clause-only c path is = cover_determined c.args.touched.now c.requires c.args.image.now path is
