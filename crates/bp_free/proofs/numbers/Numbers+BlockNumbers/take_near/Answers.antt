use Rattle.bp_free.proofs.Members.{taken_one}
use Rattle.bp_free.proofs.numbers.Numbers+BlockNumbers.take_near.Goals as goal

pub returns-in-Some : goal.returns-in-Some
returns-in-Some c = taken_one c.args.self.now c.claim.new.self c.in-Some.near c.in-Some.ensures.0 c.in-Some.ensures.1 c.claim.ensures
