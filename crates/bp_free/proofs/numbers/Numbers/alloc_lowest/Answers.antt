use Rattle.bp_free.proofs.Members.{taken_least}
use Rattle.bp_free.proofs.numbers.Numbers.alloc_lowest.Goals as goal

pub returns : goal.returns
returns g c = taken_least c.args.self.now c.take.new.self c.in-Some.least c.in-Some.ensures.0 c.in-Some.ensures.1
