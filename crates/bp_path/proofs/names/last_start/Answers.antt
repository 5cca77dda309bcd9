use Rattle.std.proofs.Common.{◌≡◌, ◌+◌, ◌-◌, arith}
use Rattle.bp_path.proofs.PlainBytes.{last_slash, no_last_slash}
use Rattle.bp_path.proofs.names.last_start.Goals as goal

pub returns-in-Some-clause-last : goal.returns-in-Some-clause-last
returns-in-Some-clause-last c = (last_slash c.args.text.now c.memrchr.result c.in-Some.slash c.memrchr.ensures c.in-Some.is).0

pub returns-in-Some-clause-slash : goal.returns-in-Some-clause-slash
returns-in-Some-clause-slash c =
    let back : c.in-Some.slash + 1 - 1 ≡ c.in-Some.slash = omega arith in
    λ some. rw back (last_slash c.args.text.now c.memrchr.result c.in-Some.slash c.memrchr.ensures c.in-Some.is).1

pub returns-in-None-clause-last : goal.returns-in-None-clause-last
returns-in-None-clause-last c = no_last_slash c.args.text.now c.memrchr.result c.memrchr.ensures c.in-None.is
