use Rattle.memchr.specs.Find.{is_byte}
use Rattle.bp_session.proofs.Runs.{found_in, none_in}
use Rattle.bp_session.proofs.server.newline_in.Goals as goal

pub returns-in-Some : goal.returns-in-Some
returns-in-Some c = found_in c.args.bytes.now c.args.from c.args.to c.requires.inside (is_byte 10) c.in-Some.i c.in-Some.ensures

pub returns-in-None : goal.returns-in-None
returns-in-None c = none_in c.args.bytes.now c.args.from c.args.to c.requires.inside (is_byte 10) c.in-None.ensures
