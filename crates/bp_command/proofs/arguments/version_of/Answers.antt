use Rattle.std.proofs.Common.{arith}
use Rattle.bp_command.proofs.arguments.version_of.Goals as goal

pub overflow_cast-number_of : goal.overflow_cast-number_of
overflow_cast-number_of c = omega (arith, (c.number_of.ensures 1 3 c.requires).at_most)

pub numbered-requires-clause-least : goal.numbered-requires-clause-least
numbered-requires-clause-least c = (c.number_of.ensures 1 3 c.requires).at_least

pub numbered-requires-clause-most : goal.numbered-requires-clause-most
numbered-requires-clause-most c = (c.number_of.ensures 1 3 c.requires).at_most
