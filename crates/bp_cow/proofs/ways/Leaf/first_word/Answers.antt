use Rattle.std.proofs.Common.{arith}
use Rattle.bp_cow.proofs.RunLaws.{leaf-few}
use Rattle.bp_cow.proofs.ways.Leaf.first_word.Goals as goal

pub overflow_add-result : goal.overflow_add-result
overflow_add-result c = omega (arith, c.first_leaf.ensures, leaf-few c.args.self.now.run.now c.args.self.now.index c.requires.run c.requires.index)

pub overflow_mul-result : goal.overflow_mul-result
overflow_mul-result c = omega (arith, c.first_leaf.ensures, leaf-few c.args.self.now.run.now c.args.self.now.index c.requires.run c.requires.index)
