use Rattle.std.proofs.Common.{◌≡◌, ℕ, ◌+◌, ◌*◌, ◌/◌, ◌^◌, ◌<◌, ◌≤◌, ◌∙◌, sym, ap, subst, arith}
use Rattle.std.proofs.Math.Nat.{div-le_self}
use Rattle.pm_words.proofs.Digits.{power_of_two}
use Rattle.bp_cow.specs.Touched.{level_live}
use Rattle.bp_cow.proofs.RunLaws.{leaf-few}
use Rattle.bp_cow.proofs.ways.Leaf.block_pieces.Goals as goal

pub overflow_add-block : goal.overflow_add-block
overflow_add-block c = omega (arith, c.first_leaf.ensures, leaf-few c.args.self.now.run.now c.args.self.now.index c.requires.run c.requires.index)

pub block_pieces-requires-clause-block : goal.block_pieces-requires-clause-block
block_pieces-requires-clause-block c =
    let leaf : ℕ = c.first_leaf.result + c.args.self.now.index in
    let small : leaf / 2 ^ (9 * c.args.level) ≤ leaf = div-le_self leaf (2 ^ (9 * c.args.level)) in
    omega (arith, small, c.first_leaf.ensures, leaf-few c.args.self.now.run.now c.args.self.now.index c.requires.run c.requires.index)

pub returns-clause-live : goal.returns-clause-live
returns-clause-live c slot small counted =
    let run = c.args.self.now.run.now in
    let block : (c.first_leaf.result + c.args.self.now.index) / 2 ^ (9 * c.args.level) ≡ (run.offset / 4096 + c.args.self.now.index) / 512 ^ c.args.level =
    ap (λ n. (c.first_leaf.result + c.args.self.now.index) / n) (power_of_two c.args.level) ∙ ap (λ n. (n + c.args.self.now.index) / 512 ^ c.args.level) c.first_leaf.ensures in
    c.block_pieces.ensures.live slot small (subst (λ n. slot < level_live run.size c.args.level n) (sym block) counted)
