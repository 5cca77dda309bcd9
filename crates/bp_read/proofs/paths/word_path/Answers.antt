use Rattle.std.proofs.Common.{suc, ◌/◌, ◌-◌, ◌^◌, ◌∙◌, ap, arith, length}
use Rattle.bp_layout.specs.Words.{height_of}
use Rattle.bp_read.proofs.Digits.{length-digits, all_digits, next_digit}
use Rattle.bp_read.proofs.paths.word_path.Goals as goal

pub push-requires : goal.push-requires
push-requires c =
    let levels = c.loop-levels.levels in
    let count = ap length c.loop-levels.invariant.so_far ∙ length-digits (suc (height_of c.args.tree.root) - c.loop-levels.levels) (c.args.offset / 8 / 512 ^ c.loop-levels.levels) in
    omega (arith, count, c.loop-levels-test.true)

pub loop-levels-preserved : goal.loop-levels-preserved
loop-levels-preserved c = record {
  within = omega arith;
  so_far = c.push.ensures.items ∙ next_digit (suc (height_of c.args.tree.root)) (c.args.offset / 8) c.loop-levels.levels c.loop-levels.path.items
      c.loop-levels-test.true c.loop-levels.invariant.within c.loop-levels.invariant.so_far;
}

pub returns : goal.returns
returns c = all_digits (suc (height_of c.args.tree.root)) (c.args.offset / 8) c.loop-levels.levels c.loop-levels.path.items c.loop-levels-test.false c.loop-levels.invariant.so_far
