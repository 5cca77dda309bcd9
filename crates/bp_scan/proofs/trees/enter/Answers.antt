use Rattle.std.proofs.Common.{◌≡◌, ℕ, false, not, nat_eq, arith}
use Rattle.std.proofs.lemmas.Bool.Decides.{nat_tests}
use Rattle.std.proofs.lemmas.Result.{err_from_is_err_and}
use Rattle.pm_region.specs.Memory.{current_words}
use Rattle.bp_scan.proofs.InodePlaces.{fails_words, fails_below}
use Rattle.bp_scan.proofs.trees.enter.Goals as goal

closed_directory : (kind : ℕ) → not (nat_eq kind 2) ≡ false → kind ≡ 2
closed_directory kind closed = grind (arith, nat_tests)

pub returns-in_err-check_words-clause-err : goal.returns-in_err-check_words-clause-err
returns-in_err-check_words-clause-err g c =
    let p = err_from_is_err_and c.from_residual.result c.from_residual.ensures.1 in
    rw (p.1, p.2) (fails_words (current_words (g.R.Region.memory c.args.region.now)) c.args.ino c.load_inode-words.result c.load_inode-words.ensures c.args.work.now.blocks c.in_err-check_words.field-0.0.check c.in_err-check_words.field-0.0.place c.in_err-check_words.ensures.err)

pub returns-in_err-take_tree-clause-err : goal.returns-in_err-take_tree-clause-err
returns-in_err-take_tree-clause-err g c =
    let p = err_from_is_err_and c.from_residual-in_err-take_tree.result c.from_residual-in_err-take_tree.ensures.1 in
    rw (p.1, p.2) (fails_below (current_words (g.R.Region.memory c.args.region.now)) c.args.ino c.load_inode-words.result c.load_inode-words.ensures c.args.work.now.blocks _ c.in_err-take_tree.field-0.0.check c.in_err-take_tree.field-0.0.place
    (closed_directory c.load_inode-words.result.kind) c.in_err-take_tree.ensures.err)
