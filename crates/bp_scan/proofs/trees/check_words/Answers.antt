use Rattle.std.proofs.Common.{◌≡◌, arith}
use Rattle.bp_scan.specs.Inodes.IsWrong.{no_kind, root_file, part_of_entry}
use Rattle.bp_scan.proofs.trees.check_words.Goals as goal

pub returns-in-2-2-clause-err : goal.returns-in-2-2-clause-err
returns-in-2-2-clause-err c = part_of_entry c.in-2.is c.if-words-eq0.false

pub returns-in_default-clause-err : goal.returns-in_default-clause-err
returns-in_default-clause-err c =
    let root : c.args.ino ≡ 1 = omega (arith, c.if-ino-ne-ROOT_INO.false) in
    root_file root (λ same. omega (arith, same, c.in-1.is))

pub returns-in_default-2-clause-err : goal.returns-in_default-2-clause-err
returns-in_default-2-clause-err c = no_kind (omega (arith, c.in_default)) (omega (arith, c.in_default))
