use Rattle.std.proofs.Common.{length, sym, ◌+◌}
use Rattle.std.proofs.lemmas.List.{take_rest}
use Rattle.std.proofs.Math.Seq.{drop-length}
use Rattle.bp_path.proofs.PartsLaws.{names_first, names_only}
use Rattle.bp_path.proofs.names.split_first.Goals as goal

pub returns-in-Some-clause-split : goal.returns-in-Some-clause-split
returns-in-Some-clause-split c =
    rw (take_rest c.args.text.now (c.in-Some.end + 1)) (names_first c.args.text.now c.in-Some.end c.requires.names (sym c.in-Some.ensures)).0

pub returns-in-Some-clause-rest : goal.returns-in-Some-clause-rest
returns-in-Some-clause-rest c =
    rw (take_rest c.args.text.now (c.in-Some.end + 1)) (names_first c.args.text.now c.in-Some.end c.requires.names (sym c.in-Some.ensures)).1

pub returns-in-None-clause-split : goal.returns-in-None-clause-split
returns-in-None-clause-split c =
    rw (take_rest c.args.text.now (length c.args.text.now), drop-length c.args.text.now) (names_only c.args.text.now c.requires.some (sym c.in-None.ensures))
