use Rattle.std.proofs.Common.{◌-◌, arith, take}
use Rattle.std.proofs.lemmas.List.{length-take-le}
use Rattle.bp_script.specs.Commands.{path_bytes}
use Rattle.bp_script.proofs.BatchWords.{prefix_stays, part_written}
use Rattle.bp_script.proofs.batches.add_path_part.Goals as goal

pub returns-clause-part : goal.returns-clause-part
returns-clause-part c =
    let at = c.args.at in
    let end = c.put_path-end.result in
    part_written (take at c.args.text.now.items) (path_bytes c.args.word.now) c.put_path-end.new.text.items end (record { at = at; len = end - at }) c.put_path-end.ensures.path
    (length-take-le at c.args.text.now.items c.requires.within) (omega (arith, c.put_path-end.ensures.later))

pub returns-clause-prefix : goal.returns-clause-prefix
returns-clause-prefix c =
    prefix_stays c.args.at c.put_path-end.result c.args.text.now.items (path_bytes c.args.word.now) c.put_path-end.new.text.items c.requires.within c.put_path-end.ensures.later c.put_path-end.ensures.path
