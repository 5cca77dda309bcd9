use Rattle.std.proofs.Common.{Some, sym, ◌∙◌, ap}
use Rattle.bp_plain.specs.Plain.{only_name}
use Rattle.bp_plain.specs.SeenTree.{names_of}
use Rattle.bp_plain.proofs.PathLaws.{below_none, below_some}
use Rattle.bp_plain.proofs.trees.entries.name_below.Goals as goal

pub returns-in-Some : goal.returns-in-Some
returns-in-Some c =
    c.only.ensures ∙ ap (λ path. only_name (Some (names_of path))) c.in-Some.ensures.cases.1
    ∙ ap only_name (sym (below_some c.args.dir.now c.args.path.now c.in-Some.ensures.cases.0))

pub returns-in-None : goal.returns-in-None
returns-in-None c = ap only_name (sym (below_none c.args.dir.now c.args.path.now c.in-None.ensures.cases))
