use Rattle.std.proofs.lemmas.List.{take_rest}
use Rattle.bp_path.proofs.PartsLaws.{names_last}
use Rattle.bp_path.proofs.names.split_last.Goals as goal

pub returns-clause-split : goal.returns-clause-split
returns-clause-split c =
    let text = c.args.text.now in
    let start = c.last_start-start.result in
    rw (take_rest text start, c.saturating_sub.ensures)
    (names_last text start c.last_start-start.ensures.within c.last_start-start.ensures.last c.last_start-start.ensures.slash c.requires.some c.requires.names).0

pub returns-clause-prefix : goal.returns-clause-prefix
returns-clause-prefix c =
    let text = c.args.text.now in
    let start = c.last_start-start.result in
    rw c.saturating_sub.ensures
    (names_last text start c.last_start-start.ensures.within c.last_start-start.ensures.last c.last_start-start.ensures.slash c.requires.some c.requires.names).1
