use Rattle.std.proofs.Common.{sym, ◌∙◌, ap}
use Rattle.pm_region.specs.Memory.{current_words}
use Rattle.bp_layout.specs.WordPaths.{WordPath}
use Rattle.bp_calls.proofs.WriteTargets.{past_end_at, growing_at, with_end}
use Rattle.bp_calls.proofs.targets.lengthening.Goals as goal

pub returns-clause-resizes : goal.returns-clause-resizes
returns-clause-resizes g c = λ size longer.
    let image = current_words (g.R.Region.memory c.args.region.now) in
    c.with_end.ensures ∙ ap (λ (p : WordPath). with_end image p c.args.ino) c.size_path.ensures ∙ sym (growing_at image c.requires.well_formed c.args.ino size c.requires.some c.requires.reached longer)

pub returns-clause-writes : goal.returns-clause-writes
returns-clause-writes g c = λ offset len past_end more.
    let image = current_words (g.R.Region.memory c.args.region.now) in
    c.with_end.ensures ∙ ap (λ (p : WordPath). with_end image p c.args.ino) c.size_path.ensures ∙ sym (past_end_at image c.requires.well_formed c.args.ino offset len c.requires.some c.requires.reached past_end more)
