use Rattle.std.proofs.Common.{◌-◌, length, take, sym, ◌∙◌, ap}
use Rattle.bp_layout.specs.Thaw.{heights_now}
use Rattle.bp_layout.specs.WordPaths.{WordPath}
use Rattle.pm_region.specs.Memory.{current_words}
use Rattle.bp_calls.proofs.WriteTargets.{across_at, leaf_prefix, with_end}
use Rattle.bp_calls.proofs.targets.crossing.Goals as goal

pub returns : goal.returns
returns g c = λ offset len below past.
    let image = current_words (g.R.Region.memory c.args.region.now) in
    let leaf = c.pop.ensures.rest ∙ ap (λ (p : WordPath). take (length p - 1) p) c.size_path-leaf.ensures ∙ leaf_prefix (heights_now image 0) c.args.ino in
    c.with_end.ensures ∙ ap (λ (p : WordPath). with_end image p c.args.ino) leaf ∙ sym (across_at image c.requires.well_formed c.args.ino offset len c.requires.some c.requires.reached below past)
