use Rattle.std.proofs.Common.{◌∙◌, ap, subst, arith}
use Rattle.pm_epochs.specs.Crash.{commit}
use Rattle.pm_region.specs.Memory.{Adds}
use Rattle.pm_region.proofs.MemoryLaws.{length-current_words}
use Rattle.bp_cow.specs.Touched.{only_value}
use Rattle.bp_cow.proofs.commit.commit_one.Goals as goal

pub load_past_head-old-requires-clause-in_range : goal.load_past_head-old-requires-clause-in_range
load_past_head-old-requires-clause-in_range g c = omega (arith, c.requires.place, length-current_words (g.R.Region.memory c.args.region.now))

pub commit_word-requires-clause-in_range : goal.commit_word-requires-clause-in_range
commit_word-requires-clause-in_range g c = omega (arith, c.requires.place, length-current_words (g.R.Region.memory c.args.region.now))

pub returns : goal.returns
returns g c =
    subst (λ v. Adds (g.R.Region.memory c.args.region.now) (g.R.Region.memory c.commit_word.new.region) (commit c.args.place v))
    (c.only_value.ensures ∙ ap (only_value c.args.touched.now) c.load_past_head-old.ensures) c.commit_word.ensures
