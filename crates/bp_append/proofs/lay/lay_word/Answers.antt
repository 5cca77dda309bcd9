use Rattle.std.proofs.Common.{[], ◌∷◌, refl}
use Rattle.pm_region.specs.Memory.{current_words}
use Rattle.bp_append.proofs.LaidRuns.{one_laid}
use Rattle.bp_append.proofs.lay.lay_word.Goals as goal

pub returns : goal.returns
returns g c = record {
  values = c.laid_word-value.result ∷ [];
  long = refl;
  adds = c.store_past_head.ensures;
  laid = one_laid (current_words (g.R.Region.memory c.args.region.now)) c.args.place c.args.start c.args.layer.now.low c.args.layer.now.from c.laid_word-value.result c.args.layer.now.bytes.now c.laid_word-value.ensures;
}
