use Rattle.std.proofs.Common.{◌≡◌, ◌∙◌, ap, rules}
use Rattle.std.proofs.Math.ListN.{replicate}
use Rattle.bp_layout.specs.Stores.{after_stores}
use Rattle.bp_samples.specs.Laid.{laid_image}
use Rattle.bp_samples.proofs.images.laid.Goals as goal

pub returns-clause-words : goal.returns-clause-words
unfolding laid_image
returns-clause-words c =
    let zeros : c.in_ok-words.words.items ≡ replicate 4096 0 = search rules in
    c.put.ensures.words ∙ ap (λ words. after_stores words c.args.stores.now) zeros
