use Rattle.std.proofs.Common.{◌≡◌, ◌++◌, [], ◌∷◌, ◌∙◌, ap, arith, sym, take, length}
use Rattle.std.proofs.lemmas.List.{length-set, take_more, take_more_set}
use Rattle.std.proofs.Math.Seq.{take-length}
use Rattle.pm_region.specs.Memory.{current_words}
use Rattle.pm_region.proofs.MemoryLaws.{length-current_words}
use Rattle.bp_session.proofs.blocks.head_words.Goals as goal

pub loop-k-preserved : goal.loop-k-preserved
loop-k-preserved g c =
    let memory = g.R.Region.memory c.args.region.now in
    let image = current_words memory in
    let k = c.loop-k.k in
    let words = c.loop-k.words in
    record {
      size = length-set words k c.load.result ∙ c.loop-k.invariant.size;
      prefix = take_more_set words k c.load.result (omega (arith, c.loop-k.invariant.size))
          ∙ ap (λ l. l ++ c.load.result ∷ []) c.loop-k.invariant.prefix
          ∙ ap (λ w. take k image ++ w ∷ []) c.load.ensures
          ∙ sym (take_more image k 0 (omega (arith, c.requires, length-current_words memory)));
    }

pub returns : goal.returns
returns g c =
    let end : c.loop-k.k ≡ length c.loop-k.words = omega (arith, c.loop-k.invariant.size) in
    let eight : c.loop-k.k ≡ 8 = omega (arith, c.loop-k.invariant.size, end) in
    let whole : take c.loop-k.k c.loop-k.words ≡ c.loop-k.words = rw end (take-length c.loop-k.words) in
    sym whole ∙ c.loop-k.invariant.prefix ∙ ap (λ n. take n (current_words (g.R.Region.memory c.args.region.now))) eight
