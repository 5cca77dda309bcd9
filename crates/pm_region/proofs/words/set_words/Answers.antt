use Rattle.std.proofs.Common.{◌+◌, ◌∙◌, ap, arith, set, get_or, sym, take, [], ◌∷◌}
use Rattle.pm_epochs.specs.declared.event.Event.TheVariants.{Store}
use Rattle.pm_epochs.specs.Log.{words_after}
use Rattle.pm_epochs.proofs.CrashLaws.{words_after-append}
use Rattle.pm_region.specs.Memory.{stores_from}
use Rattle.pm_region.proofs.MemoryLaws.{stores_from-more}
use Rattle.pm_region.proofs.words.set_words.Goals as goal

pub loop-i-preserved : goal.loop-i-preserved
loop-i-preserved c =
    let i = c.loop-i.i in
    let values = c.args.values.now in
    let first = c.args.first in
    let words = c.args.words.now in
    ap (λ ws. set ws (first + i) (get_or values i 0)) c.loop-i.invariant
    ∙ sym (words_after-append words (stores_from first (take i values)) (Store (first + i) (get_or values i 0) ∷ []))
    ∙ ap (words_after words) (sym (stores_from-more first values i (omega arith)))
