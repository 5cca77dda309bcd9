use Rattle.std.proofs.Common.{◌≡◌, ◌+◌, ◌-◌, ◌∷◌, ◌++◌, ◌∙◌, [], ap, arith, drop, length, sym, take}
use Rattle.std.proofs.lemmas.List.{get_or-drop, length-drop, length-set, take_more, take_more_set}
use Rattle.std.proofs.Math.Seq.{take-length}
use Rattle.pm_region.specs.Memory.{current_words}
use Rattle.pm_region.proofs.MemoryLaws.{length-current_words}
use Rattle.bpfs_c.proofs.log.copy_by_word.Goals as goal

pub loop-i-preserved : goal.loop-i-preserved
loop-i-preserved c =
    let words = current_words c.args.region.now in
    let i = c.loop-i.i in
    let into = c.loop-i.into in
    let word = c.load.result in
    let rest = drop c.args.first words in
    record {
      long = length-set into i word ∙ c.loop-i.invariant.long;
      prefix = take_more_set into i word (omega (arith, c.loop-i.invariant.long))
          ∙ ap (λ l. l ++ word ∷ []) c.loop-i.invariant.prefix
          ∙ ap (λ w. take i rest ++ w ∷ []) (c.load.ensures ∙ sym (get_or-drop c.args.first words i 0))
          ∙ sym (take_more rest i 0 (omega (arith, c.requires.in_range, length-drop c.args.first words, length-current_words c.args.region.now)));
    }

pub returns : goal.returns
returns c =
    let words = current_words c.args.region.now in
    let count = length c.args.into.now in
    let end : c.loop-i.i ≡ length c.loop-i.into = omega (arith, c.loop-i.invariant.long) in
    let all : c.loop-i.i ≡ (c.args.first + count) - c.args.first = omega (arith, end, c.loop-i.invariant.long) in
    let whole : take c.loop-i.i c.loop-i.into ≡ c.loop-i.into = rw end (take-length c.loop-i.into) in
    sym whole ∙ c.loop-i.invariant.prefix ∙ ap (λ n. take n (drop c.args.first words)) all
