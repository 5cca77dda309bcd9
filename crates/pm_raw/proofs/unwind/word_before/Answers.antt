use Rattle.std.proofs.Common.{◌∙◌, ap, get_or, sym}
use Rattle.pm_raw.specs.Unwound.{base_from}
use Rattle.pm_raw.proofs.UnwoundLaws.{base-found, base-missed}
use Rattle.pm_raw.proofs.unwind.word_before.Goals as goal

pub returns-then-is_among : goal.returns-then-is_among
returns-then-is_among c =
    let words = c.args.words.now in
    let word = c.args.word in
    let among = c.is_among.ensures.inside c.if-is_among.true in
    sym (base-found words c.in-Stores.first c.in-Stores.values.now c.take_first.new.self word c.requires among.0 among.1)
    ∙ sym (ap (λ es. get_or (base_from words es) word 0) c.in-Stores.ensures.events)
    ∙ c.loop-rest.invariant

pub loop-rest-preserved-else-is_among : goal.loop-rest-preserved-else-is_among
loop-rest-preserved-else-is_among c =
    let words = c.args.words.now in
    let word = c.args.word in
    sym (base-missed words c.in-Stores.first c.in-Stores.values.now c.take_first.new.self word (c.is_among.ensures.outside c.if-is_among.false))
    ∙ sym (ap (λ es. get_or (base_from words es) word 0) c.in-Stores.ensures.events)
    ∙ c.loop-rest.invariant
