use Rattle.std.proofs.Common.{◌≡◌, ◌+◌, ◌-◌, ◌∙◌, ◌++◌, ap, arith, drop, length, sym, take}
use Rattle.pm_region.proofs.MemoryLaws.{length-stores_from}
use Rattle.pm_region.specs.Memory.{stores_from}
use Rattle.pm_raw.specs.Entries.{no_word, events_of}
use Rattle.pm_raw.specs.Unwound.{base_from, events_from}
use Rattle.pm_raw.proofs.RowLaws.{IsRow, row-before, row-fits, row-long, row-patched, row-signalled, row-split, row-stored}
use Rattle.pm_raw.proofs.UnwoundLaws.{base-signal, events-signal, length-events}
use Rattle.pm_raw.proofs.unwind.unwind_row.Goals.{After-row_before-first}
use Rattle.pm_raw.proofs.unwind.unwind_row.Goals as goal

-- the row that was found
row : (c : After-row_before-first) → IsRow c.args.places.now.words c.row_before-first.result.first (c.args.end - c.row_before-first.result.len) c.args.end
row c =
    let found = c.row_before-first.ensures in
    row-before _ _ c.row_before-first.result.len _ found.some (omega (arith, found.fits)) (omega (arith, c.requires.inside, c.requires.each))
    (omega (arith, found.in_range, found.some)) found.row found.signal found.stores

pub unwind_stores-requires : goal.unwind_stores-requires
unwind_stores-requires c =
    let at = row (goal.at.unwind_stores-requires c).After-row_before-first in
    let from = c.args.end - c.row_before-first.result.len in
    let low = at.stores (omega (arith, c.if-first-ne-NO_WORD.true, at.low)) in
    row-fits c.args.places.now.words c.args.saved.now c.requires.each from (c.args.end - from) c.row_before-first.result.first at.fits at.are
    (length c.args.words.now) low at.some c.requires.within

pub returns-then-first-ne-NO_WORD-clause-words : goal.returns-then-first-ne-NO_WORD-clause-words
returns-then-first-ne-NO_WORD-clause-words c =
    let at = row (goal.at.returns-then-first-ne-NO_WORD-clause-words c).After-row_before-first in
    let from = c.args.end - c.row_before-first.result.len in
    let low = at.stores (omega (arith, c.if-first-ne-NO_WORD.true, at.low)) in
    c.unwind_stores.ensures.words
    ∙ sym (ap (base_from c.args.words.now)
    (row-stored c.args.places.now.words c.args.saved.now c.requires.each from (c.args.end - from) c.row_before-first.result.first at.fits at.are low))

pub returns-then-first-ne-NO_WORD-clause-log : goal.returns-then-first-ne-NO_WORD-clause-log
returns-then-first-ne-NO_WORD-clause-log c =
    let at = row (goal.at.returns-then-first-ne-NO_WORD-clause-log c).After-row_before-first in
    let words = c.args.places.now.words in
    let saved = c.args.saved.now in
    let undos = events_of words saved in
    let first = c.row_before-first.result.first in
    let from = c.args.end - c.row_before-first.result.len in
    let n = c.args.end - from in
    let low = at.stores (omega (arith, c.if-first-ne-NO_WORD.true, at.low)) in
    let olds = take n (drop from saved) in
    let news = c.unwind_stores.new.saved in
    let stored = row-stored words saved c.requires.each from n first at.fits at.are low in
    let size : length news ≡ n =
    sym (length-stores_from first news) ∙ ap length c.unwind_stores.ensures.saved ∙ length-events c.args.words.now (stores_from first olds)
    ∙ length-stores_from first olds ∙ row-long words saved c.requires.each from n first at.fits at.are in
    row-patched words saved c.requires.each from n first at.fits at.are news size low
    ∙ ap (λ es. take from undos ++ (es ++ drop (from + n) undos)) (c.unwind_stores.ensures.saved ∙ sym (ap (events_from c.args.words.now) stored))
    ∙ ap (λ k. take from undos ++ (events_from c.args.words.now (take n (drop from undos)) ++ drop k undos)) at.up

pub returns-else-first-ne-NO_WORD-clause-words : goal.returns-else-first-ne-NO_WORD-clause-words
returns-else-first-ne-NO_WORD-clause-words c =
    let at = row (goal.at.returns-else-first-ne-NO_WORD-clause-words c).After-row_before-first in
    let from = c.args.end - c.row_before-first.result.len in
    let is : c.row_before-first.result.first ≡ no_word = omega (arith, c.if-first-ne-NO_WORD.false) in
    let signalled =
    row-signalled c.args.places.now.words c.args.saved.now c.requires.each from (c.args.end - from) _ at.fits at.are is (at.signal is) in
    sym (ap (base_from c.args.words.now) signalled ∙ base-signal c.args.words.now _)

pub returns-else-first-ne-NO_WORD-clause-log : goal.returns-else-first-ne-NO_WORD-clause-log
returns-else-first-ne-NO_WORD-clause-log c =
    let at = row (goal.at.returns-else-first-ne-NO_WORD-clause-log c).After-row_before-first in
    let undos = events_of c.args.places.now.words c.args.saved.now in
    let from = c.args.end - c.row_before-first.result.len in
    let n = c.args.end - from in
    let is : c.row_before-first.result.first ≡ no_word = omega (arith, c.if-first-ne-NO_WORD.false) in
    let signalled = row-signalled c.args.places.now.words c.args.saved.now c.requires.each from n _ at.fits at.are is (at.signal is) in
    let same = ap (events_from c.args.words.now) signalled ∙ events-signal c.args.words.now _ ∙ sym signalled in
    sym (row-split from n c.args.end undos at.up) ∙ sym (ap (λ es. take from undos ++ (es ++ drop c.args.end undos)) same)
