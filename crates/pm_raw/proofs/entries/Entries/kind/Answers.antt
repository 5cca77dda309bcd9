use Rattle.std.proofs.Common.{◌≡◌, ◌<◌, ◌∙◌, Some, ap, arith, get_or, length, sym}
use Rattle.std.specs.Prelude.{option_map}
use Rattle.std.proofs.lemmas.List.{get_or_read}
use Rattle.pm_epochs.specs.Kind.{event_kind}
use Rattle.pm_raw.specs.Entries.{Entered, event_of, events_of}
use Rattle.pm_raw.proofs.EntryLaws.{get_or-events_of, length_events, slice_get_read}
use Rattle.pm_raw.proofs.entries.Entries.kind.Goals as goal

pub returns : goal.returns
returns c =
    let entries = c.self.inside in
    let words = entries.words.words in
    let saved = entries.saved.items in
    let counted = c.self.invariant.counted in
    let i = c.args.i in
    let low : i < length words = omega (arith, c.requires.inside, ap (λ (e : Entered). length e.words) c.self.view_is) in
    let read : c.index.result.now ≡ get_or saved i 0 = get_or_read saved i c.index.result.now (omega (arith, low, counted)) c.index.ensures 0 in
    let held = c.args.self.now in
    let event = event_of c.word.result c.index.result.now in
    ap (option_map event_kind) (
    slice_get_read (events_of held.words held.saved) i event (omega (arith, length_events held.words held.saved c.requires.each, c.requires.inside))
    (ap (λ w. event_of w c.index.result.now) c.word.ensures.word
    ∙ ap (event_of (get_or words i 0)) read
    ∙ sym (get_or-events_of words saved i event counted low)
    ∙ ap (λ (e : Entered). get_or (events_of e.words e.saved) i event) c.self.view_is))
    ∙ ap Some (sym c.read_kind.ensures)
