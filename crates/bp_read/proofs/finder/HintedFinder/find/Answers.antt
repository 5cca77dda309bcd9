use Rattle.std.proofs.Common.{◌≡◌, Some, sym, ◌∙◌, ap₂}
use Rattle.bp_layout.specs.Directory.{slot_named, slot_named_in}
use Rattle.bp_layout.specs.Hints.{IsSlotOf}
use Rattle.bp_layout.proofs.HintLaws.{entry_of_slot, right-same, right-reported}
use Rattle.pm_region.specs.Memory.{current_words}
use Rattle.bp_read.proofs.finder.HintedFinder.find.Goals as goal

pub entry_ino-requires-clause-live : goal.entry_ino-requires-clause-live
entry_ino-requires-clause-live g c =
    let image = current_words (g.R.Region.memory c.args.region.now) in
    let of : IsSlotOf image (c.args.dir, c.args.name.now) c.in-Some.slot = c.requires.right (c.args.dir, c.args.name.now) c.in-Some.slot (sym c.hint.ensures.hint ∙ c.in-Some.is) in
    rw c.requires.size (entry_of_slot image (c.args.dir, c.args.name.now) c.in-Some.slot of).entry.in_size

pub returns-clause-right : goal.returns-clause-right
returns-clause-right g c =
    let image = current_words (g.R.Region.memory c.args.region.now) in
    let named : slot_named image c.args.dir c.args.name.now ≡ Some c.in_ok-found.found.slot =
    ap₂ (λ r s. slot_named_in image r s c.args.name.now) (sym c.requires.root) (sym c.requires.size) ∙ sym c.in_ok-found.ensures.slot in
    right-reported image (g.H.Hints.known c.hint.new.self) (g.H.Hints.known c.learn.new.self) (c.args.dir, c.args.name.now) c.in_ok-found.found.slot c.learn.result
    (right-same image (g.H.Hints.known c.args.self.now.hints.now) (g.H.Hints.known c.hint.new.self) c.requires.right c.hint.ensures.same)
    (record { reached = c.requires.reached; directory = c.requires.directory; named = named })
    c.learn.ensures.learned c.learn.ensures.unlearned
