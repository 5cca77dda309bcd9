use Rattle.std.proofs.Common.{ℕ, ◌*◌}
use Rattle.bp_layout.specs.Words.{Image}
use Rattle.bp_layout.specs.EntryWords.{HasWords}
use Rattle.bp_layout.proofs.PartLaws.{SameBelow}
use Rattle.bp_layout.proofs.entry_view.EntryView.is_named.Given as goal

abbrev pub invariant-loop-part : goal.invariant-loop-part
invariant-loop-part l = (image : Image) (root slot : ℕ) → HasWords image root slot l.self.words.now → SameBelow image root slot l.name (8 * l.part)
