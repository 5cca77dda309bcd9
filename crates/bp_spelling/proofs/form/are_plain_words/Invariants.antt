use Rattle.std.proofs.Common.{◌≡◌, ℕ, ◌<◌, ◌↔◌}
use Rattle.std.specs.List.{slice_index}
use Rattle.bp_layout.specs.Words.{byte_of}
use Rattle.bp_spelling.specs.Places.{IsPlain}
use Rattle.bp_spelling.proofs.form.are_plain_words.Given as goal

abbrev pub invariant-loop-word : goal.invariant-loop-word
invariant-loop-word l = (o : ℕ) → o < 8 → (byte_of l.found o ≡ 0) ↔ ((i : ℕ) → i < l.word-index → IsPlain (byte_of (slice_index l.words i) o))
