use Rattle.std.proofs.Common.{◌*◌, ◌+◌, ◌<◌, ◌≡◌, ℕ, slice_index, length}
use Rattle.bp_layout.specs.Words.{byte_of}
use Rattle.bp_layout.proofs.entry.Entry.words.Given as goal

abbrev pub invariant-loop-index : goal.invariant-loop-index
invariant-loop-index l = record {
  size : length l.words ≡ 32;
  ino : slice_index l.words 0 ≡ l.self.ino;
  name_length : slice_index l.words 1 ≡ length l.self.name.items;
  done : (k offset : ℕ) → k < l.index → offset < 8 → byte_of (slice_index l.words (2 + k)) offset ≡ slice_index l.self.name.items (8 * k + offset);
}
