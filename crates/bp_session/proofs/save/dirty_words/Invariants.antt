use Rattle.std.proofs.Common.{◌≡◌, ℕ, ◌/◌, ◌<◌, ◌≤◌, true, length}
use Rattle.bp_session.specs.Changed.{is_dirty}
use Rattle.bp_session.proofs.save.dirty_words.Given as goal

-- the blocks so far are dirty
abbrev pub invariant-loop-block : goal.invariant-loop-block
invariant-loop-block l = record {
  dirtied : (k : ℕ) → l.first / 512 ≤ k → k < l.block → is_dirty l.flags k ≡ true;
  more : (k : ℕ) → is_dirty l.fn.flags k ≡ true → is_dirty l.flags k ≡ true;
  size : length l.flags ≡ length l.fn.flags;
}
