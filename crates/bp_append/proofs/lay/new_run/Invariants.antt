use Rattle.std.proofs.Common.{◌≡◌, ℕ, ◌+◌, ◌*◌, ◌<◌, length}
use Rattle.std.specs.List.{slice_index}
use Rattle.bp_layout.specs.Words.{byte_of}
use Rattle.bp_append.specs.Given.{given, run_words}
use Rattle.bp_append.proofs.lay.new_run.Given as goal

abbrev pub invariant-loop-k : goal.invariant-loop-k
invariant-loop-k l = record {
  long : length l.words ≡ run_words;
  done : (k c : ℕ) → k < l.k → c < 8 → byte_of (slice_index l.words k) c ≡ given l.layer.from l.layer.bytes.now (l.start + 8 * k + c);
}
