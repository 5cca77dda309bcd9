use Rattle.std.proofs.Common.{◌≡◌, drop, vec_len}
use Rattle.bp_layout.specs.Stores.{after_stores}
use Rattle.bp_samples.proofs.images.put.Given as goal

abbrev pub invariant-loop-place : goal.invariant-loop-place
invariant-loop-place l = record {
  words : after_stores l.words.items (drop l.place-index l.stores) ≡ after_stores l.fn.words.items l.stores;
  whole : vec_len l.words ≡ vec_len l.fn.words;
}
