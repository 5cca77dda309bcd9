-- What is known of a word path at a slot on the way.
use Rattle.std.proofs.Common.{◌≢◌, ℕ, ◌<◌, List, length, drop}
use Rattle.std.proofs.Math.Seq.{drop-cons}
use Rattle.bp_layout.specs.Words.{Image, word, block_of, block_count}
use Rattle.bp_layout.specs.WordPaths.{ExistsFrom}
use Rattle.bp_read.specs.Paths.{IsInRangeFrom}

pub record LeadsOn (image : Image) (place : ℕ) : Type 0 where
  pub present : block_of (word image place) ≢ 0
  pub in_range : block_of (word image place) < block_count image

pub leads_on : (image : Image) (place i : ℕ) (path : List ℕ) → i < length path → ExistsFrom image place (drop i path) → IsInRangeFrom image place (drop i path) → LeadsOn image place
leads_on image place i path more exists in_range =
    let there = rw (drop-cons path i 0 more) at exists in
    let inside = rw (drop-cons path i 0 more) at in_range in
    record { present = there.0; in_range = inside.0 }
