-- An image is a file system where no check of either tree fails, and only there.
use Rattle.std.proofs.Common.{ℕ}
use Rattle.bp_layout.specs.Words.{Image}
use Rattle.bp_layout.specs.Formatted.{IsFormatted}
use Rattle.bp_layout.specs.Trees.{snapshot_of}
use Rattle.bp_layout.specs.Whole.{FailsWhole, IsFileSystem, NoneFailsWhole, second_place}
use Rattle.bp_layout.specs.Whole.FailsWhole.{first, second}
use Rattle.bp_layout.specs.declared.check.Check.{Check}
use Rattle.bp_layout.proofs.ChecksLaws.{none_fails}
use Rattle.bp_layout.proofs.ChecksSuffice.{checks_suffice}
use Rattle.bp_layout.proofs.TreeImages.{snapshot-formatted}

pub none_fails_whole : (image : Image) → IsFileSystem image → (check : Check) (place : ℕ) → FailsWhole image check place → ⊥
none_fails_whole image is check place (first fails) = none_fails image is.first check place fails
none_fails_whole image is check _ (second {place = place} there fails) = none_fails (snapshot_of image) (is.second there) check place fails

pub checks_suffice_whole : (image : Image) → NoneFailsWhole image → IsFormatted image → IsFileSystem image
checks_suffice_whole image none formatted = record {
  first = checks_suffice image (record { none = λ check place fails. none.none check place (first fails) }) formatted;
  second = λ there.
      checks_suffice (snapshot_of image) (record { none = λ check place fails. none.none check (second_place place) (second there fails) })
      (snapshot-formatted image formatted);
}
