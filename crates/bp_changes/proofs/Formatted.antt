-- What keeps an image's trees keeps it formatted, and of its version.
use Rattle.std.proofs.Common.{◌≡◌, ℕ, ◌<◌, ◌≤◌, sym, ◌∙◌, ap, subst₂}
use Rattle.bp_limits.specs.Limits.{greatest_height, magic, super_magic, version_at}
use Rattle.bp_layout.specs.Words.{Image, height_of, word}
use Rattle.bp_layout.specs.Formatted.{IsFormatted, version_of}
use Rattle.bp_changes.specs.KeepsTrees.{KeepsTrees}

pub version_stays : (old new : Image) → word new super_magic ≡ word old super_magic → version_of new ≡ version_of old
version_stays old new has_magic = ap version_at has_magic

-- a tree is as high as it was, where it has bytes
pub low_stays : (old new : Image) → word new super_magic ≡ word old super_magic → (one two size : ℕ) → (0 < size → one ≡ two) → (0 < size → height_of two ≤ greatest_height (version_of old)) →
    0 < size → height_of one ≤ greatest_height (version_of new)
low_stays old new has_magic one two size same low some =
    subst₂ (λ r v. height_of r ≤ greatest_height v) (sym (same some)) (sym (version_stays old new has_magic)) (low some)

pub stays_formatted : (old new : Image) → KeepsTrees old new → IsFormatted old → IsFormatted new
stays_formatted old new keeps formatted = record {
  sized = record {
    whole = rw keeps.whole formatted.sized.whole;
    at_least = rw keeps.whole formatted.sized.at_least;
    at_most = rw keeps.whole formatted.sized.at_most;
  };
  has_magic = keeps.has_magic ∙ formatted.has_magic ∙ ap magic (sym (version_stays old new keeps.has_magic));
  counted = keeps.counted ∙ rw keeps.whole formatted.counted;
}
