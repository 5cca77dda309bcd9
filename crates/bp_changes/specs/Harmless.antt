-- Which values may be stored at a place of an image without a change of its meaning.
use Rattle.std.specs.Prelude.{◌≡◌, ℕ, suc, ◌+◌, ◌*◌, ◌/◌, ◌%◌, ◌<◌, ◌≤◌, length}
use Rattle.bp_limits.specs.Limits.{entry_words, inode_fields, inode_words, super_size}
use Rattle.bp_layout.specs.Words.{Image, word, byte_of}
use Rattle.bp_layout.specs.Formatted.{version_of}
use Rattle.bp_layout.specs.Tree.{IsLivePointer}
use Rattle.bp_layout.specs.Inode.{ContentStandsAt, IsDirectory, IsFile, StandsAt, root_of, size_of}
use Rattle.bp_layout.specs.Directory.{EntryNames, entry_count}
use Rattle.bp_layout.specs.Reached.{IsReached}

pub record IsHarmless (image : Image) (place value : ℕ) : Type 0 where
  pub superblock : place ≤ super_size → value ≡ word image place
  pub pointers : (t d k : ℕ) → IsReached image t → IsLivePointer (root_of image t) (size_of image t) (suc d) k →
      StandsAt image t d k place → value ≡ word image place
  -- an inode's kind and size, its root word if it has bytes, and in version 3 its attributes
  pub inodes : (i f : ℕ) → IsReached image (suc i) → f < inode_fields (version_of image) → (f ≡ 1 → 0 < size_of image (suc i)) →
      ContentStandsAt image 0 (inode_words * suc i + f) place → value ≡ word image place
  pub inos : (i s : ℕ) → IsReached image i → IsDirectory image i → s < entry_count image i →
      ContentStandsAt image i (entry_words * s + 0) place → value ≡ word image place
  pub names : (i s j f : ℕ) → IsReached image i → EntryNames image i s j → f < entry_words →
      ContentStandsAt image i (entry_words * s + f) place → value ≡ word image place
  pub bytes : (i o : ℕ) → IsReached image i → IsFile image i → o < size_of image i →
      ContentStandsAt image i (o / 8) place → byte_of value (o % 8) ≡ byte_of (word image place) (o % 8)

-- each word of the second image may be stored in the first without a change of meaning
pub record Agrees (old new : Image) : Type 0 where
  pub whole : length new ≡ length old
  pub each : (place : ℕ) → IsHarmless old place (word new place)
