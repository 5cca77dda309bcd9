-- What the first image reaches, one with the same meaning reaches too.
use Rattle.std.proofs.Common.{◌≡◌, ℕ, zero, suc, ◌<◌, ◌∙◌, arith, le_trans}
use Rattle.bp_layout.specs.Words.{Image}
use Rattle.bp_layout.specs.Inode.{kind_of, size_of}
use Rattle.bp_layout.specs.Directory.{EntryNames}
use Rattle.bp_layout.specs.Reached.{IsReached}
use Rattle.bp_changes.specs.KeepsTrees.{KeepsTrees}
use Rattle.bp_changes.specs.SameMeaning.{SameMeaning}
use Rattle.bp_changes.proofs.SameEntries as entries
use Rattle.bp_changes.proofs.SameMeaning.{same_inos}

module _ (old new : Image) (same : SameMeaning old new) where
  -- each entry stays
  pub names_on : (i slot j : ℕ) → IsReached old i → EntryNames old i slot j → EntryNames new i slot j
  names_on = entries.names_on old new (same_inos old new same)

  -- and each inode that is reached
  pub reached_on : (t : ℕ) → IsReached old t → IsReached new t
  reached_on = entries.reached_on old new (same_inos old new same)

-- what keeps the trees of an image keeps those of one with the same meaning
pub trees_over : (old mid new : Image) → SameMeaning old mid → KeepsTrees mid new → KeepsTrees old new
trees_over old mid new same trees = record {
  whole = trees.whole ∙ same.trees.whole;
  has_magic = trees.has_magic ∙ same.trees.has_magic;
  counted = trees.counted ∙ same.trees.counted;
  low = λ t r. trees.low t (reached_on old mid same t r);
  sound = λ t r. trees.sound t (reached_on old mid same t r);
  apart = λ t u b r q. trees.apart t u b (reached_on old mid same t r) (reached_on old mid same u q);
  full_inode_file = trees.full_inode_file;
  full_directories = λ i r kind. trees.full_directories i (reached_on old mid same i r) (same.kind i r ∙ kind);
}

-- the same meaning, twice
pub meaning_on : (first second third : Image) → SameMeaning first second → SameMeaning second third → SameMeaning first third
meaning_on first second third one two = record {
  trees = trees_over first second third one two.trees;
  kind = λ t r. two.kind t (reached_on first second one t r) ∙ one.kind t r;
  attributes = λ t r. two.attributes t (reached_on first second one t r) ∙ one.attributes t r;
  size = λ i r. two.size i (reached_on first second one (suc i) r) ∙ one.size i r;
  inode_blocks = two.inode_blocks;
  inodes = le_trans one.inodes two.inodes;
  ino = λ i s r kind low.
      two.ino i s (reached_on first second one i r) (one.kind i r ∙ kind) (rw ((same_inos first second one).count i r kind) low)
      ∙ one.ino i s r kind low;
  entry = λ i s j f r n few. two.entry i s j f (reached_on first second one i r) (names_on first second one i s j r n) few ∙ one.entry i s j f r n few;
  bytes = λ i o r kind low. two.bytes i o (reached_on first second one i r) (one.kind i r ∙ kind) (in_file i o r kind low) ∙ one.bytes i o r kind low;
}
  where
    in_file : (i o : ℕ) → IsReached first i → kind_of first i ≡ 1 → o < size_of first i → o < size_of second i
    in_file zero o r kind low = absurd (omega (arith, kind))
    in_file (suc i) o r kind low = rw (one.size i r) low
