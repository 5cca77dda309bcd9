-- Two touched words.
use Rattle.std.specs.Prelude.{◌≡◌, ◌≢◌, ℕ, suc, ◌+◌, ◌*◌, ◌<◌, ◌≤◌, List, [], ◌∷◌, length, map}
use Rattle.arrayvec.specs.ArrayVec.{ArrayVec}
use Rattle.bp_cow.specs.Touched.{word_paths, word_values}
use Rattle.bp_cow.specs.declared.touched.Touched.{Touched}
use Rattle.bp_cow.specs.declared.touched.TreeSize.{TreeSize}
use Rattle.bp_limits.specs.Limits.{entry_words, max_height, size_field, super_root}
use Rattle.bp_layout.specs.Inode.{root_of, size_of}
use Rattle.bp_layout.specs.Members.{Has}
use Rattle.bp_layout.specs.Reached.{IsReached}
use Rattle.bp_layout.specs.WordPaths.{WordPath, inode_path, tree_path}
use Rattle.bp_layout.specs.Words.{Image, height_of, word}
use Rattle.bp_changes.specs.Forest.{root_trail}
use Rattle.bp_changes.specs.Trail.{trail_of}

-- The path of the inode number of an entry.
abbrev pub ino_path : Image → ℕ → ℕ → WordPath
ino_path image i slot =
    tree_path (height_of (root_of image 0)) i (suc (height_of (root_of image i))) (entry_words * slot + 0)

-- The path of the size word of an inode.
abbrev pub size_path : Image → ℕ → WordPath
size_path image i = inode_path (height_of (root_of image 0)) i size_field

-- The list has two words, in this order, with these paths and these new values.
pub record AreTwo (words : List (ArrayVec ℕ × ℕ)) (first second : WordPath) (one two : ℕ) : Type 0 where
  pub paths : map (λ word. word.0.items) words ≡ first ∷ second ∷ []
  pub values : map (λ word. word.1) words ≡ one ∷ two ∷ []

-- A tree of the image that is reachable and not empty: the path of its root word, its height and its size.
pub record IsSizedTree (image : Image) (t : ℕ) (tree : TreeSize) : Type 0 where
  pub reached : IsReached image t
  pub some : 0 < size_of image t
  pub root : trail_of tree.root.items (length tree.root.items) ≡ root_trail (height_of (word image super_root)) t
  pub height : tree.height ≡ height_of (root_of image t)
  pub low : tree.height ≤ max_height
  pub size : tree.size ≡ size_of image t

-- Each of these is such a tree of the image, and one of those that `Among` admits.
abbrev pub ListsTrees : Image → (ℕ → Type 0) → List TreeSize → Type 0
ListsTrees image Among trees = (tree : TreeSize) → Has trees tree → (t : ℕ) × (Among t × IsSizedTree image t tree)

abbrev pub AnyTree : ℕ → Type 0
AnyTree t = Unit {0}

abbrev pub OtherTree : ℕ → ℕ → Type 0
OtherTree j t = t ≢ j

-- The two words, in this order, are all that is touched, and they get these values. The trees listed with them, which
-- the paths to them may go through, are trees of the image that `Among` admits.
pub record TouchesTwo (image : Image) (Among : ℕ → Type 0) (touched : Touched) (first second : WordPath)
    (one two : ℕ) : Type 0 where
  pub none : touched.runs.now ≡ []
  pub trees : ListsTrees image Among touched.trees.now
  pub paths : word_paths touched ≡ first ∷ second ∷ []
  pub values : word_values touched ≡ one ∷ two ∷ []
