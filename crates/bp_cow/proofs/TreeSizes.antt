-- Trees that are given with their sizes.
use Rattle.std.proofs.Common.{◌≡◌, ℕ, suc, ◌≤◌, [], length, sym, ◌∙◌, ap, arith}
use Rattle.bp_layout.specs.Inode.{root_of, size_of}
use Rattle.bp_layout.specs.Reached.{IsReached}
use Rattle.bp_layout.specs.Reached.IsReached.{inode_file}
use Rattle.bp_layout.specs.WordPaths.{inode_path, WordPath}
use Rattle.bp_layout.specs.Words.{Image, word, height_of}
use Rattle.bp_changes.specs.Forest.{root_trail}
use Rattle.bp_changes.specs.Trail.{trail_of}
use Rattle.bp_cow.specs.declared.touched.TreeSize.{TreeSize}
use Rattle.bp_cow.specs.CanCommit.{IsTreeIn}
use Rattle.bp_cow.proofs.RunWrites.{root_path_trail}

-- the tree of an inode
pub inode_tree : (image : Image) (n : ℕ) (tree : TreeSize) → IsReached image (suc n) → tree.root.items ≡ inode_path (height_of (root_of image 0)) (suc n) 1 → tree.height ≡ height_of (root_of image (suc n)) →
    tree.size ≡ size_of image (suc n) → IsTreeIn image (size_of image) tree
inode_tree image n tree reached root height size = record {
  number = suc n;
  reached = reached;
  root = root_path_trail (height_of (root_of image 0)) n tree.root.items root;
  height = height;
  counts = omega (arith, size);
}

-- the inode file
pub file_tree : (image : Image) (tree : TreeSize) → tree.root.items ≡ [] → tree.height ≡ height_of (root_of image 0) → tree.size ≡ size_of image 0 → IsTreeIn image (size_of image) tree
file_tree image tree root height size = record {
  number = 0;
  reached = inode_file;
  root = ap (λ (p : WordPath). trail_of p (length p)) root;
  height = height;
  counts = omega (arith, size);
}

-- a preparation leaves a tree that it does not make higher or longer
pub tree_stays : (old new : Image) (bound : ℕ → ℕ) (tree : TreeSize) (at : IsTreeIn old (size_of old) tree) → IsReached new at.number → height_of (word new 2) ≡ height_of (word old 2) →
    height_of (root_of new at.number) ≡ height_of (root_of old at.number) → bound at.number ≤ size_of old at.number → IsTreeIn new bound tree
tree_stays old new bound tree at reached top height low = record {
  number = at.number;
  reached = reached;
  root = at.root ∙ ap (λ h. root_trail h at.number) (sym top);
  height = at.height ∙ sym height;
  counts = omega (arith, low, at.counts);
}
