-- The trees that a rename lists: what a commit asks of them, also in an image where they stay.
use Rattle.std.proofs.Common.{◌≡◌, ◌≢◌, ℕ, zero, suc, ◌<◌, ◌≤◌, List, [], ◌∷◌, length, sym, ◌∙◌, ap, subst, arith, inl, inr}
use Rattle.bp_layout.specs.Inode.{root_of, size_of}
use Rattle.bp_layout.specs.Members.{Has}
use Rattle.bp_layout.specs.Reached.{IsReached}
use Rattle.bp_layout.specs.Reached.IsReached.{inode_file}
use Rattle.bp_layout.specs.WellFormed.{IsWellFormed}
use Rattle.bp_layout.specs.WordPaths.{inode_path}
use Rattle.bp_layout.specs.Words.{Image, height_of}
use Rattle.bp_limits.specs.Limits.{max_height}
use Rattle.bp_changes.specs.Forest.{root_trail}
use Rattle.bp_changes.specs.Trail.{trail_of}
use Rattle.bp_cow.specs.CanCommit.{IsTreeIn}
use Rattle.bp_cow.specs.declared.touched.TreeSize.{TreeSize}
use Rattle.bp_cow.proofs.RunWrites.{root_path_trail}
use Rattle.bp_rename.specs.TouchesTwo.{AnyTree, IsSizedTree, ListsTrees, OtherTree}

-- the tree of a directory that has entries
pub directory_tree : (image : Image) → IsWellFormed image → (t : ℕ) (tree : TreeSize) → 1 ≤ t → IsReached image t → 0 < size_of image t → tree.root.items ≡ inode_path (height_of (root_of image 0)) t 1 →
    tree.height ≡ height_of (root_of image t) → tree.size ≡ size_of image t → IsSizedTree image t tree
directory_tree image wf zero tree some reached bytes root height size = absurd (omega (arith, some))
directory_tree image wf (suc n) tree some reached bytes root height size = record {
  reached = reached;
  some = bytes;
  root = root_path_trail (height_of (root_of image 0)) n tree.root.items root;
  height = height;
  low = let low : height_of (root_of image (suc n)) ≤ max_height = (wf.sound (suc n) reached).low bytes in omega (arith, height, low);
  size = size;
}

-- the inode file
pub inodes_tree : (image : Image) → IsWellFormed image → (tree : TreeSize) → tree.root.items ≡ [] → tree.height ≡ height_of (root_of image 0) → tree.size ≡ size_of image 0 → IsSizedTree image 0 tree
inodes_tree image wf tree root height size =
    let bytes : 0 < size_of image 0 = omega (arith, wf.some_inodes) in
    record {
      reached = inode_file;
      some = bytes;
      root = ap (λ (p : List ℕ). trail_of p (length p)) root;
      height = height;
      low = let low : height_of (root_of image 0) ≤ max_height = (wf.sound 0 inode_file).low bytes in omega (arith, height, low);
      size = size;
    }

-- ---- lists

pub lists_one : (image : Image) (dir j : ℕ) (first last : TreeSize) → 1 ≤ j → dir ≢ j → IsSizedTree image dir first → IsSizedTree image 0 last → ListsTrees image (OtherTree j) (first ∷ last ∷ [])
lists_one image dir j first last some other one zeroth tree has = go has
  where
    go : Has (first ∷ last ∷ []) tree → (t : ℕ) × (OtherTree j t × IsSizedTree image t tree)
    go (inl e) = (dir, (other, subst (IsSizedTree image dir) e one))
    go (inr (inl e)) = (0, ((λ same. omega (arith, same, some)), subst (IsSizedTree image 0) e zeroth))
    go (inr (inr never)) = absurd never

pub lists_both : (image : Image) (i j : ℕ) (first second last : TreeSize) → IsSizedTree image i first → IsSizedTree image j second → IsSizedTree image 0 last → ListsTrees image AnyTree (first ∷ second ∷ last ∷ [])
lists_both image i j first second last one two zeroth tree has = go has
  where
    go : Has (first ∷ second ∷ last ∷ []) tree → (t : ℕ) × (AnyTree t × IsSizedTree image t tree)
    go (inl e) = (i, (tt, subst (IsSizedTree image i) e one))
    go (inr (inl e)) = (j, (tt, subst (IsSizedTree image j) e two))
    go (inr (inr (inl e))) = (0, (tt, subst (IsSizedTree image 0) e zeroth))
    go (inr (inr (inr never))) = absurd never

-- where no more of the tree counts than its size
pub sized_in : (image : Image) (bound : ℕ → ℕ) (tree : TreeSize) (t : ℕ) → IsSizedTree image t tree → bound t ≤ size_of image t → IsTreeIn image bound tree
sized_in image bound tree t is low = record { number = t; reached = is.reached; root = is.root; height = is.height; counts = omega (arith, low, is.size) }

-- in an image in which the trees and their sizes stay
pub lists_stay : (old new : Image) (Among : ℕ → Type 0) (trees : List TreeSize) → height_of (root_of new 0) ≡ height_of (root_of old 0) →
    ((t : ℕ) → Among t → IsReached old t → 0 < size_of old t → IsReached new t × ((root_of new t ≡ root_of old t) × (size_of new t ≡ size_of old t))) → ListsTrees old Among trees → ListsTrees new Among trees
lists_stay old new Among trees top stays lists tree has = go (lists tree has)
  where
    go : ((t : ℕ) × (Among t × IsSizedTree old t tree)) → (t : ℕ) × (Among t × IsSizedTree new t tree)
    go one =
        let now = stays one.0 one.1.0 one.1.1.reached one.1.1.some in (
          one.0,
          (
            one.1.0,
            record {
              reached = now.0;
              some = omega (arith, now.1.1, one.1.1.some);
              root = one.1.1.root ∙ ap (λ h. root_trail h one.0) (sym top);
              height = one.1.1.height ∙ ap height_of (sym now.1.0);
              low = one.1.1.low;
              size = one.1.1.size ∙ sym now.1.1;
            },
          ),
        )
