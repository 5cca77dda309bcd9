-- The sizes that count where the first touched word is the size of an inode.
use Rattle.std.proofs.Common.{◌≡◌, ℕ, suc, ◌+◌, ◌*◌, ◌/◌, ◌<◌, ◌==◌, if◌then◌else◌, slice_index, refl, sym, ◌∙◌, ap, arith}
use Rattle.std.proofs.lemmas.Bool.{eq-eqb, ne_eqb}
use Rattle.bp_layout.specs.Inode.{inode_count, root_of, size_of}
use Rattle.bp_layout.specs.Need.{path_number}
use Rattle.bp_layout.specs.Reached.IsReached.{inode_file}
use Rattle.bp_layout.specs.Tree.{IsSound}
use Rattle.bp_layout.specs.WellFormed.{IsWellFormed}
use Rattle.bp_layout.specs.WordPaths.{inode_path}
use Rattle.bp_layout.specs.Words.{Image, height_of}
use Rattle.bp_layout.proofs.TreeLaws.{live_content}
use Rattle.bp_read.proofs.ExistingPaths.{number-digits}
use Rattle.bp_cow.specs.Touched.{path_of, word_paths, word_values}
use Rattle.bp_cow.specs.declared.touched.Touched.{Touched}

-- that of the touched word for its inode, and else those of the image
abbrev pub sizes_with : Image → Touched → ℕ → ℕ
sizes_with image touched t = if t == path_number (path_of (word_paths touched) 0) / 8 then slice_index (word_values touched) 0 else size_of image t

module _ (image : Image) (wf : IsWellFormed image) (i : ℕ) (in_file : i < inode_count image) (touched : Touched) (path_is : path_of (word_paths touched) 0 ≡ inode_path (height_of (root_of image 0)) i 2) where
  inode_is : path_number (path_of (word_paths touched) 0) / 8 ≡ i
  inode_is =
      let low : 8 * (8 * i + 2) < size_of image 0 = omega (arith, in_file) in
      let inodes_sound : IsSound image (root_of image 0) (size_of image 0) = wf.sound 0 inode_file in
      let number : path_number (inode_path (height_of (root_of image 0)) i 2) ≡ 8 * i + 2 =
      number-digits (root_of image 0) (size_of image 0) (suc (height_of (root_of image 0))) (8 * i + 2) inodes_sound.fits (live_content (root_of image 0) (size_of image 0) (8 * i + 2) low) in
      ap (λ p. path_number p / 8) path_is ∙ omega (arith, number)

  pub size_with_here : sizes_with image touched i ≡ slice_index (word_values touched) 0
  size_with_here = rw (eq-eqb i (path_number (path_of (word_paths touched) 0) / 8) (sym inode_is)) refl

  pub size_with_other : (t : ℕ) → (t ≡ i → ⊥) → sizes_with image touched t ≡ size_of image t
  size_with_other t other = rw (ne_eqb t (path_number (path_of (word_paths touched) 0) / 8) (λ e. other (e ∙ inode_is))) refl
