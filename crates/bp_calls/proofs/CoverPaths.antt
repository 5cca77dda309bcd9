-- The path of a cover: a prefix of each of the paths that it covers, which is there wholly.
use Rattle.std.proofs.Common.{◌≡◌, ℕ, suc, ◌+◌, ◌-◌, ◌/◌, ◌<◌, List, [], ◌∷◌, ◌++◌, Bool, true, min, nat_lt, if◌then◌else◌, take, length, map, refl, sym, ◌∙◌, ap, subst, arith, inl}
use Rattle.std.specs.List.{range_with_len}
use Rattle.std.proofs.lemmas.Bool.{lt-ltb}
use Rattle.std.proofs.lemmas.List.{length-take, take-take}
use Rattle.bp_cow.proofs.CommonPaths.{Begins, HasExistingPrefix, all-begin, existing}
use Rattle.bp_layout.specs.Inode.{root_of, size_of}
use Rattle.bp_layout.specs.Members.{Has}
use Rattle.bp_layout.specs.Need.{common_all, content_path_at, cover_of, touched_at}
use Rattle.bp_layout.specs.Need.Change.{writes}
use Rattle.bp_layout.specs.Thaw.{cover_now, heights_now, is_there_now}
use Rattle.bp_layout.specs.WordPaths.{WordPath, inode_path, tree_path}
use Rattle.bp_layout.specs.Words.{Image, height_of}

module _ (there : WordPath → Bool) (paths : List WordPath) where
  far : HasExistingPrefix there [] (common_all paths)
  far = existing there [] (common_all paths)

  size : length (cover_of there paths) ≡ far.count
  size = ap (λ (p : WordPath). length p) far.is ∙ length-take far.count (common_all paths) ∙ omega (arith, far.far.low)

  -- each pointer on the way to it is there
  pub cover_there : (depth : ℕ) → depth < length (cover_of there paths) → there (take depth (cover_of there paths)) ≡ true
  cover_there depth low =
      let less : depth < far.count = omega (arith, low, size) in
      ap (λ (p : WordPath). there (take depth p)) far.is ∙ ap there (take-take depth far.count (common_all paths) (omega (arith, less))) ∙ far.far.exists depth less

  pub cover_prefix : (path : WordPath) → Has paths path → take (length (cover_of there paths)) path ≡ cover_of there paths
  cover_prefix path among =
      let begins : Begins (common_all paths) path = all-begin paths path among in
      ap (λ n. take n path) size ∙ sym (take-take far.count (length (common_all paths)) path far.far.low) ∙ ap (take far.count) begins.same ∙ sym far.is

-- what bytes below a size touch: first the word of the first of them
writes_first : (image : Image) (i offset len : ℕ) → offset < size_of image i → Has (touched_at (heights_now image) image (writes i offset len)) (content_path_at (heights_now image) i (offset / 8))
writes_first image i offset len low = subst (λ starts. Has (touched_by starts) (content_path_at (heights_now image) i (offset / 8))) (sym (lt-ltb offset (size_of image i) low)) (inl refl)
  where
    touched_by : Bool → List WordPath
    touched_by starts =
        map (content_path_at (heights_now image) i) (if starts then range_with_len (offset / 8) (suc ((min (offset + len) (size_of image i) - 1) / 8 - offset / 8)) else [])
        ++ (if nat_lt (size_of image i) (offset + len) then inode_path (heights_now image 0) i 2 ∷ [] else [])

pub writes_prefix : (image : Image) (i offset len : ℕ) → offset < size_of image i →
    take (length (cover_now image (writes i offset len))) (tree_path (height_of (root_of image 0)) i (suc (height_of (root_of image i))) (offset / 8)) ≡ cover_now image (writes i offset len)
writes_prefix image i offset len low =
    cover_prefix (is_there_now image) (touched_at (heights_now image) image (writes i offset len)) (content_path_at (heights_now image) i (offset / 8)) (writes_first image i offset len low)

pub writes_there : (image : Image) (i offset len depth : ℕ) → depth < length (cover_now image (writes i offset len)) → is_there_now image (take depth (cover_now image (writes i offset len))) ≡ true
writes_there image i offset len depth low = cover_there (is_there_now image) (touched_at (heights_now image) image (writes i offset len)) depth low
