-- The ways to some words (the paths of the pointers on the way to each), and the search for blocks of the snapshot on
-- them.
use Rattle.std.specs.Prelude.{◌≡◌, ℕ, zero, suc, ◌/◌, ◌≤◌, List, [], ◌∷◌, ◌++◌, length, map, take, Bool, not, ◌&&◌, ◌==◌, if◌then◌else◌}
use Rattle.std.specs.List.{list_any}
use Rattle.bp_limits.specs.Limits.{block_words, super_root}
use Rattle.bp_layout.specs.Inode.{root_of}
use Rattle.bp_layout.specs.Reached.{IsReached}
use Rattle.bp_layout.specs.Thaw.{is_in_snapshot_at}
use Rattle.bp_layout.specs.WordPaths.{WordPath, address, tree_path}
use Rattle.bp_layout.specs.Words.{Image, height_of, word}
use Rattle.bp_changes.specs.Trail.{Trail, trail_of}

-- a number of at most `depth` digits in base 512
abbrev pub HasDigits : ℕ → ℕ → Type 0
HasDigits zero index = index ≡ 0
HasDigits (suc depth) index = HasDigits depth (index / block_words)

-- The path of a word of a reachable tree, at the present heights of the trees.
pub record IsPathIn (image : Image) (most : ℕ → ℕ) (path : WordPath) : Type 0 where
  pub tree : ℕ
  pub depth : ℕ
  pub index : ℕ
  pub reached : IsReached image tree
  pub low : depth ≤ most (height_of (root_of image tree))
  pub few : HasDigits depth index
  pub is : path ≡ tree_path (height_of (word image super_root)) tree depth index

-- the path of a pointer or of a content word
abbrev pub IsWayIn : Image → WordPath → Type 0
IsWayIn image path = IsPathIn image suc path

-- the path of a pointer
abbrev pub IsPointerPath : Image → WordPath → Type 0
IsPointerPath image path = IsPathIn image (λ height. height) path

abbrev pub path_trail : WordPath → Trail
path_trail path = trail_of path (length path)

-- ---- the search

-- a path to the same place is in the list
abbrev pub is_found : Image → List WordPath → WordPath → Bool
is_found image found path = list_any (λ other. address image other == address image path) found

-- the list with the pointers of a path that lead to blocks of the snapshot, up to a depth
abbrev pub found_on : Image → (ℕ → Bool) → List WordPath → WordPath → ℕ → List WordPath
found_on image in_snapshot found path zero = found
found_on image in_snapshot found path (suc depth) =
    if is_in_snapshot_at image in_snapshot (take depth path) && not (is_found image (found_on image in_snapshot found path depth) (take depth path))
    then found_on image in_snapshot found path depth ++ take depth path ∷ [] else found_on image in_snapshot found path depth

abbrev pub found_in : Image → (ℕ → Bool) → List WordPath → List WordPath → List WordPath
found_in image in_snapshot found [] = found
found_in image in_snapshot found (path ∷ paths) = found_in image in_snapshot (found_on image in_snapshot found path (length path)) paths

-- the places of the pointers to the blocks of the snapshot on these ways
abbrev pub places_found : Image → (ℕ → Bool) → List WordPath → List ℕ
places_found image in_snapshot paths = map (address image) (found_in image in_snapshot [] paths)

-- the list of places gets those of the pointers to blocks of the snapshot on this way that it does not have yet
abbrev pub FindsOn : Image → (ℕ → Bool) → WordPath → List ℕ → List ℕ → Type 0
FindsOn image in_snapshot way before after = (found : List WordPath) → before ≡ map (address image) found →
    after ≡ map (address image) (found_on image in_snapshot found way (length way))
