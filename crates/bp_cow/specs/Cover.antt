-- The cover of touched words.
use Rattle.std.specs.Prelude.{◌≡◌, ◌≢◌, ℕ, zero, suc, ◌+◌, ◌-◌, ◌/◌, ◌<◌, ◌≤◌, List, [], ◌∷◌, length, take}
use Rattle.bp_layout.specs.Words.{Image, block_count}
use Rattle.bp_changes.specs.Trail.{block_on, trail_of}
use Rattle.bp_layout.specs.Need.{cover_of, copies_of}
use Rattle.bp_layout.specs.WordPaths.{WordPath, is_pointed}
use Rattle.bp_cow.specs.Touched.{run_path, run_end, path_of, word_paths, all_paths}
use Rattle.bp_cow.specs.declared.touched.Run.{Run}
use Rattle.bp_cow.specs.declared.touched.Touched.{Touched}

-- The end paths, which determine the common prefix of all touched paths: for each run the paths of its first and last
-- word, between which its other words lie, and the paths of the words.
abbrev pub end_path_of : List Run → List WordPath → ℕ → WordPath
end_path_of [] paths i = path_of paths i
end_path_of (run ∷ runs) paths zero = run_path run (run.offset / 8)
end_path_of (run ∷ runs) paths (suc zero) = run_path run ((run_end run - 1) / 8)
end_path_of (run ∷ runs) paths (suc (suc i)) = end_path_of runs paths i

abbrev pub ends_of : List Run → ℕ → ℕ
ends_of [] count = count
ends_of (run ∷ runs) count = 2 + ends_of runs count

abbrev pub end_path : Touched → ℕ → WordPath
end_path touched i = end_path_of touched.runs.now (word_paths touched) i

abbrev pub ends : Touched → ℕ
ends touched = ends_of touched.runs.now (length touched.words.now)

-- the first `count` slots of the two paths are equal
pub record BothBegin (path other : WordPath) (count : ℕ) : Type 0 where
  pub here : count ≤ length path
  pub there : count ≤ length other
  pub same : trail_of path count ≡ trail_of other count

-- all end paths begin with the same `count` slots
pub record BeginAlike (touched : Touched) (count : ℕ) : Type 0 where
  pub long : (i : ℕ) → i < ends touched → count ≤ length (end_path touched i)
  pub same : (i : ℕ) → i < ends touched → trail_of (end_path touched i) count ≡ trail_of (end_path touched 0) count

-- the first `count` slots of the path are those with which all end paths begin
abbrev pub BeginsAsEnds : Touched → ℕ → WordPath → Type 0
BeginsAsEnds touched count path = trail_of path count ≡ trail_of (end_path touched 0) count

-- the pointers on the way to the cover lead to blocks of the image
abbrev pub LeadsInside : Image → Touched → Type 0
LeadsInside image touched =
    (d : ℕ) → BeginAlike touched (d + 1) → block_on image (trail_of (end_path touched 0) d) < block_count image

-- `count` is the length of the longest common prefix of all touched paths that exists: no pointer named by a proper
-- prefix of it is null.
pub record CoverHas (image : Image) (touched : Touched) (count : ℕ) : Type 0 where
  pub alike : BeginAlike touched count
  pub exists : (d : ℕ) → d < count → block_on image (trail_of (end_path touched 0) d) ≢ 0
  pub longest : BeginAlike touched (count + 1) → block_on image (trail_of (end_path touched 0) count) ≡ 0

-- the longest path that exists and is a prefix of each touched path
pub record IsCover (image : Image) (touched : Touched) (path : WordPath) : Type 0 where
  pub prefix : path ≡ take (length path) (end_path touched 0)
  pub has : CoverHas image touched (length path)

-- The cover of a commit by its definition; `copied_paths`: the pointers whose blocks it copies; `copied_count`: the
-- number of copies.
abbrev pub commit_cover : Image → Touched → WordPath
commit_cover image touched = cover_of (is_pointed image) (all_paths touched)

abbrev pub copied_paths : Image → Touched → List WordPath
copied_paths image touched = copies_of (is_pointed image) (all_paths touched)

abbrev pub copied_count : Image → Touched → ℕ
copied_count image touched = length (copied_paths image touched)
