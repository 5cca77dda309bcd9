-- A write below the size of a file touches the words of one run, and prepares nothing.
use Rattle.std.proofs.Common.{◌≡◌, ℕ, suc, ◌+◌, ◌-◌, ◌/◌, ◌<◌, ◌≤◌, min, List, [], ◌∷◌, ◌++◌, length, map, Bool, true, false, refl, sym, ◌∙◌, ap, arith, take}
use Rattle.std.specs.Prelude.{nat_lt, if◌then◌else◌}
use Rattle.std.specs.List.{range_with_len}
use Rattle.std.proofs.lemmas.Bool.{lt-ltb, ltb-true}
use Rattle.std.proofs.lemmas.List.{append-nil}
use Rattle.bp_layout.specs.Inode.{root_of, size_of}
use Rattle.bp_layout.specs.Need.{Change, height_after, content_path, inode_word_path, copied, need, is_there_after, common_all, cover_of, prefixes_of}
use Rattle.bp_layout.specs.Need.Change.{writes}
use Rattle.bp_layout.specs.Need as layout
use Rattle.bp_layout.specs.WordPaths.{WordPath, digits, inode_path, tree_path, is_pointed}
use Rattle.bp_layout.specs.Words.{Image, height_of}
use Rattle.bp_layout.proofs.Finding.{map-same}
use Rattle.bp_cow.specs.declared.touched.Run.{Run}
use Rattle.bp_cow.specs.declared.touched.Touched.{Touched}
use Rattle.bp_cow.specs.Cover.{commit_cover, copied_paths}
use Rattle.bp_cow.proofs.CommonPaths.{existing_same}
use Rattle.bp_cow.specs.Touched.{run_end, run_path, run_paths, paths_of_run, word_paths, all_paths}

pub not_above : (a b : ℕ) → b ≤ a → nat_lt a b ≡ false
not_above a b low = go (nat_lt a b) refl
  where
    go : (x : Bool) → nat_lt a b ≡ x → nat_lt a b ≡ false
    go false e = e
    go true e = absurd (omega (arith, low, ltb-true a b e))

-- ---- a write below the size

module _ (image : Image) (i offset len : ℕ) (below : offset + len ≤ size_of image i) where
  abbrev change : Change
  change = writes i offset len

  inside : nat_lt (size_of image i) (offset + len) ≡ false
  inside = not_above (size_of image i) (offset + len) below

  pub write_height : (t : ℕ) → height_after image change t ≡ height_of (root_of image t)
  write_height t = rw inside refl

  -- it prepares nothing
  pub write_need : need image change ≡ length (copied image change)
  write_need = rw inside (omega arith)

  -- what is touched, by the tests of the definition
  abbrev parts : Bool → ℕ → Bool → List WordPath
  parts starts end past =
      map (content_path image change i) (if starts then range_with_len (offset / 8) (suc ((end - 1) / 8 - offset / 8)) else []) ++ (if past then inode_word_path image change i 2 ∷ [] else [])

  write_touched : 0 < len → layout.touched image change ≡ map (content_path image change i) (range_with_len (offset / 8) (suc ((offset + len - 1) / 8 - offset / 8)))
  write_touched some =
      let starts : nat_lt offset (size_of image i) ≡ true = lt-ltb offset (size_of image i) (omega (arith, below, some)) in
      let end : min (offset + len) (size_of image i) ≡ offset + len = omega (arith, below) in
      ap (λ x. parts x (min (offset + len) (size_of image i)) (nat_lt (size_of image i) (offset + len))) starts
      ∙ ap (λ n. parts true n (nat_lt (size_of image i) (offset + len))) end
      ∙ ap (parts true (offset + len)) inside
      ∙ append-nil (map (content_path image change i) (range_with_len (offset / 8) (suc ((offset + len - 1) / 8 - offset / 8))))

-- ---- the run of such a write

module _ (image : Image) (touched : Touched) (run : Run) (i : ℕ) (one : touched.runs.now ≡ run ∷ []) (none : touched.words.now ≡ []) (root : run.root.items ≡ inode_path (height_of (root_of image 0)) (suc i) 1)
    (height : run.height ≡ height_of (root_of image (suc i))) (some : 0 < length run.bytes.now) (below : run_end run ≤ size_of image (suc i)) where
  abbrev write : Change
  write = writes (suc i) run.offset (length run.bytes.now)

  same_path : (k : ℕ) → run_path run k ≡ content_path image write (suc i) k
  same_path k =
      ap (λ (p : WordPath). p ++ digits (suc run.height) k) root
      ∙ ap (λ h. inode_path (height_of (root_of image 0)) (suc i) 1 ++ digits (suc h) k) height
      ∙ sym (ap (λ h. tree_path h (suc i) (suc (height_after image write (suc i))) k) (write_height image (suc i) run.offset (length run.bytes.now) below 0)
      ∙ ap (λ h. tree_path (height_of (root_of image 0)) (suc i) (suc h) k) (write_height image (suc i) run.offset (length run.bytes.now) below (suc i)))

  same_paths : (from count : ℕ) → map (run_path run) (range_with_len from count) ≡ map (content_path image write (suc i)) (range_with_len from count)
  same_paths from count = map-same (run_path run) (content_path image write (suc i)) from count (λ k low high. same_path k)

  pub run_touched : all_paths touched ≡ layout.touched image write
  run_touched =
      ap (λ r. run_paths r ++ word_paths touched) one
      ∙ ap (λ (words : List WordPath). run_paths (run ∷ []) ++ words) no_words
      ∙ append-nil (run_paths (run ∷ []))
      ∙ append-nil (paths_of_run run)
      ∙ same_paths (run.offset / 8) (suc ((run_end run - 1) / 8 - run.offset / 8))
      ∙ sym (write_touched image (suc i) run.offset (length run.bytes.now) below some)
    where
      no_words : word_paths touched ≡ []
      no_words = rw none refl

-- ---- the cover and the copies of a change

-- Where all paths of the commit are those that the change touches, and a node is there just where a pointer of the common path leads to it, as far as that path exists,
-- the commit has the cover and the copies of the change.
module _ (image : Image) (change : Change) (touched : Touched) (same : all_paths touched ≡ layout.touched image change)
    (agree : (d : ℕ) → d < length (common_all (all_paths touched)) → ((e : ℕ) → e < d → is_pointed image (take e (common_all (all_paths touched))) ≡ true) →
    is_there_after image change (take d (common_all (all_paths touched))) ≡ is_pointed image (take d (common_all (all_paths touched)))) where
  pub change_cover : commit_cover image touched ≡ layout.cover image change
  change_cover =
      sym (existing_same (is_there_after image change) (is_pointed image) [] (common_all (all_paths touched)) agree)
      ∙ ap (λ (paths : List WordPath). cover_of (is_there_after image change) paths) same

  pub change_copies : copied_paths image touched ≡ copied image change
  change_copies =
      ap (λ (path : WordPath). prefixes_of (length path) [] (all_paths touched)) change_cover
      ∙ ap (λ (paths : List WordPath). prefixes_of (length (layout.cover image change)) [] paths) same
