-- Where a way to a word is loose, the blocks to which its pointers lead are not in the snapshot. A word's own block is
-- the last of these.
use Rattle.std.proofs.Common.{◌≡◌, ◌≢◌, ℕ, zero, suc, ◌+◌, ◌-◌, ◌*◌, ◌/◌, ◌%◌, ◌<◌, ◌≤◌, List, [], ◌∷◌, ◌++◌, length, take, filter, Bool, true, false, ◌&&◌, refl, sym, ◌∙◌, ap, subst, arith, append_assoc}
use Rattle.std.specs.List.{range_with_len}
use Rattle.std.proofs.lemmas.Bool.{le-leb, lt-ltb, ne_eqb}
use Rattle.std.proofs.lemmas.List.{length-append}
use Rattle.std.proofs.Math.Seq.{take-append_seam}
use Rattle.bp_layout.specs.Words.{Image, word, block_of, height_of}
use Rattle.bp_layout.specs.Tree.{tree_word, node, span, IsLivePointer, IsSound}
use Rattle.bp_layout.specs.Inode.{root_of, size_of, inode_count}
use Rattle.bp_layout.specs.Nodes.{is_present}
use Rattle.bp_layout.specs.Members.{Has}
use Rattle.bp_layout.specs.Need.{pointed, path_number, prefixes_from}
use Rattle.bp_layout.specs.Reached.{IsReached}
use Rattle.bp_layout.specs.Reached.IsReached.{inode_file}
use Rattle.bp_layout.specs.Thaw.{IsLoose, heights_now, is_in_snapshot_at, is_there_now}
use Rattle.bp_layout.specs.WellFormed.{IsWellFormed}
use Rattle.bp_layout.specs.WordPaths.{WordPath, address, digits, inode_path, tree_path}
use Rattle.bp_layout.specs.Checks.{inode_place}
use Rattle.bp_layout.proofs.Addresses.{IsUnderNodes, address-tree_path, present_above, word-place_of}
use Rattle.bp_layout.proofs.MemberLaws.{has-filter, has-map, has-range}
use Rattle.bp_layout.proofs.Reached.{reached-in_file}
use Rattle.bp_layout.proofs.TreeLaws.{live_above, live_content}
use Rattle.bp_read.proofs.Digits.{length-digits}
use Rattle.bp_read.proofs.ExistingPaths.{node_under, number-digits, reads-inodes, reads-tree}

-- ---- what a loose way says of a prefix of it

filter_none : {A : Type 0} (p : A → Bool) (xs : List A) (x : A) → filter p xs ≡ [] → Has xs x → p x ≡ false
filter_none p xs x none has = go (p x) refl
  where
    go : (b : Bool) → p x ≡ b → p x ≡ false
    go false is = is
    go true is = absurd (subst (λ ys. Has ys x) none (has-filter p xs x has is))

pub loose-prefix : (image : Image) (in_snapshot : ℕ → Bool) (shortest : ℕ) (p : WordPath) (slot : ℕ) (rest : WordPath) → shortest ≤ length p → IsLoose image in_snapshot shortest (p ++ slot ∷ rest) → is_in_snapshot_at image in_snapshot p ≡ false
loose-prefix image in_snapshot shortest p slot rest low loose =
    let long : length (p ++ slot ∷ rest) ≡ length p + suc (length rest) = length-append p (slot ∷ rest) in
    let in_range : Has (range_with_len shortest (length (p ++ slot ∷ rest) - shortest)) (length p) = has-range shortest _ (length p) low (omega (arith, long, low)) in
    filter_none (is_in_snapshot_at image in_snapshot) (prefixes_from shortest (p ++ slot ∷ rest)) p loose
    (subst (Has (prefixes_from shortest (p ++ slot ∷ rest))) (take-append_seam p (slot ∷ rest)) (has-map (λ n. take n (p ++ slot ∷ rest)) (range_with_len shortest (length (p ++ slot ∷ rest) - shortest)) (length p) in_range))

-- ---- the nodes of a tree, by their paths

under_node : (image : Image) (root d k : ℕ) → node image root d k ≢ 0 → IsUnderNodes image root d k
under_node image root zero k present = tt
under_node image root (suc d) k present = present_above image root d k present

-- the word at the path of a pointer is the pointer
pointer_word : (image : Image) (t d k : ℕ) → IsUnderNodes image (word image 2) (suc (height_of (word image 2))) (8 * t + 1) → IsUnderNodes image (root_of image t) d k →
    word image (address image (tree_path (height_of (word image 2)) t d k)) ≡ tree_word image (root_of image t) d k
pointer_word image zero d k above under = ap (word image) (address-tree_path image zero d k above under) ∙ word-place_of image 2 (word image 2) refl d k under
pointer_word image (suc i) d k above under =
    ap (word image) (address-tree_path image (suc i) d k above under)
    ∙ word-place_of image (inode_place image (suc i) 1) (root_of image (suc i)) (word-place_of image 2 (word image 2) refl (suc (height_of (word image 2))) (8 * suc i + 1) above) d k under

-- the last slot on the way to a word of a tree
last_slot : (h t d k : ℕ) → tree_path h t (suc d) k ≡ tree_path h t d (k / 512) ++ k % 512 ∷ []
last_slot h zero d k = refl
last_slot h (suc i) d k = sym (append_assoc (inode_path h (suc i) 1) (digits d (k / 512)) (k % 512 ∷ []))

module _ (image : Image) (wf : IsWellFormed image) where
  node_at : (t d k : ℕ) → IsReached image t → IsLivePointer (root_of image t) (size_of image t) d k → pointed (heights_now image) (tree_path (heights_now image 0) t d k) ≡ node_under image t d k
  node_at zero d k reached live = reads-inodes (heights_now image) image refl (wf.sound 0 inode_file).fits d k live
  node_at (suc i) d k reached live =
      reads-tree (heights_now image) image (suc i) (inode_path (heights_now image 0) (suc i) 1) (length-digits (suc (heights_now image 0)) (8 * suc i + 1)) tree refl (wf.sound (suc i) reached).fits d k live
    where
      inside : suc i < inode_count image
      inside = reached-in_file image wf (suc i) reached

      inodes : IsSound image (root_of image 0) (size_of image 0)
      inodes = wf.sound 0 inode_file

      number : path_number (inode_path (heights_now image 0) (suc i) 1) ≡ 8 * suc i + 1
      number = number-digits (root_of image 0) (size_of image 0) (suc (heights_now image 0)) (8 * suc i + 1) inodes.fits (live_content (root_of image 0) (size_of image 0) (8 * suc i + 1) (omega (arith, inside)))

      tree : path_number (inode_path (heights_now image 0) (suc i) 1) / 8 ≡ suc i
      tree = omega (arith, number)

  present_now : (t d k : ℕ) → IsLivePointer (root_of image t) (size_of image t) d k → node image (root_of image t) d k ≢ 0 → is_present image (root_of image t) (size_of image t) (node_under image t d k).1 ≡ true
  present_now t d k live present =
      let level : live.level ≡ height_of (root_of image t) - d = omega (arith, live.height) in
      let low : height_of (root_of image t) - d ≤ height_of (root_of image t) = omega arith in
      let below : k * span (height_of (root_of image t) - d) < size_of image t = subst (λ l. k * span l < size_of image t) level live.live in
      let depth : height_of (root_of image t) - (height_of (root_of image t) - d) ≡ d = omega (arith, live.height) in
      rw (le-leb _ _ low, lt-ltb _ _ below, depth, ne_eqb _ _ present) refl

  pub inode_under : (t : ℕ) → IsReached image t → IsUnderNodes image (root_of image 0) (suc (height_of (root_of image 0))) (8 * t + 1)
  inode_under t reached =
      let inside : t < inode_count image = reached-in_file image wf t reached in
      wf.full_inode_file _ _ (live_above _ _ (height_of (root_of image 0)) (8 * t + 1) (live_content (root_of image 0) (size_of image 0) (8 * t + 1) (omega (arith, inside))))

  -- what is in the snapshot at the path of a node is the node
  pub kept_node : (in_snapshot : ℕ → Bool) (t d k : ℕ) → IsReached image t → IsLivePointer (root_of image t) (size_of image t) d k → node image (root_of image t) d k ≢ 0 →
      is_in_snapshot_at image in_snapshot (tree_path (heights_now image 0) t d k) ≡ in_snapshot (node image (root_of image t) d k)
  kept_node in_snapshot t d k reached live present =
      let there : is_there_now image (tree_path (heights_now image 0) t d k) ≡ true =
      ap (λ n. is_present image (root_of image n.0) (size_of image n.0) n.1) (node_at t d k reached live) ∙ present_now t d k live present in
      let same : word image (address image (tree_path (heights_now image 0) t d k)) ≡ tree_word image (root_of image t) d k =
      pointer_word image t d k (inode_under t reached) (under_node image (root_of image t) d k present) in
      ap (λ b. b && in_snapshot (block_of (word image (address image (tree_path (heights_now image 0) t d k))))) there ∙ ap (λ w. in_snapshot (block_of w)) same

  -- the block that holds a word of a tree, where the last pointer on the way to it does not lead to a block of the
  -- snapshot
  pub loose_word : (in_snapshot : ℕ → Bool) (t d k : ℕ) → IsReached image t → IsLivePointer (root_of image t) (size_of image t) d (k / 512) → node image (root_of image t) d (k / 512) ≢ 0 →
      IsLoose image in_snapshot (length (tree_path (heights_now image 0) t (suc d) k) - 1) (tree_path (heights_now image 0) t (suc d) k) → in_snapshot (node image (root_of image t) d (k / 512)) ≡ false
  loose_word in_snapshot t d k reached live present loose =
      let path : tree_path (heights_now image 0) t (suc d) k ≡ tree_path (heights_now image 0) t d (k / 512) ++ k % 512 ∷ [] = last_slot (heights_now image 0) t d k in
      let long : length (tree_path (heights_now image 0) t (suc d) k) ≡ length (tree_path (heights_now image 0) t d (k / 512)) + 1 = ap length path ∙ length-append (tree_path (heights_now image 0) t d (k / 512)) (k % 512 ∷ []) in
      sym (kept_node in_snapshot t d (k / 512) reached live present)
      ∙ loose-prefix image in_snapshot (length (tree_path (heights_now image 0) t (suc d) k) - 1) (tree_path (heights_now image 0) t d (k / 512)) (k % 512) [] (omega (arith, long))
      (subst (IsLoose image in_snapshot (length (tree_path (heights_now image 0) t (suc d) k) - 1)) path loose)

  -- the block that holds word f of inode i
  pub loose_inode_word : (in_snapshot : ℕ → Bool) (i f : ℕ) → i < inode_count image → f < 8 → IsLoose image in_snapshot (length (inode_path (heights_now image 0) i f) - 1) (inode_path (heights_now image 0) i f) →
      in_snapshot (node image (root_of image 0) (heights_now image 0) ((8 * i + f) / 512)) ≡ false
  loose_inode_word in_snapshot i f inside few loose =
      let live : IsLivePointer (root_of image 0) (size_of image 0) (heights_now image 0) ((8 * i + f) / 512) =
      live_above _ _ (height_of (root_of image 0)) (8 * i + f) (live_content (root_of image 0) (size_of image 0) (8 * i + f) (omega (arith, inside, few))) in
      loose_word in_snapshot 0 (heights_now image 0) (8 * i + f) inode_file live (wf.full_inode_file _ _ live) loose
