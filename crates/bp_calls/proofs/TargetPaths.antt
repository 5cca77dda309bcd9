-- The ways to the words near which a change stores.
use Rattle.std.proofs.Common.{◌≡◌, ◌≢◌, ◌⊎◌, ℕ, zero, suc, ◌+◌, ◌-◌, ◌*◌, ◌/◌, ◌^◌, ◌<◌, ◌≤◌, List, [], ◌∷◌, ◌++◌, Bool, true, false, nat_lt, ◌&&◌, ◌||◌, if◌then◌else◌, flat_map, take, length, refl, sym, ◌∙◌, ap, ap₂, subst, arith, inl, inr, pow-suc}
use Rattle.std.proofs.lemmas.Bool.{le-ltb, lt-ltb, ltb-true, cases_lt}
use Rattle.std.proofs.lemmas.List.{append-nil, take-take}
use Rattle.std.proofs.Math.Seq.{take-length}
use Rattle.bp_layout.specs.Need.{common_all, cover_of}
use Rattle.bp_cow.proofs.CommonPaths.{Begins, HasExistingPrefix, all-begin, existing}
use Rattle.bp_thaw.specs.Prefixes.{IsPointerPath}
use Rattle.bp_thaw.proofs.PointerPaths.{prefix_path}
use Rattle.bp_layout.proofs.Reached.{reached-in_file}
use Rattle.bp_changes.specs.Effects.{CanUnlink}
use Rattle.bp_layout.specs.Inode.{ContentStandsAt, inode_count, kind_of, root_of, size_of}
use Rattle.bp_layout.specs.Members.{Has}
use Rattle.bp_layout.specs.Need.{Beyond, beyond, is_there_after}
use Rattle.bp_layout.specs.Need.Change.{leaves, resizes}
use Rattle.bp_layout.specs.Reached.{IsReached}
use Rattle.bp_layout.specs.Reached.IsReached.{inode_file}
use Rattle.bp_layout.specs.Thaw.{cover_now, end_path_now, end_targets, heights_now, is_there_now, root_path_now, targets, thawed}
use Rattle.bp_layout.specs.WellFormed.{IsWellFormed}
use Rattle.bp_layout.specs.WordPaths.{WordPath, digits, inode_path, tree_path}
use Rattle.bp_layout.specs.Words.{Image, height_of}
use Rattle.bp_limits.specs.Limits.{max_height}
use Rattle.bp_thaw.specs.Prefixes.{HasDigits, IsWayIn}
use Rattle.bp_layout.specs.Tree.{node, span}
use Rattle.bp_layout.proofs.TreeLaws.{span-is}
use Rattle.bp_layout.proofs.ThawLaws.{loose-on}
use Rattle.bp_read.proofs.LooseWays.{loose_inode_word}
use Rattle.bp_read.proofs.ExistingPaths.{AllThere, content_path-there, cover_of-one, inode_path-there}

-- a directory is not the inode file
pub directory_some : (image : Image) (t : ℕ) → kind_of image t ≡ 2 → 1 ≤ t
directory_some image zero kind = absurd (omega (arith, kind))
directory_some image (suc n) kind = omega arith

-- the path of a word of a reached tree is no longer than a path can be
pub content_fits : (image : Image) → IsWellFormed image → (t offset : ℕ) → IsReached image t → offset < size_of image t → height_of (root_of image 0) + height_of (root_of image t) ≤ 2 * max_height
content_fits image wf t offset reached below =
    let top : height_of (root_of image 0) ≤ max_height = (wf.sound 0 inode_file).low (omega (arith, wf.some_inodes)) in
    let low : height_of (root_of image t) ≤ max_height = (wf.sound t reached).low (omega (arith, below)) in
    omega (arith, top, low)

-- a number has as many digits as its power has
pub few_digits : (d k : ℕ) → k < 512 ^ d → HasDigits d k
few_digits zero k low = omega (arith, low)
few_digits (suc d) k low = few_digits d (k / 512) (let more = rw pow-suc at low in omega (arith, more))

-- the way to a content word of a reached tree
pub content_way : (image : Image) → IsWellFormed image → (t k : ℕ) → IsReached image t → 8 * k < size_of image t → IsWayIn image (tree_path (height_of (root_of image 0)) t (suc (height_of (root_of image t))) k)
content_way image wf t k reached below =
    let fits = (wf.sound t reached).fits in
    record { tree = t; depth = suc (height_of (root_of image t)); index = k; reached = reached; low = omega arith; few = few_digits (suc (height_of (root_of image t))) k (omega (arith, fits, below)); is = refl }

pub there_as : (p q : WordPath → Bool) → ((path : WordPath) → p path ≡ true → q path ≡ true) → (here path : WordPath) → AllThere p here path → AllThere q here path
there_as p q alike here [] all = tt
there_as p q alike here (slot ∷ path) all = (alike here all.0, there_as p q alike (here ++ slot ∷ []) path all.1)

pub or_none : (b : Bool) → ((b || false) || false) ≡ true → b ≡ true
or_none true e = refl
or_none false e = e

or_more : (image : Image) (i s : ℕ) (path : WordPath) → is_there_after image (leaves i s) path ≡ true → is_there_now image path ≡ true
or_more image i s path there = or_none (is_there_now image path) there

-- a word of a reached inode is there
pub inode_path-now : (image : Image) → IsWellFormed image → (i f : ℕ) → IsReached image i → f < 8 → AllThere (is_there_now image) [] (inode_path (height_of (root_of image 0)) i f)
inode_path-now image wf i f reached low =
    there_as (is_there_after image (leaves i 0)) (is_there_now image) (or_more image i 0) [] (inode_path (height_of (root_of image 0)) i f) (inode_path-there image (leaves i 0) wf refl i f reached low)

-- the way to a word of a reached inode
pub inode_way : (image : Image) → IsWellFormed image → (i f : ℕ) → IsReached image i → f < 8 → IsWayIn image (inode_path (height_of (root_of image 0)) i f)
inode_way image wf i f reached low =
    let inside : i < inode_count image = reached-in_file image wf i reached in
    content_way image wf 0 (8 * i + f) inode_file (omega (arith, inside, low))

-- ---- where bytes come after a size

-- the way to the root word of a reached tree
pub root_way : (image : Image) → IsWellFormed image → (t : ℕ) → IsReached image t → IsWayIn image (root_path_now image t)
root_way image wf t reached = record { tree = t; depth = 0; index = 0; reached = reached; low = omega arith; few = refl; is = refl }

-- one of two paths, by two tests
way_by : (image : Image) (a b : Bool) (deep root : WordPath) → (b ≡ true → IsWayIn image deep) → IsWayIn image root → IsWayIn image (if a && b then deep else root)
way_by image true true deep root below above = below refl
way_by image true false deep root below above = above
way_by image false b deep root below above = above

-- the way to its end: to the word of the byte at its size, or to the root word
pub end_way : (image : Image) → IsWellFormed image → (t : ℕ) → IsReached image t → IsWayIn image (end_path_now image t)
end_way image wf t reached =
    way_by image (nat_lt 0 (size_of image t)) (nat_lt (size_of image t) (span (heights_now image t))) _ _
    (λ below. let less : size_of image t < span (heights_now image t) = ltb-true _ _ below in
    let wide = span-is (heights_now image t) in
    let next = pow-suc 512 (heights_now image t) in
    record { tree = t; depth = suc (heights_now image t); index = size_of image t / 8; reached = reached; low = omega arith; few = few_digits (suc (heights_now image t)) (size_of image t / 8) (omega (arith, less, wide, next)); is = refl })
    (root_way image wf t reached)

-- the path of a word, after that of its tree's root word
root_then : (h t d k : ℕ) → tree_path h t 0 0 ++ digits d k ≡ tree_path h t d k
root_then h zero d k = refl
root_then h (suc i) d k = ap (λ (p : WordPath). p ++ digits d k) (append-nil (inode_path h (suc i) 1))

-- and of another
pub end_below_root : (image : Image) (t root size : ℕ) → root ≡ root_of image t → size ≡ size_of image t → size ≢ 0 → size < span (height_of root) →
    root_path_now image t ++ digits (suc (height_of root)) (size / 8) ≡ end_path_now image t
end_below_root image t root size is long some below =
    let more : nat_lt 0 (size_of image t) ≡ true = lt-ltb 0 (size_of image t) (omega (arith, some, long)) in
    let less : nat_lt (size_of image t) (span (heights_now image t)) ≡ true = lt-ltb _ _ (subst (λ s. s < span (heights_now image t)) long (subst (λ r. size < span (height_of r)) is below)) in
    ap₂ (λ r s. root_path_now image t ++ digits (suc (height_of r)) (s / 8)) is long
    ∙ root_then (heights_now image 0) t (suc (heights_now image t)) (size_of image t / 8) ∙ rw (more, less) refl

-- ---- a cover

-- the path of a pointer is the way to it
pub pointer_way : (image : Image) (path : WordPath) → IsPointerPath image path → IsWayIn image path
pointer_way image path of = record { tree = of.tree; depth = of.depth; index = of.index; reached = of.reached; low = omega (arith, of.low); few = of.few; is = of.is }

-- a prefix of a way, or all of it, is one
prefix_way : (image : Image) → IsWellFormed image → (path : WordPath) (n : ℕ) → IsWayIn image path → n ≤ length path → IsWayIn image (take n path)
prefix_way image wf path n way low = go (cases_lt n (length path))
  where
    go : (n < length path) ⊎ (length path ≤ n) → IsWayIn image (take n path)
    go (inl less) = pointer_way image (take n path) (prefix_path image wf path n way less)
    go (inr most) =
        let all : n ≡ length path = omega (arith, low, most) in
        subst (IsWayIn image) (sym (ap (λ m. take m path) all ∙ take-length path)) way

-- so is the cover of some ways, of which this is one
pub cover_way : (image : Image) → IsWellFormed image → (paths : List WordPath) (path : WordPath) → Has paths path → IsWayIn image path → IsWayIn image (cover_of (is_there_now image) paths)
cover_way image wf paths path among way =
    subst (IsWayIn image) (sym (far.is ∙ part)) (prefix_way image wf path far.count way (omega (arith, far.far.low, begins.long)))
  where
    begins : Begins (common_all paths) path
    begins = all-begin paths path among

    far : HasExistingPrefix (is_there_now image) [] (common_all paths)
    far = existing (is_there_now image) [] (common_all paths)

    part : take far.count (common_all paths) ≡ take far.count path
    part = ap (take far.count) (sym begins.same) ∙ take-take far.count (length (common_all paths)) path far.far.low

-- ---- where a name leaves

module _ (image : Image) (wf : IsWellFormed image) (i s j : ℕ) (can : CanUnlink image i s j) where
  abbrev entry : WordPath
  entry = tree_path (height_of (root_of image 0)) i (suc (height_of (root_of image i))) (32 * s + 0)

  whole : AllThere (is_there_now image) [] entry
  whole = there_as (is_there_after image (leaves i s)) (is_there_now image) (λ path there. or_none (is_there_now image path) there) [] entry
      (content_path-there image (leaves i s) wf refl i (32 * s + 0) can.reached refl (wf.full_directories i can.reached can.entry.directory) (let low = can.entry.in_size in omega (arith, low)))

  pub leaving_cover : cover_now image (leaves i s) ≡ entry
  leaving_cover = cover_of-one (is_there_now image) entry whole

  pub leaving_targets : targets image (leaves i s) ≡ entry ∷ []
  leaving_targets = ap (λ (p : WordPath). p ∷ []) leaving_cover

  pub leaving_ways : (path : WordPath) → Has (targets image (leaves i s)) path → IsWayIn image path
  leaving_ways path has = go (subst (λ ps. Has ps path) leaving_targets has)
    where
      go : Has (entry ∷ []) path → IsWayIn image path
      go (inl e) = subst (IsWayIn image) e (content_way image wf i (32 * s + 0) can.reached (let low = can.entry.in_size in omega (arith, low)))
      go (inr never) = absurd never

-- ---- where a file gets no bytes more

module _ (image : Image) (wf : IsWellFormed image) (i size : ℕ) (reached : IsReached image i) (smaller : size ≤ size_of image i) where
  abbrev size_way : WordPath
  size_way = inode_path (height_of (root_of image 0)) i 2

  none_beyond : beyond image (resizes i size) ≡ []
  none_beyond = rw (le-ltb (size_of image i) size smaller) refl

  shrinking_whole : AllThere (is_there_now image) [] size_way
  shrinking_whole = inode_path-now image wf i 2 reached (omega arith)

  pub shrinking_cover : cover_now image (resizes i size) ≡ size_way
  shrinking_cover = cover_of-one (is_there_now image) size_way shrinking_whole

  pub shrinking_targets : targets image (resizes i size) ≡ size_way ∷ []
  shrinking_targets =
      ap (λ (bs : List Beyond). cover_now image (resizes i size) ∷ flat_map (end_targets image) (bs ++ []) ++ []) none_beyond ∙ ap (λ (p : WordPath). p ∷ []) shrinking_cover

  pub shrinking_ways : (path : WordPath) → Has (targets image (resizes i size)) path → IsWayIn image path
  shrinking_ways path has = go (subst (λ ps. Has ps path) shrinking_targets has)
    where
      go : Has (size_way ∷ []) path → IsWayIn image path
      go (inl e) = subst (IsWayIn image) e (inode_way image wf i 2 reached (omega arith))
      go (inr never) = absurd never

  -- where nothing is left to thaw the block of its size is not in the snapshot
  pub shrinking_loose : (in_snapshot : ℕ → Bool) (place : ℕ) → ContentStandsAt image 0 (8 * i + 2) place → thawed image in_snapshot (resizes i size) ≡ [] → in_snapshot (place / 512) ≡ false
  shrinking_loose in_snapshot place stands clear =
      let inside : i < inode_count image = reached-in_file image wf i reached in
      let among : Has (targets image (resizes i size)) size_way = subst (λ ps. Has ps size_way) (sym shrinking_targets) (inl refl) in
      let here : node image (root_of image 0) (height_of (root_of image 0)) ((8 * i + 2) / 512) ≡ place / 512 = omega (arith, stands.at) in
      ap in_snapshot (sym here) ∙ loose_inode_word image wf in_snapshot i 2 inside (omega arith) (loose-on image in_snapshot (targets image (resizes i size)) clear size_way among (length size_way - 1))
