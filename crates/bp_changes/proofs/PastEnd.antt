-- A store after the size of a tree is harmless.
use Rattle.std.proofs.Common.{◌≡◌, ℕ, suc, ◌+◌, ◌*◌, ◌/◌, ◌%◌, ◌<◌, ◌≤◌, sym, ◌∙◌, ap, arith, lt_of_lt_of_le}
use Rattle.bp_limits.proofs.Versions.{fields_most}
use Rattle.bp_layout.specs.Formatted.{version_of}
use Rattle.bp_layout.specs.Words.{Image, height_of}
use Rattle.bp_layout.specs.Tree.{IsLiveWord, IsLivePointer}
use Rattle.bp_layout.specs.Inode.{root_of, size_of, inode_count, StandsAt, ContentStandsAt, RootPlace}
use Rattle.bp_layout.specs.Inode.RootPlace.{top, inode}
use Rattle.bp_layout.specs.Reached.{IsReached}
use Rattle.bp_layout.specs.Reached.IsReached.{inode_file}
use Rattle.bp_layout.specs.WellFormed.{IsWellFormed}
use Rattle.bp_changes.specs.Harmless.{IsHarmless}
use Rattle.bp_layout.proofs.TreeLaws.{live_above, live_pointer_word, live_content}
use Rattle.bp_layout.proofs.Reached.{reached-in_file}
use Rattle.bp_changes.proofs.Separation.{SameWord, one_place_in_nodes}
use Rattle.bp_changes.specs.PastEnd.{IsPastEnd}

module _ (image : Image) (wf : IsWellFormed image) (t place value : ℕ) (here : IsReached image t) (past_end : IsPastEnd image (root_of image t) (size_of image t) place value) where
  stands_past_end : StandsAt image t past_end.depth past_end.index place
  stands_past_end = record { present = past_end.present; at = past_end.at }

  same_word : (u e l : ℕ) → IsReached image u → IsLiveWord (root_of image u) (size_of image u) (suc e) l → StandsAt image u e l place → SameWord t past_end.depth past_end.index u e l
  same_word u e l reached live stands =
      one_place_in_nodes image wf t past_end.depth past_end.index u e l place here reached past_end.parent (live_above _ _ e l live) stands_past_end stands

  -- no content word that lies whole below its size
  not_whole : (u k : ℕ) → IsReached image u → 8 * k + 8 ≤ size_of image u → ContentStandsAt image u k place → ⊥
  not_whole u k reached below stands =
      let same = same_word u (height_of (root_of image u)) k reached (live_content _ _ k (omega (arith, below))) stands in
      let bottom : past_end.depth ≡ height_of (root_of image t) = same.depth ∙ ap (λ (x : ℕ). height_of (root_of image x)) (sym same.tree) in
      let size : size_of image t ≡ size_of image u = ap (λ (x : ℕ). size_of image x) same.tree in
      let over = past_end.ends bottom in
      omega (arith, over, size, below, same.index)

  -- and no root word
  pub no_root_past_end : (u : ℕ) → IsReached image u → RootPlace image u place → ⊥
  no_root_past_end u reached (top first two) = past_end.present (omega (arith, past_end.at, two))
  no_root_past_end u reached (inode some stands) =
      let in_file : u < inode_count image = reached-in_file image wf u reached in
      not_whole 0 (8 * u + 1) inode_file (omega (arith, in_file)) stands

  pub past_end_harmless : IsHarmless image place value
  past_end_harmless = record {
    superblock = λ low. absurd (past_end.present (omega (arith, past_end.at, low)));
    pointers = λ u d k reached live stands.
        let same = same_word u d k reached (live_pointer_word _ _ (suc d) k live) stands in
        absurd (past_end.no_pointer (moved u d k same live));
    inodes = λ i f reached few read stands.
        let in_file : suc i < inode_count image = reached-in_file image wf (suc i) reached in
        let low : f < 8 = lt_of_lt_of_le few (fields_most (version_of image)) in
        absurd (not_whole 0 (8 * suc i + f) inode_file (omega (arith, in_file, low)) stands);
    inos = λ i s reached kind in_size stands. absurd (not_whole i (32 * s + 0) reached (omega (arith, in_size)) stands);
    names = λ i s j f reached names few stands. absurd (not_whole i (32 * s + f) reached (omega (arith, names.in_size, few)) stands);
    bytes = λ i o reached kind below stands.
        let same = same_word i (height_of (root_of image i)) (o / 8) reached (live_content _ _ (o / 8) (omega (arith, below))) stands in
        let bottom : past_end.depth ≡ height_of (root_of image t) = same.depth ∙ ap (λ (x : ℕ). height_of (root_of image x)) (sym same.tree) in
        let size : size_of image t ≡ size_of image i = ap (λ (x : ℕ). size_of image x) same.tree in
        past_end.kept (o % 8) bottom (omega arith) (omega (arith, same.index, size, below));
  }
    where
      moved : (u d k : ℕ) → SameWord t past_end.depth past_end.index u d k → IsLivePointer (root_of image u) (size_of image u) (suc d) k → IsLivePointer (root_of image t) (size_of image t) (suc past_end.depth) past_end.index
      moved u d k same live = record {
        level = live.level;
        height = let root : height_of (root_of image t) ≡ height_of (root_of image u) = ap (λ (x : ℕ). height_of (root_of image x)) same.tree in omega (arith, live.height, same.depth, root);
        live = let size : size_of image t ≡ size_of image u = ap (λ (x : ℕ). size_of image x) same.tree in rw (size, same.index) live.live;
      }
