-- Where the live words of an image stand: in live blocks, and no two at one place. So words that are none may be any.
use Rattle.std.proofs.Common.{◌≡◌, ℕ, suc, ◌+◌, ◌*◌, ◌/◌, ◌%◌, ◌<◌, ◌≤◌, refl, sym, ◌∙◌, ap, subst, arith, lt_of_lt_of_le}
use Rattle.bp_limits.proofs.Versions.{fields_most}
use Rattle.bp_layout.specs.Formatted.{version_of}
use Rattle.bp_layout.specs.Words.{Image}
use Rattle.bp_layout.specs.Tree.{node, IsLiveWord, IsLivePointer, HasBlock}
use Rattle.bp_layout.specs.Inode.{root_of, size_of, inode_count, StandsAt}
use Rattle.bp_layout.specs.Reached.{IsReached, IsLiveBlock}
use Rattle.bp_layout.specs.Reached.IsReached.{inode_file}
use Rattle.bp_layout.specs.WellFormed.{IsWellFormed}
use Rattle.bp_changes.specs.Harmless.{IsHarmless}
use Rattle.bp_layout.proofs.TreeLaws.{live_above, live_pointer_word, live_content}
use Rattle.bp_layout.proofs.Reached.{reached-in_file}

-- a live word below the root stands in a block of its tree
pub stands_in_block : (image : Image) (t d k place : ℕ) → StandsAt image t d k place → IsLiveWord (root_of image t) (size_of image t) (suc d) k →
    HasBlock image (root_of image t) (size_of image t) (node image (root_of image t) d (k / 512))
stands_in_block image t d k place stands live = record {
  depth = d;
  index = k / 512;
  pointer = live_above (root_of image t) (size_of image t) d k live;
  named = refl;
  not_null = stands.present;
}

-- two live words at one place are one word
pub record SameWord (t d k u e l : ℕ) : Type 0 where
  pub tree : t ≡ u
  pub depth : d ≡ e
  pub index : k ≡ l

same_place : (a b r s p : ℕ) → r < 512 → s < 512 → 512 * a + r ≡ p → 512 * b + s ≡ p → (a ≡ b) × (r ≡ s)
same_place a b r s p low also at here = (omega arith, omega arith)

same_index : (k l : ℕ) → k / 512 ≡ l / 512 → k % 512 ≡ l % 512 → k ≡ l
same_index k l row column = omega arith

-- Words of two live nodes at one place are one word, live or not.
pub one_place_in_nodes : (image : Image) → IsWellFormed image → (t d k u e l place : ℕ) → IsReached image t → IsReached image u →
    IsLivePointer (root_of image t) (size_of image t) d (k / 512) → IsLivePointer (root_of image u) (size_of image u) e (l / 512) →
    StandsAt image t d k place → StandsAt image u e l place → SameWord t d k u e l
one_place_in_nodes image wf t d k u e l place reached also live lives stands stand =
    let at : (node image (root_of image t) d (k / 512) ≡ node image (root_of image u) e (l / 512)) × (k % 512 ≡ l % 512) = same_place _ _ (k % 512) (l % 512) place (omega arith) (omega arith) stands.at stand.at in
    let tree : t ≡ u = wf.apart t u (node image (root_of image t) d (k / 512)) reached also
    (record { depth = d; index = k / 512; pointer = live; named = refl; not_null = stands.present })
    (record { depth = e; index = l / 512; pointer = lives; named = sym at.0; not_null = stands.present }) in
    let above : IsLivePointer (root_of image t) (size_of image t) e (l / 512) = subst (λ (x : ℕ). IsLivePointer (root_of image x) (size_of image x) e (l / 512)) (sym tree) lives in
    let same : node image (root_of image t) d (k / 512) ≡ node image (root_of image t) e (l / 512) = at.0 ∙ ap (λ (x : ℕ). node image (root_of image x) e (l / 512)) (sym tree) in
    let once : (d ≡ e) × (k / 512 ≡ l / 512) = (wf.sound t reached).once d (k / 512) e (l / 512) live above stands.present same in
    record { tree = tree; depth = once.0; index = same_index k l once.1 at.1 }

pub one_place : (image : Image) → IsWellFormed image → (t d k u e l place : ℕ) → IsReached image t → IsReached image u →
    IsLiveWord (root_of image t) (size_of image t) (suc d) k → IsLiveWord (root_of image u) (size_of image u) (suc e) l →
    StandsAt image t d k place → StandsAt image u e l place → SameWord t d k u e l
one_place image wf t d k u e l place reached also live lives stands stand =
    one_place_in_nodes image wf t d k u e l place reached also (live_above _ _ d k live) (live_above _ _ e l lives) stands stand

-- a word of a block that is not live may be anything
pub free-harmless : (image : Image) → IsWellFormed image → (b s value : ℕ) → 1 ≤ b → s < 512 → (IsLiveBlock image b → ⊥) → IsHarmless image (512 * b + s) value
free-harmless image wf b s value low in_block free =
    let not_live : (t d k : ℕ) → IsReached image t → IsLiveWord (root_of image t) (size_of image t) (suc d) k → StandsAt image t d k (512 * b + s) → ⊥ =
    λ t d k reached live stands. free (record {
      tree = t;
      reached = reached;
      has = subst (HasBlock image (root_of image t) (size_of image t)) (same_place _ b (k % 512) s (512 * b + s) (omega arith) in_block stands.at refl).0 (stands_in_block image t d k _ stands live);
    }) in
    record {
      superblock = λ h. absurd (omega arith);
      pointers = λ t d k reached live stands. absurd (not_live t d k reached (live_pointer_word _ _ (suc d) k live) stands);
      inodes = λ i f reached few read stands.
          let in_file : suc i < inode_count image = reached-in_file image wf (suc i) reached in
          let small : f < 8 = lt_of_lt_of_le few (fields_most (version_of image)) in
          absurd (not_live 0 _ (8 * suc i + f) inode_file (live_content (root_of image 0) (size_of image 0) (8 * suc i + f) (omega (arith, in_file, small))) stands);
      inos = λ i slot reached kind in_size stands. absurd (not_live i _ (32 * slot + 0) reached (live_content _ _ (32 * slot + 0) (omega (arith, in_size))) stands);
      names = λ i slot j f reached names few stands. absurd (not_live i _ (32 * slot + f) reached (live_content _ _ (32 * slot + f) (omega (arith, names.in_size, few))) stands);
      bytes = λ i o reached kind below stands. absurd (not_live i _ (o / 8) reached (live_content _ _ (o / 8) (omega (arith, below))) stands);
    }
