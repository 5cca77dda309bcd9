-- Where the words of live trees stand, after one of them was stored to too: in live blocks, at the places that their paths name.
use Rattle.std.proofs.Common.{◌≡◌, ℕ, Bool, false, suc, ◌+◌, ◌*◌, ◌/◌, ◌%◌, ◌<◌, List, None, set, refl, sym, ◌∙◌, ap, arith, inl, inr, get_or-set_other}
use Rattle.bp_layout.specs.Inode.{ContentStandsAt, kind_of, root_of, size_of, inode_count}
use Rattle.bp_layout.specs.Reached.{IsReached, IsLiveBlock}
use Rattle.bp_layout.specs.Reached.IsReached.{inode_file}
use Rattle.bp_layout.specs.Tree.{node}
use Rattle.bp_layout.specs.WellFormed.{IsWellFormed}
use Rattle.bp_layout.specs.WordPaths.{address, inode_path, tree_path}
use Rattle.bp_layout.specs.Words.{Image, word, height_of}
use Rattle.bp_layout.proofs.Addresses.{address_from-digits, address-tree_path}
use Rattle.bp_changes.proofs.ContentStore.{word-elsewhere}
use Rattle.bp_layout.proofs.Reached.{reached-in_file}
use Rattle.bp_layout.proofs.TreeLaws.{KeepsPointers, node-kept, live_content, live_pointer_word}
use Rattle.bp_changes.specs.Performs.{IsOpen}
use Rattle.bp_changes.specs.Performs.IsOpen.{in_live}
use Rattle.pm_epochs.specs.May.{AnyAt, EachMay}
use Rattle.bp_layout.specs.Directory.{empty_slot}
use Rattle.bp_layout.specs.Need.{cover}
use Rattle.bp_layout.specs.Need.Change.{enters}
use Rattle.bp_layout.specs.Need.Entrant.{linked}
use Rattle.bp_calls.proofs.NeedLaws.{cover_past_end}
use Rattle.bp_calls.proofs.Trees.{live_leaf}

-- a content word of a live leaf stands in a live block
pub content_live : (image : Image) (t k place : ℕ) → IsReached image t → 4096 * (k / 512) < size_of image t → ContentStandsAt image t k place → IsLiveBlock image (place / 512)
content_live image t k place reached below stands =
    let named : node image (root_of image t) (height_of (root_of image t)) (k / 512) ≡ place / 512 = omega (arith, stands.at) in
    record {
      tree = t;
      reached = reached;
      has = record { depth = height_of (root_of image t); index = k / 512; pointer = live_leaf _ _ _ below; named = named; not_null = λ null. stands.present (named ∙ null) };
    }

-- where that is not in the snapshot a call may store there
pub content_open : {in_snapshot : ℕ → Bool} (image : Image) (taken : List ℕ) (t k place : ℕ) → IsReached image t → 4096 * (k / 512) < size_of image t → ContentStandsAt image t k place → in_snapshot (place / 512) ≡ false → IsOpen image in_snapshot taken place
content_open image taken t k place reached below stands loose = in_live (content_live image t k place reached below stands) loose

-- fewer values may stand
pub each_weaker : (Inside Wider : ℕ → Type 0) (old new : List ℕ) → ((p : ℕ) → Inside p → Wider p) → EachMay (AnyAt Inside) old new → EachMay (AnyAt Wider) old new
each_weaker Inside Wider old new wider all = record { size = all.size; each = λ p. elim (all.each p) [ inl same ↦ inl same | inr may ↦ inr (wider p may) ] }

-- ---- a content word of a reached tree is stored to

module _ (old : Image) (wf : IsWellFormed old) (t k place value : ℕ) (reached : IsReached old t) (below : 8 * k < size_of old t) (stands : ContentStandsAt old t k place) where
  -- it is no pointer
  tree_stays : KeepsPointers old (set old place value) (root_of old t) (size_of old t)
  tree_stays = record {
    kept = λ d l live. word-elsewhere old wf t (height_of (root_of old t)) k place value reached (live_content _ _ k below) stands t d l reached (live_pointer_word _ _ (suc d) l live)
        (λ same. omega (arith, live.height, same.depth));
  }

  leaf_below : 4096 * (k / 512) < size_of old t
  leaf_below = omega (arith, below)

  pub root_word_stays : root_of (set old place value) 0 ≡ root_of old 0
  root_word_stays = get_or-set_other old place 2 value 0 (λ e. stands.present (omega (arith, stands.at, e)))

  -- and it stands where it stood
  pub stands_stored : root_of (set old place value) t ≡ root_of old t → ContentStandsAt (set old place value) t k place
  stands_stored root =
      let leaf : node (set old place value) (root_of (set old place value) t) (height_of (root_of (set old place value) t)) (k / 512) ≡ node old (root_of old t) (height_of (root_of old t)) (k / 512) =
      ap (λ r. node (set old place value) r (height_of r) (k / 512)) root
      ∙ node-kept old (set old place value) (root_of old t) (size_of old t) tree_stays (height_of (root_of old t)) (k / 512) (live_leaf (root_of old t) (size_of old t) (k / 512) leaf_below) in
      record { present = λ null. stands.present (sym leaf ∙ null); at = ap (λ b. 512 * b + k % 512) leaf ∙ stands.at }

-- ---- paths

module _ (image : Image) where
  -- a word of the inode file
  pub inode_address : (i f place : ℕ) → ContentStandsAt image 0 (8 * i + f) place → address image (inode_path (height_of (root_of image 0)) i f) ≡ place
  inode_address i f place stands = address_from-digits image 2 (word image 2) refl (suc (height_of (word image 2))) (8 * i + f) stands.present ∙ stands.at

  -- a content word of a reached tree
  pub content_address : IsWellFormed image → (t k place : ℕ) → IsReached image t → ContentStandsAt image t k place →
      address image (tree_path (height_of (root_of image 0)) t (suc (height_of (root_of image t))) k) ≡ place
  content_address wf t k place reached stands =
      let in_file : t < inode_count image = reached-in_file image wf t reached in
      address-tree_path image t (suc (height_of (root_of image t))) k (wf.full_inode_file _ _ (live_leaf (root_of image 0) (size_of image 0) ((8 * t + 1) / 512) (omega (arith, in_file)))) stands.present ∙ stands.at

-- where no entry of a directory is empty, the cover of a new name is the word of its size, also once it has another value there
pub size_covered : (image mid : Image) (i place value : ℕ) → IsWellFormed image → IsWellFormed mid → root_of mid 0 ≡ root_of image 0 → IsReached image i → IsReached mid i → kind_of image i ≡ 2 → empty_slot image i ≡ None →
    ContentStandsAt mid 0 (8 * i + 2) place → address (set mid place value) (cover image (enters i linked)) ≡ place
size_covered image mid i place value wf also same_root reached there kind none stands =
    let in_file : i < inode_count mid = reached-in_file mid also i there in
    let below : 8 * (8 * i + 2) < size_of mid 0 = omega (arith, in_file) in
    let stays : root_of (set mid place value) 0 ≡ root_of mid 0 = root_word_stays mid also 0 (8 * i + 2) place value inode_file below stands in
    let top : root_of (set mid place value) 0 ≡ root_of image 0 = stays ∙ same_root in
    ap (address (set mid place value)) (cover_past_end image i wf reached kind none ∙ ap (λ r. inode_path (height_of r) i 2) (sym top))
    ∙ inode_address (set mid place value) i 2 place (stands_stored mid also 0 (8 * i + 2) place value inode_file below stands stays)
