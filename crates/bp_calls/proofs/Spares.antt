-- Which words are spare: those of an inode that nobody reaches, and those of an empty entry but its inode number.
use Rattle.std.proofs.Common.{◌≡◌, ◌≢◌, ℕ, suc, ◌+◌, ◌*◌, ◌/◌, ◌%◌, ◌<◌, ◌≤◌, sym, ◌∙◌, ap, subst, arith, lt_of_lt_of_le}
use Rattle.bp_limits.proofs.Versions.{fields_most}
use Rattle.bp_layout.specs.Formatted.{version_of}
use Rattle.bp_calls.specs.Spare.{IsSpare}
use Rattle.bp_layout.specs.Directory.{ino_at, entry_count}
use Rattle.bp_layout.specs.Free.{IsFreeInode}
use Rattle.bp_layout.specs.Inode.{StandsAt, ContentStandsAt, kind_of, root_of, size_of, inode_count}
use Rattle.bp_layout.specs.Reached.{IsReached}
use Rattle.bp_layout.specs.Reached.IsReached.{inode_file}
use Rattle.bp_layout.specs.Tree.{IsLiveWord, IsLivePointer, node}
use Rattle.bp_layout.specs.WellFormed.{IsWellFormed}
use Rattle.bp_layout.specs.Words.{Image, height_of}
use Rattle.bp_layout.proofs.Reached.{reached-in_file}
use Rattle.bp_changes.proofs.Separation.{SameWord, one_place, one_place_in_nodes}
use Rattle.bp_layout.proofs.TreeLaws.{live_pointer_word, live_content}
use Rattle.bp_calls.proofs.Trees.{live_leaf}

-- a tree of kind 1 or 2 is none of the inode file
pub no_inode_file : (image : Image) (i kind : ℕ) → kind_of image i ≡ kind → 1 ≤ kind → i ≢ 0
no_inode_file image i kind is some e = let none : kind_of image 0 ≡ kind = (rw e at is) in omega (arith, none, some)

-- words in a row of one leaf
pub row_stands : (image : Image) (t k f l place q : ℕ) → l ≡ k + f → q ≡ place + f → k % 512 + f < 512 → ContentStandsAt image t k place → ContentStandsAt image t l q
row_stands image t k f l place q index at fits stands =
    let row : l / 512 ≡ k / 512 = omega (arith, fits, index) in
    let leaf : node image (root_of image t) (height_of (root_of image t)) (l / 512) ≡ node image (root_of image t) (height_of (root_of image t)) (k / 512) = ap (node image (root_of image t) (height_of (root_of image t))) row in
    record { present = λ null. stands.present (sym leaf ∙ null); at = ap (λ b. 512 * b + l % 512) leaf ∙ omega (arith, stands.at, fits, index, at) }

-- two content words of live leaves at one place are one word
pub one_content : (image : Image) → IsWellFormed image → (t k u l place : ℕ) → IsReached image t → IsReached image u → 4096 * (k / 512) < size_of image t → 4096 * (l / 512) < size_of image u →
    ContentStandsAt image t k place → ContentStandsAt image u l place → (t ≡ u) × (k ≡ l)
one_content image wf t k u l place reached also below low stands stand =
    let same = one_place_in_nodes image wf t (height_of (root_of image t)) k u (height_of (root_of image u)) l place reached also (live_leaf _ _ _ below) (live_leaf _ _ _ low) stands stand in
    (same.tree, same.index)

-- a live content word at a place is the only live word there
module _ (image : Image) (wf : IsWellFormed image) (t k place : ℕ) (reached : IsReached image t) (below : 8 * k < size_of image t) (stands : ContentStandsAt image t k place) where
  same_word : (u e l : ℕ) → IsReached image u → IsLiveWord (root_of image u) (size_of image u) (suc e) l → StandsAt image u e l place → SameWord t (height_of (root_of image t)) k u e l
  same_word u e l r live stand = one_place image wf t (height_of (root_of image t)) k u e l place reached r (live_content _ _ k below) live stands stand

  pub place_high : 512 ≤ place
  place_high = let present : node image (root_of image t) (height_of (root_of image t)) (k / 512) ≢ 0 = stands.present in omega (arith, stands.at, present)

  pub no_pointer_here : (u d l : ℕ) → IsReached image u → IsLivePointer (root_of image u) (size_of image u) (suc d) l → StandsAt image u d l place → ⊥
  no_pointer_here u d l r live stand =
      let same = same_word u d l r (live_pointer_word _ _ (suc d) l live) stand in
      let root : height_of (root_of image t) ≡ height_of (root_of image u) = ap (λ (x : ℕ). height_of (root_of image x)) same.tree in
      omega (arith, live.height, root, same.depth)

  pub same_content : (u l : ℕ) → IsReached image u → 8 * l < size_of image u → ContentStandsAt image u l place → (t ≡ u) × (k ≡ l)
  same_content u l r low stand = let same = same_word u (height_of (root_of image u)) l r (live_content _ _ l low) stand in (same.tree, same.index)

-- words of an inode that nobody reaches
pub spare_inode : (image : Image) → IsWellFormed image → (j f place : ℕ) → IsFreeInode image j → f < 8 → ContentStandsAt image 0 (8 * j + f) place → IsSpare image place
spare_inode image wf j f place free few stands value = record {
  superblock = λ low. let high = place_high image wf 0 (8 * j + f) place inode_file below stands in absurd (omega (arith, low, high));
  pointers = λ t d k r live stand. absurd (no_pointer_here image wf 0 (8 * j + f) place inode_file below stands t d k r live stand);
  inodes = λ i g r low read stand.
      let in_file : suc i < inode_count image = reached-in_file image wf (suc i) r in
      let small : g < 8 = lt_of_lt_of_le low (fields_most (version_of image)) in
      let same = at 0 (8 * suc i + g) inode_file (omega (arith, in_file, small)) stand in
      let inode : suc i ≡ j = omega (arith, same.1, few, small) in
      absurd (free.free (subst (IsReached image) inode r));
  inos = λ i s r kind low stand. let same = at i (32 * s + 0) r (omega (arith, low)) stand in absurd (no_inode_file image i 2 kind (omega arith) (sym same.0));
  names = λ i s k g r n low stand. let same = at i (32 * s + g) r (omega (arith, n.in_size, low)) stand in absurd (no_inode_file image i 2 n.directory (omega arith) (sym same.0));
  bytes = λ i o r kind low stand. let same = at i (o / 8) r (omega (arith, low)) stand in absurd (no_inode_file image i 1 kind (omega arith) (sym same.0));
}
  where
    below : 8 * (8 * j + f) < size_of image 0
    below = let high : j < inode_count image = free.high in omega (arith, high, few)

    at : (u l : ℕ) → IsReached image u → 8 * l < size_of image u → ContentStandsAt image u l place → (0 ≡ u) × (8 * j + f ≡ l)
    at = same_content image wf 0 (8 * j + f) place inode_file below stands

-- words of an empty entry, but its inode number
pub spare_entry : (image : Image) → IsWellFormed image → (i s f place : ℕ) → IsReached image i → kind_of image i ≡ 2 → s < entry_count image i → ino_at image i s ≡ 0 → 1 ≤ f → f < 32 →
    ContentStandsAt image i (32 * s + f) place → IsSpare image place
spare_entry image wf i s f place reached kind in_size empty some few stands value = record {
  superblock = λ low. let high = place_high image wf i (32 * s + f) place reached below stands in absurd (omega (arith, low, high));
  pointers = λ t d k r live stand. absurd (no_pointer_here image wf i (32 * s + f) place reached below stands t d k r live stand);
  inodes = λ u g r low read stand.
      let in_file : suc u < inode_count image = reached-in_file image wf (suc u) r in
      let small : g < 8 = lt_of_lt_of_le low (fields_most (version_of image)) in
      let same = at 0 (8 * suc u + g) inode_file (omega (arith, in_file, small)) stand in
      absurd (no_inode_file image i 2 kind (omega arith) same.0);
  inos = λ u q r also low stand. let same = at u (32 * q + 0) r (omega (arith, low)) stand in absurd (omega (arith, same.1, some, few));
  names = λ u q k g r n low stand.
      let same = at u (32 * q + g) r (omega (arith, n.in_size, low)) stand in
      let slot : q ≡ s = omega (arith, same.1, few, low) in
      let named : ino_at image i s ≡ k = subst (λ x. ino_at image i x ≡ k) slot (subst (λ x. ino_at image x q ≡ k) (sym same.0) n.ino) in
      absurd (n.not_empty (sym named ∙ empty));
  bytes = λ u o r file low stand.
      let same = at u (o / 8) r (omega (arith, low)) stand in
      let one : kind_of image i ≡ 1 = subst (λ x. kind_of image x ≡ 1) (sym same.0) file in
      absurd (omega (arith, one, kind));
}
  where
    below : 8 * (32 * s + f) < size_of image i
    below = omega (arith, in_size, few)

    at : (u l : ℕ) → IsReached image u → 8 * l < size_of image u → ContentStandsAt image u l place → (i ≡ u) × (32 * s + f ≡ l)
    at = same_content image wf i (32 * s + f) place reached below stands
