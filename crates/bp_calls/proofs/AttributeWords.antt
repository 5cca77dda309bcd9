-- An attribute is set by one store: where its word stands, what the change touches and needs, and what the store
-- makes of the image.
use Rattle.std.proofs.Common.{◌≡◌, ℕ, zero, suc, ◌+◌, ◌-◌, ◌*◌, ◌/◌, ◌%◌, ◌^◌, ◌<◌, ◌≤◌, [], ◌∷◌, length, set, Bool, true, false, refl, sym, ◌∙◌, ap, subst, arith, inl, inr}
use Rattle.bp_calls.proofs.OpenPlaces.{content_live, inode_address, root_word_stays, stands_stored}
use Rattle.bp_calls.proofs.CountLaws.{exact_files}
use Rattle.bp_calls.proofs.SetLaws.{exact_kept}
use Rattle.bp_calls.specs.Commits.{CommitsChange}
use Rattle.bp_calls.proofs.TargetPaths.{inode_path-now, inode_way}
use Rattle.bp_changes.proofs.PerformsLaws.{performs_committed, takes_none}
use Rattle.bp_changes.proofs.SetsAttribute as setting
use Rattle.bp_changes.specs.Effects.{SetsAttribute}
use Rattle.bp_changes.specs.Performs.{PerformsThawed}
use Rattle.bp_changes.specs.Performs.IsOpen.{in_live}
use Rattle.bp_changes.specs.Sets.{AreExact, IsExact, in_snapshot_of}
use Rattle.bp_free.specs.declared.parts.Parts.{Parts}
use Rattle.bp_layout.specs.Formatted.{version_of}
use Rattle.bp_layout.specs.Inode.{ContentStandsAt, attribute, inode_count, root_of, size_of}
use Rattle.bp_layout.specs.Members.{Has}
use Rattle.bp_layout.specs.Need.{copied, cover, is_there_after, need}
use Rattle.bp_layout.specs.Need.Change.{sets}
use Rattle.bp_layout.specs.Reached.{IsReached}
use Rattle.bp_layout.specs.Reached.IsReached.{inode_file}
use Rattle.bp_layout.specs.Same.{Same}
use Rattle.bp_layout.specs.Thaw.{is_there_now, targets, thawed}
use Rattle.bp_layout.specs.Tree.{node}
use Rattle.bp_layout.specs.WellFormed.{IsWellFormed}
use Rattle.bp_layout.specs.WordPaths.{WordPath, address, inode_path}
use Rattle.bp_layout.specs.Words.{Image, height_of, word}
use Rattle.bp_thaw.specs.Prefixes.{IsWayIn}
use Rattle.bp_layout.proofs.Reached.{reached-in_file}
use Rattle.bp_layout.proofs.SameLaws.{same_self}
use Rattle.bp_layout.proofs.ThawLaws.{loose-on}
use Rattle.bp_layout.proofs.TreeLaws.{slot_word-at, tree_word-suc}
use Rattle.bp_limits.specs.CallLimits.{allows_attributes}
use Rattle.bp_read.proofs.ExistingPaths.{AllThere, cover-one, cover_of-one, copied-one, inode_path-there}
use Rattle.bp_read.proofs.LooseWays.{loose_inode_word}
use Rattle.pm_epochs.specs.Crash.{commit}
use Rattle.pm_epochs.proofs.CrashLaws.{quiet_none}
use Rattle.pm_epochs.proofs.PieceLaws.{IsPiece-commit}
use Rattle.pm_region.specs.Memory.{Memory, Adds, current_words}
use Rattle.pm_region.proofs.MemoryLaws.{current_words-adds}

-- a word of 64 bits that stands at the place of an attribute is its value
pub attribute_at : (image : Image) (i k place : ℕ) → 1 ≤ i → allows_attributes (version_of image) ≡ true → ContentStandsAt image 0 (8 * i + (3 + k)) place →
    (value : ℕ) → value < 2 ^ 64 → value ≡ word image place → value ≡ attribute image i k
attribute_at image zero k place some version stands value fits is = absurd (omega (arith, some))
attribute_at image (suc i) k place some version stands value fits is = rw version
    (whole ∙ ap (λ w. w % 2 ^ 64) (is ∙ sym (tree_word-suc image (root_of image 0) (height_of (root_of image 0)) (8 * suc i + (3 + k))
    ∙ slot_word-at image (node image (root_of image 0) (height_of (root_of image 0)) ((8 * suc i + (3 + k)) / 512)) ((8 * suc i + (3 + k)) % 512) stands.present
    ∙ ap (word image) stands.at)))
  where
    whole : value ≡ value % 2 ^ 64
    whole = omega (arith, fits)

-- ---- what the change touches and needs

module _ (image : Image) (wf : IsWellFormed image) (i k : ℕ) (reached : IsReached image i) (few : k < 3) where
  abbrev way : WordPath
  way = inode_path (height_of (root_of image 0)) i (3 + k)

  inside : i < inode_count image
  inside = reached-in_file image wf i reached

  all : AllThere (is_there_after image (sets i k)) [] way
  all = inode_path-there image (sets i k) wf refl i (3 + k) reached (omega (arith, few))

  pub setting_covered : cover image (sets i k) ≡ way
  setting_covered = cover-one image (sets i k) way refl all

  pub none_setting : need image (sets i k) ≡ 0
  none_setting =
      let copies : length (copied image (sets i k)) ≡ 0 = ap length (copied-one image (sets i k) way refl all) in
      omega (arith, copies)

  whole : AllThere (is_there_now image) [] way
  whole = inode_path-now image wf i (3 + k) reached (omega (arith, few))

  pub setting_targets : targets image (sets i k) ≡ way ∷ []
  setting_targets = ap (λ (p : WordPath). p ∷ []) (cover_of-one (is_there_now image) way whole)

  pub setting_ways : (path : WordPath) → Has (targets image (sets i k)) path → IsWayIn image path
  setting_ways path has = go (subst (λ ps. Has ps path) setting_targets has)
    where
      go : Has (way ∷ []) path → IsWayIn image path
      go (inl e) = subst (IsWayIn image) e (inode_way image wf i (3 + k) reached (omega (arith, few)))
      go (inr never) = absurd never

  -- where nothing is left to thaw the block of the attribute is not in the snapshot
  pub setting_loose : (in_snapshot : ℕ → Bool) (place : ℕ) → ContentStandsAt image 0 (8 * i + (3 + k)) place → thawed image in_snapshot (sets i k) ≡ [] → in_snapshot (place / 512) ≡ false
  setting_loose in_snapshot place stands clear =
      let among : Has (targets image (sets i k)) way = subst (λ ps. Has ps way) (sym setting_targets) (inl refl) in
      let here : node image (root_of image 0) (height_of (root_of image 0)) ((8 * i + (3 + k)) / 512) ≡ place / 512 = omega (arith, stands.at) in
      ap in_snapshot (sym here)
      ∙ loose_inode_word image wf in_snapshot i (3 + k) inside (omega (arith, few)) (loose-on image in_snapshot (targets image (sets i k)) clear way among (length way - 1))

-- ---- the store

-- an attribute whose word is stored to, and the value
pub record IsSettable (image : Image) (i k place value : ℕ) : Type 0 where
  pub well_formed : IsWellFormed image
  pub reached : IsReached image i
  pub few : k < 3
  pub version : allows_attributes (version_of image) ≡ true
  pub stands : ContentStandsAt image 0 (8 * i + (3 + k)) place
  pub fits : value < 2 ^ 64

module _ {R : Type 0} (memory : R → Memory) (before after : Parts R) (n k place value : ℕ) (can : IsSettable (current_words (memory before.region)) (suc n) k place value)
    (adds : Adds (memory before.region) (memory after.region) (commit place value)) where
  abbrev image : Image
  image = current_words (memory before.region)

  abbrev last : Image
  last = set image place value

  abbrev Effect : Image → Image → Type 0
  Effect old new = SetsAttribute old new (suc n) k value

  stored : current_words (memory after.region) ≡ last
  stored = current_words-adds (memory before.region) (memory after.region) (commit place value) adds

  low : 8 * (8 * suc n + (3 + k)) < size_of image 0
  low = let high : suc n < inode_count image = inside image can.well_formed (suc n) k can.reached can.few in omega (arith, high, can.few)

  sets_last : SetsAttribute image last (suc n) k value
  sets_last = setting.store_sets image can.well_formed n k value place can.fits can.reached can.few can.version can.stands

  -- the store is at the cover
  at_cover : address last (cover image (sets (suc n) k)) ≡ place
  at_cover =
      let stays : root_of last 0 ≡ root_of image 0 = root_word_stays image can.well_formed 0 (8 * suc n + (3 + k)) place value inode_file low can.stands in
      ap (address last) (setting_covered image can.well_formed (suc n) k can.reached can.few ∙ ap (λ r. inode_path (height_of r) (suc n) (3 + k)) (sym stays))
      ∙ inode_address last (suc n) (3 + k) place (stands_stored image can.well_formed 0 (8 * suc n + (3 + k)) place value inode_file low can.stands stays)

  performs : in_snapshot_of before (place / 512) ≡ false → PerformsThawed (in_snapshot_of before) (memory before.region) (memory after.region) (sets (suc n) k) Effect
  performs loose =
      performs_committed (in_snapshot_of before) (memory before.region) (memory after.region) (sets (suc n) k) Effect place value 2 1 []
      (record {
        prepared = [];
        adds = adds;
        quiet = quiet_none Same image (same_self image can.well_formed);
        piece = IsPiece-commit place value;
      })
      (takes_none image (in_snapshot_of before))
      (rw stored (sym at_cover))
      (omega arith) (omega arith)
      (sym (none_setting image can.well_formed (suc n) k can.reached can.few))
      (in_live (content_live image 0 (8 * suc n + (3 + k)) place inode_file (omega (arith, low)) can.stands) loose)
      (rw stored (setting.well_formed-same image last (suc n) k value can.well_formed sets_last))
      (rw stored sets_last)

  -- the sets and the counts stay as they were
  module _ (exact : IsExact image before) (blocks : after.free_blocks ≡ before.free_blocks) (inodes : after.free_inodes ≡ before.free_inodes)
      (counts : after.link_counts ≡ before.link_counts) (snapshot : after.snapshot_blocks ≡ before.snapshot_blocks) where
    sets_stay : AreExact last (in_snapshot_of before) after.free_blocks after.free_inodes
    sets_stay = rw (blocks, inodes)
        (exact_kept image last sets_last.trees.whole (sets_last.size 0 inode_file)
        (setting.reached-back image last (suc n) k value can.well_formed sets_last) (setting.reached-on image last (suc n) k value can.well_formed sets_last)
        (setting.store_blocks image can.well_formed n k value place can.fits can.reached can.few can.version can.stands) before.free_blocks before.free_inodes exact.sets)

    still_exact : IsExact (current_words (memory after.region)) after
    still_exact = rw stored
        (exact_files image last before after exact sets_stay snapshot counts can.well_formed (setting.keeps image last (suc n) k value can.well_formed sets_last))

    pub commits_attribute : thawed image (in_snapshot_of before) (sets (suc n) k) ≡ [] → CommitsChange memory before after (sets (suc n) k) Effect
    commits_attribute clear = record {
      performs = performs (setting_loose image can.well_formed (suc n) k can.reached can.few (in_snapshot_of before) place can.stands clear);
      snapshot_blocks = snapshot;
      exact = still_exact;
    }

-- stated of any number
pub commits_some : {R : Type 0} (memory : R → Memory) (before after : Parts R) (i k place value : ℕ) → 1 ≤ i → IsSettable (current_words (memory before.region)) i k place value →
    Adds (memory before.region) (memory after.region) (commit place value) → IsExact (current_words (memory before.region)) before → after.free_blocks ≡ before.free_blocks → after.free_inodes ≡ before.free_inodes →
    after.link_counts ≡ before.link_counts → after.snapshot_blocks ≡ before.snapshot_blocks → thawed (current_words (memory before.region)) (in_snapshot_of before) (sets i k) ≡ [] →
    CommitsChange memory before after (sets i k) (λ (image new : Image). SetsAttribute image new i k value)
commits_some memory before after zero k place value some can adds exact blocks inodes counts snapshot clear = absurd (omega (arith, some))
commits_some memory before after (suc n) k place value some can adds exact blocks inodes counts snapshot clear =
    commits_attribute memory before after n k place value can adds exact blocks inodes counts snapshot clear
