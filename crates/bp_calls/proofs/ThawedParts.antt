-- The parts of a file system are exact over a thaw, and what a change after it then makes is made of both.
use Rattle.std.proofs.Common.{◌≡◌, ℕ, ◌+◌, ◌*◌, ◌/◌, ◌≤◌, List, [], ◌∷◌, length, filter, Bool, true, false, ◌&&◌, refl, sym, ◌∙◌, ap, subst, arith}
use Rattle.bp_calls.specs.Mounted.{IsMounted}
use Rattle.bp_calls.specs.ThawsFor.{ThawsFor}
use Rattle.bp_calls.proofs.CountLaws.{exact_with}
use Rattle.bp_calls.proofs.SetLaws.{free_inodes_stay}
use Rattle.bp_changes.specs.SameMeaning.{SameMeaning}
use Rattle.bp_changes.specs.Thawed.{AfterThaw}
use Rattle.bp_changes.proofs.Named.{meaning_counts}
use Rattle.bp_changes.proofs.ReachedOn.{reached_on}
use Rattle.bp_changes.proofs.SameMeaning.{reached-back, well_formed-same}
use Rattle.bp_changes.proofs.ShapeLaws.{IsOfReached, targets-shape}
use Rattle.bp_changes.specs.Performs.{Performs, PerformsThawed}
use Rattle.bp_changes.proofs.PerformsLaws.{performs_thawed}
use Rattle.bp_free.specs.Set.{Set, has, members}
use Rattle.bp_free.specs.declared.parts.Parts.{Parts}
use Rattle.bp_free.proofs.Summary.{none_in}
use Rattle.bp_layout.specs.Free.{AreFreeInodes}
use Rattle.bp_layout.specs.Members.{Has}
use Rattle.bp_layout.specs.Names.{AreCounts}
use Rattle.bp_layout.specs.Need.{Change}
use Rattle.bp_layout.specs.Reached.IsReached.{inode_file}
use Rattle.bp_layout.specs.Same.{Same}
use Rattle.bp_layout.specs.Thaw.{proper_prefixes_of, is_in_snapshot_at, is_there_now, targets, thawed, thawed_on}
use Rattle.bp_layout.specs.WordPaths.{WordPath, address}
use Rattle.bp_layout.specs.Words.{Image, block_of, word}
use Rattle.bp_changes.specs.Sets.{AreExact, in_snapshot_of}
use Rattle.bp_thaw.specs.Prefixes.{IsWayIn}
use Rattle.bp_thaw.specs.Thaws.{Thaws}
use Rattle.bp_thaw.proofs.Whole.{thaws_nothing}
use Rattle.pm_region.specs.Memory.{Memory, current_words, room_in}
use Rattle.pm_region.proofs.SafeLaws.{room_after_quiet}

-- ---- a thaw

module _ {R : Type 0} (memory : R → Memory) (paths : List WordPath) (old : Parts R) (mounted : IsMounted (current_words (memory old.region)) old) where
  -- where it takes what it takes of the free blocks alone, the parts stay exact
  pub thaws_for : (new : Parts R) → Thaws (in_snapshot_of old) paths (memory old.region) (memory new.region) old.free_blocks new.free_blocks → length new.free_blocks ≡ length old.free_blocks → new.free_inodes ≡ old.free_inodes → new.link_counts ≡ old.link_counts → new.snapshot_blocks ≡ old.snapshot_blocks →
      ThawsFor memory paths old new
  thaws_for new thaws size inodes counts snapshot_blocks = record {
    thaws = thaws;
    exact = exact_with image after old new mounted.exact sets snapshot_blocks same.trees.whole (ap (λ (ns : List ℕ). length ns) counts)
        (subst (λ ns. HasCounts ns) (sym counts) (meaning_counts image after mounted.well_formed same old.link_counts mounted.exact.counts));
    snapshot_blocks = snapshot_blocks;
  }
    where
      image : Image
      image = current_words (memory old.region)

      after : Image
      after = current_words (memory new.region)

      same : SameMeaning image after
      same = thaws.shape.meaning

      HasCounts : List ℕ → Type 0
      HasCounts ns = AreCounts after ns

      sets : AreExact after (in_snapshot_of old) new.free_blocks new.free_inodes
      sets = record {
        block_room = size ∙ mounted.exact.sets.block_room ∙ ap (λ n. n / 512) (sym same.trees.whole);
        inode_room = ap (λ (s : Set). length s) inodes ∙ mounted.exact.sets.inode_room ∙ ap (λ n. 64 * (n / 512)) (sym same.trees.whole);
        free_blocks = thaws.free;
        free_inodes = subst (λ (s : Set). AreFreeInodes after (has s)) (sym inodes)
            (free_inodes_stay image after (has old.free_inodes) (thaws.shape.sizes 0 inode_file) (reached-back image after mounted.well_formed same) (reached_on image after same) mounted.exact.sets.free_inodes);
      }

  -- ---- where no block is in the snapshot

  nothing_at : (image : Image) (in_snapshot : ℕ → Bool) → ((b : ℕ) → in_snapshot b ≡ false) → (prefixes : List WordPath) → filter (is_in_snapshot_at image in_snapshot) prefixes ≡ []
  nothing_at image in_snapshot none [] = refl
  nothing_at image in_snapshot none (prefix ∷ prefixes) = rw (with_false (is_there_now image prefix) (none (block_of (word image (address image prefix))))) (nothing_at image in_snapshot none prefixes)
    where
      with_false : (b : Bool) {c : Bool} → c ≡ false → (b && c) ≡ false
      with_false true e = e
      with_false false e = refl

  no_members : (xs : List ℕ) → length xs ≡ 0 → xs ≡ []
  no_members [] none = refl
  no_members (x ∷ xs) none = absurd (omega (arith, none))

  pub nothing_in_snapshot : length (members old.snapshot_blocks) ≡ 0 → thawed_on (current_words (memory old.region)) (in_snapshot_of old) paths ≡ []
  nothing_in_snapshot none = nothing_at (current_words (memory old.region)) (in_snapshot_of old) (none_in old.snapshot_blocks (no_members (members old.snapshot_blocks) none)) (proper_prefixes_of [] paths)

  pub thaws_none : ((path : WordPath) → Has paths path → IsWayIn (current_words (memory old.region)) path) → 2 ≤ room_in (memory old.region) → length (members old.snapshot_blocks) ≡ 0 → ThawsFor memory paths old old
  thaws_none ways room none =
      let nothing : thawed_on (current_words (memory old.region)) (in_snapshot_of old) paths ≡ [] = nothing_in_snapshot none in
      let zero_thawed : length (thawed_on (current_words (memory old.region)) (in_snapshot_of old) paths) ≡ 0 = ap length nothing in
      record {
        thaws = thaws_nothing (in_snapshot_of old) paths (memory old.region) old.free_blocks
            (record { well_formed = mounted.well_formed; ways = ways; free = mounted.exact.sets.free_blocks; enough = omega (arith, zero_thawed); room = omega (arith, zero_thawed, room) }) nothing;
        exact = mounted.exact;
        snapshot_blocks = refl;
      }

-- ---- a change after it

module _ {R : Type 0} (memory : R → Memory) (change : Change) (old middle : Parts R) (mounted : IsMounted (current_words (memory old.region)) old) (of : IsOfReached (current_words (memory old.region)) change)
    (done : ThawsFor memory (targets (current_words (memory old.region)) change) old middle) where
  abbrev image : Image
  image = current_words (memory old.region)

  abbrev after : Image
  after = current_words (memory middle.region)

  pub mounted_thawed : IsMounted after middle
  mounted_thawed = record { well_formed = well_formed-same image after mounted.well_formed done.thaws.shape.meaning; exact = done.exact }

  -- nothing is left to thaw
  pub thawed_clear : thawed after (in_snapshot_of middle) change ≡ []
  thawed_clear =
      subst (λ (snapshot_blocks : Set). thawed after (has snapshot_blocks) change ≡ []) (sym done.snapshot_blocks)
      (subst (λ (ps : List WordPath). thawed_on after (in_snapshot_of old) ps ≡ []) (sym (targets-shape image after mounted.well_formed done.thaws.shape change of)) done.thaws.clear)

  pub room_thawed : room_in (memory old.region) ≤ room_in (memory middle.region) + (2 + (512 + 1) * length done.thaws.taken)
  room_thawed = room_after_quiet Same 2 ((512 + 1) * length done.thaws.taken) (memory old.region) (memory middle.region) done.thaws.adds.part

  pub performed_thawed : (new : Parts R) (Effect : Image → Image → Type 0) → PerformsThawed (in_snapshot_of middle) (memory middle.region) (memory new.region) change Effect →
      Performs (in_snapshot_of old) (memory old.region) (memory new.region) change (AfterThaw Effect)
  performed_thawed new Effect rest =
      performs_thawed (in_snapshot_of old) (memory old.region) (memory middle.region) done.thaws.taken done.thaws.adds done.thaws.live done.thaws.used done.thaws.stay mounted.well_formed done.thaws.shape (memory new.region) change Effect of done.thaws.number
      (subst (λ (snapshot_blocks : Set). PerformsThawed (has snapshot_blocks) (memory middle.region) (memory new.region) change Effect) done.snapshot_blocks rest)
