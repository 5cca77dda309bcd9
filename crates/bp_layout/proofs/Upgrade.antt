-- An upgrade: before its magic number the image is what it was, and then one of version 2 that shows the same.
use Rattle.std.proofs.Common.{◌≡◌, ◌⊎◌, inl, inr, ℕ, ◌/◌, ◌≤◌, ◌&&◌, nat_lt, false, length, refl, sym, ◌∙◌, ap, arith, ne_eqb}
use Rattle.bp_limits.specs.declared.version.Version.TheVariants.{One, Two}
use Rattle.bp_limits.specs.CallLimits.{allows_attributes, allows_snapshot}
use Rattle.bp_limits.specs.Limits.{magic, version_at}
use Rattle.bp_limits.proofs.Versions.{height_most, version_of_magic}
use Rattle.bp_layout.specs.Words.{Image, word}
use Rattle.bp_layout.specs.Format.{upgrade_stores, upgraded}
use Rattle.bp_layout.specs.Formatted.{IsFormatted, version_of}
use Rattle.bp_layout.specs.Lookup.{find_one, shown}
use Rattle.bp_layout.specs.Paths.{Path}
use Rattle.bp_layout.specs.Same.{Same}
use Rattle.bp_layout.specs.WellFormed.{IsWellFormed}
use Rattle.bp_layout.specs.Whole.{IsFileSystem, SameFiles}
use Rattle.bp_layout.specs.Trees.{has_snapshot}
use Rattle.bp_layout.proofs.NoSnapshot.{alone_file_system, first_has_none, has_none}
use Rattle.bp_layout.proofs.BesideTrees.{SameTrees, still_well_formed, still_one, still_shown}
use Rattle.bp_layout.proofs.LastValue.{AllWithinImage, last_value, length-after_stores, word-after_stores}

-- words of the superblock other than those of the first tree, the magic number and the number of blocks may be any
module _ (old new : Image) (wf : IsWellFormed old) (same : SameTrees old new) (has_magic : word new 0 ≡ word old 0) (counted : word new 1 ≡ word old 1) where
  version-stays : version_of new ≡ version_of old
  version-stays = ap version_at has_magic

  formatted_still : IsFormatted new
  formatted_still = record {
    sized = record {
      whole = rw same.whole wf.formatted.sized.whole;
      at_least = rw same.whole wf.formatted.sized.at_least;
      at_most = rw same.whole wf.formatted.sized.at_most;
    };
    has_magic = has_magic ∙ wf.formatted.has_magic ∙ ap magic (sym version-stays);
    counted = counted ∙ rw same.whole wf.formatted.counted;
  }

  same_beside : Same old new
  same_beside = record {
    old_well_formed = wf;
    new_well_formed = still_well_formed old new same wf formatted_still (rw version-stays (omega arith));
    version = version-stays;
    shows = still_shown old new same (ap allows_attributes version-stays);
    one = still_one old new same;
  }

  -- with no snapshot before and after
  same_files_beside : has_snapshot old ≡ false → has_snapshot new ≡ false → SameFiles old new
  same_files_beside none still = record {
    first = same_beside;
    second = record { there = still ∙ sym none; same = λ there. absurd (cc) };
  }

  -- in version 1 the words that version 2 keeps for a second inode file may be any
  pub same_files_first : version_of old ≡ One → SameFiles old new
  same_files_first first = same_files_beside (first_has_none old first) (first_has_none new (version-stays ∙ first))

  -- in any version the size of a snapshot may become 0 where there is none
  pub same_files_alone : has_snapshot old ≡ false → (word new 5 ≡ word old 5) ⊎ (word new 5 ≡ 0) → SameFiles old new
  same_files_alone none size = same_files_beside none (still size)
    where
      still : (word new 5 ≡ word old 5) ⊎ (word new 5 ≡ 0) → has_snapshot new ≡ false
      still (inl stays) = (λ n. allows_snapshot (version-stays n) && nat_lt 0 (stays n)) ∙ none
      still (inr zero) = has_none new (λ allows. zero)

module _ (image : Image) (wf : IsWellFormed image) where
  within : AllWithinImage (length image) upgrade_stores
  within = let some : 8 ≤ length image / 512 = wf.formatted.sized.at_least in omega (arith, some)

  stored : (place : ℕ) → word (upgraded image) place ≡ last_value upgrade_stores place (word image place)
  stored place = word-after_stores image upgrade_stores place within

  whole : length (upgraded image) ≡ length image
  whole = length-after_stores image upgrade_stores

  same : SameTrees image (upgraded image)
  same = record {
    whole = whole;
    root = stored 2;
    size = stored 3;
    blocks = λ place high. stored place ∙ rw (ne_eqb place 0 (λ e. omega (arith, e, high)), ne_eqb place 4 (λ e. omega (arith, e, high)), ne_eqb place 5 (λ e. omega (arith, e, high))) refl;
  }

  -- it is one of version 2
  pub upgraded_version : version_of (upgraded image) ≡ Two
  upgraded_version = ap version_at (stored 0) ∙ version_of_magic Two

  formatted : IsFormatted (upgraded image)
  formatted = record {
    sized = record {
      whole = rw whole wf.formatted.sized.whole;
      at_least = rw whole wf.formatted.sized.at_least;
      at_most = rw whole wf.formatted.sized.at_most;
    };
    has_magic = stored 0 ∙ ap magic (sym upgraded_version);
    counted = stored 1 ∙ rw whole wf.formatted.counted;
  }

  -- well formed
  pub upgraded_well_formed : IsWellFormed (upgraded image)
  upgraded_well_formed = still_well_formed image (upgraded image) same wf formatted
      (rw upgraded_version (height_most (version_of image)))

  -- it has no second tree
  pub upgraded_alone : has_snapshot (upgraded image) ≡ false
  upgraded_alone = has_none (upgraded image) (λ two. stored 5)

  pub upgraded_file_system : IsFileSystem (upgraded image)
  upgraded_file_system = alone_file_system (upgraded image) upgraded_well_formed upgraded_alone

  -- and shows what it showed, if its version has no attributes
  pub upgraded_shown : allows_attributes (version_of image) ≡ false → (path : Path) → shown (upgraded image) path ≡ shown image path
  upgraded_shown none = still_shown image (upgraded image) same (ap allows_attributes upgraded_version ∙ sym none)

  pub upgraded_one : (p q : Path) → find_one (upgraded image) p q ≡ find_one image p q
  upgraded_one = still_one image (upgraded image) same
