-- An upgrade to version 3 of an image in which the words that are attributes there are 0: before its magic number the
-- image has the same files (`same_files_alone`), and then it is one of version 3 that shows the same.
use Rattle.std.proofs.Common.{◌≡◌, ℕ, suc, ◌+◌, ◌-◌, ◌/◌, ◌≤◌, ◌<◌, false, length, refl, sym, ◌∙◌, ap, subst, arith, ne_eqb}
use Rattle.bp_limits.specs.declared.version.Version.TheVariants.{Three}
use Rattle.bp_limits.specs.CallLimits.{allows_attributes}
use Rattle.bp_limits.specs.Limits.{inode_fields, magic, version_at}
use Rattle.bp_limits.proofs.Versions.{height_most, version_of_magic}
use Rattle.bp_layout.specs.Words.{Image, word}
use Rattle.bp_layout.specs.Format.{to_three_stores, upgraded_to_three}
use Rattle.bp_layout.specs.Formatted.{IsFormatted, version_of}
use Rattle.bp_layout.specs.Inode.{AreClear, attributes_of, inode_count, inode_word}
use Rattle.bp_layout.specs.Lookup.{find_one, shown}
use Rattle.bp_layout.specs.Paths.{Path, no_attributes}
use Rattle.bp_layout.specs.Reached.{IsReached}
use Rattle.bp_layout.specs.WellFormed.{IsWellFormed}
use Rattle.bp_layout.specs.Whole.{IsFileSystem}
use Rattle.bp_layout.specs.Trees.{has_snapshot}
use Rattle.bp_layout.proofs.AttributeLaws.{attributes_none, few_fields}
use Rattle.bp_layout.proofs.BesideTrees.{SameTrees, inode_word-same, still_well_formed, still_one, view-by}
use Rattle.bp_layout.proofs.LastValue.{AllWithinImage, last_value, length-after_stores, word-after_stores}
use Rattle.bp_layout.proofs.NoSnapshot.{alone_file_system, has_none}
use Rattle.bp_layout.proofs.Reached.{reached-in_file}
use Rattle.bp_layout.proofs.View.{shown-same}

module _ (image : Image) (wf : IsWellFormed image) where
  within : AllWithinImage (length image) to_three_stores
  within = let some : 8 ≤ length image / 512 = wf.formatted.sized.at_least in omega (arith, some)

  stored : (place : ℕ) → word (upgraded_to_three image) place ≡ last_value to_three_stores place (word image place)
  stored place = word-after_stores image to_three_stores place within

  whole : length (upgraded_to_three image) ≡ length image
  whole = length-after_stores image to_three_stores

  same : SameTrees image (upgraded_to_three image)
  same = record {
    whole = whole;
    root = stored 2;
    size = stored 3;
    blocks = λ place high. stored place ∙ rw (
      ne_eqb place 0 (λ e. omega (arith, e, high)),
      ne_eqb place 4 (λ e. omega (arith, e, high)),
      ne_eqb place 5 (λ e. omega (arith, e, high)),
      ne_eqb place 6 (λ e. omega (arith, e, high)),
      ne_eqb place 7 (λ e. omega (arith, e, high)),
    ) refl;
  }

  -- it is one of version 3
  pub to_three_version : version_of (upgraded_to_three image) ≡ Three
  to_three_version = ap version_at (stored 0) ∙ version_of_magic Three

  formatted : IsFormatted (upgraded_to_three image)
  formatted = record {
    sized = record {
      whole = rw whole wf.formatted.sized.whole;
      at_least = rw whole wf.formatted.sized.at_least;
      at_most = rw whole wf.formatted.sized.at_most;
    };
    has_magic = stored 0 ∙ ap magic (sym to_three_version);
    counted = stored 1 ∙ rw whole wf.formatted.counted;
  }

  -- well formed
  pub to_three_well_formed : IsWellFormed (upgraded_to_three image)
  to_three_well_formed = still_well_formed image (upgraded_to_three image) same wf formatted
      (rw to_three_version (height_most (version_of image)))

  -- it has no second tree
  pub to_three_alone : has_snapshot (upgraded_to_three image) ≡ false
  to_three_alone = has_none (upgraded_to_three image) (λ three. stored 5)

  pub to_three_file_system : IsFileSystem (upgraded_to_three image)
  to_three_file_system = alone_file_system (upgraded_to_three image) to_three_well_formed to_three_alone

  pub to_three_one : (p q : Path) → find_one (upgraded_to_three image) p q ≡ find_one image p q
  to_three_one = still_one image (upgraded_to_three image) same

  -- and shows what it showed, if its version has no attributes and the words for them are 0
  module _ (clear : AreClear image) (none : allows_attributes (version_of image) ≡ false) where
    none_before : (t : ℕ) → attributes_of image t ≡ no_attributes
    none_before t = attributes_none image t (λ i f at least most.
        let few : inode_fields (version_of image) ≤ 3 = few_fields (version_of image) none in
        absurd (omega (arith, least, most, few)))

    field_clear : (i f : ℕ) → i < inode_count image → 3 ≤ f → f < 6 → inode_word image i f ≡ 0
    field_clear i f low least most =
        let at : 3 + (f - 3) ≡ f = omega (arith, least) in
        ap (inode_word image i) (sym at) ∙ clear i (f - 3) low (omega (arith, least, most))

    none_after : (t : ℕ) → IsReached image t → attributes_of (upgraded_to_three image) t ≡ no_attributes
    none_after t reached = attributes_none (upgraded_to_three image) t (λ i f at least most.
        let low : suc i < inode_count image = subst (λ u. u < inode_count image) at (reached-in_file image wf t reached) in
        inode_word-same image (upgraded_to_three image) same (suc i) f
        ∙ field_clear (suc i) f low least (subst (λ v. f < inode_fields v) to_three_version most))

    pub to_three_shown : (path : Path) → shown (upgraded_to_three image) path ≡ shown image path
    to_three_shown = shown-same image (upgraded_to_three image)
        (view-by image (upgraded_to_three image) same (λ i reached. none_after i reached ∙ sym (none_before i)))
