-- A batch needs few blocks: each of its stretches copies one leaf more than its bytes fill, one more where they begin and end in the midst of one, and a way.
use Rattle.std.proofs.Common.{◌≡◌, ◌⊎◌, ℕ, zero, suc, ◌+◌, ◌-◌, ◌*◌, ◌/◌, ◌≤◌, List, [], ◌∷◌, ◌++◌, length, map, refl, sym, subst, inl, inr, arith}
use Rattle.std.specs.Prelude.{flat_map}
use Rattle.std.specs.List.{range_with_len}
use Rattle.std.proofs.lemmas.Bool.{cases_eq, eq-eqb, ne_eqb}
use Rattle.std.proofs.lemmas.List.{length-append}
use Rattle.bp_limits.specs.Limits.{max_height, max_pieces}
use Rattle.bp_limits.specs.CallLimits.{max_batch}
use Rattle.bp_changes.specs.Overwrites.{Patch}
use Rattle.bp_layout.specs.Inode.{kind_of, root_of, size_of}
use Rattle.bp_layout.specs.Members.{Each}
use Rattle.bp_layout.specs.Need.{content_path_at, cover, need, prefixes_of, stretch_paths}
use Rattle.bp_layout.specs.Need.Change.{overwrites}
use Rattle.bp_layout.specs.Reached.{IsReached}
use Rattle.bp_layout.specs.Reached.IsReached.{inode_file}
use Rattle.bp_layout.specs.WellFormed.{IsWellFormed}
use Rattle.bp_layout.specs.WordPaths.{WordPath, digits, inode_path}
use Rattle.bp_layout.specs.Words.{Image, height_of}
use Rattle.bp_read.proofs.Digits.{length-digits}
use Rattle.bp_calls.specs.Overwritten.{IsPatchIn, byte_count, stretch_of, stretches_of}
use Rattle.bp_volume.proofs.FewBlocks.{IsFew, charge_rises, run_few_after}

module _ (image : Image) (wf : IsWellFormed image) (shortest : ℕ) where
  abbrev heights : ℕ → ℕ
  heights t = height_of (root_of image t)

  -- the words of one stretch, before others
  module _ (rest : List WordPath) (most : ℕ) (few : (earlier : List WordPath) → length (prefixes_of shortest earlier rest) ≤ most) where
    stretch_in : (n offset len : ℕ) → IsReached image (suc n) → 1 ≤ len → len ≤ max_batch → offset + len ≤ size_of image (suc n) → (earlier : List WordPath) →
        length (prefixes_of shortest earlier (map (content_path_at heights (suc n)) (range_with_len (offset / 8) (suc ((offset + len - 1) / 8 - offset / 8))) ++ rest)) ≤ len / 4096 + 18 + most
    stretch_in n offset len reached some short within earlier =
        let top : height_of (root_of image 0) ≤ max_height = (wf.sound 0 inode_file).low (omega (arith, wf.some_inodes)) in
        let low : height_of (root_of image (suc n)) ≤ max_height = (wf.sound (suc n) reached).low (omega (arith, some, within)) in
        let words : ℕ = suc ((offset + len - 1) / 8 - offset / 8) in
        let run = run_few_after (inode_path (heights 0) (suc n) 1) (heights (suc n)) low shortest rest most few earlier words (offset / 8) in
        let first = length-append (inode_path (heights 0) (suc n) 1) (digits (suc (heights (suc n))) (offset / 8)) in
        let many : words ≤ len / 8 + 2 = omega (arith, some) in
        let leaves : words / 512 ≤ len / 4096 + 1 = omega (arith, many) in
        let nodes : words / 512 / 512 ≤ 0 = omega (arith, leaves, short) in
        omega (arith, run, first, leaves, nodes, charge_rises (offset / 8) words, low, top, length-digits (suc (heights 0)) (8 * suc n + 1), length-digits (suc (heights (suc n))) (offset / 8))

    stretch_few : (patch : Patch) → IsPatchIn image patch → length patch.bytes ≤ max_batch → (earlier : List WordPath) →
        length (prefixes_of shortest earlier (stretch_paths heights (stretch_of patch) ++ rest)) ≤ length patch.bytes / 4096 + 18 + most
    stretch_few patch is short earlier = by_bytes (cases_eq (length patch.bytes) 0)
      where
        at : (i : ℕ) → patch.inode ≡ i → 1 ≤ length patch.bytes →
            length (prefixes_of shortest earlier (map (content_path_at heights patch.inode) (range_with_len (patch.offset / 8) (suc ((patch.offset + length patch.bytes - 1) / 8 - patch.offset / 8))) ++ rest)) ≤ length patch.bytes / 4096 + 18 + most
        at zero e some = let one : kind_of image 0 ≡ 1 = subst (λ i. kind_of image i ≡ 1) e is.is_file in absurd (omega (arith, one))
        at (suc n) e some =
            subst (λ i. length (prefixes_of shortest earlier (map (content_path_at heights i) (range_with_len (patch.offset / 8) (suc ((patch.offset + length patch.bytes - 1) / 8 - patch.offset / 8))) ++ rest)) ≤ length patch.bytes / 4096 + 18 + most) (sym e)
            (stretch_in n patch.offset (length patch.bytes) (subst (IsReached image) e is.reached) some short (subst (λ i. patch.offset + length patch.bytes ≤ size_of image i) e is.within) earlier)

        by_bytes : (length patch.bytes ≡ 0) ⊎ (length patch.bytes ≡ 0 → ⊥) → length (prefixes_of shortest earlier (stretch_paths heights (stretch_of patch) ++ rest)) ≤ length patch.bytes / 4096 + 18 + most
        by_bytes (inl none) = rw (eq-eqb (length patch.bytes) 0 none) (omega (arith, few earlier))
        by_bytes (inr some) = rw (ne_eqb (length patch.bytes) 0 some) (at patch.inode refl (omega (arith, some)))

  -- all of them
  stretches_few : (patches : List Patch) → Each (IsPatchIn image) patches → byte_count patches ≤ max_batch → (earlier : List WordPath) →
      length (prefixes_of shortest earlier (flat_map (stretch_paths heights) (stretches_of patches))) ≤ byte_count patches / 4096 + 18 * length patches
  stretches_few [] each short earlier = omega arith
  stretches_few (patch ∷ patches) each short earlier =
      let one = stretch_few (flat_map (stretch_paths heights) (stretches_of patches)) (byte_count patches / 4096 + 18 * length patches)
      (stretches_few patches each.1 (omega (arith, short))) patch each.0 (omega (arith, short)) earlier in
      omega (arith, one)

-- the bytes of one batch
pub few_overwrites : (image : Image) → IsWellFormed image → (patches : List Patch) → Each (IsPatchIn image) patches → length patches ≤ max_pieces → byte_count patches ≤ max_batch → IsFew (need image (overwrites (stretches_of patches)))
few_overwrites image wf patches each few short =
    let copies = stretches_few image wf (length (cover image (overwrites (stretches_of patches)))) patches each short [] in
    omega (arith, copies, few, short)
