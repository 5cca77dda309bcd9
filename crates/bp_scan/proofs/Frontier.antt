-- Where a scan has nothing left to do, no check fails.
use Rattle.std.proofs.Common.{true, false, length, ◌≡◌, ◌≢◌, ◌⊎◌, ℕ, suc, zero, refl, sym, ◌∙◌, ap, arith, inl, inr, ◌<◌, ◌≤◌}
use Rattle.bp_free.specs.Set.{Set, has}
use Rattle.bp_layout.specs.Words.{Image, block_count, block_of, height_of}
use Rattle.bp_layout.specs.Tree.{node, covered}
use Rattle.bp_layout.specs.Inode.{kind_of, root_of, size_of, inode_count}
use Rattle.bp_layout.specs.Checks.{IsFound, IsPointer, Fails, Passes, pointer_place}
use Rattle.bp_layout.specs.Checks.IsFound.{inode_file, root_directory, named}
use Rattle.bp_layout.specs.Checks.Fails.{height, root_bits, pointer_bits, range, twice, hole, inode_file_size, ino, root_named, inode_twice, kind, root_kind, directory_size, capacity, name_form, name_twice}
use Rattle.bp_layout.specs.declared.check.Check.{Check}
use Rattle.bp_layout.proofs.ChecksLaws.{same_entry, found_reached}
use Rattle.bp_layout.specs.Checks.{NoneFails}
use Rattle.bp_limits.proofs.Versions.{height_most}
use Rattle.bp_layout.specs.Formatted.{IsFormatted, version_of}
use Rattle.bp_layout.specs.Free.{IsFreeInode, AreFreeBlocks, AreFreeInodes}
use Rattle.bp_layout.proofs.ChecksSuffice.{checks_suffice, found_all as reached_found, pointer_at as pointer_found}
use Rattle.bp_layout.specs.WellFormed.{IsWellFormed}
use Rattle.bp_layout.specs.Reached.{IsReached, IsLiveBlock, IsFreeBlock}
use Rattle.bp_layout.specs.Tree.{HasBlock}
use Rattle.std.proofs.lemmas.Bool.{cases_lt}
use Rattle.bp_walk.proofs.TakenLaws.{clash, known}
use Rattle.bp_walk.specs.Taken.{block_at, NamesBlock}
use Rattle.bp_scan.specs.Scanned.{AreOthersLive, IsSeen, IsScanned, IsAll, HasAllBlocks, HasRest}
use Rattle.std.proofs.lemmas.List.{get_or_past}
use Rattle.bp_walk.proofs.Places.{pointer_word}
use Rattle.bp_layout.specs.Thaw.{none_in_snapshot}

module _ (image : Image) (E : ℕ → Type 0) (D : ℕ → ℕ → Type 0) (start left : Set) (scanned : IsScanned image E D start left) (done : IsAll image E D) where
  found_entered : (t : ℕ) → IsFound image t → E t
  found_entered _ inode_file = done.inode_file
  found_entered _ (root_directory f) = done.root
  found_entered _ (named {i = i} {j = j} slot from names f low g) = scanned.enters i slot j (done.slots i slot j (found_entered i from) names) names

  passes : (t d k p : ℕ) → IsPointer image t d k p → Passes image (root_of image t) d k
  passes t d k p at = (scanned.checked t (found_entered t at.found)).passes d k at.live at.followed

  seen : (t d k p : ℕ) → IsPointer image t d k p → IsSeen image E p
  seen t d k p at = record { tree = t; depth = d; index = k; entered = found_entered t at.found; pointer = at }

  one_place : (t d k p u e l q : ℕ) → IsPointer image t d k p → IsPointer image u e l q → node image (root_of image t) d k ≢ 0 →
      node image (root_of image t) d k ≡ node image (root_of image u) e l → p ≡ q
  one_place t d k p u e l q at also present same =
      let here : block_at image p ≡ node image (root_of image t) d k = ap block_of (pointer_word image t d k p at) in
      let there : block_at image q ≡ node image (root_of image u) e l = ap block_of (pointer_word image u e l q also) in
      scanned.takes.once p q (seen t d k p at) (seen u e l q also) (λ null. present (sym here ∙ null)) (here ∙ same ∙ sym there)

  none : (c : Check) (p : ℕ) → Fails image c p → ⊥
  none _ _ (height {t = t} {p = p} at high) = let low : Passes image (root_of image t) 0 0 = passes t 0 0 p at in omega (arith, low.0, high, height_most (version_of image))
  none _ _ (root_bits {t = t} {p = p} at bits) = let low : Passes image (root_of image t) 0 0 = passes t 0 0 p at in omega (arith, low.0, bits, height_most (version_of image))
  none _ _ (pointer_bits {t = t} {d = d} {k = k} {p = p} at bits) = bits (passes t (suc d) k p at).0
  none _ _ (range {t = t} {d = d} {k = k} {p = p} at high) = in_range t d k p at high (passes t d k p at)
    where
      in_range : (t d k p : ℕ) → IsPointer image t d k p → block_count image ≤ node image (root_of image t) d k → Passes image (root_of image t) d k → ⊥
      in_range t zero k p at high pass = omega (arith, pass.1, high)
      in_range t (suc d) k p at high pass = omega (arith, pass.1, high)
  none _ _ (twice {t = t} {d = d} {k = k} {p = p} {u = u} {e = e} {l = l} {q = q} at also other present same) = other (one_place t d k p u e l q at also present same)
  none _ _ (hole {t = t} {d = d} {k = k} at which null) = (scanned.checked t (found_entered t at.found)).full which d k at.live at.followed null
  none _ _ (inode_file_size (inl odd)) = odd done.blocks
  none _ _ (inode_file_size (inr small)) = let some : 4096 ≤ size_of image 0 = done.some in omega (arith, some, small)
  none _ _ (ino {i = i} {s = s} {j = j} at high) =
      let low : j < inode_count image = scanned.inos i s j (done.slots i s j (found_entered i at.found) at.names) at.names in omega (arith, low, high)
  none _ _ (root_named {i = i} {s = s} at) = scanned.not_root i s 1 (done.slots i s 1 (found_entered i at.found) at.names) at.names refl
  none _ _ (inode_twice {i = i} {s = s} {j = j} {k = k} {r = r} at also other found directory) =
      other (sym at.at ∙ scanned.named_once i s k r j (done.slots i s j (found_entered i at.found) at.names) (done.slots k r j (found_entered k also.found) also.names) at.names also.names directory ∙ also.at)
  none _ _ (kind {i = i} found not_file not_directory at) =
      let both : (1 ≤ kind_of image (suc i)) × (kind_of image (suc i) ≤ 2) = scanned.kinds i (found_entered (suc i) found) in
      omega (arith, both.0, both.1, not_file, not_directory)
  none _ _ (root_kind found other at) = other done.directory
  none _ _ (directory_size {i = i} found directory odd at) = odd (scanned.sizes i (found_entered i found) directory)
  none _ _ (capacity {t = t} found large at) =
      let fits : size_of image t ≤ covered (suc (height_of (root_of image t))) = (scanned.checked t (found_entered t found)).fits in omega (arith, fits, large)
  none _ _ (name_form {i = i} {s = s} {j = j} at bad) = bad (scanned.forms i s j (done.slots i s j (found_entered i at.found) at.names) at.names)
  none _ _ (name_twice {i = i} {s = s} {j = j} {r = r} {k = k} at also other same) =
      other (sym at.at ∙ same_entry image i s i r refl (scanned.names_once i s r j k (done.slots i s j (found_entered i at.found) at.names) (done.slots i r k (found_entered i also.found) also.names) at.names also.names same) ∙ also.at)

  pub nothing_fails : NoneFails image
  nothing_fails = record { none = none }

  pub well_formed : IsFormatted image → IsWellFormed image
  well_formed = checks_suffice image nothing_fails

  pub reached_entered : (t : ℕ) → IsReached image t → E t
  reached_entered t reached = found_entered t (reached_found image nothing_fails t reached)

  -- what has left the set is live
  pub others_live : HasAllBlocks image start → AreOthersLive image (has left)
  others_live all b low high gone =
      let n : NamesBlock image (IsSeen image E) b = scanned.takes.named b (all.all b low high) gone in
      let w : block_at image n.place ≡ node image (root_of image n.is.tree) n.is.depth n.is.index =
      ap block_of (pointer_word image n.is.tree n.is.depth n.is.index n.place n.is.pointer) in
      record {
        tree = n.is.tree;
        reached = found_reached image n.is.tree n.is.pointer.found;
        has = record {
          depth = n.is.depth;
          index = n.is.index;
          pointer = n.is.pointer.live;
          named = sym w ∙ n.named;
          not_null = λ null. omega (arith, low, null);
        };
      }

  pub free_blocks : 8 ≤ block_count image → HasAllBlocks image start → AreFreeBlocks image none_in_snapshot (has left)
  free_blocks least all = record {
    free = λ b left_in. record {
      low = not_zero b left_in;
      high = in_range b left_in;
      free = λ live. taken b left_in live;
      loose = refl;
    };
    all = λ b free. still b free (known (has left b));
  }
    where
      in_start : (b : ℕ) → has left b ≡ true → has start b ≡ true
      in_start b left_in = go (known (has start b))
        where
          go : (has start b ≡ true) ⊎ (has start b ≡ false) → has start b ≡ true
          go (inl there) = there
          go (inr gone) = absurd (clash left_in (scanned.takes.less b gone))

      not_zero : (b : ℕ) → has left b ≡ true → 1 ≤ b
      not_zero zero left_in = absurd (clash (in_start 0 left_in) all.not_first)
      not_zero (suc b) left_in = omega arith

      in_range : (b : ℕ) → has left b ≡ true → b < block_count image
      in_range b left_in = go (cases_lt b (block_count image))
        where
          go : (b < block_count image) ⊎ (block_count image ≤ b) → b < block_count image
          go (inl low) = low
          go (inr high) =
              let past : length start ≤ b = let e : length start ≡ block_count image = all.room in omega (arith, e, high) in
              absurd (clash (in_start b left_in) (get_or_past start b false past))

      taken : (b : ℕ) → has left b ≡ true → IsLiveBlock image b → ⊥
      taken b left_in live =
          let h : HasBlock image (root_of image live.tree) (size_of image live.tree) b = live.has in
          let found : IsFound image live.tree = reached_found image nothing_fails live.tree live.reached in
          let at : IsPointer image live.tree h.depth h.index (pointer_place image live.tree h.depth h.index) =
          pointer_found image nothing_fails live.tree h.depth h.index found h.pointer (λ null. h.not_null (sym h.named ∙ null)) in
          let here : block_at image (pointer_place image live.tree h.depth h.index) ≡ b = ap block_of (pointer_word image live.tree h.depth h.index _ at) ∙ h.named in
          clash left_in (ap (has left) (sym here) ∙ scanned.takes.gone _ (seen live.tree h.depth h.index _ at) (λ null. h.not_null (sym here ∙ null)))

      still : (b : ℕ) → IsFreeBlock image none_in_snapshot b → (has left b ≡ true) ⊎ (has left b ≡ false) → has left b ≡ true
      still b free (inl there) = there
      still b free (inr gone) = absurd (free.free (others_live all b free.low free.high gone))

  pub free_inodes : (inodes : Set) → HasRest image E inodes → AreFreeInodes image (has inodes)
  free_inodes inodes rest = record {
    free = λ i there. record { low = rest.low i there; high = rest.high i there; free = λ reached. clash there (rest.out i (reached_entered i reached)) };
    all = λ i free. still i free (known (has inodes i));
  }
    where
      still : (i : ℕ) → IsFreeInode image i → (has inodes i ≡ true) ⊎ (has inodes i ≡ false) → has inodes i ≡ true
      still i free (inl there) = there
      still i free (inr gone) = absurd (free.free (found_reached image i (scanned.found i (rest.entered i free.low free.high gone))))
