-- What is known in the middle of a scan, of the inode file and of the directory at hand.
use Rattle.std.proofs.Common.{◌≡◌, ◌⊎◌, ℕ, zero, suc, ◌+◌, ◌*◌, ◌<◌, ◌≤◌, true, false, length, refl, sym, subst, arith, inl, inr}
use Rattle.bp_free.specs.Set.{has}
use Rattle.bp_layout.specs.Words.{Image, block_count}
use Rattle.bp_layout.specs.Tree.{IsSound, IsFull}
use Rattle.bp_layout.specs.Inode.{kind_of, root_of, size_of, inode_count}
use Rattle.bp_layout.specs.Directory.{EntryNames, ino_at}
use Rattle.bp_layout.specs.Reached.{IsReached}
use Rattle.bp_layout.specs.WellFormed.{IsWellFormed}
use Rattle.bp_layout.specs.Checks.{IsFound, IsEntry, Fails, entry_place}
use Rattle.bp_layout.specs.Checks.Fails.{ino, root_named, name_form, name_twice}
use Rattle.bp_layout.specs.declared.check.Check.{Check}
use Rattle.bp_layout.specs.declared.check.Check.TheVariants.{InodeTwice, InodeNumber}
use Rattle.bp_spelling.specs.Names.{IsUsed, AreNames, AreWrong}
use Rattle.bp_spelling.specs.Names.AreWrong.{form, twice}
use Rattle.bp_spelling.specs.declared.fault.NameFault.{NameFault}
use Rattle.bp_walk.proofs.TakenLaws.{known, clash}
use Rattle.bp_scan.specs.Scanned.{IsScanned}
use Rattle.bp_scan.specs.Progress.{IsEntered, IsDone, NamedBy}
use Rattle.bp_scan.specs.Inodes.{FailsInode}
use Rattle.bp_scan.specs.Misspelled.{FailsNames, check_of, fault_place}
use Rattle.bp_scan.specs.Reading.{IsReading}
use Rattle.bp_scan.specs.declared.work.Scan.{Scan}
use Rattle.bp_scan.proofs.Readable.{is_sound, is_full, entry_seen, inode_found, one_entry, named_before}
use Rattle.bp_layout.proofs.ChecksLaws.{found_reached}
use Rattle.bp_layout.proofs.FewLeaves.{fewer_inodes}
use Rattle.bp_scan.proofs.InodeFaults.{fails_inode}

module _ (image : Image) (work : Scan) (current slot : ℕ) (reading : IsReading image work current slot) where
  abbrev E : ℕ → Type 0
  E = IsEntered image work.inodes

  abbrev D : ℕ → ℕ → Type 0
  D = IsDone image work.inodes work.todo current slot

  scanned : IsScanned image E D reading.midway.all work.blocks
  scanned = reading.midway.under_way.scanned

  pub first : IsEntered image work.inodes 0
  first = (omega (arith, reading.ready.some_inodes), go (known (has work.inodes 0)))
    where
      go : (has work.inodes 0 ≡ true) ⊎ (has work.inodes 0 ≡ false) → has work.inodes 0 ≡ false
      go (inl there) = absurd (omega (arith, (reading.range 0 there).0))
      go (inr gone) = gone

  pub inodes_sound : IsSound image (root_of image 0) (size_of image 0)
  inodes_sound = is_sound image E D reading.midway.all work.blocks reading.ready.some_inodes first scanned 0 first (inl refl)

  pub inodes_full : IsFull image (root_of image 0) (size_of image 0)
  inodes_full = is_full image E D reading.midway.all work.blocks reading.ready.some_inodes first scanned 0 first (inl refl)

  pub inodes_fewer : inode_count image + 64 ≤ 64 * block_count image
  inodes_fewer = fewer_inodes image (root_of image 0) (size_of image 0) inodes_sound inodes_full (omega (arith, reading.ready.formatted.sized.at_least)) reading.ready.inode_blocks

  pub inodes_few : inode_count image ≤ length work.inodes
  inodes_few = omega (arith, inodes_fewer, reading.room.inodes)

  -- an inode that was entered has a kind
  pub kind_in : (j : ℕ) → 1 ≤ j → IsEntered image work.inodes j → (1 ≤ kind_of image j) × (kind_of image j ≤ 2)
  kind_in zero some entered = absurd (omega (arith, some))
  kind_in (suc j) some entered = scanned.kinds j entered

  -- an inode in the set is not to do
  pub new_not_to_do : (j : ℕ) → has work.inodes j ≡ true → has work.todo j ≡ false
  new_not_to_do j new = go (known (has work.todo j))
    where
      go : (has work.todo j ≡ true) ⊎ (has work.todo j ≡ false) → has work.todo j ≡ false
      go (inl there) = absurd (clash new (reading.midway.under_way.todo_entered j there).0.1)
      go (inr gone) = gone

  pub inode_fails : (j : ℕ) (c : Check) (p : ℕ) → 1 ≤ j → IsFound image j → has work.inodes j ≡ true → FailsInode image j work.blocks c p → Fails image c p
  inode_fails j c p some found new fails = fails_inode image E D reading.midway.all work.blocks reading.midway.whole reading.ready.some_inodes first scanned j some found (λ e. clash new e.1) c p fails

  module _ (entered : IsEntered image work.inodes current) (kind : kind_of image current ≡ 2) where
    pub here_sound : IsSound image (root_of image current) (size_of image current)
    here_sound = is_sound image E D reading.midway.all work.blocks reading.ready.some_inodes first scanned current entered (inr kind)

    pub here_full : IsFull image (root_of image current) (size_of image current)
    here_full = is_full image E D reading.midway.all work.blocks reading.ready.some_inodes first scanned current entered (inr kind)

    pub here_found : (r j : ℕ) → EntryNames image current r j → j < inode_count image → IsFound image j
    here_found r j names low = inode_found image E D reading.midway.all work.blocks reading.ready.some_inodes first scanned current r j entered names low

    here_entry : (r j p : ℕ) → EntryNames image current r j → entry_place image current r 0 ≡ p → IsEntry image current r j p
    here_entry r j p names at = subst (IsEntry image current r j) at (entry_seen image E D reading.midway.all work.blocks reading.ready.some_inodes first scanned current r j entered names)

    pub too_high : (r j p : ℕ) → EntryNames image current r j → entry_place image current r 0 ≡ p → inode_count image ≤ j → Fails image InodeNumber p
    too_high r j p names at high = ino (here_entry r j p names at) high

    -- another entry named it, or it is the root
    pub not_new : (j p : ℕ) → EntryNames image current slot j → entry_place image current slot 0 ≡ p → j < inode_count image → has work.inodes j ≡ false → kind_of image j ≡ 2 → Fails image InodeTwice p
    not_new zero p names at low gone kind_is = absurd (names.not_empty refl)
    not_new (suc zero) p names at low gone kind_is = root_named (here_entry slot 1 p names at)
    not_new (suc (suc j)) p names at low gone kind_is = subst (Fails image InodeTwice) at (by (reading.midway.under_way.named (suc (suc j)) (omega arith) (low, gone)))
      where
        by : NamedBy image work.inodes work.todo current slot (suc (suc j)) → Fails image InodeTwice (entry_place image current slot 0)
        by n = go n.done
          where
            go : IsDone image work.inodes work.todo current slot n.directory n.entry → Fails image InodeTwice (entry_place image current slot 0)
            go (inl d) =
                named_before image E D reading.midway.all work.blocks reading.ready.some_inodes first scanned current slot n.directory n.entry (suc (suc j)) entered d.0 names n.names (scanned.found (suc (suc j)) (low, gone)) kind_is (λ same other. d.3 (sym same))
            go (inr d) =
                named_before image E D reading.midway.all work.blocks reading.ready.some_inodes first scanned current slot n.directory n.entry (suc (suc j)) entered (subst (IsEntered image work.inodes) (sym d.0) entered) names n.names (scanned.found (suc (suc j)) (low, gone)) kind_is
                (λ same other. omega (arith, other, d.1))

    used_names : (r : ℕ) → IsUsed image (root_of image current) (size_of image current) r → EntryNames image current r (ino_at image current r)
    used_names r used = record { directory = kind; in_size = used.live; ino = refl; not_empty = used.some }

    -- in a tree that is well formed, the names of each directory that was entered are right
    pub names_known : IsWellFormed image → AreNames image (root_of image current) (size_of image current)
    names_known wf =
        let reached : IsReached image current = found_reached image current (scanned.found current entered) in
        record {
          forms = λ r used. wf.names current r _ reached (used_names r used);
          differ = λ r q used also same. wf.names_once current r q _ _ reached (used_names r used) (used_names q also) same;
        }

    fault_fails : (fault : NameFault) → AreWrong image (root_of image current) (size_of image current) fault → Fails image (check_of fault) (fault_place fault)
    fault_fails _ (form {slot = r} used bad) = name_form (here_entry r _ _ (used_names r used) refl) bad
    fault_fails _ (twice {slot = r} {other = q} used also other same) =
        name_twice (here_entry r _ _ (used_names r used) refl) (here_entry q _ _ (used_names q also) refl) (λ place. other (one place).1) same
      where
        one : entry_place image current r 0 ≡ entry_place image current q 0 → (current ≡ current) × (r ≡ q)
        one place = one_entry image E D reading.midway.all work.blocks reading.ready.some_inodes first scanned current r _ current q _ entered entered (used_names r used) (used_names q also) place

    pub names_fail : (c : Check) (p : ℕ) → FailsNames image (root_of image current) (size_of image current) c p → Fails image c p
    names_fail c p fails = subst (λ check. Fails image check p) fails.check (subst (Fails image (check_of fails.fault)) fails.place (fault_fails fails.fault fails.wrong))
