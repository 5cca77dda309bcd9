-- An image with a fault is no file system, and a fault of one of its trees is one of the image.
use Rattle.std.proofs.Common.{◌≡◌, ℕ, ◌*◌, ◌/◌, ◌-◌, ◌^◌, Bool, true, false, refl, sym, ◌∙◌, ap, arith, inl, inr}
use Rattle.std.specs.Prelude.{min}
use Rattle.bp_layout.specs.Checks.{Fails}
use Rattle.bp_layout.specs.Formatted.{IsFormatted, version_of}
use Rattle.bp_layout.specs.Trees.{has_snapshot, snapshot_of}
use Rattle.bp_layout.specs.Whole.{FailsWhole, IsFileSystem}
use Rattle.bp_layout.specs.Whole.FailsWhole.{first, second}
use Rattle.bp_layout.specs.Words.{Image, word, block_count}
use Rattle.bp_layout.specs.declared.check.Check.{Check}
use Rattle.bp_layout.proofs.BothTrees.{none_fails_whole}
use Rattle.bp_layout.proofs.TreeImages.{length-snapshot, snapshot-version, snapshot-word}
use Rattle.bp_limits.specs.Limits.{magic}
use Rattle.bp_scan.specs.Faults.{IsFault, IsFaultBy, IsScanFault, IsTreeFault, of_second}
use Rattle.bp_scan.specs.declared.fault.MountFault.{MountFault}
use Rattle.bp_scan.specs.declared.fault.MountFault.TheVariants.{NotFormatted, BadSize, Damaged, Memory}
use Rattle.bp_scan.specs.Walked.{IsWalkFault, fault_of_walk}
use Rattle.bp_scan.specs.declared.name_check.WalkFault.{WalkFault}
use Rattle.bp_scan.specs.declared.name_check.WalkFault.TheVariants.{Check as Checked, Memory as NoMemory}

fault_refutes : (DoesFail : Check → ℕ → Type 0) (image : Image) (fault : MountFault) → IsFaultBy DoesFail image fault → IsFormatted image → ((check : Check) (place : ℕ) → DoesFail check place → ⊥) → ⊥
fault_refutes DoesFail image NotFormatted no_magic formatted none = no_magic (version_of image) formatted.has_magic
fault_refutes DoesFail image (BadSize found wanted) is formatted none = is.1 formatted.counted
fault_refutes DoesFail image (Damaged check place) is formatted none = none check place is.2
fault_refutes DoesFail image Memory is formatted none = is

-- no fault is one of a file system
pub no_fault : (image : Image) (fault : MountFault) → IsFileSystem image → IsFault image fault → ⊥
no_fault image fault fs is = fault_refutes (FailsWhole image) image fault is fs.first.formatted (none_fails_whole image fs)

-- the scan of a file system fails only for want of memory, and if its names are known, not at all
pub no_memory : (image : Image) (known : Bool) (fault : MountFault) → IsFileSystem image → IsScanFault known (IsFault image) fault → (fault ≡ Memory) × (known ≡ false)
no_memory image known fault fs (inl none) = none
no_memory image known fault fs (inr is) = absurd (no_fault image fault fs is)

-- the fault of a walk is one of the image
pub walk_faults : (image : Image) (known : Bool) (fault : WalkFault) → IsFormatted image → IsWalkFault (Fails image) known fault → IsScanFault known (IsTreeFault image) (fault_of_walk fault)
walk_faults image known (Checked fault) formatted fails = inr (formatted.has_magic, formatted.counted, fails)
walk_faults image known NoMemory formatted unknown = inl (refl, unknown)

-- a fault of the first tree is one of the image
pub first_faults : (image : Image) (fault : MountFault) → IsTreeFault image fault → IsFault image fault
first_faults image NotFormatted is = is
first_faults image (BadSize found wanted) is = is
first_faults image (Damaged check place) is = (is.0, is.1, first is.2)
first_faults image Memory is = is

pub first_scan_faults : (image : Image) (known : Bool) (fault : MountFault) → IsScanFault known (IsTreeFault image) fault → IsScanFault known (IsFault image) fault
first_scan_faults image known fault (inl none) = inl none
first_scan_faults image known fault (inr is) = inr (first_faults image fault is)

-- and so is one of the second, stated at the places of that
pub second_faults : (image : Image) → has_snapshot image ≡ true → (fault : MountFault) → IsTreeFault (snapshot_of image) fault → IsFault image (of_second fault)
second_faults image there fault is = go fault is
  where
    magic_number : word (snapshot_of image) 0 ≡ word image 0
    magic_number = snapshot-word image 0 (λ e. omega (arith, e)) (λ e. omega (arith, e))

    number : word (snapshot_of image) 1 ≡ word image 1
    number = snapshot-word image 1 (λ e. omega (arith, e)) (λ e. omega (arith, e))

    count : block_count (snapshot_of image) ≡ block_count image
    count = ap (λ n. n / 512) (length-snapshot image)

    has_magic : word (snapshot_of image) 0 ≡ magic (version_of (snapshot_of image)) → word image 0 ≡ magic (version_of image)
    has_magic e = sym magic_number ∙ e ∙ ap magic (snapshot-version image)

    go : (fault : MountFault) → IsTreeFault (snapshot_of image) fault → IsFault image (of_second fault)
    go NotFormatted no_magic = λ version e. no_magic version (magic_number ∙ e)
    go (BadSize found wanted) is =
        (has_magic is.0, λ e. is.1 (number ∙ e ∙ sym count), is.2 ∙ ap (λ n. 4096 * n) count, is.3 ∙ ap (λ n. min (4096 * n) (2 ^ 64 - 1)) number)
    go (Damaged check place) is = (has_magic is.0, sym number ∙ is.1 ∙ count, second there is.2)
    go Memory is = is

pub second_scan_faults : (image : Image) → has_snapshot image ≡ true → (known : Bool) (fault : MountFault) → IsScanFault known (IsTreeFault (snapshot_of image)) fault → IsScanFault known (IsFault image) (of_second fault)
second_scan_faults image there known fault (inl none) = inl (ap of_second none.0, none.1)
second_scan_faults image there known fault (inr is) = inr (second_faults image there fault is)
