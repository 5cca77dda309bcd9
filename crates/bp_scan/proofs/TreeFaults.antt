-- A check fails in a tree that is not entered yet.
use Rattle.std.proofs.Common.{◌≡◌, ◌≢◌, ℕ, ◌≤◌, Bool, true, false, ◌∙◌, ap, inr, arith}
use Rattle.bp_free.specs.Set.{Set, has}
use Rattle.bp_layout.specs.Words.{Image}
use Rattle.bp_layout.specs.Checks.{IsFound, Fails, root_place}
use Rattle.bp_layout.specs.declared.check.Check.{Check}
use Rattle.bp_layout.specs.Inode.{kind_of, root_of, size_of}
use Rattle.bp_walk.specs.Walk.{FailsTree}
use Rattle.bp_walk.proofs.TakenLaws.{clash}
use Rattle.bp_scan.specs.Progress.{IsEntered, IsDone, IsMidway}
use Rattle.bp_scan.proofs.Entering.{fails_tree, reports_of}

pub fails_midway : (image : Image) (blocks inodes todo : Set) (current slot t : ℕ) (holes : Bool) → 4096 ≤ size_of image 0 → IsMidway image blocks inodes todo current slot → has inodes 0 ≡ false →
    has inodes t ≡ true → IsFound image t → (holes ≡ false → kind_of image t ≡ 2) → (c : Check) (p : ℕ) →
    FailsTree image (root_place image t) (root_of image t) (size_of image t) holes blocks c p → Fails image c p
fails_midway image blocks inodes todo current slot t holes some midway file new found kind =
    let first : IsEntered image inodes 0 = (omega (arith, some), file) in
    let other : t ≢ 0 = λ same. clash new (ap (has inodes) same ∙ file) in
    fails_tree image (IsEntered image inodes) midway.all blocks midway.whole midway.under_way.scanned.takes some (λ u e. first)
    t (λ some_t. reports_of image (IsEntered image inodes) (IsDone image inodes todo current slot) midway.all blocks some first midway.under_way.scanned) found (λ some_t. first)
    (λ e. clash new e.1) (λ same u e. absurd (other same)) holes (λ closed. inr (kind closed))
