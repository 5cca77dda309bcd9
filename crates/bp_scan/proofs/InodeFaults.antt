-- A check that an inode fails which is not entered yet fails in the image.
use Rattle.std.proofs.Common.{◌≢◌, ℕ, zero, suc, ◌≤◌, Result, Ok, Err, IfErr, refl, sym, ap, subst, arith, inr}
use Rattle.bp_free.specs.Set.{Set}
use Rattle.bp_layout.specs.Words.{Image}
use Rattle.bp_layout.specs.Inode.{kind_of, size_of}
use Rattle.bp_layout.specs.Checks.{IsFound, Fails, inode_place}
use Rattle.bp_layout.specs.Checks.Fails.{kind, root_kind, directory_size}
use Rattle.bp_layout.specs.declared.check.Check.{Check}
use Rattle.bp_scan.specs.Scanned.{IsScanned, HasAllBlocks}
use Rattle.bp_scan.specs.Inodes.{IsRightInode, IsWrong, FailsInode}
use Rattle.bp_scan.specs.Inodes.IsWrong.{no_kind, root_file, part_of_entry}
use Rattle.bp_scan.specs.Inodes.FailsInode.{words, tree}
use Rattle.bp_scan.proofs.Entering.{IsInode, fails_tree, reports_of}
use Rattle.bp_scan.proofs.InodePlaces.{size_after}

pub err_then : {T E : Type 0} {P R : E → Type 0} (r : Result T E) → ((e : E) → P e → R e) → IfErr r P → IfErr r R
err_then (Ok t) f p = tt
err_then (Err e) f p = f e p

-- an inode that is right may be entered
pub inode_of : (image : Image) (i : ℕ) → IsRightInode i (kind_of image i) (size_of image i) → IsInode image i
inode_of image i right = record { kinds = λ k same. (right.least, right.most); sizes = right.entries }

wrong_inode : (image : Image) (i : ℕ) → IsFound image (suc i) → (c : Check) (p : ℕ) → IsWrong (suc i) (kind_of image (suc i)) (size_of image (suc i)) (inode_place image (suc i) 0) c p → Fails image c p
wrong_inode image i found _ _ (no_kind not_file not_directory) = kind found not_file not_directory refl
wrong_inode image i found _ _ (root_file same other) =
    root_kind (subst (IsFound image) same found) (subst (λ (x : ℕ). kind_of image x ≢ 2) same other) (ap (λ (x : ℕ). inode_place image x 0) (sym same))
wrong_inode image i found _ _ (part_of_entry directory odd) = directory_size found directory odd (size_after image i)

pub fails_inode : (image : Image) (E : ℕ → Type 0) (D : ℕ → ℕ → Type 0) (all left : Set) → HasAllBlocks image all → 4096 ≤ size_of image 0 → E 0 → IsScanned image E D all left →
    (t : ℕ) → 1 ≤ t → IsFound image t → (E t → ⊥) → (c : Check) (p : ℕ) → FailsInode image t left c p → Fails image c p
fails_inode image E D all left whole some first scanned zero one found new c p fails = absurd (omega (arith, one))
fails_inode image E D all left whole some first scanned (suc i) one found new c p (words wrong) = wrong_inode image i found c p wrong
fails_inode image E D all left whole some first scanned (suc i) one found new c p (tree holes which fails) =
    fails_tree image E all left whole scanned.takes some (λ t e. first) (suc i) (λ other. reports_of image E D all left some first scanned) found (λ other. first) new (λ same. absurd (omega (arith, same))) holes
    (λ closed. inr (which closed)) c p fails
