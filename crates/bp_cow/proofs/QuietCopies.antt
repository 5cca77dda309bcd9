-- The stores of copies are quiet: they go to blocks to which no pointer leads.
use Rattle.std.proofs.Common.{◌≡◌, ◌⊎◌, ℕ, ◌+◌, ◌/◌, ◌≤◌, Bool, false, subst, arith, inl, inr, ap, ◌∙◌, true}
use Rattle.pm_epochs.specs.Crash.{IsQuiet, commit}
use Rattle.pm_epochs.specs.May.{AnyAt, EachMay}
use Rattle.pm_epochs.proofs.MayLaws.{quiet_may}
use Rattle.pm_epochs.proofs.PieceLaws.{IsPiece-append, IsPiece-commit, IsPiece-more}
use Rattle.pm_region.specs.Memory.{Memory, current_words, Adds}
use Rattle.pm_region.proofs.MemoryLaws.{adds_both}
use Rattle.bp_changes.proofs.PerformsLaws.{same_equivalence}
use Rattle.bp_layout.specs.Words.{Image, word}
use Rattle.bp_layout.specs.Inode.{size_of}
use Rattle.bp_layout.specs.Reached.{IsReached}
use Rattle.bp_layout.specs.WellFormed.{IsWellFormed}
use Rattle.bp_layout.specs.Same.{Same}
use Rattle.bp_changes.specs.Forest.{IsExactSet, IsForest, IsTreePointer}
use Rattle.bp_layout.proofs.SameLaws.{same_symmetric}
use Rattle.bp_changes.proofs.Unseen.{same_unseen}
use Rattle.bp_free.specs.Set.{Set, has}
use Rattle.pm_region.proofs.MayLaws.{may_frame}
use Rattle.bp_cow.specs.Adds.{IsTakenWord, AddsCopies, MakesCopies, AddsCopyCommit}

-- a word of a block that was not free at the start stays
pub makes_stay : {start : ℕ → Bool} {taken most : ℕ} {before after : Set} {old new : Memory} → MakesCopies start taken most before after old new → (w : ℕ) → start (w / 512) ≡ false →
    word (current_words new) w ≡ word (current_words old) w
makes_stay {start} {taken} {most} {before} {after} {old} {new} makes w used =
    may_frame (AnyAt (IsTakenWord start (has after))) 0 most old new makes.stores.part w (λ value one. clash (ap start one.inside ∙ one.was))
  where
    clash : start (w / 512) ≡ true → ⊥
    clash free = absurd (cc)

module _ {in_snapshot : ℕ → Bool} {old : Image} {bound : ℕ → ℕ} {start : ℕ → Bool} (wf : IsWellFormed old) (forest : IsForest old bound) (sizes : (t : ℕ) → IsReached old t → size_of old t ≤ bound t)
    (exact : IsExactSet old (IsTreePointer old bound) in_snapshot start) where
  same : (taken : ℕ → Bool) (image : Image) → EachMay (AnyAt (IsTakenWord start taken)) old image → Same old image
  same taken image each = same_symmetric image old (same_unseen old bound in_snapshot start wf forest sizes exact image each.size (λ place used. go place used (each.each place)))
    where
      go : (place : ℕ) → start (place / 512) ≡ false → (word image place ≡ word old place) ⊎ IsTakenWord start taken place → word image place ≡ word old place
      go place used (inl e) = e
      go place used (inr one) = let was : start (place / 512) ≡ true = ap start one.inside ∙ one.was in absurd (cc)

  pub copy_commit : {most all : ℕ} → most + 1 ≤ all → {taken : ℕ → Bool} {first middle last : Memory} → old ≡ current_words first → (place value : ℕ) → AddsCopies start start taken most first middle →
      Adds middle last (commit place value) → AddsCopyCommit start taken place all first last
  copy_commit {most} {all} few {taken} {first} {middle} {last} is place value copies adds = record {
    value = value;
    commit = record {
      prepared = copies.part.added;
      adds = adds_both first middle last copies.part.added (commit place value) copies.part.adds adds;
      quiet = subst (λ ws. IsQuiet Same ws copies.part.added) is (quiet_may Same same_equivalence (AnyAt (IsTakenWord start taken)) old copies.part.added (same taken) copies.part.may);
      piece = IsPiece-more (0 + 2) (most + 1) 2 all _ (omega arith) few (IsPiece-append 0 most 2 1 copies.part.added (commit place value) copies.part.piece (IsPiece-commit place value));
    };
    only = copies.part.may;
    each = copies.each;
    fewer = copies.fewer;
  }
