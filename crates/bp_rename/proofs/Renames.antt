-- Which change each way of a rename is.
use Rattle.std.proofs.Common.{◌≡◌, ◌≢◌, ℕ, ◌==◌, length, Bool, true, false, Option, None, Some, if◌then◌else◌, refl, sym, ◌∙◌, ap, subst}
use Rattle.std.proofs.lemmas.Bool.{eq-eqb, ne_eqb}
use Rattle.bp_changes.specs.Effects.{MovesEntry}
use Rattle.bp_changes.proofs.ShapeLaws.{IsOfReached}
use Rattle.bp_layout.specs.Inode.{IsDirectory}
use Rattle.bp_layout.specs.Need.{Change}
use Rattle.bp_layout.specs.Need.Change.{moves, replaces, respells}
use Rattle.bp_layout.specs.Reached.{IsReached}
use Rattle.bp_layout.specs.Words.{Image}
use Rattle.bp_changes.specs.Performs.{PerformsThawed}
use Rattle.pm_region.specs.Memory.{Memory, current_words}
use Rattle.bp_rename.specs.CanRename.{CanRename, change_of, change_to, moved_inode}
use Rattle.bp_rename.specs.RenamesEntry.{RenamesEntry}
use Rattle.bp_rename.specs.RenamesEntry.RenamesEntry.{onto}
use Rattle.bp_rename.specs.declared.moves.Move.{Move}

module _ (move : Move) where
  pub onto_change : (r : ℕ) → move.to_slot ≡ Some r → change_of move ≡ replaces move.from_dir move.from_slot move.to_dir r
  onto_change r is = ap (change_to move.from_dir move.from_slot move.to_dir (length move.name.now)) is

  pub within_change : move.to_slot ≡ None → move.from_dir ≡ move.to_dir → change_of move ≡ respells move.from_dir move.from_slot (length move.name.now)
  within_change none here = ap (change_to move.from_dir move.from_slot move.to_dir (length move.name.now)) none ∙ rw (eq-eqb move.from_dir move.to_dir here) refl

  pub across_change : move.to_slot ≡ None → move.from_dir ≢ move.to_dir → change_of move ≡ moves move.from_dir move.from_slot move.to_dir
  across_change none other = ap (change_to move.from_dir move.from_slot move.to_dir (length move.name.now)) none ∙ rw (ne_eqb move.from_dir move.to_dir other) refl

-- it is one of reached directories
of_change : (image : Image) (i s j len : ℕ) (slot : Option ℕ) → IsReached image i → IsReached image j → IsDirectory image j → IsOfReached image (change_to i s j len slot)
of_change image i s j len (Some r) source target directory = (source, target)
of_change image i s j len None source target directory = go (i == j)
  where
    go : (here : Bool) → IsOfReached image (if here then respells i s len else moves i s j)
    go true = source
    go false = (source, (target, directory))

pub rename_of : (image : Image) (move : Move) → CanRename image move → IsOfReached image (change_of move)
rename_of image move can = of_change image move.from_dir move.from_slot move.to_dir (length move.name.now) move.to_slot can.source can.target can.directory

-- another word for what it does
thawed_as : (in_snapshot : ℕ → Bool) (old new : Memory) (change : Change) (Effect Other : Image → Image → Type 0) → PerformsThawed in_snapshot old new change Effect →
    (Effect (current_words old) (current_words new) → Other (current_words old) (current_words new)) → PerformsThawed in_snapshot old new change Other
thawed_as in_snapshot old new change Effect Other done other = record {
  value = done.value;
  commit = done.commit;
  taken = done.taken;
  takes = done.takes;
  number = done.number;
  in_open = done.in_open;
  well_formed = done.well_formed;
  effect = other done.effect;
}

module _ (in_snapshot : ℕ → Bool) (old new : Memory) (move : Move) where
  pub onto_renames : (r : ℕ) → move.to_slot ≡ Some r →
      PerformsThawed in_snapshot old new (replaces move.from_dir move.from_slot move.to_dir r) (λ image after. MovesEntry image after move.from_dir move.from_slot move.to_dir r (moved_inode image move)) →
      PerformsThawed in_snapshot old new (change_of move) (RenamesEntry move)
  onto_renames r is performs =
      subst (λ change. PerformsThawed in_snapshot old new change (RenamesEntry move)) (sym (onto_change move r is))
      (thawed_as in_snapshot old new (replaces move.from_dir move.from_slot move.to_dir r) (λ image after. MovesEntry image after move.from_dir move.from_slot move.to_dir r (moved_inode image move))
      (RenamesEntry move) performs (λ moved. onto r is moved))

  pub within_renames : move.to_slot ≡ None → move.from_dir ≡ move.to_dir → PerformsThawed in_snapshot old new (respells move.from_dir move.from_slot (length move.name.now)) (RenamesEntry move) →
      PerformsThawed in_snapshot old new (change_of move) (RenamesEntry move)
  within_renames none here performs = subst (λ change. PerformsThawed in_snapshot old new change (RenamesEntry move)) (sym (within_change move none here)) performs

  pub across_renames : move.to_slot ≡ None → move.from_dir ≢ move.to_dir → PerformsThawed in_snapshot old new (moves move.from_dir move.from_slot move.to_dir) (RenamesEntry move) →
      PerformsThawed in_snapshot old new (change_of move) (RenamesEntry move)
  across_renames none other performs = subst (λ change. PerformsThawed in_snapshot old new change (RenamesEntry move)) (sym (across_change move none other)) performs
