-- How many names an inode has that another one replaces.
use Rattle.std.proofs.Common.{◌≡◌, ℕ, ◌<◌, ◌≤◌, length, Some, slice_index, subst}
use Rattle.bp_changes.specs.Effects.{HasOtherName, IsLastName}
use Rattle.bp_free.specs.declared.parts.Parts.{Parts}
use Rattle.bp_layout.specs.Directory.{ino_at}
use Rattle.bp_layout.specs.Names.{HasNames}
use Rattle.bp_layout.specs.Words.{Image}
use Rattle.bp_changes.specs.Sets.{IsExact}
use Rattle.bp_calls.proofs.CountLaws.{last_name, other_name, reached_counted, some_name}
use Rattle.bp_rename.specs.CanRename.{CanRename}
use Rattle.bp_rename.specs.declared.moves.Move.{Move}
use Rattle.bp_rename.proofs.OntoLaws.{replaced, replaced_reached}

module _ {R : Type 0} (image : Image) (move : Move) (r : ℕ) (can : CanRename image move) (onto : move.to_slot ≡ Some r) (parts : Parts R) (exact : IsExact image parts) where
  pub onto_counted : ino_at image move.to_dir r < length parts.link_counts
  onto_counted = reached_counted image parts exact can.well_formed (ino_at image move.to_dir r) (replaced_reached image move r can onto)

  has : HasNames image (ino_at image move.to_dir r) (slice_index parts.link_counts (ino_at image move.to_dir r))
  has = exact.counts.each (ino_at image move.to_dir r) onto_counted

  pub onto_named : 1 ≤ slice_index parts.link_counts (ino_at image move.to_dir r)
  onto_named = some_name image move.to_dir r (ino_at image move.to_dir r) can.target (replaced image move r can onto) (slice_index parts.link_counts (ino_at image move.to_dir r)) has

  pub onto_last : slice_index parts.link_counts (ino_at image move.to_dir r) ≡ 1 → IsLastName image move.to_dir r (ino_at image move.to_dir r)
  onto_last one = last_name image move.to_dir r (ino_at image move.to_dir r) can.target (replaced image move r can onto) (subst (HasNames image (ino_at image move.to_dir r)) one has)

  pub onto_other : 2 ≤ slice_index parts.link_counts (ino_at image move.to_dir r) → HasOtherName image move.to_dir r (ino_at image move.to_dir r)
  onto_other many = other_name image move.to_dir r (ino_at image move.to_dir r) can.target (replaced image move r can onto) (slice_index parts.link_counts (ino_at image move.to_dir r)) many has
