-- What may be renamed may be renamed after a thaw, and what is made of it then is made of the plain tree before it.
use Rattle.std.proofs.Common.{◌≡◌, ℕ, ◌∷◌, ◌++◌, [], None, Some, sym, ◌∙◌, subst}
use Rattle.bp_changes.specs.Effects.{IsAtOrBelow}
use Rattle.bp_changes.specs.Thawed.{AfterThaw, SameShape}
use Rattle.bp_changes.proofs.ReachedOn.{names_on, reached_on}
use Rattle.bp_changes.proofs.SameMeaning.{name-same, names-back, well_formed-same}
use Rattle.bp_layout.specs.Paths.{rest_below, Name}
use Rattle.bp_layout.specs.Directory.{EntryNames, ino_at, name_at}
use Rattle.bp_layout.specs.Words.{Image}
use Rattle.bp_plain.specs.Plain.{with_moved}
use Rattle.bp_plain.specs.Stands.{Shows}
use Rattle.bp_calls.proofs.AfterLaws.{slot_named_over}
use Rattle.bp_calls.proofs.ThawedShows.{found_thawed, shows_thawed}
use Rattle.bp_rename.specs.CanRename.{CanRename, moved_inode}
use Rattle.bp_rename.specs.MovesPath.{MovesPath}
use Rattle.bp_rename.specs.RenamesEntry.{RenamesEntry}
use Rattle.bp_rename.specs.declared.moves.Move.{Move}
use Rattle.bp_rename.proofs.OntoLaws.{replaced, replaced_reached}
use Rattle.bp_rename.proofs.Outside.{below_before}
use Rattle.bp_rename.proofs.RenamedStands.{renamed_moves}

module _ (old mid : Image) (move : Move) (can : CanRename old move) (shape : SameShape old mid) where
  pub moved : ino_at mid move.from_dir move.from_slot ≡ moved_inode old move
  moved = shape.meaning.ino move.from_dir move.from_slot can.source can.entry.directory can.entry.in_size

  target_inode : (r : ℕ) → move.to_slot ≡ Some r → ino_at mid move.to_dir r ≡ ino_at old move.to_dir r
  target_inode r is = shape.meaning.ino move.to_dir r can.target can.directory (replaced old move r can is).in_size

  pub rename_on : CanRename mid move
  rename_on = record {
    well_formed = well_formed-same old mid can.well_formed shape.meaning;
    source = reached_on old mid shape.meaning move.from_dir can.source;
    entry = subst (EntryNames mid move.from_dir move.from_slot) (sym moved)
        (names_on old mid shape.meaning move.from_dir move.from_slot (moved_inode old move) can.source can.entry);
    target = reached_on old mid shape.meaning move.to_dir can.target;
    directory = shape.meaning.kind move.to_dir can.target ∙ can.directory;
    outside = λ below.
        can.outside (below_before old mid can.well_formed shape.meaning move.from_dir move.from_slot (moved_inode old move) can.source can.entry move.to_dir
        (subst (λ x. IsAtOrBelow mid x move.to_dir) moved below));
    name = can.name;
    slot = slot_named_over old mid can.well_formed shape.meaning move.to_dir move.name.now can.target can.directory ∙ can.slot;
    apart = λ r is same. can.apart r is (sym (target_inode r is) ∙ same ∙ moved);
    alone = λ r x l is names.
        can.alone r x l is
        (names-back old mid can.well_formed shape.meaning (ino_at old move.to_dir r) x l (replaced_reached old move r can is)
        (subst (λ u. EntryNames mid u x l) (target_inode r is) names));
  }

pub renamed_after : (old new : Image) (move : Move) → CanRename old move → AfterThaw (RenamesEntry move) old new → MovesPath move old new
renamed_after old new move can after map from to shows from_is to_is outside =
    let same = after.thawed.meaning in
    let name : name_at after.middle move.from_dir move.from_slot ≡ name_at old move.from_dir move.from_slot =
    name-same old after.middle can.well_formed same move.from_dir move.from_slot (moved_inode old move) can.source can.entry in
    subst (λ (n : Name). Shows new (with_moved map (from ++ n ∷ []) (to ++ move.name.now ∷ []))) name
    (renamed_moves after.middle new move (rename_on old after.middle move can after.thawed) after.effect map from to (shows_thawed old after.middle can.well_formed same map shows)
    (found_thawed old after.middle can.well_formed same from move.from_dir from_is) (found_thawed old after.middle can.well_formed same to move.to_dir to_is)
    (subst (λ (n : Name). rest_below (from ++ n ∷ []) to ≡ None) (sym name) outside))
