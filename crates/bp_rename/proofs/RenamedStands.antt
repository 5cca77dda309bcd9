-- A renamed name has moved in the plain tree, and names that paths find may move.
use Rattle.std.specs.Option.{option_and_then}
use Rattle.std.proofs.Common.{◌≡◌, ℕ, [], ◌∷◌, ◌++◌, Some, sym, ◌∙◌, ap, subst}
use Rattle.bp_layout.specs.Directory.{EntryNames, lookup_in, name_at}
use Rattle.bp_layout.specs.Paths.{Name, Path}
use Rattle.bp_layout.specs.Inode.{kind_of}
use Rattle.bp_layout.specs.Reached.{IsReached}
use Rattle.bp_layout.specs.Reached.IsReached.{root_directory}
use Rattle.bp_layout.specs.WellFormed.{IsWellFormed}
use Rattle.bp_layout.specs.Words.{Image}
use Rattle.bp_layout.proofs.LookupLaws.{lookup_in-shows}
use Rattle.bp_layout.proofs.Paths.{lookup_from-append, path_once}
use Rattle.bp_layout.proofs.View.{lookup_from-reached}
use Rattle.bp_changes.proofs.MoveReach.{outside_by_paths}
use Rattle.bp_calls.specs.Removed.{IsFoundAt}
use Rattle.bp_plain.specs.Plain.{with_moved}
use Rattle.bp_plain.specs.Stands.{Shows}
use Rattle.bp_stands.proofs.MoveStands.{carry_shows, entry_move_shows, respell_shows}
use Rattle.bp_rename.specs.CanRename.{CanRename, moved_inode}
use Rattle.bp_rename.specs.MovesPath.{IsFoundTarget, MovesPath}
use Rattle.bp_rename.specs.RenamesEntry.{RenamesEntry}
use Rattle.bp_rename.specs.RenamesEntry.RenamesEntry.{onto, within, across}
use Rattle.bp_rename.specs.declared.moves.Move.{Move}
use Rattle.bp_rename.proofs.FoundNames.{found_entry, found_name}
use Rattle.bp_rename.proofs.OntoLaws.{onto_can, spelled}

-- ---- the plain tree

module _ (old new : Image) (move : Move) (can : CanRename old move) where
  abbrev was : Name
  was = name_at old move.from_dir move.from_slot

  pub renamed_moves : RenamesEntry move old new → MovesPath move old new
  renamed_moves (onto r is moves) map from to shows from_is to_is outside =
      subst (λ n. Shows new (with_moved map (from ++ was ∷ []) (to ++ n ∷ []))) (spelled old move r can is)
      (entry_move_shows old new can.well_formed move.from_dir move.from_slot move.to_dir r (moved_inode old move) (onto_can old move r can is) moves
      from to from_is to_is outside map shows)
  renamed_moves (within none same spells now) map from to shows from_is to_is outside =
      let one : to ≡ from = path_once old can.well_formed to from move.from_dir (to_is ∙ ap Some (sym same)) from_is can.entry.directory in
      subst (λ n. Shows new (with_moved map (from ++ was ∷ []) (to ++ n ∷ []))) now
      (subst (λ p. Shows new (with_moved map (from ++ was ∷ []) (p ++ name_at new move.from_dir move.from_slot ∷ []))) (sym one)
      (respell_shows old new can.well_formed move.from_dir move.from_slot (moved_inode old move) spells from from_is map shows))
  renamed_moves (across none other carries now) map from to shows from_is to_is outside =
      subst (λ n. Shows new (with_moved map (from ++ was ∷ []) (to ++ n ∷ []))) now
      (carry_shows old new can.well_formed move.from_dir move.from_slot move.to_dir _ (moved_inode old move) carries from to from_is to_is outside map shows)

-- ---- what paths find

module _ (image : Image) (wf : IsWellFormed image) (move : Move) (from to : Path) (name : Name) (j : ℕ) (source : IsFoundAt image from name move.from_dir move.from_slot j)
    (target : IsFoundTarget image (from ++ name ∷ []) to move) where
  from_reached : IsReached image move.from_dir
  from_reached = lookup_from-reached image 1 move.from_dir from root_directory source.directory

  to_reached : IsReached image move.to_dir
  to_reached = lookup_from-reached image 1 move.to_dir to root_directory target.found

  in_directory : lookup_in image move.from_dir name ≡ Some j
  in_directory = sym (ap (option_and_then (λ k. lookup_in image k name)) source.directory) ∙ sym (lookup_from-append image 1 from name) ∙ source.inode

  directory : kind_of image move.from_dir ≡ 2
  directory = (lookup_in-shows image move.from_dir j name in_directory).entry.directory

  entry : EntryNames image move.from_dir move.from_slot (moved_inode image move)
  entry = found_entry image move.from_dir move.from_slot name directory source.slot

  named : name_at image move.from_dir move.from_slot ≡ name
  named = found_name image move.from_dir move.from_slot name directory source.slot

  pub found_can_rename : CanRename image move
  found_can_rename = record {
    well_formed = wf;
    source = from_reached;
    entry = entry;
    target = to_reached;
    directory = target.directory;
    outside = outside_by_paths image wf move.from_dir move.from_slot (moved_inode image move) move.to_dir from_reached entry from to source.directory target.found
        target.directory (rw named target.outside);
    name = target.name;
    slot = target.slot;
    apart = target.apart;
    alone = λ r x l is n. (target.leaves r is).alone x l n;
  }
