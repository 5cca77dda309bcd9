-- What a change makes of an image that means the same as a first one, it makes of the first: of the plain tree, and of what the first is asked for.
use Rattle.std.proofs.Common.{◌≡◌, ℕ, List, [], ◌∷◌, ◌++◌, Some, None, sym, ◌∙◌, subst}
use Rattle.bp_calls.specs.Created.{EntersName, LinksEntry}
use Rattle.bp_calls.specs.OnTrees.{GainsName, GetsBytes, GetsPieces, GetsSize, LosesName, SharesName}
use Rattle.bp_calls.specs.Resized.{ResizesFile}
use Rattle.bp_calls.specs.WritesFile.{WritesFile}
use Rattle.bp_calls.proofs.AfterLaws.{slot_named_over}
use Rattle.bp_calls.proofs.EnteredStands.{entered_gains, linked_shares}
use Rattle.bp_calls.proofs.LeavingThawed.{leaving_on}
use Rattle.bp_calls.proofs.ResizedStands.{resized_gets}
use Rattle.bp_calls.proofs.WrittenStands.{written_gets}
use Rattle.bp_changes.specs.Effects.{CanUnlink, IsAtOrBelow, RemovesEntry}
use Rattle.bp_changes.specs.Overwrites.{OverwritesFiles, Patch}
use Rattle.bp_changes.specs.SameMeaning.{SameMeaning}
use Rattle.bp_changes.specs.Thawed.{AfterThaw, SameShape}
use Rattle.bp_changes.proofs.ReachedOn.{names_on, reached_on}
use Rattle.bp_changes.proofs.SameMeaning.{name-same, names-back, same-by_meaning, view-same, well_formed-same}
use Rattle.bp_layout.specs.Paths.{rest_below, Name, Path}
use Rattle.bp_layout.specs.Directory.{EntryNames, ino_at, name_at}
use Rattle.bp_layout.specs.Lookup.{lookup}
use Rattle.bp_layout.specs.Reached.{IsReached}
use Rattle.bp_layout.specs.Reached.IsReached.{named, root_directory}
use Rattle.bp_layout.specs.Same.{Same}
use Rattle.bp_layout.specs.WellFormed.{IsWellFormed}
use Rattle.bp_layout.specs.Words.{Image}
use Rattle.bp_layout.specs.declared.fields.Kind.{Kind}
use Rattle.bp_layout.proofs.View.{lookup_from-reached, lookup_from-same}
use Rattle.bp_plain.specs.Calls.{Piece}
use Rattle.bp_plain.specs.Plain.{with_moved, with_nothing}
use Rattle.bp_plain.specs.PlainTree.{PathMap}
use Rattle.bp_plain.specs.Stands.{Shows}
use Rattle.bp_rename.specs.CanRename.{CanRename, moved_inode}
use Rattle.bp_rename.specs.MovesPath.{MovesPath}
use Rattle.bp_rename.specs.RenamesEntry.{RenamesEntry}
use Rattle.bp_rename.specs.declared.moves.Move.{Move}
use Rattle.bp_rename.proofs.OntoLaws.{replaced}
use Rattle.bp_rename.proofs.Outside.{below_before}
use Rattle.bp_rename.proofs.RenamedStands.{renamed_moves}
use Rattle.bp_stands.specs.Pieces.{ArePatches, PieceFinds}
use Rattle.bp_stands.specs.Pieces.ArePatches.{none, more}
use Rattle.bp_stands.proofs.OverwriteStands.{pieces_shows}
use Rattle.bp_stands.proofs.UnlinkStands.{unlink_shows}

-- ---- an image that means the same

module _ (old middle : Image) (wf : IsWellFormed old) (same : SameMeaning old middle) where
  shows_on : (map : PathMap) → Shows old map → Shows middle map
  shows_on map shows =
      let alike : Same old middle = same-by_meaning old middle wf same in
      record {
        well_formed = alike.new_well_formed;
        shows = λ path. shows.shows path ∙ sym (alike.shows path);
        one = λ p q. shows.one p q ∙ sym (alike.one p q);
      }

  lookup_on : (path : Path) (i : ℕ) → lookup old path ≡ Some i → lookup middle path ≡ Some i
  lookup_on path i at = lookup_from-same old middle (view-same old middle wf same).directories 1 path root_directory ∙ at

  -- a name that may move may move there
  module _ (move : Move) (can : CanRename old move) where
    moved_same : moved_inode middle move ≡ moved_inode old move
    moved_same = same.ino move.from_dir move.from_slot can.source can.entry.directory can.entry.in_size

    there_same : (r : ℕ) → move.to_slot ≡ Some r → ino_at middle move.to_dir r ≡ ino_at old move.to_dir r
    there_same r has = same.ino move.to_dir r can.target can.directory (replaced old move r can has).in_size

    pub rename_on : CanRename middle move
    rename_on = record {
      well_formed = well_formed-same old middle wf same;
      source = reached_on old middle same move.from_dir can.source;
      entry = subst (EntryNames middle move.from_dir move.from_slot) (sym moved_same) (names_on old middle same move.from_dir move.from_slot (moved_inode old move) can.source can.entry);
      target = reached_on old middle same move.to_dir can.target;
      directory = same.kind move.to_dir can.target ∙ can.directory;
      outside = λ under. can.outside (below_before old middle wf same move.from_dir move.from_slot (moved_inode old move) can.source can.entry move.to_dir
          (subst (λ x. IsAtOrBelow middle x move.to_dir) moved_same under));
      name = can.name;
      slot = slot_named_over old middle wf same move.to_dir move.name.now can.target can.directory ∙ can.slot;
      apart = λ r has one. can.apart r has (sym (there_same r has) ∙ one ∙ moved_same);
      alone = λ r x l has n. can.alone r x l has (names-back old middle wf same (ino_at old move.to_dir r) x l (named r can.target (replaced old move r can has))
          (subst (λ k. EntryNames middle k x l) (there_same r has) n));
    }

-- ---- what the plain tree gets

module _ (old new : Image) (wf : IsWellFormed old) where
  pub created_gains : (i : ℕ) (name : Name) (kind : Kind) → AfterThaw (EntersName i name kind) old new → GainsName i name kind old new
  created_gains i name kind after map here shows at =
      entered_gains after.middle new (well_formed-same old after.middle wf after.thawed.meaning) i name kind after.effect map here
      (shows_on old after.middle wf after.thawed.meaning map shows) (lookup_on old after.middle wf after.thawed.meaning here i at)

  pub named_shares : (i : ℕ) (name : Name) (j : ℕ) → AfterThaw (LinksEntry i name j) old new → SharesName i name j old new
  named_shares i name j after map from here shows file directory =
      linked_shares after.middle new (well_formed-same old after.middle wf after.thawed.meaning) i name j after.effect map from here
      (shows_on old after.middle wf after.thawed.meaning map shows) (lookup_on old after.middle wf after.thawed.meaning from j file)
      (lookup_on old after.middle wf after.thawed.meaning here i directory)

  pub removed_loses : (i s : ℕ) → CanUnlink old i s (ino_at old i s) → AfterThaw (λ image later. RemovesEntry image later i s) old new → LosesName i s old new
  removed_loses i s can after map here shows at =
      subst (λ name. Shows new (with_nothing map (here ++ name ∷ []))) (name-same old after.middle wf after.thawed.meaning i s (ino_at old i s) can.reached can.entry)
      (unlink_shows after.middle new (well_formed-same old after.middle wf after.thawed.meaning) i s (ino_at after.middle i s)
      (leaving_on old after.middle wf after.thawed.meaning i s can) after.effect here (lookup_on old after.middle wf after.thawed.meaning here i at) map
      (shows_on old after.middle wf after.thawed.meaning map shows))

  pub sized_gets : (i size : ℕ) → AfterThaw (ResizesFile i size) old new → GetsSize i size old new
  sized_gets i size after map here shows at =
      resized_gets after.middle new (well_formed-same old after.middle wf after.thawed.meaning) i size after.effect map here
      (shows_on old after.middle wf after.thawed.meaning map shows) (lookup_on old after.middle wf after.thawed.meaning here i at)

  pub bytes_gets : (i offset : ℕ) (bytes : List ℕ) → AfterThaw (WritesFile i offset bytes) old new → GetsBytes i offset bytes old new
  bytes_gets i offset bytes after map here shows at =
      written_gets after.middle new (well_formed-same old after.middle wf after.thawed.meaning) i offset bytes after.effect map here
      (shows_on old after.middle wf after.thawed.meaning map shows) (lookup_on old after.middle wf after.thawed.meaning here i at)

  pub path_moves : (move : Move) → CanRename old move → AfterThaw (RenamesEntry move) old new → MovesPath move old new
  path_moves move can after map from to shows from_is to_is outside =
      let same : name_at after.middle move.from_dir move.from_slot ≡ name_at old move.from_dir move.from_slot =
      name-same old after.middle wf after.thawed.meaning move.from_dir move.from_slot (moved_inode old move) can.source can.entry in
      subst (λ name. Shows new (with_moved map (from ++ name ∷ []) (to ++ move.name.now ∷ []))) same
      (renamed_moves after.middle new move (rename_on old after.middle wf after.thawed.meaning move can) after.effect map from to
      (shows_on old after.middle wf after.thawed.meaning map shows) (lookup_on old after.middle wf after.thawed.meaning from move.from_dir from_is)
      (lookup_on old after.middle wf after.thawed.meaning to move.to_dir to_is) (subst (λ name. rest_below (from ++ name ∷ []) to ≡ None) (sym same) outside))

-- ---- pieces

module _ (old middle : Image) (wf : IsWellFormed old) (shape : SameShape old middle) where
  piece_on : (piece : Piece) (i : ℕ) → PieceFinds old piece i → PieceFinds middle piece i
  piece_on piece i finds =
      let reached : IsReached old i = lookup_from-reached old 1 i finds.path root_directory finds.inode in
      record {
        path = finds.path;
        parsed = finds.parsed;
        inode = lookup_on old middle wf shape.meaning finds.path i finds.inode;
        is_file = shape.meaning.kind i reached ∙ finds.is_file;
        within = rw (shape.sizes i reached) finds.within;
      }

  patches_on : (pieces : List Piece) (patches : List Patch) → ArePatches old pieces patches → ArePatches middle pieces patches
  patches_on _ _ none = none
  patches_on _ _ (more {piece} {pieces} {patches} {i} finds rest) = more (piece_on piece i finds) (patches_on pieces patches rest)

pub pieces_get : (old new : Image) → IsWellFormed old → (pieces : List Piece) (patches : List Patch) → ArePatches old pieces patches → AfterThaw (OverwritesFiles patches) old new → GetsPieces pieces old new
pieces_get old new wf pieces patches are after map shows =
    pieces_shows after.middle new (well_formed-same old after.middle wf after.thawed.meaning) pieces patches (patches_on old after.middle wf after.thawed pieces patches are) after.effect map
    (shows_on old after.middle wf after.thawed.meaning map shows)
