-- The plain tree of an image in which a name has moved: what was one file is one file where it lies now.
use Rattle.std.proofs.Common.{◌≡◌, ℕ, [], ◌∷◌, ◌++◌, Bool, true, false, Option, None, Some, option_and_then, ◌==◌, refl, sym, ◌∙◌, ap}
use Rattle.bp_layout.specs.Words.{Image}
use Rattle.bp_layout.specs.Directory.{name_at}
use Rattle.bp_layout.specs.Paths.{Name, Path, Node, rest_below}
use Rattle.bp_layout.specs.Inode.{attributes_of, kind_of, root_of, size_of}
use Rattle.bp_layout.specs.Tree.{content}
use Rattle.bp_layout.specs.Lookup.{file_at, if_file, lookup, node_of, shown}
use Rattle.bp_layout.specs.Paths.Node.{dir, file}
use Rattle.bp_layout.specs.Reached.IsReached.{root_directory}
use Rattle.bp_layout.specs.WellFormed.{IsWellFormed}
use Rattle.bp_layout.proofs.Below.{rest_below-is}
use Rattle.bp_layout.proofs.View.{lookup_from-reached}
use Rattle.bp_changes.specs.Effects.{CanMoveEntry, MovesEntry, RespellsEntry, CarriesEntry}
use Rattle.bp_changes.proofs.Carry.{carry_moves, carried_well_formed}
use Rattle.bp_changes.proofs.Move.{entry_moves, moved_well_formed}
use Rattle.bp_changes.proofs.Respell.{respell_moves, respelled_well_formed}
use Rattle.bp_changes.proofs.MoveName.{MovesName, not_below_target, not_longer, shown_target, shown_source, shown_elsewhere, target_aside, target_empty, lookup_target, lookup_source, lookup_elsewhere, lookup_empty}
use Rattle.bp_plain.specs.Plain.{with_moved}
use Rattle.bp_plain.specs.PlainTree.{PathMap}
use Rattle.bp_plain.specs.Stands.{Shows}
use Rattle.bp_plain.proofs.Kernels.{before_move, kernel_moved}
use Rattle.bp_plain.proofs.Moved.{get-moved, after_move}

-- an inode that is the same node is the same file
same_file : (old new : Image) (u : ℕ) → node_of new u ≡ node_of old u → if_file new u ≡ if_file old u
same_file old new u same = go (kind_of new u == 1) refl (kind_of old u == 1) refl
  where
    go : (x : Bool) → (kind_of new u == 1) ≡ x → (y : Bool) → (kind_of old u == 1) ≡ y → if_file new u ≡ if_file old u
    go true e true f = rw (e, f) refl
    go false e false f = rw (e, f) refl
    go true e false f =
        let one : node_of new u ≡ file (attributes_of new u) (content new (root_of new u) (size_of new u)) = rw e refl in
        let two : node_of old u ≡ dir (attributes_of old u) = rw f refl in
        let wrong : ◌≡◌ {A = Node} (file (attributes_of new u) (content new (root_of new u) (size_of new u))) (dir (attributes_of old u)) = sym one ∙ same ∙ two in
        absurd (cc)
    go false e true f =
        let one : node_of new u ≡ dir (attributes_of new u) = rw e refl in
        let two : node_of old u ≡ file (attributes_of old u) (content old (root_of old u) (size_of old u)) = rw f refl in
        let wrong : ◌≡◌ {A = Node} (dir (attributes_of new u)) (file (attributes_of old u) (content old (root_of old u) (size_of old u))) = sym one ∙ same ∙ two in
        absurd (cc)

-- `from` and `to` are the paths of the two directories, of which the second does not lie below the name
module _ (old new : Image) (i : ℕ) (was : Name) (k : ℕ) (now : Name) (j : ℕ) (moves : MovesName old new i was k now j)
    (from to : Path) (from_is : lookup old from ≡ Some i) (to_is : lookup old to ≡ Some k)
    (outside : rest_below (from ++ was ∷ []) to ≡ None) where
  aside : rest_below (to ++ now ∷ []) from ≡ None
  aside = not_below_target old new i was k now j moves from to from_is to_is

  abbrev source : Path
  source = from ++ was ∷ []

  abbrev target : Path
  target = to ++ now ∷ []

  files_same : (path also : Path) → lookup new path ≡ lookup old also → file_at new path ≡ file_at old also
  files_same path also e = rw e (go (lookup old also) refl)
    where
      go : (found : Option ℕ) → lookup old also ≡ found → option_and_then (if_file new) found ≡ option_and_then (if_file old) found
      go None f = refl
      go (Some u) f = same_file old new u (moves.nodes u (lookup_from-reached old 1 u also root_directory f))

  files_moved : (path : Path) → file_at new path ≡ option_and_then (file_at old) (before_move source target path)
  files_moved path = go (rest_below target path) refl (rest_below source path) refl
    where
      go : (o : Option Path) → rest_below target path ≡ o → (a : Option Path) → rest_below source path ≡ a → file_at new path ≡ option_and_then (file_at old) (before_move source target path)
      go (Some rest) e a f =
          rw e (ap (file_at new) (rest_below-is target path rest e) ∙ files_same (target ++ rest) (source ++ rest) (lookup_target old new i was k now j moves from to from_is to_is outside aside rest))
      go None e (Some rest) f =
          rw (e, f) (ap (file_at new) (rest_below-is source path rest f) ∙ ap (option_and_then (if_file new)) (lookup_source old new i was k now j moves from to from_is to_is outside aside rest))
      go None e None f =
          rw (e, f) (files_same path path (lookup_elsewhere old new i was k now j moves from to from_is to_is outside aside path e f))

  -- the map has what was below the source below the target
  pub move_shows : (map : PathMap) → Shows old map → IsWellFormed new → Shows new (with_moved map source target)
  move_shows map shows wf = record {
    well_formed = wf;
    shows = λ path. get-moved source target map.nodes (target_aside old new i was k now j moves from to from_is to_is outside aside) (λ n rest. shows.shows _ ∙ target_empty old new i was k now j moves from to from_is to_is outside aside n rest) path
        ∙ go path (rest_below target path) refl (rest_below source path) refl;
    one = (kernel_moved source target (target_aside old new i was k now j moves from to from_is to_is outside aside) (file_at old) (file_at new) map.one (record { each = shows.one })
        (λ n rest. ap (option_and_then (if_file old)) (lookup_empty old new i was k now j moves from to from_is to_is outside aside n rest)) files_moved).each;
  }
    where
      go : (path : Path) → (o : Option Path) → rest_below target path ≡ o → (a : Option Path) → rest_below source path ≡ a → after_move source target map.nodes path ≡ shown new path
      go path (Some rest) e a f =
          rw e (shows.shows (source ++ rest) ∙ sym (shown_target old new i was k now j moves from to from_is to_is outside aside rest) ∙ ap (shown new) (sym (rest_below-is target path rest e)))
      go path None e (Some rest) f = rw (e, f) (sym (shown_source old new i was k now j moves from to from_is to_is outside aside rest) ∙ ap (shown new) (sym (rest_below-is source path rest f)))
      go path None e None f = rw (e, f) (shows.shows path ∙ sym (shown_elsewhere old new i was k now j moves from to from_is to_is outside aside path e f))

-- an inode number has come from one entry into another
pub entry_move_shows : (old new : Image) (wf : IsWellFormed old) (i s k r j : ℕ) → CanMoveEntry old i s k r j → MovesEntry old new i s k r j →
    (from to : Path) → lookup old from ≡ Some i → lookup old to ≡ Some k → rest_below (from ++ name_at old i s ∷ []) to ≡ None →
    (map : PathMap) → Shows old map → Shows new (with_moved map (from ++ name_at old i s ∷ []) (to ++ name_at old k r ∷ []))
entry_move_shows old new wf i s k r j can moves from to from_is to_is outside map shows =
    move_shows old new i (name_at old i s) k (name_at old k r) j (entry_moves old new wf i s k r j can moves) from to from_is to_is outside map shows (moved_well_formed old new wf i s k r j can moves)

-- a name has come to another directory under a new name
pub carry_shows : (old new : Image) (wf : IsWellFormed old) (i s k r j : ℕ) → CarriesEntry old new i s k r j →
    (from to : Path) → lookup old from ≡ Some i → lookup old to ≡ Some k → rest_below (from ++ name_at old i s ∷ []) to ≡ None →
    (map : PathMap) → Shows old map → Shows new (with_moved map (from ++ name_at old i s ∷ []) (to ++ name_at new k r ∷ []))
carry_shows old new wf i s k r j carries from to from_is to_is outside map shows =
    move_shows old new i (name_at old i s) k (name_at new k r) j (carry_moves old new wf i s k r j carries) from to from_is to_is outside map shows (carried_well_formed old new wf i s k r j carries)

-- no path lies below a name in itself
not_below : (path : Path) (name : Name) → rest_below (path ++ name ∷ []) path ≡ None
not_below path name = go (rest_below (path ++ name ∷ []) path) refl
  where
    go : (rest : Option Path) → rest_below (path ++ name ∷ []) path ≡ rest → rest_below (path ++ name ∷ []) path ≡ None
    go None e = e
    go (Some rest) e = absurd (not_longer path name rest (rest_below-is (path ++ name ∷ []) path rest e))

-- an entry is spelled again
pub respell_shows : (old new : Image) (wf : IsWellFormed old) (i s j : ℕ) → RespellsEntry old new i s j → (from : Path) → lookup old from ≡ Some i →
    (map : PathMap) → Shows old map → Shows new (with_moved map (from ++ name_at old i s ∷ []) (from ++ name_at new i s ∷ []))
respell_shows old new wf i s j spells from from_is map shows =
    move_shows old new i (name_at old i s) i (name_at new i s) j (respell_moves old new wf i s j spells) from from from_is from_is
    (not_below from (name_at old i s)) map shows (respelled_well_formed old new wf i s j spells)
