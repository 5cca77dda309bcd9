-- What a rename makes, where it may.
use Rattle.std.proofs.Common.{◌≡◌, ◌≢◌, ◌⊎◌, ◌&&◌, ℕ, ◌<◌, ◌≤◌, ◌==◌, List, [], ◌∷◌, ◌++◌, length, false, inl, inr, refl, sym, ◌∙◌, ap, ap₂, subst, Option, None, Some, not, arith, append_assoc, true≢false}
use Rattle.std.specs.Prelude.{if◌then◌else◌, is_some}
use Rattle.std.specs.Option.{option_map}
use Rattle.std.proofs.lemmas.Bool.{cases_eq, eq-eqb, eqb-false, ne_eqb}
use Rattle.bp_calls.specs.Removed.{IsFoundAt}
use Rattle.bp_calls.proofs.MayLeave.{found_ino, found_spelled}
use Rattle.bp_changes.specs.Effects.{CanUnlink}
use Rattle.bp_layout.specs.Paths.{rest_below, Name, Path, parse}
use Rattle.bp_layout.specs.Directory.{ino_at, name_at, slot_named}
use Rattle.bp_layout.specs.Inode.{kind_of, size_of}
use Rattle.bp_layout.specs.Lookup.{lookup}
use Rattle.bp_layout.specs.Need.{Change, need}
use Rattle.bp_layout.specs.Need.Change.{moves, respells}
use Rattle.bp_layout.specs.WellFormed.{IsWellFormed}
use Rattle.bp_layout.specs.Words.{Image}
use Rattle.bp_layout.proofs.Below.{rest_below-append, rest_below-is}
use Rattle.bp_path.specs.declared.steps.FoundEntry.{FoundEntry}
use Rattle.bp_plain.specs.Calls.Call.{rename}
use Rattle.bp_plain.specs.Plain.{moves_below, parent_of, path_named, tree_after, with_moved}
use Rattle.bp_plain.specs.PlainTree.{FileTree}
use Rattle.bp_plain.specs.Stands.{Shows, Stands}
use Rattle.bp_rename.specs.CanRename.{CanRename, change_of, change_to, moved_inode}
use Rattle.bp_rename.specs.MovesPath.{IsFoundTarget, MovesPath}
use Rattle.bp_rename.specs.declared.moves.Move.{Move}
use Rattle.bp_rename.proofs.RenamedStands.{found_can_rename}
use Rattle.bp_volume.specs.Renaming.{FindsEnds, IsMoveOf, MayMove, is_inode}
use Rattle.bp_fs.specs.Step.{FindsEntry, IsChange, FindsNew, StandsIn, last_of}
use Rattle.bp_fs.specs.Step.IsChange.{onto, across, within}
use Rattle.bp_volume.specs.declared.rename.Ends.{Ends}
use Rattle.bp_volume.proofs.ChangeLaws.{MakesChange}
use Rattle.bp_volume.proofs.CreateLaws.{by_parent}
use Rattle.bp_volume.proofs.FewBlocks.{IsFew}
use Rattle.bp_volume.proofs.FewMoved.{few_moved}
use Rattle.bp_volume.proofs.LeavingLaws.{is_found, same_entry, stands_in}
use Rattle.bp_volume.proofs.RenameLaws.{changes_then, other_ends, other_path, source_is, target_entry, target_is}
use Rattle.bp_volume.proofs.WalkLaws.{some_inode}

-- a path that does not lie at or below another one, whose parent does not
parent_outside : (p q : Path) → q ≢ [] → p ≢ q → moves_below p q ≡ false → rest_below p (parent_of q) ≡ None
parent_outside p q below other outside = go (rest_below p (parent_of q)) refl
  where
    no_rest : is_some (rest_below p q) ≡ false
    no_rest = sym (ap (λ b. not b && is_some (rest_below p q)) (other_path p q other)) ∙ outside

    go : (o : Option Path) → rest_below p (parent_of q) ≡ o → o ≡ None
    go None at = refl
    go (Some rest) at =
        let prefix : parent_of q ≡ p ++ rest = rest_below-is p (parent_of q) rest at in
        let whole : q ≡ p ++ (rest ++ last_of q ∷ []) = by_parent q below ∙ ap (λ r. r ++ last_of q ∷ []) prefix ∙ append_assoc p rest (last_of q ∷ []) in
        let inside : rest_below p q ≡ Some (rest ++ last_of q ∷ []) = ap (rest_below p) whole ∙ rest_below-append p (rest ++ last_of q ∷ []) in
        absurd (true≢false (sym (ap is_some inside) ∙ no_rest))

module _ (image : Image) (from to : List ℕ) (ends : Ends) (may : MayMove image from to ends) where
  abbrev found : FindsEnds image from to ends
  found = may.found

  abbrev p : Path
  p = found.source_path

  abbrev q : Path
  q = found.target_path

  abbrev i : ℕ
  i = ends.source.dir

  abbrev s : ℕ
  s = ends.source.slot

  abbrev j : ℕ
  j = ends.target.dir

  abbrev name : Name
  name = ends.target.name.now

  abbrev source_entry : FindsEntry image from i s ends.source.ino
  source_entry = record { path = p; parsed = found.source_parsed; entry = found.are.source }

  other : p ≢ q
  other = other_ends image p q ends found.are may.other

  new_name : slot_named image j name ≡ None → FindsNew image to j name
  new_name missing = record {
    path = q;
    parsed = found.target_parsed;
    new = record { below = found.are.target.below; parent = found.are.target.parent; last = found.are.target.last; directory = found.are.target.directory; form = found.are.target.form; missing = missing };
  }

  old_name : (r : ℕ) → slot_named image j name ≡ Some r → StandsIn image to j r
  old_name r has = record { path = q; parsed = found.target_parsed; parent = found.are.target.parent; slot = ap (slot_named image j) found.are.target.last ∙ has }

  -- the texts spell no other paths
  one_target : (k : ℕ) (path : Path) → parse to ≡ Some path → lookup image (parent_of path) ≡ Some k → (path ≡ q) × (k ≡ j)
  one_target k path parsed parent =
      let paths : ◌≡◌ {A = Option Path} (Some path) (Some q) = sym parsed ∙ found.target_parsed in
      let same : path ≡ q = cc in
      let directories : ◌≡◌ {A = Option ℕ} (Some k) (Some j) = sym parent ∙ ap (λ r. lookup image (parent_of r)) same ∙ found.are.target.parent in
      let directory : k ≡ j = cc in
      (same, directory)

  there_slot : (k r : ℕ) → StandsIn image to k r → (k ≡ j) × (slot_named image j name ≡ Some r)
  there_slot k r stands =
      let one = one_target k stands.path stands.parsed stands.parent in
      (one.1, sym (ap₂ (λ d path. slot_named image d (last_of path)) one.1 one.0 ∙ ap (slot_named image j) found.are.target.last) ∙ stands.slot)

  new_there : (k : ℕ) (now : Name) → FindsNew image to k now → (k ≡ j) × (now ≡ name) × (slot_named image j name ≡ None)
  new_there k now new =
      let one = one_target k new.path new.parsed new.new.parent in
      let same : now ≡ name = sym new.new.last ∙ ap last_of one.0 ∙ found.are.target.last in
      (one.1, same, sym (ap₂ (slot_named image) one.1 same) ∙ new.new.missing)

  abbrev change : Change
  change = change_to i s j (length name) (slot_named image j name)

  change_is : (made : Change) → IsChange image (rename from to) made → made ≡ change
  change_is _ (onto {i = k} {s = t} {j = l} {r = r} source target) =
      let one = same_entry image from i s ends.source.ino source_entry k t source in
      let two = there_slot l r target in
      rw (two.1, one.0, one.1, two.0) refl
  change_is _ (across {i = k} {s = t} {j = l} {name = n} source new apart) =
      let one = same_entry image from i s ends.source.ino source_entry k t source in
      let two = new_there l n new in
      let apart_here : i ≢ j = λ e. apart (one.0 ∙ e ∙ sym two.0) in
      rw (two.2, ne_eqb i j apart_here, one.0, one.1, two.0) refl
  change_is _ (within {i = k} {s = t} {name = n} source new) =
      let one = same_entry image from i s ends.source.ino source_entry k t source in
      let two = new_there k n new in
      rw (two.2, eq-eqb i j (sym one.0 ∙ two.0), one.0, one.1, two.1) refl

  is_change : (slot : Option ℕ) → slot_named image j name ≡ slot → IsChange image (rename from to) (change_to i s j (length name) slot)
  is_change (Some r) at = onto (stands_in image from i s ends.source.ino source_entry) (old_name r at)
  is_change None at = go (cases_eq i j)
    where
      source : StandsIn image from i s
      source = stands_in image from i s ends.source.ino source_entry

      go : (i ≡ j) ⊎ (i ≡ j → ⊥) → IsChange image (rename from to) (if i == j then respells i s (length name) else moves i s j)
      go (inl same) = rw (eq-eqb i j same) (within source (subst (λ k. FindsNew image to k name) (sym same) (new_name at)))
      go (inr apart) = rw (ne_eqb i j apart) (across source (new_name at) apart)

  rename_makes : MakesChange image (rename from to) change
  rename_makes = record {
    is = is_change (slot_named image j name) refl;
    alike = change_is;
    allowed = may.allowed;
    changing = changes_then image from to ends found may.other;
    says = λ tree. refl;
    stays = λ tree. refl;
  }

  -- ---- the move

  module _ (wf : IsWellFormed image) (move : Move) (is : IsMoveOf ends move) where
    slot_is : (there : Option FoundEntry) → ends.target.there ≡ there → slot_named image j name ≡ option_map (λ entry. entry.slot) there
    slot_is None at = found.are.target.new at
    slot_is (Some entry) at = ap (slot_named image j) (sym found.are.target.last) ∙ (found.are.target.there entry at).slot

    slot : slot_named image j name ≡ move.to_slot
    slot = slot_is ends.target.there refl ∙ sym is.to_slot

    change_same : change_of move ≡ change
    change_same = rw (is.from_dir, is.from_slot, is.to_dir, is.name, slot) refl

    pub moving_makes : MakesChange image (rename from to) (change_of move)
    moving_makes = subst (MakesChange image (rename from to)) (sym change_same) rename_makes

    source_found : IsFoundAt image (parent_of p) (last_of p) move.from_dir move.from_slot ends.source.ino
    source_found = rw (is.from_dir, is.from_slot) (is_found image from i s ends.source.ino source_entry)

    whole_source : parent_of p ++ last_of p ∷ [] ≡ p
    whole_source = sym (by_parent p found.are.source.below)

    whole_target : parent_of q ++ name ∷ [] ≡ q
    whole_target = ap (λ n. parent_of q ++ n ∷ []) (sym found.are.target.last) ∙ sym (by_parent q found.are.target.below)

    target_found : IsFoundTarget image (parent_of p ++ last_of p ∷ []) (parent_of q) move
    target_found = record {
      found = found.are.target.parent ∙ ap Some (sym is.to_dir);
      directory = ap (kind_of image) is.to_dir ∙ found.are.target.directory;
      outside = ap (λ a. rest_below a (parent_of q)) whole_source ∙ (parent_outside p q found.are.target.below other found.are.outside);
      name = rw is.name found.are.target.form;
      slot = ap₂ (slot_named image) is.to_dir is.name ∙ slot;
      apart = λ r has. apart r (sym is.to_slot ∙ has) ends.target.there refl;
      leaves = λ r has. subst (λ d. CanUnlink image d r (ino_at image d r)) (sym is.to_dir) (may_leave r (sym is.to_slot ∙ has) ends.target.there refl);
    }
      where
        -- what has the new name is another inode
        apart : (r : ℕ) → option_map (λ entry. entry.slot) ends.target.there ≡ Some r → (there : Option FoundEntry) → ends.target.there ≡ there → ino_at image move.to_dir r ≢ moved_inode image move
        apart r has None at = let none : ◌≡◌ {A = Option ℕ} None (Some r) = rw at at has in absurd (cc)
        apart r has (Some entry) at =
            let slots : ◌≡◌ {A = Option ℕ} (Some entry.slot) (Some r) = rw at at has in
            let slot : entry.slot ≡ r = cc in
            let entry_is : FindsEntry image to j entry.slot entry.ino = target_entry image from to ends found entry at in
            let named : ino_at image j entry.slot ≡ entry.ino = found_ino image _ _ j entry.slot entry.ino (is_found image to j entry.slot entry.ino entry_is) in
            let target : ino_at image move.to_dir r ≡ entry.ino = ap₂ (ino_at image) is.to_dir (sym slot) ∙ named in
            let source : moved_inode image move ≡ ends.source.ino = found_ino image (parent_of p) (last_of p) move.from_dir move.from_slot ends.source.ino source_found in
            λ same. eqb-false entry.ino ends.source.ino (sym (ap (is_inode ends.source.ino) at) ∙ may.other) (sym target ∙ same ∙ source)

        may_leave : (r : ℕ) → option_map (λ entry. entry.slot) ends.target.there ≡ Some r → (there : Option FoundEntry) → ends.target.there ≡ there → CanUnlink image j r (ino_at image j r)
        may_leave r has None at = let none : ◌≡◌ {A = Option ℕ} None (Some r) = rw at at has in absurd (cc)
        may_leave r has (Some entry) at =
            let slots : ◌≡◌ {A = Option ℕ} (Some entry.slot) (Some r) = rw at at has in
            let slot : entry.slot ≡ r = cc in
            subst (λ t. CanUnlink image j t (ino_at image j t)) slot (may.leaves entry at)

    pub may_rename : CanRename image move
    may_rename = found_can_rename image wf move (parent_of p) (parent_of q) (last_of p) ends.source.ino source_found target_found

    pub moving_shows : (after : Image) → MovesPath move image after → (tree : FileTree) → Stands image tree → Shows after (tree_after tree (rename from to)).now
    moving_shows after renames tree stands =
        subst (λ a. Shows after (with_moved tree.now (path_named from) a)) (sym (target_is image from to ends found))
        (subst (λ a. Shows after (with_moved tree.now a q)) (sym (source_is image from to ends found))
        (subst (λ a. Shows after (with_moved tree.now p a)) whole (subst (λ a. Shows after (with_moved tree.now a (parent_of q ++ move.name.now ∷ []))) named
        (renames tree.now (parent_of p) (parent_of q) stands.now (found.are.source.parent ∙ ap Some (sym is.from_dir)) (found.are.target.parent ∙ ap Some (sym is.to_dir))
        (ap (λ a. rest_below a (parent_of q)) named ∙ parent_outside p q found.are.target.below other found.are.outside)))))
      where
        named : parent_of p ++ name_at image move.from_dir move.from_slot ∷ [] ≡ p
        named = ap (λ n. parent_of p ++ n ∷ []) (found_spelled image (parent_of p) (last_of p) move.from_dir move.from_slot ends.source.ino source_found) ∙ whole_source

        whole : parent_of q ++ move.name.now ∷ [] ≡ q
        whole = ap (λ n. parent_of q ++ n ∷ []) is.name ∙ whole_target

    pub moving_few : IsFew (need image (change_of move))
    moving_few =
        few_moved image wf move.from_dir move.from_slot move.to_dir (length move.name.now) low may_rename.source (omega (arith, may_rename.entry.in_size)) may_rename.target may_rename.name.short
        move.to_slot (there move.to_slot refl)
      where
        low : 1 ≤ move.from_dir
        low =
            let some : move.from_dir ≢ 0 = λ none. some_inode image wf (parent_of p) i found.are.source.parent (sym is.from_dir ∙ none) in
            omega (arith, some)

        there : (slot : Option ℕ) → move.to_slot ≡ slot → slot ≢ None → 0 < size_of image move.to_dir
        there None at some = absurd (some refl)
        there (Some r) at some = omega (arith, (target_found.leaves r at).entry.in_size)
