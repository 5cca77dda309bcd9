-- The last name of a path, and what has it in its directory.
use Rattle.std.proofs.Common.{◌≡◌, ◌≢◌, ◌==◌, ℕ, [], ◌∷◌, ◌++◌, Bool, true, false, Option, None, Some, refl, sym, ◌∙◌, ap, subst}
use Rattle.std.specs.Prelude.{if◌then◌else◌}
use Rattle.std.specs.Option.{option_map}
use Rattle.bp_layout.specs.Directory.{empty_slot, ino_at, lookup_in, slot_named}
use Rattle.bp_layout.specs.Paths.{Name, Path, is_name}
use Rattle.bp_layout.specs.Inode.{kind_of}
use Rattle.bp_layout.specs.Lookup.{lookup}
use Rattle.bp_layout.specs.Words.{Image}
use Rattle.bp_path.specs.Names.{AreBeside}
use Rattle.bp_path.specs.Walk.{Walked, in_directory, onward, walk_from}
use Rattle.bp_path.specs.Walk.Walked.{found, in_file, missing}
use Rattle.bp_path.proofs.WalkLaws.{walk_on}
use Rattle.bp_path.specs.declared.steps.FoundEntry.{FoundEntry}
use Rattle.bp_plain.specs.Calls.{Refusal}
use Rattle.bp_plain.specs.Calls.Refusal.{not_found}
use Rattle.bp_plain.specs.Plain.{parent_of}
use Rattle.bp_plain.proofs.Rooted.{parent_of-last}
use Rattle.bp_rename.specs.CanRename.{IsSlotAcross}
use Rattle.bp_rename.specs.declared.moves.Move.{Move}
use Rattle.bp_volume.specs.Renaming.{IsMoveOf, IsNameIn, IsTarget}
use Rattle.bp_volume.specs.declared.rename.Ends.{Ends}
use Rattle.bp_fs.specs.Step.{IsEntryOn, last_of}
use Rattle.bp_volume.specs.Queries.{RefusesEntry, RefusesParent, refusal_of_walk}
use Rattle.bp_volume.specs.declared.lookup.Target.{Target}
use Rattle.bp_volume.proofs.CreateLaws.{by_parent, lookup-name, path_is}
use Rattle.bp_volume.proofs.WalkLaws.{walk_parent-image}
use Rattle.bp_volume.proofs.WalkingLaws.{entry_ends, name_form, walk_ends}

module _ (image : Image) (path : Path) (i : ℕ) (name : Name) (is : IsNameIn image path i name) (directory : kind_of image i ≡ 2) where
  -- by the slot of its name a path finds an entry
  pub name_found : (s j : ℕ) → slot_named image i name ≡ Some s → ino_at image i s ≡ j → IsEntryOn image path i s j
  name_found s j slot ino = record {
    below = is.below;
    parent = is.parent;
    slot = ap (slot_named image i) is.last ∙ slot;
    inode = lookup-name image path is.below i is.parent directory name is.last ∙ ap (option_map (ino_at image i)) slot ∙ ap Some ino;
  }

  -- and where no slot has it, the walk ends there
  pub name_missing : slot_named image i name ≡ None → (root : Refusal) → RefusesEntry image path root not_found
  name_missing none root = entry_ends image path root not_found is.below (walk_ends image path missing not_found (sym ends) refl)
    where
      nowhere : lookup_in image i name ≡ None
      nowhere =
          ap (λ b. if b then option_map (ino_at image i) (slot_named image i name) else None) (ap (λ k. k == 2) directory)
          ∙ ap (option_map (ino_at image i)) none

      ends : walk_from image 1 path ≡ missing
      ends =
          ap (walk_from image 1) (path_is image path is.below i is.parent directory name is.last)
          ∙ walk_on image 1 i (parent_of path) (name ∷ []) is.parent
          ∙ ap (λ b. if b then onward (λ j. walk_from image j []) (lookup_in image i name) else in_file) (ap (λ k. k == 2) directory)
          ∙ ap (onward (λ j. walk_from image j [])) nowhere

-- paths of names in one directory have it as their parent
pub same_parent : (one other : Path) → AreBeside one other → parent_of other ≡ parent_of one
same_parent one other beside =
    ap parent_of beside.other_is
    ∙ parent_of-last beside.parent beside.other_last
    ∙ sym (ap parent_of beside.one_is ∙ parent_of-last beside.parent beside.one_last)

-- a walk to a name fails where the walk to its directory does
walk_stops : (image : Image) (i : ℕ) (before : Path) (name : Name) (why : Refusal) → refusal_of_walk (in_directory image (walk_from image i before)) ≡ Some why →
    walk_from image i (before ++ name ∷ []) ≡ in_directory image (walk_from image i before)
walk_stops image i [] name why stops = go (kind_of image i == 2) (lookup_in image i name) stops
  where
    go : (b : Bool) (o : Option ℕ) → refusal_of_walk (if b then found i else in_file) ≡ Some why →
        (if b then onward (λ j. walk_from image j []) o else in_file) ≡ (if b then found i else in_file)
    go true o reported = let clash : ◌≡◌ {A = Option Refusal} None (Some why) = reported in absurd (cc)
    go false o reported = refl
walk_stops image i (first ∷ before) name why stops = go (λ j. walk_stops image j before name why) (kind_of image i == 2) (lookup_in image i first) stops
  where
    go : ((j : ℕ) → refusal_of_walk (in_directory image (walk_from image j before)) ≡ Some why → walk_from image j (before ++ name ∷ []) ≡ in_directory image (walk_from image j before)) →
        (b : Bool) (o : Option ℕ) → refusal_of_walk (in_directory image (if b then onward (λ j. walk_from image j before) o else in_file)) ≡ Some why →
        (if b then onward (λ j. walk_from image j (before ++ name ∷ [])) o else in_file) ≡ in_directory image (if b then onward (λ j. walk_from image j before) o else in_file)
    go on true None reported = refl
    go on true (Some j) reported = on j reported
    go on false o reported = refl

-- so the entry at a path is refused where its directory is
pub directory_ends : (image : Image) (path : Path) (walked : Walked) (why : Refusal) → path ≢ [] → walked ≡ in_directory image (walk_from image 1 (parent_of path)) →
    refusal_of_walk walked ≡ Some why → (root : Refusal) → RefusesEntry image path root why
directory_ends image path walked why below is reported root =
    entry_ends image path root why below
    (walk_ends image path walked why
    (is ∙ sym (ap (walk_from image 1) (by_parent path below) ∙ walk_stops image 1 (parent_of path) (last_of path) why (ap refusal_of_walk (sym is) ∙ reported)))
    reported)

module _ (image : Image) (path : Path) (target : Target) (below : path ≢ []) (parent : lookup image (parent_of path) ≡ Some target.dir) (directory : kind_of image target.dir ≡ 2)
    (last : target.name.now ≡ last_of path) (form : is_name target.name.now ≡ true) where
  -- an entry has the name
  pub name_taken : (entry : FoundEntry) → target.there ≡ Some entry → slot_named image target.dir target.name.now ≡ Some entry.slot → ino_at image target.dir entry.slot ≡ entry.ino → IsTarget image path target
  name_taken entry is slot ino = record {
    below = below;
    parent = parent;
    directory = directory;
    last = sym last;
    form = name_form target.name.now form;
    new = λ none. let clash : ◌≡◌ {A = Option FoundEntry} None (Some entry) = sym none ∙ is in absurd (cc);
    there = λ other at. subst (λ (o : FoundEntry). IsEntryOn image path target.dir o.slot o.ino) (same other at) is_entry;
    empty = λ none. let clash : ◌≡◌ {A = Option FoundEntry} None (Some entry) = sym none ∙ is in absurd (cc);
  }
    where
      same : (other : FoundEntry) → target.there ≡ Some other → entry ≡ other
      same other at = let both : ◌≡◌ {A = Option FoundEntry} (Some entry) (Some other) = sym is ∙ at in cc

      is_entry : IsEntryOn image path target.dir entry.slot entry.ino
      is_entry = name_found image path target.dir target.name.now (record { below = below; parent = parent; last = sym last }) directory entry.slot entry.ino slot ino

  -- none has it
  pub name_free : target.there ≡ None → slot_named image target.dir target.name.now ≡ None → target.empty ≡ empty_slot image target.dir → IsTarget image path target
  name_free is free empty = record {
    below = below;
    parent = parent;
    directory = directory;
    last = sym last;
    form = name_form target.name.now form;
    new = λ none. free;
    there = λ other at. let clash : ◌≡◌ {A = Option FoundEntry} None (Some other) = sym is ∙ at in absurd (cc);
    empty = λ none. empty;
  }

-- the walk to the directory fails
pub parent_ends : (image : Image) (path : Path) (walked : Walked) (why : Refusal) → walked ≡ in_directory image (walk_from image 1 (parent_of path)) → refusal_of_walk walked ≡ Some why → RefusesParent image path why
parent_ends image path walked why is reported tree stands = walk_parent-image image tree stands path (parent_of path) refl ∙ ap refusal_of_walk (sym is) ∙ reported

-- where the move is to a new name, its slot is that of the target
pub slot_handed : (image : Image) (ends : Ends) (move : Move) → IsMoveOf ends move → (ends.target.there ≡ None → ends.target.empty ≡ empty_slot image ends.target.dir) → IsSlotAcross image move ends.target.empty
slot_handed image ends move is empty none other = empty (nothing ends.target.there (sym is.to_slot ∙ none)) ∙ ap (empty_slot image) (sym is.to_dir)
  where
    nothing : (o : Option FoundEntry) → option_map (λ entry. entry.slot) o ≡ None → o ≡ None
    nothing None at = refl
    nothing (Some entry) at = absurd (cc)
