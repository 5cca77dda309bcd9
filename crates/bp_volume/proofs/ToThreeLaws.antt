-- An upgrade to version 3: its first epoch nobody sees, and then one store makes the image one of version 3.
use Rattle.std.proofs.Common.{◌≡◌, ◌⊎◌, ℕ, ◌≤◌, List, [], ◌∷◌, Bool, true, false, refl, sym, ◌∙◌, ap, subst, arith, inl, inr}
use Rattle.std.specs.Prelude.{◌&&◌, is_some, not}
use Rattle.pm_epochs.specs.declared.event.Event.{Event}
use Rattle.pm_epochs.specs.declared.event.Event.TheVariants.{Store}
use Rattle.pm_epochs.specs.Crash.{IsQuiet}
use Rattle.pm_epochs.specs.May.{EachMay}
use Rattle.pm_epochs.proofs.MayLaws.{quiet_may, same_where_none}
use Rattle.pm_region.specs.Memory.{Adds, Memory, current_words, with_room}
use Rattle.pm_region.proofs.MemoryLaws.{current_words-adds}
use Rattle.bp_free.specs.declared.parts.Parts.{Parts}
use Rattle.bp_layout.specs.Format.{upgraded_to_three}
use Rattle.bp_layout.specs.Formatted.{version_of}
use Rattle.bp_layout.specs.Inode.{AreClear}
use Rattle.bp_layout.specs.Need.{Change}
use Rattle.bp_layout.specs.Trees.{AreInSnapshot, has_snapshot}
use Rattle.bp_layout.specs.Whole.{IsFileSystem, SameFiles}
use Rattle.bp_layout.specs.Words.{Image, word}
use Rattle.bp_layout.proofs.NoSnapshot.{has_none, none_in_snapshot_of, snapshot_none}
use Rattle.bp_layout.proofs.ToThree.{to_three_alone, to_three_file_system}
use Rattle.bp_limits.specs.Limits.{call_room, magic}
use Rattle.bp_limits.specs.CallLimits.{allows_attributes}
use Rattle.bp_limits.specs.declared.version.Version.TheVariants.{Three}
use Rattle.bp_plain.specs.Calls.{Answer}
use Rattle.bp_plain.specs.Calls.Answer.{done, refused as is_refused}
use Rattle.bp_plain.specs.Calls.Call.{upgrade_to_three}
use Rattle.bp_plain.specs.Calls.Refusal.{has_snap}
use Rattle.bp_plain.specs.Plain.{refusal, when}
use Rattle.bp_plain.specs.PlainTree.{FileTree}
use Rattle.bp_plain.specs.Stands.{Stands}
use Rattle.bp_changes.specs.Harmless.{Agrees, IsHarmless}
use Rattle.bp_changes.specs.Sets.{IsExact, in_snapshot_of}
use Rattle.bp_changes.proofs.ClearedWords.{same_files-by_agreement, snapshot_by_words}
use Rattle.bp_changes.proofs.Stores.{harmless_here}
use Rattle.bp_stands.proofs.SnapStands.{idle-harmless}
use Rattle.bp_stands.proofs.UpgradeStands.{to_three_stands}
use Rattle.bp_roles.specs.Mounted.{KeepsRoles, served_words}
use Rattle.bp_roles.specs.Seen.{MemoryByRoles, seen}
use Rattle.bp_fs.specs.Called.{CanUpgrade, Called}
use Rattle.bp_fs.specs.Called.Called.{at_once, cleared}
use Rattle.bp_volume.specs.Carried.{ChangesTree}
use Rattle.bp_fs.specs.FileCall.{FileCall}
use Rattle.bp_volume.specs.Queries.{Answers}
use Rattle.bp_fs.specs.Step.{Fits, IsChange}
use Rattle.bp_fs.specs.SuperEvents.{to_three_events}
use Rattle.bp_volume.specs.Upgraded.{ClearsFirst, UpgradesToThree}
use Rattle.bp_volume.specs.Upgraded.ClearsFirst.{cleared as are_cleared, kept}
use Rattle.bp_volume.specs.Upgraded.UpgradesToThree.{made as has_made, refused as has_refused, third}
use Rattle.bp_volume.specs.Volume.{IsVolume}
use Rattle.bp_volume.proofs.BesideExact.{beside_exact}
use Rattle.bp_volume.proofs.ClearedLaws.{words_with_room}
use Rattle.bp_volume.proofs.SnapLaws.{tree_has_none, tree_has_one}
use Rattle.bp_volume.proofs.StepLaws.{answer_steps, refused_steps}
use Rattle.bp_volume.proofs.SuperLaws.{CallsSuper, StoresSuper, changing_steps, magic_leaves, super_trees}
use Rattle.bp_volume.proofs.SuperLaws.CallsSuper.{altered, unchanged}
use Rattle.bp_volume.proofs.WholeLaws.{whole_equivalence}

-- 0 at the words of the superblock that have a meaning in version 3
abbrev IsCleared : ℕ → ℕ → Type 0
IsCleared place value = (4 ≤ place) × (place ≤ 7) × (value ≡ 0)

abbrev first_epoch : List Event
first_epoch = Store 4 0 ∷ Store 5 0 ∷ Store 6 0 ∷ Store 7 0 ∷ []

-- ---- the call on trees

module _ (image : Image) where
  -- no change of an image is one of an upgrade, so it needs no block
  to_three_needs_none : Fits image upgrade_to_three
  to_three_needs_none needed free has = absurd (nothing has.change has.is)
    where
      nothing : (change : Change) → IsChange image upgrade_to_three change → ⊥
      nothing change is = elim is [ ]

  -- before version 3 it is refused if there is a snapshot
  refusal_before : allows_attributes (version_of image) ≡ false → (tree : FileTree) → Stands image tree → refusal tree upgrade_to_three ≡ when (is_some tree.snap) has_snap
  refusal_before early tree stands = ap (λ b. when (not b && is_some tree.snap) has_snap) (ap allows_attributes stands.version ∙ early)

  to_three_changes : CanUpgrade image → AreClear image → ChangesTree upgrade_to_three done image (upgraded_to_three image)
  to_three_changes can clear tree stands =
      changing_steps image (upgraded_to_three image) tree upgrade_to_three
      (refusal_before can.early tree stands ∙ ap (λ o. when (is_some o) has_snap) (tree_has_none image tree stands can.single))
      (ap not (ap allows_attributes stands.version ∙ can.early)) refl to_three_needs_none
      (to_three_stands image clear can.single can.early tree stands)

  to_three_refused : allows_attributes (version_of image) ≡ false → has_snapshot image ≡ true → Answers image upgrade_to_three (is_refused has_snap)
  to_three_refused early there tree stands =
      refused_steps image tree upgrade_to_three has_snap
      (refusal_before early tree stands ∙ ap (λ o. when (is_some o) has_snap) (tree_has_one image tree stands there).1)

  -- in version 3 it changes nothing
  to_three_reports : allows_attributes (version_of image) ≡ true → Answers image upgrade_to_three done
  to_three_reports allows tree stands =
      let three : allows_attributes tree.version ≡ true = ap allows_attributes stands.version ∙ allows in
      answer_steps image tree upgrade_to_three done (ap (λ b. when (not b && is_some tree.snap) has_snap) three) (ap not three) refl

-- ---- its stores

module _ (memory made : Memory) (is : IsFileSystem (current_words memory)) (can : CanUpgrade (current_words memory)) (clear : AreClear (current_words memory)) (adds : Adds memory made to_three_events) where
  abbrev image : Image
  image = current_words memory

  -- before its magic number nobody sees them
  module _ (other : Image) (each : EachMay IsCleared image other) where
    agrees : Agrees image other
    agrees = record { whole = each.size; each = λ place. go place (each.each place) }
      where
        go : (place : ℕ) → (word other place ≡ word image place) ⊎ IsCleared place (word other place) → IsHarmless image place (word other place)
        go place (inl same) = subst (IsHarmless image place) (sym same) (harmless_here image place)
        go place (inr at) = idle-harmless image place (word other place) at.0 (omega (arith, at.1))

    still_alone : has_snapshot other ≡ false
    still_alone = go (each.each 5)
      where
        go : (word other 5 ≡ word image 5) ⊎ IsCleared 5 (word other 5) → has_snapshot other ≡ false
        go (inl same) = snapshot_by_words image other (same_where_none IsCleared image other each 0 (λ value at. omega (arith, at.0))) same ∙ can.single
        go (inr at) = has_none other (λ allows. at.2)

    same_files : SameFiles image other
    same_files = same_files-by_agreement image other is.first agrees can.single still_alone

  whole_quiet : IsQuiet SameFiles image first_epoch
  whole_quiet = quiet_may SameFiles whole_equivalence IsCleared image first_epoch same_files
      ((omega arith, omega arith, refl), ((omega arith, omega arith, refl), ((omega arith, omega arith, refl), ((omega arith, omega arith, refl), tt))))

  words_made : current_words made ≡ upgraded_to_three image
  words_made = current_words-adds memory made to_three_events adds

  to_three_stores : StoresSuper memory made upgrade_to_three
  to_three_stores = record {
    prepared = first_epoch;
    place = 0;
    value = magic Three;
    adds = adds;
    quiet = whole_quiet;
    piece = record { no_call_end = refl; few_barriers = omega arith; few_stores = omega arith };
    beside = (
      (omega arith, (λ e. omega (arith, e)), (λ e. omega (arith, e))),
      (
        (omega arith, (λ e. omega (arith, e)), (λ e. omega (arith, e))),
        (
          (omega arith, (λ e. omega (arith, e)), (λ e. omega (arith, e))),
          ((omega arith, (λ e. omega (arith, e)), (λ e. omega (arith, e))), ((omega arith, (λ e. omega (arith, e)), (λ e. omega (arith, e))), tt)),
        ),
      ),
    );
    leaves = λ roles outside. (
      (λ e. absurd (omega (arith, e))),
      ((λ e. absurd (omega (arith, e))), ((λ e. absurd (omega (arith, e))), ((λ e. absurd (omega (arith, e))), (magic_leaves Three roles image can.early outside, tt)))),
    );
    reported = refl;
    well = rw words_made (to_three_file_system image is.first);
    changes = rw words_made (to_three_changes image can clear);
  }

  -- no block was in the snapshot, and none is
  snapshot_now : (in_snapshot : ℕ → Bool) → AreInSnapshot image in_snapshot → AreInSnapshot (current_words made) in_snapshot
  snapshot_now in_snapshot snapshot_blocks =
      subst (AreInSnapshot (current_words made)) (sym (snapshot_none image in_snapshot can.single snapshot_blocks))
      (rw words_made (none_in_snapshot_of (upgraded_to_three image) (to_three_alone image is.first)))

  exact_now : {R : Type 0} (parts : Parts R) → IsExact image parts → IsExact (current_words made) parts
  exact_now parts exact = beside_exact image (current_words made) (super_trees memory made upgrade_to_three to_three_stores) parts exact

-- ---- the call on the words that it cleared first

-- where it is one, all words are 0
abbrev pub IsReadied : Image → Type 0
IsReadied image = CanUpgrade image → AreClear image

pub to_three_calls : (memory made : Memory) (answer : Answer) → IsFileSystem (current_words memory) → IsReadied (current_words memory) → UpgradesToThree memory answer made → CallsSuper memory made upgrade_to_three answer
to_three_calls memory made answer is ready (has_made reported can adds) = altered reported (to_three_stores memory made is can (ready can) adds)
to_three_calls memory made answer is ready (third reported allows same) = unchanged same (rw reported (to_three_reports (current_words memory) allows))
to_three_calls memory made answer is ready (has_refused reported early there same) = unchanged same (rw reported (to_three_refused (current_words memory) early there))

module _ {R : Type 0} (memory made : Memory) (answer : Answer) (parts : Parts R) (pending : ℕ) (volume : IsVolume memory parts pending) (ready : IsReadied (current_words memory)) where
  -- the blocks of a snapshot stay
  pub to_three_snapshot : UpgradesToThree memory answer made → AreInSnapshot (current_words made) (in_snapshot_of parts)
  to_three_snapshot (has_made reported can adds) = snapshot_now memory made volume.well_formed can (ready can) adds (in_snapshot_of parts) volume.snapshot_blocks
  to_three_snapshot (third reported allows same) = rw same volume.snapshot_blocks
  to_three_snapshot (has_refused reported early there same) = rw same volume.snapshot_blocks

  -- and the sets
  pub to_three_exact : UpgradesToThree memory answer made → IsExact (current_words made) parts
  to_three_exact (has_made reported can adds) = exact_now memory made volume.well_formed can (ready can) adds parts volume.exact
  to_three_exact (third reported allows same) = rw same volume.exact
  to_three_exact (has_refused reported early there same) = rw same volume.exact

-- ---- with the words cleared first, and room made

ready_with_room : (between : Memory) (middle : MemoryByRoles) → KeepsRoles middle → middle.memory ≡ with_room call_room between → IsReadied (served_words between) → IsReadied (current_words (seen middle))
ready_with_room between middle keeps room = subst IsReadied (sym (words_with_room between middle keeps room))

pub cleared_first : (old between : Memory) (middle : MemoryByRoles) → ClearsFirst old between → KeepsRoles middle → middle.memory ≡ with_room call_room between → IsReadied (current_words (seen middle))
cleared_first old between middle (kept clear same) keeps room = ready_with_room between middle keeps room (rw same clear)
cleared_first old between middle (are_cleared some clears) keeps room = ready_with_room between middle keeps room (λ can. clears.clear)

-- the whole call
pub called_to_three : (old between new : Memory) (answer : Answer) → ClearsFirst old between → FileCall between upgrade_to_three answer new → Called old upgrade_to_three answer new
called_to_three old between new answer (kept clear same) call = at_once (rw same at call)
called_to_three old between new answer (are_cleared some clears) call = cleared refl some clears call
