-- An upgrade of version 1: its first epoch nobody sees, and then one store makes the image one of version 2.
use Rattle.std.proofs.Common.{◌≡◌, ℕ, ◌<◌, ◌≤◌, List, [], ◌∷◌, Bool, true, refl, sym, ◌∙◌, ap, subst, arith}
use Rattle.std.specs.Prelude.{not}
use Rattle.pm_epochs.specs.declared.event.Event.{Event}
use Rattle.pm_epochs.specs.declared.event.Event.TheVariants.{Store}
use Rattle.pm_epochs.specs.Crash.{IsQuiet}
use Rattle.pm_epochs.specs.May.{AnyAt, EachMay}
use Rattle.pm_epochs.proofs.MayLaws.{quiet_may, same_where_none}
use Rattle.pm_region.specs.Memory.{Adds, Memory, current_words}
use Rattle.pm_region.proofs.MemoryLaws.{current_words-adds}
use Rattle.bp_free.specs.Set.{has}
use Rattle.bp_free.specs.declared.parts.Parts.{Parts}
use Rattle.bp_layout.specs.Format.{upgraded}
use Rattle.bp_layout.specs.Formatted.{version_of}
use Rattle.bp_layout.specs.Need.{Change}
use Rattle.bp_layout.specs.Trees.{AreInSnapshot}
use Rattle.bp_layout.specs.Whole.{IsFileSystem, SameFiles}
use Rattle.bp_layout.specs.Words.{Image, word}
use Rattle.bp_layout.proofs.BesideTrees.{SameTrees}
use Rattle.bp_layout.proofs.NoSnapshot.{first_has_none, snapshot_none, none_in_snapshot_of}
use Rattle.bp_layout.proofs.Upgrade.{same_files_first, upgraded_alone, upgraded_file_system}
use Rattle.bp_limits.specs.Limits.{magic}
use Rattle.bp_limits.specs.CallLimits.{allows_attributes, allows_snapshot}
use Rattle.bp_limits.specs.declared.version.Version.TheVariants.{One, Two}
use Rattle.bp_plain.specs.Calls.Answer.{done}
use Rattle.bp_plain.specs.Calls.Call.{upgrade}
use Rattle.bp_changes.specs.Sets.{IsExact, in_snapshot_of}
use Rattle.bp_stands.proofs.UpgradeStands.{upgrade_stands}
use Rattle.bp_volume.specs.Carried.{ChangesTree}
use Rattle.bp_fs.specs.Step.{Fits, IsChange}
use Rattle.bp_volume.specs.Queries.{Answers}
use Rattle.bp_fs.specs.SuperEvents.{upgrade_events}
use Rattle.bp_volume.specs.Upgraded.{Upgrades}
use Rattle.bp_volume.specs.Upgraded.Upgrades.{first, second}
use Rattle.bp_volume.specs.Volume.{IsVolume}
use Rattle.bp_volume.proofs.BesideExact.{beside_exact}
use Rattle.bp_volume.proofs.StepLaws.{answer_steps}
use Rattle.bp_volume.proofs.SuperLaws.{CallsSuper, StoresSuper, changing_steps, magic_leaves, super_trees, trees_beside}
use Rattle.bp_volume.proofs.SuperLaws.CallsSuper.{altered, unchanged}
use Rattle.bp_volume.proofs.WholeLaws.{whole_equivalence}

-- the words that version 2 keeps for a second tree
abbrev IsSecond : ℕ → Type 0
IsSecond place = (4 ≤ place) × (place ≤ 5)

abbrev first_epoch : List Event
first_epoch = Store 4 0 ∷ Store 5 0 ∷ []

module _ (image : Image) where
  -- no change of an image is one of an upgrade, so it needs no block
  upgrade_needs_none : Fits image upgrade
  upgrade_needs_none needed free has = absurd (none has.change has.is)
    where
      none : (change : Change) → IsChange image upgrade change → ⊥
      none change is = elim is [ ]

  upgrade_changes : version_of image ≡ One → ChangesTree upgrade done image (upgraded image)
  upgrade_changes one tree stands =
      changing_steps image (upgraded image) tree upgrade refl (ap (λ version. not (allows_snapshot version)) (stands.version ∙ one)) refl upgrade_needs_none (upgrade_stands image one tree stands)

  -- from version 2 on it changes nothing
  upgrade_reports : allows_snapshot (version_of image) ≡ true → Answers image upgrade done
  upgrade_reports allows tree stands = answer_steps image tree upgrade done refl (ap not (ap allows_snapshot stands.version ∙ allows)) refl

-- ---- an upgrade of version 1

module _ (memory made : Memory) (is : IsFileSystem (current_words memory)) (one : version_of (current_words memory) ≡ One) (adds : Adds memory made upgrade_events) where
  abbrev image : Image
  image = current_words memory

  second_trees : (other : Image) → EachMay (AnyAt IsSecond) image other → SameTrees image other
  second_trees other each = trees_beside IsSecond (λ place at. omega (arith, at.1)) (λ at. omega (arith, at.0)) (λ at. omega (arith, at.0)) image other each

  -- the magic number and the number of blocks stay
  at_low : (other : Image) → EachMay (AnyAt IsSecond) image other → (place : ℕ) → place < 4 → word other place ≡ word image place
  at_low other each place low = same_where_none (AnyAt IsSecond) image other each place (λ value at. omega (arith, low, at.0))

  whole_quiet : IsQuiet SameFiles image first_epoch
  whole_quiet = quiet_may SameFiles whole_equivalence (AnyAt IsSecond) image first_epoch
      (λ other each. same_files_first image other is.first (second_trees other each)
      (at_low other each 0 (omega arith)) (at_low other each 1 (omega arith)) one)
      ((omega arith, omega arith), ((omega arith, omega arith), tt))

  words_made : current_words made ≡ upgraded image
  words_made = current_words-adds memory made upgrade_events adds

  upgrade_stores : StoresSuper memory made upgrade
  upgrade_stores = record {
    prepared = first_epoch;
    place = 0;
    value = magic Two;
    adds = adds;
    quiet = whole_quiet;
    piece = record { no_call_end = refl; few_barriers = omega arith; few_stores = omega arith };
    beside = (
      (omega arith, (λ e. omega (arith, e)), (λ e. omega (arith, e))),
      ((omega arith, (λ e. omega (arith, e)), (λ e. omega (arith, e))), ((omega arith, (λ e. omega (arith, e)), (λ e. omega (arith, e))), tt)),
    );
    leaves = λ roles outside. ((λ e. absurd (omega (arith, e))), ((λ e. absurd (omega (arith, e))), (magic_leaves Two roles image (ap allows_attributes one) outside, tt)));
    reported = refl;
    well = rw words_made (upgraded_file_system image is.first);
    changes = rw words_made (upgrade_changes image one);
  }

  -- no block was in the snapshot, and none is
  snapshot_first : (in_snapshot : ℕ → Bool) → AreInSnapshot image in_snapshot → AreInSnapshot (current_words made) in_snapshot
  snapshot_first in_snapshot snapshot_blocks =
      subst (AreInSnapshot (current_words made)) (sym (snapshot_none image in_snapshot (first_has_none image one) snapshot_blocks))
      (rw words_made (none_in_snapshot_of (upgraded image) (upgraded_alone image is.first)))

  exact_first : {R : Type 0} (parts : Parts R) → IsExact image parts → IsExact (current_words made) parts
  exact_first parts exact = beside_exact image (current_words made) (super_trees memory made upgrade upgrade_stores) parts exact

-- ---- an upgrade

pub upgrade_calls : (memory made : Memory) → IsFileSystem (current_words memory) → Upgrades memory made → CallsSuper memory made upgrade done
upgrade_calls memory made is (first one adds) = altered refl (upgrade_stores memory made is one adds)
upgrade_calls memory made is (second allows same) = unchanged same (upgrade_reports (current_words memory) allows)

module _ {R : Type 0} (memory made : Memory) (parts : Parts R) (pending : ℕ) (volume : IsVolume memory parts pending) where
  -- the blocks of a snapshot stay
  pub upgrade_snapshot : Upgrades memory made → AreInSnapshot (current_words made) (in_snapshot_of parts)
  upgrade_snapshot (first one adds) = snapshot_first memory made volume.well_formed one adds (in_snapshot_of parts) volume.snapshot_blocks
  upgrade_snapshot (second allows same) = rw same volume.snapshot_blocks

  -- and the sets
  pub upgrade_exact : Upgrades memory made → IsExact (current_words made) parts
  upgrade_exact (first one adds) = exact_first memory made volume.well_formed one adds parts volume.exact
  upgrade_exact (second allows same) = rw same volume.exact
