-- The plain tree of an image that was upgraded.
use Rattle.std.proofs.Common.{◌≡◌, true, false, Option, None, Some, sym, ◌∙◌, ap}
use Rattle.bp_limits.specs.CallLimits.{allows_attributes}
use Rattle.bp_limits.specs.declared.version.Version.TheVariants.{One, Three, Two}
use Rattle.bp_layout.specs.Words.{Image}
use Rattle.bp_layout.specs.Format.{upgraded, upgraded_to_three}
use Rattle.bp_layout.specs.Formatted.{version_of}
use Rattle.bp_layout.specs.Inode.{AreClear}
use Rattle.bp_layout.specs.Trees.{has_snapshot}
use Rattle.bp_layout.specs.WellFormed.{IsWellFormed}
use Rattle.bp_layout.proofs.NoSnapshot.{first_has_none}
use Rattle.bp_layout.proofs.ToThree.{to_three_alone, to_three_one, to_three_shown, to_three_version, to_three_well_formed}
use Rattle.bp_layout.proofs.Upgrade.{upgraded_alone, upgraded_one, upgraded_shown, upgraded_version, upgraded_well_formed}
use Rattle.bp_plain.specs.PlainTree.{FileTree, PathMap}
use Rattle.bp_plain.specs.Stands.{ShowsSnapshot, Stands}

-- an upgrade of version 1 leaves the tree except for its version
pub upgrade_stands : (image : Image) → version_of image ≡ One → (tree : FileTree) → Stands image tree → Stands (upgraded image) (record tree { version = Two })
upgrade_stands image first tree stands = record {
  version = sym (upgraded_version image wf);
  now = record {
    well_formed = upgraded_well_formed image wf;
    shows = λ path. stands.now.shows path ∙ sym (upgraded_shown image wf (ap allows_attributes first) path);
    one = λ p q. stands.now.one p q ∙ sym (upgraded_one image wf p q);
  };
  snap = go tree.snap stands.snap;
}
  where
    wf : IsWellFormed image
    wf = stands.now.well_formed

    go : (snap : Option PathMap) → ShowsSnapshot image snap → ShowsSnapshot (upgraded image) snap
    go None none = upgraded_alone image wf
    go (Some map) shows = let there : has_snapshot image ≡ true = shows.0 in let none : has_snapshot image ≡ false = first_has_none image first in absurd (cc)

-- and so does an upgrade to version 3 of an image without a snapshot, if the words that become attributes are 0
pub to_three_stands : (image : Image) → AreClear image → has_snapshot image ≡ false → allows_attributes (version_of image) ≡ false →
    (tree : FileTree) → Stands image tree → Stands (upgraded_to_three image) (record tree { version = Three })
to_three_stands image clear alone none tree stands = record {
  version = sym (to_three_version image wf);
  now = record {
    well_formed = to_three_well_formed image wf;
    shows = λ path. stands.now.shows path ∙ sym (to_three_shown image wf clear none path);
    one = λ p q. stands.now.one p q ∙ sym (to_three_one image wf p q);
  };
  snap = go tree.snap stands.snap;
}
  where
    wf : IsWellFormed image
    wf = stands.now.well_formed

    go : (snap : Option PathMap) → ShowsSnapshot image snap → ShowsSnapshot (upgraded_to_three image) snap
    go None is = to_three_alone image wf
    go (Some map) shows = let there : has_snapshot image ≡ true = shows.0 in absurd (cc)
