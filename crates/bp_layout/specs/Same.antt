-- When two images represent the same abstract tree, in one version.
use Rattle.std.specs.Prelude.{◌≡◌}
use Rattle.bp_layout.specs.Words.{Image}
use Rattle.bp_layout.specs.Formatted.{version_of}
use Rattle.bp_layout.specs.Lookup.{find_one, shown}
use Rattle.bp_layout.specs.Paths.{Path}
use Rattle.bp_layout.specs.WellFormed.{IsWellFormed}

pub record Same (old new : Image) : Type 0 where
  pub old_well_formed : IsWellFormed old
  pub new_well_formed : IsWellFormed new
  pub version : version_of new ≡ version_of old
  pub shows : (path : Path) → shown new path ≡ shown old path
  pub one : (p q : Path) → find_one new p q ≡ find_one old p q
