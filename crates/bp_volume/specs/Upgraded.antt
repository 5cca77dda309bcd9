-- What upgrades do to a region before their end-of-call markers.
use Rattle.std.specs.Prelude.{◌≡◌, Bool, true, false, Result, Ok, Err}
use Rattle.pm_region.specs.Memory.{Adds, Memory, current_words}
use Rattle.bp_layout.specs.Formatted.{version_of}
use Rattle.bp_layout.specs.Inode.{AreClear}
use Rattle.bp_layout.specs.Trees.{has_snapshot}
use Rattle.bp_layout.specs.Words.{Image}
use Rattle.bp_limits.specs.CallLimits.{allows_attributes, allows_snapshot}
use Rattle.bp_limits.specs.declared.version.Version.TheVariants.{One}
use Rattle.bp_plain.specs.Calls.{Answer}
use Rattle.bp_plain.specs.Calls.Answer.{done, refused as is_refused}
use Rattle.bp_plain.specs.Calls.Refusal.{has_snap}
use Rattle.bp_plain.specs.declared.errors.FsError.{FsError}
use Rattle.bp_plain.specs.declared.errors.FsError.TheVariants.{HasSnap}
use Rattle.bp_roles.specs.Mounted.{served_words}
use Rattle.bp_fs.specs.Called.{CanUpgrade, ClearsAll}
use Rattle.bp_fs.specs.SuperEvents.{to_three_events, upgrade_events}

-- In version 1 the call adds the events of an upgrade, and from version 2 on it changes nothing.
pub data Upgrades (old new : Memory) : Type 0 where
  first : version_of (current_words old) ≡ One → Adds old new upgrade_events → Upgrades old new
  second : allows_snapshot (version_of (current_words old)) ≡ true → new ≡ old → Upgrades old new

-- ---- an upgrade to version 3

-- whether the image can be upgraded; an error if that is because of its snapshot
abbrev pub MayUpgrade : Image → Result Bool FsError → Type 0
MayUpgrade image (Ok true) = CanUpgrade image
MayUpgrade image (Ok false) = allows_attributes (version_of image) ≡ true
MayUpgrade image (Err error) =
    (error ≡ HasSnap) × (allows_attributes (version_of image) ≡ false) × (has_snapshot image ≡ true)

-- If the image can be upgraded, its words are cleared: at once, if they are clear already.
pub data ClearsFirst (old new : Memory) : Type 0 where
  kept : (CanUpgrade (served_words old) → AreClear (served_words old)) → new ≡ old → ClearsFirst old new
  cleared : (AreClear (served_words old) → ⊥) → ClearsAll old new → ClearsFirst old new

-- If the image can be upgraded, the call adds its events. In version 3 it changes nothing, and if there is a snapshot it
-- is refused.
pub data UpgradesToThree (old : Memory) (answer : Answer) (new : Memory) : Type 0 where
  made : answer ≡ done → CanUpgrade (current_words old) → Adds old new to_three_events → UpgradesToThree old answer new
  third : answer ≡ done → allows_attributes (version_of (current_words old)) ≡ true → new ≡ old →
      UpgradesToThree old answer new
  refused : answer ≡ is_refused has_snap → allows_attributes (version_of (current_words old)) ≡ false →
      has_snapshot (current_words old) ≡ true → new ≡ old → UpgradesToThree old answer new
