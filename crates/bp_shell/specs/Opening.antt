-- Which files are file systems, and why others are refused.
use Rattle.std.specs.Prelude.{◌≡◌, ◌≢◌, ◌⊎◌, ◌≤◌, ℕ, ◌-◌, ◌*◌, ◌^◌, List, length, min, [], true}
use Rattle.bp_io.specs.Files.{KeepsFiles, StaysAttached, may_change}
use Rattle.bp_io.specs.Views.{Known, View}
use Rattle.bp_io.specs.declared.access.Access.{Access}
use Rattle.bp_io.specs.declared.access.Access.TheVariants.{Read}
use Rattle.bp_layout.specs.Formatted.{IsSized, version_of}
use Rattle.bp_layout.specs.Words.{Image, word, block_count}
use Rattle.bp_limits.specs.Limits.{block_size, block_words, log_events, magic, max_file_blocks, min_blocks, super_blocks, super_magic}
use Rattle.bp_limits.specs.declared.version.Version.{Version}
use Rattle.bp_layout.specs.Checks.{number_of}
use Rattle.bp_layout.specs.declared.check.Check.{Check}
use Rattle.bp_layout.specs.Whole.{FailsWhole, IsFileSystem}
use Rattle.bp_roles.specs.Mounted.{by_roles, roles_of}
use Rattle.bp_roles.specs.Roles.{stored_at}
use Rattle.bp_scan.specs.Length.{wanted_length}
use Rattle.bp_script.specs.declared.notices.Notice.{Notice}
use Rattle.bp_script.specs.declared.notices.Notice.TheVariants.{NotFormatted, BadSize, Damaged}
use Rattle.bp_session.specs.Files.{AreWordsOf64Bits, HasLength, HasImage, Holds, HoldsFirstBlocks}
use Rattle.bp_session.specs.Session.{State}
use Rattle.pm_raw.specs.Part.{Part}
use Rattle.pm_region.specs.Memory.{Memory}

-- The file holds this image, which is a file system to a mount.
pub record HoldsFileSystem (known : Known) (image : Image) : Type 0 where
  pub has : HasImage known image
  pub well_formed : IsFileSystem (by_roles image)

-- A file system of at most as many blocks as the program reads from FILE.
abbrev pub IsShortFileSystem : Image → Type 0
IsShortFileSystem image = IsFileSystem (by_roles image) × (block_count image ≤ max_file_blocks)

-- The file has the bytes of an image of a length that an image may have.
pub record HasSized (known : Known) (image : Image) : Type 0 where
  pub has : HasImage known image
  pub sized : IsSized image

-- The file of this name, of which this much was known before, is attached, and has this number of blocks of an image.
pub record FindsImage (was : Known) (name : List ℕ) (count : ℕ) (files : View) : Type 0 where
  pub attached : files.is_attached name ≡ true
  pub blocks : files.blocks ≡ count
  pub has : HasLength was (block_size * count)
  pub at_least : min_blocks ≤ count
  pub at_most : count ≤ max_file_blocks

-- FILE is attached with the access that was asked for, or the files attached before still are.
abbrev pub AttachesAs : Access → List ℕ → View → View → Type 0
AttachesAs access name old new =
    (new.is_attached name ≡ true) × (new.may_write ≡ may_change access) ⊎ StaysAttached old new

-- What a program leaves that only reads FILE: no file changes, and FILE cannot be written.
pub record OnlyReads (name : List ℕ) (old new : View) : Type 0 where
  pub kept : KeepsFiles old new
  pub attached : AttachesAs Read name old new

-- The words of the first blocks of the attached file are loaded, and there is room for those of the others.
pub record HasLoaded (files : View) (count : ℕ) (part : Part) : Type 0 where
  pub image : HoldsFirstBlocks files count part.words
  pub words : AreWordsOf64Bits part.words
  pub long : length part.words ≡ block_words * count
  pub size : part.size ≡ block_words * files.blocks

-- Why an image is refused, with the line that reports it. Word 0 is the magic number of no version, or word 1 is not its
-- number of blocks. Or both are right, and the check with this number fails at a word; the line has the place where that
-- word is stored.
pub data RefusesImage (image : Image) (stored : ℕ → ℕ) : Notice → Type 0 where
  not_formatted : ((version : Version) → word image super_magic ≢ magic version) → RefusesImage image stored NotFormatted
  by_count : word image super_magic ≡ magic (version_of image) → word image super_blocks ≢ block_count image
      → RefusesImage image stored (BadSize (block_size * block_count image) (min (block_size * word image super_blocks) (2 ^ 64 - 1)))
  damaged : {check : Check} {place : ℕ} → word image super_magic ≡ magic (version_of image)
      → word image super_blocks ≡ block_count image → FailsWhole image check place
      → RefusesImage image stored (Damaged (number_of check) (stored place))

-- Why a file is refused, with the line that reports it. Its length is no image's; or it is, and its image is refused as a
-- mount sees it.
pub data RefusesFile (known : Known) : Notice → Type 0 where
  by_length : {len : ℕ} → HasLength known len → len ≢ wanted_length max_file_blocks len
      → RefusesFile known (BadSize len (wanted_length max_file_blocks len))
  by_image : {image : Image} {notice : Notice} → HasSized known image
      → RefusesImage (by_roles image) (stored_at (roles_of (word image super_magic))) notice → RefusesFile known notice

-- The state in which a run begins.
abbrev pub start : Image → State Memory
start image = record { system = record { base = image; events = []; capacity = log_events; drains = 0; through = 0 }; saved = image }

-- The memory with which a run over an image begins.
abbrev pub IsStart : Image → Memory → Type 0
IsStart image memory = memory ≡ (start image).system

-- From whichever file the memory was mounted, the fact holds of the known contents of that file.
abbrev pub FromAnyFile : Memory → (Known → Type 0) → Type 0
FromAnyFile memory Fact = (known : Known) (image : Image) → HoldsFileSystem known image → IsStart image memory → Fact known

-- The file of this name was mounted: it held an image, a file system, with which the memory begins, and still holds
-- it.
abbrev pub Mounts : View → List ℕ → View → Memory → Type 0
Mounts old name new memory =
    (image : Image) × HoldsFileSystem (old.contents name) image × IsStart image memory × Holds new name image
