-- The words that a file holds.
use Rattle.std.specs.Prelude.{◌≡◌, ℕ, List, None, Some, ⊤, Bool, true, false, is_some, length, take, ◌*◌, ◌<◌, ◌^◌}
use Rattle.bp_limits.specs.Limits.{block_size, block_words}
use Rattle.bp_io.specs.Files.{IsMixed, FileSatisfies, block_bytes}
use Rattle.bp_io.specs.Views.{HasBytes, Known, View}
use Rattle.bp_layout.specs.Words.{Image, word}
use Rattle.bp_layout.specs.Bytes.{image_bytes}
use Rattle.bp_session.specs.Changed.{is_dirty}

-- If its contents are known, the file exists and has this number of bytes.
abbrev pub HasLength : Known → ℕ → Type 0
HasLength None count = ⊤
HasLength (Some None) count = ⊥
HasLength (Some (Some found)) count = length found ≡ count

-- No file of the name is known to exist.
abbrev pub IsAbsent : Known → Type 0
IsAbsent None = ⊤
IsAbsent (Some None) = ⊤
IsAbsent (Some (Some bytes)) = ⊥

-- Each word has 64 bits.
abbrev pub AreWordsOf64Bits : Image → Type 0
AreWordsOf64Bits image = (place : ℕ) → word image place < 2 ^ 64

-- The file has the bytes of an image of 64-bit words. At most one image has these bytes.
pub record HasImage (known : Known) (image : Image) : Type 0 where
  pub bytes : HasBytes known (image_bytes image)
  pub words : AreWordsOf64Bits image

-- If its contents are known, the file exists, and each of its blocks is that of one or of the other list of bytes.
abbrev pub HasBlocksOf : Known → List ℕ → List ℕ → Type 0
HasBlocksOf None first second = ⊤
HasBlocksOf (Some None) first second = ⊥
HasBlocksOf (Some (Some found)) first second = IsMixed found first second

-- The file of this name is attached, has this number of blocks and holds these bytes.
pub record HoldsBytes (files : View) (name bytes : List ℕ) : Type 0 where
  pub attached : files.is_attached name ≡ true
  pub size : length bytes ≡ block_size * files.blocks
  pub has : HasBytes (files.contents name) bytes

-- The bytes of the attached file are known afterwards exactly if they were known before.
abbrev pub StaysKnown : View → View → Type 0
StaysKnown old new = (name was : List ℕ) → HoldsBytes old name was
    → is_some (new.contents name) ≡ is_some (old.contents name)

-- The file of this name is attached, has this number of blocks and holds these words.
pub record Holds (files : View) (name : List ℕ) (image : Image) : Type 0 where
  pub attached : files.is_attached name ≡ true
  pub size : length image ≡ block_words * files.blocks
  pub bytes : HasBytes (files.contents name) (image_bytes image)

-- Each block that is not dirty is the image's.
abbrev pub HasClean : List Bool → Image → List ℕ → Type 0
HasClean flags image bytes = (i : ℕ) → block_size * i < length bytes → is_dirty flags i ≡ false →
    block_bytes bytes i ≡ block_bytes (image_bytes image) i

-- The file holds these words; if its bytes are known, each block that is not dirty has those of the last drain.
pub record HoldsAs (dirty : List Bool) (files : View) (base : Image) (name : List ℕ) (image : Image) : Type 0 where
  pub file : Holds files name image
  pub fresh : FileSatisfies (files.contents name) (HasClean dirty base)

-- The file is attached, and each of its blocks is that of the first or of the second words.
pub record HoldsPartly (files : View) (name : List ℕ) (first second : Image) : Type 0 where
  pub attached : files.is_attached name ≡ true
  pub bytes : HasBlocksOf (files.contents name) (image_bytes first) (image_bytes second)

-- The words are those of the first blocks of the attached file, if its bytes are known.
abbrev pub HoldsFirstBlocks : View → ℕ → Image → Type 0
HoldsFirstBlocks files count words = (name : List ℕ) → files.is_attached name ≡ true →
    FileSatisfies (files.contents name) (λ bytes. image_bytes words ≡ take (block_size * count) bytes)

-- A file is attached that has the blocks of the words, and may be written.
pub record CanSave (base : Image) (files : View) : Type 0 where
  pub size : length base ≡ block_words * files.blocks
  pub attached : (name : List ℕ) × (files.is_attached name ≡ true)
  pub may_write : files.may_write ≡ true
