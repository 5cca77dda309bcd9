-- What is known of files, and what the calls on them do.
use Rattle.std.specs.Prelude.{◌≡◌, ◌⊎◌, ℕ, ◌+◌, ◌*◌, ◌-◌, ◌/◌, ◌<◌, List, [], ◌++◌, length, take, drop, replicate, Option, Some, None, ⊤, Bool, true, false, slice_range}
use Rattle.bp_limits.specs.Limits.{block_size}
use Rattle.bp_io.specs.Views.{Known, View}
use Rattle.bp_io.specs.declared.access.Access.{Access}
use Rattle.bp_io.specs.declared.access.Access.TheVariants.{Read, Write, Make}

-- The bytes of `count` blocks, from one on.
abbrev pub blocks_of : List ℕ → ℕ → ℕ → List ℕ
blocks_of bytes first count = slice_range bytes (block_size * first) (block_size * first + block_size * count)

-- The bytes of a block.
abbrev pub block_bytes : List ℕ → ℕ → List ℕ
block_bytes bytes i = blocks_of bytes i 1

-- A file with another block at i.
abbrev pub with_block : ℕ → List ℕ → List ℕ → List ℕ
with_block i block bytes = take (block_size * i) bytes ++ block ++ drop (block_size * i + block_size) bytes

-- A file with other blocks from one on.
abbrev pub with_blocks : ℕ → List ℕ → List ℕ → List ℕ
with_blocks first blocks bytes =
    take (block_size * first) bytes ++ blocks ++ drop (block_size * first + length blocks) bytes

-- The first n bytes of a file, padded with zeros to n bytes.
abbrev pub resized_file : ℕ → List ℕ → List ℕ
resized_file n bytes = take n bytes ++ replicate (n - length bytes) 0

-- Each block of a file is that of one list of bytes or that of the other.
pub record IsMixed (found first second : List ℕ) : Type 0 where
  pub size : length found ≡ length first
  pub blocks : (i : ℕ) → block_size * i < length found → (block_bytes found i ≡ block_bytes first i)
      ⊎ (block_bytes found i ≡ block_bytes second i)

-- The file has its old length or the wanted one. Each of its blocks is that of the old file, or that block padded with
-- zeros, or that of the wanted bytes.
pub record IsPartlyReplaced (old wanted found : List ℕ) : Type 0 where
  pub size : (length found ≡ length old) ⊎ (length found ≡ length wanted)
  pub blocks : (i : ℕ) → block_size * i < length found → (block_bytes found i ≡ block_bytes old i)
      ⊎ (block_bytes found i ≡ resized_file block_size (block_bytes old i))
      ⊎ (block_bytes found i ≡ block_bytes wanted i)

-- Whether a file attached with this access may be written.
abbrev pub may_change : Access → Bool
may_change Read = false
may_change Write = true
may_change Make = true

-- Whether this access creates an empty file for a name that does not exist.
abbrev pub makes : Access → Bool
makes Read = false
makes Write = false
makes Make = true

-- ---- what is known of a name, before and after a call

-- What is known stays the same, and what is not known stays unknown.
abbrev pub Stays : Known → Known → Type 0
Stays None new = new ≡ None
Stays (Some old) new = new ≡ Some old

-- The bytes of an existing file, if they are known, change by the function f.
abbrev pub Becomes : (List ℕ → List ℕ) → Known → Known → Type 0
Becomes f None new = new ≡ None
Becomes f (Some None) new = ⊤
Becomes f (Some (Some bytes)) new = new ≡ Some (Some (f bytes))

-- The bytes of an existing file, if they are known, become partly the old and partly the wanted ones.
abbrev pub BecomesPartly : List ℕ → Known → Known → Type 0
BecomesPartly wanted None new = new ≡ None
BecomesPartly wanted (Some None) new = ⊤
BecomesPartly wanted (Some (Some bytes)) None = ⊥
BecomesPartly wanted (Some (Some bytes)) (Some None) = ⊥
BecomesPartly wanted (Some (Some bytes)) (Some (Some found)) = IsPartlyReplaced bytes wanted found

-- Each block of an existing file, if its bytes are known, changes by the function f or stays.
abbrev pub BecomesMixed : (List ℕ → List ℕ) → Known → Known → Type 0
BecomesMixed f None new = new ≡ None
BecomesMixed f (Some None) new = ⊤
BecomesMixed f (Some (Some bytes)) None = ⊥
BecomesMixed f (Some (Some bytes)) (Some None) = ⊥
BecomesMixed f (Some (Some bytes)) (Some (Some found)) = IsMixed found bytes (f bytes)

-- P holds of the bytes of an existing file, if they are known.
abbrev pub FileSatisfies : Known → (List ℕ → Type 0) → Type 0
FileSatisfies None p = ⊤
FileSatisfies (Some None) p = ⊤
FileSatisfies (Some (Some bytes)) p = p bytes

-- The result of an attach: `None` only if no file has the name and none is to be created; otherwise the file's length,
-- which is 0 for a new file.
abbrev pub Answers : Known → Bool → Option ℕ → Type 0
Answers None make None = make ≡ false
Answers (Some None) make None = make ≡ false
Answers (Some (Some bytes)) make None = ⊥
Answers None make (Some n) = ⊤
Answers (Some None) make (Some n) = (make ≡ true) × (n ≡ 0)
Answers (Some (Some bytes)) make (Some n) = n ≡ length bytes

-- A name without a file stays without one, or gets an empty file if this was asked for.
abbrev pub StaysOrIsMade : Bool → Known → Known → Type 0
StaysOrIsMade make None new = ⊤
StaysOrIsMade make (Some None) new = (new ≡ Some None) ⊎ ((make ≡ true) × (new ≡ Some (Some [])))
StaysOrIsMade make (Some (Some bytes)) new = ⊤

-- After an attach, a file that existed has its bytes, and a new file has none.
abbrev pub Attaches : Known → Option ℕ → Known → Type 0
Attaches None length new = new ≡ None
Attaches (Some None) None new = new ≡ Some None
Attaches (Some None) (Some n) new = new ≡ Some (Some [])
Attaches (Some (Some bytes)) length new = new ≡ Some (Some bytes)

-- ---- what is known of files, before and after a call

-- The file of this name is attached, has this length in bytes, and may be written as the access says.
pub record IsAttached (now : View) (name : List ℕ) (access : Access) (len : ℕ) : Type 0 where
  pub attached : now.is_attached name ≡ true
  pub blocks : now.blocks ≡ len / block_size
  pub may_write : now.may_write ≡ may_change access

-- The same file is attached, under the same names and with the same blocks.
pub record StaysAttached (old new : View) : Type 0 where
  pub attached : (name : List ℕ) → new.is_attached name ≡ old.is_attached name
  pub blocks : new.blocks ≡ old.blocks
  pub may_write : new.may_write ≡ old.may_write

-- No file changes, as far as its contents are known.
abbrev pub KeepsFiles : View → View → Type 0
KeepsFiles old new = (name : List ℕ) → Stays (old.contents name) (new.contents name)

-- No file except the attached one changes, as far as its contents are known.
abbrev pub KeepsOthers : View → View → Type 0
KeepsOthers old new = (name : List ℕ) → old.is_attached name ≡ false → Stays (old.contents name) (new.contents name)

-- The attached file changes by the function f, if its bytes are known.
abbrev pub ChangesBytes : (List ℕ → List ℕ) → View → View → Type 0
ChangesBytes f old new =
    (name : List ℕ) → old.is_attached name ≡ true → Becomes f (old.contents name) (new.contents name)

-- The attached file does not change, as far as its contents are known.
abbrev pub KeepsAttached : View → View → Type 0
KeepsAttached old new = (name : List ℕ) → old.is_attached name ≡ true → Stays (old.contents name) (new.contents name)

-- The attached file changes by the function f or does not change, if its bytes are known.
abbrev pub MayChange : (List ℕ → List ℕ) → View → View → Type 0
MayChange f old new = (name : List ℕ) → old.is_attached name ≡ true
    → Stays (old.contents name) (new.contents name) ⊎ Becomes f (old.contents name) (new.contents name)

-- Each block of the attached file changes by the function f or does not change, if its bytes are known.
abbrev pub MayChangeBlocks : (List ℕ → List ℕ) → View → View → Type 0
MayChangeBlocks f old new = (name : List ℕ) → old.is_attached name ≡ true
    → BecomesMixed f (old.contents name) (new.contents name)

-- The attached file changes to n blocks.
pub record Resizes (n : ℕ) (old new : View) : Type 0 where
  pub bytes : ChangesBytes (resized_file (block_size * n)) old new
  pub blocks : new.blocks ≡ n

-- The attached file does not change, nor does its number of blocks.
pub record KeepsSize (old new : View) : Type 0 where
  pub bytes : KeepsAttached old new
  pub blocks : new.blocks ≡ old.blocks

-- The attached file changes to n blocks, of which the first are these, and all blocks after them are zeros.
pub record Replaces (prefix : List ℕ) (n : ℕ) (old new : View) : Type 0 where
  pub bytes : ChangesBytes (λ was. resized_file (block_size * n) prefix) old new
  pub blocks : new.blocks ≡ n

-- The attached file changes partly to n blocks, of which the first are these, and all blocks after them are zeros.
pub record ReplacesPartly (prefix : List ℕ) (n : ℕ) (old new : View) : Type 0 where
  pub bytes : (name : List ℕ) → old.is_attached name ≡ true
      → BecomesPartly (resized_file (block_size * n) prefix) (old.contents name) (new.contents name)
  pub blocks : (new.blocks ≡ old.blocks) ⊎ (new.blocks ≡ n)

-- These are the bytes of `count` blocks of the attached file, from one on, if they are known.
abbrev pub AreBytesOfBlocks : View → ℕ → ℕ → List ℕ → Type 0
AreBytesOfBlocks old first count read = (name : List ℕ) → old.is_attached name ≡ true
    → FileSatisfies (old.contents name) (λ bytes. read ≡ blocks_of bytes first count)

-- Nothing that is known changes, except the count of faults.
pub record Reads (old new : View) : Type 0 where
  pub files : KeepsFiles old new
  pub attached : StaysAttached old new
  pub flushed : new.is_flushed ≡ old.is_flushed
