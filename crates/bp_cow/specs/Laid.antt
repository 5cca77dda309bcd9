-- The words of a block after it was copied: those of another block, or the bytes of runs.
use Rattle.std.specs.Prelude.{◌≡◌, ℕ, ◌+◌, ◌*◌, ◌<◌, ◌≤◌, List, slice_index}
use Rattle.bp_layout.specs.WordPaths.{WordPath}
use Rattle.bp_layout.specs.Words.{Image, slot_word, word}
use Rattle.bp_limits.specs.Limits.{block_size, block_words}
use Rattle.bp_cow.specs.Copies.{IsPatched, TurnsTo}
use Rattle.bp_cow.specs.Job.{patch_at}
use Rattle.bp_cow.specs.Touched.{job_of, laid_word, run_end}
use Rattle.bp_cow.specs.declared.touched.Run.{Run}
use Rattle.bp_cow.specs.declared.touched.Touched.{Touched}
use Rattle.pm_region.specs.Memory.{Memory, current_words}

-- a word of a block that is not null, by its slot
abbrev pub word_in_block : Image → ℕ → ℕ → ℕ
word_in_block image block slot = word image (block_words * block + slot)

-- these are the words of a block; zeros if the block is null
abbrev pub AreWordsOf : List ℕ → Image → ℕ → Type 0
AreWordsOf words image block = (slot : ℕ) → slot < block_words → slice_index words slot ≡ slot_word image block slot

-- the first `count` words of a block have these values, by their slots
abbrev pub HasFirstWords : Image → ℕ → ℕ → (ℕ → ℕ) → Type 0
HasFirstWords image block count value = (slot : ℕ) → slot < count → slot_word image block slot ≡ value slot

-- the run has all bytes of the leaf whose first word has number `first`
abbrev pub CoversLeaf : Run → ℕ → Type 0
CoversLeaf run first = (run.offset ≤ 8 * first) × (8 * first + block_size ≤ run_end run)

-- the words of a leaf, whose first word has number `first` in the tree with this root path, with the bytes of these
-- runs written over them
abbrev pub LaysLeaf : List Run → WordPath → ℕ → List ℕ → List ℕ → Type 0
LaysLeaf runs root first old new = (slot : ℕ) → slot < block_words →
    slice_index new slot ≡ laid_word runs root (first + slot) (slice_index old slot)

-- The first `count` words of block `to` are those of block `from`, with the bytes of these runs written over them. In
-- the tree with this root path they are the words from number `first` on.
abbrev pub LaysOver : List Run → WordPath → ℕ → ℕ → ℕ → ℕ → Memory → Memory → Type 0
LaysOver runs root first count from to old new = (slot : ℕ) → slot < count →
    slot_word (current_words new) to slot ≡ laid_word runs root (first + slot) (slot_word (current_words old) from slot)

-- the counted words of the block at a depth of a way are copied, with the changes of the commit
abbrev pub CopiesOnWay : Touched → ℕ → ℕ → ℕ → ℕ → Memory → Memory → Type 0
CopiesOnWay touched i depth from to old new =
    IsPatched (patch_at (job_of touched) i depth) ((job_of touched).live i depth) from to old new

-- the counted words of the block at a depth of a way are copied, with the changes of the commit, and the word at a
-- place points to the copy
abbrev pub TurnsOnWay : Touched → ℕ → ℕ → ℕ → ℕ → Memory → Memory → Type 0
TurnsOnWay touched i depth place copy old new =
    TurnsTo (patch_at (job_of touched) i depth) ((job_of touched).live i depth) (current_words old) (current_words new)
    place copy
