-- The effect of a commit on single words and on trees.
use Rattle.std.specs.Prelude.{◌≡◌, ◌≢◌, ℕ, suc, ◌+◌, ◌-◌, ◌*◌, ◌/◌, ◌<◌, ◌≤◌, ◌∷◌, length}
use Rattle.bp_limits.specs.Limits.{block_words, inode_words, size_field, super_root}
use Rattle.bp_changes.specs.Commits.{Commits}
use Rattle.bp_layout.specs.Inode.{IsDirectory, root_of, size_of}
use Rattle.bp_layout.specs.Members.{Has}
use Rattle.bp_layout.specs.Reached.{IsReached}
use Rattle.bp_layout.specs.Tree.{HasBlock, IsFull}
use Rattle.bp_layout.specs.Words.{Image, height_of, word}
use Rattle.bp_changes.specs.Forest.{IsTreePointer, tree_trail}
use Rattle.bp_changes.specs.Trail.{LeadsTo, Trail, word_on}
use Rattle.bp_cow.specs.Committed.{after_commit, changes_of}
use Rattle.bp_cow.specs.Touched.{end_trail, job_of, laid_word, run_end, run_path, touched_trail}
use Rattle.bp_cow.specs.declared.touched.Run.{Run}
use Rattle.bp_cow.specs.declared.touched.Touched.{Touched}

-- ---- single words

-- touched word number i has its new value
abbrev pub HasValue : Image → Touched → ℕ → Type 0
HasValue image touched i = i < length touched.words.now →
    after_commit image (job_of touched) (touched_trail touched i) ≡ (job_of touched).value i

-- a word of a run has the new bytes of the runs in its tree, and otherwise its old bytes
abbrev pub HasRunBytes : Image → Touched → Run → ℕ → Type 0
HasRunBytes image touched run k = Has touched.runs.now run → run.offset / 8 ≤ k → k ≤ (run_end run - 1) / 8 →
    after_commit image (job_of touched) (end_trail (run_path run k)) ≡
    laid_word touched.runs.now run.root.items k (word_on image (end_trail (run_path run k)))

-- the trail is not that of a touched word
abbrev pub IsNoTouchedWord : Touched → Trail → Type 0
IsNoTouchedWord touched q = (i : ℕ) → i < length touched.words.now → q ≢ touched_trail touched i

-- the trail is not that of a word of a run
abbrev pub IsNoRunWord : Touched → Trail → Type 0
IsNoRunWord touched q = (run : Run) (k : ℕ) → Has touched.runs.now run → run.offset / 8 ≤ k → k ≤ (run_end run - 1) / 8 →
    q ≢ end_trail (run_path run k)

-- a word that is neither a touched word nor a word of a run keeps its value
abbrev pub KeepsWord : Image → Touched → ℕ → Trail → Type 0
KeepsWord image touched slot p =
    slot < block_words → IsNoTouchedWord touched (slot ∷ p) → IsNoRunWord touched (slot ∷ p) →
    after_commit image (job_of touched) (slot ∷ p) ≡ word_on image (slot ∷ p)

-- ---- trees

-- the trees reachable in the first image have at most these sizes in the second
abbrev pub HasSizesWithin : Image → Image → (ℕ → ℕ) → Type 0
HasSizesWithin old image bound = (t : ℕ) → IsReached old t → size_of image t ≤ bound t

-- with these sizes no pointer of a directory is null
abbrev pub AreFull : Image → (ℕ → ℕ) → Type 0
AreFull image bound = (i : ℕ) → IsReached image i → IsDirectory image i → IsFull image (root_of image i) (bound i)

-- Each content word of a tree has its value after the commit, if the sizes before and after are within `bound` and,
-- with these sizes, no pointer of the inode file or of a directory is null.
abbrev pub CommitsTrees : Image → Image → (ℕ → ℕ) → Touched → Type 0
CommitsTrees old new bound touched =
    HasSizesWithin old old bound → HasSizesWithin old new bound → IsFull old (root_of old 0) (bound 0) → AreFull old bound →
    Commits old new (changes_of old (job_of touched))

-- the trail of the word that has the size of an inode
abbrev pub size_trail : Image → ℕ → Trail
size_trail image n =
    tree_trail (height_of (word image super_root)) 0 (suc (height_of (word image super_root))) (inode_words * n + size_field)

-- the new size of a reachable inode is the value of its size word after the commit
abbrev pub HasSizeWord : Image → Image → Touched → ℕ → Type 0
HasSizeWord old new touched n =
    IsReached old n → size_of new n ≡ after_commit old (job_of touched) (size_trail old n)

-- each block to which a pointer leads is a block of a reachable tree
abbrev pub LiesInTree : Image → Image → (ℕ → ℕ) → ℕ → Type 0
LiesInTree old new bound b = LeadsTo new (IsTreePointer old bound) b →
    (t : ℕ) × IsReached old t × HasBlock new (root_of new t) (bound t) b

-- a pointer leads to each block of a reachable tree
abbrev pub HasPointer : Image → Image → (ℕ → ℕ) → ℕ → ℕ → Type 0
HasPointer old new bound t b =
    IsReached old t → HasBlock new (root_of new t) (bound t) b → LeadsTo new (IsTreePointer old bound) b
