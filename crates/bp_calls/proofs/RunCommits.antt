-- A commit with a run of a file's bytes, alone or with words beside it: what it asks, and what it makes of the file and of the sets.
use Rattle.std.proofs.Common.{◌≡◌, ◌⊎◌, ℕ, Bool, suc, ◌+◌, ◌-◌, ◌*◌, ◌/◌, ◌^◌, ◌<◌, ◌≤◌, max, take, List, length, slice_index, refl, sym, ◌∙◌, ap, subst, inl, inr, arith, lt-ltb, le-ltb, le-leb}
use Rattle.std.proofs.lemmas.Bool.{cases_lt, lt-leb}
use Rattle.std.proofs.lemmas.List.{get_or-take, length-take}
use Rattle.std.proofs.lemmas.List.Elements.{All-get_or}
use Rattle.std.specs.List.{All}
use Rattle.bp_free.specs.Set.{Set, has}
use Rattle.bp_layout.specs.Free.{AreUnheld}
use Rattle.bp_layout.specs.Inode.{root_of, size_of}
use Rattle.bp_layout.specs.Members.{Has}
use Rattle.bp_layout.specs.Reached.{IsReached, HoldsBlock, IsLiveBlock}
use Rattle.bp_layout.specs.Reached.IsReached.{inode_file}
use Rattle.bp_layout.specs.Tree.{byte, span, HasBlock, IsSound}
use Rattle.bp_layout.specs.WellFormed.{IsWellFormed}
use Rattle.bp_layout.specs.WordPaths.{inode_path}
use Rattle.bp_layout.specs.Words.{Image, height_of}
use Rattle.bp_layout.proofs.TreeLaws.{span-is}
use Rattle.bp_limits.specs.Limits.{block_size, block_words, max_height}
use Rattle.bp_limits.specs.CallLimits.{max_write}
use Rattle.bp_changes.specs.Effects.{ChangesFile}
use Rattle.bp_changes.specs.KeepsDirectories.{KeepsDirectories}
use Rattle.bp_changes.proofs.KeepsDirectories.{reached-back, reached-on}
use Rattle.bp_changes.specs.Forest.{IsTreePointer}
use Rattle.bp_changes.specs.Sets.{AreExact, AreExactFor}
use Rattle.bp_changes.specs.Trail.{trail_of}
use Rattle.bp_changes.proofs.FreeSets.{wf_forest}
use Rattle.bp_read.proofs.Digits.{length-digits}
use Rattle.bp_read.proofs.PathLaws.{small_digits}
use Rattle.bp_changes.specs.Performs.{IsOpen}
use Rattle.bp_cow.specs.declared.touched.Run.{Run}
use Rattle.bp_cow.specs.declared.touched.Touched.{Touched}
use Rattle.bp_cow.specs.CanCommit.{IsRunIn}
use Rattle.bp_cow.specs.Commit.{HasLooseCover, cover_word}
use Rattle.bp_cow.specs.Touched.{IsRun, IsTouched, run_byte, run_end, run_leaves, run_path, run_way}
use Rattle.bp_cow.proofs.CommitTaking.{cover_open}
use Rattle.bp_cow.proofs.CopiesNeed.{has-of-run}
use Rattle.bp_cow.proofs.RunPointers.{leaf-prefixes}
use Rattle.bp_cow.proofs.RunPrefixes.{prefix-run_way}
use Rattle.bp_cow.proofs.RunLaws.{length-run_path, length-run_way}
use Rattle.bp_cow.proofs.RunWrites.{root_path_trail}
use Rattle.bp_calls.specs.WritesFile.{WritesFile, written_byte}
use Rattle.bp_calls.proofs.SetLaws.{free_inodes_stay}
use Rattle.bp_calls.proofs.WritePastEnd.{written_before, written_inside, written_past}
use Rattle.bp_layout.specs.Thaw.{IsLoose}
use Rattle.bp_cow.specs.Cover.{commit_cover}
use Rattle.bp_cow.proofs.LooseCover.{loose_cover}

-- ---- what it asks

-- The run lies in the tree of inode i, below its size.
pub record IsRunOf (image : Image) (i : ℕ) (run : Run) : Type 0 where
  pub root : run.root.items ≡ inode_path (height_of (root_of image 0)) i 1
  pub height : run.height ≡ height_of (root_of image i)
  pub some : 0 < length run.bytes.now
  pub few : length run.bytes.now ≤ max_write
  pub below : run_end run ≤ size_of image i
  pub counts : size_of image i ≤ run.size

module _ (image : Image) (wf : IsWellFormed image) (n : ℕ) (reached : IsReached image (suc n)) (run : Run) (is : IsRunOf image (suc n) run) where
  sound : IsSound image (root_of image (suc n)) (size_of image (suc n))
  sound = wf.sound (suc n) reached

  pub run_root_length : length run.root.items ≡ suc (height_of (root_of image 0))
  run_root_length = ap (λ (p : List ℕ). length p) is.root ∙ length-digits (suc (height_of (root_of image 0))) (8 * suc n + 1)

  pub run_is : IsRun run
  run_is =
      let inodes_low : height_of (root_of image 0) ≤ max_height = (wf.sound 0 inode_file).low (let inodes_there : block_size ≤ size_of image 0 = wf.some_inodes in omega (arith, inodes_there)) in
      let tree_low : height_of (root_of image (suc n)) ≤ max_height = sound.low (omega (arith, is.below, is.some)) in
      record {
        some = is.some;
        few = is.few;
        low = omega (arith, tree_low, is.height);
        covered = subst (λ h. run_end run ≤ block_size * block_words ^ h) (sym is.height) (let fits : size_of image (suc n) ≤ span (height_of (root_of image (suc n))) = sound.fits in let whole = span-is (height_of (root_of image (suc n))) in omega (arith, is.below, fits, whole));
        short = omega (arith, run_root_length, inodes_low, tree_low, is.height);
        slots = λ d low. All-get_or (λ slot. slot < block_words) run.root.items d 0 low (subst (All (λ slot. slot < block_words)) (sym is.root) (small_digits (suc (height_of (root_of image 0))) (8 * suc n + 1)));
      }

  pub run_in : IsRunIn image (size_of image) run
  run_in = record { inode = n; reached = reached; root = root_path_trail (height_of (root_of image 0)) n run.root.items is.root; height = is.height; below = is.below; counts = is.counts }

  -- the pointers on the path of its first word
  run_live : (d : ℕ) → d < length (run_path run (run.offset / 8)) → IsTreePointer image (size_of image) (trail_of (run_path run (run.offset / 8)) d)
  run_live d low =
      let short : d ≤ length (run_way run 0) = omega (arith, low, length-run_path run (run.offset / 8), length-run_way run 0) in
      subst (IsTreePointer image (size_of image)) (prefix-run_way run 0 (run.offset / 8) d (omega arith) short)
      (leaf-prefixes image (size_of image) (wf_forest image wf) run run_is run_in 0 d (omega arith) short)

  -- so the word of the cover, whatever else is touched, is one where a call may store
  pub run_open : (in_snapshot : ℕ → Bool) (touched : Touched) → IsTouched touched → Has touched.runs.now run → HasLooseCover image in_snapshot touched → (taken : List ℕ) → IsOpen image in_snapshot taken (cover_word image touched)
  run_open in_snapshot touched shape has loose taken =
      cover_open in_snapshot image wf touched shape (run_path run (run.offset / 8)) (has-of-run touched shape run (run.offset / 8) has (omega arith) (omega (arith, is.some))) run_live loose taken

  -- and it is not in the snapshot, where nothing is in the snapshot on the way to it
  pub run_loose : (in_snapshot : ℕ → Bool) (touched : Touched) → IsTouched touched → Has touched.runs.now run → IsLoose image in_snapshot (length (commit_cover image touched) - 1) (commit_cover image touched) → HasLooseCover image in_snapshot touched
  run_loose in_snapshot touched shape has loose =
      loose_cover in_snapshot image wf touched shape (run_path run (run.offset / 8)) (has-of-run touched shape run (run.offset / 8) has (omega arith) (omega (arith, is.some))) run_live loose

-- the bytes of one write have few leaves
pub few_leaves : (run : Run) → length run.bytes.now ≤ max_write → run_leaves run ≤ 257
few_leaves run short = omega (arith, short)

-- ---- the file

module _ (run : Run) (o byte_there : ℕ) where
  pub laid_before : o < run.offset → run_byte run o byte_there ≡ byte_there
  laid_before before = rw (lt-leb run.offset o before) refl

  pub laid_inside : run.offset ≤ o → o < run_end run → run_byte run o byte_there ≡ slice_index run.bytes.now (o - run.offset)
  laid_inside low high = rw (le-leb run.offset o low, lt-ltb o (run_end run) high) refl

  pub laid_past : run_end run ≤ o → run_byte run o byte_there ≡ byte_there
  laid_past past = rw (le-leb run.offset o (omega (arith, past)), le-ltb o (run_end run) past) refl

-- a byte of the file, where the run has those of the new bytes that lie below its size
pub run_writes : (run : Run) (bytes : List ℕ) (size : ℕ) (old : ℕ → ℕ) → run.bytes.now ≡ take (size - run.offset) bytes → (o : ℕ) → o < size → run_byte run o (old o) ≡ written_byte run.offset bytes size old o
run_writes run bytes size old first o low = go (cases_lt o run.offset) (cases_lt o (run.offset + length bytes))
  where
    count : length run.bytes.now ≡ length (take (size - run.offset) bytes)
    count = ap (λ (xs : List ℕ). length xs) first

    go : (o < run.offset) ⊎ (run.offset ≤ o) → (o < run.offset + length bytes) ⊎ (run.offset + length bytes ≤ o) → run_byte run o (old o) ≡ written_byte run.offset bytes size old o
    go (inl before) _ = laid_before run o (old o) before ∙ sym (written_before run.offset bytes size old o before low)
    go (inr from_here) (inl inside) =
        laid_inside run o (old o) from_here (omega (arith, count, length-take (size - run.offset) bytes, low, from_here, inside))
        ∙ ap (λ (xs : List ℕ). slice_index xs (o - run.offset)) first
        ∙ get_or-take (size - run.offset) bytes (o - run.offset) 0 (omega (arith, low, from_here))
        ∙ sym (written_inside run.offset bytes size old o from_here inside)
    go (inr from_here) (inr past) =
        laid_past run o (old o) (omega (arith, count, length-take (size - run.offset) bytes, past)) ∙ sym (written_past run.offset bytes size old o past low)

-- The bytes below the old size are those of the run laid over the old ones, and those from there on the rest of the new ones.
module _ (image new : Image) (i : ℕ) (run : Run) (bytes : List ℕ) (changes : ChangesFile image new i) (first : run.bytes.now ≡ take (size_of image i - run.offset) bytes) (starts : run.offset ≤ size_of image i)
    (size : size_of new i ≡ max (size_of image i) (run.offset + length bytes))
    (laid : (o : ℕ) → o < size_of image i → byte new (root_of new i) o ≡ run_byte run o (byte image (root_of image i) o))
    (past_end : (o : ℕ) → size_of image i ≤ o → o < size_of new i → byte new (root_of new i) o ≡ slice_index bytes (o - run.offset)) where
  pub commit_writes_file : WritesFile i run.offset bytes image new
  commit_writes_file = record { changes = changes; size = size; bytes_are = λ o low. go o low (cases_lt o (size_of image i)) }
    where
      go : (o : ℕ) → o < size_of new i → (o < size_of image i) ⊎ (size_of image i ≤ o) → byte new (root_of new i) o ≡ written_byte run.offset bytes (size_of image i) (byte image (root_of image i)) o
      go o low (inl below) = laid o below ∙ run_writes run bytes (size_of image i) (byte image (root_of image i)) first o below
      go o low (inr past) = past_end o past low ∙ sym (written_inside run.offset bytes (size_of image i) (byte image (root_of image i)) o (omega (arith, past, starts)) (omega (arith, low, past, size)))

-- ---- the sets

-- Where each reached tree has then the size under which it was committed, just the free blocks are in the set.
module _ (image new : Image) (wf : IsWellFormed image) (keeps : KeepsDirectories image new) (bound : ℕ → ℕ) (sizes : (t : ℕ) → IsReached image t → size_of new t ≡ bound t) where
  held : (b : ℕ) → IsLiveBlock new b → HoldsBlock new (IsReached image) bound b
  held b one =
      let reached : IsReached image one.tree = reached-back image new wf keeps one.tree one.reached in
      record { tree = one.tree; reached = reached; has = subst (λ s. HasBlock new (root_of new one.tree) s b) (sizes one.tree reached) one.has }

  lives : (b : ℕ) → HoldsBlock new (IsReached image) bound b → IsLiveBlock new b
  lives b one = record {
    tree = one.tree;
    reached = reached-on image new wf keeps one.tree one.reached;
    has = subst (λ s. HasBlock new (root_of new one.tree) s b) (sym (sizes one.tree one.reached)) one.has;
  }

  pub commit_exact : {in_snapshot : ℕ → Bool} (blocks after inodes : Set) → AreExactFor image (IsReached image) bound in_snapshot blocks inodes → length after ≡ length blocks → AreUnheld new (IsReached image) bound in_snapshot (has after) → AreExact new in_snapshot after inodes
  commit_exact blocks after inodes exact room unheld = record {
    block_room = rw keeps.trees.whole (room ∙ exact.block_room);
    inode_room = rw keeps.trees.whole exact.inode_room;
    free_blocks = record {
      free = λ b there. let free = unheld.free b there in record { low = free.low; high = free.high; free = λ one. free.free (held b one); loose = free.loose };
      all = λ b free. unheld.all b (record { low = free.low; high = free.high; free = λ one. free.free (lives b one); loose = free.loose });
    };
    free_inodes = free_inodes_stay image new (has inodes) keeps.inode_bytes (reached-back image new wf keeps) (reached-on image new wf keeps) exact.free_inodes;
  }
