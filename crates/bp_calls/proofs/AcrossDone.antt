-- What a write across the size of a file makes of an image, and that it is performed.
use Rattle.std.proofs.Common.{◌≡◌, ◌⊎◌, ℕ, zero, suc, ◌+◌, ◌-◌, ◌*◌, ◌<◌, ◌≤◌, Bool, List, [], ◌∷◌, length, take, drop, slice_index, sym, ◌∙◌, ap, subst, inl, inr, arith}
use Rattle.std.proofs.lemmas.Bool.{cases_eq}
use Rattle.std.proofs.lemmas.List.{get_or-drop}
use Rattle.bp_free.specs.Set.{Set, has, members}
use Rattle.bp_layout.specs.Inode.{root_of, size_of}
use Rattle.bp_layout.specs.Need.{Change, need}
use Rattle.bp_layout.specs.Need.Change.{writes}
use Rattle.bp_layout.specs.Reached.{IsReached}
use Rattle.bp_layout.specs.Tree.{byte}
use Rattle.bp_layout.specs.WellFormed.{IsWellFormed}
use Rattle.bp_layout.specs.WordPaths.{inode_path}
use Rattle.bp_layout.specs.Words.{Image, height_of}
use Rattle.bp_changes.specs.Effects.{ChangesFile}
use Rattle.bp_changes.proofs.ChangesFile as changed
use Rattle.bp_changes.proofs.ChangesOver.{changes_over}
use Rattle.bp_append.specs.Prepared.{PreparesWith, need_for}
use Rattle.bp_append.specs.Stores.{prep_stores}
use Rattle.bp_append.proofs.StoresLaws.{past_end_near}
use Rattle.bp_changes.specs.Sets.{AreExact}
use Rattle.bp_changes.proofs.FreeSets.{wf_forest}
use Rattle.bp_changes.specs.Performs.{IsOpen, PerformsThawed, most_stores_thawed}
use Rattle.bp_cow.specs.CanCommit.{CanCommit}
use Rattle.bp_cow.specs.Commit.{CommitsTouched, commit_stores, cover_word}
use Rattle.bp_cow.specs.Cover.{commit_cover, copied_count}
use Rattle.bp_cow.specs.Job.{IsTurned}
use Rattle.bp_cow.specs.Touched.{job_of, run_byte}
use Rattle.bp_cow.specs.declared.touched.Touched.{Touched}
use Rattle.bp_cow.proofs.CommitTaking.{commit_performs_after, cover_open}
use Rattle.bp_cow.proofs.LeafCover.{has_size}
use Rattle.bp_cow.proofs.RunWrites.{IsFileRun, sized_bytes, sized_changes, sized_size}
use Rattle.bp_limits.specs.Limits.{block_words, max_height}
use Rattle.pm_region.specs.Memory.{Memory, current_words}
use Rattle.bp_calls.specs.TouchedAcross.{WritesAcross}
use Rattle.bp_calls.specs.WritesFile.{WritesFile}
use Rattle.bp_calls.proofs.AcrossMiddle.{across_can, across_file, bound_here, bound_other, left_free, middle_count, middle_cover, middle_formed, middle_live, middle_sets, run_there, size_prefixes}
use Rattle.bp_calls.proofs.SizesWith.{sizes_with}
use Rattle.bp_calls.proofs.AcrossTouched.{across_copies, across_cover, across_end, across_needs, across_shape, across_words}
use Rattle.bp_calls.proofs.RunCommits.{commit_exact, commit_writes_file, laid_past}
use Rattle.bp_append.proofs.LaidLaws.{given-there}

-- ---- one byte

small_take : (count : ℕ) (bytes : List ℕ) → ((k : ℕ) → slice_index bytes k < 256) → (k : ℕ) → slice_index (take count bytes) k < 256
small_take zero bytes small k = omega arith
small_take (suc count) [] small k = omega arith
small_take (suc count) (b ∷ bytes) small zero = small 0
small_take (suc count) (b ∷ bytes) small (suc k) = small_take count bytes (λ j. small (suc j)) k

-- ---- the call

module _ {in_snapshot : ℕ → Bool} (old middle new : Memory) (blocks inodes after last : Set) (n offset : ℕ) (bytes : List ℕ) (touched : Touched) (across : WritesAcross in_snapshot old blocks inodes (suc n) offset bytes touched)
    (prepared : PreparesWith in_snapshot old middle (members blocks) (members after) (suc n) (size_of (current_words old) (suc n)) (offset + length bytes) (drop (size_of (current_words old) (suc n) - offset) bytes))
    (small : (k : ℕ) → slice_index bytes k < 256) (done : CommitsTouched (sizes_with (current_words middle) touched) in_snapshot touched middle new after last) where
  abbrev image : Image
  image = current_words old

  abbrev mid : Image
  mid = current_words middle

  abbrev size : ℕ
  size = size_of (current_words old) (suc n)

  abbrev bound : ℕ → ℕ
  bound = sizes_with (current_words middle) touched

  abbrev write : Change
  write = writes (suc n) offset (length bytes)

  wf : IsWellFormed image
  wf = across.into.well_formed

  wf_mid : IsWellFormed mid
  wf_mid = middle_formed old middle blocks inodes after n offset bytes touched across prepared

  can : CanCommit mid bound in_snapshot touched (has after)
  can = across_can old middle blocks inodes after n offset bytes touched across prepared

  file : IsFileRun mid bound touched across.touches.run n
  file =
      across_file old middle blocks inodes after n offset bytes touched across prepared
      (λ k. let small_prefix = small_take (size_of (current_words old) (suc n) - offset) bytes small k in rw across.touches.is.bytes_are small_prefix)

  bound_is : bound (suc n) ≡ offset + length bytes
  bound_is = bound_here old middle blocks inodes after n offset bytes touched across prepared

  size_is : size_of (current_words new) (suc n) ≡ offset + length bytes
  size_is =
      sized_size mid (current_words new) bound wf_mid touched (has after) can across.touches.run n file (IsTurned (job_of touched) (length (commit_cover mid touched))) done.words 0
      (omega (arith, across_words old blocks inodes n offset bytes touched across)) ∙ ap (λ vs. slice_index vs 0) across.touches.value

  grown : size_of (current_words new) (suc n) ≤ bound (suc n)
  grown = omega (arith, size_is, bound_is)

  changes_mid : ChangesFile mid (current_words new) (suc n)
  changes_mid =
      sized_changes mid (current_words new) bound wf_mid touched (has after) can across.touches.run n file (IsTurned (job_of touched) (length (commit_cover mid touched))) done.words grown

  changes : ChangesFile image (current_words new) (suc n)
  changes = changes_over image mid (current_words new) (suc n) wf prepared.ready.meaning prepared.ready.sizes changes_mid

  size_was : size_of mid (suc n) ≡ size_of image (suc n)
  size_was = prepared.ready.sizes (suc n) across.into.can.reached

  -- each byte is that of the run, or the one that the preparation left
  byte_is : (o : ℕ) → o < offset + length bytes → byte (current_words new) (root_of (current_words new) (suc n)) o ≡ run_byte across.touches.run o (byte mid (root_of mid (suc n)) o)
  byte_is o low =
      sized_bytes mid (current_words new) bound wf_mid touched (has after) can across.touches.run n file (IsTurned (job_of touched) (length (commit_cover mid touched))) done.words grown o (omega (arith, low, size_is))

  past_end : (o : ℕ) → size_of image (suc n) ≤ o → o < offset + length bytes → byte (current_words new) (root_of (current_words new) (suc n)) o ≡ slice_index bytes (o - across.touches.run.offset)
  past_end o past low =
      let at : size_of image (suc n) - offset + (o - size_of image (suc n)) ≡ o - across.touches.run.offset = omega (arith, past, across.below, across.touches.is.from) in
      byte_is o low
      ∙ laid_past across.touches.run o (byte mid (root_of mid (suc n)) o) (omega (arith, past, across_end old blocks inodes n offset bytes touched across))
      ∙ prepared.ready.bytes_are o past low ∙ given-there (size_of image (suc n)) (drop (size_of image (suc n) - offset) bytes) o past
      ∙ get_or-drop (size_of image (suc n) - offset) bytes (o - size_of image (suc n)) 0 ∙ ap (slice_index bytes) at

  pub across_writes : WritesFile (suc n) offset bytes (current_words old) (current_words new)
  across_writes =
      subst (λ f. WritesFile (suc n) f bytes image (current_words new)) across.touches.is.from
      (commit_writes_file image (current_words new) (suc n) across.touches.run bytes changes
      (across.touches.is.bytes_are ∙ ap (λ f. take (size_of image (suc n) - f) bytes) (sym across.touches.is.from)) (omega (arith, across.below, across.touches.is.from))
      (omega (arith, size_is, across.past, across.touches.is.from))
      (λ o low. byte_is o (omega (arith, low, across.past)) ∙ ap (run_byte across.touches.run o) (prepared.ready.kept o low))
      (λ o past low. past_end o past (omega (arith, low, size_is))))

  -- ---- the stores

  open_cover : IsOpen mid in_snapshot done.taken (cover_word mid touched)
  open_cover =
      cover_open in_snapshot mid wf_mid touched (across_shape old blocks inodes n offset bytes touched across) (inode_path (height_of (root_of mid 0)) (suc n) 2)
      (has_size (height_of (root_of mid 0)) (suc n) touched across.touches.run (run_there old middle blocks inodes after n offset bytes touched across prepared) (across_shape old blocks inodes n offset bytes touched across))
      (size_prefixes old middle blocks inodes after n offset bytes touched across prepared (size_of mid) (wf_forest mid wf_mid) (omega arith)) done.loose done.taken

  count_is : copied_count mid touched ≡ copied_count image touched
  count_is = middle_count old middle blocks inodes after n offset bytes touched across prepared

  needs : need image write ≡ need_for image (suc n) (size_of image (suc n)) (offset + length bytes) + copied_count image touched
  needs = across_needs old blocks inodes n offset bytes touched across

  few : prep_stores (size_of image (suc n)) (size_of image (suc n)) (offset + length bytes) (need_for image (suc n) (size_of image (suc n)) (offset + length bytes)) + commit_stores mid touched ≤ most_stores_thawed (need image write)
  few =
      go _ _ _ _ _ _ needs count_is (past_end_near (size_of image (suc n)) (offset + length bytes) max_height (omega (arith, across.below, across.into.can.short))) (across_words old blocks inodes n offset bytes touched across)
      (across_copies old blocks inodes n offset bytes touched across image)
    where
      go : (made copied copied_mid words needed past_end : ℕ) → needed ≡ made + copied → copied_mid ≡ copied → past_end ≤ 1024 + max_height → words ≡ 1 → copied ≤ 290 →
          block_words * made + past_end + 2 + ((block_words + 1) * copied_mid + words + 1) ≤ most_stores_thawed needed
      go made copied copied_mid words needed past_end a b c d e = omega (arith, a, b, c, d, e)

  pub across_performs : PerformsThawed in_snapshot old new (writes (suc n) offset (length bytes)) (WritesFile (suc n) offset bytes)
  across_performs =
      commit_performs_after old middle new (writes (suc n) offset (length bytes)) (WritesFile (suc n) offset bytes) bound touched after last prepared.taken 2
      (prep_stores (size_of image (suc n)) (size_of image (suc n)) (offset + length bytes) (need_for image (suc n) (size_of image (suc n)) (offset + length bytes))) prepared.adds done
      (middle_live old middle blocks inodes after n offset bytes touched across prepared)
      (left_free old middle blocks inodes after n offset bytes touched across prepared)
      (middle_cover old middle blocks inodes after n offset bytes touched across prepared ∙ sym (across_cover old blocks inodes n offset bytes touched across)) (omega arith) few
      (omega (arith, prepared.counted, count_is, needs)) open_cover
      (changed.well_formed-same image (current_words new) (suc n) wf changes) across_writes

  -- ---- the sets

  bounds : (t : ℕ) → IsReached mid t → size_of (current_words new) t ≡ bound t
  bounds t reached = go (cases_eq t (suc n))
    where
      go : (t ≡ suc n) ⊎ (t ≡ suc n → ⊥) → size_of (current_words new) t ≡ bound t
      go (inl e) = rw e (size_is ∙ sym bound_is)
      go (inr other) = changes_mid.size t reached other ∙ sym (bound_other old middle blocks inodes after n offset bytes touched across prepared t other)

  pub across_exact : length last ≡ length after → length after ≡ length blocks → AreExact (current_words new) in_snapshot last inodes
  across_exact same room =
      commit_exact mid (current_words new) wf_mid (changed.keeps mid (current_words new) (suc n) wf_mid changes_mid) bound bounds after last inodes (middle_sets old middle blocks inodes after n offset bytes touched across prepared room) same done.exact
