-- What a commit gives its caller: it takes the blocks that its copies need and no others, and the word of the cover stays where it is.
use Rattle.std.proofs.Common.{◌≡◌, ◌≢◌, ◌⊎◌, ℕ, zero, suc, ◌+◌, ◌*◌, ◌/◌, ◌<◌, ◌≤◌, List, ◌++◌, length, filter, Bool, true, false, refl, sym, ◌∙◌, ap, subst, arith, lt_of_lt_of_le}
use Rattle.std.specs.Prelude.{nat_le}
use Rattle.std.specs.List.{range_with_len, slice_index}
use Rattle.pm_epochs.specs.Crash.{commit}
use Rattle.pm_epochs.specs.Log.{IsPiece}
use Rattle.pm_region.specs.Memory.{Memory, current_words, Adds}
use Rattle.bp_layout.proofs.MemberLaws.{each-has, each-of}
use Rattle.bp_limits.specs.Limits.{block_words}
use Rattle.bp_free.specs.Set.{Set, has, members}
use Rattle.bp_free.proofs.Members.{filter_none}
use Rattle.bp_layout.specs.Free.{numbers_below}
use Rattle.bp_layout.specs.Inode.{size_of}
use Rattle.bp_layout.specs.Members.{Has}
use Rattle.bp_layout.specs.Need.{Change, cover, need}
use Rattle.bp_layout.specs.Reached.{IsReached, HoldsBlock, IsLiveBlock, IsFreeBlock}
use Rattle.bp_layout.specs.WellFormed.{IsWellFormed}
use Rattle.bp_layout.specs.WordPaths.{WordPath, address}
use Rattle.bp_layout.specs.Words.{Image, block_of, block_count}
use Rattle.bp_changes.specs.Forest.{IsTreePointer}
use Rattle.bp_changes.specs.Trail.{Trail, block_on, place_on, trail_of}
use Rattle.bp_changes.proofs.ExactSets.{exact-unheld, led_held}
use Rattle.bp_changes.proofs.FreeSets.{wf_forest}
use Rattle.bp_changes.proofs.PathTrails.{address-on, length-trail_of}
use Rattle.bp_changes.specs.Performs.{IsOpen, AddsTaking, PerformsThawed, most_stores_thawed}
use Rattle.bp_changes.specs.Performs.IsOpen.{in_live, at_root}
use Rattle.bp_changes.proofs.PerformsLaws.{performs_committed, performs_twice}
use Rattle.bp_cow.specs.Counting.{IsTreeWord}
use Rattle.bp_cow.specs.declared.touched.Touched.{Touched}
use Rattle.bp_cow.specs.CanCommit.{CanCommit}
use Rattle.bp_cow.specs.Commit.{CommitsTouched, HasLooseCover, commit_stores, cover_word}
use Rattle.bp_cow.specs.Committed.{IsCommitted, after_commit}
use Rattle.bp_cow.specs.Cover.{end_path, CoverHas, commit_cover, copied_count}
use Rattle.bp_cow.specs.Job.{Job, prefix, ways, begins, copies_at, turned_for, turned_upto, IsRenewed, IsTurned}
use Rattle.bp_cow.specs.Job.IsRenewed.{is_cover, is_begun, is_proper_prefix}
use Rattle.bp_cow.specs.Touched.{IsTouched, all_paths, job_of}
use Rattle.bp_cow.proofs.CommitEnd.{CommitsCopies}
use Rattle.bp_cow.proofs.CommitLaws.{led_has, has_led}
use Rattle.bp_cow.proofs.CopiesNeed.{alike-all, none-begins}
use Rattle.bp_cow.proofs.CoverLaws.{some-ends, end-slots}
use Rattle.bp_cow.proofs.CoverOf.{alike_prefix, nodes_of, cover_has, cover_length, cover_prefix, cover_address, count_is}
use Rattle.bp_cow.proofs.WayPointers.{ways-short}
use Rattle.bp_cow.proofs.WaysAlike.{first-length, first-pointer}
use Rattle.bp_cow.proofs.PerformsLaws.{copies, of_copy, copies_taken, copies_counted}

-- numbers past which none is in count for nothing
count_past : (p : ℕ → Bool) (a n m : ℕ) → n ≤ m → ((k : ℕ) → a + n ≤ k → p k ≡ false) → length (filter p (range_with_len a m)) ≡ length (filter p (range_with_len a n))
count_past p a zero m low none = ap (λ (xs : List ℕ). length xs) (filter_none p a m (λ k above below. none k (omega (arith, above))))
count_past p a (suc n) zero low none = absurd (omega (arith, low))
count_past p a (suc n) (suc m) low none = go (p a) refl (count_past p (a + 1) n m (omega (arith, low)) (λ k above. none k (omega (arith, above))))
  where
    go : (b : Bool) → p a ≡ b → length (filter p (range_with_len (a + 1) m)) ≡ length (filter p (range_with_len (a + 1) n)) →
        length (filter p (range_with_len a (suc m))) ≡ length (filter p (range_with_len a (suc n)))
    go true e rest = rw e (ap suc rest)
    go false e rest = rw e rest

-- a pointer above the cover is not turned
above_not_turned : (touched : Touched) (path : WordPath) (from d : ℕ) → d < from → IsTurned (job_of touched) from (trail_of path d) → ⊥
above_not_turned touched path from d low turned = go turned.renewed
  where
    size : (q : Trail) → trail_of path d ≡ q → length q ≡ d
    size q e = ap (λ (t : Trail). length t) (sym e) ∙ length-trail_of path d

    go : IsRenewed (job_of touched) from (ways (job_of touched)) from (trail_of path d) → ⊥
    go (is_cover e) = omega (arith, low, size (prefix (job_of touched) 0 from) e, length-trail_of ((job_of touched).way 0) from)
    go (is_begun b) = omega (arith, low, b.low, size (prefix (job_of touched) b.which b.depth) b.same, length-trail_of ((job_of touched).way b.which) b.depth)
    go (is_proper_prefix count past high e) = omega (arith, low, past, size (prefix (job_of touched) (ways (job_of touched)) count) e, length-trail_of ((job_of touched).way (ways (job_of touched))) count)

module _ {in_snapshot : ℕ → Bool} {bound : ℕ → ℕ} {touched : Touched} {old new : Memory} {blocks after : Set} (wf : IsWellFormed (current_words old))
    (can : CanCommit (current_words old) bound in_snapshot touched (has blocks)) (loose : HasLooseCover (current_words old) in_snapshot touched) (fits : block_count (current_words old) ≤ length blocks)
    (done : CommitsCopies bound in_snapshot touched old new blocks after) where
  abbrev image : Image
  image = current_words old

  abbrev n : ℕ
  n = length (commit_cover image touched)

  cover-is : done.cover ≡ n
  cover-is = cover_length touched can.shape image done.cover done.has_cover

  copied-is : copies_at (job_of touched) done.cover ≡ copied_count image touched
  copied-is = count_is touched can.shape image (none-begins image bound touched (has blocks) wf can) done.cover done.has_cover

  -- a free block is free under the image's own sizes
  was_free : (b : ℕ) → has blocks b ≡ true → IsFreeBlock image in_snapshot b
  was_free b is =
      let free = can.exact.free b is in
      record { low = free.low; high = free.high; free = λ live. free.free (held live); loose = free.loose }
    where
      held : IsLiveBlock image b → HoldsBlock image (IsReached image) bound b
      held live = record {
        tree = live.tree;
        reached = live.reached;
        has = record {
          depth = live.has.depth;
          index = live.has.index;
          pointer = record { level = live.has.pointer.level; height = live.has.pointer.height; live = lt_of_lt_of_le live.has.pointer.live (can.sizes live.tree live.reached) };
          named = live.has.named;
          not_null = live.has.not_null;
        };
      }

  abbrev taken : List ℕ
  taken = copies done.commit was_free

  -- the sets are reported up to the number of blocks
  reported : (set : Set) → length set ≡ length blocks → ((b : ℕ) → has set b ≡ true → has blocks b ≡ true) → length (members set) ≡ length (numbers_below (block_count image) (has set))
  reported set size inside = count_past (has set) 0 (block_count image) (length set) (omega (arith, fits, size)) (λ k past. none k past (has set k) refl)
    where
      none : (k : ℕ) → 0 + block_count image ≤ k → (b : Bool) → has set k ≡ b → has set k ≡ false
      none k past false e = e
      none k past true e = let high : k < block_count image = (can.exact.free k (inside k e)).high in absurd (omega (arith, past, high))

  number-is : length taken ≡ copied_count image touched
  number-is =
      copies_counted done.commit was_free (reported blocks refl (λ b is. is)) (reported done.taken done.size done.commit.fewer) done.count
      ∙ copied-is

  -- ---- the word of the cover

  abbrev first : WordPath
  first = end_path touched 0

  has_cover : CoverHas image touched n
  has_cover = cover_has touched can.shape image

  long : n ≤ length first
  long = has_cover.alike.long 0 (some-ends touched can.shape)

  same_block : (d : ℕ) → d < n → block_on (current_words new) (trail_of first d) ≡ block_on image (trail_of first d)
  same_block d low =
      let short : d ≤ length ((job_of touched).way 0) = omega (arith, low, long, first-length can) in
      ap block_of (done.words.kept (trail_of first d)
      (first-pointer can d (alike_prefix touched n d (omega (arith, low)) has_cover.alike) short d short)
      (above_not_turned touched first done.cover d (omega (arith, low, cover-is))))

  same_place : (k : ℕ) → k ≤ n → place_on (current_words new) (trail_of first k) ≡ place_on image (trail_of first k)
  same_place zero low = refl
  same_place (suc k) low = ap (λ b. 512 * b + slice_index first k) (same_block k (omega (arith, low)))

  stays-is : address (current_words new) (commit_cover image touched) ≡ cover_word image touched
  stays-is =
      ap (address (current_words new)) (sym (cover_prefix touched can.shape image n has_cover))
      ∙ address-on (current_words new) first n long (nodes_of (current_words new) first n (λ d low null. has_cover.exists d low (sym (same_block d low) ∙ null)))
      ∙ same_place n (omega arith)
      ∙ sym (cover_address touched can.shape image)

  at : place_on image (trail_of first done.cover) ≡ cover_word image touched
  at = ap (λ k. place_on image (trail_of first k)) cover-is ∙ sym (cover_address touched can.shape image)

  most : 513 * copies_at (job_of touched) done.cover + length touched.words.now + 1 ≡ commit_stores image touched
  most = ap (λ c. 513 * c + length touched.words.now + 1) copied-is

  pub commits_touched : CommitsTouched bound in_snapshot touched old new blocks after
  commits_touched = record {
    value = done.commit.value;
    commit = record {
      prepared = done.commit.commit.prepared;
      adds = subst (λ w. Adds old new (done.commit.commit.prepared ++ commit w done.commit.value)) at done.commit.commit.adds;
      quiet = done.commit.commit.quiet;
      piece = subst (λ w. IsPiece 2 (commit_stores image touched) (done.commit.commit.prepared ++ commit w done.commit.value)) at
          (subst (λ m. IsPiece 2 m (done.commit.commit.prepared ++ commit (place_on image (trail_of first done.cover)) done.commit.value)) most done.commit.commit.piece);
    };
    taken = taken;
    takes = copies_taken done.commit was_free;
    number = number-is;
    from = each-of (λ b. has blocks b ≡ true) taken (λ b one. (of_copy done.commit was_free b one).0);
    stays = stays-is;
    loose = loose;
    words = subst (λ k. IsCommitted image (current_words new) (IsTreePointer image bound) (IsTreeWord image bound) (IsTurned (job_of touched) k) (after_commit image (job_of touched))) cover-is done.words;
    exact = exact-unheld (current_words new) (IsTreePointer image bound) (IsReached image) bound in_snapshot (has after)
        (λ b one. has_led image (current_words new) bound can.forest (IsTurned (job_of touched) done.cover) (job_of touched) done.words b one.tree one.reached one.has)
        (λ b one. let tree = led_has image (current_words new) bound can.forest (IsTurned (job_of touched) done.cover) (job_of touched) done.words b one in record { tree = tree.0; reached = tree.1; has = tree.2 }) done.exact;
  }

-- ---- for callers

-- The word of the cover is in the superblock or in a live block that is not in the snapshot, where all pointers on the
-- path of one touched word are live.
module _ (in_snapshot : ℕ → Bool) (image : Image) (wf : IsWellFormed image) (touched : Touched) (shape : IsTouched touched) (path : WordPath) (in_paths : Has (all_paths touched) path)
    (live : (d : ℕ) → d < length path → IsTreePointer image (size_of image) (trail_of path d)) (loose : HasLooseCover image in_snapshot touched) (taken : List ℕ) where
  -- the first slots of the first path, and the place of its word there
  abbrev first_prefix : ℕ → Trail
  first_prefix k = trail_of (end_path touched 0) k

  abbrev prefix_place : ℕ → ℕ
  prefix_place k = place_on image (first_prefix k)

  abbrev IsLoosePlace : ℕ → Type 0
  IsLoosePlace place = 512 ≤ place → in_snapshot (place / 512) ≡ false

  pub cover_open : IsOpen image in_snapshot taken (cover_word image touched)
  cover_open =
      subst (IsOpen image in_snapshot taken) (sym (cover_address touched shape image))
      (go (length (commit_cover image touched)) (cover_has touched shape image) (subst IsLoosePlace (cover_address touched shape image) loose))
    where
      go : (k : ℕ) → CoverHas image touched k → IsLoosePlace (prefix_place k) → IsOpen image in_snapshot taken (prefix_place k)
      go zero covers outside_snapshot = at_root refl
      go (suc k) covers outside_snapshot =
          let some : 0 < _ = some-ends touched shape in
          let alike = alike-all touched shape (suc k) covers.alike path in_paths in
          let slot : ℕ = slice_index (end_path touched 0) k in
          let low : slot < 512 = end-slots touched shape 0 k some (omega (arith, covers.alike.long 0 some)) in
          let block : (512 * block_on image (first_prefix k) + slot) / 512 ≡ block_on image (first_prefix k) = omega (arith, low) in
          let same : trail_of path k ≡ first_prefix k = cc in
          let present : block_on image (first_prefix k) ≢ 0 = covers.exists k (omega arith) in
          in_live (subst (IsLiveBlock image) (sym block)
          (led_held image (size_of image) (wf_forest image wf) (block_on image (first_prefix k))
          (record { trail = trail_of path k; pointer = live k (omega (arith, alike.0)); named = ap (block_on image) same; not_null = present }))) (outside_snapshot (omega (arith, present)))

-- A commit alone performs a change whose cover and copies are those of the touched words.
module _ {in_snapshot : ℕ → Bool} (old new : Memory) (change : Change) (Effect : Image → Image → Type 0) (bound : ℕ → ℕ) (touched : Touched) (blocks after : Set) (done : CommitsTouched bound in_snapshot touched old new blocks after) where
  pub commit_performs : commit_cover (current_words old) touched ≡ cover (current_words old) change → copied_count (current_words old) touched ≡ need (current_words old) change →
      commit_stores (current_words old) touched ≤ most_stores_thawed (need (current_words old) change) → IsOpen (current_words old) in_snapshot done.taken (cover_word (current_words old) touched) →
      IsWellFormed (current_words new) → Effect (current_words old) (current_words new) → PerformsThawed in_snapshot old new change Effect
  commit_performs covers count few inside well_formed effect =
      performs_committed in_snapshot old new change Effect (cover_word (current_words old) touched) done.value 2 (commit_stores (current_words old) touched) done.taken done.commit done.takes
      (sym done.stays ∙ ap (address (current_words new)) covers) (omega arith) few (done.number ∙ count) inside well_formed effect

-- And so does a commit after a preparation. What the set has that the commit is given was free before, and the preparation did not take it.
module _ {in_snapshot : ℕ → Bool} (old middle new : Memory) (change : Change) (Effect : Image → Image → Type 0) (bound : ℕ → ℕ) (touched : Touched) (blocks after : Set) (first : List ℕ) (most_barriers most : ℕ)
    (prepared : AddsTaking in_snapshot first most_barriers most old middle) (done : CommitsTouched bound in_snapshot touched middle new blocks after) where
  pub commit_performs_after : ((b : ℕ) → IsLiveBlock (current_words middle) b → IsLiveBlock (current_words old) b ⊎ Has first b) →
      ((b : ℕ) → has blocks b ≡ true → IsFreeBlock (current_words old) in_snapshot b × (Has first b → ⊥)) →
      commit_cover (current_words middle) touched ≡ cover (current_words old) change → most_barriers ≤ 6 →
      most + commit_stores (current_words middle) touched ≤ most_stores_thawed (need (current_words old) change) → length first + copied_count (current_words middle) touched ≡ need (current_words old) change →
      IsOpen (current_words middle) in_snapshot done.taken (cover_word (current_words middle) touched) →
      IsWellFormed (current_words new) → Effect (current_words old) (current_words new) → PerformsThawed in_snapshot old new change Effect
  commit_performs_after live free covers few_barriers few count inside well_formed effect =
      performs_twice in_snapshot old new change Effect middle (cover_word (current_words middle) touched) done.value most_barriers most 2 (commit_stores (current_words middle) touched) first done.taken prepared done.commit done.takes
      live (λ b took. free b (each-has (λ c. has blocks c ≡ true) done.taken b done.from took)) (sym done.stays ∙ ap (address (current_words new)) covers) (omega (arith, few_barriers)) few
      (omega (arith, done.number, count)) inside well_formed effect

-- ---- how many blocks are copied at most

pub turned_few : (job : Job) (from i depth : ℕ) → turned_for job from i depth ≤ depth
turned_few job from i zero = omega arith
turned_few job from i (suc depth) = go (nat_le from depth) refl (begins job from i (prefix job i (suc depth))) refl (turned_few job from i depth)
  where
    go : (x : Bool) → nat_le from depth ≡ x → (y : Bool) → begins job from i (prefix job i (suc depth)) ≡ y → turned_for job from i depth ≤ depth → turned_for job from i (suc depth) ≤ suc depth
    go false e y f rest = rw e (omega (arith, rest))
    go true e true f rest = rw (e, f) (omega (arith, rest))
    go true e false f rest = rw (e, f) (omega (arith, rest))

upto_few : (job : Job) (from count : ℕ) → ((i : ℕ) → i < count → length (job.way i) ≤ 11) → turned_upto job from count ≤ 11 * count
upto_few job from zero short = omega arith
upto_few job from (suc i) short =
    let rest : turned_upto job from i ≤ 11 * i = upto_few job from i (λ k low. short k (omega (arith, low))) in
    let one : turned_for job from i (length (job.way i)) ≤ length (job.way i) = turned_few job from i (length (job.way i)) in
    let few : length (job.way i) ≤ 11 = short i (omega arith) in
    omega (arith, rest, one, few)

module _ {in_snapshot : ℕ → Bool} (image : Image) (bound : ℕ → ℕ) (touched : Touched) (free : ℕ → Bool) (wf : IsWellFormed image) (can : CanCommit image bound in_snapshot touched free) where
  -- a way has at most 11 pointers
  pub copied_few : copied_count image touched ≤ 1 + 11 * ways (job_of touched)
  copied_few = subst (λ n. n ≤ 1 + 11 * ways (job_of touched)) (count_is touched can.shape image (none-begins image bound touched free wf can) from (cover_has touched can.shape image)) (go (nat_le from (length ((job_of touched).way 0))) refl)
    where
      from : ℕ
      from = length (commit_cover image touched)

      all : turned_upto (job_of touched) from (ways (job_of touched)) ≤ 11 * ways (job_of touched)
      all = upto_few (job_of touched) from (ways (job_of touched)) (ways-short can)

      go : (x : Bool) → nat_le from (length ((job_of touched).way 0)) ≡ x → copies_at (job_of touched) from ≤ 1 + 11 * ways (job_of touched)
      go true e = rw e (omega (arith, all))
      go false e = rw e (omega arith)

  -- so there are few stores besides those of the words of the copies
  pub stores_few : commit_stores image touched ≤ block_words * copied_count image touched + 11 * (job_of touched).leaves + 12 * length touched.words.now + 2
  stores_few = omega (arith, copied_few)
