-- A write below the size of a file: what it asks of a commit, and that it is performed.
use Rattle.std.proofs.Common.{◌≡◌, ◌⊎◌, ℕ, zero, suc, ◌+◌, ◌-◌, ◌<◌, ◌≤◌, List, [], ◌∷◌, length, slice_index, refl, sym, ◌∙◌, ap, subst, inl, inr, arith, Bool, ◌||◌, ◌==◌, ◌++◌, fold, flat_map, if◌then◌else◌}
use Rattle.std.proofs.lemmas.Bool.{cases_eq, le-ltb}
use Rattle.std.proofs.lemmas.List.{take_all}
use Rattle.bp_free.specs.Set.{Set, has, members}
use Rattle.bp_layout.specs.Inode.{root_of, size_of}
use Rattle.bp_layout.specs.Members.{Has}
use Rattle.bp_layout.specs.Need.{need}
use Rattle.bp_layout.specs.Need.Change.{writes}
use Rattle.bp_layout.specs.Reached.{IsReached}
use Rattle.bp_layout.specs.WellFormed.{IsWellFormed}
use Rattle.bp_layout.specs.Words.{Image, height_of}
use Rattle.bp_changes.specs.Effects.{ChangesFile}
use Rattle.bp_changes.proofs.ChangesFile.{keeps, well_formed-same}
use Rattle.bp_changes.specs.Sets.{AreExact}
use Rattle.bp_changes.specs.Performs.{PerformsThawed, room_for}
use Rattle.pm_region.specs.Memory.{Memory, current_words, room_in}
use Rattle.bp_cow.specs.declared.touched.Run.{Run}
use Rattle.bp_cow.specs.declared.touched.Touched.{Touched}
use Rattle.bp_cow.specs.CanCommit.{CanCommit, IsRunIn, IsTreeIn}
use Rattle.bp_cow.specs.Commit.{HasLooseCover, CommitsTouched, HasRoom}
use Rattle.bp_cow.specs.Cover.{LeadsInside, commit_cover, copied_count}
use Rattle.bp_cow.proofs.CopiesNeed.{none-begins}
use Rattle.bp_cow.proofs.WaysAlike.{first-range}
use Rattle.bp_cow.specs.Job.{IsTurned}
use Rattle.bp_cow.specs.Touched.{IsRun, IsTouched, NoneBegins, all_paths, job_of, leaves_of, run_leaves}
use Rattle.bp_cow.proofs.CallerLaws.{no_trees, runs_can}
use Rattle.bp_limits.specs.Limits.{max_height}
use Rattle.bp_cow.proofs.CommitTaking.{commit_performs, stores_few}
use Rattle.bp_cow.proofs.FewCopies.{few_copies}
use Rattle.bp_cow.proofs.RunThere.{run_cover, run_need}
use Rattle.bp_cow.proofs.RunWrites.{run_bytes, run_changes, run_size}
use Rattle.bp_calls.specs.CanWrite.{CanWriteInto}
use Rattle.bp_calls.specs.Space.{HasRoomThawed, LacksBlocks}
use Rattle.bp_calls.proofs.FreeCounts.{free_members}
use Rattle.bp_layout.specs.Free.{HasFree}
use Rattle.bp_calls.specs.TouchedBelow.{IsRunFor, WritesBelow}
use Rattle.bp_calls.specs.WritesFile.{WritesFile}
use Rattle.bp_calls.proofs.RunCommits.{IsRunOf, run_loose, commit_exact, commit_writes_file, few_leaves, run_in, run_is, run_open}
use Rattle.bp_layout.specs.Thaw.{cover_now, is_there_now, targets, thawed}
use Rattle.std.specs.List.{list_any}
use Rattle.bp_layout.proofs.ThawLaws.{loose-on}
use Rattle.bp_layout.specs.Need.{Beyond, beyond, cover, cover_of, pointed, prepared_for, same_node, touched_at}
use Rattle.bp_layout.specs.Nodes.{TreeNode, height_with, is_present}
use Rattle.bp_layout.specs.WordPaths.{WordPath}
use Rattle.bp_calls.proofs.PatchCommits.{exists_as, or_false}

-- a write below the size prepares nothing, so it covers what it covers now
writes_now : (image : Image) (i offset len : ℕ) → offset + len ≤ size_of image i → cover_now image (writes i offset len) ≡ cover image (writes i offset len)
writes_now image i offset len below = now ∙ sym (ap by none)
  where
    none : beyond image (writes i offset len) ≡ []
    none = rw (le-ltb (size_of image i) (offset + len) below) refl

    heights : List Beyond → ℕ → ℕ
    heights bs t = fold (λ h (b : Beyond). if b.tree == t then height_with (root_of image t) (size_of image t) b.to else h) (height_of (root_of image t)) (bs ++ [])

    there : List Beyond → ℕ × TreeNode → Bool
    there bs n = is_present image (root_of image n.0) (size_of image n.0) n.1 || list_any (same_node n) (flat_map (prepared_for image) bs) || list_any (same_node n) []

    by : List Beyond → WordPath
    by bs = cover_of (λ path. there bs (pointed (heights bs) path)) (touched_at (heights bs) image (writes i offset len))

    now : cover_now image (writes i offset len) ≡ by []
    now = exists_as (is_there_now image) (λ path. there [] (pointed (heights []) path)) (λ path. or_false (is_there_now image path)) [] _

-- The run is all that is touched.
record IsRunAlone (image : Image) (i : ℕ) (touched : Touched) (run : Run) : Type 0 where
  pub one : touched.runs.now ≡ run ∷ []
  pub no_words : touched.words.now ≡ []
  pub no_trees : touched.trees.now ≡ []
  pub of : IsRunOf image i run

-- What a commit of the run asks. Where nothing is left to thaw its one store in place goes to no block of the snapshot.
record CanCommitRun (in_snapshot : ℕ → Bool) (memory : Memory) (blocks : Set) (i : ℕ) (touched : Touched) (run : Run) : Type 0 where
  pub can : CanCommit (current_words memory) (size_of (current_words memory)) in_snapshot touched (has blocks)
  pub need_is : copied_count (current_words memory) touched ≡ need (current_words memory) (writes i run.offset (length run.bytes.now))
  pub few : copied_count (current_words memory) touched ≤ 320
  pub cover_is : commit_cover (current_words memory) touched ≡ cover_now (current_words memory) (writes i run.offset (length run.bytes.now))
  pub room : HasRoomThawed memory blocks (writes i run.offset (length run.bytes.now)) → copied_count (current_words memory) touched ≤ length (members blocks) → HasRoom memory touched
  pub loose : thawed (current_words memory) in_snapshot (writes i run.offset (length run.bytes.now)) ≡ [] → HasLooseCover (current_words memory) in_snapshot touched

module _ {in_snapshot : ℕ → Bool} (old : Memory) (blocks inodes : Set) (n : ℕ) (touched : Touched) (run : Run) (is : IsRunAlone (current_words old) (suc n) touched run) (asks : CanWriteInto in_snapshot (current_words old) blocks inodes (suc n) run.offset run.bytes.now) where
  abbrev image : Image
  image = current_words old

  wf : IsWellFormed image
  wf = asks.well_formed

  none : length touched.words.now ≡ 0
  none = ap (λ ws. length ws) is.no_words

  leaves : leaves_of touched.runs.now ≡ run_leaves run
  leaves = ap leaves_of is.one ∙ omega arith

  -- it is the only one
  only : (r : Run) → Has touched.runs.now r → run ≡ r
  only r has = elim (subst (λ rs. Has rs r) is.one has) [ inl e ↦ e | inr none_left ↦ absurd none_left ]

  here : Has touched.runs.now run
  here = subst (λ rs. Has rs run) (sym is.one) (inl refl)

  shape : IsTouched touched
  shape = record {
    runs = λ r has. subst IsRun (only r has) (run_is image wf n asks.can.reached run is.of);
    few_runs = omega (arith, ap (λ (rs : List Run). length rs) is.one);
    trees = no_trees (λ tree. tree.height ≤ max_height) is.no_trees;
    few = omega (arith, none);
    words = λ i here. absurd (omega (arith, here, none));
    short = λ i here. absurd (omega (arith, here, none));
    slots = λ i d here. absurd (omega (arith, here, none));
    some = omega (arith, leaves);
  }

  can : CanCommit image (size_of image) in_snapshot touched (has blocks)
  can = runs_can image wf touched shape (has blocks) asks.exact.free_blocks (no_trees (IsTreeIn image (size_of image)) is.no_trees) none (λ r has. subst (IsRunIn image (size_of image)) (only r has) (run_in image wf n asks.can.reached run is.of))

  copies_need : copied_count image touched ≡ need image (writes (suc n) run.offset (length run.bytes.now))
  copies_need = run_need image wf (size_of image) touched (has blocks) can run n is.one is.no_words asks.can.reached is.of.root is.of.height is.of.some is.of.below

  cover_is : commit_cover image touched ≡ cover image (writes (suc n) run.offset (length run.bytes.now))
  cover_is = run_cover image wf (size_of image) touched (has blocks) can run n is.one is.no_words asks.can.reached is.of.root is.of.height is.of.some is.of.below

  below_loose : thawed image in_snapshot (writes (suc n) run.offset (length run.bytes.now)) ≡ [] → HasLooseCover image in_snapshot touched
  below_loose clear =
      let among : Has (targets image (writes (suc n) run.offset (length run.bytes.now))) (commit_cover image touched) =
      inl (writes_now image (suc n) run.offset (length run.bytes.now) is.of.below ∙ sym cover_is) in
      run_loose image wf n asks.can.reached run is.of in_snapshot touched shape here
      (loose-on image in_snapshot (targets image (writes (suc n) run.offset (length run.bytes.now))) clear (commit_cover image touched) among (length (commit_cover image touched) - 1))

  below_can : CanCommitRun in_snapshot old blocks (suc n) touched run
  below_can = record {
    can = can;
    need_is = copies_need;
    few = let most = few_copies image (size_of image) touched (has blocks) wf can run is.one in omega (arith, most, few_leaves run asks.can.short, none);
    cover_is = cover_is ∙ sym (writes_now image (suc n) run.offset (length run.bytes.now) is.of.below);
    loose = below_loose;
    room = λ asked enough.
        let few = few_copies image (size_of image) touched (has blocks) wf can run is.one in
        let room : room_for (need image (writes (suc n) run.offset (length run.bytes.now))) ≤ room_in old + 2 = asked (omega (arith, copies_need, enough)) in
        omega (arith, few, few_leaves run asks.can.short, none, copies_need, room);
  }

  module _ (new : Memory) (after : Set) (small : (i : ℕ) → slice_index run.bytes.now i < 256) (done : CommitsTouched (size_of (current_words old)) in_snapshot touched old new blocks after) where
    abbrev turned : ℕ
    turned = length (commit_cover image touched)

    changes : ChangesFile image (current_words new) (suc n)
    changes = run_changes image (current_words new) wf touched (has blocks) can run n is.one none asks.can.reached asks.can.file is.of.root is.of.height is.of.some is.of.below small (IsTurned (job_of touched) turned) done.words

    size_is : size_of (current_words new) (suc n) ≡ size_of image (suc n)
    size_is = run_size image (current_words new) wf touched (has blocks) can run n is.one none asks.can.reached asks.can.file is.of.root is.of.height is.of.some is.of.below small (IsTurned (job_of touched) turned) done.words

    sizes : (t : ℕ) → IsReached image t → size_of (current_words new) t ≡ size_of image t
    sizes t reached = go (cases_eq t (suc n))
      where
        go : (t ≡ suc n) ⊎ (t ≡ suc n → ⊥) → size_of (current_words new) t ≡ size_of image t
        go (inl e) = subst (λ x. size_of (current_words new) x ≡ size_of image x) (sym e) size_is
        go (inr other) = changes.size t reached other

    below_writes : WritesFile (suc n) run.offset run.bytes.now image (current_words new)
    below_writes =
        commit_writes_file image (current_words new) (suc n) run run.bytes.now changes
        (sym (take_all (size_of image (suc n) - run.offset) run.bytes.now (omega (arith, is.of.below)))) (omega (arith, is.of.below)) (omega (arith, size_is, is.of.below))
        (run_bytes image (current_words new) wf touched (has blocks) can run n is.one none asks.can.reached asks.can.file is.of.root is.of.height is.of.some is.of.below small (IsTurned (job_of touched) turned) done.words)
        (λ o past low. absurd (omega (arith, past, low, size_is)))

    below_performs : PerformsThawed in_snapshot old new (writes (suc n) run.offset (length run.bytes.now)) (WritesFile (suc n) run.offset run.bytes.now)
    below_performs =
        commit_performs old new (writes (suc n) run.offset (length run.bytes.now)) (WritesFile (suc n) run.offset run.bytes.now) (size_of image) touched blocks after done
        (run_cover image wf (size_of image) touched (has blocks) can run n is.one is.no_words asks.can.reached is.of.root is.of.height is.of.some is.of.below) copies_need
        (let few = stores_few image (size_of image) touched (has blocks) wf can in omega (arith, few, leaves, few_leaves run asks.can.short, none, copies_need))
        (run_open image wf n asks.can.reached run is.of in_snapshot touched shape here done.loose done.taken)
        (well_formed-same image (current_words new) (suc n) wf changes) below_writes

    below_exact : length after ≡ length blocks → AreExact (current_words new) in_snapshot after inodes
    below_exact room = commit_exact image (current_words new) wf (keeps image (current_words new) (suc n) wf changes) (size_of image) sizes blocks after inodes asks.exact room done.exact

-- ---- by the number of the inode

module _ {in_snapshot : ℕ → Bool} (old : Memory) (blocks inodes : Set) (touched : Touched) (run : Run) where
  not_inodes : (P : Type 0) → CanWriteInto in_snapshot (current_words old) blocks inodes 0 run.offset run.bytes.now → P
  not_inodes P asks = absurd (omega (arith, asks.can.file))

  can_at : (i : ℕ) → IsRunAlone (current_words old) i touched run → CanWriteInto in_snapshot (current_words old) blocks inodes i run.offset run.bytes.now → CanCommitRun in_snapshot old blocks i touched run
  can_at zero is asks = not_inodes _ asks
  can_at (suc n) is asks = below_can old blocks inodes n touched run is asks

  module _ (new : Memory) (after : Set) (small : (i : ℕ) → slice_index run.bytes.now i < 256) (done : CommitsTouched (size_of (current_words old)) in_snapshot touched old new blocks after) where
    performs_at : (i : ℕ) → IsRunAlone (current_words old) i touched run → CanWriteInto in_snapshot (current_words old) blocks inodes i run.offset run.bytes.now → PerformsThawed in_snapshot old new (writes i run.offset (length run.bytes.now)) (WritesFile i run.offset run.bytes.now)
    performs_at zero is asks = not_inodes _ asks
    performs_at (suc n) is asks = below_performs old blocks inodes n touched run is asks new after small done

    exact_at : (i : ℕ) → IsRunAlone (current_words old) i touched run → CanWriteInto in_snapshot (current_words old) blocks inodes i run.offset run.bytes.now → length after ≡ length blocks → AreExact (current_words new) in_snapshot after inodes
    exact_at zero is asks = λ room. not_inodes _ asks
    exact_at (suc n) is asks = λ room. below_exact old blocks inodes n touched run is asks new after small done room

-- ---- by what is touched

module _ {image : Image} {i offset : ℕ} {bytes : List ℕ} {run : Run} (is : IsRunFor image i offset bytes run) where
  -- what holds of the offset and the bytes holds of the run's
  pub of_run : (P : ℕ → List ℕ → Type 0) → P offset bytes → P run.offset run.bytes.now
  of_run P here = subst (λ o. P o run.bytes.now) (sym is.from) (subst (λ (bs : List ℕ). P offset bs) (sym is.bytes_are) here)

  -- and back
  pub from_run : (P : ℕ → List ℕ → Type 0) → P run.offset run.bytes.now → P offset bytes
  from_run P there = subst (λ o. P o bytes) is.from (subst (λ (bs : List ℕ). P run.offset bs) is.bytes_are there)

module _ {in_snapshot : ℕ → Bool} {old : Memory} {blocks inodes : Set} {i offset : ℕ} {bytes : List ℕ} {touched : Touched}
    (write : WritesBelow in_snapshot old blocks inodes i offset bytes touched) where
  abbrev run : Run
  run = write.touches.run

  asks : CanWriteInto in_snapshot (current_words old) blocks inodes i run.offset run.bytes.now
  asks = of_run write.touches.is (CanWriteInto in_snapshot (current_words old) blocks inodes i) write.into

  alone : IsRunAlone (current_words old) i touched run
  alone = record {
    one = write.touches.one;
    no_words = write.touches.no_words;
    no_trees = write.touches.no_trees;
    of = record {
      root = write.touches.is.root;
      height = write.touches.is.height;
      some = omega (arith, asks.can.some);
      few = asks.can.short;
      below = of_run write.touches.is (λ o bs. o + length bs ≤ size_of (current_words old) i) write.below;
      counts = omega (arith, write.touches.is.size);
    };
  }

  ready : CanCommitRun in_snapshot old blocks i touched run
  ready = can_at old blocks inodes touched run i alone asks

  pub write_can : CanCommit (current_words old) (size_of (current_words old)) in_snapshot touched (has blocks)
  write_can = ready.can

  pub write_inside : LeadsInside (current_words old) touched
  write_inside d alike = first-range (current_words old) (size_of (current_words old)) touched (has blocks) write.into.well_formed write_can d alike

  pub write_apart : NoneBegins (all_paths touched)
  write_apart = none-begins (current_words old) (size_of (current_words old)) touched (has blocks) write.into.well_formed write_can

  -- as many blocks it takes, and near its cover it stores
  pub write_needs : copied_count (current_words old) touched ≡ need (current_words old) (writes i offset (length bytes))
  write_needs =
      from_run write.touches.is (λ o bs. copied_count (current_words old) touched ≡ need (current_words old) (writes i o (length bs))) ready.need_is

  pub write_few : copied_count (current_words old) touched ≤ 320
  write_few = ready.few

  pub write_cover : commit_cover (current_words old) touched ≡ cover_now (current_words old) (writes i offset (length bytes))
  write_cover =
      from_run write.touches.is (λ o bs. commit_cover (current_words old) touched ≡ cover_now (current_words old) (writes i o (length bs))) ready.cover_is

  pub write_room : HasRoomThawed old blocks (writes i offset (length bytes)) → copied_count (current_words old) touched ≤ length (members blocks) → HasRoom old touched
  write_room asked = ready.room (of_run write.touches.is (λ o bs. HasRoomThawed old blocks (writes i o (length bs))) asked)

  pub write_loose : thawed (current_words old) in_snapshot (writes i offset (length bytes)) ≡ [] → HasLooseCover (current_words old) in_snapshot touched
  write_loose clear = ready.loose (of_run write.touches.is (λ o bs. thawed (current_words old) in_snapshot (writes i o (length bs)) ≡ []) clear)

  pub write_lacks : (copies free : ℕ) → copies ≡ copied_count (current_words old) touched → free ≡ length (members blocks) → free < copies →
      LacksBlocks (current_words old) in_snapshot (need (current_words old) (writes i offset (length bytes))) (record { need = copies; free = free })
  write_lacks copies free counted number fewer = record {
    needed = sym (counted ∙ write_needs);
    free = subst (HasFree (current_words old) in_snapshot) (sym number) (free_members (current_words old) in_snapshot blocks write.into.exact.free_blocks write.into.exact.block_room);
    fewer = fewer;
  }

  module _ (new : Memory) (after : Set) (small : (k : ℕ) → slice_index bytes k < 256) (done : CommitsTouched (size_of (current_words old)) in_snapshot touched old new blocks after) where
    run_small : (k : ℕ) → slice_index run.bytes.now k < 256
    run_small = of_run write.touches.is (λ o bs. (k : ℕ) → slice_index bs k < 256) small

    pub write_performs : PerformsThawed in_snapshot old new (writes i offset (length bytes)) (WritesFile i offset bytes)
    write_performs =
        from_run write.touches.is (λ o bs. PerformsThawed in_snapshot old new (writes i o (length bs)) (WritesFile i o bs))
        (performs_at old blocks inodes touched run new after run_small done i alone asks)

    pub write_exact : length after ≡ length blocks → AreExact (current_words new) in_snapshot after inodes
    write_exact = exact_at old blocks inodes touched run new after run_small done i alone asks
