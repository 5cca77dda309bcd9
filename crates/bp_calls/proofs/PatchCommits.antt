-- A commit of patches: what it asks, and that the change of their stretches is performed.
use Rattle.std.proofs.Common.{◌≡◌, ℕ, ◌+◌, ◌<◌, ◌≤◌, List, [], length, Bool, sym, ◌∙◌, ap, subst, arith, true, false, ◌||◌, ◌++◌, ◌∷◌, refl, inl, inr, ◌-◌}
use Rattle.bp_free.specs.Set.{Set, has, members}
use Rattle.bp_layout.specs.Free.{AreFreeBlocks, HasFree}
use Rattle.bp_layout.specs.Inode.{size_of}
use Rattle.bp_layout.specs.Members.{Each, Has}
use Rattle.bp_layout.specs.Thaw.{cover_now, is_there_now, targets}
use Rattle.bp_layout.proofs.ThawLaws.{loose-on}
use Rattle.bp_layout.specs.WordPaths.{WordPath}
use Rattle.bp_layout.specs.Need.{Change, Stretch, common_all, cover, existing_from, is_there_after, need, touched as all_touched}
use Rattle.bp_layout.specs.Need.Change.{overwrites}
use Rattle.bp_layout.specs.WellFormed.{IsWellFormed}
use Rattle.bp_layout.specs.Words.{Image}
use Rattle.bp_changes.specs.Overwrites.{OverwritesFiles, Patch}
use Rattle.bp_changes.proofs.KeepsDirectories.{well_formed-same}
use Rattle.bp_changes.specs.Thawed.{SameShape}
use Rattle.bp_changes.proofs.Overwrites.{keeps}
use Rattle.bp_changes.proofs.ReachedOn.{reached_on}
use Rattle.bp_changes.proofs.SameMeaning.{well_formed-same as meant_well_formed}
use Rattle.bp_changes.proofs.ShapeLaws.{IsOfReached, need-shape}
use Rattle.bp_changes.specs.Sets.{AreExact, in_snapshot_of}
use Rattle.bp_free.specs.declared.parts.Parts.{Parts}
use Rattle.bp_changes.specs.Performs.{IsOpen, PerformsThawed, room_for}
use Rattle.pm_region.specs.Memory.{Memory, current_words, room_in}
use Rattle.bp_cow.specs.declared.touched.Run.{Run}
use Rattle.bp_cow.specs.declared.touched.Touched.{Touched}
use Rattle.bp_cow.specs.CanCommit.{CanCommit}
use Rattle.bp_cow.specs.Commit.{HasLooseCover, CommitsTouched, HasRoom, cover_word}
use Rattle.bp_cow.specs.Cover.{LeadsInside, commit_cover, copied_count}
use Rattle.bp_cow.specs.Job.{IsTurned}
use Rattle.bp_cow.specs.Touched.{IsTouched, NoneBegins, all_paths, job_of, leaves_of}
use Rattle.bp_cow.proofs.CopiesNeed.{none-begins}
use Rattle.bp_cow.proofs.FewCopies.{runs_copies}
use Rattle.bp_cow.proofs.WaysAlike.{first-range}
use Rattle.bp_thaw.specs.Prefixes.{IsWayIn}
use Rattle.bp_cow.proofs.CommitTaking.{commit_performs, stores_few}
use Rattle.bp_calls.specs.Overwritten.{AreRuns, CanOverwrite, CanOverwriteThawed, IsPatchIn, stretches_of}
use Rattle.bp_calls.specs.Mounted.{IsMounted}
use Rattle.bp_calls.specs.Space.{HasRoomWhereFree, LacksBlocks}
use Rattle.bp_calls.specs.ThawsFor.{ThawsFor}
use Rattle.bp_calls.proofs.NothingInSnapshot.{clear_at_once, room_at_once}
use Rattle.bp_calls.proofs.ThawedParts.{thawed_clear}
use Rattle.bp_calls.proofs.FreeCounts.{free_members}
use Rattle.bp_calls.proofs.PatchPaths.{patches_cover, patches_need, patches_way}
use Rattle.bp_calls.proofs.PatchRuns.{IsInFile, leaves_few, runs_few, patches_can, patches_shape, run_at, some_run}
use Rattle.bp_calls.proofs.PatchWords.{patches_overwrite, sizes_stay}
use Rattle.bp_calls.proofs.RunCommits.{commit_exact, run_loose, run_open}

pub exists_as : (p q : WordPath → Bool) → ((path : WordPath) → p path ≡ q path) → (here path : WordPath) → existing_from p here path ≡ existing_from q here path
exists_as p q alike here [] = refl
exists_as p q alike here (slot ∷ path) = rw (alike here, exists_as p q alike (here ++ slot ∷ []) path) refl

pub or_false : (b : Bool) → b ≡ ((b || false) || false)
or_false true = refl
or_false false = refl

-- such a change prepares nothing, so it covers what it covers now
overwrites_now : (image : Image) (stretches : List Stretch) → cover_now image (overwrites stretches) ≡ cover image (overwrites stretches)
overwrites_now image stretches =
    exists_as (is_there_now image) (is_there_after image (overwrites stretches)) (λ path. or_false (is_there_now image path)) [] (common_all (all_touched image (overwrites stretches)))

-- ---- what they touch, whether it is thawed or not

-- the patches may be written, and just those that have bytes are touched
pub record TouchesPatches (image : Image) (patches : List Patch) (touched : Touched) : Type 0 where
  pub well_formed : IsWellFormed image
  pub can : CanOverwrite image patches
  pub runs : AreRuns image patches touched.runs.now
  pub no_words : touched.words.now ≡ []
  pub no_trees : touched.trees.now ≡ []

module _ {image : Image} {patches : List Patch} {touched : Touched} (touches : TouchesPatches image patches touched) where
  open touches use {well_formed as wf, can as asks, runs as are, no_words as none, no_trees as bare}

  pub overwrite_shape : IsTouched touched
  overwrite_shape = patches_shape image wf patches touched are none bare asks.few asks.each asks.some asks.short

  at_run : (run : Run) → Has touched.runs.now run → IsInFile image run
  at_run = run_at image wf patches touched are none bare asks.few asks.each asks.some asks.short

  -- one of the runs, of which there is one at least
  first_run : (run : Run) × Has touched.runs.now run
  first_run = some_run image patches touched.runs.now are asks.some

  pub overwrite_need : copied_count image touched ≡ need image (overwrites (stretches_of patches))
  overwrite_need = patches_need image wf patches touched overwrite_shape are none asks.each first_run.0 first_run.1 (at_run first_run.0 first_run.1)

  pub overwrite_cover : commit_cover image touched ≡ cover image (overwrites (stretches_of patches))
  overwrite_cover = patches_cover image wf patches touched overwrite_shape are none asks.each first_run.0 first_run.1 (at_run first_run.0 first_run.1)

  -- their cover is all that has to be thawed
  pub overwrite_targets : commit_cover image touched ∷ [] ≡ targets image (overwrites (stretches_of patches))
  overwrite_targets = ap (λ (path : WordPath). path ∷ []) (overwrite_cover ∙ sym (overwrites_now image (stretches_of patches)))

  pub overwrite_ways : (path : WordPath) → Has (targets image (overwrites (stretches_of patches))) path → IsWayIn image path
  overwrite_ways path (inl e) = subst (IsWayIn image) e (patches_way image wf patches touched overwrite_shape are none asks.each first_run.0 first_run.1 (at_run first_run.0 first_run.1))
  overwrite_ways path (inr never) = absurd never

  module _ {in_snapshot : ℕ → Bool} (free : ℕ → Bool) (unheld : AreFreeBlocks image in_snapshot free) where
    pub touched_can : CanCommit image (size_of image) in_snapshot touched free
    touched_can = patches_can image wf patches touched are none bare asks.few asks.each asks.some asks.short free unheld

    pub touched_leads : LeadsInside image touched
    touched_leads d alike = first-range image (size_of image) touched free wf touched_can d alike

    pub touched_apart : NoneBegins (all_paths touched)
    touched_apart = none-begins image (size_of image) touched free wf touched_can

    pub touched_few : copied_count image touched ≤ 400
    touched_few =
        let copies = runs_copies image touched overwrite_shape touched_apart in
        let none_there : length touched.words.now ≡ 0 = ap length none in
        omega (arith, copies, none_there, leaves_few image patches touched.runs.now are, runs_few image patches touched.runs.now are, asks.short, asks.few)

-- the trees that they change are reached
pub overwrites_reached : (image : Image) (patches : List Patch) → Each (IsPatchIn image) patches → IsOfReached image (overwrites (stretches_of patches))
overwrites_reached image [] each = tt
overwrites_reached image (patch ∷ patches) each = (each.0.reached, overwrites_reached image patches each.1)

-- and they lie in files after a thaw too
pub patches_on : (image after : Image) → SameShape image after → (patches : List Patch) → Each (IsPatchIn image) patches → Each (IsPatchIn after) patches
patches_on image after shape [] each = tt
patches_on image after shape (patch ∷ patches) each = (one, patches_on image after shape patches each.1)
  where
    one : IsPatchIn after patch
    one = record {
      reached = reached_on image after shape.meaning patch.inode each.0.reached;
      is_file = shape.meaning.kind patch.inode each.0.reached ∙ each.0.is_file;
      within = subst (λ size. patch.offset + length patch.bytes ≤ size) (sym (shape.sizes patch.inode each.0.reached)) each.0.within;
    }

-- ---- where nothing is left to thaw

module _ {in_snapshot : ℕ → Bool} {old : Memory} {blocks inodes : Set} {patches : List Patch} {touched : Touched}
    (asks : CanOverwriteThawed in_snapshot old blocks inodes patches) (touches : TouchesPatches (current_words old) patches touched) where
  abbrev image : Image
  image = current_words old

  abbrev change : Change
  change = overwrites (stretches_of patches)

  wf : IsWellFormed image
  wf = asks.well_formed

  asked : CanOverwrite image patches
  asked = asks.can

  no_word : length touched.words.now ≡ 0
  no_word = ap length touches.no_words

  shape : IsTouched touched
  shape = overwrite_shape touches

  at : (run : Run) → Has touched.runs.now run → IsInFile image run
  at = at_run touches

  pub overwrite_can : CanCommit (current_words old) (size_of (current_words old)) in_snapshot touched (has blocks)
  overwrite_can = touched_can touches (has blocks) asks.exact.free_blocks

  first : (run : Run) × Has touched.runs.now run
  first = first_run touches

  need_is : copied_count image touched ≡ need image change
  need_is = overwrite_need touches

  cover_is : commit_cover image touched ≡ cover image change
  cover_is = overwrite_cover touches

  pub overwrite_room : copied_count (current_words old) touched ≤ length (members blocks) → HasRoom old touched
  overwrite_room enough =
      let room : room_for (need image change) ≤ room_in old + 2 = asks.room (omega (arith, need_is, enough)) in
      omega (arith, room, need_is, no_word)

  pub overwrite_loose : HasLooseCover image in_snapshot touched
  overwrite_loose =
      let file = at first.0 first.1 in
      let among : Has (targets image change) (commit_cover image touched) = inl (overwrites_now image (stretches_of patches) ∙ sym cover_is) in
      run_loose image wf file.inode file.reached first.0 file.of in_snapshot touched shape first.1 (loose-on image in_snapshot (targets image change) asks.clear (commit_cover image touched) among (length (commit_cover image touched) - 1))

  pub overwrite_lacks : (copies free : ℕ) → copies ≡ copied_count (current_words old) touched → free ≡ length (members blocks) → free < copies →
      LacksBlocks (current_words old) in_snapshot (need (current_words old) (overwrites (stretches_of patches))) (record { need = copies; free = free })
  overwrite_lacks copies free counted number fewer = record {
    needed = sym (counted ∙ need_is);
    free = subst (HasFree image in_snapshot) (sym number) (free_members image in_snapshot blocks asks.exact.free_blocks asks.exact.block_room);
    fewer = fewer;
  }

  module _ (new : Memory) (after : Set) (done : CommitsTouched (size_of (current_words old)) in_snapshot touched old new blocks after) where
    pub overwrites_files : OverwritesFiles patches (current_words old) (current_words new)
    overwrites_files =
        patches_overwrite image (current_words new) wf touched (has blocks) overwrite_can no_word at
        (IsTurned (job_of touched) (length (commit_cover image touched))) done.words patches touches.runs asked.each

    -- the leaves of as many bytes in so few runs are few
    leaves : leaves_of touched.runs.now ≤ 47
    leaves = omega (arith, leaves_few image patches touched.runs.now touches.runs, asked.short, asked.few)

    open_cover : IsOpen image in_snapshot done.taken (cover_word image touched)
    open_cover = let file = at first.0 first.1 in run_open image wf file.inode file.reached first.0 file.of in_snapshot touched shape first.1 overwrite_loose done.taken

    pub overwrite_performs : PerformsThawed in_snapshot old new (overwrites (stretches_of patches)) (OverwritesFiles patches)
    overwrite_performs =
        commit_performs old new change (OverwritesFiles patches) (size_of image) touched blocks after done cover_is need_is
        (let few = stores_few image (size_of image) touched (has blocks) wf overwrite_can in omega (arith, few, leaves, no_word, need_is))
        open_cover (well_formed-same image (current_words new) wf (keeps image (current_words new) patches overwrites_files)) overwrites_files

    pub overwrite_exact : length after ≡ length blocks → AreExact (current_words new) in_snapshot after inodes
    overwrite_exact room =
        commit_exact image (current_words new) wf (keeps image (current_words new) patches overwrites_files) (size_of image)
        (sizes_stay image (current_words new) wf touched (has blocks) overwrite_can no_word at (IsTurned (job_of touched) (length (commit_cover image touched))) done.words)
        blocks after inodes asks.exact room done.exact

-- ---- at once, and after a thaw

module _ {R : Type 0} (memory : R → Memory) (patches : List Patch) (old : Parts R) (mounted : IsMounted (current_words (memory old.region)) old) (can : CanOverwrite (current_words (memory old.region)) patches) where
  pub overwrites_at_once : length (members old.snapshot_blocks) ≡ 0 → HasRoomWhereFree (memory old.region) (in_snapshot_of old) old.free_blocks (overwrites (stretches_of patches)) →
      CanOverwriteThawed (in_snapshot_of old) (memory old.region) old.free_blocks old.free_inodes patches
  overwrites_at_once none room = record {
    well_formed = mounted.well_formed;
    exact = mounted.exact.sets;
    can = can;
    clear = clear_at_once memory (overwrites (stretches_of patches)) old mounted none;
    room = room_at_once memory (overwrites (stretches_of patches)) old mounted (clear_at_once memory (overwrites (stretches_of patches)) old mounted none) room;
  }

  module _ (middle : Parts R) (done : ThawsFor memory (targets (current_words (memory old.region)) (overwrites (stretches_of patches))) old middle) where
    pub overwrites_of : IsOfReached (current_words (memory old.region)) (overwrites (stretches_of patches))
    overwrites_of = overwrites_reached (current_words (memory old.region)) patches can.each

    needs_alike : need (current_words (memory middle.region)) (overwrites (stretches_of patches)) ≡ need (current_words (memory old.region)) (overwrites (stretches_of patches))
    needs_alike = need-shape (current_words (memory old.region)) (current_words (memory middle.region)) mounted.well_formed done.thaws.shape (overwrites (stretches_of patches)) overwrites_of

    pub overwrites_thawed : room_for (need (current_words (memory old.region)) (overwrites (stretches_of patches))) ≤ room_in (memory middle.region) + 2 →
        CanOverwriteThawed (in_snapshot_of middle) (memory middle.region) middle.free_blocks middle.free_inodes patches
    overwrites_thawed room = record {
      well_formed = meant_well_formed (current_words (memory old.region)) (current_words (memory middle.region)) mounted.well_formed done.thaws.shape.meaning;
      exact = done.exact.sets;
      can = record {
        few = can.few;
        each = patches_on (current_words (memory old.region)) (current_words (memory middle.region)) done.thaws.shape patches can.each;
        some = can.some;
        short = can.short;
      };
      clear = thawed_clear memory (overwrites (stretches_of patches)) old middle mounted overwrites_of done;
      room = λ enough. omega (arith, room, needs_alike);
    }

    pub overwrites_enough : need (current_words (memory old.region)) (overwrites (stretches_of patches)) ≤ length (members middle.free_blocks) →
        need (current_words (memory middle.region)) (overwrites (stretches_of patches)) ≤ length (members middle.free_blocks)
    overwrites_enough enough = omega (arith, enough, needs_alike)
