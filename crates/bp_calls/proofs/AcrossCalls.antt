-- A write across the size of a file, by the number of its inode: what its parts ask and give.
use Rattle.std.proofs.Common.{◌≡◌, ℕ, zero, suc, ◌+◌, ◌-◌, ◌*◌, ◌/◌, ◌<◌, ◌≤◌, Bool, List, ◌++◌, [], ◌∷◌, length, drop, slice_index, refl, sym, ◌∙◌, ap, subst, subst₂, inl, inr, arith}
use Rattle.std.proofs.lemmas.List.{append-nil, length-append}
use Rattle.arrayvec.specs.ArrayVec.{ArrayVec}
use Rattle.bp_free.specs.Set.{Set, members}
use Rattle.bp_layout.specs.Inode.{root_of, size_of}
use Rattle.bp_layout.specs.Need.{need}
use Rattle.bp_layout.specs.Need.Change.{writes}
use Rattle.bp_layout.specs.Nodes.{nodes_for}
use Rattle.bp_layout.specs.WordPaths.{WordPath, inode_path}
use Rattle.bp_layout.specs.Words.{Image, height_of}
use Rattle.bp_limits.specs.Limits.{block_words, max_height}
use Rattle.bp_append.specs.Prepared.{CanPrepare, HasLooseEnd, PreparesWith, need_for}
use Rattle.bp_append.proofs.StoresLaws.{past_end_whole, room_past_end_whole}
use Rattle.bp_changes.specs.Sets.{AreExact}
use Rattle.bp_changes.specs.Performs.{PerformsThawed, room_for}
use Rattle.bp_cow.specs.Commit.{CanCommitIn, CommitsTouched}
use Rattle.bp_cow.specs.Cover.{LeadsInside, copied_count}
use Rattle.bp_cow.specs.Found.{AreWaysIn}
use Rattle.bp_cow.specs.Job.{copies_at}
use Rattle.bp_cow.specs.Touched.{IsTouched, NoneBegins, all_paths, job_of}
use Rattle.bp_cow.specs.declared.covers.FoundWays.{FoundWays}
use Rattle.bp_cow.specs.declared.touched.Touched.{Touched}
use Rattle.pm_region.specs.Memory.{Memory, current_words, room_in}
use Rattle.pm_region.proofs.MemoryLaws.{length-current_words, room_in-piece}
use Rattle.bp_calls.specs.CanWrite.{CanWriteInto}
use Rattle.bp_calls.specs.Space.{HasRoomThawed}
use Rattle.bp_calls.specs.TouchedAcross.{IsPlanFor, IsSizeWord, WritesAcross}
use Rattle.bp_calls.specs.declared.writes.across.Plan.{Plan}
use Rattle.bp_cow.proofs.CoverOf.{count_is}
use Rattle.bp_calls.specs.WritesFile.{WritesFile}
use Rattle.bp_calls.proofs.AcrossDone.{across_exact, across_performs}
use Rattle.bp_calls.proofs.AcrossMiddle.{across_can, middle_count, middle_formed, middle_loose, middle_ways}
use Rattle.bp_calls.proofs.SizesWith.{sizes_with}
use Rattle.bp_calls.proofs.AcrossTouched.{across_apart, across_few, across_inside, across_needs, across_shape, across_words}
use Rattle.bp_append.proofs.EndWays.{loose_end}
use Rattle.bp_calls.proofs.TakenBlocks.{members_free, usable_members}
use Rattle.bp_layout.specs.Thaw.{end_path_now, root_path_now, targets, thawed}
use Rattle.bp_layout.proofs.ThawLaws.{loose-on}
use Rattle.bp_layout.specs.Members.{Has}
use Rattle.bp_calls.proofs.PreparedRoom.{across_room}
use Rattle.bp_calls.proofs.WriteTargets.{across_targets}

parted : (taken rest : List ℕ) {all : List ℕ} → all ≡ taken ++ rest → length all ≡ length taken + length rest
parted taken rest e = ap (λ (xs : List ℕ). length xs) e ∙ length-append taken rest

-- the log has room for both parts
roomy : (made past_end copied needed words room left : ℕ) → room ≤ left + (2 + (block_words * made + past_end + 2)) → past_end ≤ block_words * suc max_height → needed ≡ made + copied → words ≡ 1 → room_for needed ≤ room + 2 →
    (block_words + 1) * copied + words + 1 + 2 ≤ left
roomy made past_end copied needed words room left a b c d e = omega (arith, a, b, c, d, e)

-- the word of the size, with the path that was read
pub sized_word : (image : Image) (i end : ℕ) (path : ArrayVec ℕ) → path.items ≡ inode_path (height_of (root_of image 0)) i 2 → IsSizeWord image i end ((path, end) ∷ [])
sized_word image i end path is = record { path = ap (λ (p : List ℕ). p ∷ []) is; value = refl }

-- a plan has the inode, the offset and the bytes of its write
module _ {image : Image} {i offset : ℕ} {bytes : List ℕ} {plan : Plan} (is : IsPlanFor image i offset bytes plan) where
  pub of_plan : (P : ℕ → ℕ → List ℕ → Type 0) → P i offset bytes → P plan.inode plan.offset plan.bytes.now
  of_plan P here =
      subst (λ j. P j plan.offset plan.bytes.now) (sym is.inode)
      (subst (λ o. P i o plan.bytes.now) (sym is.from) (subst (P i offset) (sym is.bytes_are) here))

  pub from_plan : (P : ℕ → ℕ → List ℕ → Type 0) → P plan.inode plan.offset plan.bytes.now → P i offset bytes
  from_plan P here = subst (P i offset) is.bytes_are (subst (λ o. P i o plan.bytes.now) is.from (subst (λ j. P j plan.offset plan.bytes.now) is.inode here))

  -- its root word is that of the file's tree
  pub root_planned : plan.tree.root ≡ root_of image plan.inode
  root_planned = is.root ∙ ap (root_of image) (sym is.inode)

  -- and its size
  pub size_planned : plan.tree.size ≡ size_of image plan.inode
  size_planned = is.size ∙ ap (size_of image) (sym is.inode)

  -- what is touched for the write is touched for the plan
  pub across_planned : {in_snapshot : ℕ → Bool} {old : Memory} {blocks inodes : Set} {touched : Touched}
      → WritesAcross in_snapshot old blocks inodes i offset bytes touched → WritesAcross in_snapshot old blocks inodes plan.inode plan.offset plan.bytes.now touched
  across_planned {in_snapshot} {old} {blocks} {inodes} {touched} = of_plan (λ j o (bs : List ℕ). WritesAcross in_snapshot old blocks inodes j o bs touched)

-- the nodes that are made, by the root word and the size that were read
abbrev made_for : Image → ℕ → ℕ → ℕ → ℕ
made_for image end root size = length (nodes_for image root size size end)

made_is : (image : Image) (end i root size : ℕ) → root ≡ root_of image i → size ≡ size_of image i → made_for image end root size ≡ need_for image i (size_of image i) end
made_is image end i root size one two = ap (λ r. made_for image end r size) one ∙ ap (made_for image end (root_of image i)) two

-- the preparation, stated at the size of the file
pub at_prepared : {in_snapshot : ℕ → Bool} {old middle : Memory} (blocks after : Set) {i size : ℕ} (offset : ℕ) (bytes : List ℕ) {beyond : List ℕ}
    → PreparesWith in_snapshot old middle (members blocks) (members after) i size (offset + length bytes) beyond
    → size ≡ size_of (current_words old) i → beyond ≡ drop (size - offset) bytes
    → PreparesWith in_snapshot old middle (members blocks) (members after) i (size_of (current_words old) i) (offset + length bytes)
    (drop (size_of (current_words old) i - offset) bytes)
at_prepared {in_snapshot} {old} {middle} blocks after {i} offset bytes prepared is split =
    subst₂ (λ s bs. PreparesWith in_snapshot old middle (members blocks) (members after) i s (offset + length bytes) bs) is
    (split ∙ ap (λ s. drop (s - offset) bytes) is) prepared

module _ {in_snapshot : ℕ → Bool} {old : Memory} {blocks inodes : Set} {offset : ℕ} {bytes : List ℕ} {touched : Touched} where
  not_inodes : (P : Type 0) → WritesAcross in_snapshot old blocks inodes 0 offset bytes touched → P
  not_inodes P across = absurd (omega (arith, across.into.can.file))

  -- what is touched for a planned write
  pub planned_across : (i : ℕ) (plan : Plan) → IsPlanFor (current_words old) i offset bytes plan → CanWriteInto in_snapshot (current_words old) blocks inodes i offset bytes → offset < size_of (current_words old) i → size_of (current_words old) i < offset + length bytes →
      touched.words.now ≡ plan.sized ∷ [] → touched.runs.now ≡ plan.run ∷ [] → touched.trees.now ≡ [] → WritesAcross in_snapshot old blocks inodes i offset bytes touched
  planned_across i plan is into low past words runs none =
      let sized : IsSizeWord (current_words old) i (offset + length bytes) touched.words.now = subst (λ (ws : List (ArrayVec ℕ × ℕ)). IsSizeWord (current_words old) i (offset + length bytes) ws) (sym words) is.sized in
      record {
        into = into;
        below = low;
        past = past;
        touches = record { run = plan.run; one = runs; is = is.run; sized = sized.path; value = sized.value; no_trees = none };
      }

  pub at_shape : (i : ℕ) → WritesAcross in_snapshot old blocks inodes i offset bytes touched → IsTouched touched
  at_shape zero across = not_inodes _ across
  at_shape (suc n) across = across_shape old blocks inodes n offset bytes touched across

  pub at_inside : (i : ℕ) → WritesAcross in_snapshot old blocks inodes i offset bytes touched → LeadsInside (current_words old) touched
  at_inside zero across = not_inodes _ across
  at_inside (suc n) across = across_inside old blocks inodes n offset bytes touched across

  pub at_apart : (i : ℕ) → WritesAcross in_snapshot old blocks inodes i offset bytes touched → NoneBegins (all_paths touched)
  at_apart zero across = not_inodes _ across
  at_apart (suc n) across = across_apart old blocks inodes n offset bytes touched across

  pub at_few : (i root size : ℕ) → WritesAcross in_snapshot old blocks inodes i offset bytes touched → root ≡ root_of (current_words old) i → size ≡ size_of (current_words old) i →
      length (nodes_for (current_words old) root size size (offset + length bytes)) + copied_count (current_words old) touched ≤ 320
  at_few zero root size across = not_inodes _ across
  at_few (suc n) root size across = λ one two.
      omega (arith, made_is (current_words old) (offset + length bytes) (suc n) root size one two, across_few old blocks inodes n offset bytes touched across (current_words old))

  -- as many are copied, by what was found of the ways
  pub at_copied : (i copied : ℕ) (found : FoundWays) → WritesAcross in_snapshot old blocks inodes i offset bytes touched → AreWaysIn (current_words old) touched found → copied ≡ copies_at (job_of touched) found.cover.len →
      copied ≡ copied_count (current_words old) touched
  at_copied i copied found across ways counted = counted ∙ count_is touched (at_shape i across) (current_words old) (at_apart i across) found.cover.len ways.cover.has

  -- as many blocks it takes
  pub at_needs : (i root size made copied : ℕ) → WritesAcross in_snapshot old blocks inodes i offset bytes touched → root ≡ root_of (current_words old) i → size ≡ size_of (current_words old) i →
      made ≡ length (nodes_for (current_words old) root size size (offset + length bytes)) → copied ≡ copied_count (current_words old) touched → made + copied ≡ need (current_words old) (writes i offset (length bytes))
  at_needs zero root size made copied across = not_inodes _ across
  at_needs (suc n) root size made copied across = λ one two counted also.
      omega (arith, across_needs old blocks inodes n offset bytes touched across, made_is (current_words old) (offset + length bytes) (suc n) root size one two, counted, also)

  -- the ways to the end of the file are loose
  end_loose : (n : ℕ) → WritesAcross in_snapshot old blocks inodes (suc n) offset bytes touched → thawed (current_words old) in_snapshot (writes (suc n) offset (length bytes)) ≡ [] → HasLooseEnd (current_words old) in_snapshot (suc n)
  end_loose n across clear =
      loose_end (current_words old) across.into.well_formed in_snapshot (suc n) across.into.can.reached
      (loose-on (current_words old) in_snapshot (targets (current_words old) (writes (suc n) offset (length bytes))) clear (end_path_now (current_words old) (suc n))
      (subst (λ ps. Has ps (end_path_now (current_words old) (suc n))) (sym (across_targets (current_words old) across.into.well_formed n across.into.can.reached offset (length bytes) across.below across.past)) (inr (inr (inl refl))))
      (length (root_path_now (current_words old) (suc n)) - 1))

  pub at_prepare : (i size : ℕ) (path : WordPath) → WritesAcross in_snapshot old blocks inodes i offset bytes touched → thawed (current_words old) in_snapshot (writes i offset (length bytes)) ≡ [] → HasRoomThawed old blocks (writes i offset (length bytes)) →
      need (current_words old) (writes i offset (length bytes)) ≤ length (members blocks) → size ≡ size_of (current_words old) i → path ≡ inode_path (height_of (root_of (current_words old) 0)) i 1 →
      CanPrepare in_snapshot old (members blocks) i path size (offset + length bytes)
  at_prepare zero size path across = not_inodes _ across
  at_prepare (suc n) size path across = λ clear room enough two is.
      let needs = across_needs old blocks inodes n offset bytes touched across in
      let has : room_for (need (current_words old) (writes (suc n) offset (length bytes))) ≤ room_in old + 2 = room enough in
      let can : CanPrepare in_snapshot old (members blocks) (suc n) path (size_of (current_words old) (suc n)) (offset + length bytes) = record {
        well = across.into.well_formed;
        reached = across.into.can.reached;
        leads = is ∙ sym (append-nil (inode_path (height_of (root_of (current_words old) 0)) (suc n) 1));
        past_end = omega arith;
        order = omega (arith, across.past);
        fits = across.into.can.fits;
        by_words = λ by. elim by [ inl e ↦ omega (arith, e) | inr kind ↦ omega (arith, kind, across.into.can.file) ];
        usable = usable_members (current_words old) blocks inodes across.into.exact _ (omega (arith, length-current_words old));
        are_free = members_free (current_words old) blocks inodes across.into.exact;
        loose = end_loose n across clear;
        enough = omega (arith, enough, needs);
        room = across_room _ _ _ _ _ needs (room_past_end_whole (size_of (current_words old) (suc n)) (size_of (current_words old) (suc n)) (offset + length bytes) max_height) has;
      } in
      subst (λ s. CanPrepare in_snapshot old (members blocks) (suc n) path s (offset + length bytes)) (sym two) can

  module _ (middle : Memory) (after : Set) where
    pub at_commit : (i : ℕ) → WritesAcross in_snapshot old blocks inodes i offset bytes touched → thawed (current_words old) in_snapshot (writes i offset (length bytes)) ≡ [] → HasRoomThawed old blocks (writes i offset (length bytes)) →
        need (current_words old) (writes i offset (length bytes)) ≤ length (members blocks) →
        PreparesWith in_snapshot old middle (members blocks) (members after) i (size_of (current_words old) i) (offset + length bytes) (drop (size_of (current_words old) i - offset) bytes) → length after ≡ length blocks →
        CanCommitIn (sizes_with (current_words middle) touched) in_snapshot middle touched after
    at_commit zero across = not_inodes _ across
    at_commit (suc n) across = λ clear asked enough prepared room.
        let count = middle_count old middle blocks inodes after n offset bytes touched across prepared in
        let needs = across_needs old blocks inodes n offset bytes touched across in
        let has : room_for (need (current_words old) (writes (suc n) offset (length bytes))) ≤ room_in old + 2 = asked enough in
        let parts : length (members blocks) ≡ length prepared.taken + length (members after) = parted prepared.taken (members after) prepared.takes in
        record {
          well_formed = middle_formed old middle blocks inodes after n offset bytes touched across prepared;
          can = across_can old middle blocks inodes after n offset bytes touched across prepared;
          loose = middle_loose old middle blocks inodes after n offset bytes touched across prepared clear;
          fits = let whole = ap (λ words. words / 512) prepared.ready.meaning.trees.whole in omega (arith, whole, room, across.into.exact.block_room);
          some = omega (arith, parts, prepared.counted, count, needs, enough);
          room = let left = room_in-piece _ _ old middle prepared.adds.part.added prepared.adds.part.adds prepared.adds.part.piece in
              roomy _ _ _ _ _ _ _ left (past_end_whole (size_of (current_words old) (suc n)) (size_of (current_words old) (suc n)) (offset + length bytes) max_height) (omega (arith, needs, count))
              (across_words old blocks inodes n offset bytes touched across) has;
        }

    -- what was found of the ways holds after it
    pub at_ways : (i : ℕ) → WritesAcross in_snapshot old blocks inodes i offset bytes touched →
        PreparesWith in_snapshot old middle (members blocks) (members after) i (size_of (current_words old) i) (offset + length bytes) (drop (size_of (current_words old) i - offset) bytes) →
        (found : FoundWays) → AreWaysIn (current_words old) touched found → AreWaysIn (current_words middle) touched found
    at_ways zero across = not_inodes _ across
    at_ways (suc n) across = λ prepared. middle_ways old middle blocks inodes after n offset bytes touched across prepared

    module _ (new : Memory) (last : Set) where
      pub at_done : (i : ℕ) → WritesAcross in_snapshot old blocks inodes i offset bytes touched →
          PreparesWith in_snapshot old middle (members blocks) (members after) i (size_of (current_words old) i) (offset + length bytes) (drop (size_of (current_words old) i - offset) bytes) → ((k : ℕ) → slice_index bytes k < 256) →
          CommitsTouched (sizes_with (current_words middle) touched) in_snapshot touched middle new after last → length last ≡ length after → length after ≡ length blocks →
          PerformsThawed in_snapshot old new (writes i offset (length bytes)) (WritesFile i offset bytes) × AreExact (current_words new) in_snapshot last inodes
      at_done zero across = not_inodes _ across
      at_done (suc n) across = λ prepared small done same room.
          (across_performs old middle new blocks inodes after last n offset bytes touched across prepared small done, across_exact old middle new blocks inodes after last n offset bytes touched across prepared small done same room)
