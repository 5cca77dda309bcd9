-- The blocks that come back where a file gets smaller, and where an inode is not reached any more.
use Rattle.std.proofs.Common.{◌≡◌, ◌≢◌, ◌⊎◌, ℕ, suc, ◌+◌, ◌*◌, ◌<◌, ◌≤◌, length, set, Bool, true, false, refl, sym, ◌∙◌, subst, subst₂, arith, inl, inr, lt_of_lt_of_le}
use Rattle.std.proofs.lemmas.Bool.{cases_eq, cases_lt}
use Rattle.bp_layout.specs.Words.{Image, block_count}
use Rattle.bp_layout.specs.Tree.{covered, HasBlock}
use Rattle.bp_layout.specs.Inode.{root_of, size_of, inode_count, ContentStandsAt}
use Rattle.bp_layout.specs.Free.{AreFreeBlocks, AreFreeInodes, IsFreeInode}
use Rattle.bp_layout.specs.Reached.{IsReached, IsLiveBlock, IsFreeBlock}
use Rattle.bp_layout.specs.WellFormed.{IsWellFormed}
use Rattle.bp_changes.specs.Effects.{ChangesFile, CanUnlink, IsLastName, RemovesEntry, KeepsBlocks}
use Rattle.bp_changes.proofs.ChangesFile as changed
use Rattle.bp_changes.proofs.LinkInPlace.{store_removes, store_blocks}
use Rattle.bp_changes.proofs.Resize.{CanResize, resize_changes, size_here, block_of_file, block_of_other, block_on_file, block_on_other}
use Rattle.bp_changes.proofs.Unlink.{reached_back, reached_stays, not_reached}
use Rattle.bp_changes.specs.Freed.{FreesBlocks, IsTruncated, ResizesBlocks}

-- ---- a file that gets smaller

module _ (old new : Image) (x : ℕ) (wf : IsWellFormed old) (changes : ChangesFile old new x) (blocks : ResizesBlocks old new x) (smaller : size_of new x ≤ size_of old x) where
  abbrev Gone : ℕ → Type 0
  Gone = IsTruncated old (root_of old x) (size_of old x) (size_of new x)

  -- the block of a pointer that is live below the new size
  larger : (b : ℕ) → HasBlock old (root_of old x) (size_of new x) b → HasBlock old (root_of old x) (size_of old x) b
  larger b has = record {
    depth = has.depth;
    index = has.index;
    pointer = record { level = has.pointer.level; height = has.pointer.height; live = lt_of_lt_of_le has.pointer.live smaller };
    named = has.named;
    not_null = has.not_null;
  }

  not_both : (b : ℕ) → HasBlock old (root_of old x) (size_of new x) b → Gone b → ⊥
  unfolding larger
  not_both b has gone =
      let one : HasBlock old (root_of old x) (size_of old x) b = larger b has in
      let same : (has.depth ≡ gone.has.depth) × (has.index ≡ gone.has.index) =
      (wf.sound x changes.reached).once has.depth has.index gone.has.depth gone.has.index one.pointer gone.has.pointer (λ null. has.not_null (sym has.named ∙ null)) (has.named ∙ sym gone.has.named) in
      let level : gone.has.pointer.level ≡ has.pointer.level = omega (arith, has.pointer.height, gone.has.pointer.height, same.0) in
      let past : size_of new x ≤ has.index * covered (suc has.pointer.level) = subst₂ (λ k l. size_of new x ≤ k * covered (suc l)) (sym same.1) level gone.past in
      let live : has.index * covered (suc has.pointer.level) < size_of new x = has.pointer.live in
      omega (arith, past, live)

  kept_or_gone : (b : ℕ) → HasBlock old (root_of old x) (size_of old x) b → HasBlock old (root_of old x) (size_of new x) b ⊎ Gone b
  kept_or_gone b has = go (cases_lt (has.index * covered (suc has.pointer.level)) (size_of new x))
    where
      go : (has.index * covered (suc has.pointer.level) < size_of new x) ⊎ (size_of new x ≤ has.index * covered (suc has.pointer.level)) → HasBlock old (root_of old x) (size_of new x) b ⊎ Gone b
      go (inl low) = inl (record {
        depth = has.depth;
        index = has.index;
        pointer = record { level = has.pointer.level; height = has.pointer.height; live = low };
        named = has.named;
        not_null = has.not_null;
      })
      go (inr past) = inr (record { has = has; past = past })

  at_x : (image : Image) (t b : ℕ) → t ≡ x → HasBlock image (root_of image t) (size_of image t) b → HasBlock image (root_of image x) (size_of image x) b
  at_x image t b e has = subst (λ u. HasBlock image (root_of image u) (size_of image u) b) e has

  pub truncated_frees : FreesBlocks old new Gone
  truncated_frees = record {
    were = λ b gone. record { tree = x; reached = changes.reached; has = gone.has };
    back = λ b live. back b live.tree (changed.reached-back old new x wf changes live.tree live.reached) (cases_eq live.tree x) live.has;
    gone = λ b gone live. not_live b gone live.tree (changed.reached-back old new x wf changes live.tree live.reached) (cases_eq live.tree x) live.has;
    stay = λ b live kept. stay b kept live.tree live.reached (cases_eq live.tree x) live.has;
  }
    where
      back : (b t : ℕ) → IsReached old t → (t ≡ x) ⊎ (t ≡ x → ⊥) → HasBlock new (root_of new t) (size_of new t) b → IsLiveBlock old b
      back b t reached (inl e) has = record { tree = x; reached = changes.reached; has = larger b (blocks.back_here b (at_x new t b e has)) }
      back b t reached (inr other) has = record { tree = t; reached = reached; has = blocks.back t b reached other has }

      not_live : (b : ℕ) → Gone b → (t : ℕ) → IsReached old t → (t ≡ x) ⊎ (t ≡ x → ⊥) → HasBlock new (root_of new t) (size_of new t) b → ⊥
      not_live b gone t reached (inl e) has = not_both b (blocks.back_here b (at_x new t b e has)) gone
      not_live b gone t reached (inr other) has = other (wf.apart t x b reached changes.reached (blocks.back t b reached other has) gone.has)

      stay : (b : ℕ) → (Gone b → ⊥) → (t : ℕ) → IsReached old t → (t ≡ x) ⊎ (t ≡ x → ⊥) → HasBlock old (root_of old t) (size_of old t) b → IsLiveBlock new b
      stay b kept t reached (inl e) has = go (kept_or_gone b (at_x old t b e has))
        where
          go : HasBlock old (root_of old x) (size_of new x) b ⊎ Gone b → IsLiveBlock new b
          go (inl there) = record { tree = x; reached = changed.reached-on old new x wf changes x changes.reached; has = blocks.stay_here b there }
          go (inr gone) = absurd (kept gone)
      stay b kept t reached (inr other) has = record { tree = t; reached = changed.reached-on old new x wf changes t reached; has = blocks.stay t b reached other has }

-- the same by one store to the size word
pub resize_blocks : (old : Image) (wf : IsWellFormed old) (n size place : ℕ) → CanResize old n size place → ResizesBlocks old (set old place size) (suc n)
resize_blocks old wf n size place can = record {
  back = block_of_other old wf n size place can;
  stay = block_on_other old wf n size place can;
  back_here = λ b has. rw (size_here old wf n size place can) (block_of_file old wf n size place can b has);
  stay_here = λ b has. block_on_file old wf n size place can b (rw (size_here old wf n size place can) at has);
}

pub resize_frees : (old : Image) (wf : IsWellFormed old) (n size place : ℕ) → CanResize old n size place → size ≤ size_of old (suc n) →
    FreesBlocks old (set old place size) (IsTruncated old (root_of old (suc n)) (size_of old (suc n)) size)
resize_frees old wf n size place can smaller =
    subst (λ z. FreesBlocks old (set old place size) (IsTruncated old (root_of old (suc n)) (size_of old (suc n)) z)) (size_here old wf n size place can)
    (truncated_frees old (set old place size) (suc n) wf (resize_changes old wf n size place can) (resize_blocks old wf n size place can) (rw (size_here old wf n size place can) smaller))

-- ---- an inode that is not reached any more

-- the number of an inode that may be free
pub record IsInodeNumber (image : Image) (j : ℕ) : Type 0 where
  pub low : 2 ≤ j
  pub high : j < inode_count image

-- All but one inode are reached as before: the number of that one is free too.
pub free_inodes_but : (old new : Image) (j : ℕ) → size_of new 0 ≡ size_of old 0 → ((t : ℕ) → IsReached new t → IsReached old t) → ((t : ℕ) → IsReached old t → t ≢ j → IsReached new t) →
    ((t : ℕ) → IsReached new t → t ≢ j) → IsInodeNumber old j → (free after : ℕ → Bool) → AreFreeInodes old free → after j ≡ true → ((t : ℕ) → t ≢ j → after t ≡ free t) → AreFreeInodes new after
free_inodes_but old new j bytes back on none number free after are here others = record {
  free = λ t is. free_now t is (cases_eq t j);
  all = λ t open_inode. all_now t open_inode (cases_eq t j);
}
  where
    free_now : (t : ℕ) → after t ≡ true → (t ≡ j) ⊎ (t ≡ j → ⊥) → IsFreeInode new t
    free_now t is (inl e) = record { low = rw e number.low; high = rw (e, bytes) number.high; free = λ reached. none t reached e }
    free_now t is (inr apart) =
        let was : IsFreeInode old t = are.free t (sym (others t apart) ∙ is) in
        record { low = was.low; high = rw bytes was.high; free = λ reached. was.free (back t reached) }

    all_now : (t : ℕ) → IsFreeInode new t → (t ≡ j) ⊎ (t ≡ j → ⊥) → after t ≡ true
    all_now t open_inode (inl e) = subst (λ u. after u ≡ true) (sym e) here
    all_now t open_inode (inr apart) =
        others t apart ∙ are.all t (record { low = open_inode.low; high = rw bytes at open_inode.high; free = λ reached. open_inode.free (on t reached apart) })

module _ (old new : Image) (wf : IsWellFormed old) (i s j : ℕ) (can : CanUnlink old i s j) (removes : RemovesEntry old new i s) where
  j_reached : IsReached old j
  j_reached = IsReached.named s can.reached can.entry

  other : IsLastName old i s j → (t : ℕ) → IsReached new t → t ≡ j → ⊥
  other last t reached e = not_reached old new wf i s j can removes last (subst (IsReached new) e reached)

  pub removed_frees : IsLastName old i s j → KeepsBlocks old new → FreesBlocks old new (HasBlock old (root_of old j) (size_of old j))
  removed_frees last blocks = record {
    were = λ b gone. record { tree = j; reached = j_reached; has = gone };
    back = λ b live. let was : IsReached old live.tree = reached_back old new wf i s j can removes live.tree live.reached in
        record { tree = live.tree; reached = was; has = blocks.back live.tree b was live.has };
    gone = λ b gone live.
        let was : IsReached old live.tree = reached_back old new wf i s j can removes live.tree live.reached in
        other last live.tree live.reached (wf.apart live.tree j b was j_reached (blocks.back live.tree b was live.has) gone);
    stay = λ b live kept. record {
      tree = live.tree;
      reached = reached_stays old new wf i s j can removes live.tree live.reached (λ e. kept (subst (λ t. HasBlock old (root_of old t) (size_of old t) b) e live.has));
      has = blocks.stay live.tree b live.reached live.has;
    };
  }

  -- its number is free
  pub removed_inode : IsLastName old i s j → (free after : ℕ → Bool) → AreFreeInodes old free → after j ≡ true → ((t : ℕ) → (t ≡ j → ⊥) → after t ≡ free t) → AreFreeInodes new after
  removed_inode last =
      free_inodes_but old new j (removes.size 0 (omega (arith, wf.some_inodes))) (reached_back old new wf i s j can removes) (reached_stays old new wf i s j can removes) (other last)
      (record { low = omega (arith, can.entry.not_empty, wf.not_root i s j can.reached can.entry); high = wf.inos i s j can.reached can.entry })

-- the same by one store of 0 to the inode number
pub remove_frees : (old : Image) (wf : IsWellFormed old) (i s j place : ℕ) → CanUnlink old i s j → IsLastName old i s j → ContentStandsAt old i (32 * s + 0) place →
    FreesBlocks old (set old place 0) (HasBlock old (root_of old j) (size_of old j))
remove_frees old wf i s j place can last stands =
    removed_frees old (set old place 0) wf i s j can (store_removes old wf i s j place can stands) last
    (store_blocks old wf i s 0 place can.reached can.entry.directory can.entry.in_size stands)

-- ---- the set of free blocks

-- it gets just the blocks that are gone
pub freed_blocks : (old new : Image) → IsWellFormed old → length new ≡ length old → (Gone : ℕ → Type 0) → FreesBlocks old new Gone → (in_snapshot free after : ℕ → Bool) → AreFreeBlocks old in_snapshot free →
    ((b : ℕ) → after b ≡ true → (free b ≡ true) ⊎ (Gone b × (in_snapshot b ≡ false))) → ((b : ℕ) → free b ≡ true → after b ≡ true) → ((b : ℕ) → Gone b → in_snapshot b ≡ false → after b ≡ true) → AreFreeBlocks new in_snapshot after
freed_blocks old new wf whole Gone frees in_snapshot free after are only still given = record { free = λ b is. free_now b (only b is); all = λ b open_block. all_now b open_block (after b) refl }
  where
    free_now : (b : ℕ) → (free b ≡ true) ⊎ (Gone b × (in_snapshot b ≡ false)) → IsFreeBlock new in_snapshot b
    free_now b (inl was) =
        let open_block : IsFreeBlock old in_snapshot b = are.free b was in
        record { low = open_block.low; high = rw whole open_block.high; free = λ live. open_block.free (frees.back b live); loose = open_block.loose }
    free_now b (inr (gone, loose)) =
        let live : IsLiveBlock old b = frees.were b gone in
        let present : b ≢ 0 = live.has.not_null in
        record {
          low = omega (arith, present);
          high = rw whole (subst (λ c. c < block_count old) live.has.named ((wf.sound live.tree live.reached).in_range live.has.depth live.has.index live.has.pointer));
          free = frees.gone b gone;
          loose = loose;
        }

    all_now : (b : ℕ) → IsFreeBlock new in_snapshot b → (is : Bool) → after b ≡ is → after b ≡ true
    all_now b open_block true e = e
    all_now b open_block false e =
        let not_gone : Gone b → ⊥ = λ gone. clash (sym e ∙ given b gone open_block.loose) in
        let was : IsFreeBlock old in_snapshot b = record { low = open_block.low; high = rw whole at open_block.high; free = λ live. open_block.free (frees.stay b live not_gone); loose = open_block.loose } in
        still b (are.all b was)
      where
        clash : ◌≡◌ {A = Bool} false true → ⊥
        clash e = absurd (cc)
