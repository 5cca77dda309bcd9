-- The free blocks and inodes after a name moved: stated of the trees that the first image reaches, as a commit reports them.
use Rattle.std.proofs.Common.{◌≡◌, ◌≢◌, ◌⊎◌, ℕ, ◌<◌, Bool, true, false, length, refl, arith, sym, ◌∙◌, subst, inl, inr}
use Rattle.std.proofs.lemmas.Bool.{cases_eq}
use Rattle.bp_free.specs.Set.{Set, has}
use Rattle.bp_layout.specs.Words.{Image, block_count}
use Rattle.bp_layout.specs.Tree.{HasBlock}
use Rattle.bp_layout.specs.Inode.{root_of, size_of}
use Rattle.bp_layout.specs.Directory.{EntryNames, ino_at}
use Rattle.bp_layout.specs.Free.{AreUnheld, AreFreeBlocks, AreFreeInodes}
use Rattle.bp_layout.specs.Reached.{IsReached, HoldsBlock, IsLiveBlock, IsFreeBlock}
use Rattle.bp_layout.specs.Reached.IsReached.{inode_file, named}
use Rattle.bp_layout.specs.WellFormed.{IsWellFormed}
use Rattle.bp_layout.proofs.Reached.{reached-in_file}
use Rattle.bp_changes.specs.Effects.{IsAtOrBelow, IsLastName, CarriesEntry, CanMoveEntry, MovesEntry, RespellsEntry}
use Rattle.bp_changes.proofs.Carry as carry
use Rattle.bp_changes.proofs.Move as move
use Rattle.bp_changes.proofs.MoveReach.{carried_on, moved_on, replaced_not_reached, respelled_on}
use Rattle.bp_changes.proofs.Respell as respell
use Rattle.bp_changes.specs.Sets.{AreExact, AreExactFor}
use Rattle.bp_changes.proofs.Freed.{free_inodes_but}

-- ---- what is reached is the same

module _ (old new : Image) (bound : ℕ → ℕ) (in_snapshot : ℕ → Bool) (whole : length new ≡ length old) (inode_bytes : size_of new 0 ≡ size_of old 0)
    (sizes : (t : ℕ) → IsReached old t → size_of new t ≡ bound t)
    (back : (t : ℕ) → IsReached new t → IsReached old t) (on : (t : ℕ) → IsReached old t → IsReached new t) where
  held : (b : ℕ) → IsLiveBlock new b → HoldsBlock new (IsReached old) bound b
  held b one = record {
    tree = one.tree;
    reached = back one.tree one.reached;
    has = subst (λ s. HasBlock new (root_of new one.tree) s b) (sizes one.tree (back one.tree one.reached)) one.has;
  }

  lives : (b : ℕ) → HoldsBlock new (IsReached old) bound b → IsLiveBlock new b
  lives b one = record {
    tree = one.tree;
    reached = on one.tree one.reached;
    has = subst (λ s. HasBlock new (root_of new one.tree) s b) (sym (sizes one.tree one.reached)) one.has;
  }

  -- a set of the blocks that the trees of the old image don't have, under the sizes that they got, is one of the free blocks
  pub same_reach_exact : (before blocks inodes : Set) → AreExactFor old (IsReached old) bound in_snapshot before inodes → length blocks ≡ length before →
      AreUnheld new (IsReached old) bound in_snapshot (has blocks) → AreExact new in_snapshot blocks inodes
  same_reach_exact before blocks inodes exact room unheld = record {
    block_room = rw whole (room ∙ exact.block_room);
    inode_room = rw whole exact.inode_room;
    free_blocks = record {
      free = λ b is. let free = unheld.free b is in record { low = free.low; high = free.high; free = λ one. free.free (held b one); loose = free.loose };
      all = λ b free. unheld.all b (record { low = free.low; high = free.high; free = λ one. free.free (lives b one); loose = free.loose });
    };
    free_inodes = record {
      free = λ t is. let free = exact.free_inodes.free t is in
          record { low = free.low; high = rw inode_bytes free.high; free = λ reached. free.free (back t reached) };
      all = λ t free. exact.free_inodes.all t (record { low = free.low; high = rw inode_bytes at free.high; free = λ reached. free.free (on t reached) });
    };
  }

-- a name came to another directory, into an entry that was empty or into one after the last
pub carried_exact : (old new : Image) (wf : IsWellFormed old) (i s k r j : ℕ) (carries : CarriesEntry old new i s k r j) → (IsAtOrBelow old j k → ⊥) →
    (bound : ℕ → ℕ) (in_snapshot : ℕ → Bool) → ((t : ℕ) → IsReached old t → size_of new t ≡ bound t) → (before blocks inodes : Set) → AreExactFor old (IsReached old) bound in_snapshot before inodes →
    length blocks ≡ length before → AreUnheld new (IsReached old) bound in_snapshot (has blocks) → AreExact new in_snapshot blocks inodes
carried_exact old new wf i s k r j carries outside bound in_snapshot sizes =
    same_reach_exact old new bound in_snapshot carries.trees.whole (carry.inode_bytes old new wf i s k r j carries) sizes
    (carry.reached_back old new wf i s k r j carries) (carried_on old new i s k r j carries outside)

-- an entry is spelled again
pub respelled_exact : (old new : Image) (wf : IsWellFormed old) (i s j : ℕ) → RespellsEntry old new i s j → (in_snapshot : ℕ → Bool) (before blocks inodes : Set) → AreExact old in_snapshot before inodes →
    length blocks ≡ length before → AreUnheld new (IsReached old) (size_of old) in_snapshot (has blocks) → AreExact new in_snapshot blocks inodes
respelled_exact old new wf i s j spells in_snapshot =
    same_reach_exact old new (size_of old) in_snapshot spells.trees.whole (spells.size 0 (reached-in_file old wf 0 inode_file)) (λ t reached. spells.size t (reached-in_file old wf t reached))
    (respell.reached_back old new wf i s j spells) (respelled_on old new wf i s j spells)

-- ---- an inode is replaced

module _ (old new : Image) (wf : IsWellFormed old) (i s k r j : ℕ) (can : CanMoveEntry old i s k r j) (moves : MovesEntry old new i s k r j) (outside : IsAtOrBelow old j k → ⊥)
    (some : ino_at old k r ≢ 0) where
  abbrev gone : ℕ
  gone = ino_at old k r

  target : EntryNames old k r gone
  target = record { directory = can.directory; in_size = can.in_size; ino = refl; not_empty = some }

  pub gone_reached : IsReached old gone
  gone_reached = named r can.target target

  back : (t : ℕ) → IsReached new t → IsReached old t
  back = move.reached_back old new wf i s k r j can moves

  on : (t : ℕ) → IsReached old t → t ≢ gone → IsReached new t
  on t reached other = moved_on old new wf i s k r j can moves outside t reached (λ not_zero. other)

  none : IsLastName old k r gone → (t : ℕ) → IsReached new t → t ≢ gone
  none last t reached e = replaced_not_reached old new wf i s k r j can moves outside some last (subst (IsReached new) e reached)

  sizes : (t : ℕ) → IsReached old t → size_of new t ≡ size_of old t
  sizes t reached = moves.size t (reached-in_file old wf t reached)

  -- its number is free
  pub replaced_inode : IsLastName old k r gone → (free after : ℕ → Bool) → AreFreeInodes old free → after gone ≡ true → ((t : ℕ) → t ≢ gone → after t ≡ free t) → AreFreeInodes new after
  replaced_inode last =
      free_inodes_but old new gone (sizes 0 inode_file) back on (none last)
      (record {
        low = omega (arith, some, wf.not_root k r gone can.target target);
        high = wf.inos k r gone can.target target;
      })

  -- Where the set has the blocks that the trees of the old image don't have, those of the inode's tree come to it.
  pub replaced_blocks : IsLastName old k r gone → (in_snapshot free after : ℕ → Bool) → AreUnheld new (IsReached old) (size_of old) in_snapshot free →
      ((b : ℕ) → after b ≡ true → (free b ≡ true) ⊎ (HasBlock new (root_of new gone) (size_of new gone) b × (in_snapshot b ≡ false))) → ((b : ℕ) → free b ≡ true → after b ≡ true) →
      ((b : ℕ) → HasBlock new (root_of new gone) (size_of new gone) b → in_snapshot b ≡ false → after b ≡ true) → AreFreeBlocks new in_snapshot after
  replaced_blocks last in_snapshot free after unheld only still given = record { free = λ b is. free_now b (only b is); all = λ b open_block. all_now b open_block (after b) refl }
    where
      sized : (image : Image) (root t b : ℕ) → IsReached old t → HasBlock image root (size_of new t) b → HasBlock image root (size_of old t) b
      sized image root t b reached has = subst (λ z. HasBlock image root z b) (sizes t reached) has

      free_now : (b : ℕ) → (free b ≡ true) ⊎ (HasBlock new (root_of new gone) (size_of new gone) b × (in_snapshot b ≡ false)) → IsFreeBlock new in_snapshot b
      free_now b (inl is) =
          let was = unheld.free b is in
          record {
            low = was.low;
            high = was.high;
            free = λ live. was.free (record { tree = live.tree; reached = back live.tree live.reached; has = sized new (root_of new live.tree) live.tree b (back live.tree live.reached) live.has });
            loose = was.loose;
          }
      free_now b (inr (has, loose)) =
          let present : b ≢ 0 = has.not_null in
          record {
            low = omega (arith, present);
            high = subst (λ c. c < block_count new) has.named ((moves.trees.sound gone gone_reached).in_range has.depth has.index has.pointer);
            free = λ live. none last live.tree live.reached (moves.trees.apart live.tree gone b (back live.tree live.reached) gone_reached live.has has);
            loose = loose;
          }

      all_now : (b : ℕ) → IsFreeBlock new in_snapshot b → (is : Bool) → after b ≡ is → after b ≡ true
      all_now b open_block true e = e
      all_now b open_block false e = still b (unheld.all b (record { low = open_block.low; high = open_block.high; free = λ one. unheld_now one (cases_eq one.tree gone); loose = open_block.loose }))
        where
          clash : ◌≡◌ {A = Bool} false true → ⊥
          clash e = absurd (cc)

          unheld_now : (one : HoldsBlock new (IsReached old) (size_of old) b) → (one.tree ≡ gone) ⊎ (one.tree ≡ gone → ⊥) → ⊥
          unheld_now one (inl same) =
              let there : HasBlock new (root_of new one.tree) (size_of new one.tree) b = subst (λ z. HasBlock new (root_of new one.tree) z b) (sym (sizes one.tree one.reached)) one.has in
              clash (sym e ∙ given b (subst (λ t. HasBlock new (root_of new t) (size_of new t) b) same there) open_block.loose)
          unheld_now one (inr other) =
              open_block.free (record {
                tree = one.tree;
                reached = on one.tree one.reached other;
                has = subst (λ z. HasBlock new (root_of new one.tree) z b) (sym (sizes one.tree one.reached)) one.has;
              })
