-- Behind the preparation of a tree the sizes that count are those that the trees have, and for this one the end for which it is prepared: under them the trees are apart, and the sets are exact.
use Rattle.std.proofs.Common.{◌≡◌, ◌≢◌, ◌⊎◌, ℕ, Bool, ◌<◌, ◌≤◌, List, length, true, sym, ◌∙◌, subst, inl, inr, arith, lt_of_lt_of_le}
use Rattle.bp_layout.specs.Formatted.{version_of}
use Rattle.bp_limits.specs.Limits.{greatest_height}
use Rattle.std.proofs.lemmas.Bool.{cases_eq}
use Rattle.bp_layout.proofs.MemberLaws.{has-after}
use Rattle.bp_free.specs.Set.{Set, has, members}
use Rattle.bp_layout.specs.Free.{AreUnheld}
use Rattle.bp_layout.specs.Inode.{root_of, size_of}
use Rattle.bp_layout.specs.Members.{Has, AreApart}
use Rattle.bp_layout.specs.Reached.{IsReached, HoldsBlock, IsLiveBlock, IsFreeBlock}
use Rattle.bp_layout.specs.Reached.IsReached.{inode_file}
use Rattle.bp_layout.specs.Tree.{HasBlock, IsSound}
use Rattle.bp_layout.specs.WellFormed.{IsWellFormed}
use Rattle.bp_layout.specs.Words.{Image, height_of}
use Rattle.bp_changes.proofs.ReachedOn.{reached_on}
use Rattle.bp_changes.proofs.SameMeaning as meaning
use Rattle.bp_append.specs.Prepared.{PreparesWith}
use Rattle.bp_append.proofs.FillLaws.{apart_parts}
use Rattle.bp_append.proofs.OtherTrees.{other_block_back, other_block_on}
use Rattle.bp_changes.specs.Forest.{IsForest}
use Rattle.bp_changes.specs.Sets.{AreExact, AreExactFor}
use Rattle.bp_changes.proofs.FreeSets.{wf_forest}
use Rattle.pm_region.specs.Memory.{Memory, current_words}
use Rattle.bp_calls.proofs.SetLaws.{free_inodes_stay}
use Rattle.bp_calls.proofs.TakenBlocks.{has_either, in_members, members_apart, of_members}

-- a tree has its blocks under a greater size too
pub wider : (image : Image) (root size more b : ℕ) → size ≤ more → HasBlock image root size b → HasBlock image root more b
wider image root size more b low has = record {
  depth = has.depth;
  index = has.index;
  pointer = record { level = has.pointer.level; height = has.pointer.height; live = lt_of_lt_of_le has.pointer.live low };
  named = has.named;
  not_null = has.not_null;
}

module _ {in_snapshot : ℕ → Bool} (old middle : Memory) (blocks inodes after : Set) (x from to : ℕ) (bytes : List ℕ) (wf : IsWellFormed (current_words old)) (exact : AreExact (current_words old) in_snapshot blocks inodes)
    (reached : IsReached (current_words old) x) (some : x ≢ 0) (past : size_of (current_words old) x ≤ to) (prepared : PreparesWith in_snapshot old middle (members blocks) (members after) x from to bytes)
    (bound : ℕ → ℕ) (bound_here : bound x ≡ to) (bound_other : (t : ℕ) → (t ≡ x → ⊥) → bound t ≡ size_of (current_words middle) t) where
  abbrev image : Image
  image = current_words old

  abbrev mid : Image
  mid = current_words middle

  middle_formed : IsWellFormed (current_words middle)
  middle_formed = meaning.well_formed-same (current_words old) (current_words middle) wf prepared.ready.meaning

  on : (t : ℕ) → IsReached image t → IsReached mid t
  on = reached_on (current_words old) (current_words middle) prepared.ready.meaning

  back : (t : ℕ) → IsReached mid t → IsReached image t
  back = meaning.reached-back (current_words old) (current_words middle) wf prepared.ready.meaning

  size_was : size_of mid x ≡ size_of image x
  size_was = prepared.ready.sizes x reached

  pub sizes_low : (t : ℕ) → size_of (current_words middle) t ≤ bound t
  sizes_low t = go (cases_eq t x)
    where
      go : (t ≡ x) ⊎ (t ≡ x → ⊥) → size_of (current_words middle) t ≤ bound t
      go (inl e) = subst (λ u. size_of mid u ≤ bound u) (sym e) (omega (arith, size_was, bound_here, past))
      go (inr other) = omega (arith, bound_other t other)

  by_tree : (P : ℕ → ℕ → Type 0) (t : ℕ) → P (root_of mid x) to → ((t ≡ x → ⊥) → P (root_of mid t) (size_of mid t)) → P (root_of mid t) (bound t)
  by_tree P t own others = go (cases_eq t x)
    where
      go : (t ≡ x) ⊎ (t ≡ x → ⊥) → P (root_of mid t) (bound t)
      go (inl e) = subst (λ u. P (root_of mid u) (bound u)) (sym e) (subst (P (root_of mid x)) (sym bound_here) own)
      go (inr other) = subst (P (root_of mid t)) (sym (bound_other t other)) (others other)

  -- a block under these sizes is of the tree that is prepared, or another tree's
  of_own : (t b : ℕ) → t ≡ x → HasBlock mid (root_of mid t) (bound t) b → HasBlock mid (root_of mid x) to b
  of_own t b e has = subst (λ s. HasBlock mid (root_of mid x) s b) bound_here (subst (λ u. HasBlock mid (root_of mid u) (bound u) b) e has)

  of_other : (t b : ℕ) → (t ≡ x → ⊥) → HasBlock mid (root_of mid t) (bound t) b → HasBlock mid (root_of mid t) (size_of mid t) b
  of_other t b other has = subst (λ s. HasBlock mid (root_of mid t) s b) (bound_other t other) has

  pub prepared_forest : IsForest (current_words middle) bound
  prepared_forest =
      let plain : IsForest mid (size_of mid) = wf_forest (current_words middle) middle_formed in
      let zero_bound : bound 0 ≡ size_of mid 0 = bound_other 0 (λ e. some (sym e)) in
      record {
        some = omega (arith, plain.some, zero_bound);
        in_file = λ i reached. omega (arith, plain.in_file i reached, zero_bound);
        sound = λ t reached. by_tree (IsSound mid) t prepared.ready.sound (λ other. middle_formed.sound t reached);
        low = λ t reached. by_tree (λ root s. 0 < s → height_of root ≤ greatest_height (version_of mid)) t (λ _. prepared.ready.low) (λ other. middle_formed.low t reached);
        apart = λ t u b r q has also. apart t u b r q has also (cases_eq t x) (cases_eq u x);
      }
    where
      apart : (t u b : ℕ) → IsReached mid t → IsReached mid u → HasBlock mid (root_of mid t) (bound t) b → HasBlock mid (root_of mid u) (bound u) b → (t ≡ x) ⊎ (t ≡ x → ⊥) → (u ≡ x) ⊎ (u ≡ x → ⊥) → t ≡ u
      apart t u b r q has also (inl e) (inl f) = e ∙ sym f
      apart t u b r q has also (inl e) (inr f) = absurd (prepared.ready.apart u b (back u q) f (of_other u b f also) (of_own t b e has))
      apart t u b r q has also (inr e) (inl f) = absurd (prepared.ready.apart t b (back t r) e (of_other t b e has) (of_own u b f also))
      apart t u b r q has also (inr e) (inr f) = middle_formed.apart t u b r q (of_other t b e has) (of_other u b f also)

  -- ---- the blocks

  pub held_before : (b : ℕ) → HoldsBlock (current_words middle) (IsReached (current_words middle)) bound b → IsLiveBlock (current_words old) b ⊎ Has prepared.taken b
  held_before b one = go (cases_eq one.tree x)
    where
      go : (one.tree ≡ x) ⊎ (one.tree ≡ x → ⊥) → IsLiveBlock (current_words old) b ⊎ Has prepared.taken b
      go (inl e) =
          elim (prepared.ready.blocks b (of_own one.tree b e one.has)) [
            | inl was ↦ inl (record { tree = x; reached = reached; has = was })
            | inr took ↦ inr took
          ]
      go (inr other) =
          inl (record {
            tree = one.tree;
            reached = back one.tree one.reached;
            has = other_block_back image mid x from to bytes prepared.taken prepared.ready one.tree (back one.tree one.reached) other b (of_other one.tree b other one.has);
          })

  -- so is a block that is live after the preparation
  pub live_before : (b : ℕ) → IsLiveBlock (current_words middle) b → IsLiveBlock (current_words old) b ⊎ Has prepared.taken b
  live_before b live = held_before b (record { tree = live.tree; reached = live.reached; has = wider mid (root_of mid live.tree) (size_of mid live.tree) (bound live.tree) b (sizes_low live.tree) live.has })

  own_block : (b : ℕ) → HasBlock mid (root_of mid x) to b → HoldsBlock mid (IsReached mid) bound b
  own_block b has = record { tree = x; reached = on x reached; has = subst (λ s. HasBlock mid (root_of mid x) s b) (sym bound_here) has }

  held_on : (b : ℕ) → IsLiveBlock image b → HoldsBlock mid (IsReached mid) bound b
  held_on b live = go (cases_eq live.tree x)
    where
      go : (live.tree ≡ x) ⊎ (live.tree ≡ x → ⊥) → HoldsBlock mid (IsReached mid) bound b
      go (inl e) = own_block b (prepared.ready.has_old b (subst (λ u. HasBlock image (root_of image u) (size_of image u) b) e live.has))
      go (inr other) = record {
        tree = live.tree;
        reached = on live.tree live.reached;
        has = wider mid (root_of mid live.tree) (size_of mid live.tree) (bound live.tree) b (sizes_low live.tree)
            (other_block_on image mid x from to bytes prepared.taken prepared.ready live.tree live.reached other b live.has);
      }

  -- the blocks that are left in the set were free, and the preparation did not take them
  pub still_free : (b : ℕ) → has after b ≡ true → IsFreeBlock (current_words old) in_snapshot b × (Has prepared.taken b → ⊥)
  still_free b is =
      let there : Has (members blocks) b = subst (λ bs. Has bs b) (sym prepared.takes) (has-after prepared.taken (members after) b (in_members after b is)) in (
        exact.free_blocks.free b (of_members blocks b there),
        λ took. apart_parts prepared.taken (members after) b (subst AreApart prepared.takes (members_apart blocks)) took (in_members after b is),
      )

  pub prepared_exact : AreUnheld (current_words middle) (IsReached (current_words middle)) bound in_snapshot (has after)
  prepared_exact = record {
    free = λ b is.
        let free = still_free b is in
        record {
          low = free.0.low;
          high = rw prepared.ready.meaning.trees.whole free.0.high;
          free = λ held. elim (held_before b held) [ inl was ↦ free.0.free was | inr took ↦ free.1 took ];
          loose = free.0.loose;
        };
    all = λ b unheld.
        let was : has blocks b ≡ true =
        exact.free_blocks.all b (record { low = unheld.low; high = rw prepared.ready.meaning.trees.whole at unheld.high; free = λ live. unheld.free (held_on b live); loose = unheld.loose }) in
        elim (has_either prepared.taken (members after) b (subst (λ bs. Has bs b) prepared.takes (in_members blocks b was))) [
          | inl early ↦ absurd (unheld.free (own_block b (prepared.ready.has_taken b early)))
          | inr late ↦ of_members after b late
        ];
  }

  -- so the sets are exact under these sizes
  pub prepared_sets : length after ≡ length blocks → AreExactFor (current_words middle) (IsReached (current_words middle)) bound in_snapshot after inodes
  prepared_sets room = record {
    block_room = rw prepared.ready.meaning.trees.whole (room ∙ exact.block_room);
    inode_room = rw prepared.ready.meaning.trees.whole exact.inode_room;
    free_blocks = prepared_exact;
    free_inodes = free_inodes_stay image mid (has inodes) (prepared.ready.sizes 0 inode_file) back on exact.free_inodes;
  }
