-- The events by which the inode file grows: a preparation, and then a store of the size in an epoch of its own.
use Rattle.std.proofs.Common.{◌≡◌, ◌⊎◌, ℕ, Bool, ◌+◌, ◌*◌, ◌/◌, ◌%◌, ◌≤◌, List, [], ◌∷◌, ◌++◌, length, true, set, refl, sym, ◌∙◌, ap, subst, inl, inr, arith}
use Rattle.std.proofs.lemmas.Bool.{cases_eq, le-leb, eq-eqb}
use Rattle.std.proofs.lemmas.List.{append-nil, length-map}
use Rattle.bp_append.specs.Prepared.{PreparesWith, need_for}
use Rattle.bp_append.specs.Stores.{is_one_leaf, prep_stores}
use Rattle.bp_append.proofs.OtherTrees.{other_block_back}
use Rattle.bp_changes.proofs.SameMeaning.{reached-back, same-by_meaning}
use Rattle.bp_layout.proofs.SameLaws.{same_symmetric, same_transitive}
use Rattle.bp_layout.specs.Words.{Image}
use Rattle.bp_layout.specs.Tree.{HasBlock}
use Rattle.bp_layout.specs.Inode.{root_of, size_of}
use Rattle.bp_layout.specs.Members.{Has}
use Rattle.bp_layout.specs.Need.{prepared_for}
use Rattle.bp_layout.specs.Nodes.{nodes_for}
use Rattle.bp_layout.specs.Reached.{IsReached, IsLiveBlock}
use Rattle.bp_layout.specs.Reached.IsReached.{inode_file}
use Rattle.bp_layout.specs.Same.{Same}
use Rattle.bp_layout.specs.WellFormed.{IsWellFormed}
use Rattle.bp_limits.specs.Limits.{block_size, super_size}
use Rattle.bp_changes.specs.Performs.{AddsTaking}
use Rattle.bp_changes.specs.Performs.IsOpen.{at_size}
use Rattle.bp_changes.proofs.PerformsLaws.{same_equivalence, taking_twice}
use Rattle.pm_epochs.specs.declared.event.Event.TheVariants.{Store, Barrier}
use Rattle.pm_epochs.proofs.MayLaws.{quiet_links}
use Rattle.pm_epochs.proofs.PieceLaws.{IsPiece-append, IsPiece-barrier, IsPiece-more, IsPiece-store}
use Rattle.pm_region.specs.Memory.{Memory, Adds, current_words, room_in}
use Rattle.pm_region.proofs.MemoryLaws.{current_words-adds, room_in-piece}
use Rattle.bp_calls.specs.Growth.{AddsInodes, GrowsInodes, growth_need, growth_stores}
use Rattle.bp_calls.proofs.GrowthImage.{adds_inodes}
use Rattle.bp_calls.proofs.Trees.{has_more}

-- looser bounds
taking_more : {in_snapshot : ℕ → Bool} (taken : List ℕ) (most_barriers most barriers stores : ℕ) (old new : Memory) → most_barriers ≤ barriers → most ≤ stores → AddsTaking in_snapshot taken most_barriers most old new → AddsTaking in_snapshot taken barriers stores old new
taking_more taken most_barriers most barriers stores old new low few adds = record {
  part = record {
    added = adds.part.added;
    adds = adds.part.adds;
    quiet = adds.part.quiet;
    closed = adds.part.closed;
    piece = IsPiece-more most_barriers most barriers stores adds.part.added low few adds.part.piece;
  };
  takes = adds.takes;
}

-- the nodes that are made for one more leaf of the inode file
pub growth_need_is : (image : Image) → growth_need image ≡ need_for image 0 (size_of image 0) (size_of image 0 + block_size)
growth_need_is image =
    ap length (append-nil (prepared_for image (record { tree = 0; from = size_of image 0; to = size_of image 0 + block_size })))
    ∙ length-map (nodes_for image (root_of image 0) (size_of image 0) (size_of image 0) (size_of image 0 + block_size)) _

-- the new leaf is one leaf after the size
one_leaf : (size : ℕ) → size % 4096 ≡ 0 → is_one_leaf size size (size + block_size) ≡ true
one_leaf size whole = rw (eq-eqb size size refl, le-leb (size + 4096) (size / 4096 * 4096 + 4096) (omega (arith, whole))) refl

few_stores : (size needed : ℕ) → size % 4096 ≡ 0 → prep_stores size size (size + block_size) needed + 1 ≤ growth_stores needed
few_stores size needed whole = let one = one_leaf size whole in rw one (omega arith)

module _ {in_snapshot : ℕ → Bool} (old middle new : Memory) (free_old free_new : List ℕ) (wf : IsWellFormed (current_words old))
    (prepared : PreparesWith in_snapshot old middle free_old free_new 0 (size_of (current_words old) 0) (size_of (current_words old) 0 + block_size) [])
    (stored : Adds middle new (Store super_size (size_of (current_words old) 0 + block_size) ∷ Barrier ∷ [])) where
  abbrev image : Image
  image = current_words old

  abbrev mid : Image
  mid = current_words middle

  abbrev end : ℕ
  end = size_of image 0 + block_size

  last_words : current_words new ≡ set mid super_size end
  last_words = current_words-adds middle new (Store super_size end ∷ Barrier ∷ []) stored

  pub grown : AddsInodes image (current_words new) prepared.taken
  grown = rw last_words (adds_inodes image mid prepared.taken wf prepared.ready)

  -- ---- nobody sees the size

  same_mid : Same mid (set mid super_size end)
  same_mid =
      same_transitive mid image (set mid super_size end) (same_symmetric image mid (same-by_meaning image mid wf prepared.ready.meaning))
      (same-by_meaning image (set mid super_size end) wf (adds_inodes image mid prepared.taken wf prepared.ready).meaning)

  size_stored : AddsTaking in_snapshot [] 1 1 middle new
  size_stored = record {
    part = record {
      added = Store super_size end ∷ Barrier ∷ [];
      adds = stored;
      quiet = quiet_links Same same_equivalence mid ((super_size, end) ∷ []) (same_transitive mid (set mid super_size end) mid same_mid (same_symmetric mid (set mid super_size end) same_mid), same_mid);
      closed = (omega arith, tt);
      piece = IsPiece-append 0 1 1 0 (Store super_size end ∷ []) (Barrier ∷ []) (IsPiece-store super_size end) IsPiece-barrier;
    };
    takes = record { once = tt; free = tt; stored = tt; only = (at_size refl, tt) };
  }

  -- ---- after the preparation

  live_cases : (t b : ℕ) → IsReached image t → HasBlock mid (root_of mid t) (size_of mid t) b → (t ≡ 0) ⊎ (t ≡ 0 → ⊥) → IsLiveBlock image b ⊎ Has prepared.taken b
  live_cases t b reached has (inl e) =
      let here : HasBlock mid (root_of mid 0) (size_of image 0) b =
      subst (λ s. HasBlock mid (root_of mid 0) s b) (prepared.ready.sizes 0 inode_file) (subst (λ u. HasBlock mid (root_of mid u) (size_of mid u) b) e has) in
      elim (prepared.ready.blocks b (has_more mid (root_of mid 0) (size_of image 0) block_size b here)) [
        | inl was ↦ inl (record { tree = 0; reached = inode_file; has = was })
        | inr took ↦ inr took
      ]
  live_cases t b reached has (inr other) =
      inl (record { tree = t; reached = reached; has = other_block_back image mid 0 (size_of image 0) end [] prepared.taken prepared.ready t reached other b has })

  live : (b : ℕ) → IsLiveBlock mid b → IsLiveBlock image b ⊎ Has prepared.taken b
  live b is = live_cases is.tree b (reached-back image mid wf prepared.ready.meaning is.tree is.reached) is.has (cases_eq is.tree 0)

  both : AddsTaking in_snapshot (prepared.taken ++ []) (2 + 1) (prep_stores (size_of image 0) (size_of image 0) end (need_for image 0 (size_of image 0) end) + 1) old new
  both = taking_twice in_snapshot old middle new prepared.taken [] 2 _ 1 1 prepared.adds size_stored live (λ b has. absurd has)

  pub grows : GrowsInodes in_snapshot old new
  grows = record {
    taken = prepared.taken;
    adds = taking_more prepared.taken (2 + 1) _ 3 (growth_stores (length prepared.taken)) old new (omega arith)
        (let few = few_stores (size_of image 0) (need_for image 0 (size_of image 0) end) wf.inode_blocks in rw prepared.counted few)
        (subst (λ xs. AddsTaking in_snapshot xs (2 + 1) (prep_stores (size_of image 0) (size_of image 0) end (need_for image 0 (size_of image 0) end) + 1) old new) (append-nil prepared.taken) both);
    number = prepared.counted ∙ sym (growth_need_is image);
    grown = grown;
  }

-- the room that a growth leaves
pub room_after_growth : {in_snapshot : ℕ → Bool} (old new : Memory) (done : GrowsInodes in_snapshot old new) → room_in old ≤ room_in new + (3 + growth_stores (length done.taken))
room_after_growth old new done = room_in-piece 3 (growth_stores (length done.taken)) old new done.adds.part.added done.adds.part.adds done.adds.part.piece
