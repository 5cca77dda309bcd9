-- Each block but the first that a volume does not find free is live in the first tree, where no block is in the
-- snapshot: a search over the inodes that have names finds the pointer to it.
use Rattle.std.proofs.Common.{◌≡◌, ◌≢◌, ◌⊎◌, ℕ, zero, suc, ◌+◌, ◌-◌, ◌*◌, ◌/◌, ◌<◌, ◌≤◌, List, [], ◌∷◌, length, true≢false, refl, sym, ◌∙◌, subst, arith, inl, inr}
use Rattle.std.proofs.Math.Nat.{le-mul_of_pos_right}
use Rattle.std.proofs.lemmas.Bool.{cases_eq, cases_lt}
use Rattle.bp_free.specs.Set.{has}
use Rattle.bp_free.specs.declared.parts.Parts.{Parts}
use Rattle.bp_layout.specs.Free.{AreFreeBlocks}
use Rattle.bp_layout.specs.Inode.{inode_count, root_of, size_of}
use Rattle.bp_layout.specs.Members.{Each, Has}
use Rattle.bp_layout.specs.Names.{HasNames, IsNamed}
use Rattle.bp_layout.specs.Reached.{IsLiveBlock, IsReached}
use Rattle.bp_layout.specs.Reached.IsReached.{inode_file, root_directory, named}
use Rattle.bp_layout.specs.Thaw.{none_in_snapshot}
use Rattle.bp_layout.specs.Tree.{HasBlock, covered, node}
use Rattle.bp_layout.specs.WellFormed.{IsWellFormed}
use Rattle.bp_layout.specs.Words.{Image, block_count, height_of}
use Rattle.bp_layout.proofs.FewLeaves.{few_inodes}
use Rattle.bp_layout.proofs.Reached.{reached-in_file}
use Rattle.bp_scan.specs.Scanned.{AreOthersLive}
use Rattle.bp_changes.specs.Sets.{IsExact}
use Rattle.bp_walk.proofs.LiveSlots.{covered_some}

-- one of the numbers below a bound, or none
abbrev Below : (ℕ → Type 0) → ℕ → Type 0
Below P bound = (k : ℕ) × (k < bound) × P k

search_below : (P : ℕ → Type 0) → ((k : ℕ) → P k ⊎ (P k → ⊥)) → (bound : ℕ) → Below P bound ⊎ (Below P bound → ⊥)
search_below P decide zero = inr (λ found. let low = found.1 in absurd (omega (arith, low)))
search_below P decide (suc bound) = go (search_below P decide bound) (decide bound)
  where
    last : (P bound → ⊥) → (Below P bound → ⊥) → (k : ℕ) → k < suc bound → P k → (k ≡ bound) ⊎ (k ≡ bound → ⊥) → ⊥
    last not none k low is (inl same) = not (subst P same is)
    last not none k low is (inr other) = none (k, omega (arith, low, other), is)

    go : Below P bound ⊎ (Below P bound → ⊥) → P bound ⊎ (P bound → ⊥) → Below P (suc bound) ⊎ (Below P (suc bound) → ⊥)
    go (inl found) _ = let low = found.1 in inl (found.0, omega (arith, low), found.2)
    go (inr none) (inl is) = inl (bound, omega arith, is)
    go (inr none) (inr not) = inr (λ found. last not none found.0 found.1 found.2 (cases_eq found.0 bound))

-- ---- the blocks of a tree

module _ (image : Image) (root size block : ℕ) where
  -- the pointer with this number at this depth is live, and names the block
  abbrev Names : ℕ → ℕ → Type 0
  Names depth index =
      (depth ≤ height_of root) × (index * covered (suc (height_of root - depth)) < size) × (node image root depth index ≡ block)

  decide_names : (depth index : ℕ) → Names depth index ⊎ (Names depth index → ⊥)
  decide_names depth index = go (cases_lt (height_of root) depth) (cases_lt (index * covered (suc (height_of root - depth))) size) (cases_eq (node image root depth index) block)
    where
      go : (height_of root < depth) ⊎ (depth ≤ height_of root) → (index * covered (suc (height_of root - depth)) < size) ⊎ (size ≤ index * covered (suc (height_of root - depth))) →
          (node image root depth index ≡ block) ⊎ (node image root depth index ≡ block → ⊥) → Names depth index ⊎ (Names depth index → ⊥)
      go (inl deep) _ _ = inr (λ names. let high = names.0 in absurd (omega (arith, deep, high)))
      go (inr high) (inr past) _ = inr (λ names. let live = names.1 in absurd (omega (arith, past, live)))
      go (inr high) (inl live) (inr other) = inr (λ names. other names.2)
      go (inr high) (inl live) (inl is) = inl (high, live, is)

  decide_deep : Below (λ depth. Below (Names depth) size) 8 ⊎ (Below (λ depth. Below (Names depth) size) 8 → ⊥)
  decide_deep = search_below (λ depth. Below (Names depth) size) (λ depth. search_below (Names depth) (decide_names depth) size) 8

  found_block : block ≢ 0 → Below (λ depth. Below (Names depth) size) 8 → HasBlock image root size block
  found_block some found =
      let depth = found.0 in
      let names = found.2.2 in
      let high = names.0 in
      record {
        depth = depth;
        index = found.2.0;
        pointer = record { level = height_of root - depth; height = omega (arith, high); live = names.1 };
        named = names.2;
        not_null = some;
      }

  block_found : HasBlock image root size block → Below (λ depth. Below (Names depth) size) 8
  block_found found = (found.depth, omega (arith, height), (found.index, omega (arith, few, live), (omega (arith, height), live, found.named)))
    where
      height : found.depth + found.pointer.level ≡ height_of root
      height = found.pointer.height

      level : height_of root - found.depth ≡ found.pointer.level
      level = omega (arith, height)

      live : found.index * covered (suc (height_of root - found.depth)) < size
      live = subst (λ n. found.index * covered (suc n) < size) (sym level) found.pointer.live

      few : found.index ≤ found.index * covered (suc (height_of root - found.depth))
      few = le-mul_of_pos_right found.index (covered_some (suc (height_of root - found.depth)) (omega arith))

  decide_block : HasBlock image root size block ⊎ (HasBlock image root size block → ⊥)
  decide_block = go (cases_eq block 0) decide_deep
    where
      go : (block ≡ 0) ⊎ (block ≢ 0) → Below (λ depth. Below (Names depth) size) 8 ⊎ (Below (λ depth. Below (Names depth) size) 8 → ⊥) → HasBlock image root size block ⊎ (HasBlock image root size block → ⊥)
      go (inl null) _ = inr (λ has. has.not_null null)
      go (inr some) (inl found) = inl (found_block some found)
      go (inr some) (inr none) = inr (λ has. none (block_found has))

-- ---- the blocks of all trees

module _ {R : Type 0} (image : Image) (wf : IsWellFormed image) (parts : Parts R) (exact : IsExact image parts) where
  -- each inode that is reached is counted
  counted : (t : ℕ) → IsReached image t → t < length parts.link_counts
  counted t reached =
      let low : t < inode_count image = reached-in_file image wf t reached in
      let few : size_of image 0 / 64 ≤ 64 * block_count image =
      few_inodes image (root_of image 0) (size_of image 0) (wf.sound 0 inode_file) wf.full_inode_file (omega (arith, wf.formatted.sized.at_least)) wf.inode_blocks in
      omega (arith, low, few, exact.count_room)

  -- all but the first two inodes are reached by a name
  by_name : (t : ℕ) → 2 ≤ t → IsReached image t → (e : ℕ × ℕ) × IsNamed image t e
  by_name _ low inode_file = absurd (omega (arith, low))
  by_name _ low root_directory = absurd (omega (arith, low))
  by_name _ low (named {i} {j} slot reached names) = ((i, slot), record { reached = reached; names = names })

  decide_named : (t : ℕ) → 2 ≤ t → {count : ℕ} → HasNames image t count → IsReached image t ⊎ (IsReached image t → ⊥)
  decide_named t low has = go has.entries has.are.name (λ i s is. has.are.all i s is)
    where
      go : (entries : List (ℕ × ℕ)) → Each (IsNamed image t) entries → ((i s : ℕ) → IsNamed image t (i, s) → Has entries (i, s)) → IsReached image t ⊎ (IsReached image t → ⊥)
      go [] each all = inr (λ reached. let by = by_name t low reached in all by.0.0 by.0.1 by.1)
      go (e ∷ entries) each all = let first : IsNamed image t e = each.0 in inl (named e.1 first.reached first.names)

  decide_reached : (t : ℕ) → IsReached image t ⊎ (IsReached image t → ⊥)
  decide_reached t = go (cases_eq t 0) (cases_eq t 1) (cases_lt t (length parts.link_counts))
    where
      go : (t ≡ 0) ⊎ (t ≢ 0) → (t ≡ 1) ⊎ (t ≢ 1) → (t < length parts.link_counts) ⊎ (length parts.link_counts ≤ t) → IsReached image t ⊎ (IsReached image t → ⊥)
      go (inl is) _ _ = inl (subst (IsReached image) (sym is) inode_file)
      go (inr a) (inl is) _ = inl (subst (IsReached image) (sym is) root_directory)
      go (inr a) (inr b) (inl low) = decide_named t (omega (arith, a, b)) (exact.counts.each t low)
      go (inr a) (inr b) (inr high) = inr (λ reached. let low : t < length parts.link_counts = counted t reached in absurd (omega (arith, low, high)))

  -- inode t has the block, and is reached
  abbrev Holds : ℕ → ℕ → Type 0
  Holds block t = IsReached image t × HasBlock image (root_of image t) (size_of image t) block

  decide_holds : (block t : ℕ) → Holds block t ⊎ (Holds block t → ⊥)
  decide_holds block t = go (decide_reached t) (decide_block image (root_of image t) (size_of image t) block)
    where
      go : IsReached image t ⊎ (IsReached image t → ⊥) → HasBlock image (root_of image t) (size_of image t) block ⊎ (HasBlock image (root_of image t) (size_of image t) block → ⊥) → Holds block t ⊎ (Holds block t → ⊥)
      go (inr not) _ = inr (λ holds. not holds.0)
      go (inl reached) (inr none) = inr (λ holds. none holds.1)
      go (inl reached) (inl has) = inl (reached, has)

  decide_live : (block : ℕ) → IsLiveBlock image block ⊎ (IsLiveBlock image block → ⊥)
  decide_live block = go (search_below (Holds block) (decide_holds block) (length parts.link_counts))
    where
      go : Below (Holds block) (length parts.link_counts) ⊎ (Below (Holds block) (length parts.link_counts) → ⊥) → IsLiveBlock image block ⊎ (IsLiveBlock image block → ⊥)
      go (inl found) = inl (record { tree = found.0; reached = found.2.0; has = found.2.1 })
      go (inr none) = inr (λ live. none (live.tree, counted live.tree live.reached, (live.reached, live.has)))

  pub others_live : AreFreeBlocks image none_in_snapshot (has parts.free_blocks) → AreOthersLive image (has parts.free_blocks)
  others_live free block low high taken = go (decide_live block)
    where
      go : IsLiveBlock image block ⊎ (IsLiveBlock image block → ⊥) → IsLiveBlock image block
      go (inl live) = live
      go (inr none) = absurd (true≢false (sym (free.all block (record { low = low; high = high; free = none; loose = refl })) ∙ taken))
