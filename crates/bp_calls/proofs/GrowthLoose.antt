-- What is not in the snapshot stays so where the inode file gets one more leaf, and neither is that leaf.
use Rattle.std.proofs.Common.{◌≡◌, ◌≢◌, ℕ, Bool, false, ◌+◌, ◌-◌, ◌*◌, ◌/◌, ◌%◌, ◌<◌, ◌≤◌, List, refl, sym, ◌∙◌, ap, subst, arith, inl, inr, Some}
use Rattle.bp_append.specs.Prepared.{HasLooseEnd}
use Rattle.bp_append.proofs.NeedLaws.{tall_enough}
use Rattle.bp_layout.specs.Directory.{entry_count, empty_slot}
use Rattle.bp_layout.specs.Inode.{RootPlace, inode_count, kind_of, root_of, size_of}
use Rattle.bp_layout.specs.Inode.RootPlace.{top, inode}
use Rattle.bp_layout.specs.Members.{Has}
use Rattle.bp_layout.specs.Reached.{IsReached}
use Rattle.bp_layout.specs.Reached.IsReached.{inode_file}
use Rattle.bp_layout.specs.Tree.{node, span, HasBlock, IsLivePointer}
use Rattle.bp_layout.specs.WellFormed.{IsWellFormed}
use Rattle.bp_layout.specs.Words.{Image, height_of}
use Rattle.bp_layout.proofs.Reached.{reached-in_file}
use Rattle.bp_calls.specs.Growth.{AddsInodes}
use Rattle.bp_calls.specs.Steps.{HasLooseEntry, HasLooseWord}
use Rattle.bp_calls.proofs.GrowthLaws.{longer_empty_slot, longer_node, longer_size, longer_well_formed}
use Rattle.bp_calls.proofs.Refusals.{found_empty}
use Rattle.bp_calls.proofs.Trees.{live_leaf}

module _ (old new : Image) (taken : List ℕ) (wf : IsWellFormed old) (adds : AddsInodes old new taken) (in_snapshot : ℕ → Bool) (free : (b : ℕ) → Has taken b → in_snapshot b ≡ false) where
  abbrev low : ℕ
  low = height_of (root_of old 0)

  abbrev high : ℕ
  high = height_of (root_of new 0)

  some : 0 < size_of old 0
  some = let least = wf.some_inodes in omega (arith, least)

  rises : low ≤ high
  rises = subst (λ h. low ≤ h) (sym adds.height) (tall_enough (root_of old 0) (size_of old 0) (size_of new 0) some)

  -- a leaf that the file had stands where it stood
  leaf_stays : (leaf : ℕ) → 4096 * leaf < size_of old 0 → node new (root_of new 0) high leaf ≡ node old (root_of old 0) low leaf
  leaf_stays leaf below =
      let live : IsLivePointer (root_of old 0) (size_of old 0) low leaf = live_leaf (root_of old 0) (size_of old 0) leaf below in
      let depth : high - low + low ≡ high = omega (arith, rises) in
      subst (λ d. node new (root_of new 0) d leaf ≡ node old (root_of old 0) low leaf) depth (adds.nodes low leaf live (wf.full_inode_file low leaf live))

  -- ---- the new leaf

  module _ (leaf : ℕ) (past_end : size_of old 0 ≤ 4096 * leaf) (below : 4096 * leaf < size_of new 0) where
    abbrev here : ℕ
    here = node new (root_of new 0) high leaf

    wf_new : IsWellFormed new
    wf_new = longer_well_formed old new taken wf adds

    live : IsLivePointer (root_of new 0) (size_of new 0) high leaf
    live = live_leaf (root_of new 0) (size_of new 0) leaf below

    present : here ≢ 0
    present = wf_new.full_inode_file high leaf live

    not_old : HasBlock old (root_of old 0) (size_of old 0) here → ⊥
    not_old was =
        let depth : ℕ = high - low + was.depth in
        let stays : node new (root_of new 0) depth was.index ≡ here = adds.nodes was.depth was.index was.pointer (λ none. present (sym was.named ∙ none)) ∙ was.named in
        let size : size_of old 0 ≤ size_of new 0 = let more = adds.size in omega (arith, more) in
        let also : IsLivePointer (root_of new 0) (size_of new 0) depth was.index =
        record { level = was.pointer.level; height = omega (arith, was.pointer.height, rises); live = let before = was.pointer.live in omega (arith, before, size) } in
        let same = (wf_new.sound 0 inode_file).once depth was.index high leaf also live (λ none. present (sym stays ∙ none)) stays in
        let level : was.pointer.level ≡ 0 = omega (arith, same.0, was.pointer.height, rises) in
        let less : was.index * span 0 < size_of old 0 = subst (λ l. was.index * span l < size_of old 0) level was.pointer.live in
        omega (arith, less, same.1, past_end)

    pub new_leaf_loose : in_snapshot here ≡ false
    new_leaf_loose = elim (adds.blocks here (record { depth = high; index = leaf; pointer = live; named = refl; not_null = present })) [
      | inl was ↦ absurd (not_old was)
      | inr took ↦ free here took
    ]

  -- so an inode that the file got is in a block that is not in the snapshot
  pub new_inode_loose : (j : ℕ) → inode_count old ≤ j → j < inode_count new → HasLooseWord new in_snapshot 0 (8 * j + 0)
  new_inode_loose j past_end below place stands =
      let whole : size_of old 0 % 4096 ≡ 0 = wf.inode_blocks in
      let leaf : node new (root_of new 0) high ((8 * j + 0) / 512) ≡ place / 512 = omega (arith, stands.at) in
      subst (λ b. in_snapshot b ≡ false) leaf (new_leaf_loose ((8 * j + 0) / 512) (omega (arith, past_end, whole)) (omega (arith, below)))

  -- ---- a directory

  module _ (i : ℕ) (reached : IsReached old i) (kind : kind_of old i ≡ 2) (other : i ≢ 0) (loose : HasLooseEntry old in_snapshot i) where
    same_slot : empty_slot new i ≡ empty_slot old i
    same_slot = longer_empty_slot old new taken wf adds i reached kind

    slot_on : (s : ℕ) → empty_slot new i ≡ Some s → HasLooseWord new in_snapshot i (32 * s + 0)
    slot_on s found place stands =
        let was : empty_slot old i ≡ Some s = sym same_slot ∙ found in
        let below : s < entry_count old i = (found_empty old i s was).0 in
        let same : node new (root_of new i) (height_of (root_of new i)) ((32 * s + 0) / 512) ≡ node old (root_of old i) (height_of (root_of old i)) ((32 * s + 0) / 512) =
        ap (λ r. node new (root_of new i) (height_of r) ((32 * s + 0) / 512)) (adds.roots i reached other)
        ∙ longer_node old new taken wf adds i (height_of (root_of old i)) ((32 * s + 0) / 512) reached other (live_leaf (root_of old i) (size_of old i) ((32 * s + 0) / 512) (omega (arith, below))) in
        loose.slot s was place (record { present = λ none. stands.present (same ∙ none); at = ap (λ b. 512 * b + (32 * s + 0) % 512) (sym same) ∙ stands.at })

    module _ (ends : HasLooseEnd old in_snapshot i) where
      nodes_on : (d k : ℕ) → (live : IsLivePointer (root_of new i) (size_of new i) d k) → node new (root_of new i) d k ≢ 0 → size_of new i < k * span live.level + span live.level → in_snapshot (node new (root_of new i) d k) ≡ false
      nodes_on d k live present high_end =
          let height : d + live.level ≡ height_of (root_of old i) = live.height ∙ ap height_of (adds.roots i reached other) in
          let size : size_of new i ≡ size_of old i = longer_size old new taken wf adds i reached other in
          let before : IsLivePointer (root_of old i) (size_of old i) d k = record { level = live.level; height = height; live = subst (λ z. k * span live.level < z) size live.live } in
          let same : node new (root_of new i) d k ≡ node old (root_of old i) d k = longer_node old new taken wf adds i d k reached other before in
          subst (λ b. in_snapshot b ≡ false) (sym same) (ends.nodes d k before (λ none. present (same ∙ none)) (subst (λ z. z < k * span live.level + span live.level) size high_end))

      root_on : (place : ℕ) → RootPlace new i place → i ≢ 0 → in_snapshot (place / 512) ≡ false
      root_on place (top none two) also = absurd (also none)
      root_on place (inode also stands) some_tree =
          let inside : i < inode_count old = reached-in_file old wf i reached in
          let same : node new (root_of new 0) high ((8 * i + 1) / 512) ≡ node old (root_of old 0) low ((8 * i + 1) / 512) = leaf_stays ((8 * i + 1) / 512) (omega (arith, inside)) in
          ends.root place (inode also (record { present = λ none. stands.present (same ∙ none); at = ap (λ b. 512 * b + (8 * i + 1) % 512) (sym same) ∙ stands.at })) some_tree

      end_on : HasLooseEnd new in_snapshot i
      end_on = record { nodes = nodes_on; root = root_on }

    pub loose_entry_on : HasLooseEntry new in_snapshot i
    loose_entry_on = record { slot = slot_on; past_end = λ none. end_on (loose.past_end (sym same_slot ∙ none)) }
