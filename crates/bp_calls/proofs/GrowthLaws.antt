-- What stays where the inode file gets one more leaf: trees, entries and blocks.
use Rattle.std.proofs.Common.{◌≡◌, ◌≢◌, ◌⊎◌, ℕ, Bool, zero, suc, List, ◌==◌, refl, sym, ◌∙◌, ap, subst, subst₂, inl, inr, arith}
use Rattle.std.proofs.lemmas.Bool.{cases_eq}
use Rattle.bp_layout.specs.Words.{Image, block_of}
use Rattle.bp_layout.specs.Tree.{node, HasBlock, IsLivePointer}
use Rattle.bp_layout.specs.Inode.{kind_of, root_of, size_of}
use Rattle.bp_layout.specs.Directory.{ino_at, entry_count, empty_slot}
use Rattle.bp_layout.specs.Members.{Has}
use Rattle.bp_layout.specs.Reached.{IsReached, IsLiveBlock, IsFreeBlock}
use Rattle.bp_layout.specs.Reached.IsReached.{inode_file}
use Rattle.bp_layout.specs.WellFormed.{IsWellFormed}
use Rattle.bp_layout.proofs.Finding.{find-same}
use Rattle.bp_layout.proofs.TreeLaws.{tree_word-zero, live_pointer_word}
use Rattle.bp_changes.proofs.ReachedOn.{reached_on}
use Rattle.bp_changes.proofs.SameMeaning.{reached-back, well_formed-same}
use Rattle.bp_calls.specs.Growth.{AddsInodes}

module _ (old new : Image) (taken : List ℕ) (wf : IsWellFormed old) (adds : AddsInodes old new taken) where
  pub longer_well_formed : IsWellFormed new
  longer_well_formed = well_formed-same old new wf adds.meaning

  pub longer_reached : (t : ℕ) → IsReached old t → IsReached new t
  longer_reached = reached_on old new adds.meaning

  pub shorter_reached : (t : ℕ) → IsReached new t → IsReached old t
  shorter_reached = reached-back old new wf adds.meaning

  -- ---- the other trees

  pub longer_size : (u : ℕ) → IsReached old u → u ≢ 0 → size_of new u ≡ size_of old u
  longer_size zero reached other = absurd (other refl)
  longer_size (suc u) reached other = adds.meaning.size u reached

  pub longer_node : (u d k : ℕ) → IsReached old u → u ≢ 0 → IsLivePointer (root_of old u) (size_of old u) d k → node new (root_of new u) d k ≡ node old (root_of old u) d k
  longer_node u zero k reached other live = ap block_of (tree_word-zero new (root_of new u) k ∙ adds.roots u reached other ∙ sym (tree_word-zero old (root_of old u) k))
  longer_node u (suc d) k reached other live = ap block_of (adds.words u d k reached other (live_pointer_word _ _ (suc d) k live))

  pub longer_block : (u b : ℕ) → IsReached old u → u ≢ 0 → HasBlock old (root_of old u) (size_of old u) b → HasBlock new (root_of new u) (size_of new u) b
  longer_block u b reached other has = record {
    depth = has.depth;
    index = has.index;
    pointer = subst₂ (λ r s. IsLivePointer r s has.depth has.index) (sym (adds.roots u reached other)) (sym (longer_size u reached other)) has.pointer;
    named = longer_node u has.depth has.index reached other has.pointer ∙ has.named;
    not_null = has.not_null;
  }

  pub shorter_block : (u b : ℕ) → IsReached old u → u ≢ 0 → HasBlock new (root_of new u) (size_of new u) b → HasBlock old (root_of old u) (size_of old u) b
  shorter_block u b reached other has =
      let pointer : IsLivePointer (root_of old u) (size_of old u) has.depth has.index =
      subst₂ (λ r s. IsLivePointer r s has.depth has.index) (adds.roots u reached other) (longer_size u reached other) has.pointer in
      record {
        depth = has.depth;
        index = has.index;
        pointer = pointer;
        named = sym (longer_node u has.depth has.index reached other pointer) ∙ has.named;
        not_null = has.not_null;
      }

  -- ---- blocks

  pub longer_live : (b : ℕ) → IsLiveBlock new b → IsLiveBlock old b ⊎ Has taken b
  longer_live b live = go (cases_eq live.tree 0)
    where
      before : IsReached old live.tree
      before = shorter_reached live.tree live.reached

      go : (live.tree ≡ 0) ⊎ (live.tree ≡ 0 → ⊥) → IsLiveBlock old b ⊎ Has taken b
      go (inl e) =
          elim (adds.blocks b (subst (λ t. HasBlock new (root_of new t) (size_of new t) b) e live.has)) [
            | inl was ↦ inl (record { tree = 0; reached = inode_file; has = was })
            | inr took ↦ inr took
          ]
      go (inr other) = inl (record { tree = live.tree; reached = before; has = shorter_block live.tree b before other live.has })

  pub longer_stays : (b : ℕ) → IsLiveBlock old b → IsLiveBlock new b
  longer_stays b live = go (cases_eq live.tree 0)
    where
      go : (live.tree ≡ 0) ⊎ (live.tree ≡ 0 → ⊥) → IsLiveBlock new b
      go (inl e) = record { tree = 0; reached = inode_file; has = adds.has_old b (subst (λ t. HasBlock old (root_of old t) (size_of old t) b) e live.has) }
      go (inr other) = record { tree = live.tree; reached = longer_reached live.tree live.reached; has = longer_block live.tree b live.reached other live.has }

  pub longer_taken : (b : ℕ) → Has taken b → IsLiveBlock new b
  longer_taken b took = record { tree = 0; reached = inode_file; has = adds.has_taken b took }

  -- what is free now was free, and was not taken
  pub longer_free : {in_snapshot : ℕ → Bool} (b : ℕ) → IsFreeBlock new in_snapshot b → IsFreeBlock old in_snapshot b × (Has taken b → ⊥)
  longer_free b free = (
    record { low = free.low; high = rw adds.meaning.trees.whole at free.high; free = λ live. free.free (longer_stays b live); loose = free.loose },
    λ took. free.free (longer_taken b took),
  )

  -- ---- the slots of a directory

  module _ (i : ℕ) (reached : IsReached old i) (kind : kind_of old i ≡ 2) where
    pub longer_kind : kind_of new i ≡ 2
    longer_kind = adds.meaning.kind i reached ∙ kind

    pub no_inode_file : i ≢ 0
    no_inode_file e = let two : kind_of old 0 ≡ 2 = subst (λ x. kind_of old x ≡ 2) e kind in omega (arith, two)

    pub longer_empty_slot : empty_slot new i ≡ empty_slot old i
    longer_empty_slot =
        rw (longer_size i reached no_inode_file)
        (find-same (λ slot. ino_at new i slot == 0) (λ slot. ino_at old i slot == 0) 0 (entry_count old i)
        (λ k low high. ap (λ n. n == 0) (adds.meaning.ino i k reached kind (omega (arith, high)))))
