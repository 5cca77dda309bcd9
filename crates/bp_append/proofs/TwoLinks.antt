-- The two links of a preparation, in any subset, over the image with all that was stored before them.
use Rattle.std.proofs.Common.{◌≡◌, ◌≢◌, ◌⊎◌, ℕ, ◌+◌, ◌*◌, ◌/◌, ◌<◌, List, [], ◌∷◌, set, refl, sym, ◌∙◌, subst, subst₂, arith, inl, inr}
use Rattle.bp_changes.proofs.Formatted.{version_stays}
use Rattle.std.proofs.lemmas.Bool.{cases_eq}
use Rattle.std.proofs.lemmas.List.{length-set}
use Rattle.bp_layout.specs.Words.{Image, word, block_count, height_of}
use Rattle.bp_layout.specs.Tree.{node, HasBlock}
use Rattle.bp_layout.specs.Inode.{root_of, size_of, inode_count, RootPlace}
use Rattle.bp_layout.specs.Reached.{IsReached, IsLiveBlock}
use Rattle.bp_layout.specs.Reached.IsReached.{inode_file}
use Rattle.bp_layout.specs.WellFormed.{IsWellFormed}
use Rattle.bp_layout.specs.Same.{Same}
use Rattle.bp_layout.proofs.SameLaws.{same_self, same_transitive}
use Rattle.bp_layout.proofs.TreeLaws.{node-kept, live_above, live_content}
use Rattle.bp_layout.proofs.Reached.{reached-in_file}
use Rattle.bp_changes.proofs.SameMeaning.{reached-back, well_formed-same}
use Rattle.bp_changes.specs.Links.{CanHang, raised, raised_by, LeadDown, IsChain}
use Rattle.bp_layout.specs.Members.{Each}
use Rattle.bp_changes.specs.SameContent.{IsReadByWords, ReadsAs}
use Rattle.bp_layout.specs.Inode.RootPlace.{top, inode}
use Rattle.pm_epochs.specs.May.{AnyOf}
use Rattle.bp_changes.proofs.Reshape.{Reshapes, keeps, size-same, block-back, reshaped_meaning, reshaped_same}
use Rattle.bp_changes.proofs.RootLink.{root_link_same}
use Rattle.bp_changes.proofs.NullLink as null_link
use Rattle.bp_changes.proofs.ReachedOn.{reached_on}
use Rattle.bp_changes.proofs.Chain.{chain_reads}

-- one root link alone
pub any_root_link : (image : Image) → IsWellFormed image → (t place other : ℕ) → IsReached image t → RootPlace image t place → ReadsAs (IsReadByWords image t) image (size_of image t) (root_of image t) other →
    AnyOf Same image image ((place, other) ∷ [])
any_root_link image wf t place other reached at reads = (same_self image wf, root_link_same image wf t place other reached at reads)

-- both
module _ (old : Image) (wf : IsWellFormed old) (t d k place block : ℕ) (hang : CanHang old t d k place block) (blocks : List ℕ)
    (chain : IsChain old (root_of old t) blocks) (beside : (b : ℕ) → null_link.InSubtree old wf t d k place block hang b → Each (λ c. c ≢ b) blocks) where
  abbrev middle : Image
  middle = set old place (4096 * block)

  abbrev pub reshapes : Reshapes old middle t (root_of old t)
  reshapes = null_link.hung_reshapes old wf t d k place block hang

  pub wf_middle : IsWellFormed middle
  wf_middle = well_formed-same old middle wf (reshaped_meaning old middle wf t (root_of old t) reshapes)

  pub reached_middle : IsReached middle t
  reached_middle = reached_on old middle (reshaped_meaning old middle wf t (root_of old t) reshapes) t hang.reached

  -- the chain's blocks are none of the tree's
  not_live : (blocks : List ℕ) → Each (λ b. IsLiveBlock old b → ⊥) blocks → (b : ℕ) → IsLiveBlock old b → Each (λ c. c ≢ b) blocks
  not_live [] free b live = tt
  not_live (c ∷ blocks) free b live = (λ e. free.0 (subst (IsLiveBlock old) (sym e) live), not_live blocks free.1 b live)

  fresh_middle : (b : ℕ) → HasBlock middle (root_of old t) (size_of old t) b → Each (λ c. c ≢ b) blocks
  fresh_middle b has = elim (null_link.hung_blocks old wf t d k place block hang b has) [
    | inl before ↦ not_live blocks chain.free b (record { tree = t; reached = hang.reached; has = before })
    | inr new ↦ beside b new
  ]

  size_middle : size_of middle t ≡ size_of old t
  size_middle = size-same old middle wf t (root_of old t) reshapes t hang.reached

  root_middle : root_of middle t ≡ root_of old t
  root_middle = null_link.same_root old wf t d k place block hang

  still_free : (b : ℕ) → (IsLiveBlock old b → ⊥) → (HasBlock middle (root_of old t) (size_of old t) b → ⊥) → IsLiveBlock middle b → ⊥
  still_free b free out live = go (cases_eq live.tree t) (block-back old middle wf t (root_of old t) reshapes live.tree b reached live.has)
    where
      reached : IsReached old live.tree
      reached = reached-back old middle wf (reshaped_meaning old middle wf t (root_of old t) reshapes) live.tree live.reached

      go : (live.tree ≡ t) ⊎ (live.tree ≡ t → ⊥) → HasBlock old (root_of old live.tree) (size_of old live.tree) b ⊎ ((live.tree ≡ t) × (IsLiveBlock old b → ⊥)) → ⊥
      go any (inl has) = free (record { tree = live.tree; reached = reached; has = has })
      go any (inr both) =
          let here : HasBlock middle (root_of middle t) (size_of middle t) b = subst (λ x. HasBlock middle (root_of middle x) (size_of middle x) b) both.0 live.has in
          out (subst₂ (λ r s. HasBlock middle r s b) root_middle size_middle here)

  all_free : (some : List ℕ) → Each (λ b. IsLiveBlock old b → ⊥) some → ((b : ℕ) → HasBlock middle (root_of old t) (size_of old t) b → Each (λ c. c ≢ b) some) → Each (λ b. IsLiveBlock middle b → ⊥) some
  all_free [] free out = tt
  all_free (b ∷ some) free out = (still_free b free.0 (λ has. (out b has).0 refl), all_free some free.1 (λ c has. (out c has).1))

  lead_down : (root : ℕ) (some : List ℕ) → Each (λ b. IsLiveBlock old b → ⊥) some → LeadDown old root some → LeadDown middle root some
  lead_down root [] free down = tt
  lead_down root (b ∷ some) free down =
      (null_link.free_stays old wf t d k place block hang b 0 (omega arith) (λ present. free.0) ∙ down.0, lead_down (raised root b) some free.1 down.1)

  in_range : (some : List ℕ) → Each (λ b. b < block_count old) some → Each (λ b. b < block_count middle) some
  in_range [] low = tt
  in_range (b ∷ some) low = (rw (length-set old place (4096 * block)) low.0, in_range some low.1)

  chain_middle : IsChain middle (root_of old t) blocks
  chain_middle = record {
    low = rw (version_stays old middle reshapes.has_magic) chain.low;
    in_range = in_range blocks chain.in_range;
    not_null = chain.not_null;
    free = all_free blocks chain.free fresh_middle;
    apart = chain.apart;
    down = lead_down (root_of old t) blocks chain.free chain.down;
  }

  pub reads_middle : ReadsAs (IsReadByWords middle t) middle (size_of middle t) (root_of middle t) (raised_by (root_of old t) blocks)
  reads_middle = rw (root_middle, size_middle) (chain_reads (IsReadByWords middle t) middle (size_of old t) (root_of old t) blocks reshapes.sound chain_middle fresh_middle)

  reads_old : ReadsAs (IsReadByWords old t) old (size_of old t) (root_of old t) (raised_by (root_of old t) blocks)
  reads_old = chain_reads (IsReadByWords old t) old (size_of old t) (root_of old t) blocks (wf.sound t hang.reached) chain
      (λ b has. not_live blocks chain.free b (record { tree = t; reached = hang.reached; has = has }))

  pub place_middle : (at : ℕ) → RootPlace old t at → RootPlace middle t at
  place_middle at (top first two) = absurd (null_link.inode old wf t d k place block hang first)
  place_middle at (inode some stands) =
      let two : word middle 2 ≡ word old 2 = null_link.low_words old wf t d k place block hang 2 (omega arith) in
      let in_file : t < inode_count old = reached-in_file old wf t hang.reached in
      let below : 8 * (8 * t + 1) < size_of old 0 = omega (arith, in_file) in
      let same : node middle (root_of old 0) (height_of (root_of old 0)) ((8 * t + 1) / 512) ≡ node old (root_of old 0) (height_of (root_of old 0)) ((8 * t + 1) / 512) =
      node-kept old middle (root_of old 0) (size_of old 0) (keeps old middle wf t (root_of old t) reshapes 0 inode_file (λ e. some (sym e)))
      (height_of (root_of old 0)) ((8 * t + 1) / 512) (live_above _ _ (height_of (root_of old 0)) (8 * t + 1) (live_content _ _ (8 * t + 1) below)) in
      inode some (record { present = rw (two, same) stands.present; at = rw (two, same) stands.at })

  pub any_two_links : (at : ℕ) → RootPlace old t at → AnyOf Same old old ((place, 4096 * block) ∷ (at, raised_by (root_of old t) blocks) ∷ [])
  any_two_links at stands =
      let one : Same old middle = reshaped_same old middle wf t (root_of old t) reshapes in (
        any_root_link old wf t at (raised_by (root_of old t) blocks) hang.reached stands reads_old,
        (
          one,
          same_transitive _ _ _ one (root_link_same middle wf_middle t at (raised_by (root_of old t) blocks) reached_middle (place_middle at stands) reads_middle),
        ),
      )
