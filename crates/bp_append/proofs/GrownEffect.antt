-- What a file's growth by a preparation makes of an image: the file has its new bytes, in its old blocks and those that were taken.
use Rattle.std.proofs.Common.{◌≡◌, ◌⊎◌, ℕ, suc, ◌<◌, List, Bool, get_or, set, sym, ◌∙◌, ap, subst, inl, inr, arith}
use Rattle.std.proofs.lemmas.Bool.{cases_eq}
use Rattle.std.proofs.lemmas.List.FromFn.{get_or-map-range_with_len}
use Rattle.bp_layout.specs.Words.{Image}
use Rattle.bp_layout.specs.Tree.{byte, HasBlock}
use Rattle.bp_layout.specs.Inode.{root_of, size_of}
use Rattle.bp_layout.specs.Members.{Has}
use Rattle.bp_layout.specs.Need.{Change}
use Rattle.bp_layout.specs.Reached.{IsReached, IsLiveBlock}
use Rattle.bp_layout.specs.WellFormed.{IsWellFormed}
use Rattle.bp_layout.specs.WordPaths.{WordPath}
use Rattle.bp_changes.specs.Effects.{ChangesFile}
use Rattle.bp_changes.proofs.ChangesFile as changed
use Rattle.bp_changes.proofs.ChangesOver.{changes_over}
use Rattle.bp_changes.proofs.ReachedOn.{reached_on}
use Rattle.bp_changes.proofs.SameMeaning as meaning
use Rattle.bp_changes.proofs.Resize.{CanResize, resize_changes, size_here, bytes_of_file, block_of_file, block_of_other, block_on_file, block_on_other}
use Rattle.pm_region.specs.Memory.{Memory, current_words}
use Rattle.bp_append.proofs.GrowsTree.{OnlyGrows, GrowsTree, can_resize, committed, wf_mid}
use Rattle.bp_append.proofs.OtherTrees.{other_block_back, other_block_on}

module _ (in_snapshot : ℕ → Bool) (old middle new : Memory) (free_old free_new : List ℕ) (path : WordPath) (n from to place : ℕ) (bytes : List ℕ)
    (grows : GrowsTree in_snapshot old middle new free_old free_new path n from to place bytes) (change : Change)
    (only : OnlyGrows (current_words old) change (suc n) from to) where
  abbrev image : Image
  image = current_words old

  abbrev mid : Image
  mid = current_words middle

  abbrev last : Image
  last = set (current_words middle) place to

  is_last : current_words new ≡ last
  is_last = committed in_snapshot old middle new free_old free_new path n from to place bytes grows change only

  wf : IsWellFormed mid
  wf = wf_mid in_snapshot old middle new free_old free_new path n from to place bytes grows change only

  can : CanResize mid n to place
  can = can_resize in_snapshot old middle new free_old free_new path n from to place bytes grows change only

  resized : ChangesFile mid last (suc n)
  resized = resize_changes mid wf n to place can

  pub grown_changes : ChangesFile image (current_words new) (suc n)
  grown_changes = rw is_last (changes_over image mid last (suc n) grows.can.well grows.prepared.ready.meaning grows.prepared.ready.sizes resized)

  -- the bytes below the new size are those that were prepared
  pub grown_bytes : (o : ℕ) → o < to → byte (current_words new) (root_of (current_words new) (suc n)) o ≡ byte mid (root_of mid (suc n)) o
  grown_bytes o low =
      let below : o < size_of last (suc n) = rw (size_here mid wf n to place can) low in
      rw is_last
      (sym (get_or-map-range_with_len (byte last (root_of last (suc n))) 0 (size_of last (suc n)) o o 0 below (omega arith))
      ∙ ap (λ (xs : List ℕ). get_or xs o 0) (bytes_of_file mid wf n to place can)
      ∙ get_or-map-range_with_len (byte mid (root_of mid (suc n))) 0 to o o 0 low (omega arith))

  -- ---- blocks

  before : (t : ℕ) → IsReached mid t → IsReached image t
  before = meaning.reached-back image mid grows.can.well grows.prepared.ready.meaning

  after : (t : ℕ) → IsReached image t → IsReached mid t
  after = reached_on image mid grows.prepared.ready.meaning

  last_cases : (t b : ℕ) → IsReached mid t → HasBlock last (root_of last t) (size_of last t) b → (t ≡ suc n) ⊎ (t ≡ suc n → ⊥) → IsLiveBlock image b ⊎ Has grows.prepared.taken b
  last_cases t b reached has (inl e) =
      elim (grows.prepared.ready.blocks b (block_of_file mid wf n to place can b (subst (λ x. HasBlock last (root_of last x) (size_of last x) b) e has))) [
        | inl was ↦ inl (record { tree = suc n; reached = grows.can.reached; has = was })
        | inr took ↦ inr took
      ]
  last_cases t b reached has (inr other) =
      inl (record {
        tree = t;
        reached = before t reached;
        has = other_block_back image mid (suc n) from to bytes grows.prepared.taken grows.prepared.ready t (before t reached) other b (block_of_other mid wf n to place can t b reached other has);
      })

  pub grown_live : (b : ℕ) → IsLiveBlock (current_words new) b → IsLiveBlock image b ⊎ Has grows.prepared.taken b
  grown_live b live = go (subst (λ (ws : Image). IsLiveBlock ws b) is_last live)
    where
      go : IsLiveBlock last b → IsLiveBlock image b ⊎ Has grows.prepared.taken b
      go is = last_cases is.tree b (changed.reached-back mid last (suc n) wf resized is.tree is.reached) is.has (cases_eq is.tree (suc n))

  in_last : (b : ℕ) → IsLiveBlock last b → IsLiveBlock (current_words new) b
  in_last b live = subst (λ (ws : Image). IsLiveBlock ws b) (sym is_last) live

  in_file : (b : ℕ) → HasBlock mid (root_of mid (suc n)) to b → IsLiveBlock (current_words new) b
  in_file b has =
      in_last b (record { tree = suc n; reached = changed.reached-on mid last (suc n) wf resized (suc n) (after (suc n) grows.can.reached); has = block_on_file mid wf n to place can b has })

  pub grown_taken : (b : ℕ) → Has grows.prepared.taken b → IsLiveBlock (current_words new) b
  grown_taken b took = in_file b (grows.prepared.ready.has_taken b took)

  pub grown_stays : (b : ℕ) → IsLiveBlock image b → IsLiveBlock (current_words new) b
  grown_stays b live = go (cases_eq live.tree (suc n))
    where
      go : (live.tree ≡ suc n) ⊎ (live.tree ≡ suc n → ⊥) → IsLiveBlock (current_words new) b
      go (inl e) = in_file b (grows.prepared.ready.has_old b (subst (λ x. HasBlock image (root_of image x) (size_of image x) b) e live.has))
      go (inr other) =
          in_last b (record {
            tree = live.tree;
            reached = changed.reached-on mid last (suc n) wf resized live.tree (after live.tree live.reached);
            has = block_on_other mid wf n to place can live.tree b (after live.tree live.reached) other
                (other_block_on image mid (suc n) from to bytes grows.prepared.taken grows.prepared.ready live.tree live.reached other b live.has);
          })
