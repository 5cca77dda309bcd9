-- The whole preparation of a tree without blocks: nobody sees it, and the tree is ready.
use Rattle.std.proofs.Common.{◌≡◌, ◌≢◌, ◌⊎◌, ℕ, ◌+◌, ◌*◌, ◌/◌, ◌<◌, ◌≤◌, List, [], ◌∷◌, length, Bool, refl, sym, ◌∙◌, ap, subst, subst₂, arith, inl, inr, get_or-set_other, le_trans}
use Rattle.bp_append.proofs.LaidLaws.{given-before}
use Rattle.bp_append.proofs.NeedLaws.{tall_most}
use Rattle.bp_changes.proofs.Formatted.{version_stays}
use Rattle.bp_layout.specs.Formatted.{version_of}
use Rattle.std.proofs.lemmas.Bool.{cases_eq}
use Rattle.bp_layout.proofs.MemberLaws.{each-has}
use Rattle.bp_layout.specs.Words.{Image, block_of, height_of}
use Rattle.bp_layout.specs.Tree.{byte, node, HasBlock, IsFull, IsLivePointer}
use Rattle.bp_layout.specs.Inode.{root_of, size_of, RootPlace}
use Rattle.bp_layout.specs.Reached.{IsReached, IsLiveBlock, IsFreeBlock}
use Rattle.bp_layout.specs.WellFormed.{IsWellFormed}
use Rattle.bp_changes.specs.SameContent.{IsReadByWords, ReadsAs}
use Rattle.bp_changes.specs.SameMeaning.{SameMeaning}
use Rattle.bp_changes.specs.Harmless.{IsHarmless, Agrees}
use Rattle.bp_layout.specs.Members.{Has, Each}
use Rattle.bp_changes.proofs.Frame.{root-kept, size-same}
use Rattle.bp_changes.proofs.Roots.{null_tree}
use Rattle.bp_changes.specs.Performs.IsOpen.{in_taken}
use Rattle.pm_region.specs.Memory.{Memory, current_words}
use Rattle.bp_append.specs.Built.{InBlocks}
use Rattle.bp_append.specs.Filled.{IsUsable}
use Rattle.bp_append.specs.Stores.{prep_stores}
use Rattle.pm_region.proofs.MayLaws.{may_weaker, may_frame, each_after}
use Rattle.bp_append.proofs.FillLaws.{each_left, usable_left, block_row}
use Rattle.bp_append.proofs.TwoLinks.{any_root_link}
use Rattle.bp_append.specs.Given.{given, given_at}
use Rattle.bp_append.specs.Grown.{Roots, Makes}
use Rattle.bp_append.specs.Prepared.{CanPrepare, PreparesWith, need_for}
use Rattle.bp_append.proofs.ChildrenLaws.{built_as}
use Rattle.bp_append.proofs.PrepLaws.{open_root, not_live, in_free_harmless, no_root_in_free, agrees_of, words_new, epochs_taking, meaning_middle, wf_middle, reached_middle, place_middle, still_free}
use Rattle.bp_append.proofs.ReadyLaws.{built_reads, null_byte, HasRootReady, prepared}

by_old : (old new : Image) (t : ℕ) → SameMeaning old new → IsReached old t → IsReadByWords new t → IsReadByWords old t
by_old old new t same reached (inl e) = inl e
by_old old new t same reached (inr kind) = inr (sym (same.kind t reached) ∙ kind)

pub full_by_words : (old : Image) → IsWellFormed old → (t : ℕ) → IsReached old t → IsReadByWords old t → IsFull old (root_of old t) (size_of old t)
full_by_words old wf t reached (inl e) = subst (λ u. IsFull old (root_of old u) (size_of old u)) (sym e) wf.full_inode_file
full_by_words old wf t reached (inr kind) = wf.full_directories t reached kind

-- ---- a tree that had no blocks

module _ (in_snapshot : ℕ → Bool) (first new : Memory) (free_old free_new : List ℕ) (t place from to : ℕ) (path raw : List ℕ)
    (can : CanPrepare in_snapshot first free_old t path from to) (at : RootPlace (current_words first) t place)
    (makes : Makes first new free_old free_new place (root_of (current_words first) t) (size_of (current_words first) t) from to raw)
    (null : (size_of (current_words first) t ≡ 0) ⊎ (block_of (root_of (current_words first) t) ≡ 0)) where
  abbrev old : Image
  old = current_words first

  abbrev middle : Image
  middle = current_words makes.between

  abbrev made : Roots first makes.between free_old free_new (root_of (current_words first) t) (size_of (current_words first) t) from to raw makes.top
  made = makes.made

  order : size_of old t ≤ to
  order = le_trans can.past_end can.order

  taken_are : Each (IsFreeBlock old in_snapshot) made.taken
  taken_are = each_left _ made.taken free_new (rw made.takes at can.are_free)

  taken_free : Each (λ b. IsLiveBlock old b → ⊥) made.taken
  taken_free = not_live old in_snapshot made.taken taken_are

  usable : IsUsable (length first.base / 512) made.taken
  usable = usable_left (length first.base / 512) free_old made.taken free_new made.takes can.usable

  harmless : (w v : ℕ) → InBlocks made.taken w → IsHarmless old w v
  harmless w v m = in_free_harmless old can.well made.taken usable.low taken_free w v m

  agrees : Agrees old middle
  agrees = agrees_of old middle (each_after (IsHarmless old) 0 _ first makes.between (may_weaker _ (IsHarmless old) 0 _ first makes.between harmless made.stores.part))

  -- it has no byte and no block
  none_below : IsReadByWords old t → size_of old t ≡ 0
  none_below by = elim null [
    | inl e ↦ e
    | inr no_block ↦ elim (cases_eq (size_of old t) 0) [
      | inl e ↦ e
      | inr some ↦ absurd (full_by_words old can.well t can.reached by 0 0 (record { level = height_of (root_of old t); height = omega arith; live = omega (arith, some) }) (null_tree old (root_of old t) no_block 0 0))
    ]
  ]

  no_block_old : (b : ℕ) → HasBlock old (root_of old t) (size_of old t) b → ⊥
  no_block_old b has = elim null [
    | inl e ↦ omega (arith, has.pointer.live, e)
    | inr no_block ↦ has.not_null (sym has.named ∙ null_tree old (root_of old t) no_block has.depth has.index)
  ]

  no_node : (d k : ℕ) → IsLivePointer (root_of old t) (size_of old t) d k → node old (root_of old t) d k ≢ 0 → ⊥
  no_node d k live present = elim null [
    | inl e ↦ omega (arith, live.live, e)
    | inr no_block ↦ present (null_tree old (root_of old t) no_block d k)
  ]

  old_byte : (o : ℕ) → o < size_of old t → byte old (root_of old t) o ≡ 0
  old_byte o low = elim null [ inl e ↦ absurd (omega (arith, low, e)) | inr no_block ↦ null_byte old (root_of old t) o no_block ]

  sizes : size_of middle t ≡ size_of old t
  sizes = size-same old middle can.well agrees t can.reached

  roots_stay : (u : ℕ) → IsReached old u → root_of middle u ≡ root_of old u
  roots_stay u r =
      root-kept old middle can.well agrees u r (λ p there. may_frame _ 0 _ first makes.between made.stores.part p (λ v m. no_root_in_free old can.well made.taken usable.low taken_free u p r there m))

  roots : root_of middle t ≡ root_of old t
  roots = roots_stay t can.reached

  free_middle : (taken : List ℕ) → Each (λ b. IsLiveBlock old b → ⊥) taken → Each (λ b. IsLiveBlock middle b → ⊥) taken
  free_middle [] all = tt
  free_middle (b ∷ taken) all = (still_free old middle can.well agrees t place can.reached at b all.0, free_middle taken all.1)

  meaning : SameMeaning old middle
  meaning = meaning_middle old middle can.well agrees t place can.reached at

  null_ready : HasRootReady old middle t place makes.top
  null_ready = record {
    meaning = meaning;
    well = wf_middle old middle can.well agrees t place can.reached at;
    reached = reached_middle old middle can.well agrees t place can.reached at;
    at = place_middle old middle can.well agrees t place can.reached at;
    reads = subst₂ (λ z r. ReadsAs (IsReadByWords middle t) middle z r makes.top) (sym sizes) (sym roots)
        (built_reads (IsReadByWords middle t) middle (size_of old t) to (root_of old t) makes.top (given_at from raw 0) made.taken (from ≡ 0)
        (λ by. none_below (by_old old middle t meaning can.reached by)) order null made.tree (free_middle made.taken taken_free)
        (λ i low. given-before from raw (0 + i) (omega (arith, low, can.past_end)))
        (rw (made.height, version_stays old middle meaning.trees.has_magic) (tall_most (version_of old) (root_of old t) (size_of old t) to (can.well.low t can.reached) can.fits)));
    sizes = λ u r. size-same old middle can.well agrees u r;
    roots = λ u r away. roots_stay u r;
  }

  pub null_prepared : PreparesWith in_snapshot first new free_old free_new t from to raw
  null_prepared = record {
    taken = made.taken;
    takes = made.takes;
    counted = made.counted;
    adds = epochs_taking in_snapshot first makes.between new made.taken (λ w v. InBlocks made.taken w) (512 * length made.taken) ((place, makes.top) ∷ []) can.well made.stores harmless makes.ends
        (prep_stores (size_of old t) from to (need_for old t from to)) (few _ _ _ made.counted) (any_root_link middle null_ready.well t place makes.top null_ready.reached null_ready.at null_ready.reads)
        usable.apart taken_are (λ w v m. in_taken m) (open_root old can.well in_snapshot t place can.reached at (can.loose.root place at) made.taken, tt);
    ready = rw (words_new makes.between new ((place, makes.top) ∷ []) makes.ends)
        (prepared old middle can.well t place makes.top from to raw made.taken can.reached at null_ready taken_free (given_at from raw 0) (from ≡ 0)
        (built_as middle makes.top to (given_at from raw 0) (given_at from raw 0) (Has made.taken) (λ b. HasBlock old (root_of old t) (size_of old t) b ⊎ Has made.taken b) (from ≡ 0) (from ≡ 0)
        (λ i low. refl) (λ b m. inr m) (λ b m. elim m [ inl has ↦ absurd (no_block_old b has) | inr taken ↦ taken ]) (λ p. p) made.tree)
        (λ o low. given-before from raw (0 + o) (omega (arith, low, can.past_end)) ∙ sym (old_byte o low))
        (λ o above below. ap (given from raw) (zero_plus o))
        (λ by. can.by_words by ∙ none_below by)
        made.height can.fits order
        (λ u b k r away has few beyond. get_or-set_other middle place (512 * b + k) makes.top 0 beyond
        ∙ may_frame _ 0 _ first makes.between made.stores.part (512 * b + k) (λ v m. each-has (λ c. IsLiveBlock old c → ⊥) made.taken b taken_free (subst (Has made.taken) (block_row b k few) m) (record { tree = u; reached = r; has = has })))
        (λ d k live present. absurd (no_node d k live present)));
  }
    where
      zero_plus : (o : ℕ) → 0 + o ≡ o
      zero_plus o = omega arith

      few : (taken needed past_end : ℕ) → taken ≡ needed → 512 * taken + 1 ≤ 512 * needed + past_end + 2
      few taken needed past_end e = omega (arith, e)
