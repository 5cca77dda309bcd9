-- What a new name needs where no inode is free: what it needs with one, and the growth of the inode file. Its cover, as the inode file is then.
use Rattle.std.proofs.Common.{◌≡◌, ◌≢◌, ◌⊎◌, ℕ, zero, suc, ◌+◌, ◌-◌, ◌*◌, ◌/◌, ◌%◌, ◌<◌, ◌≤◌, [], ◌∷◌, ◌++◌, length, fold, Bool, true, ◌==◌, Option, None, Some, if◌then◌else◌, refl, sym, ◌∙◌, ap, ap₂, subst, suc-ne-zero, inl, inr, arith, le_trans}
use Rattle.bp_limits.specs.declared.version.Version.TheVariants.{One}
use Rattle.bp_limits.proofs.Versions.{size_most}
use Rattle.std.proofs.lemmas.Bool.{cases_lt, ne_eqb}
use Rattle.bp_append.proofs.NeedLaws.{tall_fits, tall_low}
use Rattle.bp_append.proofs.TallyLaws.{span-suc}
use Rattle.bp_layout.specs.Words.{Image, block_of, height_of}
use Rattle.bp_layout.specs.Tree.{span, covered, IsLivePointer, IsLiveWord, IsSound}
use Rattle.bp_layout.specs.Inode.{kind_of, root_of, size_of, inode_count}
use Rattle.bp_layout.specs.Directory.{empty_slot, ino_at}
use Rattle.bp_layout.specs.Need.{Beyond, new_entry, height_after, inode_word_path, entry_path, entered, touched, is_there, is_there_after, copied, cover, need, path_number}
use Rattle.bp_layout.specs.Need.Change.{enters}
use Rattle.bp_layout.specs.Need.Entrant.{grown, linked}
use Rattle.bp_layout.specs.Nodes.{height_with}
use Rattle.bp_layout.specs.Reached.{IsReached}
use Rattle.bp_layout.specs.Reached.IsReached.{inode_file}
use Rattle.bp_layout.specs.WellFormed.{IsWellFormed}
use Rattle.bp_layout.specs.WordPaths.{WordPath, digits, inode_path, tree_path}
use Rattle.bp_layout.proofs.Finding.{find-passes}
use Rattle.bp_layout.proofs.Reached.{reached-in_file}
use Rattle.bp_layout.proofs.TreeLaws.{live_above, live_content, live_pointer_word, tree_word-zero}
use Rattle.bp_limits.specs.Limits.{block_size}
use Rattle.bp_read.proofs.Digits.{length-digits}
use Rattle.bp_read.proofs.ExistingPaths.{AllThere, there-append, reads-inodes, reads-tree, node-there, number-digits, cover-one, copied-one}
use Rattle.bp_calls.specs.Growth.{growth_need}
use Rattle.bp_calls.proofs.GrowthNodes.{grown_there}
use Rattle.bp_calls.proofs.GrowthRoom.{inodes_end_fits}
use Rattle.bp_calls.proofs.NeedLaws.{none_copied}

-- where the pointers above a word are there, so is its path
digits_there : (there : WordPath → Bool) (root size : ℕ) (base : WordPath) → ((d k : ℕ) → IsLivePointer root size d k → there (base ++ digits d k) ≡ true) →
    (d k : ℕ) → IsLiveWord root size d k → AllThere there base (digits d k)
digits_there there root size base all zero k live = tt
digits_there there root size base all (suc d) k live =
    let up : IsLivePointer root size d (k / 512) = live_above root size d k live in
    there-append there base (digits d (k / 512)) (k % 512 ∷ []) (digits_there there root size base all d (k / 512) (live_pointer_word root size d (k / 512) up)) (all d (k / 512) up, tt)

-- what a tree of a height covers a higher one covers
span_up : (low more : ℕ) → span low ≤ span (low + more)
span_up low zero = let same : low + 0 ≡ low = omega arith in rw same (omega arith)
span_up low (suc more) =
    let up : low + suc more ≡ suc (low + more) = omega arith in
    let wider : span (suc (low + more)) ≡ 512 * span (low + more) = span-suc (low + more) in
    rw up (omega (arith, span_up low more, wider))

-- a node over the root is the first of its level
first_over : (k level size height : ℕ) → size ≤ span height → height < level → k * span level < size → k ≡ 0
first_over zero level size height fits over live = refl
first_over (suc k) level size height fits over live =
    let parts : height + (level - height) ≡ level = omega (arith, over) in
    let up : span height ≤ span level = subst (λ l. span height ≤ span l) parts (span_up height (level - height)) in
    let s : ℕ = span level in
    absurd (omega (arith, live, up, fits))

module _ (image : Image) (wf : IsWellFormed image) (n : ℕ) (reached : IsReached image (suc n)) (kind : kind_of image (suc n) ≡ 2) where
  abbrev i : ℕ
  i = suc n

  abbrev there : WordPath → Bool
  there = is_there_after image (enters i grown)

  abbrev heights : ℕ → ℕ
  heights = height_after image (enters i grown)

  -- the inode file is so long then, and so high
  abbrev end : ℕ
  end = size_of image 0 + block_size

  abbrev height : ℕ
  height = height_with (root_of image 0) (size_of image 0) end

  -- four words that say just that
  abbrev longer : Image
  longer = 0 ∷ 0 ∷ height ∷ end ∷ []

  in_file : i < inode_count image
  in_file = reached-in_file image wf i reached

  height_is : height_of height ≡ height
  height_is = let low = tall_low (root_of image 0) (size_of image 0) end (wf.sound 0 inode_file).low in omega (arith, low)

  fits : end ≤ covered (suc (height_of height))
  fits = rw height_is (tall_fits (root_of image 0) (size_of image 0) end (le_trans (inodes_end_fits image wf) (size_most One)))

  -- ---- the inode file

  top_with : (found : Option ℕ) →
      fold (λ h (b : Beyond). if b.tree == 0 then height_with (root_of image 0) (size_of image 0) b.to else h) (height_of (root_of image 0)) (new_entry image i found ++ record { tree = 0; from = size_of image 0; to = end } ∷ []) ≡ height
  top_with None = refl
  top_with (Some slot) = refl

  top : heights 0 ≡ height_of height
  top = top_with (empty_slot image i) ∙ sym height_is

  present : block_of (root_of image 0) ≢ 0
  present null =
      let live : IsLivePointer (root_of image 0) (size_of image 0) 0 0 = record { level = height_of (root_of image 0); height = omega arith; live = omega (arith, wf.some_inodes) } in
      wf.full_inode_file 0 0 live (ap block_of (tree_word-zero image (root_of image 0) 0) ∙ null)

  -- the node of a level that covers old inodes is there: it was, or it is made over the root
  node_is : (level k : ℕ) → level ≤ height_of height → k * span level < size_of image 0 → is_there image (enters i grown) (0, record { level = level; index = k }) ≡ true
  node_is level k low live = go (cases_lt (height_of (root_of image 0)) level)
    where
      go : (height_of (root_of image 0) < level) ⊎ (level ≤ height_of (root_of image 0)) → is_there image (enters i grown) (0, record { level = level; index = k }) ≡ true
      go (inl over) =
          let first : k ≡ 0 = first_over k level (size_of image 0) (height_of (root_of image 0)) (wf.sound 0 inode_file).fits over live in
          rw first (grown_there image i level wf present over (subst (λ h. level ≤ h) height_is low))
      go (inr within) =
          let depth : height_of (root_of image 0) - (height_of (root_of image 0) - level) ≡ level = omega (arith, within) in
          let pointer : IsLivePointer (root_of image 0) (size_of image 0) (height_of (root_of image 0) - level) k = record { level = level; height = omega (arith, within); live = live } in
          subst (λ l. is_there image (enters i grown) (0, record { level = l; index = k }) ≡ true) depth
          (node-there image (enters i grown) 0 (height_of (root_of image 0) - level) k pointer (wf.full_inode_file (height_of (root_of image 0) - level) k pointer))

  pointer_is : (d k : ℕ) → IsLivePointer height (size_of image 0) d k → there (digits d k) ≡ true
  pointer_is d k live =
      let wider : IsLivePointer height end d k = record { level = live.level; height = live.height; live = omega (arith, live.live) } in
      let level : live.level ≡ height_of height - d = omega (arith, live.height) in
      ap (is_there image (enters i grown)) (reads-inodes heights longer top fits d k wider)
      ∙ node_is (height_of height - d) k (omega arith) (subst (λ l. k * span l < size_of image 0) level live.live)

  -- the path of a word of the directory's inode
  inode_there : (f : ℕ) → f < 8 → AllThere there [] (inode_path (height_of height) i f)
  inode_there f few =
      digits_there there height (size_of image 0) [] pointer_is (suc (height_of height)) (8 * i + f) (live_content height (size_of image 0) (8 * i + f) (omega (arith, in_file, few)))

  -- ---- an empty entry

  module _ (s : ℕ) (found : empty_slot image i ≡ Some s) where
    low_slot : s < size_of image i / 256
    low_slot = let finds = find-passes (λ slot. ino_at image i slot == 0) 0 (size_of image i / 256) s found in omega (arith, finds.high)

    here : heights i ≡ height_of (root_of image i)
    here =
        ap (λ f. fold (λ h (b : Beyond). if b.tree == i then height_with (root_of image i) (size_of image i) b.to else h) (height_of (root_of image i)) (new_entry image i f ++ record { tree = 0; from = size_of image 0; to = end } ∷ [])) found
        ∙ rw (ne_eqb 0 i (λ e. suc-ne-zero n (sym e))) refl

    one_slot : touched image (enters i grown) ≡ entry_path image (enters i grown) i s 0 ∷ []
    one_slot = ap (λ f. entered image (enters i grown) i f ∷ []) found

    base_number : path_number (inode_path (height_of height) i 1) / 8 ≡ i
    base_number =
        let word : IsLiveWord height end (suc (height_of height)) (8 * i + 1) = live_content height end (8 * i + 1) (omega (arith, in_file)) in
        let number : path_number (inode_path (height_of height) i 1) ≡ 8 * i + 1 = number-digits height end (suc (height_of height)) (8 * i + 1) fits word in
        omega (arith, number)

    entry_there : AllThere there [] (tree_path (height_of height) i (suc (height_of (root_of image i))) (32 * s + 0))
    entry_there =
        let sound : IsSound image (root_of image i) (size_of image i) = wf.sound i reached in
        there-append there [] (inode_path (height_of height) i 1) (digits (suc (height_of (root_of image i))) (32 * s + 0)) (inode_there 1 (omega arith))
        (digits_there there (root_of image i) (size_of image i) (inode_path (height_of height) i 1)
        (λ d k live.
        ap (is_there image (enters i grown))
        (reads-tree heights image i (inode_path (height_of height) i 1) (length-digits (suc (height_of height)) (8 * i + 1) ∙ ap suc (sym top)) base_number here sound.fits d k live)
        ∙ node-there image (enters i grown) i d k live (wf.full_directories i reached kind d k live))
        (suc (height_of (root_of image i))) (32 * s + 0) (live_content (root_of image i) (size_of image i) (32 * s + 0) (omega (arith, low_slot))))

    path_is : entry_path image (enters i grown) i s 0 ≡ tree_path (height_of height) i (suc (height_of (root_of image i))) (32 * s + 0)
    path_is = ap₂ (λ h k. tree_path h i (suc k) (32 * s + 0)) top here

    all_slot : AllThere there [] (entry_path image (enters i grown) i s 0)
    all_slot = subst (AllThere there []) (sym path_is) entry_there

    pub growing_slot : cover image (enters i grown) ≡ tree_path height i (suc (height_of (root_of image i))) (32 * s + 0)
    growing_slot =
        cover-one image (enters i grown) (entry_path image (enters i grown) i s 0) one_slot all_slot ∙ path_is
        ∙ ap (λ h. tree_path h i (suc (height_of (root_of image i))) (32 * s + 0)) height_is

    slot_copies : length (copied image (enters i grown)) ≡ 0
    slot_copies = ap length (copied-one image (enters i grown) (entry_path image (enters i grown) i s 0) one_slot all_slot)

  -- ---- none

  module _ (none : empty_slot image i ≡ None) where
    one_size : touched image (enters i grown) ≡ inode_word_path image (enters i grown) i 2 ∷ []
    one_size = ap (λ f. entered image (enters i grown) i f ∷ []) none

    all_size : AllThere there [] (inode_word_path image (enters i grown) i 2)
    all_size = subst (λ h. AllThere there [] (inode_path h i 2)) (sym top) (inode_there 2 (omega arith))

    pub growing_size : cover image (enters i grown) ≡ inode_path height i 2
    growing_size = cover-one image (enters i grown) (inode_word_path image (enters i grown) i 2) one_size all_size ∙ ap (λ h. inode_path h i 2) (top ∙ height_is)

    size_copies : length (copied image (enters i grown)) ≡ 0
    size_copies = ap length (copied-one image (enters i grown) (inode_word_path image (enters i grown) i 2) one_size all_size)

  pub growing_copies : length (copied image (enters i grown)) ≡ 0
  growing_copies = go (empty_slot image i) refl
    where
      go : (found : Option ℕ) → empty_slot image i ≡ found → length (copied image (enters i grown)) ≡ 0
      go (Some s) found = slot_copies s found
      go None none = size_copies none

  growing_need : need image (enters i grown) ≡ need image (enters i linked) + growth_need image
  growing_need = omega (arith, growing_copies, none_copied image i wf reached kind)

-- of any directory
pub need_growing : (image : Image) → IsWellFormed image → (i : ℕ) → IsReached image i → kind_of image i ≡ 2 → need image (enters i grown) ≡ need image (enters i linked) + growth_need image
need_growing image wf zero reached kind = absurd (omega (arith, kind))
need_growing image wf (suc n) reached kind = growing_need image wf n reached kind
