-- A change that only lets the tree of a file grow is performed by a preparation and a store of its size.
use Rattle.std.proofs.Common.{◌≡◌, ◌≢◌, ℕ, zero, suc, ◌+◌, ◌*◌, ◌/◌, ◌%◌, ◌<◌, ◌≤◌, List, [], ◌∷◌, ◌++◌, length, Bool, false, flat_map, fold, ◌==◌, if◌then◌else◌, set, refl, sym, ◌∙◌, ap, subst, suc-ne-zero, arith, get_or-set_other}
use Rattle.std.proofs.lemmas.Bool.{ne_eqb}
use Rattle.std.proofs.lemmas.List.{length-map, append-nil}
use Rattle.pm_epochs.specs.Crash.{commit}
use Rattle.bp_limits.specs.Limits.{max_height}
use Rattle.bp_layout.specs.Words.{Image, word, block_of, height_of}
use Rattle.bp_layout.specs.Tree.{node, HasBlock, IsLivePointer}
use Rattle.bp_layout.specs.Inode.{kind_of, root_of, size_of, inode_count, ContentStandsAt}
use Rattle.bp_layout.specs.Need.{Change, Beyond, beyond, new_inodes, touched, prepared_for, height_after, inode_word_path, is_there_after, copied, cover, need}
use Rattle.bp_layout.specs.Nodes.{height_with, nodes_for}
use Rattle.bp_layout.specs.Reached.{IsReached}
use Rattle.bp_layout.specs.Reached.IsReached.{inode_file}
use Rattle.bp_layout.specs.WellFormed.{IsWellFormed}
use Rattle.bp_layout.specs.WordPaths.{WordPath, address, inode_path}
use Rattle.bp_layout.proofs.Addresses.{address_from-digits}
use Rattle.bp_layout.proofs.Reached.{reached-in_file}
use Rattle.bp_layout.proofs.TreeLaws.{KeepsPointers, node-kept, tree_word-zero, live_content, live_above, live_pointer_word}
use Rattle.bp_changes.proofs.ChangesFile as changed
use Rattle.bp_changes.proofs.ContentStore.{word-elsewhere}
use Rattle.bp_changes.proofs.Resize.{CanResize, resize_changes, size_here}
use Rattle.bp_changes.proofs.SameMeaning as meaning
use Rattle.bp_changes.proofs.Separation.{stands_in_block}
use Rattle.pm_region.specs.Memory.{Memory, current_words, Adds}
use Rattle.pm_region.proofs.MemoryLaws.{current_words-adds}
use Rattle.bp_changes.specs.Performs.{IsOpen, PerformsThawed, most_stores_thawed}
use Rattle.bp_changes.specs.Performs.IsOpen.{in_live}
use Rattle.bp_read.proofs.ExistingPaths.{AllThere, inode_path-there, cover-one, copied-one}
use Rattle.bp_changes.proofs.PerformsLaws.{performs_word}
use Rattle.bp_append.specs.Prepared.{need_for, CanPrepare, PreparesWith}
use Rattle.bp_append.specs.Stores.{prep_stores}
use Rattle.bp_append.proofs.CallerLaws.{prepared_can_resize}
use Rattle.bp_append.proofs.StoresLaws.{past_end_whole}
use Rattle.bp_layout.specs.Inode.{RootPlace}
use Rattle.bp_layout.specs.Inode.RootPlace.{inode}

-- The change prepares this tree for some bytes and no other, and touches the word of its size alone.
pub record OnlyGrows (image : Image) (change : Change) (t from to : ℕ) : Type 0 where
  pub prepares : beyond image change ≡ record { tree = t; from = from; to = to } ∷ []
  pub no_inodes : new_inodes image change ≡ []
  pub touches : touched image change ≡ inode_word_path image change t 2 ∷ []

-- The tree of a file is prepared, and then its size word, which stands at a place, is stored alone in its epoch.
pub record GrowsTree (in_snapshot : ℕ → Bool) (old middle new : Memory) (free_old free_new : List ℕ) (path : WordPath) (n from to place : ℕ) (bytes : List ℕ) : Type 0 where
  pub can : CanPrepare in_snapshot old free_old (suc n) path from to
  pub is_file : kind_of (current_words old) (suc n) ≡ 1
  pub stands : ContentStandsAt (current_words old) 0 (8 * suc n + 2) place
  pub prepared : PreparesWith in_snapshot old middle free_old free_new (suc n) from to bytes
  pub stored : Adds middle new (commit place to)

-- ---- what such a change touches and needs

module _ (image : Image) (change : Change) (n from to : ℕ) (wf : IsWellFormed image) (reached : IsReached image (suc n))
    (only : OnlyGrows image change (suc n) from to) where
  no_inode_file : suc n ≢ 0
  no_inode_file = suc-ne-zero n

  low_tree : height_after image change 0 ≡ height_of (root_of image 0)
  low_tree =
      ap (λ bs. fold (λ h (b : Beyond). if b.tree == 0 then height_with (root_of image 0) (size_of image 0) b.to else h) (height_of (root_of image 0)) (bs ++ new_inodes image change)) only.prepares
      ∙ ap (λ more. fold (λ h (b : Beyond). if b.tree == 0 then height_with (root_of image 0) (size_of image 0) b.to else h) (height_of (root_of image 0)) (record { tree = suc n; from = from; to = to } ∷ more)) only.no_inodes
      ∙ rw (ne_eqb (suc n) 0 no_inode_file) refl

  all : AllThere (is_there_after image change) [] (inode_word_path image change (suc n) 2)
  all = inode_path-there image change wf low_tree (suc n) 2 reached (omega arith)

  only_cover : cover image change ≡ inode_path (height_of (root_of image 0)) (suc n) 2
  only_cover = cover-one image change (inode_word_path image change (suc n) 2) only.touches all ∙ ap (λ h. inode_path h (suc n) 2) low_tree

  none_copied : length (copied image change) ≡ 0
  none_copied = ap length (copied-one image change (inode_word_path image change (suc n) 2) only.touches all)

  pub only_need : need image change ≡ need_for image (suc n) from to
  only_need =
      let made : length (flat_map (prepared_for image) (beyond image change)) ≡ need_for image (suc n) from to =
      ap (λ bs. length (flat_map (prepared_for image) bs)) only.prepares ∙ ap length (append-nil (prepared_for image (record { tree = suc n; from = from; to = to })))
      ∙ length-map (nodes_for image (root_of image (suc n)) (size_of image (suc n)) from to) _ in
      let none : length (flat_map (prepared_for image) (new_inodes image change)) ≡ 0 = ap (λ bs. length (flat_map (prepared_for image) bs)) only.no_inodes in
      omega (arith, made, none, none_copied)

-- ---- a call that does just this

module _ (in_snapshot : ℕ → Bool) (old middle new : Memory) (free_old free_new : List ℕ) (path : WordPath) (n from to place : ℕ) (bytes : List ℕ)
    (grows : GrowsTree in_snapshot old middle new free_old free_new path n from to place bytes) (change : Change)
    (only : OnlyGrows (current_words old) change (suc n) from to) where
  abbrev image : Image
  image = current_words old

  abbrev mid : Image
  mid = current_words middle

  wf : IsWellFormed image
  wf = grows.can.well

  in_file : suc n < inode_count image
  in_file = reached-in_file image wf (suc n) grows.can.reached

  below : 8 * (8 * suc n + 2) < size_of image 0
  below = omega (arith, in_file)

  not_inodes : suc n ≢ 0
  not_inodes = suc-ne-zero n

  covered : cover image change ≡ inode_path (height_of (root_of image 0)) (suc n) 2
  covered = only_cover image change n from to wf grows.can.reached only

  grown_need : need image change ≡ need_for image (suc n) from to
  grown_need = only_need image change n from to wf grows.can.reached only

  -- ---- where the size word stands

  roots : root_of mid 0 ≡ root_of image 0
  roots = grows.prepared.ready.roots 0 inode_file (λ e. not_inodes (sym e))

  leaf_live : IsLivePointer (root_of image 0) (size_of image 0) (height_of (root_of image 0)) ((8 * suc n + 2) / 512)
  leaf_live = live_above _ _ (height_of (root_of image 0)) (8 * suc n + 2) (live_content _ _ (8 * suc n + 2) below)

  leaf_same : node mid (root_of mid 0) (height_of (root_of image 0)) ((8 * suc n + 2) / 512) ≡ node image (root_of image 0) (height_of (root_of image 0)) ((8 * suc n + 2) / 512)
  leaf_same = go (height_of (root_of image 0)) ((8 * suc n + 2) / 512) refl leaf_live
    where
      go : (d k : ℕ) → height_of (root_of image 0) ≡ d → IsLivePointer (root_of image 0) (size_of image 0) d k → node mid (root_of mid 0) d k ≡ node image (root_of image 0) d k
      go zero k e live = ap block_of (tree_word-zero mid (root_of mid 0) k ∙ roots ∙ sym (tree_word-zero image (root_of image 0) k))
      go (suc d) k e live =
          ap block_of (grows.prepared.ready.others 0 d k inode_file (λ same. not_inodes (sym same)) (live_pointer_word _ _ (suc d) k live) (λ tree depth index. omega (arith, e, depth)))

  stands_mid : ContentStandsAt mid 0 (8 * suc n + 2) place
  stands_mid =
      let same : node mid (root_of mid 0) (height_of (root_of mid 0)) ((8 * suc n + 2) / 512) ≡ node image (root_of image 0) (height_of (root_of image 0)) ((8 * suc n + 2) / 512) =
      ap (λ r. node mid (root_of mid 0) (height_of r) ((8 * suc n + 2) / 512)) roots ∙ leaf_same in
      record { present = λ null. grows.stands.present (sym same ∙ null); at = ap (λ b. 512 * b + (8 * suc n + 2) % 512) same ∙ grows.stands.at }

  pub wf_mid : IsWellFormed mid
  wf_mid = meaning.well_formed-same image mid wf grows.prepared.ready.meaning

  pub can_resize : CanResize mid n to place
  can_resize = prepared_can_resize image mid wf n from to place bytes grows.prepared.taken grows.prepared.ready grows.can.reached grows.is_file stands_mid

  pub committed : current_words new ≡ set mid place to
  committed = current_words-adds middle new (commit place to) grows.stored

  below_mid : 8 * (8 * suc n + 2) < size_of mid 0
  below_mid = rw (grows.prepared.ready.sizes 0 inode_file) below

  keeps_mid : KeepsPointers mid (set mid place to) (root_of mid 0) (size_of mid 0)
  keeps_mid = record {
    kept = λ d l live. word-elsewhere mid wf_mid 0 (height_of (root_of mid 0)) (8 * suc n + 2) place to inode_file (live_content _ _ (8 * suc n + 2) below_mid) stands_mid 0 d l inode_file (live_pointer_word _ _ (suc d) l live)
        (λ same. omega (arith, live.height, same.depth));
  }

  root_stays : root_of (set mid place to) 0 ≡ root_of mid 0
  root_stays = get_or-set_other mid place 2 to 0 (λ e. stands_mid.present (omega (arith, stands_mid.at, e)))

  stands_new : ContentStandsAt (set mid place to) 0 (8 * suc n + 2) place
  stands_new =
      let leaf : node (set mid place to) (root_of (set mid place to) 0) (height_of (root_of (set mid place to) 0)) ((8 * suc n + 2) / 512) ≡ node mid (root_of mid 0) (height_of (root_of mid 0)) ((8 * suc n + 2) / 512) =
      ap (λ r. node (set mid place to) r (height_of r) ((8 * suc n + 2) / 512)) root_stays
      ∙ node-kept mid (set mid place to) (root_of mid 0) (size_of mid 0) keeps_mid (height_of (root_of mid 0)) ((8 * suc n + 2) / 512)
      (live_above _ _ (height_of (root_of mid 0)) (8 * suc n + 2) (live_content _ _ (8 * suc n + 2) below_mid)) in
      record { present = λ null. stands_mid.present (sym leaf ∙ null); at = ap (λ b. 512 * b + (8 * suc n + 2) % 512) leaf ∙ stands_mid.at }

  at_cover : address (current_words new) (cover image change) ≡ place
  at_cover = rw committed
      (ap (address (set mid place to)) (covered ∙ ap (λ r. inode_path (height_of r) (suc n) 2) (sym (root_stays ∙ roots)))
      ∙ address_from-digits (set mid place to) 2 (word (set mid place to) 2) refl (suc (height_of (word (set mid place to) 2))) (8 * suc n + 2) stands_new.present ∙ stands_new.at)

  -- the root word stands beside it
  root_beside : (root_at : ℕ) → 512 * node image (root_of image 0) (height_of (root_of image 0)) ((8 * suc n + 1) / 512) + (8 * suc n + 1) % 512 ≡ root_at → RootPlace image (suc n) root_at
  root_beside root_at at =
      let row : (8 * suc n + 1) / 512 ≡ (8 * suc n + 2) / 512 = omega arith in
      inode not_inodes (record { present = λ null. grows.stands.present (ap (node image (root_of image 0) (height_of (root_of image 0))) (sym row) ∙ null); at = at })

  loose_place : in_snapshot (place / 512) ≡ false
  loose_place =
      let row : (8 * suc n + 1) / 512 ≡ (8 * suc n + 2) / 512 = omega arith in
      let block : node image (root_of image 0) (height_of (root_of image 0)) ((8 * suc n + 1) / 512) ≡ place / 512 = ap (node image (root_of image 0) (height_of (root_of image 0))) row ∙ omega (arith, grows.stands.at) in
      let root_at : ℕ = 512 * node image (root_of image 0) (height_of (root_of image 0)) ((8 * suc n + 1) / 512) + (8 * suc n + 1) % 512 in
      let same : (512 * node image (root_of image 0) (height_of (root_of image 0)) ((8 * suc n + 1) / 512) + (8 * suc n + 1) % 512) / 512 ≡ place / 512 = omega (arith, block) in
      subst (λ b. in_snapshot b ≡ false) same (grows.can.loose.root root_at (root_beside root_at refl) not_inodes)

  open_place : IsOpen image in_snapshot grows.prepared.taken place
  open_place =
      let here : node image (root_of image 0) (height_of (root_of image 0)) ((8 * suc n + 2) / 512) ≡ place / 512 = omega (arith, grows.stands.at) in
      in_live (record {
        tree = 0;
        reached = inode_file;
        has = subst (HasBlock image (root_of image 0) (size_of image 0)) here
            (stands_in_block image 0 (height_of (root_of image 0)) (8 * suc n + 2) place grows.stands (live_content _ _ (8 * suc n + 2) below));
      }) loose_place

  few : prep_stores (size_of image (suc n)) from to (need_for image (suc n) from to) + 1 ≤ most_stores_thawed (need image change)
  few = go _ _ _ grown_need (past_end_whole (size_of image (suc n)) from to max_height)
    where
      go : (made needs past_end : ℕ) → needs ≡ made → past_end ≤ 512 * suc max_height → 512 * made + past_end + 2 + 1 ≤ 512 * (needs + 6) + 64
      go made needs past_end e low = omega (arith, e, low)

  pub grown_size : size_of (current_words new) (suc n) ≡ to
  grown_size = rw committed (size_here mid wf_mid n to place can_resize)

  -- whatever the call does besides
  pub grown_performs : (Effect : Image → Image → Type 0) → Effect (current_words old) (current_words new) → PerformsThawed in_snapshot old new change Effect
  grown_performs Effect effect =
      performs_word in_snapshot old new change Effect middle place to 2 (prep_stores (size_of image (suc n)) from to (need_for image (suc n) from to)) grows.prepared.taken grows.prepared.adds grows.stored (sym at_cover)
      (omega arith) few (grows.prepared.counted ∙ sym grown_need) open_place (rw committed (changed.well_formed-same mid (set mid place to) (suc n) wf_mid (resize_changes mid wf_mid n to place can_resize))) effect
