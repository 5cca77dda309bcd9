-- An image with its magic word and its number of blocks, in which no check fails, is well-formed.
use Rattle.std.proofs.Common.{◌≡◌, ◌≢◌, ◌⊎◌, ℕ, zero, suc, ◌+◌, ◌*◌, ◌/◌, ◌%◌, ◌<◌, ◌≤◌, refl, sym, ◌∙◌, ap, subst, arith, inl, inr, ⊎_elim, le_trans}
use Rattle.std.proofs.lemmas.Bool.{cases_eq, cases_lt}
use Rattle.bp_layout.specs.Words.{Image, block_count, block_of, height_of, slot_word}
use Rattle.bp_layout.specs.Tree.{tree_word, node, covered, IsLivePointer, IsSound, IsFull}
use Rattle.bp_layout.specs.Inode.{kind_of, root_of, size_of, inode_count}
use Rattle.bp_layout.specs.Directory.{EntryNames}
use Rattle.bp_layout.specs.Paths.{Name, IsName}
use Rattle.bp_layout.specs.Reached.{IsReached}
use Rattle.bp_layout.specs.Reached.IsReached.{inode_file as the_inode_file, root_directory as the_root_directory, named as by_name}
use Rattle.bp_layout.specs.WellFormed.{IsWellFormed}
use Rattle.bp_layout.specs.Checks.{NoneFails, IsFound, IsPointer, IsEntry, IsFollowed, Passes, ContentFollowed, pointer_place, entry_place, size_place}
use Rattle.bp_layout.specs.Formatted.{IsFormatted, version_of}
use Rattle.bp_limits.specs.Limits.{greatest_height}
use Rattle.bp_limits.proofs.Versions.{height_most}
use Rattle.bp_layout.specs.Checks.IsFound.{inode_file, root_directory, named}
use Rattle.bp_layout.specs.declared.check.Check.TheVariants.{Height, PointerBits, Range, BlockTwice, Hole, InodeFileSize, InodeNumber, InodeTwice, Kind, DirectorySize, Capacity, NameForm, NameTwice}
use Rattle.bp_layout.specs.Checks.Fails.{height, root_bits, pointer_bits, range, twice, hole, inode_file_size, ino, root_named, inode_twice, kind, root_kind, directory_size, capacity, name_form, name_twice}
use Rattle.bp_layout.proofs.TreeLaws.{live_above, live_pointer_word, live_content, tree_word-suc}
use Rattle.bp_layout.proofs.OnePlace.{SamePointer, same_block, low_slot}
use Rattle.bp_layout.proofs.OncePointer.{SeparatesPointers, once_pointer}

not_less : (a b : ℕ) → (a < b → ⊥) → b ≤ a
not_less a b h = ⊎_elim (λ lt. absurd (h lt)) (λ le. le) (cases_lt a b)

less : (a b : ℕ) → (b ≤ a → ⊥) → a < b
less a b h = ⊎_elim (λ lt. lt) (λ le. absurd (h le)) (cases_lt a b)

is_equal : (a b : ℕ) → (a ≢ b → ⊥) → a ≡ b
is_equal a b h = ⊎_elim (λ e. e) (λ ne. absurd (h ne)) (cases_eq a b)

stable_name : (name : Name) → ((IsName name → ⊥) → ⊥) → IsName name
stable_name name h = record {
  not_empty = not_less _ _ (λ e. h (λ n. omega (arith, e, n.not_empty)));
  short = not_less _ _ (λ e. h (λ n. omega (arith, e, n.short)));
  plain = λ k d low. (λ e. h (λ n. (n.plain k d low).0 e), λ e. h (λ n. (n.plain k d low).1 e));
  not_dot = λ e. h (λ n. n.not_dot e);
  not_dot_dot = λ e. h (λ n. n.not_dot_dot e);
}

same_slot : (s r : ℕ) → (32 * s + 0) / 512 ≡ (32 * r + 0) / 512 → (32 * s + 0) % 512 ≡ (32 * r + 0) % 512 → s ≡ r
same_slot s r row column = omega arith

module _ (image : Image) (none : NoneFails image) where
  fits : (t : ℕ) → IsFound image t → size_of image t ≤ covered (suc (height_of (root_of image t)))
  fits t found = not_less _ _ (λ large. none.none Capacity (size_place image t) (capacity found large refl))

  root_live : (t : ℕ) → 0 < size_of image t → IsLivePointer (root_of image t) (size_of image t) 0 0
  root_live t some = record { level = height_of (root_of image t); height = omega arith; live = omega (arith, some) }

  root_pointer : (t : ℕ) → IsFound image t → 0 < size_of image t → IsPointer image t 0 0 (pointer_place image t 0 0)
  root_pointer t found some = record { found = found; live = root_live t some; followed = tt; at = refl }

  low_root : (t : ℕ) → IsFound image t → 0 < size_of image t → height_of (root_of image t) ≤ greatest_height (version_of image)
  low_root t found some = not_less _ _ (λ high. none.none Height _ (height (root_pointer t found some) high))

  bits_root : (t : ℕ) → IsFound image t → 0 < size_of image t → root_of image t / 8 % 512 ≡ 0
  bits_root t found some = is_equal _ _ (λ odd. none.none PointerBits _ (root_bits (root_pointer t found some) odd))

  passes : (t d k : ℕ) → IsPointer image t d k (pointer_place image t d k) → Passes image (root_of image t) d k
  passes t zero k at =
      let some : 0 < size_of image t = omega (arith, at.live.live) in
      (omega (arith, low_root t at.found some, bits_root t at.found some), less _ _ (λ high. none.none Range _ (range at high)))
  passes t (suc d) k at = (is_equal _ _ (λ odd. none.none PointerBits _ (pointer_bits at odd)), less _ _ (λ high. none.none Range _ (range at high)))

  -- each live pointer is followed, but below a null
  followed : (t d k : ℕ) → IsFound image t → IsLivePointer (root_of image t) (size_of image t) d k →
      IsFollowed image (root_of image t) (size_of image t) d k ⊎ (tree_word image (root_of image t) d k ≡ 0)
  followed t zero k found live = inl tt
  followed t (suc d) k found live = go (followed t d (k / 512) found above) (cases_eq (node image (root_of image t) d (k / 512)) 0)
    where
      above : IsLivePointer (root_of image t) (size_of image t) d (k / 512)
      above = live_above _ _ d k (live_pointer_word _ _ (suc d) k live)

      below_null : node image (root_of image t) d (k / 512) ≡ 0 → tree_word image (root_of image t) (suc d) k ≡ 0
      below_null null = tree_word-suc image (root_of image t) d k ∙ ap (λ b. slot_word image b (k % 512)) null

      go : IsFollowed image (root_of image t) (size_of image t) d (k / 512) ⊎ (tree_word image (root_of image t) d (k / 512) ≡ 0) →
          (node image (root_of image t) d (k / 512) ≡ 0) ⊎ (node image (root_of image t) d (k / 512) ≡ 0 → ⊥) →
          IsFollowed image (root_of image t) (size_of image t) (suc d) k ⊎ (tree_word image (root_of image t) (suc d) k ≡ 0)
      go f (inl null) = inr (below_null null)
      go (inr null) (inr present) = absurd (present (ap block_of null))
      go (inl f) (inr present) = inl (fits t found, f, passes t d (k / 512) (record { found = found; live = above; followed = f; at = refl }), present)

  pub pointer_at : (t d k : ℕ) → IsFound image t → IsLivePointer (root_of image t) (size_of image t) d k → node image (root_of image t) d k ≢ 0 → IsPointer image t d k (pointer_place image t d k)
  pointer_at t d k found live present = go (followed t d k found live)
    where
      go : IsFollowed image (root_of image t) (size_of image t) d k ⊎ (tree_word image (root_of image t) d k ≡ 0) → IsPointer image t d k (pointer_place image t d k)
      go (inl f) = record { found = found; live = live; followed = f; at = refl }
      go (inr null) = absurd (present (ap block_of null))

  some_inodes : 4096 ≤ size_of image 0
  some_inodes = not_less _ _ (λ small. none.none InodeFileSize 3 (inode_file_size (inr small)))

  reports : SeparatesPointers image (IsFound image)
  reports = record {
    some = some_inodes;
    first = inode_file;
    fits = fits;
    places = λ t d k u e l p q s z at also present same. is_equal p q (λ ne. none.none BlockTwice p (twice at also ne present same));
  }

  once : (t d k u e l : ℕ) → IsFound image t → IsFound image u → IsLivePointer (root_of image t) (size_of image t) d k → IsLivePointer (root_of image u) (size_of image u) e l →
      node image (root_of image t) d k ≢ 0 → node image (root_of image t) d k ≡ node image (root_of image u) e l → (t ≡ u) × (d ≡ e) × (k ≡ l)
  once t d k u e l found also live lives present same =
      let all : SamePointer t d k u e l = once_pointer image (IsFound image) reports t found d k u e l also (pointer_at t d k found live present) (pointer_at u e l also lives (λ null. present (same ∙ null))) present same in
      (all.tree, all.depth, all.index)

  sound : 8 ≤ block_count image → (t : ℕ) → IsFound image t → IsSound image (root_of image t) (size_of image t)
  sound some t found = record {
    low = λ some. le_trans (low_root t found some) (height_most (version_of image));
    root_bits = bits_root t found;
    pointer_bits = λ d k live. bits d k live (followed t (suc d) k found live);
    in_range = λ d k live. low d k live (followed t d k found live);
    once = λ d k e l live also present same. let all : (t ≡ t) × (d ≡ e) × (k ≡ l) = once t d k t e l found found live also present same in (all.1, all.2);
    fits = fits t found;
  }
    where
      bits : (d k : ℕ) → IsLivePointer (root_of image t) (size_of image t) (suc d) k → IsFollowed image (root_of image t) (size_of image t) (suc d) k ⊎ (tree_word image (root_of image t) (suc d) k ≡ 0) →
          tree_word image (root_of image t) (suc d) k % 4096 ≡ 0
      bits d k live (inl f) = (passes t (suc d) k (record { found = found; live = live; followed = f; at = refl })).0
      bits d k live (inr null) = omega (arith, null)

      low : (d k : ℕ) → IsLivePointer (root_of image t) (size_of image t) d k → IsFollowed image (root_of image t) (size_of image t) d k ⊎ (tree_word image (root_of image t) d k ≡ 0) →
          node image (root_of image t) d k < block_count image
      low d k live (inl f) = less _ _ (λ high. none.none Range _ (range (record { found = found; live = live; followed = f; at = refl }) high))
      low d k live (inr null) = omega (arith, null, some)

  -- the inode file and the directories have no null
  full : (t : ℕ) → IsFound image t → (t ≡ 0) ⊎ (kind_of image t ≡ 2) → IsFull image (root_of image t) (size_of image t)
  full t found which zero k live null = none.none Hole _ (hole (record { found = found; live = live; followed = tt; at = refl }) which null)
  full t found which (suc d) k live null =
      let above : IsLivePointer (root_of image t) (size_of image t) d (k / 512) = live_above _ _ d k (live_pointer_word _ _ (suc d) k live) in
      let present : node image (root_of image t) d (k / 512) ≢ 0 = full t found which d (k / 512) above in
      let at : IsPointer image t d (k / 512) (pointer_place image t d (k / 512)) = pointer_at t d (k / 512) found above present in
      none.none Hole _ (hole (record { found = found; live = live; followed = (fits t found, at.followed, passes t d (k / 512) at, present); at = refl }) which null)

  -- so their content is followed
  content : (t k : ℕ) → IsFound image t → (t ≡ 0) ⊎ (kind_of image t ≡ 2) → 8 * k < size_of image t → ContentFollowed image t k
  content t k found which below =
      let above : IsLivePointer (root_of image t) (size_of image t) (height_of (root_of image t)) (k / 512) = live_above _ _ (height_of (root_of image t)) k (live_content _ _ k below) in
      let present : node image (root_of image t) (height_of (root_of image t)) (k / 512) ≢ 0 = full t found which (height_of (root_of image t)) (k / 512) above in
      let at : IsPointer image t (height_of (root_of image t)) (k / 512) (pointer_place image t (height_of (root_of image t)) (k / 512)) =
      pointer_at t (height_of (root_of image t)) (k / 512) found above present in
      (fits t found, at.followed, passes t (height_of (root_of image t)) (k / 512) at, present)

  root_found : IsFound image 1
  root_found = let some : 4096 ≤ size_of image 0 = some_inodes in root_directory (content 0 8 inode_file (inl refl) (omega (arith, some)))

  entry : (i s j : ℕ) → IsFound image i → EntryNames image i s j → IsEntry image i s j (entry_place image i s 0)
  entry i s j found names = record {
    found = found;
    names = names;
    followed = content i (32 * s) found (inr names.directory) (omega (arith, names.in_size));
    at = refl;
  }

  -- entries at one place are one
  one_entry : (i s j k r h : ℕ) → IsFound image i → IsFound image k → EntryNames image i s j → EntryNames image k r h → entry_place image i s 0 ≡ entry_place image k r 0 → (i ≡ k) × (s ≡ r)
  one_entry i s j k r h found also n m place =
      let here : ContentFollowed image i (32 * s) = (entry i s j found n).followed in
      let there : ContentFollowed image k (32 * r) = (entry k r h also m).followed in
      let a : (32 * s + 0) / 512 ≡ (32 * s) / 512 = omega arith in
      let b : (32 * r + 0) / 512 ≡ (32 * r) / 512 = omega arith in
      let same : (node image (root_of image i) (height_of (root_of image i)) ((32 * s + 0) / 512) ≡ node image (root_of image k) (height_of (root_of image k)) ((32 * r + 0) / 512)) × ((32 * s + 0) % 512 ≡ (32 * r + 0) % 512) =
      same_block _ _ ((32 * s + 0) % 512) ((32 * r + 0) % 512) _ (low_slot (32 * s + 0)) (low_slot (32 * r + 0)) place refl in
      let some : node image (root_of image i) (height_of (root_of image i)) ((32 * s + 0) / 512) ≢ 0 = λ null. here.3 (ap (node image (root_of image i) (height_of (root_of image i))) (sym a) ∙ null) in
      let all : (i ≡ k) × (height_of (root_of image i) ≡ height_of (root_of image k)) × ((32 * s + 0) / 512 ≡ (32 * r + 0) / 512) =
      once i (height_of (root_of image i)) ((32 * s + 0) / 512) k (height_of (root_of image k)) ((32 * r + 0) / 512) found also
      (live_above _ _ (height_of (root_of image i)) (32 * s + 0) (live_content _ _ (32 * s + 0) (omega (arith, n.in_size))))
      (live_above _ _ (height_of (root_of image k)) (32 * r + 0) (live_content _ _ (32 * r + 0) (omega (arith, m.in_size)))) some same.0 in
      (all.0, same_slot s r all.2 same.1)

  in_file : (i s j : ℕ) → IsFound image i → EntryNames image i s j → j < inode_count image
  in_file i s j found names = less _ _ (λ high. none.none InodeNumber _ (ino (entry i s j found names) high))

  pub found_all : (t : ℕ) → IsReached image t → IsFound image t
  found_all _ the_inode_file = inode_file
  found_all _ the_root_directory = root_found
  found_all _ (by_name {i = i} {j = j} slot from names) =
      let found : IsFound image i = found_all i from in
      let low : j < inode_count image = in_file i slot j found names in
      named slot found names (content i (32 * slot) found (inr names.directory) (omega (arith, names.in_size))) low (content 0 (8 * j) inode_file (inl refl) (omega (arith, low)))

  pub checks_suffice : IsFormatted image → IsWellFormed image
  checks_suffice formatted = record {
    formatted = formatted;
    low = λ t r. low_root t (found_all t r);
    sound = λ t r. sound formatted.sized.at_least t (found_all t r);
    apart = λ t u b r q one two.
        let all : (t ≡ u) × (one.depth ≡ two.depth) × (one.index ≡ two.index) =
        once t one.depth one.index u two.depth two.index (found_all t r) (found_all u q) one.pointer two.pointer (λ null. one.not_null (sym one.named ∙ null)) (one.named ∙ sym two.named) in
        all.0;
    full_inode_file = full 0 inode_file (inl refl);
    full_directories = λ i r directory. full i (found_all i r) (inr directory);
    inode_blocks = is_equal _ _ (λ odd. none.none InodeFileSize 3 (inode_file_size (inl odd)));
    some_inodes = some_inodes;
    inos = λ i s j r n. in_file i s j (found_all i r) n;
    not_root = λ i s j r n one. none.none InodeTwice _ (root_named (subst (λ x. IsEntry image i s x (entry_place image i s 0)) one (entry i s j (found_all i r) n)));
    named_once = λ i s k q j r p n m kind.
        one_entry i s j k q j (found_all i r) (found_all k p) n m
        (is_equal _ _ (λ ne. none.none InodeTwice _ (inode_twice (entry i s j (found_all i r) n) (entry k q j (found_all k p) m) ne (found_all j (by_name s r n)) kind)));
    kinds = λ i r. kinds i (found_all (suc i) r) (cases_eq (kind_of image (suc i)) 1) (cases_eq (kind_of image (suc i)) 2);
    root_kind = is_equal _ _ (λ other. none.none Kind _ (root_kind root_found other refl));
    directory_sizes = λ i r directory. is_equal _ _ (λ odd. none.none DirectorySize _ (directory_size (found_all i r) directory odd refl));
    names = λ i s j r n. stable_name _ (λ bad. none.none NameForm _ (name_form (entry i s j (found_all i r) n) bad));
    names_once = λ i s q j k r n m same.
        (one_entry i s j i q k (found_all i r) (found_all i r) n m
        (is_equal _ _ (λ ne. none.none NameTwice _ (name_twice (entry i s j (found_all i r) n) (entry i q k (found_all i r) m) ne same)))).1;
  }
    where
      kinds : (i : ℕ) → IsFound image (suc i) → (kind_of image (suc i) ≡ 1) ⊎ (kind_of image (suc i) ≡ 1 → ⊥) → (kind_of image (suc i) ≡ 2) ⊎ (kind_of image (suc i) ≡ 2 → ⊥) →
          (1 ≤ kind_of image (suc i)) × (kind_of image (suc i) ≤ 2)
      kinds i found (inl e) f = (omega (arith, e), omega (arith, e))
      kinds i found (inr e) (inl f) = (omega (arith, f), omega (arith, f))
      kinds i found (inr e) (inr f) = absurd (none.none Kind _ (kind found e f refl))
