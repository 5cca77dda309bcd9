-- A change needs few blocks, besides those that are thawed before it.
use Rattle.std.proofs.Common.{◌≡◌, ◌⊎◌, ℕ, zero, suc, ◌+◌, ◌-◌, ◌*◌, ◌/◌, ◌%◌, ◌<◌, ◌≤◌, List, [], ◌∷◌, ◌++◌, length, take, map, filter, Bool, true, false, Option, None, Some, not, ◌||◌, ◌==◌, refl, sym, ◌∙◌, ap, inl, inr, arith, append_assoc}
use Rattle.std.specs.Prelude.{bytes_eq, if◌then◌else◌, flat_map, fold, nat_lt, min, max}
use Rattle.std.specs.List.{range_with_len, list_any}
use Rattle.std.proofs.lemmas.Bool.{cases_eq, cases_lt, le-ltb, ltb-true}
use Rattle.std.proofs.lemmas.List.{length-append, length-map, length-take-le, take-append-le}
use Rattle.std.proofs.lemmas.List.FromFn.{length-map-range_with_len}
use Rattle.bp_limits.specs.Limits.{block_size, entry_size, max_height}
use Rattle.bp_limits.specs.CallLimits.{max_write}
use Rattle.bp_layout.specs.Directory.{empty_slot, entry_count, ino_at}
use Rattle.bp_layout.specs.Inode.{root_of, size_of}
use Rattle.bp_layout.specs.Need.{Beyond, Change, Entrant, beyond, prepared_for, new_inodes, height_after, touched, content_path, entered, entry_path, inode_word_path, new_entry, is_prefix, prefixes_from, prefixes_of, cover_of, is_there_after, need}
use Rattle.bp_layout.specs.Need.Entrant.{taken, grown, linked}
use Rattle.bp_layout.specs.Need.Change.{writes, resizes, enters, leaves}
use Rattle.bp_layout.specs.Nodes.{TreeNode, height_with, nodes_for}
use Rattle.bp_layout.specs.Reached.{IsReached}
use Rattle.bp_layout.specs.Reached.IsReached.{inode_file}
use Rattle.bp_layout.specs.WellFormed.{IsWellFormed}
use Rattle.bp_layout.specs.WordPaths.{WordPath, digits}
use Rattle.bp_layout.specs.Words.{Image, height_of}
use Rattle.bp_layout.proofs.Below.{bytes_eq_self}
use Rattle.bp_layout.proofs.Finding.{Finds, find-passes}
use Rattle.bp_append.proofs.FewNeeded.{few_needed}
use Rattle.bp_append.proofs.NeedLaws.{tall_low}
use Rattle.bp_read.proofs.Digits.{length-digits}

-- ---- copies

pub filter_few : (p : WordPath → Bool) (xs : List WordPath) → length (filter p xs) ≤ length xs
filter_few p [] = omega arith
filter_few p (x ∷ xs) = go (p x) refl (filter_few p xs)
  where
    go : (b : Bool) → p x ≡ b → length (filter p xs) ≤ length xs → length (filter p (x ∷ xs)) ≤ length (x ∷ xs)
    go true at rest = rw at (omega (arith, rest))
    go false at rest = rw at (omega (arith, rest))

-- a path copies as many blocks as it has slots, at most
pub one_few : (shortest : ℕ) (earlier : List WordPath) (path : WordPath) → length (filter (λ prefix. not (list_any (is_prefix prefix) earlier)) (prefixes_from shortest path)) ≤ length path
one_few shortest earlier path =
    let few = filter_few (λ prefix. not (list_any (is_prefix prefix) earlier)) (prefixes_from shortest path) in
    let many : length (prefixes_from shortest path) ≡ length path - shortest = length-map-range_with_len (λ n. take n path) shortest (length path - shortest) in
    omega (arith, few, many)

-- paths that begin alike share these prefixes
shared_prefix : (n : ℕ) (leading rest other : WordPath) → n ≤ length leading → is_prefix (take n (leading ++ rest)) (leading ++ other) ≡ true
shared_prefix n leading rest other low =
    let one : take n (leading ++ rest) ≡ take n leading = take-append-le n leading rest low in
    let two : take (length (take n leading)) (leading ++ other) ≡ take n leading = ap (λ m. take m (leading ++ other)) (length-take-le n leading low) ∙ take-append-le n leading other low in
    ap (λ p. is_prefix p (leading ++ other)) one ∙ ap (bytes_eq (take n leading)) two ∙ bytes_eq_self (take n leading)

module _ (leading rest other : WordPath) (earlier : List WordPath) where
  abbrev is_new : WordPath → Bool
  is_new prefix = not (list_any (is_prefix prefix) ((leading ++ other) ∷ earlier))

  new_from : (count from : ℕ) → length (filter is_new (map (λ n. take n (leading ++ rest)) (range_with_len from count))) ≤ from + count - suc (length leading)
  new_from zero from = omega arith
  new_from (suc count) from = go (cases_lt (length leading) from) (new_from count (from + 1))
    where
      go : (length leading < from) ⊎ (from ≤ length leading) → length (filter is_new (map (λ n. take n (leading ++ rest)) (range_with_len (from + 1) count))) ≤ from + 1 + count - suc (length leading) →
          length (filter is_new (map (λ n. take n (leading ++ rest)) (range_with_len from (suc count)))) ≤ from + suc count - suc (length leading)
      go (inl past) few =
          let all = filter_few is_new (map (λ n. take n (leading ++ rest)) (range_with_len from (suc count))) in
          let many : length (map (λ n. take n (leading ++ rest)) (range_with_len from (suc count))) ≡ suc count = length-map-range_with_len (λ n. take n (leading ++ rest)) from (suc count) in
          omega (arith, all, many, past)
      go (inr low) few =
          let old : is_new (take from (leading ++ rest)) ≡ false = ap (λ b. not (b || list_any (is_prefix (take from (leading ++ rest))) earlier)) (shared_prefix from leading rest other low) in
          rw old (omega (arith, few))

  -- so one more of them copies what it has of its own at most, except for its last slot
  next_few : (shortest : ℕ) → length (filter is_new (prefixes_from shortest (leading ++ rest))) ≤ length rest - 1
  next_few shortest = go (cases_lt (length (leading ++ rest)) shortest)
    where
      go : (length (leading ++ rest) < shortest) ⊎ (shortest ≤ length (leading ++ rest)) → length (filter is_new (prefixes_from shortest (leading ++ rest))) ≤ length rest - 1
      go (inl past) =
          let none : length (leading ++ rest) - shortest ≡ 0 = omega (arith, past) in
          rw none (omega arith)
      go (inr low) = omega (arith, new_from (length (leading ++ rest) - shortest) shortest, low, length-append leading rest)

-- ---- a run of paths

-- what a run up to a word copies of its own at most, besides what the first of its paths does
abbrev pub charge : ℕ → ℕ
charge k = k / 512 + 4 * (k / 512 / 512)

pub charge_rises : (from count : ℕ) → charge (from + count) ≤ charge from + count / 512 + 1 + 4 * (count / 512 / 512 + 1)
charge_rises from count = omega arith

two_digits : (base : WordPath) (height k : ℕ) → base ++ digits (suc (suc height)) k ≡ (base ++ digits height (k / 512 / 512)) ++ k / 512 % 512 ∷ k % 512 ∷ []
two_digits base height k =
    ap (λ slots. base ++ slots) (append_assoc (digits height (k / 512 / 512)) (k / 512 % 512 ∷ []) (k % 512 ∷ []))
    ∙ sym (append_assoc base (digits height (k / 512 / 512)) (k / 512 % 512 ∷ k % 512 ∷ []))

-- where two words lie below one node of the level above the leaves, the second copies no more than its leaf
beside : (height : ℕ) (base : WordPath) (shortest k : ℕ) → suc k / 512 / 512 ≡ k / 512 / 512 → (earlier : List WordPath) →
    length (filter (λ prefix. not (list_any (is_prefix prefix) ((base ++ digits (suc height) k) ∷ earlier))) (prefixes_from shortest (base ++ digits (suc height) (suc k)))) ≤ 1
beside zero base shortest k same earlier = omega (arith, next_few base (digits 1 (suc k)) (digits 1 k) earlier shortest, length-digits 1 (suc k))
beside (suc height) base shortest k same earlier =
    let one = two_digits base height k in
    let two : base ++ digits (suc (suc height)) (suc k) ≡ (base ++ digits height (k / 512 / 512)) ++ suc k / 512 % 512 ∷ suc k % 512 ∷ [] =
    two_digits base height (suc k) ∙ ap (λ q. (base ++ digits height q) ++ suc k / 512 % 512 ∷ suc k % 512 ∷ []) same in
    rw (one, two) (next_few (base ++ digits height (k / 512 / 512)) (suc k / 512 % 512 ∷ suc k % 512 ∷ []) (k / 512 % 512 ∷ k % 512 ∷ []) earlier shortest)

module _ (base : WordPath) (height : ℕ) (low : height ≤ max_height) (shortest : ℕ) where
  abbrev path : ℕ → WordPath
  path k = base ++ digits (suc height) k

  near : (k : ℕ) → suc k / 512 ≡ k / 512 → (earlier : List WordPath) → length (filter (λ prefix. not (list_any (is_prefix prefix) (path k ∷ earlier))) (prefixes_from shortest (path (suc k)))) ≤ 0
  near k same earlier =
      let one : path k ≡ (base ++ digits height (k / 512)) ++ k % 512 ∷ [] = sym (append_assoc base (digits height (k / 512)) (k % 512 ∷ [])) in
      let two : path (suc k) ≡ (base ++ digits height (k / 512)) ++ suc k % 512 ∷ [] =
      ap (λ q. base ++ (digits height q ++ suc k % 512 ∷ [])) same ∙ sym (append_assoc base (digits height (k / 512)) (suc k % 512 ∷ [])) in
      rw (one, two) (next_few (base ++ digits height (k / 512)) (suc k % 512 ∷ []) (k % 512 ∷ []) earlier shortest)

  step : (k : ℕ) (earlier : List WordPath) → length (filter (λ prefix. not (list_any (is_prefix prefix) (path k ∷ earlier))) (prefixes_from shortest (path (suc k)))) + charge k ≤ charge (suc k)
  step k earlier = go (cases_eq (suc k / 512) (k / 512)) (cases_eq (suc k / 512 / 512) (k / 512 / 512))
    where
      go : (suc k / 512 ≡ k / 512) ⊎ (suc k / 512 ≡ k / 512 → ⊥) → (suc k / 512 / 512 ≡ k / 512 / 512) ⊎ (suc k / 512 / 512 ≡ k / 512 / 512 → ⊥) →
          length (filter (λ prefix. not (list_any (is_prefix prefix) (path k ∷ earlier))) (prefixes_from shortest (path (suc k)))) + charge k ≤ charge (suc k)
      go (inl same) _ = omega (arith, near k same earlier)
      go (inr other) (inl same) = omega (arith, beside height base shortest k same earlier, other, same)
      go (inr other) (inr far) = omega (arith, next_few base (digits (suc height) (suc k)) (digits (suc height) k) earlier shortest, length-digits (suc height) (suc k), low, other, far)

  module _ (rest : List WordPath) (most : ℕ) (few : (earlier : List WordPath) → length (prefixes_of shortest earlier rest) ≤ most) where
    run_after : (n k : ℕ) (earlier : List WordPath) → length (prefixes_of shortest (path k ∷ earlier) (map path (range_with_len (k + 1) n) ++ rest)) + charge k ≤ charge (k + n) + most
    run_after zero k earlier = omega (arith, few (path k ∷ earlier))
    run_after (suc n) k earlier =
        let next : k + 1 ≡ suc k = omega arith in
        let end : k + 1 + n ≡ k + suc n = omega arith in
        let following : length (prefixes_of shortest (path (k + 1) ∷ path k ∷ earlier) (map path (range_with_len (k + 1 + 1) n) ++ rest)) + charge (k + 1) ≤ charge (k + suc n) + most = rw end at (run_after n (k + 1) (path k ∷ earlier)) in
        let here : length (filter (λ prefix. not (list_any (is_prefix prefix) (path k ∷ earlier))) (prefixes_from shortest (path (k + 1)))) + charge k ≤ charge (k + 1) = rw next (step k earlier) in
        let both = length-append (filter (λ prefix. not (list_any (is_prefix prefix) (path k ∷ earlier))) (prefixes_from shortest (path (k + 1)))) (prefixes_of shortest (path (k + 1) ∷ path k ∷ earlier) (map path (range_with_len (k + 1 + 1) n) ++ rest)) in
        omega (arith, following, here, both)

    -- a run of paths copies few blocks besides those of the first, whatever comes before
    pub run_few_after : (earlier : List WordPath) (n k : ℕ) → length (prefixes_of shortest earlier (map path (range_with_len k n) ++ rest)) + charge k ≤ length (path k) + charge (k + n) + most
    run_few_after earlier zero k = omega (arith, few earlier)
    run_few_after earlier (suc n) k =
        let following = run_after n k earlier in
        let here = one_few shortest earlier (path k) in
        let both = length-append (filter (λ prefix. not (list_any (is_prefix prefix) earlier)) (prefixes_from shortest (path k))) (prefixes_of shortest (path k ∷ earlier) (map path (range_with_len (k + 1) n) ++ rest)) in
        omega (arith, following, here, both)

    pub run_few : (n k : ℕ) → length (prefixes_of shortest [] (map path (range_with_len k n) ++ rest)) + charge k ≤ length (path k) + charge (k + n) + most
    run_few = run_few_after []

-- a path by itself
pub alone_few : (shortest : ℕ) (earlier : List WordPath) (path : WordPath) → length (prefixes_of shortest earlier (path ∷ [])) ≤ length path
alone_few shortest earlier path =
    let few = one_few shortest earlier path in
    let end = length-append (filter (λ prefix. not (list_any (is_prefix prefix) earlier)) (prefixes_from shortest path)) [] in
    omega (arith, few, end)

-- ---- heights and preparations

module _ (image : Image) where
  heights_low : (t : ℕ) → (0 < size_of image t → height_of (root_of image t) ≤ max_height) → (bytes : List Beyond) (height : ℕ) → height ≤ max_height →
      fold (λ h b. if b.tree == t then height_with (root_of image t) (size_of image t) b.to else h) height bytes ≤ max_height
  heights_low t low [] height fits = fits
  heights_low t low (b ∷ bytes) height fits = heights_low t low bytes _ (go (b.tree == t))
    where
      go : (is : Bool) → (if is then height_with (root_of image t) (size_of image t) b.to else height) ≤ max_height
      go true = tall_low (root_of image t) (size_of image t) b.to low
      go false = fits

  -- the blocks of the bytes of one call after a size, by the leaves that those fill
  prepared_few : (b : Beyond) (many : ℕ) → many ≤ 512 → b.to ≤ b.from + many * 4096 → size_of image b.tree ≤ b.from → (0 < size_of image b.tree → height_of (root_of image b.tree) ≤ max_height) → (is : Bool) →
      length (flat_map (prepared_for image) (if is then b ∷ [] else [])) ≤ many + 2 + 3 * max_height
  prepared_few b many few near following low false = omega arith
  prepared_few b many few near following low true =
      let needed = few_needed image (root_of image b.tree) (size_of image b.tree) b.from b.to many few near following low in
      let with_tree : TreeNode → ℕ × TreeNode = λ n. (b.tree, n) in
      let same = length-map (nodes_for image (root_of image b.tree) (size_of image b.tree) b.from b.to) with_tree in
      let end = length-append (prepared_for image b) [] in
      omega (arith, needed, same, end)

  module _ (wf : IsWellFormed image) (change : Change) where
    top_low : height_after image change 0 ≤ max_height
    top_low =
        let low : height_of (root_of image 0) ≤ max_height = (wf.sound 0 inode_file).low (omega (arith, wf.some_inodes)) in
        heights_low 0 (wf.sound 0 inode_file).low (beyond image change ++ new_inodes image change) (height_of (root_of image 0)) low

    pub height_low : (i : ℕ) → IsReached image i → 0 < size_of image i → height_after image change i ≤ max_height
    height_low i reached some = heights_low i (wf.sound i reached).low (beyond image change ++ new_inodes image change) (height_of (root_of image i)) ((wf.sound i reached).low some)

    pub inode_slots : (i f : ℕ) → length (inode_word_path image change i f) ≤ suc max_height
    inode_slots i f = omega (arith, length-digits (suc (height_after image change 0)) (8 * i + f), top_low)

    -- the size word, where it is touched
    size_few : (i shortest : ℕ) (earlier : List WordPath) (is : Bool) → length (prefixes_of shortest earlier (if is then inode_word_path image change i 2 ∷ [] else [])) ≤ suc max_height
    size_few i shortest earlier false = omega arith
    size_few i shortest earlier true = omega (arith, alone_few shortest earlier (inode_word_path image change i 2), inode_slots i 2)

-- ---- changes

-- So many blocks, and those that a call thaws besides, leave room for a marker, where each takes a store more than it
-- has words.
abbrev pub IsFew : ℕ → Type 0
IsFew needed = needed ≤ 400

module _ (image : Image) (wf : IsWellFormed image) (i : ℕ) (reached : IsReached image i) where
  -- a file of another size
  pub few_resized : (size : ℕ) → IsFew (need image (resizes i size))
  few_resized size = go (cases_lt (size_of image i) size)
    where
      copies : length (prefixes_of (length (cover_of (is_there_after image (resizes i size)) (touched image (resizes i size)))) [] (touched image (resizes i size))) ≤ suc max_height
      copies = omega (arith, alone_few (length (cover_of (is_there_after image (resizes i size)) (touched image (resizes i size)))) [] (inode_word_path image (resizes i size) i 2), inode_slots image wf (resizes i size) i 2)

      go : (size_of image i < size) ⊎ (size ≤ size_of image i) → IsFew (need image (resizes i size))
      go (inl longer) =
          let prepares = prepared_few image (record { tree = i; from = size; to = size }) 0 (omega arith) (omega arith) (omega (arith, longer)) (wf.sound i reached).low (nat_lt (size_of image i) size) in
          omega (arith, prepares, copies)
      go (inr no_longer) =
          let none : length (flat_map (prepared_for image) (if nat_lt (size_of image i) size then record { tree = i; from = size; to = size } ∷ [] else [])) ≡ 0 = rw (le-ltb (size_of image i) size no_longer) refl in
          omega (arith, none, copies)

module _ (image : Image) (wf : IsWellFormed image) (n : ℕ) (reached : IsReached image (suc n)) (offset len : ℕ) (short : len ≤ max_write) where
  abbrev change : Change
  change = writes (suc n) offset len

  abbrev last : ℕ
  last = min (offset + len) (size_of image (suc n)) - 1

  -- the bytes below the size, and those past it
  abbrev bytes_below : ℕ
  bytes_below = min (offset + len) (size_of image (suc n)) - offset

  abbrev bytes_past : ℕ
  bytes_past = offset + len - max offset (size_of image (suc n))

  -- one leaf more than the bytes fill, one more where they begin and end in the midst of one, and two ways
  copied_few : (shortest : ℕ) (below above : Bool) → nat_lt offset (size_of image (suc n)) ≡ below →
      length (prefixes_of shortest [] (map (content_path image change (suc n)) (if below then range_with_len (offset / 8) (suc (last / 8 - offset / 8)) else []) ++ (if above then inode_word_path image change (suc n) 2 ∷ [] else []))) ≤ bytes_below / 4096 + 24
  copied_few shortest false above at = omega (arith, size_few image wf change (suc n) shortest [] above)
  copied_few shortest true above at =
      let starts : offset < size_of image (suc n) = ltb-true offset (size_of image (suc n)) at in
      let low : height_after image change (suc n) ≤ max_height = height_low image wf change (suc n) reached (omega (arith, starts)) in
      let run = run_few (inode_word_path image change (suc n) 1) (height_after image change (suc n)) low shortest (if above then inode_word_path image change (suc n) 2 ∷ [] else []) (suc max_height)
      (λ earlier. size_few image wf change (suc n) shortest earlier above) (suc (last / 8 - offset / 8)) (offset / 8) in
      let first : length (inode_word_path image change (suc n) 1 ++ digits (suc (height_after image change (suc n))) (offset / 8)) ≡ length (inode_word_path image change (suc n) 1) + length (digits (suc (height_after image change (suc n))) (offset / 8)) =
      length-append (inode_word_path image change (suc n) 1) (digits (suc (height_after image change (suc n))) (offset / 8)) in
      let words : suc (last / 8 - offset / 8) ≤ bytes_below / 8 + 2 = omega (arith, starts) in
      let within : bytes_below ≤ max_write = omega (arith, short) in
      let leaves : suc (last / 8 - offset / 8) / 512 ≤ bytes_below / 4096 + 1 = omega (arith, words) in
      let nodes : suc (last / 8 - offset / 8) / 512 / 512 ≤ 0 = omega (arith, leaves, within) in
      omega (arith, run, first, leaves, nodes, charge_rises (offset / 8) (suc (last / 8 - offset / 8)), low, inode_slots image wf change (suc n) 1, length-digits (suc (height_after image change (suc n))) (offset / 8))

  -- The bytes of one write. The leaves that are made for those past the size and the leaves that are copied for those
  -- below it are those of one write together.
  few_written : IsFew (need image (writes (suc n) offset len))
  few_written =
      let bytes : bytes_below + bytes_past ≤ len = omega arith in
      let prepares = prepared_few image (record { tree = suc n; from = max offset (size_of image (suc n)); to = offset + len }) (bytes_past / 4096 + 1) (omega (arith, bytes, short)) (omega arith) (omega arith) (wf.sound (suc n) reached).low (nat_lt (size_of image (suc n)) (offset + len)) in
      let copies = copied_few (length (cover_of (is_there_after image change) (touched image change))) (nat_lt offset (size_of image (suc n))) (nat_lt (size_of image (suc n)) (offset + len)) refl in
      omega (arith, prepares, copies, bytes, short)

-- the same for any file
pub few_writes : (image : Image) → IsWellFormed image → (i : ℕ) → 1 ≤ i → IsReached image i → (offset len : ℕ) → len ≤ max_write → IsFew (need image (writes i offset len))
few_writes image wf zero low reached offset len short = absurd (omega (arith, low))
few_writes image wf (suc n) low reached offset len short = few_written image wf n reached offset len short

-- a path of a content word
pub content_slots : (image : Image) (wf : IsWellFormed image) (change : Change) (i index : ℕ) → IsReached image i → 0 < size_of image i → length (content_path image change i index) ≤ 2 * suc max_height
content_slots image wf change zero index reached some = omega (arith, length-digits (suc (height_after image change 0)) index, top_low image wf change)
content_slots image wf change (suc n) index reached some =
    omega (arith, length-append (inode_word_path image change (suc n) 1) (digits (suc (height_after image change (suc n))) index), inode_slots image wf change (suc n) 1, length-digits (suc (height_after image change (suc n))) index, height_low image wf change (suc n) reached some)

-- one name fewer
pub few_left : (image : Image) → IsWellFormed image → (i s : ℕ) → IsReached image i → 0 < size_of image i → IsFew (need image (leaves i s))
few_left image wf i s reached some =
    omega (arith, alone_few (length (cover_of (is_there_after image (leaves i s)) (touched image (leaves i s)))) [] (entry_path image (leaves i s) i s 0), content_slots image wf (leaves i s) i (32 * s + 0) reached some)

-- an entry after the last one, where none is empty
pub new_entry_few : (image : Image) → IsWellFormed image → (i : ℕ) → IsReached image i → (slot : Option ℕ) → length (flat_map (prepared_for image) (new_entry image i slot)) ≤ 3 + 3 * max_height
new_entry_few image wf i reached None = prepared_few image (record { tree = i; from = size_of image i; to = size_of image i + entry_size }) 1 (omega arith) (omega arith) (omega arith) (wf.sound i reached).low true
new_entry_few image wf i reached (Some slot) = omega arith

-- one name more
module _ (image : Image) (wf : IsWellFormed image) (i : ℕ) (reached : IsReached image i) (entrant : Entrant) where
  enters_alone : (slot : Option ℕ) → empty_slot image i ≡ slot → (shortest : ℕ) → length (prefixes_of shortest [] (entered image (enters i entrant) i slot ∷ [])) ≤ 2 * suc max_height
  enters_alone None at shortest = omega (arith, alone_few shortest [] (inode_word_path image (enters i entrant) i 2), inode_slots image wf (enters i entrant) i 2)
  enters_alone (Some slot) at shortest =
      let found : Finds (λ s. ino_at image i s == 0) 0 (entry_count image i) slot = find-passes (λ s. ino_at image i s == 0) 0 (entry_count image i) slot at in
      omega (arith, alone_few shortest [] (entry_path image (enters i entrant) i slot 0), content_slots image wf (enters i entrant) i (32 * slot + 0) reached (omega (arith, found.high)))

  inodes_few : (named : Entrant) → length (flat_map (prepared_for image) (new_inodes image (enters i named))) ≤ 3 + 3 * max_height
  inodes_few (taken inode) = omega arith
  inodes_few grown = prepared_few image (record { tree = 0; from = size_of image 0; to = size_of image 0 + block_size }) 1 (omega arith) (omega arith) (omega arith) (wf.sound 0 inode_file).low true
  inodes_few linked = omega arith

  pub few_entered : IsFew (need image (enters i entrant))
  few_entered =
      omega (arith, new_entry_few image wf i reached (empty_slot image i), inodes_few entrant, enters_alone (empty_slot image i) refl (length (cover_of (is_there_after image (enters i entrant)) (touched image (enters i entrant)))))
