-- A change of an image costs as much where its trees stand in other blocks: it touches the same words, has the same cover,
-- and needs as many blocks.
use Rattle.std.proofs.Common.{◌≡◌, ◌≢◌, ◌⊎◌, ℕ, zero, suc, ◌+◌, ◌-◌, ◌*◌, ◌/◌, ◌%◌, ◌^◌, ◌<◌, ◌≤◌, max, List, [], ◌∷◌, ◌++◌, length, take, drop, map, filter, flat_map, fold, Bool, true, false, not, ◌&&◌, ◌||◌, ◌==◌, nat_lt, nat_le, Option, None, Some, find, if◌then◌else◌, refl, sym, ◌∙◌, ap, ap₂, subst, arith, inl, inr, pow-suc, append_assoc}
use Rattle.std.specs.List.{range_with_len, list_any}
use Rattle.std.proofs.lemmas.Bool.{cases_lt, le-leb, ne_eqb}
use Rattle.std.proofs.lemmas.List.{append-nil, length-append, take-append-le}
use Rattle.std.proofs.lemmas.List.Sums.{fold-append}
use Rattle.std.proofs.Math.Nat.{div-lt_iff_lt-mul, pow-le-pow_right}
use Rattle.std.proofs.Math.Seq.{take-append_seam}
use Rattle.bp_limits.specs.Limits.{attribute_field}
use Rattle.bp_layout.specs.Words.{Image, block_of, height_of}
use Rattle.bp_layout.specs.Tree.{span, IsSound}
use Rattle.bp_layout.specs.Inode.{IsDirectory, inode_count, root_of, size_of}
use Rattle.bp_layout.specs.Directory.{empty_slot, ino_at, slots}
use Rattle.bp_layout.specs.Members.{Each}
use Rattle.bp_layout.specs.Nodes.{TreeNode, height_for, height_with, is_present, nodes_for, nodes_over, raised_nodes}
use Rattle.bp_layout.specs.Need.{Beyond, Change, Stretch, beyond, common, common_all, content_path_at, copied, cover, cover_of, entered_at, entry_path_at, existing_from, growth, height_after, is_there, is_there_after, need, new_entry, new_inodes, path_number, pointed, prefixes_of, prepared_for, preparation, same_node, stretch_paths, touched, touched_at}
use Rattle.bp_layout.specs.Need.Change.{writes, resizes, enters, leaves, replaces, moves, respells, overwrites, sets}
use Rattle.bp_layout.specs.Need.Entrant.{taken, grown, linked}
use Rattle.bp_layout.specs.Reached.{IsReached}
use Rattle.bp_layout.specs.Thaw.{cover_now, end_targets, entry_targets, heights_now, is_there_now, slot_target, targets}
use Rattle.bp_layout.specs.Reached.IsReached.{inode_file}
use Rattle.bp_layout.specs.WellFormed.{IsWellFormed}
use Rattle.bp_layout.specs.WordPaths.{WordPath, digits, inode_path, tree_path}
use Rattle.bp_layout.proofs.Finding.{find-same}
use Rattle.bp_layout.proofs.MemberLaws.{each-append}
use Rattle.bp_layout.proofs.Reached.{reached-in_file}
use Rattle.bp_layout.proofs.TreeLaws.{tree_word-zero}
use Rattle.bp_changes.specs.Thawed.{SameShape}

-- ---- lists

map_pointwise : {A B : Type 0} (f g : A → B) → ((x : A) → f x ≡ g x) → (xs : List A) → map f xs ≡ map g xs
map_pointwise f g alike [] = refl
map_pointwise f g alike (x ∷ xs) = ap₂ (λ y ys. y ∷ ys) (alike x) (map_pointwise f g alike xs)

filter_pointwise : {A : Type 0} (p q : A → Bool) → ((x : A) → p x ≡ q x) → (xs : List A) → filter p xs ≡ filter q xs
filter_pointwise p q alike [] = refl
filter_pointwise p q alike (x ∷ xs) = rw (alike x, filter_pointwise p q alike xs) refl

each-map : {A B : Type 0} (P : B → Type 0) (f : A → B) → ((x : A) → P (f x)) → (xs : List A) → Each P (map f xs)
each-map P f all [] = tt
each-map P f all (x ∷ xs) = (all x, each-map P f all xs)

-- ---- prefixes of paths

-- tests that answer alike at each proper prefix of a path let as much of it exist
existing-same : (p q : WordPath → Bool) (here path : WordPath) → ((prefix : WordPath) (slot : ℕ) (rest : WordPath) → here ++ path ≡ prefix ++ slot ∷ rest → p prefix ≡ q prefix) → existing_from p here path ≡ existing_from q here path
existing-same p q here [] alike = refl
existing-same p q here (slot ∷ path) alike =
    let rest : existing_from p (here ++ slot ∷ []) path ≡ existing_from q (here ++ slot ∷ []) path =
    existing-same p q (here ++ slot ∷ []) path (λ prefix next more e. alike prefix next more (sym (append_assoc here (slot ∷ []) path) ∙ e)) in
    rw (alike here slot path refl, rest) refl

-- what two paths begin with is a prefix of the first
common-prefix : (p q : WordPath) → (rest : WordPath) × (p ≡ common p q ++ rest)
common-prefix [] q = ([], refl)
common-prefix (slot ∷ p) [] = (slot ∷ p, refl)
common-prefix (slot ∷ p) (also ∷ q) = go (slot == also) (common-prefix p q)
  where
    go : (b : Bool) → ((rest : WordPath) × (p ≡ common p q ++ rest)) → (rest : WordPath) × (slot ∷ p ≡ (if b then slot ∷ common p q else []) ++ rest)
    go true inner = (inner.0, ap (λ (ds : WordPath). slot ∷ ds) inner.1)
    go false inner = (slot ∷ p, refl)

-- so is what several begin with
all-prefix : (paths : List WordPath) (p : WordPath) → (rest : WordPath) × (p ≡ fold common p paths ++ rest)
all-prefix [] p = ([], sym (append-nil p))
all-prefix (q ∷ paths) p =
    let one = common-prefix p q in
    let more = all-prefix paths (common p q) in
    (more.0 ++ one.0, one.1 ∙ ap (λ (ds : WordPath). ds ++ one.0) more.1 ∙ append_assoc (fold common (common p q) paths) more.0 one.0)

-- ---- digits

length_digits : (count index : ℕ) → length (digits count index) ≡ count
length_digits zero index = refl
length_digits (suc count) index = length-append (digits count (index / 512)) (index % 512 ∷ []) ∙ omega (arith, length_digits count (index / 512))

number_digits : (count index : ℕ) → index < 512 ^ count → path_number (digits count index) ≡ index
number_digits zero index low = omega (arith, low)
number_digits (suc count) index low =
    let few : index < 512 ^ count * 512 = rw pow-suc at low in
    let above : index / 512 < 512 ^ count = (div-lt_iff_lt-mul {k = 512} {x = index} {y = 512 ^ count} (omega arith)).1 (omega (arith, few)) in
    let number : path_number (digits count (index / 512)) ≡ index / 512 = number_digits count (index / 512) above in
    fold-append (λ (n : ℕ) (d : ℕ). 512 * n + d) 0 (digits count (index / 512)) (index % 512 ∷ []) ∙ omega (arith, number)

-- ---- the nodes for some bytes

-- whether a tree has blocks is whether its topmost node is present
root-test : (image : Image) (root size : ℕ) → is_present image root size (record { level = height_of root; index = 0 }) ≡ (nat_lt 0 size && not (block_of root == 0))
root-test image root size =
    let none : 0 * span (height_of root) ≡ 0 = omega arith in
    let top : height_of root - height_of root ≡ 0 = omega arith in
    rw (le-leb (height_of root) (height_of root) (omega arith), none, top, tree_word-zero image root 0) refl

abbrev raised_by : Bool → ℕ → ℕ → List TreeNode
raised_by some low high = if some then map (λ level. record { level = level; index = 0 }) (range_with_len (suc low) (high - low)) else []

nodes-same : (old new : Image) (r q s : ℕ) → height_of q ≡ height_of r → ((n : TreeNode) → is_present new q s n ≡ is_present old r s n) → (from to : ℕ) → nodes_for new q s from to ≡ nodes_for old r s from to
nodes-same old new r q s heights present from to =
    let tall : height_with q s to ≡ height_with r s to = ap (λ h. if s == 0 then height_for to else max h (height_for to)) heights in
    let tests : (nat_lt 0 s && not (block_of q == 0)) ≡ (nat_lt 0 s && not (block_of r == 0)) =
    sym (root-test new q s) ∙ present (record { level = height_of q; index = 0 }) ∙ ap (λ l. is_present old r s (record { level = l; index = 0 })) heights ∙ root-test old r s in
    let above : raised_nodes q s to ≡ raised_nodes r s to =
    ap (λ b. raised_by b (height_of q) (height_with q s to)) tests ∙ ap₂ (raised_by (nat_lt 0 s && not (block_of r == 0))) heights tall in
    let made : filter (λ n. not (is_present new q s n)) (flat_map (nodes_over from to) (range_with_len 0 (suc (height_with q s to)))) ≡ filter (λ n. not (is_present old r s n)) (flat_map (nodes_over from to) (range_with_len 0 (suc (height_with r s to)))) =
    filter_pointwise (λ n. not (is_present new q s n)) (λ n. not (is_present old r s n)) (λ n. ap not (present n)) (flat_map (nodes_over from to) (range_with_len 0 (suc (height_with q s to))))
    ∙ ap (λ w. filter (λ n. not (is_present old r s n)) (flat_map (nodes_over from to) (range_with_len 0 (suc w)))) tall in
    ap₂ (λ (xs ys : List TreeNode). if nat_lt from to then xs ++ filter (λ n. nat_le (span n.level) from) ys else ys) made above

-- ---- heights after a preparation

abbrev height_by : ℕ → ℕ → ℕ → ℕ → List Beyond → ℕ
height_by low size t h bs = fold (λ h b. if b.tree == t then (if size == 0 then height_for b.to else max low (height_for b.to)) else h) h bs

height-rises : (low size t h : ℕ) → size ≢ 0 → low ≤ h → (bs : List Beyond) → low ≤ height_by low size t h bs
height-rises low size t h some up [] = up
height-rises low size t h some up (b ∷ bs) = height-rises low size t (if b.tree == t then (if size == 0 then height_for b.to else max low (height_for b.to)) else h) some (go (b.tree == t)) bs
  where
    go : (is : Bool) → low ≤ (if is then (if size == 0 then height_for b.to else max low (height_for b.to)) else h)
    go true = rw (ne_eqb size 0 some) (omega arith)
    go false = up

-- ---- the trees that a change names

-- They are reached, and those that get an entry are directories.
abbrev pub IsOfReached : Image → Change → Type 0
IsOfReached image (writes i offset len) = IsReached image i
IsOfReached image (resizes i size) = IsReached image i
IsOfReached image (enters i entrant) = IsReached image i × IsDirectory image i
IsOfReached image (leaves i s) = IsReached image i
IsOfReached image (replaces i s j r) = IsReached image i × IsReached image j
IsOfReached image (moves i s j) = IsReached image i × (IsReached image j × IsDirectory image j)
IsOfReached image (respells i s len) = IsReached image i
IsOfReached image (overwrites stretches) = Each (λ stretch. IsReached image stretch.inode) stretches
IsOfReached image (sets i k) = IsReached image i

each-if : {A : Type 0} (P : A → Type 0) (b : Bool) (xs : List A) → Each P xs → Each P (if b then xs else [])
each-if P true xs all = all
each-if P false xs all = tt

module _ (old new : Image) (shape : SameShape old new) where
  -- ---- what is prepared

  pub empty-same : (i : ℕ) → IsReached old i → IsDirectory old i → empty_slot new i ≡ empty_slot old i
  empty-same i reached kind =
      ap (λ s. find (λ slot. ino_at new i slot == 0) (slots s)) (shape.sizes i reached)
      ∙ find-same (λ slot. ino_at new i slot == 0) (λ slot. ino_at old i slot == 0) 0 (size_of old i / 256) (λ k low high. ap (λ n. n == 0) (shape.meaning.ino i k reached kind (omega (arith, high))))

  new_entry-same : (i : ℕ) → IsReached old i → (slot : Option ℕ) → new_entry new i slot ≡ new_entry old i slot
  new_entry-same i reached None = ap (λ s. record { tree = i; from = s; to = s + 256 } ∷ []) (shape.sizes i reached)
  new_entry-same i reached (Some slot) = refl

  entry-same : (i : ℕ) → IsReached old i → IsDirectory old i → new_entry new i (empty_slot new i) ≡ new_entry old i (empty_slot old i)
  entry-same i reached kind = ap (new_entry new i) (empty-same i reached kind) ∙ new_entry-same i reached (empty_slot old i)

  pub beyond-same : (change : Change) → IsOfReached old change → beyond new change ≡ beyond old change
  beyond-same (writes i offset len) of = rw (shape.sizes i of) refl
  beyond-same (resizes i size) of = rw (shape.sizes i of) refl
  beyond-same (enters i entrant) of = entry-same i of.0 of.1
  beyond-same (leaves i s) of = refl
  beyond-same (replaces i s j r) of = refl
  beyond-same (moves i s j) of = entry-same j of.1.0 of.1.1
  beyond-same (respells i s len) of = refl
  beyond-same (overwrites stretches) of = refl
  beyond-same (sets i k) of = refl

  pub new_inodes-same : (change : Change) → new_inodes new change ≡ new_inodes old change
  new_inodes-same (writes i offset len) = refl
  new_inodes-same (resizes i size) = refl
  new_inodes-same (enters i (taken j)) = refl
  new_inodes-same (enters i grown) = ap (λ s. record { tree = 0; from = s; to = s + 4096 } ∷ []) (shape.sizes 0 inode_file)
  new_inodes-same (enters i linked) = refl
  new_inodes-same (leaves i s) = refl
  new_inodes-same (replaces i s j r) = refl
  new_inodes-same (moves i s j) = refl
  new_inodes-same (respells i s len) = refl
  new_inodes-same (overwrites stretches) = refl
  new_inodes-same (sets i k) = refl

  abbrev OfReached : List Beyond → Type 0
  OfReached bs = Each (λ b. IsReached old b.tree) bs

  entry-reached : (i : ℕ) → IsReached old i → (slot : Option ℕ) → OfReached (new_entry old i slot)
  entry-reached i reached None = (reached, tt)
  entry-reached i reached (Some slot) = tt

  beyond-reached : (change : Change) → IsOfReached old change → OfReached (beyond old change)
  beyond-reached (writes i offset len) of = each-if _ (nat_lt (size_of old i) (offset + len)) _ (of, tt)
  beyond-reached (resizes i size) of = each-if _ (nat_lt (size_of old i) size) _ (of, tt)
  beyond-reached (enters i entrant) of = entry-reached i of.0 (empty_slot old i)
  beyond-reached (leaves i s) of = tt
  beyond-reached (replaces i s j r) of = tt
  beyond-reached (moves i s j) of = entry-reached j of.1.0 (empty_slot old j)
  beyond-reached (respells i s len) of = tt
  beyond-reached (overwrites stretches) of = tt
  beyond-reached (sets i k) of = tt

  inodes-reached : (change : Change) → OfReached (new_inodes old change)
  inodes-reached (writes i offset len) = tt
  inodes-reached (resizes i size) = tt
  inodes-reached (enters i (taken j)) = tt
  inodes-reached (enters i grown) = (inode_file, tt)
  inodes-reached (enters i linked) = tt
  inodes-reached (leaves i s) = tt
  inodes-reached (replaces i s j r) = tt
  inodes-reached (moves i s j) = tt
  inodes-reached (respells i s len) = tt
  inodes-reached (overwrites stretches) = tt
  inodes-reached (sets i k) = tt

  prepared-same : (b : Beyond) → IsReached old b.tree → prepared_for new b ≡ prepared_for old b
  prepared-same b reached =
      ap (map (λ n. (b.tree, n)))
      (ap (λ s. nodes_for new (root_of new b.tree) s b.from b.to) (shape.sizes b.tree reached)
      ∙ nodes-same old new (root_of old b.tree) (root_of new b.tree) (size_of old b.tree) (shape.heights b.tree reached)
      (λ n. ap (λ s. is_present new (root_of new b.tree) s n) (sym (shape.sizes b.tree reached)) ∙ shape.present b.tree reached n) b.from b.to)

  all-prepared : (bs : List Beyond) → OfReached bs → flat_map (prepared_for new) bs ≡ flat_map (prepared_for old) bs
  all-prepared [] all = refl
  all-prepared (b ∷ bs) all = ap₂ (λ (xs ys : List (ℕ × TreeNode)). xs ++ ys) (prepared-same b all.0) (all-prepared bs all.1)

  pub preparation-same : (change : Change) → IsOfReached old change → preparation new change ≡ preparation old change
  preparation-same change of = ap (flat_map (prepared_for new)) (beyond-same change of) ∙ all-prepared (beyond old change) (beyond-reached change of)

  pub growth-same : (change : Change) → growth new change ≡ growth old change
  growth-same change = ap (flat_map (prepared_for new)) (new_inodes-same change) ∙ all-prepared (new_inodes old change) (inodes-reached change)

  pub height-same : (change : Change) → IsOfReached old change → (t : ℕ) → IsReached old t → height_after new change t ≡ height_after old change t
  height-same change of t reached =
      ap (λ h. height_by h (size_of new t) t h (beyond new change ++ new_inodes new change)) (shape.heights t reached)
      ∙ ap (λ s. height_by (height_of (root_of old t)) s t (height_of (root_of old t)) (beyond new change ++ new_inodes new change)) (shape.sizes t reached)
      ∙ ap (height_by (height_of (root_of old t)) (size_of old t) t (height_of (root_of old t))) (ap₂ (λ (xs ys : List Beyond). xs ++ ys) (beyond-same change of) (new_inodes-same change))

  -- ---- what is touched

  module _ (g h : ℕ → ℕ) (alike : (t : ℕ) → IsReached old t → g t ≡ h t) where
    content-same : (t : ℕ) → IsReached old t → (index : ℕ) → content_path_at g t index ≡ content_path_at h t index
    content-same t reached index = ap₂ (λ (a b : ℕ). tree_path a t (suc b) index) (alike 0 inode_file) (alike t reached)

    entry_path-same : (i : ℕ) → IsReached old i → (slot f : ℕ) → entry_path_at g i slot f ≡ entry_path_at h i slot f
    entry_path-same i reached slot f = content-same i reached (32 * slot + f)

    size_path-same : (i : ℕ) → inode_path (g 0) i 2 ≡ inode_path (h 0) i 2
    size_path-same i = ap (λ (a : ℕ). inode_path a i 2) (alike 0 inode_file)

    entered-same : (i : ℕ) → IsReached old i → (slot : Option ℕ) → entered_at g i slot ≡ entered_at h i slot
    entered-same i reached None = size_path-same i
    entered-same i reached (Some slot) = entry_path-same i reached slot 0

    entry_at-same : (i : ℕ) → IsReached old i → IsDirectory old i → entered_at g i (empty_slot new i) ≡ entered_at h i (empty_slot old i)
    entry_at-same i reached kind = ap (entered_at g i) (empty-same i reached kind) ∙ entered-same i reached (empty_slot old i)

    stretches-same : (stretches : List Stretch) → Each (λ stretch. IsReached old stretch.inode) stretches → flat_map (stretch_paths g) stretches ≡ flat_map (stretch_paths h) stretches
    stretches-same [] all = refl
    stretches-same (s ∷ stretches) all =
        ap₂ (λ (xs ys : List WordPath). xs ++ ys)
        (ap (λ (xs : List WordPath). if s.len == 0 then [] else xs) (map_pointwise (content_path_at g s.inode) (content_path_at h s.inode) (content-same s.inode all.0) (range_with_len (s.offset / 8) (suc ((s.offset + s.len - 1) / 8 - s.offset / 8)))))
        (stretches-same stretches all.1)

    touched-same : (change : Change) → IsOfReached old change → touched_at g new change ≡ touched_at h old change
    touched-same (writes i offset len) of =
        rw (shape.sizes i of)
        (ap₂ (λ (xs ys : List WordPath). xs ++ ys) (map_pointwise (content_path_at g i) (content_path_at h i) (content-same i of) _)
        (ap (λ (p : WordPath). if nat_lt (size_of old i) (offset + len) then p ∷ [] else []) (size_path-same i)))
    touched-same (resizes i size) of = ap (λ (p : WordPath). p ∷ []) (size_path-same i)
    touched-same (enters i entrant) of = ap (λ (p : WordPath). p ∷ []) (entry_at-same i of.0 of.1)
    touched-same (leaves i s) of = ap (λ (p : WordPath). p ∷ []) (entry_path-same i of s 0)
    touched-same (replaces i s j r) of = ap₂ (λ (p q : WordPath). p ∷ q ∷ []) (entry_path-same i of.0 s 0) (entry_path-same j of.1 r 0)
    touched-same (moves i s j) of = ap₂ (λ (p q : WordPath). p ∷ q ∷ []) (entry_at-same j of.1.0 of.1.1) (entry_path-same i of.0 s 0)
    touched-same (respells i s len) of = map_pointwise (entry_path_at g i s) (entry_path_at h i s) (entry_path-same i of s) (range_with_len 1 (suc ((len + 7) / 8)))
    touched-same (overwrites stretches) of = stretches-same stretches of
    touched-same (sets i k) of = ap (λ (a : ℕ). inode_path a i (attribute_field + k) ∷ []) (alike 0 inode_file)

  -- ---- each proper prefix of a touched path leads to a node of the inode file, or of a tree that is reached

  module _ (h : ℕ → ℕ) (small : (t : ℕ) → IsReached old t → 8 * t + 1 < 512 ^ suc (h 0)) where
    abbrev OnTrees : WordPath → Type 0
    OnTrees path = (prefix : WordPath) (slot : ℕ) (rest : WordPath) → path ≡ prefix ++ slot ∷ rest → (length prefix ≤ h 0) ⊎ IsReached old (path_number (take (suc (h 0)) prefix) / 8)

    digits-on : (index : ℕ) → OnTrees (digits (suc (h 0)) index)
    digits-on index prefix slot rest e =
        let long : length (digits (suc (h 0)) index) ≡ suc (h 0) = length_digits (suc (h 0)) index in
        let whole : length (digits (suc (h 0)) index) ≡ length prefix + suc (length rest) = ap length e ∙ length-append prefix (slot ∷ rest) in
        inl (omega (arith, long, whole))

    content-on : (t : ℕ) → IsReached old t → (index : ℕ) → OnTrees (content_path_at h t index)
    content-on zero reached index prefix slot rest e = digits-on index prefix slot rest e
    content-on (suc i) reached index prefix slot rest e = go (cases_lt (h 0) (length prefix))
      where
        long : length (inode_path (h 0) (suc i) 1) ≡ suc (h 0)
        long = length_digits (suc (h 0)) (8 * suc i + 1)

        begins : take (suc (h 0)) (inode_path (h 0) (suc i) 1 ++ digits (suc (h (suc i))) index) ≡ inode_path (h 0) (suc i) 1
        begins = ap (λ n. take n (inode_path (h 0) (suc i) 1 ++ digits (suc (h (suc i))) index)) (sym long) ∙ take-append_seam (inode_path (h 0) (suc i) 1) (digits (suc (h (suc i))) index)

        tree : h 0 < length prefix → path_number (take (suc (h 0)) prefix) / 8 ≡ suc i
        tree high =
            let same : take (suc (h 0)) prefix ≡ inode_path (h 0) (suc i) 1 = sym (take-append-le (suc (h 0)) prefix (slot ∷ rest) high) ∙ ap (take (suc (h 0))) (sym e) ∙ begins in
            let number : path_number (take (suc (h 0)) prefix) ≡ 8 * suc i + 1 = ap path_number same ∙ number_digits (suc (h 0)) (8 * suc i + 1) (small (suc i) reached) in
            omega (arith, number)

        go : (h 0 < length prefix) ⊎ (length prefix ≤ h 0) → (length prefix ≤ h 0) ⊎ IsReached old (path_number (take (suc (h 0)) prefix) / 8)
        go (inl high) = inr (subst (IsReached old) (sym (tree high)) reached)
        go (inr low) = inl low

    entered-on : (i : ℕ) → IsReached old i → (slot : Option ℕ) → OnTrees (entered_at h i slot)
    entered-on i reached None = digits-on (8 * i + 2)
    entered-on i reached (Some slot) = content-on i reached (32 * slot + 0)

    stretches-on : (stretches : List Stretch) → Each (λ stretch. IsReached old stretch.inode) stretches → Each OnTrees (flat_map (stretch_paths h) stretches)
    stretches-on [] all = tt
    stretches-on (s ∷ stretches) all = each-append OnTrees (stretch_paths h s) (flat_map (stretch_paths h) stretches) (go (s.len == 0)) (stretches-on stretches all.1)
      where
        go : (b : Bool) → Each OnTrees (if b then [] else map (content_path_at h s.inode) (range_with_len (s.offset / 8) (suc ((s.offset + s.len - 1) / 8 - s.offset / 8))))
        go true = tt
        go false = each-map OnTrees (content_path_at h s.inode) (content-on s.inode all.0) (range_with_len (s.offset / 8) (suc ((s.offset + s.len - 1) / 8 - s.offset / 8)))

    touched-on : (change : Change) → IsOfReached old change → Each OnTrees (touched_at h old change)
    touched-on (writes i offset len) of =
        each-append OnTrees _ (if nat_lt (size_of old i) (offset + len) then inode_path (h 0) i 2 ∷ [] else []) (each-map OnTrees (content_path_at h i) (content-on i of) _)
        (each-if OnTrees (nat_lt (size_of old i) (offset + len)) (inode_path (h 0) i 2 ∷ []) (digits-on (8 * i + 2), tt))
    touched-on (resizes i size) of = (digits-on (8 * i + 2), tt)
    touched-on (enters i entrant) of = (entered-on i of.0 (empty_slot old i), tt)
    touched-on (leaves i s) of = (content-on i of (32 * s + 0), tt)
    touched-on (replaces i s j r) of = (content-on i of.0 (32 * s + 0), (content-on j of.1 (32 * r + 0), tt))
    touched-on (moves i s j) of = (entered-on j of.1.0 (empty_slot old j), (content-on i of.0 (32 * s + 0), tt))
    touched-on (respells i s len) of = each-map OnTrees (entry_path_at h i s) (λ f. content-on i of (32 * s + f)) (range_with_len 1 (suc ((len + 7) / 8)))
    touched-on (overwrites stretches) of = stretches-on stretches of
    touched-on (sets i k) of = (digits-on (8 * i + (attribute_field + k)), tt)

    -- so does each proper prefix of what they begin with
    common-on : (paths : List WordPath) → Each OnTrees paths → OnTrees (common_all paths)
    common-on [] all prefix slot rest e = absurd (no_prefix prefix e)
      where
        no_prefix : (prefix : WordPath) → [] ≡ prefix ++ slot ∷ rest → ⊥
        no_prefix prefix e = let whole : 0 ≡ length prefix + suc (length rest) = ap length e ∙ length-append prefix (slot ∷ rest) in omega (arith, whole)
    common-on (path ∷ paths) all prefix slot rest e =
        let more = all-prefix paths path in
        all.0 prefix slot (rest ++ more.0) (more.1 ∙ ap (λ (p : WordPath). p ++ more.0) e ∙ append_assoc prefix (slot ∷ rest) more.0)

  -- ---- where a path leads

  -- the node, where it is reported whether it is one of the inode file
  abbrev node_by : (ℕ → ℕ) → ℕ → WordPath → Bool → ℕ × TreeNode
  node_by h top path in_inodes =
      if in_inodes then (0, record { level = top - length path; index = path_number path })
      else (path_number (take (suc top) path) / 8, record { level = h (path_number (take (suc top) path) / 8) - (length path - suc top); index = path_number (drop (suc top) path) })

  -- heights that are the same of the inode file and of the tree in question
  pointed-same : (g h : ℕ → ℕ) (path : WordPath) → g 0 ≡ h 0 → (length path ≤ h 0) ⊎ (g (path_number (take (suc (h 0)) path) / 8) ≡ h (path_number (take (suc (h 0)) path) / 8)) → pointed g path ≡ pointed h path
  pointed-same g h path low either = ap (λ top. node_by g top path (nat_le (length path) top)) low ∙ at either
    where
      go : (b : Bool) → g (path_number (take (suc (h 0)) path) / 8) ≡ h (path_number (take (suc (h 0)) path) / 8) → node_by g (h 0) path b ≡ node_by h (h 0) path b
      go true same = refl
      go false same = ap (λ (l : ℕ). node_by (λ t. l) (h 0) path false) same

      at : (length path ≤ h 0) ⊎ (g (path_number (take (suc (h 0)) path) / 8) ≡ h (path_number (take (suc (h 0)) path) / 8)) → node_by g (h 0) path (nat_le (length path) (h 0)) ≡ node_by h (h 0) path (nat_le (length path) (h 0))
      at (inl short) = ap (node_by g (h 0) path) (le-leb (length path) (h 0) short) ∙ sym (ap (node_by h (h 0) path) (le-leb (length path) (h 0) short))
      at (inr same) = go (nat_le (length path) (h 0)) same

  pointed-reached : (h : ℕ → ℕ) (path : WordPath) → (length path ≤ h 0) ⊎ IsReached old (path_number (take (suc (h 0)) path) / 8) → IsReached old ((pointed h path).0)
  pointed-reached h path (inl short) = subst (λ b. IsReached old ((node_by h (h 0) path b).0)) (sym (le-leb (length path) (h 0) short)) inode_file
  pointed-reached h path (inr reached) = go (nat_le (length path) (h 0))
    where
      go : (b : Bool) → IsReached old ((node_by h (h 0) path b).0)
      go true = inode_file
      go false = reached

-- ---- a change of reached trees, in both images

module _ (old new : Image) (wf : IsWellFormed old) (shape : SameShape old new) (change : Change) (of : IsOfReached old change) where
  heights : (t : ℕ) → IsReached old t → height_after new change t ≡ height_after old change t
  heights = height-same old new shape change of

  -- the inode word of a reached tree has a place in the inode file
  small : (t : ℕ) → IsReached old t → 8 * t + 1 < 512 ^ suc (height_after old change 0)
  small t reached =
      let inside : t < inode_count old = reached-in_file old wf t reached in
      let inodes : IsSound old (root_of old 0) (size_of old 0) = wf.sound 0 inode_file in
      let fits : size_of old 0 ≤ 8 * 512 ^ suc (height_of (root_of old 0)) = inodes.fits in
      let rises : height_of (root_of old 0) ≤ height_after old change 0 =
      height-rises (height_of (root_of old 0)) (size_of old 0) 0 (height_of (root_of old 0)) (λ e. omega (arith, inside, e)) (omega arith) (beyond old change ++ new_inodes old change) in
      let more : 512 ^ suc (height_of (root_of old 0)) ≤ 512 ^ suc (height_after old change 0) = pow-le-pow_right (omega arith) (omega (arith, rises)) in
      omega (arith, inside, fits, more)

  there-same : (n : ℕ × TreeNode) → IsReached old n.0 → is_there new change n ≡ is_there old change n
  there-same n reached =
      ap (λ b. b || list_any (same_node n) (preparation new change) || list_any (same_node n) (growth new change)) (shape.present n.0 reached n.1)
      ∙ ap₂ (λ (xs ys : List (ℕ × TreeNode)). is_present old (root_of old n.0) (size_of old n.0) n.1 || list_any (same_node n) xs || list_any (same_node n) ys) (preparation-same old new shape change of) (growth-same old new shape change)

  prefix-same : (path : WordPath) → (length path ≤ height_after old change 0) ⊎ IsReached old (path_number (take (suc (height_after old change 0)) path) / 8) → is_there_after new change path ≡ is_there_after old change path
  prefix-same path on =
      ap (is_there new change) (pointed-same old new shape (height_after new change) (height_after old change) path (heights 0 inode_file) (alike on))
      ∙ there-same (pointed (height_after old change) path) (pointed-reached old new shape (height_after old change) path on)
    where
      alike : (length path ≤ height_after old change 0) ⊎ IsReached old (path_number (take (suc (height_after old change 0)) path) / 8) →
          (length path ≤ height_after old change 0) ⊎ (height_after new change (path_number (take (suc (height_after old change 0)) path) / 8) ≡ height_after old change (path_number (take (suc (height_after old change 0)) path) / 8))
      alike (inl short) = inl short
      alike (inr reached) = inr (heights (path_number (take (suc (height_after old change 0)) path) / 8) reached)

  pub touched-shape : touched new change ≡ touched old change
  touched-shape = touched-same old new shape (height_after new change) (height_after old change) heights change of

  pub cover-shape : cover new change ≡ cover old change
  cover-shape =
      ap (cover_of (is_there_after new change)) touched-shape
      ∙ existing-same (is_there_after new change) (is_there_after old change) [] (common_all (touched old change))
      (λ prefix slot rest e. prefix-same prefix (common-on old new shape (height_after old change) small (touched old change) (touched-on old new shape (height_after old change) small change of) prefix slot rest e))

  pub copied-shape : copied new change ≡ copied old change
  copied-shape = ap₂ (λ (c : WordPath) (paths : List WordPath). prefixes_of (length c) [] paths) cover-shape touched-shape

  pub need-shape : need new change ≡ need old change
  need-shape =
      let made : length (preparation new change) ≡ length (preparation old change) = ap length (preparation-same old new shape change of) in
      let grown : length (growth new change) ≡ length (growth old change) = ap length (growth-same old new shape change) in
      let copies : length (copied new change) ≡ length (copied old change) = ap length copied-shape in
      omega (arith, made, grown, copies)

  -- ---- before it is prepared

  -- the inode word of a reached tree has a place in the inode file as it is
  small_now : (t : ℕ) → IsReached old t → 8 * t + 1 < 512 ^ suc (heights_now old 0)
  small_now t reached =
      let inside : t < inode_count old = reached-in_file old wf t reached in
      let fits : size_of old 0 ≤ 8 * 512 ^ suc (height_of (root_of old 0)) = (wf.sound 0 inode_file).fits in
      omega (arith, inside, fits)

  prefix_now-same : (path : WordPath) → (length path ≤ heights_now old 0) ⊎ IsReached old (path_number (take (suc (heights_now old 0)) path) / 8) → is_there_now new path ≡ is_there_now old path
  prefix_now-same path on =
      ap (λ (n : ℕ × TreeNode). is_present new (root_of new n.0) (size_of new n.0) n.1) (pointed-same old new shape (heights_now new) (heights_now old) path (shape.heights 0 inode_file) (alike on))
      ∙ shape.present (pointed (heights_now old) path).0 (pointed-reached old new shape (heights_now old) path on) (pointed (heights_now old) path).1
    where
      alike : (length path ≤ heights_now old 0) ⊎ IsReached old (path_number (take (suc (heights_now old 0)) path) / 8) →
          (length path ≤ heights_now old 0) ⊎ (heights_now new (path_number (take (suc (heights_now old 0)) path) / 8) ≡ heights_now old (path_number (take (suc (heights_now old 0)) path) / 8))
      alike (inl short) = inl short
      alike (inr reached) = inr (shape.heights (path_number (take (suc (heights_now old 0)) path) / 8) reached)

  pub cover_now-shape : cover_now new change ≡ cover_now old change
  cover_now-shape =
      ap (cover_of (is_there_now new)) (touched-same old new shape (heights_now new) (heights_now old) shape.heights change of)
      ∙ existing-same (is_there_now new) (is_there_now old) [] (common_all (touched_at (heights_now old) old change))
      (λ prefix slot rest e. prefix_now-same prefix (common-on old new shape (heights_now old) small_now (touched_at (heights_now old) old change) (touched-on old new shape (heights_now old) small_now change of) prefix slot rest e))

  end-same : (b : Beyond) → IsReached old b.tree → end_targets new b ≡ end_targets old b
  end-same b reached = rw (shape.sizes b.tree reached, shape.heights b.tree reached, shape.heights 0 inode_file) refl

  ends-same : (bs : List Beyond) → OfReached old new shape bs → flat_map (end_targets new) bs ≡ flat_map (end_targets old) bs
  ends-same [] all = refl
  ends-same (b ∷ bs) all = ap₂ (λ (xs ys : List WordPath). xs ++ ys) (end-same b all.0) (ends-same bs all.1)

  slot-same : (j : ℕ) → IsReached old j → (slot : Option ℕ) → slot_target new j slot ≡ slot_target old j slot
  slot-same j reached None = refl
  slot-same j reached (Some slot) = ap (λ (p : WordPath). p ∷ []) (entry_path-same old new shape (heights_now new) (heights_now old) shape.heights j reached slot 0)

  entry_targets-same : (change : Change) → IsOfReached old change → entry_targets new change ≡ entry_targets old change
  entry_targets-same (writes i offset len) of = refl
  entry_targets-same (resizes i size) of = refl
  entry_targets-same (enters i (taken j)) of = ap (λ (h : ℕ). inode_path h j 0 ∷ []) (shape.heights 0 inode_file)
  entry_targets-same (enters i grown) of = refl
  entry_targets-same (enters i linked) of = refl
  entry_targets-same (leaves i s) of = refl
  entry_targets-same (replaces i s j r) of = refl
  entry_targets-same (moves i s j) of = ap (slot_target new j) (empty-same old new shape j of.1.0 of.1.1) ∙ slot-same j of.1.0 (empty_slot old j)
  entry_targets-same (respells i s len) of = refl
  entry_targets-same (overwrites stretches) of = refl
  entry_targets-same (sets i k) of = refl

  -- so the words near which it stores are the same
  pub targets-shape : targets new change ≡ targets old change
  targets-shape =
      ap₂ (λ (p : WordPath) (ps : List WordPath). p ∷ ps) cover_now-shape
      (ap₂ (λ (xs ys : List WordPath). xs ++ ys)
      (ap (flat_map (end_targets new)) (ap₂ (λ (xs ys : List Beyond). xs ++ ys) (beyond-same old new shape change of) (new_inodes-same old new shape change))
      ∙ ends-same (beyond old change ++ new_inodes old change)
      (each-append (λ (b : Beyond). IsReached old b.tree) (beyond old change) (new_inodes old change) (beyond-reached old new shape change of) (inodes-reached old new shape change)))
      (entry_targets-same change of))
