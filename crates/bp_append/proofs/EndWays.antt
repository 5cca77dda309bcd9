-- Where the way to the byte at the size of a tree is loose, no node with that byte is in the snapshot, nor the block
-- that holds the tree's root word.
use Rattle.std.proofs.Common.{◌≡◌, ◌≢◌, ℕ, zero, suc, ◌+◌, ◌-◌, ◌*◌, ◌/◌, ◌%◌, ◌<◌, ◌≤◌, [], ◌∷◌, ◌++◌, length, Bool, true, false, ◌&&◌, nat_lt, if◌then◌else◌, refl, sym, ◌∙◌, ap, subst, arith, append_assoc, mul-le-mul_right, lt_of_le_of_lt, lt_of_lt_of_le, le_trans, le_of_lt, inl, inr}
use Rattle.std.proofs.lemmas.Bool.{and_from, cases_lt, lt-ltb}
use Rattle.std.proofs.lemmas.List.{length-append}
use Rattle.std.proofs.Math.Nat.{div-mul-le_self, lt-div-mul-add, div-lt_iff_lt-mul}
use Rattle.std.proofs.lemmas.Nat.{le-div}
use Rattle.bp_layout.specs.Words.{Image, height_of}
use Rattle.bp_layout.specs.Tree.{node, span, IsLivePointer}
use Rattle.bp_layout.specs.Inode.{root_of, size_of, inode_count, RootPlace}
use Rattle.bp_layout.specs.Inode.RootPlace.{top, inode}
use Rattle.bp_layout.specs.Reached.{IsReached}
use Rattle.bp_layout.specs.Reached.IsReached.{inode_file}
use Rattle.bp_layout.specs.Thaw.{IsLoose, end_path_now, heights_now, is_in_snapshot_at, root_path_now}
use Rattle.bp_layout.specs.WellFormed.{IsWellFormed}
use Rattle.bp_layout.specs.WordPaths.{WordPath, digits, inode_path, tree_path}
use Rattle.bp_layout.proofs.Reached.{reached-in_file}
use Rattle.bp_layout.proofs.TreeLaws.{live_above, live_content}
use Rattle.bp_read.proofs.Digits.{length-digits}
use Rattle.bp_append.specs.Prepared.{HasLooseEnd}
use Rattle.bp_append.proofs.TallyLaws.{span-positive, span-suc}
use Rattle.bp_read.proofs.LooseWays.{inode_under, kept_node, loose-prefix}

-- ---- the nodes on the way to a byte

-- the slot of a node that has a byte of it
child_of : (s k size : ℕ) → 0 < s → k * (512 * s) ≤ size → size < k * (512 * s) + 512 * s → ((size / s) / 512 ≡ k) × ((size / s * s ≤ size) × (size < size / s * s + s))
child_of s k size some low high =
    let down : size / s * s ≤ size = div-mul-le_self size s in
    let up : size < size / s * s + s = lt-div-mul-add {a = size} {b = s} some in
    let least : 512 * k ≤ size / s = le-div (512 * k) size s some (grind (arith, low)) in
    let most : size / s < 512 * k + 512 = (div-lt_iff_lt-mul {k = s} {x = size} {y = 512 * k + 512} some).1 (grind (arith, high)) in
    (omega (arith, least, most), (down, up))

-- the digits of the byte's word go through those of the node
module _ (height size : ℕ) where
  abbrev pub Through : ℕ → ℕ → Type 0
  Through d k = (slot : ℕ) × ((rest : WordPath) × (digits (suc height) (size / 8) ≡ digits d k ++ slot ∷ rest))

  digits-through : (level d k : ℕ) → d + level ≡ height → k * span level ≤ size → size < k * span level + span level → Through d k
  digits-through zero d k at low high =
      let here : size / 8 / 512 ≡ k = omega (arith, low, high) in
      let same : height ≡ d = omega (arith, at) in
      (size / 8 % 512, ([], rw (same, here) refl))
  digits-through (suc level) d k at low high =
      let s : ℕ = span level in
      let child = child_of (span level) k size (span-positive level) (subst (λ w. k * w ≤ size) (span-suc level) low) (subst (λ w. size < k * w + w) (span-suc level) high) in
      let below : Through (suc d) (size / span level) = digits-through level (suc d) (size / span level) (omega (arith, at)) child.1.0 child.1.1 in (
        size / span level % 512,
        (
          below.0 ∷ below.1.0,
          below.1.1 ∙ append_assoc (digits d (size / span level / 512)) (size / span level % 512 ∷ []) (below.0 ∷ below.1.0)
              ∙ ap (λ n. digits d n ++ size / span level % 512 ∷ below.0 ∷ below.1.0) child.0,
        ),
      )

-- a node that begins below the end of a tree ends there or before
ends_within : (height level d k : ℕ) → d + level ≡ height → k * span level < span height → k * span level + span level ≤ span height
ends_within height level zero k at low = go k low
  where
    same : level ≡ height
    same = omega (arith, at)

    go : (k : ℕ) → k * span level < span height → k * span level + span level ≤ span height
    go zero low = rw same (omega arith)
    go (suc k) low = let wide : span level ≡ span height = ap span same in absurd (omega (arith, low, wide))
ends_within height level (suc d) k at low =
    let s : ℕ = span level in
    let wide : span (suc level) ≡ 512 * span level = span-suc level in
    let up : k / 512 * 512 * span level ≤ k * span level = mul-le-mul_right (span level) (div-mul-le_self k 512) in
    let begins : k / 512 * span (suc level) < span height = rw wide (lt_of_le_of_lt (grind (arith, up)) low) in
    let above : k / 512 * span (suc level) + span (suc level) ≤ span height = ends_within height (suc level) d (k / 512) (omega (arith, at)) begins in
    let next : (k + 1) * span level ≤ (k / 512 * 512 + 512) * span level = mul-le-mul_right (span level) (omega arith) in
    le_trans (grind (arith, next)) (rw wide at above)

-- a slot of a node ends where the node does, or before
pub slot_within : (index level : ℕ) → index * span level + span level ≤ index / 512 * span (suc level) + span (suc level)
slot_within index level =
    let wide : span (suc level) ≡ 512 * span level = span-suc level in
    let next : (index + 1) * span level ≤ (index / 512 * 512 + 512) * span level = mul-le-mul_right (span level) (omega arith) in
    rw wide (grind (arith, next))

-- a node with a word after the size has the byte at the size
pub past_end_within : (root size depth index level : ℕ) → depth + level ≡ height_of root → (IsLivePointer root size (suc depth) index → ⊥) → (depth ≡ height_of root → size < 8 * index + 8) →
    size < index / 512 * span level + span level
past_end_within root size depth index zero at no_pointer ends = let low = ends (omega (arith, at)) in omega (arith, low)
past_end_within root size depth index (suc level) at no_pointer ends =
    elim (cases_lt (index * span level) size) [
      | inl less ↦ absurd (no_pointer (record { level = level; height = omega (arith, at); live = less }))
      | inr over ↦ let some : 0 < span level = span-positive level in lt_of_lt_of_le (omega (arith, over, some)) (slot_within index level)
    ]

-- ---- the ways to them

-- the path of a prefix of a way is a prefix of its path
split_path : (h t height index d k slot : ℕ) (rest : WordPath) → digits (suc height) index ≡ digits d k ++ slot ∷ rest → tree_path h t (suc height) index ≡ tree_path h t d k ++ slot ∷ rest
split_path h zero height index d k slot rest e = e
split_path h (suc i) height index d k slot rest e = ap (λ ds. inode_path h (suc i) 1 ++ ds) e ∙ sym (append_assoc (inode_path h (suc i) 1) (digits d k) (slot ∷ rest))

root_short : (h t d k : ℕ) → length (tree_path h t 0 0) - 1 ≤ length (tree_path h t d k)
root_short h zero d k = omega arith
root_short h (suc i) d k =
    let whole : length (inode_path h (suc i) 1 ++ digits d k) ≡ length (inode_path h (suc i) 1) + length (digits d k) = length-append (inode_path h (suc i) 1) (digits d k) in
    let root : length (inode_path h (suc i) 1 ++ []) ≡ length (inode_path h (suc i) 1) + 0 = length-append (inode_path h (suc i) 1) [] in
    omega (arith, whole, root)

module _ (image : Image) (wf : IsWellFormed image) where
  module _ (in_snapshot : ℕ → Bool) (t : ℕ) (reached : IsReached image t)
      (loose : IsLoose image in_snapshot (length (root_path_now image t) - 1) (end_path_now image t)) where
    -- a node with a byte below the size, and with the byte at the size
    loose_node : (d k : ℕ) → (live : IsLivePointer (root_of image t) (size_of image t) d k) → node image (root_of image t) d k ≢ 0 → size_of image t < k * span live.level + span live.level → in_snapshot (node image (root_of image t) d k) ≡ false
    loose_node d k live present high =
        let fits : size_of image t ≤ span (heights_now image t) = (wf.sound t reached).fits in
        let begins : k * span live.level < span (heights_now image t) = lt_of_lt_of_le live.live fits in
        let ends : k * span live.level + span live.level ≤ span (heights_now image t) = ends_within (heights_now image t) live.level d k live.height begins in
        let low : size_of image t < span (heights_now image t) = lt_of_lt_of_le high ends in
        let some : 0 < size_of image t = lt_of_le_of_lt (grind (arith)) live.live in
        let way : IsLoose image in_snapshot (length (root_path_now image t) - 1) (tree_path (heights_now image 0) t (suc (heights_now image t)) (size_of image t / 8)) =
        subst (λ b. IsLoose image in_snapshot (length (root_path_now image t) - 1) (if b then tree_path (heights_now image 0) t (suc (heights_now image t)) (size_of image t / 8) else root_path_now image t)) (and_from _ _ (lt-ltb _ _ some) (lt-ltb _ _ low)) loose in
        let through = digits-through (heights_now image t) (size_of image t) live.level d k live.height (le_of_lt live.live) high in
        sym (kept_node image wf in_snapshot t d k reached live present)
        ∙ loose-prefix image in_snapshot (length (root_path_now image t) - 1) (tree_path (heights_now image 0) t d k) through.0 through.1.0 (root_short (heights_now image 0) t d k)
        (subst (IsLoose image in_snapshot (length (root_path_now image t) - 1)) (split_path (heights_now image 0) t (heights_now image t) (size_of image t / 8) d k through.0 through.1.0 through.1.1) way)

    -- the block with its inode
    loose_inode : t ≢ 0 → in_snapshot (node image (root_of image 0) (heights_now image 0) ((8 * t + 1) / 512)) ≡ false
    loose_inode some = sym (kept_node image wf in_snapshot 0 (heights_now image 0) ((8 * t + 1) / 512) inode_file leaf (inode_under image wf t reached)) ∙ prefix t some loose
      where
        leaf : IsLivePointer (root_of image 0) (size_of image 0) (height_of (root_of image 0)) ((8 * t + 1) / 512)
        leaf =
            let inside : t < inode_count image = reached-in_file image wf t reached in
            live_above _ _ (height_of (root_of image 0)) (8 * t + 1) (live_content (root_of image 0) (size_of image 0) (8 * t + 1) (omega (arith, inside)))

        -- each way into the tree goes through this block
        way : (i depth index : ℕ) → IsLoose image in_snapshot (length (root_path_now image (suc i)) - 1) (tree_path (heights_now image 0) (suc i) depth index) → is_in_snapshot_at image in_snapshot (digits (heights_now image 0) ((8 * suc i + 1) / 512)) ≡ false
        way i depth index is =
            let whole : length (inode_path (heights_now image 0) (suc i) 1 ++ []) ≡ length (inode_path (heights_now image 0) (suc i) 1) + 0 = length-append (inode_path (heights_now image 0) (suc i) 1) [] in
            let long : length (inode_path (heights_now image 0) (suc i) 1) ≡ suc (heights_now image 0) = length-digits (suc (heights_now image 0)) (8 * suc i + 1) in
            let short : length (digits (heights_now image 0) ((8 * suc i + 1) / 512)) ≡ heights_now image 0 = length-digits (heights_now image 0) ((8 * suc i + 1) / 512) in
            loose-prefix image in_snapshot (length (root_path_now image (suc i)) - 1) (digits (heights_now image 0) ((8 * suc i + 1) / 512)) ((8 * suc i + 1) % 512) (digits depth index) (omega (arith, whole, long, short))
            (subst (IsLoose image in_snapshot (length (root_path_now image (suc i)) - 1)) (append_assoc (digits (heights_now image 0) ((8 * suc i + 1) / 512)) ((8 * suc i + 1) % 512 ∷ []) (digits depth index)) is)

        either : (i : ℕ) (b : Bool) → IsLoose image in_snapshot (length (root_path_now image (suc i)) - 1) (if b then tree_path (heights_now image 0) (suc i) (suc (heights_now image (suc i))) (size_of image (suc i) / 8) else root_path_now image (suc i)) →
            is_in_snapshot_at image in_snapshot (digits (heights_now image 0) ((8 * suc i + 1) / 512)) ≡ false
        either i true is = way i (suc (heights_now image (suc i))) (size_of image (suc i) / 8) is
        either i false is = way i 0 0 is

        prefix : (u : ℕ) → u ≢ 0 → IsLoose image in_snapshot (length (root_path_now image u) - 1) (end_path_now image u) → is_in_snapshot_at image in_snapshot (digits (heights_now image 0) ((8 * u + 1) / 512)) ≡ false
        prefix zero some is = absurd (some refl)
        prefix (suc i) some is = either i (nat_lt 0 (size_of image (suc i)) && nat_lt (size_of image (suc i)) (span (heights_now image (suc i)))) is

    -- so that with its root word
    loose_root : (place : ℕ) → t ≢ 0 → RootPlace image t place → in_snapshot (place / 512) ≡ false
    loose_root place some (top none two) = absurd (some none)
    loose_root place some (inode also stands) =
        let at : node image (root_of image 0) (heights_now image 0) ((8 * t + 1) / 512) ≡ place / 512 = omega (arith, stands.at) in
        subst (λ b. in_snapshot b ≡ false) at (loose_inode some)

    -- so a preparation may store there
    pub loose_end : HasLooseEnd image in_snapshot t
    loose_end = record { nodes = loose_node; root = λ place at some. loose_root place some at }
