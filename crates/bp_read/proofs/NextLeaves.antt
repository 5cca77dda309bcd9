-- The next leaf of a tree, from those of the trees below its topmost block.
use Rattle.std.proofs.Common.{◌≡◌, ◌≢◌, ◌⊎◌, ℕ, suc, ◌+◌, ◌-◌, ◌*◌, ◌/◌, ◌^◌, ◌<◌, ◌≤◌, sym, ◌∙◌, ap, subst, arith, inl, inr}
use Rattle.std.proofs.Math.Nat.{div-lt_iff_lt-mul, div-mul-le_self, lt-div-mul-add}
use Rattle.std.proofs.lemmas.Bool.{cases_lt}
use Rattle.bp_layout.specs.Words.{Image, block_of, height_of}
use Rattle.bp_layout.specs.Tree.{node, span, IsSound}
use Rattle.bp_layout.specs.Pieces.{piece, child}
use Rattle.bp_layout.proofs.TreeLaws.{tree_word-zero, span-is}
use Rattle.bp_read.specs.Leaves.{HasNoLeafFrom, IsNextLeaf}
use Rattle.bp_read.proofs.Below.{HasBelow, below, null_below}
use Rattle.bp_read.proofs.NullLeaves.{leaf_in, live_back, live_out, low_in, power_some}

pub none_below_null : (image : Image) (root size from : ℕ) → block_of root ≡ 0 → HasNoLeafFrom image root size from
none_below_null image root size from null leaf beyond live = null_below image root null (height_of root) leaf

pub leaf_itself : (image : Image) (root size from : ℕ) → height_of root ≡ 0 → block_of root ≢ 0 → 0 < size → from ≡ 0 → IsNextLeaf image root size from 0
leaf_itself image root size from flat present some first = record {
  beyond = omega (arith, first);
  live = omega (arith, some);
  present = λ null. present (sym (ap block_of (tree_word-zero image root 0)) ∙ sym (ap (λ h. node image root h 0) flat) ∙ null);
  first = λ other beyond low. absurd (omega (arith, low));
}

-- each leaf from one on that is below the slots before one is null
abbrev pub NoLeafBefore : Image → ℕ → ℕ → ℕ → ℕ → ℕ → Type 0
NoLeafBefore image root size level from slot = (leaf : ℕ) → from ≤ leaf → leaf / 512 ^ level < slot → 4096 * leaf < size → node image root (height_of root) leaf ≡ 0

module _ (image : Image) (root size level slot from : ℕ) (has : HasBelow image root size level slot) (sub part rest : ℕ) (root_is : sub ≡ child image (block_of root) level slot) (size_is : part ≡ piece size level slot)
    (rest_is : rest ≡ from - slot * 512 ^ level) (none : NoLeafBefore image root size level from slot) where
  q_some : 0 < 512 ^ level
  q_some = power_some level

  found_in : (leaf : ℕ) → IsNextLeaf image sub part rest leaf → IsNextLeaf image root size from (slot * 512 ^ level + leaf)
  found_in leaf found = record {
    beyond = omega (arith, found.beyond, rest_is);
    live = live_out image root size level slot has sub part root_is size_is leaf found.live;
    present = λ null. found.present (sym (leaf_in image root size level slot has sub part root_is size_is leaf low) ∙ null);
    first = first;
  }
    where
      low : leaf < 512 ^ level
      low = low_in image root size level slot has sub part root_is size_is leaf found.live

      first : (other : ℕ) → from ≤ other → other < slot * 512 ^ level + leaf → node image root (height_of root) other ≡ 0
      first other beyond less = go (cases_lt other (slot * 512 ^ level))
        where
          go : (other < slot * 512 ^ level) ⊎ (slot * 512 ^ level ≤ other) → node image root (height_of root) other ≡ 0
          go (inl under) =
              none other beyond ((div-lt_iff_lt-mul {k = 512 ^ level} {x = other} {y = slot} q_some).1 under)
              (omega (arith, less, live_out image root size level slot has sub part root_is size_is leaf found.live))
          go (inr over) =
              let is : other ≡ slot * 512 ^ level + (other - slot * 512 ^ level) = omega (arith, over) in
              let fewer : other - slot * 512 ^ level < leaf = omega (arith, over, less) in
              ap (node image root (height_of root)) is
              ∙ leaf_in image root size level slot has sub part root_is size_is (other - slot * 512 ^ level) (omega (arith, fewer, low))
              ∙ found.first (other - slot * 512 ^ level) (omega (arith, beyond, rest_is)) fewer

  none_in : HasNoLeafFrom image sub part rest → NoLeafBefore image root size level from (slot + 1)
  none_in clear leaf beyond low live = go (cases_lt (leaf / 512 ^ level) slot)
    where
      go : (leaf / 512 ^ level < slot) ⊎ (slot ≤ leaf / 512 ^ level) → node image root (height_of root) leaf ≡ 0
      go (inl under) = none leaf beyond under live
      go (inr over) =
          let here : leaf / 512 ^ level ≡ slot = omega (arith, over, low) in
          let start : leaf / 512 ^ level * 512 ^ level ≡ slot * 512 ^ level = ap (λ n. n * 512 ^ level) here in
          let floor : leaf / 512 ^ level * 512 ^ level ≤ leaf = div-mul-le_self leaf (512 ^ level) in
          let ceiling : leaf < leaf / 512 ^ level * 512 ^ level + 512 ^ level = lt-div-mul-add {a = leaf} {b = 512 ^ level} q_some in
          let is : leaf ≡ slot * 512 ^ level + (leaf - slot * 512 ^ level) = omega (arith, start, floor) in
          let less : leaf - slot * 512 ^ level < 512 ^ level = omega (arith, start, floor, ceiling) in
          ap (node image root (height_of root)) is
          ∙ leaf_in image root size level slot has sub part root_is size_is (leaf - slot * 512 ^ level) less
          ∙ clear (leaf - slot * 512 ^ level) (omega (arith, beyond, rest_is))
          (live_back image root size level slot has sub part root_is size_is (leaf - slot * 512 ^ level) less (subst (λ n. 4096 * n < size) is live))

-- each live leaf is below a live slot
pub none_left : (image : Image) (root size level from slots : ℕ) → NoLeafBefore image root size level from slots → ((slot : ℕ) → slot * span level < size → slot < slots) → HasNoLeafFrom image root size from
none_left image root size level from slots none all leaf beyond live =
    let q : ℕ = 512 ^ level in
    let floor : leaf / 512 ^ level * 512 ^ level ≤ leaf = div-mul-le_self leaf (512 ^ level) in
    let c : ℕ = leaf / 512 ^ level in
    let wide : c * span level ≡ 4096 * (c * q) = ap (λ s. c * s) (span-is level) ∙ omega arith in
    none leaf beyond (all (leaf / 512 ^ level) (omega (arith, live, floor, wide))) live

-- the same as the walk has it
pub found_below : (image : Image) (root size level slot from leaves before sub part rest leaf : ℕ) → IsSound image root size → height_of root ≡ suc level → block_of root ≢ 0 → slot * span level < size →
    sub ≡ child image (block_of root) level slot → part ≡ piece size level slot → leaves ≡ 512 ^ level → before ≡ slot * leaves → rest ≡ from - before →
    NoLeafBefore image root size level from slot → IsNextLeaf image sub part rest leaf → IsNextLeaf image root size from (before + leaf)
found_below image root size level slot from leaves prefix sub part rest leaf sound height present live root_is size_is leaves_is prefix_is rest_is none found =
    let start : prefix ≡ slot * 512 ^ level = prefix_is ∙ ap (λ n. slot * n) leaves_is in
    subst (λ n. IsNextLeaf image root size from (n + leaf)) (sym start)
    (found_in image root size level slot from (below image root size level slot sound height present live) sub part rest root_is size_is (rest_is ∙ ap (λ n. from - n) start) none leaf found)

pub none_below : (image : Image) (root size level slot from leaves before sub part rest : ℕ) → IsSound image root size → height_of root ≡ suc level → block_of root ≢ 0 → slot * span level < size →
    sub ≡ child image (block_of root) level slot → part ≡ piece size level slot → leaves ≡ 512 ^ level → before ≡ slot * leaves → rest ≡ from - before →
    NoLeafBefore image root size level from slot → HasNoLeafFrom image sub part rest → NoLeafBefore image root size level from (slot + 1)
none_below image root size level slot from leaves prefix sub part rest sound height present live root_is size_is leaves_is prefix_is rest_is none clear =
    let start : prefix ≡ slot * 512 ^ level = prefix_is ∙ ap (λ n. slot * n) leaves_is in
    none_in image root size level slot from (below image root size level slot sound height present live) sub part rest root_is size_is (rest_is ∙ ap (λ n. from - n) start) none clear
