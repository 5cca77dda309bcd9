-- What `build` made may be hung in the place of a null.
use Rattle.std.proofs.Common.{◌≡◌, ◌≢◌, ℕ, zero, suc, ◌+◌, ◌*◌, ◌/◌, ◌%◌, ◌<◌, ◌≤◌, List, refl, sym, ◌∙◌, ap, arith, pow-suc}
use Rattle.bp_layout.proofs.MemberLaws.{each-has}
use Rattle.bp_limits.specs.Limits.{max_height}
use Rattle.bp_layout.specs.Words.{Image, block_of, height_of, slot_word, byte_of}
use Rattle.bp_layout.specs.Tree.{tree_word, node, byte, covered, span, IsLivePointer, HasBlock}
use Rattle.bp_layout.specs.Inode.{root_of, size_of, StandsAt}
use Rattle.bp_layout.specs.Reached.{IsReached, IsLiveBlock}
use Rattle.bp_layout.proofs.TreeLaws.{tree_word-suc, tree_word-zero}
use Rattle.bp_changes.specs.Links.{IsUnder, CanHang}
use Rattle.bp_layout.specs.Members.{Has, Each}
use Rattle.bp_changes.specs.Links.IsUnder.{here, under}
use Rattle.bp_append.specs.Built.{IsBuilt}
use Rattle.bp_layout.proofs.Pieces.{slot_of, rest_of, value, rest_low}
use Rattle.bp_changes.proofs.NullLink.{below_depth}

slot_below : (d k e l r : ℕ) → IsUnder d k e l r → slot_of r l ≡ k
slot_below d k _ _ _ (here at index) = index
slot_below d k _ _ _ (under {e} {l} {r} b) = slot_below d k e (l / 512) r b

same_number : (d k l : ℕ) → slot_of d k ≡ slot_of d l → rest_of d k ≡ rest_of d l → k ≡ l
same_number zero k l slots rests = slots
same_number (suc d) k l slots rests =
    let up : k / 512 ≡ l / 512 = same_number d (k / 512) (l / 512) slots (omega (arith, rests)) in
    omega (arith, up, rests)

module _ (image : Image) (block level : ℕ) (low : level ≤ max_height) where
  node_below : (r l : ℕ) → node image (4096 * block) r l ≡ node image (4096 * block + level) r (rest_of r l)
  node_below zero l = ap block_of (tree_word-zero image (4096 * block) l) ∙ omega (arith, low) ∙ sym (ap block_of (tree_word-zero image (4096 * block + level) 0))
  node_below (suc r) l =
      let row : rest_of (suc r) l / 512 ≡ rest_of r (l / 512) = omega arith in
      let column : rest_of (suc r) l % 512 ≡ l % 512 = omega arith in
      ap block_of (tree_word-suc image (4096 * block) r l
      ∙ ap (λ b. slot_word image b (l % 512)) (node_below r (l / 512))
      ∙ sym (tree_word-suc image (4096 * block + level) r (rest_of (suc r) l) ∙ rw (row, column) refl))

  word_below : (r l : ℕ) → tree_word image (4096 * block) (suc r) l ≡ tree_word image (4096 * block + level) (suc r) (rest_of (suc r) l)
  word_below r l =
      let row : rest_of (suc r) l / 512 ≡ rest_of r (l / 512) = omega arith in
      let column : rest_of (suc r) l % 512 ≡ l % 512 = omega arith in
      tree_word-suc image (4096 * block) r l
      ∙ ap (λ b. slot_word image b (l % 512)) (node_below r (l / 512))
      ∙ sym (tree_word-suc image (4096 * block + level) r (rest_of (suc r) l) ∙ rw (row, column) refl)

-- a pointer that is null, a place for it, and a tree under new blocks that is zero below the size
module _ (image : Image) (t d k place block level size : ℕ) (bytes : ℕ → ℕ) (taken : List ℕ) (Full : Type 0) (reached : IsReached image t)
    (low : level ≤ max_height) (height : suc d + level ≡ height_of (root_of image t)) (live : k * span level < size_of image t)
    (null : node image (root_of image t) (suc d) k ≡ 0) (stands : StandsAt image t d k place)
    (built : IsBuilt image (4096 * block + level) size bytes (Has taken) Full) (free : Each (λ b. IsLiveBlock image b → ⊥) taken)
    (wide : (x : ℕ) → x < span level → k * span level + x < size_of image t → x < size)
    (zeros : (i : ℕ) → k * span level + i < size_of image t → bytes i ≡ 0) where
  -- a number at or under the null, below the size, in the new tree
  rest_in : (r rank l : ℕ) → slot_of r l ≡ k → r + rank ≡ suc level → l * covered rank < size_of image t → (k * span level + rest_of r l * covered rank < size_of image t) × (rest_of r l * covered rank < size)
  rest_in r rank l slot e below =
      let split : l * covered rank ≡ k * span level + rest_of r l * covered rank = value r rank (suc level) l e ∙ ap (λ x. x * span level + rest_of r l * covered rank) slot in
      let bound : (rest_of r l + 1) * covered rank ≤ span level = rest_low r rank (suc level) l e in
      let more : 0 < covered rank = pos rank in
      let next : (rest_of r l + 1) * covered rank ≡ rest_of r l * covered rank + covered rank = grind arith in
      let inside : k * span level + rest_of r l * covered rank < size_of image t = omega (arith, split, below) in
      (inside, wide (rest_of r l * covered rank) (omega (arith, bound, next, more)) inside)
    where
      pos : (rank : ℕ) → 0 < covered rank
      pos zero = omega arith
      pos (suc rank) = let p = pos rank in let more : covered (suc rank) ≡ 512 * covered rank = rw pow-suc (omega arith) in omega (arith, p, more)

  live_below : (e l r : ℕ) → IsUnder d k e l r → IsLivePointer (root_of image t) (size_of image t) e l → IsLivePointer (4096 * block + level) size r (rest_of r l)
  live_below e l r b alive =
      let deep : e ≡ suc d + r = below_depth d k e l r b in
      let rank : r + alive.level ≡ level = omega (arith, deep, alive.height, height) in
      record {
        level = alive.level;
        height = omega (arith, rank, low);
        live = (rest_in r (suc alive.level) l (slot_below d k e l r b) (omega (arith, rank)) alive.live).1;
      }

  -- its blocks are those taken
  pub in_below : (e l r : ℕ) → IsUnder d k e l r → IsLivePointer (root_of image t) (size_of image t) e l → node image (4096 * block) r l ≢ 0 → Has taken (node image (4096 * block) r l)
  in_below e l r b alive present =
      built.blocks _ (record { depth = r; index = rest_of r l; pointer = live_below e l r b alive; named = sym (node_below image block level low r l); not_null = present })

  pub hang_built : CanHang image t d k place block
  hang_built = record {
    reached = reached;
    live = record { level = level; height = height; live = live };
    null = null;
    stands = stands;
    bits = λ e l r b alive. rw (word_below image block level low r l) (built.sound.pointer_bits r (rest_of (suc r) l) (live_below (suc e) l (suc r) (under b) alive));
    in_range = λ e l r b alive. rw (node_below image block level low r l) (built.sound.in_range r (rest_of r l) (live_below e l r b alive));
    free = λ e l r b alive present lives.
        let same = node_below image block level low r l in
        let has : HasBlock image (4096 * block + level) size (node image (4096 * block) r l) =
        record { depth = r; index = rest_of r l; pointer = live_below e l r b alive; named = sym same; not_null = present } in
        each-has (λ c. IsLiveBlock image c → ⊥) taken (node image (4096 * block) r l) free (built.blocks _ has) lives;
    once = λ e l r f m q b c alive also present same.
        let one = node_below image block level low r l in
        let two = node_below image block level low q m in
        let both = built.sound.once r (rest_of r l) q (rest_of q m) (live_below e l r b alive) (live_below f m q c also) (λ none. present (one ∙ none)) (sym one ∙ same ∙ two) in
        let deep : e ≡ suc d + r = below_depth d k e l r b in
        let deep_also : f ≡ suc d + q = below_depth d k f m q c in (
          omega (arith, deep, deep_also, both.0),
          same_number r l m (slot_below d k e l r b ∙ sym (slot_below d k f m q c) ∙ ap (λ x. slot_of x m) (sym both.0)) (both.1 ∙ ap (λ x. rest_of x m) (sym both.0)),
        );
    zero_bytes = λ o r b below. zero_byte o r (below_depth d k (height_of (root_of image t)) (o / 8 / 512) r b) (slot_below d k (height_of (root_of image t)) (o / 8 / 512) r b) below;
  }
    where
      zero_byte : (o r : ℕ) → height_of (root_of image t) ≡ suc d + r → slot_of r (o / 8 / 512) ≡ k → o < size_of image t → byte_of (tree_word image (4096 * block) (suc r) (o / 8)) (o % 8) ≡ 0
      zero_byte o r deep slot below =
          let same : r ≡ level = omega (arith, deep, height) in
          let split : o / 8 * covered 0 ≡ k * span level + rest_of (suc r) (o / 8) * covered 0 =
          value (suc r) 0 (suc level) (o / 8) (omega (arith, same)) ∙ ap (λ x. x * span level + rest_of (suc r) (o / 8) * covered 0) slot in
          let bound : (rest_of (suc r) (o / 8) + 1) * covered 0 ≤ span level = rest_low (suc r) 0 (suc level) (o / 8) (omega (arith, same)) in
          let rest : ℕ = rest_of (suc r) (o / 8) in
          let i : ℕ = 8 * rest_of (suc r) (o / 8) + o % 8 in
          let at : k * span level + (8 * rest_of (suc r) (o / 8) + o % 8) ≡ o = omega (arith, split) in
          let small : 8 * rest_of (suc r) (o / 8) + o % 8 < span level = omega (arith, bound) in
          let inside : k * span level + (8 * rest_of (suc r) (o / 8) + o % 8) < size_of image t = omega (arith, at, below) in
          let tall : height_of (4096 * block + level) ≡ r = omega (arith, same, low) in
          let row : (8 * rest_of (suc r) (o / 8) + o % 8) / 8 ≡ rest_of (suc r) (o / 8) = omega arith in
          let column : (8 * rest_of (suc r) (o / 8) + o % 8) % 8 ≡ o % 8 = omega arith in
          let as_byte : byte image (4096 * block + level) (8 * rest_of (suc r) (o / 8) + o % 8) ≡ byte_of (tree_word image (4096 * block + level) (suc r) (rest_of (suc r) (o / 8))) (o % 8) = rw (tall, row, column) refl in
          ap (λ w. byte_of w (o % 8)) (word_below image block level low r (o / 8))
          ∙ sym as_byte
          ∙ built.bytes_are (8 * rest_of (suc r) (o / 8) + o % 8) (wide (8 * rest_of (suc r) (o / 8) + o % 8) small inside)
          ∙ zeros (8 * rest_of (suc r) (o / 8) + o % 8) inside
