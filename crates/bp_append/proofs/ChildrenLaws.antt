-- Trees in the slots of a block, and the tree over them.
use Rattle.std.proofs.Common.{◌≡◌, ◌≢◌, ◌⊎◌, ℕ, suc, ◌+◌, ◌*◌, ◌/◌, ◌%◌, ◌<◌, ◌≤◌, [], length, refl, sym, ◌∙◌, ap, subst, arith, inl, inr, mod-lt, div-add-mod', mul-le-mul_right, lt_of_lt_of_le}
use Rattle.bp_limits.specs.Limits.{max_height}
use Rattle.std.proofs.lemmas.Bool.{cases_eq}
use Rattle.bp_layout.specs.Words.{Image, block_count, block_of, height_of, slot_word, byte_of}
use Rattle.bp_layout.specs.Tree.{node, byte, span, IsLiveWord, HasBlock, IsSound, IsFull}
use Rattle.bp_layout.specs.Members.{Has}
use Rattle.bp_layout.specs.Pieces.{piece, child, HasChildren, Joins}
use Rattle.bp_layout.proofs.TreeLaws.{KeepsPointers, KeepsLiveWords, tree_word-kept, sound-kept, full-kept, has_block-kept, has_block-stays, live_above, live_pointer_word, live_content}
use Rattle.bp_layout.proofs.SmallTrees.{leaf_sound, leaf_full, one_live, node-zero, content_word-leaf}
use Rattle.bp_layout.proofs.Pieces.{joined_sound, joined_block, joined_byte, joined_full, child_block, child_full, splits, top_has, sound_shape}
use Rattle.bp_changes.proofs.Roots.{null_tree, null_words}
use Rattle.bp_append.specs.Built.{IsBuilt, InSlot, Children}
use Rattle.bp_append.proofs.TallyLaws.{span-positive}

-- a tree whose blocks stay
module _ (old new : Image) (root size : ℕ) (whole : length new ≡ length old)
    (same : (b s : ℕ) → HasBlock old root size b → s < 512 → slot_word new b s ≡ slot_word old b s) where
  keeps_words : KeepsLiveWords old new root size
  keeps_words = record { kept = λ d k live. go d k live (cases_eq (node old root d (k / 512)) 0) }
    where
      go : (d k : ℕ) → IsLiveWord root size (suc d) k → (node old root d (k / 512) ≡ 0) ⊎ (node old root d (k / 512) ≡ 0 → ⊥) →
          slot_word new (node old root d (k / 512)) (k % 512) ≡ slot_word old (node old root d (k / 512)) (k % 512)
      go d k live (inl null) = rw null refl
      go d k live (inr present) = same _ (k % 512) (record { depth = d; index = k / 512; pointer = live_above _ _ d k live; named = refl; not_null = present }) (omega arith)

  keeps_pointers : KeepsPointers old new root size
  keeps_pointers = record { kept = λ d k live. keeps_words.kept d k (live_pointer_word _ _ (suc d) k live) }

  tree_sound : IsSound old root size → IsSound new root size
  tree_sound = sound-kept old new root size keeps_pointers whole

  tree_full : IsFull old root size → IsFull new root size
  tree_full = full-kept old new root size keeps_pointers

  tree_block : (b : ℕ) → HasBlock new root size b → HasBlock old root size b
  tree_block = has_block-kept old new root size keeps_pointers

  tree_has : (b : ℕ) → HasBlock old root size b → HasBlock new root size b
  tree_has = has_block-stays old new root size keeps_pointers

  tree_byte : (i : ℕ) → i < size → byte new root i ≡ byte old root i
  tree_byte i low = ap (λ w. byte_of w (i % 8)) (tree_word-kept old new root size keeps_words (suc (height_of root)) (i / 8) (live_content root size (i / 8) (omega (arith, low))))

pub built_kept : (old new : Image) {root size : ℕ} {bytes : ℕ → ℕ} {Member : ℕ → Type 0} {Full : Type 0} → length new ≡ length old →
    ((b s : ℕ) → Member b → s < 512 → slot_word new b s ≡ slot_word old b s) → IsBuilt old root size bytes Member Full → IsBuilt new root size bytes Member Full
built_kept old new {root} {size} {bytes} {Member} {Full} whole same built =
    let stays : (b s : ℕ) → HasBlock old root size b → s < 512 → slot_word new b s ≡ slot_word old b s = λ b s has low. same b s (built.blocks b has) low in
    record {
      sound = tree_sound old new root size whole stays built.sound;
      bytes_are = λ i low. tree_byte old new root size whole stays i low ∙ built.bytes_are i low;
      blocks = λ b has. built.blocks b (tree_block old new root size whole stays b has);
      has = λ b member. tree_has old new root size whole stays b (built.has b member);
      full = λ premise. tree_full old new root size whole stays (built.full premise);
    }

-- the same tree, reported otherwise
pub built_as : (image : Image) (root size : ℕ) (bytes others : ℕ → ℕ) (Member Other : ℕ → Type 0) (Full Fully : Type 0) → ((i : ℕ) → i < size → bytes i ≡ others i) → ((b : ℕ) → Member b → Other b) → ((b : ℕ) → Other b → Member b) →
    (Fully → Full) → IsBuilt image root size bytes Member Full → IsBuilt image root size others Other Fully
built_as image root size bytes others Member Other Full Fully same to from premise built = record {
  sound = built.sound;
  bytes_are = λ i low. built.bytes_are i low ∙ same i low;
  blocks = λ b has. to b (built.blocks b has);
  has = λ b member. built.has b (from b member);
  full = λ fully. built.full (premise fully);
}

-- ---- slots

pub children_none : (image : Image) (block level size : ℕ) (At : ℕ → Type 0) (bytes : ℕ → ℕ) (Full : Type 0) → ((c : ℕ) → At c → c * span level < size → ⊥) → Children image block level size At bytes (Has []) Full
children_none image block level size At bytes Full none = record {
  words = λ c at below. absurd (none c at below);
  sound = λ c at below. absurd (none c at below);
  bytes_are = λ c i at below. absurd (none c at below);
  blocks = λ c x at below. absurd (none c at below);
  apart = λ c e x at also below. absurd (none c at below);
  has = λ x member. absurd member;
  full = λ premise c at below. absurd (none c at below);
}

-- one slot
pub children_one : (image : Image) (block level size slot : ℕ) (bytes : ℕ → ℕ) (Member : ℕ → Type 0) (Full : Type 0) → slot_word image block slot % 4096 ≡ 0 → slot * span level < size →
    IsBuilt image (child image block level slot) (piece size level slot) (λ i. bytes (slot * span level + i)) Member Full → Children image block level size (λ c. c ≡ slot) bytes Member Full
children_one image block level size slot bytes Member Full word inside built = record {
  words = λ c at below. rw at word;
  sound = λ c at below. rw at built.sound;
  bytes_are = λ c i at below. rw at (built.bytes_are i);
  blocks = λ c x at below. rw at (built.blocks x);
  apart = λ c e x at also below below_also one two. at ∙ sym also;
  has = λ x member. record { slot = slot; at = refl; below = inside; has = built.has x member };
  full = λ premise c at below. rw at (built.full premise);
}

-- the same slots, reported otherwise
pub children_as : (image : Image) (block level size : ℕ) (At Also : ℕ → Type 0) (bytes : ℕ → ℕ) (Member Other : ℕ → Type 0) (Full Fully : Type 0) →
    ((c : ℕ) → c * span level < size → Also c → At c) → ((c : ℕ) → c * span level < size → At c → Also c) → ((x : ℕ) → Member x → Other x) → ((x : ℕ) → Other x → Member x) → (Fully → Full) →
    Children image block level size At bytes Member Full → Children image block level size Also bytes Other Fully
children_as image block level size At Also bytes Member Other Full Fully less more to from premise children = record {
  words = λ c at below. children.words c (less c below at) below;
  sound = λ c at below. children.sound c (less c below at) below;
  bytes_are = λ c i at below. children.bytes_are c i (less c below at) below;
  blocks = λ c x at below has. to x (children.blocks c x (less c below at) below has);
  apart = λ c e x at also below below_also. children.apart c e x (less c below at) (less e below_also also) below below_also;
  has = λ x member.
      let found = children.has x (from x member) in
      record { slot = found.slot; at = more found.slot found.below found.at; below = found.below; has = found.has };
  full = λ fully c at below. children.full (premise fully) c (less c below at) below;
}

-- the same bytes, reported otherwise
pub children_bytes : {image : Image} {block level size : ℕ} {At : ℕ → Type 0} (bytes others : ℕ → ℕ) {Member : ℕ → Type 0} {Full : Type 0} →
    ((c i : ℕ) → At c → c * span level < size → i < piece size level c → bytes (c * span level + i) ≡ others (c * span level + i)) →
    Children image block level size At bytes Member Full → Children image block level size At others Member Full
children_bytes {image} {block} {level} {size} {At} bytes others {Member} {Full} same children = record {
  words = children.words;
  sound = children.sound;
  bytes_are = λ c i at below inside. children.bytes_are c i at below inside ∙ same c i at below inside;
  blocks = children.blocks;
  apart = children.apart;
  has = children.has;
  full = children.full;
}

-- slots of which each has its word, and whose trees have their blocks
module _ {old : Image} (new : Image) {block level size : ℕ} {At : ℕ → Type 0} {bytes : ℕ → ℕ} {Member : ℕ → Type 0} {Full : Type 0}
    (before : Children old block level size At bytes Member Full) (whole : length new ≡ length old)
    (same : (x s : ℕ) → Member x → s < 512 → slot_word new x s ≡ slot_word old x s)
    (slots : (c : ℕ) → At c → c * span level < size → slot_word new block c ≡ slot_word old block c) where
  stays : (c : ℕ) → At c → c * span level < size → (x s : ℕ) → HasBlock old (child old block level c) (piece size level c) x → s < 512 → slot_word new x s ≡ slot_word old x s
  stays c at below x s has few = same x s (before.blocks c x at below has) few

  same_child : (c : ℕ) → At c → c * span level < size → child new block level c ≡ child old block level c
  same_child c at below = ap (λ w. w + level) (slots c at below)

  old_block : (c x : ℕ) → At c → c * span level < size → HasBlock new (child new block level c) (piece size level c) x → HasBlock old (child old block level c) (piece size level c) x
  old_block c x at below has =
      tree_block old new (child old block level c) (piece size level c) whole (stays c at below) x (subst (λ r. HasBlock new r (piece size level c) x) (same_child c at below) has)

  new_block : (c x : ℕ) → At c → c * span level < size → HasBlock old (child old block level c) (piece size level c) x → HasBlock new (child new block level c) (piece size level c) x
  new_block c x at below has =
      subst (λ r. HasBlock new r (piece size level c) x) (sym (same_child c at below)) (tree_has old new (child old block level c) (piece size level c) whole (stays c at below) x has)

  pub children_kept : Children new block level size At bytes Member Full
  children_kept = record {
    words = λ c at below. rw (slots c at below) (before.words c at below);
    sound = λ c at below. subst (λ r. IsSound new r (piece size level c)) (sym (same_child c at below))
        (tree_sound old new (child old block level c) (piece size level c) whole (stays c at below) (before.sound c at below));
    bytes_are = λ c i at below inside. ap (λ r. byte new r i) (same_child c at below)
        ∙ tree_byte old new (child old block level c) (piece size level c) whole (stays c at below) i inside
        ∙ before.bytes_are c i at below inside;
    blocks = λ c x at below has. before.blocks c x at below (old_block c x at below has);
    apart = λ c e x at also below below_also one two. before.apart c e x at also below below_also (old_block c x at below one) (old_block e x also below_also two);
    has = λ x member.
        let found = before.has x member in
        record { slot = found.slot; at = found.at; below = found.below; has = new_block found.slot x found.at found.below found.has };
    full = λ premise c at below. subst (λ r. IsFull new r (piece size level c)) (sym (same_child c at below))
        (tree_full old new (child old block level c) (piece size level c) whole (stays c at below) (before.full premise c at below));
  }

-- these slots and those
module _ {image : Image} {block level size : ℕ} {At Also : ℕ → Type 0} {bytes : ℕ → ℕ} {Member More : ℕ → Type 0} {Full : Type 0}
    (one : Children image block level size At bytes Member Full) (two : Children image block level size Also bytes More Full)
    (disjoint : (x : ℕ) → Member x → More x → ⊥) where
  pub children_both : Children image block level size (λ c. At c ⊎ Also c) bytes (λ x. Member x ⊎ More x) Full
  children_both = record {
    words = λ c at below. elim at [ inl a ↦ one.words c a below | inr b ↦ two.words c b below ];
    sound = λ c at below. elim at [ inl a ↦ one.sound c a below | inr b ↦ two.sound c b below ];
    bytes_are = λ c i at below inside. elim at [ inl a ↦ one.bytes_are c i a below inside | inr b ↦ two.bytes_are c i b below inside ];
    blocks = λ c x at below has. elim at [ inl a ↦ inl (one.blocks c x a below has) | inr b ↦ inr (two.blocks c x b below has) ];
    apart = λ c e x at also below below_also first second. apart_in c e x at also below below_also first second;
    has = λ x member. elim member [
      | inl m ↦ let found = one.has x m in record { slot = found.slot; at = inl found.at; below = found.below; has = found.has }
      | inr n ↦ let found = two.has x n in record { slot = found.slot; at = inr found.at; below = found.below; has = found.has }
    ];
    full = λ premise c at below. elim at [ inl a ↦ one.full premise c a below | inr b ↦ two.full premise c b below ];
  }
    where
      apart_in : (c e x : ℕ) → At c ⊎ Also c → At e ⊎ Also e → c * span level < size → e * span level < size → HasBlock image (child image block level c) (piece size level c) x →
          HasBlock image (child image block level e) (piece size level e) x → c ≡ e
      apart_in c e x (inl a) (inl b) below below_also first second = one.apart c e x a b below below_also first second
      apart_in c e x (inl a) (inr b) below below_also first second = absurd (disjoint x (one.blocks c x a below first) (two.blocks e x b below_also second))
      apart_in c e x (inr a) (inl b) below below_also first second = absurd (disjoint x (one.blocks e x b below_also second) (two.blocks c x a below first))
      apart_in c e x (inr a) (inr b) below below_also first second = two.apart c e x a b below below_also first second

-- ---- trees

-- a null is a tree of zeros in no blocks
pub built_null : (image : Image) (level size : ℕ) (bytes : ℕ → ℕ) (Full : Type 0) → 0 < block_count image → level ≤ max_height → size ≤ span level → ((i : ℕ) → i < size → bytes i ≡ 0) → (Full → ⊥) → IsBuilt image (0 + level) size bytes (Has []) Full
built_null image level size bytes Full some low fits zeros none =
    let height : height_of (0 + level) ≡ level = omega (arith, low) in
    let null : block_of (0 + level) ≡ 0 = omega (arith, low) in
    record {
      sound = record {
        low = λ h. rw height low;
        root_bits = λ h. omega (arith, low);
        pointer_bits = λ d k live. ap (λ w. w % 4096) (null_words image (0 + level) null d k);
        in_range = λ d k live. rw (null_tree image (0 + level) null d k) some;
        once = λ d k e l live also present same. absurd (present (null_tree image (0 + level) null d k));
        fits = rw height fits;
      };
      bytes_are = λ i small. ap (λ w. byte_of w (i % 8)) (null_words image (0 + level) null (height_of (0 + level)) (i / 8)) ∙ zero_byte (i % 8) ∙ sym (zeros i small);
      blocks = λ b has. absurd (has.not_null (sym has.named ∙ null_tree image (0 + level) null has.depth has.index));
      has = λ b member. absurd member;
      full = λ premise. absurd (none premise);
    }
  where
    zero_byte : (c : ℕ) → byte_of 0 c ≡ 0
    zero_byte c = omega arith

-- a leaf
pub built_leaf : (image : Image) (b size : ℕ) (bytes : ℕ → ℕ) (Full : Type 0) → b ≢ 0 → b < block_count image → 0 < size → size ≤ 4096 →
    ((i : ℕ) → i < size → byte_of (slot_word image b (i / 8)) (i % 8) ≡ bytes i) → IsBuilt image (4096 * b + 0) size bytes (λ x. x ≡ b) Full
built_leaf image b size bytes Full present low some fits laid =
    let flat : height_of (4096 * b + 0) ≡ 0 = omega arith in
    let named : block_of (4096 * b + 0) ≡ b = omega arith in
    record {
      sound = leaf_sound image (4096 * b + 0) size (omega arith) (rw named low) fits;
      bytes_are = λ i small.
          let column : i / 8 % 512 ≡ i / 8 = omega (arith, small, fits) in
          ap (λ w. byte_of w (i % 8)) (content_word-leaf image (4096 * b + 0) (i / 8) flat ∙ rw (named, column) refl) ∙ laid i small;
      blocks = λ x has. sym has.named ∙ node-zero image (4096 * b + 0) has.depth has.index (one_live (4096 * b + 0) size has.depth has.index flat fits has.pointer).0 ∙ named;
      has = λ x e. rw e (record { depth = 0; index = 0; pointer = record { level = 0; height = omega arith; live = omega (arith, some) }; named = node-zero image (4096 * b + 0) 0 0 refl ∙ named; not_null = present });
      full = λ premise. leaf_full image (4096 * b + 0) size (omega arith) (rw named present) fits;
    }

-- a node over its slots' trees
module _ {image : Image} {b level size : ℕ} {At : ℕ → Type 0} {bytes : ℕ → ℕ} {Member : ℕ → Type 0} {Full : Type 0}
    (children : Children image b level size At bytes Member Full) (present : b ≢ 0) (low_block : b < block_count image) (low : suc level ≤ max_height)
    (some : 0 < size) (fits : size ≤ span (suc level)) (own : Member b → ⊥) (all : (c : ℕ) → c * span level < size → At c) where
  root : ℕ
  root = 4096 * b + suc level

  named : block_of (4096 * b + suc level) ≡ b
  named = omega (arith, low)

  shape : HasChildren image (4096 * b + suc level) size level
  shape = record { height = omega (arith, low); low = omega (arith, low); fits = fits; words = λ c below. rw named (children.words c (all c below) below) }

  joins : Joins image (4096 * b + suc level) size level
  joins = record {
    bits = omega (arith, low);
    in_range = rw named low_block;
    sound = λ c below. rw named (children.sound c (all c below) below);
    own = λ c below has. own (children.blocks c b (all c below) below (rw named at has));
    apart = λ c e x below also one two. children.apart c e x (all c below) (all e also) below also (rw named at one) (rw named at two);
  }

  pub built_node : IsBuilt image (4096 * b + suc level) size bytes (λ x. (x ≡ b) ⊎ Member x) Full
  built_node = record {
    sound = joined_sound image (4096 * b + suc level) size level shape joins;
    bytes_are = λ i small.
        let whole : i / span level * span level + i % span level ≡ i = div-add-mod' i (span level) in
        let rest : i % span level < span level = mod-lt i (span-positive level) in
        let below : i / span level * span level < size = omega (arith, whole, small) in
        let inside : i % span level < piece size level (i / span level) = omega (arith, whole, small, rest) in
        ap (byte image (4096 * b + suc level)) (sym whole)
        ∙ joined_byte image (4096 * b + suc level) size level shape (i / span level) (i % span level) below inside
        ∙ ap (λ x. byte image (child image x level (i / span level)) (i % span level)) named
        ∙ children.bytes_are (i / span level) (i % span level) (all (i / span level) below) below inside
        ∙ ap bytes whole;
    blocks = λ x has. elim (joined_block image (4096 * b + suc level) size level shape x has) [
      | inl top ↦ inl (top ∙ named)
      | inr found ↦ inr (children.blocks found.slot x (all found.slot found.below) found.below (rw named at found.has))
    ];
    has = λ x member. elim member [
      | inl e ↦ subst (HasBlock image (4096 * b + suc level) size) (named ∙ sym e) (top_has image (4096 * b + suc level) size level shape some (rw named present))
      | inr inner ↦
          let found = children.has x inner in
          child_block image (4096 * b + suc level) size level shape found.slot x found.below (rw named found.has)
    ];
    full = λ premise. joined_full image (4096 * b + suc level) size level shape (rw named present) (λ c below. rw named (children.full premise c (all c below) below));
  }

-- The slots of a sound tree before one that is live, as slots of a larger tree: all that they can hold is below the size.
module _ (image : Image) (root size level slot to : ℕ) (sound : IsSound image root size) (height : height_of root ≡ suc level)
    (present : block_of root ≢ 0) (last : slot * span level < size) (fits : size ≤ to) where
  some : 0 < size
  some = let s : ℕ = span level in omega (arith, last)

  shape_of : HasChildren image root size level
  shape_of = sound_shape image root size level sound some height

  parts : Joins image root size level
  parts = splits image root size level shape_of sound some present

  ends : (c : ℕ) → c < slot → c * span level + span level ≤ slot * span level
  ends c low = let up : (c + 1) * span level ≤ slot * span level = mul-le-mul_right (span level) (omega (arith, low)) in step c (span level) (slot * span level) up
    where
      step : (c s x : ℕ) → (c + 1) * s ≤ x → c * s + s ≤ x
      step c s x h = grind (arith, h)

  old_below : (c : ℕ) → c < slot → c * span level < size
  old_below c low = let e = ends c low in omega (arith, e, last, span-positive level)

  pieces : (c : ℕ) → c < slot → piece size level c ≡ piece to level c
  pieces c low = let e = ends c low in omega (arith, e, last, fits)

  back : (c x : ℕ) → c < slot → HasBlock image (child image (block_of root) level c) (piece to level c) x → HasBlock image (child image (block_of root) level c) (piece size level c) x
  back c x low has = subst (λ z. HasBlock image (child image (block_of root) level c) z x) (sym (pieces c low)) has

  pub children_before : Children image (block_of root) level to (λ c. c < slot) (byte image root) (InSlot image (block_of root) level size (λ c. c < slot)) (IsFull image root size)
  children_before = record {
    words = λ c low below. shape_of.words c (old_below c low);
    sound = λ c low below. subst (IsSound image (child image (block_of root) level c)) (pieces c low) (parts.sound c (old_below c low));
    bytes_are = λ c i low below inside. sym (joined_byte image root size level shape_of c i (old_below c low) (subst (λ z. i < z) (sym (pieces c low)) inside));
    blocks = λ c x low below has. record { slot = c; at = low; below = old_below c low; has = back c x low has };
    apart = λ c e x low also below below_also one two. parts.apart c e x (old_below c low) (old_below e also) (back c x low one) (back e x also two);
    has = λ x member. record {
      slot = member.slot;
      at = member.at;
      below = lt_of_lt_of_le member.below fits;
      has = subst (λ z. HasBlock image (child image (block_of root) level member.slot) z x) (pieces member.slot member.at) member.has;
    };
    full = λ full c low below. subst (IsFull image (child image (block_of root) level c)) (pieces c low) (child_full image root size level shape_of full c (old_below c low));
  }
