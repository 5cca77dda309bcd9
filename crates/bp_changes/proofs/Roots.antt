-- Root words that read as the old one: a higher root, a null root of another height, any root at size 0.
use Rattle.std.proofs.Common.{◌≡◌, ◌≢◌, ◌⊎◌, ℕ, zero, suc, ◌*◌, ◌/◌, ◌%◌, ◌<◌, ◌≤◌, refl, sym, ◌∙◌, ap, subst, arith, inl, inr, le_trans, pow-suc}
use Rattle.bp_limits.specs.Limits.{greatest_height}
use Rattle.bp_limits.proofs.Versions.{height_most}
use Rattle.bp_layout.specs.Formatted.{version_of}
use Rattle.bp_layout.specs.Words.{Image, block_count, block_of, height_of, slot_word, byte_of}
use Rattle.bp_layout.specs.Tree.{tree_word, node, covered, IsLivePointer, HasBlock, IsSound, IsFull}
use Rattle.bp_layout.specs.Reached.{IsLiveBlock}
use Rattle.bp_layout.proofs.TreeLaws.{tree_word-suc, tree_word-zero, live_pointer_word, live_above}
use Rattle.bp_changes.proofs.Raising.{Raises, node-raised, content-raised, live_lowered}
use Rattle.bp_layout.proofs.TreeLaws.{first_index}
use Rattle.bp_changes.specs.SameContent.{ReadsAs}

pub reads_self : (ByWords : Type 0) (image : Image) (size root : ℕ) → IsSound image root size → (0 < size → height_of root ≤ greatest_height (version_of image)) → ReadsAs ByWords image size root root
reads_self ByWords image size root sound low = record { sound = sound; low = low; content = record { words = λ exact k below. refl; bytes = λ o below. refl }; blocks = λ b has. inl has; full = λ full. full }

pub reads_on : (ByWords : Type 0) (image : Image) (size first second third : ℕ) → ReadsAs ByWords image size first second → ReadsAs ByWords image size second third → ReadsAs ByWords image size first third
reads_on ByWords image size first second third one two = record {
  sound = two.sound;
  low = two.low;
  content = record { words = λ exact k below. two.content.words exact k below ∙ one.content.words exact k below; bytes = λ o below. two.content.bytes o below ∙ one.content.bytes o below };
  blocks = λ b has. elim (two.blocks b has) [ inl before ↦ one.blocks b before | inr free ↦ inr free ];
  full = λ full. two.full (one.full full);
}

-- a block whose first slot holds the old root's block
pub record CanRaise (image : Image) (size root other : ℕ) : Type 0 where
  pub sound : IsSound image root size
  pub taller : height_of other ≡ suc (height_of root)
  pub low : suc (height_of root) ≤ greatest_height (version_of image)
  pub bits : other / 8 % 512 ≡ 0
  pub in_range : block_of other < block_count image
  pub not_null : block_of other ≢ 0
  pub free : IsLiveBlock image (block_of other) → ⊥
  pub fresh : HasBlock image root size (block_of other) → ⊥
  pub slot : slot_word image (block_of other) 0 ≡ 4096 * block_of root

module _ (ByWords : Type 0) (image : Image) (size root other : ℕ) (can : CanRaise image size root other) where
  raises : Raises image image root other size
  raises = record { taller = can.taller; slot = can.slot; keeps = record { kept = λ d k live. refl }; fits = can.sound.fits }

  top_block : (k : ℕ) → node image other 0 k ≡ block_of other
  top_block k = ap block_of (tree_word-zero image other k)

  wide : size ≤ covered (suc (height_of other))
  wide =
      let c : ℕ = covered (suc (height_of root)) in
      let more : covered (suc (suc (height_of root))) ≡ 512 * c = rw pow-suc (omega arith) in
      subst (λ h. size ≤ covered (suc h)) (sym can.taller) (omega (arith, more, can.sound.fits))

  pointer_bits : (d k : ℕ) → IsLivePointer other size (suc d) k → tree_word image other (suc d) k % 4096 ≡ 0
  pointer_bits zero k live =
      let first : k ≡ 0 = first_index root size k can.sound.fits (live_lowered image image root other size raises 0 k live) in
      let column : k % 512 ≡ 0 = omega (arith, first) in
      let word : tree_word image other 1 k ≡ 4096 * block_of root =
      tree_word-suc image other 0 k ∙ ap (λ b. slot_word image b (k % 512)) (top_block (k / 512)) ∙ ap (slot_word image (block_of other)) column ∙ can.slot in
      omega (arith, word)
  pointer_bits (suc d) k live =
      let low : IsLivePointer root size (suc d) k = live_lowered image image root other size raises (suc d) k live in
      let up : node image other (suc d) (k / 512) ≡ node image root d (k / 512) =
      node-raised image image root other size raises d (k / 512) (live_above root size d k (live_pointer_word root size (suc d) k low)) in
      let word : tree_word image other (suc (suc d)) k ≡ tree_word image root (suc d) k =
      tree_word-suc image other (suc d) k ∙ ap (λ b. slot_word image b (k % 512)) up ∙ sym (tree_word-suc image root d k) in
      rw word (can.sound.pointer_bits d k low)

  in_range : (d k : ℕ) → IsLivePointer other size d k → node image other d k < block_count image
  in_range zero k live = rw (top_block k) can.in_range
  in_range (suc d) k live =
      let low : IsLivePointer root size d k = live_lowered image image root other size raises d k live in
      rw (node-raised image image root other size raises d k low) (can.sound.in_range d k low)

  not_top : (d k : ℕ) → IsLivePointer other size (suc d) k → block_of other ≡ node image other (suc d) k → ⊥
  not_top d k live same =
      let low : IsLivePointer root size d k = live_lowered image image root other size raises d k live in
      can.fresh (record { depth = d; index = k; pointer = low; named = sym (same ∙ node-raised image image root other size raises d k low); not_null = can.not_null })

  once : (d k e l : ℕ) → IsLivePointer other size d k → IsLivePointer other size e l → node image other d k ≢ 0 → node image other d k ≡ node image other e l → (d ≡ e) × (k ≡ l)
  once zero k zero l live also present same = (refl, first_index other size k wide live ∙ sym (first_index other size l wide also))
  once zero k (suc e) l live also present same = absurd (not_top e l also (sym (top_block k) ∙ same))
  once (suc d) k zero l live also present same = absurd (not_top d k live (sym (top_block l) ∙ sym same))
  once (suc d) k (suc e) l live also present same =
      let low : IsLivePointer root size d k = live_lowered image image root other size raises d k live in
      let lower : IsLivePointer root size e l = live_lowered image image root other size raises e l also in
      let one = node-raised image image root other size raises d k low in
      let two = node-raised image image root other size raises e l lower in
      let both = can.sound.once d k e l low lower (λ null. present (one ∙ null)) (sym one ∙ same ∙ two) in
      (ap suc both.0, both.1)

  blocks_at : (b d k : ℕ) → IsLivePointer other size d k → node image other d k ≡ b → b ≢ 0 → HasBlock image root size b ⊎ (IsLiveBlock image b → ⊥)
  blocks_at b zero k live named present = inr (subst (λ x. IsLiveBlock image x → ⊥) (sym (top_block k) ∙ named) can.free)
  blocks_at b (suc d) k live named present =
      let low : IsLivePointer root size d k = live_lowered image image root other size raises d k live in
      inl (record { depth = d; index = k; pointer = low; named = sym (node-raised image image root other size raises d k low) ∙ named; not_null = present })

  full : IsFull image root size → (d k : ℕ) → IsLivePointer other size d k → node image other d k ≢ 0
  full whole zero k live null = can.not_null (sym (top_block k) ∙ null)
  full whole (suc d) k live null =
      let low : IsLivePointer root size d k = live_lowered image image root other size raises d k live in
      whole d k low (sym (node-raised image image root other size raises d k low) ∙ null)

  pub raised_block : (b : ℕ) → HasBlock image other size b → (b ≡ block_of other) ⊎ HasBlock image root size b
  raised_block b has = go has.depth has.index has.pointer has.named
    where
      go : (d k : ℕ) → IsLivePointer other size d k → node image other d k ≡ b → (b ≡ block_of other) ⊎ HasBlock image root size b
      go zero k live named = inl (sym named ∙ top_block k)
      go (suc d) k live named =
          let low : IsLivePointer root size d k = live_lowered image image root other size raises d k live in
          inr (record { depth = d; index = k; pointer = low; named = sym (node-raised image image root other size raises d k low) ∙ named; not_null = has.not_null })

  pub raised_reads : ReadsAs ByWords image size root other
  raised_reads = record {
    sound = record {
      low = λ some. le_trans (omega (arith, can.taller, can.low)) (height_most (version_of image));
      root_bits = λ some. can.bits;
      pointer_bits = pointer_bits;
      in_range = in_range;
      once = once;
      fits = wide;
    };
    low = λ some. omega (arith, can.taller, can.low);
    content = record {
      words = λ exact k below. content-raised image image root other size raises k (omega (arith, below));
      bytes = λ o below. ap (λ w. byte_of w (o % 8)) (content-raised image image root other size raises (o / 8) (omega (arith, below)));
    };
    blocks = λ b has. blocks_at b has.depth has.index has.pointer has.named has.not_null;
    full = full;
  }

-- under a null root all is null
pub null_tree : (image : Image) (root : ℕ) → block_of root ≡ 0 → (d k : ℕ) → node image root d k ≡ 0
null_tree image root null zero k = ap block_of (tree_word-zero image root k) ∙ null
null_tree image root null (suc d) k = ap block_of (null_word image root d k (null_tree image root null d (k / 512)))
  where
    null_word : (image : Image) (root d k : ℕ) → node image root d (k / 512) ≡ 0 → tree_word image root (suc d) k ≡ 0
    null_word image root d k up = tree_word-suc image root d k ∙ ap (λ b. slot_word image b (k % 512)) up

pub null_words : (image : Image) (root : ℕ) → block_of root ≡ 0 → (d k : ℕ) → tree_word image root (suc d) k ≡ 0
null_words image root null d k = tree_word-suc image root d k ∙ ap (λ b. slot_word image b (k % 512)) (null_tree image root null d (k / 512))
